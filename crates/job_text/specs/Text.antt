-- The text that the program prints on some bytes (heading "`clampcheck`"), by what the bytes are and with no word of a reader. It is told in
-- parts: part 0 is the line on the curve or on the refusal, part k from 1 on all lines on clamp k; past the last clamp a part is empty.
use Rattle.std.specs.Prelude.{cond, List, [], ◌++◌, ◌≡◌, ℕ, zero, suc, ◌+◌, eqb, ltb, length, get_or}
use Rattle.refusal.specs.Judging.{unless}
use Rattle.refusal.specs.Numbers.{accepted, radius_refused, rectangle_refused}
use Rattle.curve.specs.Lists.{Lists}
use Rattle.grid.specs.Limits.{clamps_most}
use Rattle.grid.specs.Check.{checked_then}
use Rattle.grid.specs.Rows.{radius_ok}
use Rattle.boxes.specs.declared.Rectangle.{Rectangle}
use Rattle.format.specs.Format.{form1}
use Rattle.fault.specs.Fault.{Fault}
use Rattle.clamps.specs.Clamp.{Clamp, no_clamp, clamps_ok}
use Rattle.job.specs.JobFormat.{IsJob, jobs}
use Rattle.clamp_lines.specs.ClampPart.{clamp_lines}
use Rattle.report.specs.Part.{curve_text, refused_part, broken_part}

-- a job's clamp as the rectangle that the list call takes
abbrev pub rectangle_of : Clamp → Rectangle
rectangle_of clamp = record { low_x = clamp.low_x; high_x = clamp.high_x; low_y = clamp.low_y; high_y = clamp.high_y }

-- part k of an accepted job: the line on its curve, then for each clamp, numbered from 1, a line for each span on which the cutter may meet it
-- or one that it is clear
unfoldable pub accepted_part : ℕ → Lists → ℕ → List Clamp → ℕ → List ℕ
accepted_part m c radius cs zero = curve_text m c
accepted_part m c radius cs (suc k) = cond (ltb k (length cs)) (clamp_lines m c radius (suc k) (rectangle_of (get_or cs k no_clamp))) []

-- the number of refusal: 1 to 7 for the curve, then 22 for the radius, then 14 for any clamp
unfoldable pub text_number : ℕ → Lists → ℕ → List Clamp → ℕ
text_number m c radius cs =
    checked_then m c.knots c.xs c.ys (unless (radius_ok radius) radius_refused (unless (clamps_ok cs) rectangle_refused accepted))

-- part k of a job: that of its curve, radius and clamps, or of its refusal
unfoldable pub part_of : ℕ → Lists → ℕ → List Clamp → ℕ → List ℕ
part_of m c radius cs k = cond (eqb (text_number m c radius cs) accepted) (accepted_part m c radius cs k) (refused_part (text_number m c radius cs) k)

-- part k of the text of some bytes: that of the job that they are, or of their leftmost fault where they are nobody's
pub data PartOf (bytes : List ℕ) (k : ℕ) (part : List ℕ) : Type 0 where
  is_job : (w : IsJob form1 bytes) → part ≡ part_of w.m w.c w.radius w.cs k → PartOf bytes k part
  is_broken : {number place : ℕ} → Fault jobs bytes number place → part ≡ broken_part number place k → PartOf bytes k part

-- the first n parts, in their order
unfoldable pub joined : (ℕ → List ℕ) → ℕ → List ℕ
joined part zero = []
joined part (suc n) = joined part n ++ part n

-- the whole text: parts 0 to 64
pub record TextOf (bytes text : List ℕ) : Type 0 where
  pub part : ℕ → List ℕ
  pub each : (k : ℕ) → PartOf bytes k (part k)
  pub whole : text ≡ joined part (clamps_most + 1)
