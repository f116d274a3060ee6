-- Where a part is put and where nothing is, by the room of the lists that were read into.
use mathlib.Core.Bool.{Bool, true, false, cond}
use mathlib.Core.List.{List, []}
use mathlib.Core.Path.{◌≡◌, refl, ◌∙◌}
use Prim.Native.Nat.{ℕ, zero, suc, ◌+◌, ◌-◌, ◌≤◌, ◌<◌}
use borrow.Author.Tests.{le-leb, lt-leb, ne_eqb}
use native.Mathlib.Omega.{arith}
use lib.Dec.{eqb}
use lib.IntN.{ℤ}
use lib.ListN.{length, take}
use Rattle.refusal.specs.Numbers.{accepted}
use Rattle.curve.specs.Lists.{Lists}
use Rattle.curve.specs.HandingOver.{enough}
use Rattle.curve.proofs.RoomLaws.{enough-each}
use Rattle.grid.specs.Check.{check_number}
use Rattle.grid.specs.Limits.{job_most}
use Rattle.lines.specs.Lines.{refused_line, broken_line}
use Rattle.clamp_lines.specs.ClampPart.{clamp_part, standing}
use Rattle.clamp_lines.proofs.ClampPartLaws.{no-clamp}
use Rattle.report.specs.Part.{refused_part, broken_part, curve_part, curve_read, job_part}

-- a refusal's line is part 0, and there is no other
pub refused-first : (number k : ℕ) → k ≡ 0 → refused_part number k ≡ refused_line number
unfolding refused_part
refused-first number k e = rw e

pub refused-later : (number k : ℕ) → (k ≡ 0 → ⊥) → refused_part number k ≡ []
unfolding refused_part
refused-later number zero h = absurd (h refl)
refused-later number (suc k) h = refl

-- and so is the line on bytes that are no job, whose place lies within the longest job
pub broken-first : (number place k : ℕ) → k ≡ 0 → place ≤ job_most → broken_part number place k ≡ broken_line number place
unfolding broken_part
broken-first number place k e h = rw (e, le-leb place job_most h)

pub broken-later : (number place k : ℕ) → (k ≡ 0 → ⊥) → broken_part number place k ≡ []
unfolding broken_part
broken-later number place zero h = absurd (h refl)
broken-later number place (suc k) h = refl

pub broken-beyond : (number place k : ℕ) → k ≡ 0 → job_most < place → broken_part number place k ≡ []
unfolding broken_part
broken-beyond number place k e h = rw (e, lt-leb place job_most h)

-- any part but the first is that of a clamp
pub part-of-clamp : (m : ℕ) (c : Lists) (radius count : ℕ) (sides : List ℤ) (k : ℕ) → 0 < k → curve_part m c radius count sides k ≡ clamp_part m c radius count sides (k - 1)
unfolding curve_part
part-of-clamp m c radius count sides zero h = absurd (omega arith)
part-of-clamp m c radius count sides (suc k) h =
    let before : suc k - 1 ≡ k = omega arith in
    rw before

-- of an empty part nothing is told, with room for the curve or without, whether it passes the check or not
nothing-told : (fits passes : Bool) (part : List ℕ) → part ≡ [] → cond fits (cond passes part []) [] ≡ []
nothing-told false passes part e = refl
nothing-told true false part e = refl
nothing-told true true part e = e

module _ (m points radius count : ℕ) (now : Lists) (sides : List ℤ) (k : ℕ) where
  abbrev pub fits : Bool
  fits = enough (points + m + 1) points points (length now.knots) (length now.xs) (length now.ys)

  -- a list is shorter than what was read into it
  pub no_room : fits ≡ false → job_part m points radius count now sides k ≡ []
  unfolding job_part
  no_room e = rw e

  pub short-of-points : length now.xs < points → job_part m points radius count now sides k ≡ []
  short-of-points h = no_room (by fits refl)
    where
      by : (t : Bool) → fits ≡ t → fits ≡ false
      by true e = absurd (omega (arith, (enough-each (points + m + 1) points points (length now.knots) (length now.xs) (length now.ys) e).1))
      by false e = e

  -- a clamp that does not stand, of any curve
  pub past-clamps : 0 < k → standing count sides (k - 1) ≡ false → job_part m points radius count now sides k ≡ []
  unfolding job_part
  past-clamps h e =
      let c = curve_read m points now in
      nothing-told fits (eqb (check_number m c.knots c.xs c.ys) accepted) (curve_part m c radius count sides k)
      (part-of-clamp m c radius count sides k h ∙ no-clamp m c radius count sides (k - 1) e)

  -- there is room, and the curve passes the check or does not
  pub room-checked : fits ≡ true → check_number m (take (points + m + 1) now.knots) (take points now.xs) (take points now.ys) ≡ 0
      → job_part m points radius count now sides k ≡ curve_part m (curve_read m points now) radius count sides k
  unfolding job_part
  room-checked e h = rw (e, h)

  pub room-refused : (number : ℕ) → fits ≡ true → number ≡ check_number m (take (points + m + 1) now.knots) (take points now.xs) (take points now.ys) → 0 < number
      → job_part m points radius count now sides k ≡ []
  unfolding job_part
  room-refused number e h above = rw (e, ← h, ne_eqb number 0 (λ z. omega arith))
