-- "Clear" is clear (heading "`clampcheck`"): what a line of the text of some bytes says of the exact curve of the job that they are.
use Rattle.std.specs.Prelude.{true, cond, List, [], ◌∷◌, ◌≡◌, ℕ, suc, ◌-◌, ◌<◌, eqb, length, get_or}
use Rattle.refusal.specs.Numbers.{accepted}
use Rattle.curve.specs.Lists.{Lists}
use Rattle.span.specs.Span.{in_domain}
use Rattle.boxes.specs.Widening.{widened}
use Rattle.boxes.specs.declared.Rectangle.{Rectangle}
use Rattle.span_walk.specs.SpansMet.{spans_met}
use Rattle.span_walk.specs.SpanLists.{knots_met}
use Rattle.spans_met_exact.specs.Crossing.{Reached}
use Rattle.digits.specs.Letters.{newline}
use Rattle.lines.specs.Lines.{clear_line, meet_lines}
use Rattle.format.specs.Format.{form1}
use Rattle.clamps.specs.Clamp.{no_clamp}
use Rattle.job.specs.JobFormat.{IsJob}
use Rattle.job_text.specs.Text.{rectangle_of, text_number, PartOf, TextOf}

-- a letter in front of the first line
unfoldable pub in_front : ℕ → List (List ℕ) → List (List ℕ)
in_front letter [] = (letter ∷ []) ∷ []
in_front letter (line ∷ rest) = (letter ∷ line) ∷ rest

-- the lines of a text, each with its newline
unfoldable pub lines_of : List ℕ → List (List ℕ)
lines_of [] = []
lines_of (letter ∷ text) = cond (eqb letter newline) ((newline ∷ []) ∷ lines_of text) (in_front letter (lines_of text))

-- a line is one of some
pub data Among (line : List ℕ) : List (List ℕ) → Type 0 where
  first : (rest : List (List ℕ)) → Among line (line ∷ rest)
  later : (other : List ℕ) (rest : List (List ℕ)) → Among line rest → Among line (other ∷ rest)

-- a text has a line
abbrev pub HasLine : List ℕ → List ℕ → Type 0
HasLine text line = Among line (lines_of text)

-- at no fraction p/q of the domain, both ends included, does the cutter reach the clamp: every point of it, its sides included, is further than the radius
-- from the exact point
abbrev pub Avoids : ℕ → Lists → ℕ → Rectangle → Type 0
Avoids m c radius clamp =
    (p q : ℕ) → 0 < q → in_domain c.knots m (length c.xs - 1) p q ≡ true → Reached clamp radius m c.knots c.xs c.ys p q → ⊥

-- clamp k of a job, counted from 0
abbrev pub clamp_of : {bytes : List ℕ} → IsJob form1 bytes → ℕ → Rectangle
clamp_of w k = rectangle_of (get_or w.cs k no_clamp)

-- where the text of a job has the line "clamp K clear", with K counted from 1, the job has a clamp K, and its cutter on its exact curve avoids it
abbrev pub ClearIsClear : Type 0
ClearIsClear =
    (bytes text : List ℕ) (w : IsJob form1 bytes) (k : ℕ) → TextOf bytes text → HasLine text (clear_line (suc k))
    → (k < length w.cs) × Avoids w.m w.c w.radius (clamp_of w k)

-- a part lists the spans on which the cutter may meet a clamp: at least one, and a line "clamp K may meet LOW..HIGH" for each, in rising order
pub record ListsSpans (m : ℕ) (c : Lists) (radius number : ℕ) (clamp : Rectangle) (part : List ℕ) : Type 0 where
  pub some : 0 < length (spans_met (widened radius clamp) m c.knots c.xs c.ys)
  pub lines : part ≡ meet_lines number (knots_met (widened radius clamp) m c.knots c.xs c.ys).lows (knots_met (widened radius clamp) m c.knots c.xs c.ys).highs

-- what a part tells of a clamp: it is clear, and no span may meet it; or the spans that may
pub data Tells (m : ℕ) (c : Lists) (radius number : ℕ) (clamp : Rectangle) (part : List ℕ) : Type 0 where
  clear : spans_met (widened radius clamp) m c.knots c.xs c.ys ≡ [] → part ≡ clear_line number → Tells m c radius number clamp part
  met : ListsSpans m c radius number clamp part → Tells m c radius number clamp part

-- each clamp of a job that is not refused is told of, in the part of its number
abbrev pub EveryClampTold : Type 0
EveryClampTold =
    (bytes : List ℕ) (w : IsJob form1 bytes) (k : ℕ) (part : List ℕ) → text_number w.m w.c w.radius w.cs ≡ accepted → k < length w.cs
    → PartOf bytes (suc k) part → Tells w.m w.c w.radius (suc k) (clamp_of w k) part

-- and where the text has no line "clamp K clear", that part lists the spans that may meet the clamp
abbrev pub ElseListed : Type 0
ElseListed =
    (bytes text : List ℕ) (w : IsJob form1 bytes) (k : ℕ) (part : List ℕ) → text_number w.m w.c w.radius w.cs ≡ accepted → k < length w.cs
    → TextOf bytes text → PartOf bytes (suc k) part → (HasLine text (clear_line (suc k)) → ⊥)
    → ListsSpans w.m w.c w.radius (suc k) (clamp_of w k) part
