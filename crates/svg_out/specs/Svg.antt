-- What writing a curve as path data answers and leaves in the lent list (headings "Out to SVG" and "Numbers of refusal"). A copy of the curve is clamped first,
-- and the pieces are the copy's.
use Rattle.std.specs.Prelude.{List, Result, ◌≡◌, ℕ, leb, length}
use Rattle.refusal.specs.Answers.{Answers}
use Rattle.refusal.specs.Judging.{unless}
use Rattle.refusal.specs.Numbers.{accepted, room_refused}
use Rattle.refusal.specs.declared.Refusal.{Refusal}
use Rattle.lent.specs.Lent.{after}
use Rattle.curve.specs.Lists.{Lists}
use Rattle.clamping.specs.Clamping.{clamped, clamp_then}
use Rattle.cutting.specs.Cutting.{cut_then}
use Rattle.cutting.specs.Pieces.{pieces}
use Rattle.path_data.specs.Text.{path_text}

abbrev pub pieces_text : ℕ → Lists → List ℕ  -- the path data over a curve's own pieces
pieces_text m c = path_text m (pieces m c)

abbrev pub svg_text : ℕ → Lists → List ℕ  -- the path data of a curve, over the pieces of the clamped copy
svg_text m c = pieces_text m (clamped m c)

-- 1 to 7 for the curve, then 11 where a point of the clamped polygon is not whole, then 10 or 11 from the first insertion into the clamped copy that fails, then
-- `next`; the copy passes the check, so that 1 to 7 come from the curve alone
unfoldable pub draw_then : ℕ → Lists → ℕ → ℕ
draw_then m c next = clamp_then m c (cut_then m (clamped m c) next)

abbrev pub draw_number : ℕ → Lists → ℕ  -- the number of clamping and cutting alone
draw_number m c = draw_then m c accepted

abbrev pub fitting : List ℕ → List ℕ → ℕ  -- 15 where the lent list is shorter than the text
fitting text out = unless (leb (length text) (length out)) room_refused accepted

-- the number of the call: these, then 15; 0 where nothing is refused
unfoldable pub svg_number : ℕ → Lists → List ℕ → ℕ
svg_number m c out = draw_then m c (fitting (svg_text m c) out)

-- what a call answers and leaves by its number and its text: how many bytes were written, and the text at the front of the lent list; or the number alone
pub record TextOutcome (number : ℕ) (text before : List ℕ) (answer : Result ℕ Refusal) (now : List ℕ) : Type 0 where
  pub answers : Answers number (length text) answer
  pub hands : now ≡ after number text before

abbrev pub SvgOutcome : ℕ → Lists → List ℕ → Result ℕ Refusal → List ℕ → Type 0  -- for any curve
SvgOutcome m c before answer now = TextOutcome (svg_number m c before) (svg_text m c) before answer now
