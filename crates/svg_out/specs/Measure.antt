-- What measuring and writing the path data over a curve's own pieces answer, for the inner functions: they get a curve with clamped ends.
use Rattle.std.specs.Prelude.{List, Result, Ok, Err, ◌≡◌, ℕ, ◌+◌, ◌*◌}
use lib.ListN.{length}
use Rattle.curve.specs.Lists.{Lists}
use Rattle.cutting.specs.Cutting.{cuts, insertable_each_then, cut_then}
use Rattle.grid.specs.Limits.{points_most, knots_most, pair_bytes_most}
use Rattle.svg_out.specs.Svg.{pieces_text, fitting, TextOutcome}
use Rattle.refusal.specs.declared.Refusal.{Refusal}
use Rattle.pieces.specs.Walk.{Refuses}

abbrev pub part_most : ℕ  -- what one piece adds at most: a move, a letter and three points
part_most = (1 + pair_bytes_most) + (2 + pair_bytes_most * 3)

-- no insertion is refused, and the length is the text's
pub record Measured (m : ℕ) (c : Lists) (n : ℕ) : Type 0 where
  pub passed : (next : ℕ) → insertable_each_then m (cuts m c) c next ≡ next
  pub length : n ≡ lib.ListN.length (pieces_text m c)

-- this, or the refusal of the first insertion that fails
abbrev pub Measures : ℕ → Lists → Result ℕ Refusal → Type 0
Measures m c (Ok n) = Measured m c n
Measures m c (Err refusal) = Refuses m c refusal

abbrev pub pieces_number : ℕ → Lists → List ℕ → ℕ  -- 1 to 7, then 10 or 11 from the first insertion that fails, then 15
pieces_number m c out = cut_then m c (fitting (pieces_text m c) out)

abbrev pub PiecesOutcome : ℕ → Lists → List ℕ → Result ℕ Refusal → List ℕ → Type 0
PiecesOutcome m c before answer now = TextOutcome (pieces_number m c before) (pieces_text m c) before answer now

abbrev pub Longest : Lists → Type 0  -- work lists with places for the longest curve
Longest l = (length l.knots ≡ knots_most) × (length l.xs ≡ points_most) × (length l.ys ≡ points_most)
