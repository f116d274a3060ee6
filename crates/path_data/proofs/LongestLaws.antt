-- The longest text: no text of a curve on the grid is longer, and one is as long.
use mathlib.Core.List.{[]}
use mathlib.Core.Path.{◌≡◌, refl, ◌∙◌, ap}
use Prim.Native.Nat.{ℕ, zero, suc, ◌+◌, ◌-◌, ◌*◌, ◌≤◌}
use native.Mathlib.Nat.{mul-add, mul_left_comm, mul-le-mul_left}
use native.Mathlib.Omega.{arith}
use lib.IntN.{ℤ, negsuc}
use lib.ListN.{length, length-append}
use Rattle.grid.specs.Limits.{coordinate_most, number_bytes_most, pair_bytes_most}
use Rattle.grid.specs.Rows.{on_grid}
use Rattle.checked.specs.Checked.{OnGrid}
use Rattle.checked.proofs.GridLaws.{on_grid-facts}
use Rattle.digits.specs.Decimal.{digits_of, decimal}
use Rattle.insertion.specs.Insertion.{point_at, entries}
use Rattle.cutting.specs.declared.Piece.{Piece}
use Rattle.path_data.specs.Text.{number_text, pair_text, pairs_text, segment_text, move_text, path_text, part_text}
use Rattle.path_data.specs.Sentences.{TextWithinMost}
use Rattle.path_data.proofs.LengthLaws.{pair_text-length, path_text-most}
use Rattle.path_data.proofs.TextLaws.{part_text-first, part_text-later, entries-text}

-- a piece of degree m has m points of its own, and one letter for all of them: with m = 1 the letters are the most
pub text-within-most : TextWithinMost
text-within-most m ps c =
    let count = length ps in
    let spread : count * (2 + pair_bytes_most * m) ≡ count * 2 + pair_bytes_most * (count * m) = mul-add count 2 (pair_bytes_most * m) ∙ ap (λ (n : ℕ). count * 2 + n) (mul_left_comm count pair_bytes_most m) in
    omega (arith, path_text-most m c.grid, spread, mul-le-mul_left count c.degree, c.points)

-- the low end of the grid, where numbers are longest
abbrev pub lowest : ℤ
lowest = negsuc (coordinate_most - 1)

pub lowest-on-grid : OnGrid lowest
unfolding on_grid
lowest-on-grid = on_grid-facts lowest refl

-- "-262144", " -262144 -262144"
farthest-number : length (number_text lowest) ≡ number_bytes_most
unfolding decimal digits_of
farthest-number = refl

farthest-pair : length (pair_text lowest lowest) ≡ pair_bytes_most
farthest-pair = omega (arith, pair_text-length lowest lowest, farthest-number)

-- a piece of degree 1 whose points stand there
pub record Farthest (p : Piece) : Type 0 where
  pub on_x : (a : ℕ) → a ≤ 1 → point_at p.xs a ≡ lowest
  pub on_y : (a : ℕ) → a ≤ 1 → point_at p.ys a ≡ lowest

module _ (p : Piece) (far : Farthest p) where
  point-length : (a : ℕ) → a ≤ 1 → length (pair_text (point_at p.xs a) (point_at p.ys a)) ≡ pair_bytes_most
  point-length a h = rw (far.on_x a h, far.on_y a h) farthest-pair

  farthest-move : length (move_text p) ≡ 1 + pair_bytes_most
  unfolding move_text
  farthest-move = omega (arith, point-length 0 (omega arith))

  farthest-segment : length (segment_text 1 p) ≡ 2 + pair_bytes_most
  unfolding segment_text pairs_text
  farthest-segment = omega (arith, length-append (pair_text (point_at p.xs 1) (point_at p.ys 1)) [], point-length 1 (omega arith))

-- some of them: told over their number, so that no list of a thousand pieces is ever written out
module _ (f : ℕ → Piece) where
  -- what the last of them adds
  added : (n : ℕ) → length (path_text 1 (entries f (suc n))) ≡ length (path_text 1 (entries f n)) + length (part_text 1 n (f n))
  added n = ap length (entries-text 1 f n) ∙ length-append (path_text 1 (entries f n)) (part_text 1 n (f n))

  pub farthest-path : (n : ℕ) → ((k : ℕ) → k ≤ n → Farthest (f k)) → length (path_text 1 (entries f (suc n))) ≡ (1 + pair_bytes_most) + suc n * (2 + pair_bytes_most)
  unfolding path_text entries
  farthest-path zero far =
      omega (
        arith,
        added 0,
        ap length (part_text-first 1 (f 0)),
        length-append (move_text (f 0)) (segment_text 1 (f 0)),
        farthest-move (f 0) (far 0 (omega arith)),
        farthest-segment (f 0) (far 0 (omega arith)),
      )
  farthest-path (suc n) far =
      omega (
        arith,
        added (suc n),
        farthest-path n (λ k h. far k (omega arith)),
        ap length (part_text-later 1 (suc n) (f (suc n)) (omega arith)),
        farthest-segment (f (suc n)) (far (suc n) (omega arith)),
      )
