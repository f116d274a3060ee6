-- How long the text of path data is: its parts by the length of its numbers, which are at most seven bytes on the grid.
use mathlib.Core.List.{List, [], ◌∷◌, ◌++◌}
use mathlib.Core.Path.{◌≡◌}
use Prim.Native.Nat.{ℕ, zero, suc, ◌+◌, ◌*◌, ◌^◌, ◌≤◌, ◌<◌}
use native.Mathlib.Nat.{mul-suc, suc-mul}
use native.Mathlib.Omega.{arith}
use lib.IntN.{ℤ, pos, negsuc, nat_abs}
use lib.ListN.{length, length-append}
use Rattle.checked.specs.Checked.{OnGrid}
use Rattle.checked.proofs.GridLaws.{on_grid-size}
use Rattle.digits.proofs.DecimalLaws.{decimal-short}
use Rattle.insertion.specs.Insertion.{point_at, entries}
use Rattle.cutting.specs.declared.Piece.{Piece}
use Rattle.grid.specs.Limits.{number_bytes_most, pair_bytes_most}
use Rattle.path_data.specs.Text.{number_text, spaced_text, pair_text, pairs_text, segment_text, segments_text, move_text, path_text}
use Rattle.path_data.specs.Sentences.{PieceOnGrid, EachOnGrid, none, more}

-- a number, by the digits of its size
pub number_text-short : (most : ℕ) (z : ℤ) → nat_abs z < 10 ^ suc most → length (number_text z) ≤ suc (suc most)
number_text-short most (pos n) h = omega (arith, decimal-short most n h)
number_text-short most (negsuc n) h = omega (arith, decimal-short most (suc n) h)

-- on the grid
pub number_text-most : (z : ℤ) → OnGrid z → length (number_text z) ≤ number_bytes_most
number_text-most z g = number_text-short 5 z (omega (arith, on_grid-size z g))

-- a pair
pub pair_text-length : (x y : ℤ) → length (pair_text x y) ≡ length (number_text x) + length (number_text y) + 2
pair_text-length x y = omega (arith, length-append (spaced_text x) (spaced_text y))

-- some pairs, each of them at most `most` long
pairs_text-short : (most : ℕ) (xs ys : List ℤ) (a count : ℕ) → ((k : ℕ) → k < a + count → length (pair_text (point_at xs k) (point_at ys k)) ≤ most) → length (pairs_text xs ys a count) ≤ most * count
unfolding pairs_text
pairs_text-short most xs ys a zero h = omega arith
pairs_text-short most xs ys a (suc count) h =
    omega (
      arith,
      mul-suc most count,
      length-append (pair_text (point_at xs a) (point_at ys a)) (pairs_text xs ys (suc a) count),
      h a (omega arith),
      pairs_text-short most xs ys (suc a) count (λ k i. h k (omega arith)),
    )

module _ (m : ℕ) (p : Piece) (g : PieceOnGrid m p) where
  pair-most : (k : ℕ) → k ≤ m → length (pair_text (point_at p.xs k) (point_at p.ys k)) ≤ pair_bytes_most
  pair-most k h =
      omega (arith, pair_text-length (point_at p.xs k) (point_at p.ys k), number_text-most (point_at p.xs k) (g k h).0, number_text-most (point_at p.ys k) (g k h).1)

  pub move_text-most : length (move_text p) ≤ 1 + pair_bytes_most
  unfolding move_text
  move_text-most = omega (arith, pair-most 0 (omega arith))

  pub segment_text-most : length (segment_text m p) ≤ 2 + pair_bytes_most * m
  unfolding segment_text
  segment_text-most = omega (arith, pairs_text-short pair_bytes_most p.xs p.ys 1 m (λ k h. pair-most k (omega arith)))

module _ (m : ℕ) where
  pub segments_text-most : {ps : List Piece} → EachOnGrid m ps → length (segments_text m ps) ≤ length ps * (2 + pair_bytes_most * m)
  unfolding segments_text
  segments_text-most none = omega arith
  segments_text-most (more p ps g gs) =
      omega (
        arith,
        suc-mul (length ps) (2 + pair_bytes_most * m),
        length-append (segment_text m p) (segments_text m ps),
        segment_text-most m p g,
        segments_text-most gs,
      )

  pub path_text-most : {ps : List Piece} → EachOnGrid m ps → length (path_text m ps) ≤ (1 + pair_bytes_most) + length ps * (2 + pair_bytes_most * m)
  unfolding path_text
  path_text-most none = omega arith
  path_text-most (more p ps g gs) =
      omega (arith, length-append (move_text p) (segments_text m (p ∷ ps)), move_text-most m p g, segments_text-most (more p ps g gs))

  -- pieces that are given one by one
  each_last : {ps : List Piece} (p : Piece) → EachOnGrid m ps → PieceOnGrid m p → EachOnGrid m (ps ++ (p ∷ []))
  each_last p none g = more p [] g none
  each_last p (more q qs h hs) g = more q (qs ++ (p ∷ [])) h (each_last p hs g)

  pub entries-on-grid : (f : ℕ → Piece) (count : ℕ) → ((k : ℕ) → k < count → PieceOnGrid m (f k)) → EachOnGrid m (entries f count)
  unfolding entries
  entries-on-grid f zero g = none
  entries-on-grid f (suc count) g = each_last (f count) (entries-on-grid f count (λ k h. g k (omega arith))) (g count (omega arith))
