-- Points of the grid stay on it as the ends of pieces, and the points of a piece that was judged are on the grid.
use mathlib.Core.Bool.{Bool, true, false, ◌&&◌}
use mathlib.Core.List.{List, [], ◌∷◌}
use mathlib.Core.Path.{◌≡◌, refl}
use Prim.Native.Nat.{ℕ, zero, suc}
use lib.IntN.{ℤ, pos}
use lib.ListN.{get_or}
use Rattle.grid.specs.Rows.{on_grid, all_on_grid}
use Rattle.refusal.proofs.JudgingLaws.{both}
use Rattle.spline_pieces.specs.Pieces.{Piece, piece_of, piece_at, piece_on_grid}

-- every entry of such a list is on the grid, and 0 past its end
pub all_on_grid-at : (zs : List ℤ) → all_on_grid zs ≡ true → (i : ℕ) → on_grid (get_or zs i (pos 0)) ≡ true
unfolding all_on_grid on_grid
all_on_grid-at [] e i = refl
all_on_grid-at (z ∷ zs) e zero = (both (on_grid z) (all_on_grid zs) e).0
all_on_grid-at (z ∷ zs) e (suc i) = all_on_grid-at zs (both (on_grid z) (all_on_grid zs) e).1 i

module _ (ss : List ℕ) (ps ds : List ℤ) (i : ℕ) (ends : all_on_grid ps ≡ true) where
  -- the ends are on the grid, so the two inner points decide
  pub inner-decide : piece_on_grid (piece_at ss ps ds i) ≡ (on_grid (piece_at ss ps ds i).leaving && on_grid (piece_at ss ps ds i).arriving)
  unfolding piece_on_grid piece_at piece_of
  inner-decide = rw (all_on_grid-at ps ends i, all_on_grid-at ps ends (suc i)) (last-true (on_grid (piece_at ss ps ds i).leaving && on_grid (piece_at ss ps ds i).arriving))
    where
      last-true : (b : Bool) → (b && true) ≡ b
      last-true true = refl
      last-true false = refl

pub ruleset ends_known = (inner-decide)

-- what the judgement says of the inner points
pub inner-on-grid : (piece : Piece) → piece_on_grid piece ≡ true → (on_grid piece.leaving ≡ true) × (on_grid piece.arriving ≡ true)
unfolding piece_on_grid
inner-on-grid piece e =
    let three = (both (on_grid piece.start && on_grid piece.leaving && on_grid piece.arriving) (on_grid piece.end) e).0 in
    let two = both (on_grid piece.start && on_grid piece.leaving) (on_grid piece.arriving) three in
    ((both (on_grid piece.start) (on_grid piece.leaving) two.0).1, two.1)
