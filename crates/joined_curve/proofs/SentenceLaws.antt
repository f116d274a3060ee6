-- The joined points are what their sentences say, entry by entry; and they are on the grid exactly where all points of the pieces are.
use mathlib.Core.Bool.{Bool, true, false, ◌&&◌}
use mathlib.Core.List.{List, ◌++◌}
use mathlib.Core.Path.{◌≡◌, refl, sym, ap, ◌∙◌}
use Prim.Native.Nat.{ℕ, zero, suc, ◌-◌, ◌*◌, ◌≤◌, ◌<◌}
use native.Mathlib.Omega.{arith}
use lib.IntN.{ℤ, pos, neg_ℤ, ◌+ℤ◌, ◌-ℤ◌, ◌*ℤ◌, +ℤ_comm, +ℤ_assoc, +ℤ_invr, +ℤ_idl, +ℤ-neg_ℤ_cancel, neg_ℤ-+ℤ, neg_ℤ-neg_ℤ}
use lib.ListN.{length, get_or, replicate}
use Rattle.grid.specs.Rows.{on_grid, all_on_grid}
use Rattle.spline_pieces.specs.Pieces.{third, piece_of, piece_at, pieces_from, pieces, every_piece, piece_on_grid, all_whole, all_pieces_on_grid}
use Rattle.spline_pieces.specs.Sentences.{width_of}
use Rattle.spline_pieces.proofs.GridLaws.{all_on_grid-at, inner-decide}
use Rattle.spline_pieces.proofs.SentenceLaws.{whole-judged}
use Rattle.joined_curve.specs.Curve.{inner_thrice, points_after, joined_points}
use Rattle.joined_curve.specs.Sentences.{PointsOf}
use Rattle.joined_curve.proofs.CurveLaws.{points_before, points_from, points-cut, points-length}
use Rattle.joined_curve.proofs.PointLaws.{leaving-is, arriving-is, first-is, last-is, point-is}

-- the way from p to a point that is t further, and from a point that is t short of q
way-from : (p t : ℤ) → p +ℤ t -ℤ p ≡ t
way-from p t = ap (λ z. z -ℤ p) (+ℤ_comm p t) ∙ +ℤ-neg_ℤ_cancel t p

way-to : (q t : ℤ) → q -ℤ (q -ℤ t) ≡ t
way-to q t =
    ap (λ z. q +ℤ z) (neg_ℤ-+ℤ q (neg_ℤ t) ∙ ap (λ z. neg_ℤ q +ℤ z) (neg_ℤ-neg_ℤ t))
    ∙ sym (+ℤ_assoc q (neg_ℤ q) t)
    ∙ ap (λ z. z +ℤ t) (+ℤ_invr q)
    ∙ +ℤ_idl t

module _ (ss : List ℕ) (ps ds : List ℤ) (some : 2 ≤ length ss) where
  meets : (inner : ℕ) → inner ≡ inner_thrice → (i : ℕ) → i < length ss → get_or (joined_points inner (pieces ss ps ds)) (inner * i) (pos 0) ≡ get_or ps i (pos 0)
  meets inner three i h = rw three (point-is ss ps ds some i h)

  pub joined-points : (inner : ℕ) → 2 ≤ inner → all_whole (pieces ss ps ds) ≡ true → PointsOf inner ss ps ds (joined_points inner (pieces ss ps ds))
  unfolding piece_at piece_of
  joined-points inner least whole =
      let thirds = (whole-judged ss ps ds).passing whole in
      record {
        count = points-length inner least ss ps ds some;
        first = first-is inner least ss ps ds some;
        leaves = λ i h.
            let t = third (width_of ss i) (get_or ds i (pos 0)) in
            ap (λ z. (z -ℤ get_or ps i (pos 0)) *ℤ pos 3) (leaving-is inner least ss ps ds some i h)
            ∙ ap (λ z. z *ℤ pos 3) (way-from (get_or ps i (pos 0)) t)
            ∙ (thirds i h).0;
        arrives = λ i h.
            let t = third (width_of ss i) (get_or ds (suc i) (pos 0)) in
            ap (λ z. (get_or ps (suc i) (pos 0) -ℤ z) *ℤ pos 3) (arriving-is inner least ss ps ds some i h)
            ∙ ap (λ z. z *ℤ pos 3) (way-to (get_or ps (suc i) (pos 0)) t)
            ∙ (thirds i h).1;
        meets = meets inner;
        last = last-is inner least ss ps ds some;
      }

-- with spline points on the grid, the pieces are on it exactly where the joined points are
and_assoc : (a b c : Bool) → ((a && b) && c) ≡ (a && (b && c))
and_assoc true b c = refl
and_assoc false b c = refl

-- entries that are on the grid decide nothing
same-on-grid : (n : ℕ) (z : ℤ) (l : List ℤ) → on_grid z ≡ true → all_on_grid (replicate n z ++ l) ≡ all_on_grid l
unfolding all_on_grid
same-on-grid zero z l e = refl
same-on-grid (suc n) z l e = rw e (same-on-grid n z l e)

module _ (inner : ℕ) (ss : List ℕ) (ps ds : List ℤ) (ends : all_on_grid ps ≡ true) where
  after-on-grid : (count i : ℕ) → every_piece piece_on_grid (pieces_from ss ps ds i (suc count)) ≡ all_on_grid (points_from inner ss ps ds i count)
  unfolding every_piece pieces_from points_after all_on_grid piece_at piece_of
  after-on-grid zero i =
      rw (inner-decide ss ps ds i ends, all_on_grid-at ps ends (suc i))
      (and_assoc (on_grid (piece_at ss ps ds i).leaving) (on_grid (piece_at ss ps ds i).arriving) true)
  after-on-grid (suc count) i =
      rw (inner-decide ss ps ds i ends, after-on-grid count (suc i), same-on-grid (inner - 2) (get_or ps (suc i) (pos 0)) (points_from inner ss ps ds (suc i) count) (all_on_grid-at ps ends (suc i)))
      (and_assoc (on_grid (piece_at ss ps ds i).leaving) (on_grid (piece_at ss ps ds i).arriving) (all_on_grid (points_from inner ss ps ds (suc i) count)))

  pub joined-on-grid : 2 ≤ length ss → all_pieces_on_grid (pieces ss ps ds) ≡ all_on_grid (joined_points inner (pieces ss ps ds))
  unfolding all_on_grid points_before pieces
  joined-on-grid some =
      let count : length ss - 1 ≡ suc (length ss - 2) = omega arith in
      rw (points-cut inner ss ps ds some 0 (length ss - 2) (omega arith), all_on_grid-at ps ends 0, count) (after-on-grid (length ss - 2) 0)
