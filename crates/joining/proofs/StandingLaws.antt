-- What an accepted 17 says of the five lists, an accepted 7 of the points, and number 0 of all; and what is judged after them.
use mathlib.Core.Bool.{true, cond, ◌&&◌}
use mathlib.Core.Path.{◌≡◌, refl, ◌∙◌}
use Prim.Native.Nat.{ℕ, ◌≤◌}
use lib.Dec.{leb, eqb}
use lib.ListN.{length, get_or}
use borrow.Author.Tests.{leb-true, eqb-true, ne_eqb}
use Rattle.refusal.proofs.JudgingLaws.{both, unless-accepted, unless-split}
use Rattle.grid.specs.Limits.{knot_most, spline_points_least, spline_points_most}
use Rattle.grid.specs.Rows.{range_ok, all_on_grid}
use Rattle.spline_pieces.specs.Pieces.{all_whole, all_pieces_on_grid}
use Rattle.spline_pieces.specs.Standing.{Rising, Axis}
use Rattle.joining.specs.SplinePoints.{SplinePoints, pieces_x, pieces_y, rises_strictly_from, spline_count_ok, counts_agree, spline_points_ok}
use Rattle.joining.specs.Answer.{joinable_then}
use Rattle.joining.proofs.RisingLaws.{rises_next, rises-most}

-- both axes have as many points and tangents as there are parameters, and no parameter is above the largest knot
pub record Standing (s : SplinePoints) : Type 0 where
  pub x-axis : Axis s.params s.xs s.dxs
  pub y-axis : Axis s.params s.ys s.dys
  pub largest : (i : ℕ) → get_or s.params i 0 ≤ knot_most

module _ (s : SplinePoints) where
  pub standing-of : spline_points_ok s ≡ true → Standing s
  unfolding spline_points_ok spline_count_ok counts_agree
  standing-of e =
      let ss = s.params in
      let x = eqb (length s.xs) (length ss) in
      let y = eqb (length s.ys) (length ss) in
      let dx = eqb (length s.dxs) (length ss) in
      let dy = eqb (length s.dys) (length ss) in
      let all = both (spline_count_ok (length ss) && counts_agree s) (rises_strictly_from 0 ss) e in
      let counts = both (spline_count_ok (length ss)) (counts_agree s) all.0 in
      let bounds = both (leb spline_points_least (length ss)) (leb (length ss) spline_points_most) counts.0 in
      let three = both (x && y && dx) dy counts.1 in
      let two = both (x && y) dx three.0 in
      let one = both x y two.0 in
      let rising : Rising ss = record { least = leb-true _ _ bounds.0; most = leb-true _ _ bounds.1; rises = rises_next 0 ss all.1 } in
      record {
        x-axis = record { rising = rising; points = eqb-true _ _ one.0; tangents = eqb-true _ _ two.1 };
        y-axis = record { rising = rising; points = eqb-true _ _ one.1; tangents = eqb-true _ _ three.1 };
        largest = rises-most 0 ss all.1;
      }

  -- the points of both axes are on the grid
  pub points-on-grid : (range_ok s.xs s.ys && range_ok s.dxs s.dys) ≡ true → (all_on_grid s.xs ≡ true) × (all_on_grid s.ys ≡ true)
  unfolding range_ok
  points-on-grid e = both (all_on_grid s.xs) (all_on_grid s.ys) (both (range_ok s.xs s.ys) (range_ok s.dxs s.dys) e).0

-- none of 17, 7, 11, 18 applies
pub record Joinable (s : SplinePoints) : Type 0 where
  pub standing : Standing s
  pub on-grid : (all_on_grid s.xs ≡ true) × (all_on_grid s.ys ≡ true)
  pub whole : (all_whole (pieces_x s) ≡ true) × (all_whole (pieces_y s) ≡ true)
  pub pieces-on-grid : (all_pieces_on_grid (pieces_x s) ≡ true) × (all_pieces_on_grid (pieces_y s) ≡ true)

module _ (s : SplinePoints) (next : ℕ) where
  pub joinable-of : joinable_then s next ≡ 0 → Joinable s
  unfolding joinable_then
  joinable-of e =
      let after17 = unless-accepted (spline_points_ok s) 16 _ e in
      let after7 = unless-accepted (range_ok s.xs s.ys && range_ok s.dxs s.dys) 6 _ after17.1 in
      let after11 = unless-accepted (all_whole (pieces_x s) && all_whole (pieces_y s)) 10 _ after7.1 in
      let after18 = unless-accepted (all_pieces_on_grid (pieces_x s) && all_pieces_on_grid (pieces_y s)) 17 next after11.1 in
      record {
        standing = standing-of s after17.0;
        on-grid = points-on-grid s after7.0;
        whole = both (all_whole (pieces_x s)) (all_whole (pieces_y s)) after11.0;
        pieces-on-grid = both (all_pieces_on_grid (pieces_x s)) (all_pieces_on_grid (pieces_y s)) after18.0;
      }

  split : joinable_then s next ≡ cond (eqb (joinable_then s 0) 0) next (joinable_then s 0)
  unfolding joinable_then
  split =
      unless-split (spline_points_ok s) 16 next _ _
      (unless-split (range_ok s.xs s.ys && range_ok s.dxs s.dys) 6 next _ _
      (unless-split (all_whole (pieces_x s) && all_whole (pieces_y s)) 10 next _ _
      (unless-split (all_pieces_on_grid (pieces_x s) && all_pieces_on_grid (pieces_y s)) 17 next next 0 refl)))

  -- what is judged next is answered exactly where the spline points are joinable
  pub joinable-refused : {number : ℕ} → number ≡ joinable_then s 0 → (number ≡ 0 → ⊥) → joinable_then s next ≡ number
  joinable-refused {number} e h = split ∙ rw (← e, ne_eqb number 0 h)

  pub joinable-passed : joinable_then s 0 ≡ 0 → joinable_then s next ≡ next
  joinable-passed e = split ∙ rw e
