-- Joining answers the first row, in its order, whose sentence holds: `join-answers`.
use mathlib.Core.Bool.{true, false, ◌&&◌, true≢false}
use mathlib.Core.List.{List, [], ◌∷◌}
use mathlib.Core.Logic.{◌⊎◌, inl, inr, ⊎_elim, ◌↔◌}
use mathlib.Core.Path.{◌≡◌, refl, sym, ap₂, ◌∙◌}
use Prim.Native.Nat.{ℕ, zero, suc, ◌≤◌, ◌<◌}
use native.Mathlib.Omega.{arith}
use lib.Dec.{leb}
use lib.ListN.{length, get_or}
use borrow.Author.Tests.{leb-false}
use Rattle.refusal.proofs.ChainLaws.{accepts, judged, answers-first}
use Rattle.grid.specs.Limits.{knot_most, spline_points_least, spline_points_most}
use Rattle.grid.specs.Rows.{range_ok}
use Rattle.checked.specs.Sentences.{RangeWrong}
use Rattle.checked.proofs.TestLaws.{one-fails, Judged, fails-iff, leb-judged, eqb-judged, both-judged, three-judged, room-judged}
use Rattle.checked.proofs.GridLaws.{range-judged}
use Rattle.spline_pieces.specs.Pieces.{all_pieces_on_grid}
use Rattle.spline_pieces.proofs.SentenceLaws.{whole-judged}
use Rattle.joined_curve.specs.Curve.{inner_thrice}
use Rattle.joined_curve.proofs.SentenceLaws.{joined-on-grid}
use Rattle.joining.specs.SplinePoints.{SplinePoints, pieces_x, pieces_y, rises_strictly_from, spline_count_ok, counts_agree, spline_points_ok}
use Rattle.joining.specs.Answer.{joined_lists, joinable_then}
use Rattle.joining.specs.Sentences.{ParametersWrong, SplinePointsWrong, JoinAnswersFirst}
use Rattle.joining.proofs.RisingLaws.{rises_next, rises-most}
use Rattle.joining.proofs.StandingLaws.{standing-of, points-on-grid}

-- where parameters do not rise from `low` on: the first is below it, or some parameter is wrong
rises-wrong : (low : ℕ) (ss : List ℕ) → rises_strictly_from low ss ≡ false → ((0 < length ss) × (get_or ss 0 0 < low)) ⊎ ParametersWrong ss
unfolding rises_strictly_from
rises-wrong low [] e = absurd (true≢false e)
rises-wrong low (s ∷ ss) e =
    ⊎_elim
    (λ f. ⊎_elim (λ g. inl (omega arith, leb-false low s g)) (λ g. inr (zero, omega arith, inl (leb-false s knot_most g))) (one-fails (leb low s) (leb s knot_most) f))
    (λ f.
    ⊎_elim
    (λ g. inr (zero, omega arith, inr (omega (arith, g.0), omega (arith, g.1))))
    (λ g. inr (suc g.0, omega (arith, g.1), later g))
    (rises-wrong (suc s) ss f))
    (one-fails (leb low s && leb s knot_most) (rises_strictly_from (suc s) ss) e)
  where
    later : (g : ParametersWrong ss) → (knot_most < get_or ss g.0 0) ⊎ ((suc (suc g.0) < suc (length ss)) × (get_or ss (suc g.0) 0 ≤ get_or ss g.0 0))
    later (k, i, inl h) = inl h
    later (k, i, inr h) = inr (omega (arith, h.0), h.1)

parameters-judged : (ss : List ℕ)
    → Judged (rises_strictly_from 0 ss) (((i : ℕ) → suc i < length ss → get_or ss i 0 < get_or ss (suc i) 0) × ((i : ℕ) → get_or ss i 0 ≤ knot_most)) (ParametersWrong ss)
parameters-judged ss =
    record {
      passing = λ e. (rises_next 0 ss e, rises-most 0 ss e);
      failing = λ e. ⊎_elim (λ f. absurd (omega (arith, f.1))) (λ f. f) (rises-wrong 0 ss e);
      clash = clash;
    }
  where
    clash : (((i : ℕ) → suc i < length ss → get_or ss i 0 < get_or ss (suc i) 0) × ((i : ℕ) → get_or ss i 0 ≤ knot_most)) → ParametersWrong ss → ⊥
    clash p (k, i, inl h) = omega (arith, p.1 k)
    clash p (k, i, inr h) = omega (arith, p.0 k h.0, h.1)

module _ (s : SplinePoints) where
  spline-points-fail : (spline_points_ok s ≡ false) ↔ SplinePointsWrong s
  unfolding spline_points_ok spline_count_ok counts_agree
  spline-points-fail =
      fails-iff
      (three-judged
      (both-judged (leb-judged spline_points_least (length s.params)) (leb-judged (length s.params) spline_points_most))
      (both-judged (three-judged (eqb-judged (length s.xs) _) (eqb-judged (length s.ys) _) (eqb-judged (length s.dxs) _)) (eqb-judged (length s.dys) _))
      (parameters-judged s.params))

  -- row 18, where 17 and 7 do not apply
  module _ (standing : spline_points_ok s ≡ true) (range : (range_ok s.xs s.ys && range_ok s.dxs s.dys) ≡ true) where
    grid-same : (all_pieces_on_grid (pieces_x s) && all_pieces_on_grid (pieces_y s)) ≡ range_ok (joined_lists inner_thrice s).xs (joined_lists inner_thrice s).ys
    unfolding range_ok
    grid-same =
        let some = (standing-of s standing).x-axis.rising.least in
        let on = points-on-grid s range in
        ap₂ ◌&&◌ (joined-on-grid inner_thrice s.params s.xs s.dxs on.0 some) (joined-on-grid inner_thrice s.params s.ys s.dys on.1 some)

    grid-fails : ((all_pieces_on_grid (pieces_x s) && all_pieces_on_grid (pieces_y s)) ≡ false) ↔ RangeWrong (joined_lists inner_thrice s).xs (joined_lists inner_thrice s).ys
    grid-fails =
        let j = fails-iff (range-judged (joined_lists inner_thrice s).xs (joined_lists inner_thrice s).ys) in
        ((λ e. j.0 (sym grid-same ∙ e)), (λ w. grid-same ∙ j.1 w))

pub join-answers : JoinAnswersFirst
unfolding joinable_then
join-answers inner s lent =
    answers-first _ _ refl
    (judged (spline-points-fail s) λ standing.
    judged (fails-iff (both-judged (range-judged s.xs s.ys) (range-judged s.dxs s.dys))) λ range.
    judged (fails-iff (both-judged (whole-judged s.params s.xs s.dxs) (whole-judged s.params s.ys s.dys))) λ whole.
    judged (grid-fails s standing range) λ grid.
    judged (fails-iff (room-judged (joined_lists inner s) lent)) λ room.
    accepts)
