-- The joined curve without its meeting points is the Hermite cubic too: `twice-is-hermite`. For inserting the meeting points keeps the exact curve and gives
-- the curve that has them: `twice-inserted`.
use mathlib.Core.Bool.{true}
use mathlib.Core.List.{List}
use mathlib.Core.Path.{◌≡◌, sym, ◌∙◌}
use Prim.Native.Nat.{ℕ, suc, ◌+◌, ◌-◌, ◌*◌, ◌≤◌, ◌<◌}
use native.Mathlib.Nat.{le_trans, mul-le-mul_right}
use native.Mathlib.Omega.{arith}
use lib.IntN.{ℤ}
use lib.ListN.{length, get_or}
use Rattle.fractions.proofs.Rational.{class-of-equals, equals-of-class}
use Rattle.exact.specs.ExactCurve.{exact_at}
use Rattle.grid.specs.Check.{Passes}
use Rattle.span.specs.Span.{in_domain}
use Rattle.span.proofs.SentenceLaws.{domain-exactly}
use Rattle.knots_exact.specs.SameCurve.{SameOnAxis, SameCurve}
use Rattle.spline_pieces.specs.Standing.{Rising}
use Rattle.joined_curve.specs.Curve.{inner_twice, inner_thrice}
use Rattle.joined_curve.proofs.CurveLaws.{points-length}
use Rattle.joined_curve.proofs.KnotLaws.{joined-knots}
use Rattle.joining.specs.SplinePoints.{SplinePoints}
use Rattle.joining.specs.Answer.{joined_lists}
use Rattle.joining.proofs.StandingLaws.{Joinable}
use Rattle.meeting_points.specs.Inserting.{inner_parameters, InsertsEach}
use Rattle.meeting_points.proofs.InsertingLaws.{inserts-each-keeps}
use Rattle.meeting_points.proofs.MeetingLaws.{meeting-points-inserted}
use Rattle.joining_exact.specs.HermitePoint.{hermite_coordinate}
use Rattle.joining_exact.specs.JoinedCurve.{HermiteOnAxis}
use Rattle.joining_exact.proofs.PassesLaws.{joined-passes}
use Rattle.joining_exact.proofs.JoinedLaws.{thrice-is-hermite}
use Rattle.joining_exact.proofs.PassesLaws.{parameters-rise}

module _ (s : SplinePoints) (known : Joinable s) where
  abbrev ss : List ℕ
  ss = s.params

  rising : Rising ss
  rising = known.standing.x-axis.rising

  twice_passes : Passes 3 (joined_lists inner_twice s).knots (joined_lists inner_twice s).xs (joined_lists inner_twice s).ys
  twice_passes = joined-passes 2 (omega arith, omega arith) s known

  pub twice-inserted : InsertsEach 3 (inner_parameters ss) (joined_lists inner_twice s) (joined_lists inner_thrice s)
  twice-inserted = meeting-points-inserted ss s.xs s.dxs s.ys s.dys rising known.whole.0 known.whole.1 twice_passes

  pub twice_same : SameCurve 3 (joined_lists inner_twice s) (joined_lists inner_thrice s)
  twice_same = inserts-each-keeps 3 (inner_parameters ss) (joined_lists inner_twice s) (joined_lists inner_thrice s) twice_passes twice-inserted

  -- every interval lies in the domain of the curve without the meeting points
  in-domain : (us : List ℤ) → length us ≡ 2 * (length ss - 2) + 4 → (i p q : ℕ) → suc i < length ss → get_or ss i 0 * q ≤ p → p ≤ get_or ss (suc i) 0 * q
      → in_domain (joined_lists inner_twice s).knots 3 (length us - 1) p q ≡ true
  in-domain us size i p q inside from to =
      let knots = joined-knots 2 ss s.xs s.dxs rising.least in
      let first = parameters-rise ss rising 0 i (omega arith) in
      let last = parameters-rise ss rising (suc i) (length ss - 1 - suc i) (omega arith) in
      let none : 0 + i ≡ i = omega arith in
      let all : suc i + (length ss - 1 - suc i) ≡ length ss - 1 = omega arith in
      let end : length us - 1 + 1 ≡ 2 * (length ss - 2) + 4 + 0 = omega arith in
      (domain-exactly (joined_lists inner_twice s).knots 3 (length us - 1) p q).1 (
        le_trans (mul-le-mul_right q (rw (knots.first 3 (omega arith)) (rw none at first))) from,
        le_trans to (mul-le-mul_right q (rw (end, knots.last 0 (omega arith)) (rw all at last))),
      )

  -- so one axis is the Hermite cubic where that of the curve with the meeting points is
  axis-twice : (us qs ps ds : List ℤ) → length us ≡ 2 * (length ss - 2) + 4 → SameOnAxis 3 (joined_lists inner_twice s).knots us (joined_lists inner_thrice s).knots qs
      → HermiteOnAxis (joined_lists inner_thrice s).knots qs ss ps ds → HermiteOnAxis (joined_lists inner_twice s).knots us ss ps ds
  axis-twice us qs ps ds size same cubic i p q inside some from to =
      let two = exact_at 3 (joined_lists inner_twice s).knots us p q in
      let three = exact_at 3 (joined_lists inner_thrice s).knots qs p q in
      equals-of-class two (hermite_coordinate ss ps ds i p q)
      (sym (class-of-equals {a = three} {b = two} (same.point p q some (in-domain us size i p q inside from to)))
      ∙ class-of-equals {a = three} {b = hermite_coordinate ss ps ds i p q} (cubic i p q inside some from to))

  pub twice-is-hermite : HermiteOnAxis (joined_lists inner_twice s).knots (joined_lists inner_twice s).xs ss s.xs s.dxs
      × HermiteOnAxis (joined_lists inner_twice s).knots (joined_lists inner_twice s).ys ss s.ys s.dys
  twice-is-hermite =
      let cubics = thrice-is-hermite s known in
      let some = rising.least in (
        axis-twice (joined_lists inner_twice s).xs (joined_lists inner_thrice s).xs s.xs s.dxs (points-length 2 (omega arith) ss s.xs s.dxs some) twice_same.x cubics.0,
        axis-twice (joined_lists inner_twice s).ys (joined_lists inner_thrice s).ys s.ys s.dys (points-length 2 (omega arith) ss s.ys s.dys some) twice_same.y cubics.1,
      )
