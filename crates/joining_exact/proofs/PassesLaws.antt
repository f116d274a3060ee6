-- The joined curve passes the check: `joined-passes`; so it has the facts of a checked curve: `joined-checked`.
use mathlib.Core.Bool.{true}
use mathlib.Core.List.{List}
use mathlib.Core.Path.{◌≡◌, sym, ap, ◌∙◌}
use Prim.Native.Nat.{ℕ, zero, suc, ◌+◌, ◌-◌, ◌*◌, ◌≤◌, ◌<◌}
use native.Mathlib.Nat.{mul-le-mul}
use native.Mathlib.Omega.{arith}
use lib.IntN.{ℤ}
use lib.ListN.{length, get_or}
use Rattle.grid.specs.Limits.{spline_points_most}
use Rattle.grid.specs.Rows.{knot_order_ok}
use Rattle.grid.specs.Check.{Passes}
use Rattle.checked.specs.Checked.{Checked}
use Rattle.checked.proofs.RisingLaws.{order-judged}
use Rattle.checked.proofs.GridLaws.{grid-each}
use Rattle.checked.proofs.CheckedLaws.{passes-of-checked}
use Rattle.spline_pieces.specs.Pieces.{pieces}
use Rattle.spline_pieces.specs.Standing.{Rising}
use Rattle.joined_curve.specs.Curve.{inner_thrice, EitherNumber, joined_points}
use Rattle.joined_curve.specs.Sentences.{KnotsOf}
use Rattle.joined_curve.proofs.CurveLaws.{points-length}
use Rattle.joining.specs.SplinePoints.{SplinePoints}
use Rattle.joining.specs.Answer.{joined_lists}
use Rattle.joining.proofs.StandingLaws.{Joinable}
use Rattle.joined_curve.proofs.KnotLaws.{joined-knots}
use Rattle.joined_curve.proofs.SentenceLaws.{joined-on-grid}
use Rattle.joining_exact.proofs.OrderLaws.{knots-rise}
use Rattle.joining_exact.proofs.RepeatLaws.{repeats-outer, repeats-inner}

-- no parameter is below an earlier one
pub parameters-rise : (ss : List ℕ) → Rising ss → (a n : ℕ) → a + n < length ss → get_or ss a 0 ≤ get_or ss (a + n) 0
parameters-rise ss rising a zero h = let here : a + zero ≡ a = omega arith in rw here (omega arith)
parameters-rise ss rising a (suc n) h =
    let next : a + suc n ≡ suc (a + n) = omega arith in
    rw next (omega (arith, parameters-rise ss rising a n (omega arith), rising.rises (a + n) (omega arith)))

module _ (inner : ℕ) (ss ts : List ℕ) (rising : Rising ss) (k : KnotsOf inner ss ts) where
  -- the right end of the domain is the last parameter
  end_is : get_or ts (inner * (length ss - 2) + 4) 0 ≡ get_or ss (length ss - 1) 0
  end_is =
      let here : inner * (length ss - 2) + 4 ≡ inner * (length ss - 2) + 4 + 0 = omega arith in
      ap (λ j. get_or ts j 0) here ∙ k.last 0 (omega arith)

  domain-is : get_or ts 3 0 < get_or ts (inner * (length ss - 2) + 4) 0
  domain-is =
      let end : length ss - 1 ≡ 1 + (length ss - 2) = omega (arith, rising.least) in
      rw (k.first 3 (omega arith), end_is, end)
      (omega (arith, rising.rises 0 (omega (arith, rising.least)), parameters-rise ss rising 1 (length ss - 2) (omega (arith, rising.least))))

module _ (inner : ℕ) (either : EitherNumber inner) (s : SplinePoints) (known : Joinable s) where
  abbrev ss : List ℕ
  ss = s.params

  rising : Rising ss
  rising = known.standing.x-axis.rising

  knots : KnotsOf inner ss (joined_lists inner s).knots
  knots = joined-knots inner ss s.xs s.dxs rising.least

  ordered : knot_order_ok (joined_lists inner s).knots ≡ true
  ordered = knots-rise inner ss rising known.standing.largest s.xs s.dxs (omega (arith, either.0))

  many : (ps ds : List ℤ) → length (joined_points inner (pieces ss ps ds)) ≡ inner * (length ss - 2) + 4
  many ps ds = points-length inner either.0 ss ps ds rising.least

  few : inner * (length ss - 2) ≤ inner_thrice * (spline_points_most - 2)
  few = mul-le-mul {m₂ = spline_points_most - 2} either.1 (omega (arith, rising.most))

  pub joined-checked : Checked 3 (joined_lists inner s).knots (joined_lists inner s).xs (joined_lists inner s).ys
  unfolding knot_order_ok
  joined-checked =
      let xs = s.xs in
      let dxs = s.dxs in
      let us = many xs dxs in
      let vs = many s.ys s.dys in
      let ts = (joined_lists inner s).knots in
      let some = rising.least in
      record {
        sizes = record {
          degree-least = omega arith;
          degree-most = omega arith;
          as_many = vs ∙ sym us;
          enough = omega (arith, us);
          most = omega (arith, us, few);
          knots = omega (arith, us, knots.count);
        };
        rising = ((order-judged ts).passing ordered).0;
        largest = ((order-judged ts).passing ordered).1;
        domain = rw us (domain-is inner ss ts rising knots);
        inner = λ v above below.
            omega (
              arith,
              either.1,
              repeats-inner inner ss rising xs dxs v
                  (λ e. omega (arith, above, e, knots.first 3 (omega arith)))
                  (λ e. omega (arith, rw us at below, e, end_is inner ss ts rising knots)),
            );
        outer = λ v. repeats-outer inner ss rising xs dxs v (omega (arith, either.1));
        grid_x = grid-each (joined_lists inner s).xs (sym (joined-on-grid inner ss xs dxs known.on-grid.0 some) ∙ known.pieces-on-grid.0);
        grid_y = grid-each (joined_lists inner s).ys (sym (joined-on-grid inner ss s.ys s.dys known.on-grid.1 some) ∙ known.pieces-on-grid.1);
      }

  pub joined-passes : Passes 3 (joined_lists inner s).knots (joined_lists inner s).xs (joined_lists inner s).ys
  joined-passes = passes-of-checked 3 (joined_lists inner s).knots (joined_lists inner s).xs (joined_lists inner s).ys joined-checked
