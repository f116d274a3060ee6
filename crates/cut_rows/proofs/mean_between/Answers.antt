-- The mean of two coordinates on the grid is no further out than they are, so it fits.
use mir.Syntax.{w32}
use mathlib.Core.Bool.{true}
use mathlib.Core.Path.{◌≡◌, sym, ◌∙◌}
use borrow.Author.Rules.{rules}
use Prim.Native.Nat.{◌-◌, ◌≤◌}
use native.Mathlib.Omega.{arith}
use lib.IntN.{pos, nat_abs}
use lib.Signed.{quot_z}
use mir.Syntax.{w64}
use mir.Val.{to_z, of_z}
use mir.Facts.{to_z-of_z}
use Rattle.grid.specs.Limits.{coordinate_most}
use Rattle.insertion.proofs.MeanLaws.{mean-within}
use Rattle.cut_rows.specs.Row.{mean_sum}
use Rattle.cut_rows.proofs.mean_between.Goals.{After-weighted_sum-sum}
use Rattle.cut_rows.proofs.mean_between.Goals as goal

-- the sum as it is read
sum_is : (c : After-weighted_sum-sum) → let a = c.args in to_z w64 (of_z w64 c.weighted_sum-sum.result) ≡ mean_sum a.low a.v a.high a.p a.q
sum_is c =
    let sum = c.weighted_sum-sum in rw (to_z-of_z {w = w64} (record { sfits = sum.type_inv }), sum.ensures.answer, to_z-of_z c.ranges.p, to_z-of_z c.ranges.q)

-- how far out the mean is
within : (c : After-weighted_sum-sum) → let a = c.args in nat_abs (quot_z (mean_sum a.low a.v a.high a.p a.q) (pos (a.high - a.low))) ≤ coordinate_most
within c =
    let a = c.args in
    let s = c.requires in mean-within (a.v - a.low) (a.high - a.v) (a.high - a.low) coordinate_most a.q a.p s.p_bound.1 s.p_bound.0 (omega (arith, s.low_lt_v.0, s.low_lt_v.1))

pub quotient-value-requires-clause-d_bound : goal.quotient-value-requires-clause-d_bound
quotient-value-requires-clause-d_bound c = rw (sum_is c) (omega (arith, within c))

pub returns-then-is_exact : goal.returns-then-is_exact
returns-then-is_exact c = record {
  answer = let before = (goal.at.returns-then-is_exact c).After-weighted_sum-sum in
      let sum = sum_is before in
      let told = c.quotient-value in
      let read = to_z-of_z {w = w32} (record { sfits = told.type_inv }) in
      let value = rw sum at told.ensures.answer in
      let whole : c.is_exact.result ≡ true = search rules in
      record { whole = sym whole ∙ (rw sum at c.is_exact.ensures.answer); value = (read ∙ value, rw (read, value) (within before)) };
}
