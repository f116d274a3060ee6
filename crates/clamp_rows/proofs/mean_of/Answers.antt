-- Both sums of the mean fit 64 bits.
use mathlib.Core.Path.{◌≡◌, ap}
use Prim.Native.Nat.{◌+◌, ◌*◌}
use native.Mathlib.Omega.{arith}
use lib.IntN.{ℤ, pos, ◌*ℤ◌}
use mir.Syntax.{w64}
use mir.Val.{to_z, of_z}
use mir.Facts.{to_z-of_z}
use Rattle.clamping.specs.EndRows.{mean}
use Rattle.clamp_rows.proofs.SizeLaws.{read-scaled, sum_fits}
use Rattle.clamp_rows.proofs.mean_of.Goals.{After-scaled-2}
use Rattle.clamp_rows.proofs.mean_of.Goals as goal

-- the two products as they are read
first_read : (c : After-scaled-2) → let a = c.args in
    to_z w64 (of_z w64 c.scaled.result) ≡ pos (a.d * a.b.lower) *ℤ a.a.upper
first_read c =
    let a = c.args in
    read-scaled a.d a.b.lower a.a.upper c.scaled.result (omega (arith, c.requires.e_bound)) c.requires.small.1.lower c.requires.small.0.upper c.scaled.ensures.answer

second-read : (c : After-scaled-2) → let a = c.args in
    to_z w64 (of_z w64 c.scaled-2.result) ≡ pos (a.e * a.a.lower) *ℤ a.b.upper
second-read c =
    let a = c.args in
    read-scaled a.e a.a.lower a.b.upper c.scaled-2.result (omega (arith, c.requires.e_bound)) c.requires.small.0.lower c.requires.small.1.upper c.scaled-2.ensures.answer

pub overflow_add-result : goal.overflow_add-result
overflow_add-result c = let a = c.args in
    rw (first_read c, second-read c)
    (sum_fits a.d a.b.lower a.e a.a.lower a.a.upper a.b.upper
    (omega (arith, c.requires.e_bound)) c.requires.small.1.lower c.requires.small.0.upper (omega (arith, c.requires.e_bound)) c.requires.small.0.lower c.requires.small.1.upper)

pub returns : goal.returns
unfolding mean
returns c = record {
  answer = let a = c.args in
      rw (first_read (goal.at.returns c).After-scaled-2, second-read (goal.at.returns c).After-scaled-2)
      (ap (λ (z : ℤ). record { upper = z; lower = (a.d + a.e) * (a.a.lower * a.b.lower) })
      (to_z-of_z (sum_fits a.d a.b.lower a.e a.a.lower a.a.upper a.b.upper
      (omega (arith, c.requires.e_bound)) c.requires.small.1.lower c.requires.small.0.upper (omega (arith, c.requires.e_bound)) c.requires.small.0.lower c.requires.small.1.upper)));
}
