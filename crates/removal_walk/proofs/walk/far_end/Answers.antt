-- The invariant: behind `far`, up to i, every knot is v.
use mathlib.Core.Path.{◌≡◌}
use Prim.Native.Nat.{◌+◌, ◌-◌}
use native.Mathlib.Omega.{arith}
use lib.ListN.{length}
use Rattle.insertion.proofs.OrderLaws.{either}
use Rattle.removal.proofs.EquationLaws.{reduced-low}
use Rattle.removal_walk.proofs.walk.far_end.Goals.{Start}
use Rattle.removal_walk.proofs.walk.far_end.Goals as goal

pub loop-far-preserved : goal.loop-far-preserved
loop-far-preserved c = let a = c.args in
    let l = c.loop-far in (
      omega (arith, c.loop-far-test.true),
      omega (arith, l.invariant.1),
      λ j h b. either l.far j (λ more. l.invariant.2 j more b)
          (λ less.
          let here : j ≡ l.far = omega arith in
          let low = reduced-low a.m a.ks.now a.v (length a.ks.now - (a.m + 1)) c.requires.reduced l.far (omega (arith, l.invariant.1, c.requires.i_value)) in
          rw here (omega (arith, low, c.if-ks-far.false))),
    )
