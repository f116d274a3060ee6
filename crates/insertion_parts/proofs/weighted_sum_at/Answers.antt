-- What the call of `weighted_sum` answers, with the differences read as whole numbers.
use Prim.Native.Nat.{◌-◌}
use mir.Syntax.{w32, w64}
use mir.ValLaws.{to_z-of_z}
use Rattle.insertion.specs.Insertion.{point_at}
use Rattle.insertion.proofs.QuotientLaws.{sum-natural}
use Rattle.insertion_parts.proofs.weighted_sum_at.Goals as goal

pub returns : goal.returns
returns c = record {
  answer = let a = c.args in
      let s = c.requires in
      rw (
        to_z-of_z w64 c.weighted_sum.result (record { sfits = c.weighted_sum.type_inv }),
        sum-natural a.m a.knots.now a.ps.now a.v a.j s.low s.high,
        ← to_z-of_z w32 (point_at a.ps.now a.j) (record { sfits = c.weighted_sum-arg-1.given }),
        ← to_z-of_z w32 (point_at a.ps.now (a.j - 1)) (record { sfits = c.weighted_sum-arg-2-1.given }),
      )
      c.weighted_sum.ensures.answer;
}
