-- The quotient of its two parts; it is no further out than the two coordinates.
use native.Mathlib.Omega.{arith}
use mir.Syntax.{w64}
use mir.ValLaws.{to_z-of_z}
use Rattle.insertion.proofs.QuotientLaws.{quotient-within}
use Rattle.insertion_parts.proofs.quotient_at.Goals as goal

pub quotient-requires : goal.quotient-requires
quotient-requires c =
    let a = c.args in
    let s = c.requires in record {
      d_nonzero = c.weight_at.ensures.above;
      d_bound = rw (
        to_z-of_z w64 c.weighted_sum_at.result (record { sfits = c.weighted_sum_at.type_inv }),
        c.weighted_sum_at.ensures.answer,
        c.weight_at.ensures.answer,
      )
          (omega (arith, quotient-within a.m a.knots.now a.ps.now a.v a.j s.weighed.low s.weighed.high s.insertable.range));
    }
