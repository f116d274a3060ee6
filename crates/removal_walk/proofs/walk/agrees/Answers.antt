-- The two sides are compared on their bits.
use mathlib.Core.Path.{◌≡◌, sym, ap, ◌∙◌}
use Prim.Native.Nat.{◌+◌, ◌-◌}
use lib.IntN.{pos, ◌*ℤ◌, +ℤ_idr, *ℤ_comm}
use lib.ListN.{get_or}
use mir.Syntax.{w32, w64}
use mir.Val.{to_z, of_z}
use mir.ValLaws.{to_z-of_z}
use borrow.Author.Tests.{eqb-true, eqb-false}
use Rattle.insertion.specs.Insertion.{point_at}
use Rattle.removal.specs.Axis.{left_for}
use Rattle.removal_walk.proofs.BitsLaws.{bits-equal}
use Rattle.removal_walk.proofs.walk.agrees.Goals as goal

pub returns : goal.returns
returns c = record {
  answer = let a = c.args in
      let rest = c.left_for-rest in let asked = c.weighted_sum-asked in let left : rest.result ≡ left_for a.m a.ks.now a.ps.now a.v a.far a.last =
      rest.ensures.answer ∙ ap (left_for a.m a.ks.now a.ps.now a.v a.far) (to_z-of_z w32 a.last c.ranges.last) in
      let right : asked.result ≡ point_at a.ps.now (a.far + 1) *ℤ pos (a.v - get_or a.ks.now a.far 0) =
      asked.ensures.answer
      ∙ +ℤ_idr (pos (a.v - get_or a.ks.now a.far 0) *ℤ to_z w32 (of_z w32 (point_at a.ps.now (a.far + 1))))
      ∙ rw (to_z-of_z w32 (point_at a.ps.now (a.far + 1)) (record { sfits = c.weighted_sum-arg-1.given })) (*ℤ_comm (pos (a.v - get_or a.ks.now a.far 0)) (point_at a.ps.now (a.far + 1))) in
      record {
        yes = λ e.
            sym left
            ∙ bits-equal rest.result asked.result (record { sfits = rest.type_inv }) (record { sfits = asked.type_inv }) (eqb-true (of_z w64 rest.result) (of_z w64 asked.result) e)
            ∙ right;
        no = λ e same. eqb-false (of_z w64 rest.result) (of_z w64 asked.result) e (ap (of_z w64) (left ∙ same ∙ sym right));
      };
}
