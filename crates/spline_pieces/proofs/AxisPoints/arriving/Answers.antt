-- The point and the tangent at i + 1, and the width.
use mathlib.Core.Path.{ap, ◌∙◌}
use Prim.Native.Nat.{◌+◌}
use native.Mathlib.Numerals.{add-one}
use lib.IntN.{pos, ◌-ℤ◌}
use lib.ListN.{get_or}
use lib.Signed.{quot_z}
use mir.Syntax.{w32}
use mir.ValLaws.{to_z-of_z}
use borrow.Author.Rules.{sfits_of, rules}
use Rattle.spline_pieces.specs.Pieces.{third, piece_of, piece_at}
use Rattle.spline_pieces.proofs.ThirdLaws.{moved-back}
use Rattle.spline_pieces.proofs.AxisPoints.arriving.Goals as goal

pub returns : goal.returns
unfolding third piece_at piece_of
returns c = record {
  answer = let a = c.args in
      let p = get_or a.self.ps.now (a.i + 1) (pos 0) in
      rw (← add-one a.i)
      (moved-back p c.from.result c.reach.result (search rules) (sfits_of c.from.type_inv) (sfits_of c.reach.type_inv) (c.from.ensures ∙ to_z-of_z w32 p (search rules))
      ∙ ap (λ z. p -ℤ quot_z z (pos 3)) c.reach.ensures.answer);
}
