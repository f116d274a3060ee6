-- The products fit an i64, and so does their sum.
use lib.IntN.{pos, ◌+ℤ◌, ◌*ℤ◌}
use mir.Syntax.{w64}
use mir.ValLaws.{to_z-of_z}
use Rattle.signed.proofs.FitLaws.{read-product}
use Rattle.insertion.proofs.MeanLaws.{products-fit}
use Rattle.insertion_parts.proofs.weighted_sum.Goals as goal

pub returns : goal.returns
returns c = record {
  answer = let a = c.args in
      let f = c.ranges in
      let first = c.product in let second = c.product-2 in rw (read-product a.left a.p first.result f.left.fits f.p first.ensures.answer, read-product a.right a.q second.result f.right.fits f.q second.ensures.answer)
      (to_z-of_z w64 (pos a.left *ℤ a.p +ℤ pos a.right *ℤ a.q) (products-fit a.left a.right a.p a.q f.left.fits f.right.fits f.p f.q));
}
