-- The products fit an i64, and so does their difference.
use lib.IntN.{pos, ◌-ℤ◌, ◌*ℤ◌}
use mir.Syntax.{w64}
use mir.ValLaws.{to_z-of_z}
use Rattle.signed.proofs.FitLaws.{read-product}
use Rattle.removal_walk.proofs.BitsLaws.{difference-fits}
use Rattle.removal_walk.proofs.forward.weighted_difference.Goals as goal

pub returns : goal.returns
returns c = record {
  answer = let a = c.args in
      let f = c.ranges in
      let first = c.product in let second = c.product-2 in rw (read-product a.whole a.p first.result f.whole.fits f.p first.ensures.answer, read-product a.right a.last second.result f.right.fits f.last second.ensures.answer)
      (to_z-of_z w64 (pos a.whole *ℤ a.p -ℤ pos a.right *ℤ a.last) (difference-fits a.whole a.right a.p a.last f.whole.fits f.right.fits f.p f.last));
}
