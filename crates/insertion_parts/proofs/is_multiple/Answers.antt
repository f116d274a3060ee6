-- The remainder is tested on its bits, which are zero exactly where it is.
use mir.Syntax.{w64}
use mir.ValLaws.{to_z-of_z}
use Rattle.signed.specs.Division.{divides}
use Rattle.signed.proofs.FitLaws.{read_short}
use Rattle.insertion.proofs.MeanLaws.{remainder-zero}
use Rattle.insertion_parts.proofs.is_multiple.Goals as goal

pub returns : goal.returns
unfolding divides
returns c = record {
  answer = rw (to_z-of_z w64 c.args.sum c.ranges.sum, c.from.ensures, read_short c.args.d c.ranges.d.fits)
      (remainder-zero c.args.sum c.args.d c.requires c.ranges.d.fits);
}
