-- The products fit 64 bits.
use mir.Facts.{to_z-of_z}
use Rattle.clamp_rows.proofs.SizeLaws.{two-read, product-fits}
use Rattle.clamp_rows.proofs.scaled.Goals as goal

pub returns : goal.returns
returns c = record {
  answer = let a = c.args in
      rw (to_z-of_z c.ranges.upper, two-read a.d a.lower c.requires.0 c.requires.1)
      (to_z-of_z (product-fits a.d a.lower a.upper c.requires.0 c.requires.1 c.requires.2));
}
