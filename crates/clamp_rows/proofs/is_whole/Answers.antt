-- The remainder is tested on its bits, which are zero exactly where it is.
use mir.Syntax.{w64}
use mir.ValLaws.{to_z_pos}
use Rattle.signed.proofs.ReadLaws.{number-as-read}
use Rattle.signed.proofs.DivisionLaws.{remainder-none}
use Rattle.clamp_rows.proofs.is_whole.Goals as goal

pub returns : goal.returns
returns c = record {
  answer = let a = c.args.a in
      rw (number-as-read w64 a.upper c.struct_told-1.given.0.1, to_z_pos w64 a.lower c.requires.most)
      (remainder-none a.upper a.lower c.requires.above c.requires.most);
}
