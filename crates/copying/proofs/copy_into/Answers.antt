-- The copy loop: every turn copies one entry more.
use Rattle.std.proofs.Common.{sym}
use Rattle.copying.proofs.CopyLaws.{copied_more, copied_all}
use Rattle.copying.proofs.copy_into.Goals as goal

pub loop-i-preserved : goal.loop-i-preserved
loop-i-preserved g c = copied_more c.loop-i.invariant c.index-from-i.result c.index-from-i.result c.loop-i-test.true (sym c.index-from-i.is)

pub returns : goal.returns
returns g c = record { result = copied_all c.loop-i.invariant c.loop-i-test.false }
