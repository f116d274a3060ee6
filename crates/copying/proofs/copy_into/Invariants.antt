-- The copy loop: the first entries are copied, the rest as before.
use Rattle.copying.proofs.CopyLaws.{Copied}
use Rattle.copying.proofs.copy_into.Given as goal

abbrev pub invariant-loop-i : goal.invariant-loop-i
invariant-loop-i g l = Copied l.from l.initial.to l.to l.count l.i
