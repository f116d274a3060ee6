-- Every turn reads one entry more.
use Rattle.fields.proofs.LoopLaws.{ReadSoFar}
use Rattle.fields.proofs.read_entries.Given as goal

abbrev pub invariant-loop-i : goal.invariant-loop-i
invariant-loop-i g l = ReadSoFar (g.E.Entry.read l.bytes) g.E.Entry.WIDTH l.at l.initial.place-items l.place-items l.i
