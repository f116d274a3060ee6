-- Every turn puts one entry's bytes more.
use Rattle.fields.proofs.LoopLaws.{PutSoFar}
use Rattle.fields.proofs.put_entries.Given as goal

abbrev pub invariant-loop-i : goal.invariant-loop-i
invariant-loop-i g l = PutSoFar g.E.Entry.parts g.E.Entry.WIDTH l.at l.entries l.initial.out l.out l.i
