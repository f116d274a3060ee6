-- The loop's invariant: the first k places hold the coordinates, the others 0.
use Rattle.pieces.specs.Loaded.{Loaded}
use Rattle.pieces.proofs.loading.loaded.Given as goal

abbrev pub invariant-loop-k : goal.invariant-loop-k
invariant-loop-k l = Loaded l.ps l.from l.k l.row
