-- What has been read lies in the list.
use Rattle.std.proofs.Common.{◌≤◌, length}
use Rattle.curvesvg.proofs.read_input.Given as goal

abbrev pub invariant-loop : goal.invariant-loop
invariant-loop l = l.filled ≤ length l.input
