-- Row 7: the flag says whether the entries that were passed are on the grid.
use Rattle.std.proofs.Common.{◌≡◌, take}
use Rattle.grid.specs.Rows.{all_on_grid}
use Rattle.grid.proofs.range.all_on_grid.Given as goal

abbrev pub invariant-loop-z : goal.invariant-loop-z
invariant-loop-z l = l.fine ≡ all_on_grid (take l.z-index l.zs)
