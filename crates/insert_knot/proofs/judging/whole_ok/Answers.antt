-- The x axis, then the y axis.
use Rattle.std.proofs.Common.{rules}
use Rattle.insertion.specs.Judged.{whole_ok}
use Rattle.insert_knot.proofs.judging.whole_ok.Goals as goal

pub returns-then-whole_points : goal.returns-then-whole_points
unfolding whole_ok
returns-then-whole_points c = search rules

pub returns-else-whole_points : goal.returns-else-whole_points
unfolding whole_ok
returns-else-whole_points c = search rules
