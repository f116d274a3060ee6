-- A number of the grid is an i32.
use mir.Syntax.{w32, w64}
use mir.ValLaws.{to_z-of_z}
use Rattle.joined_curve.proofs.GridLaws.{on_grid-fits}
use Rattle.joined_curve.proofs.points.narrowed.Goals as goal

pub overflow_cast-result : goal.overflow_cast-result
overflow_cast-result c = rw (to_z-of_z w64 c.args.z c.ranges.z) (on_grid-fits c.args.z c.requires)

pub returns : goal.returns
returns c = record { answer = rw (to_z-of_z w64 c.args.z c.ranges.z) (to_z-of_z w32 c.args.z (on_grid-fits c.args.z c.requires)) }
