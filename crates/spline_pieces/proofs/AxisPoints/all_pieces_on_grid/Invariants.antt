-- What all pieces say is what the pieces from i on say.
use Rattle.std.specs.Prelude.{◌≡◌}
use Rattle.spline_pieces.specs.Pieces.{pieces, all_pieces_on_grid}
use Rattle.spline_pieces.proofs.PieceLaws.{pieces_on}
use Rattle.spline_pieces.proofs.AxisPoints.all_pieces_on_grid.Given as goal

abbrev pub invariant-loop-i : goal.invariant-loop-i
invariant-loop-i l = all_pieces_on_grid (pieces l.self.params.now l.self.ps.now l.self.ds.now) ≡ all_pieces_on_grid (pieces_on l.self.params.now l.self.ps.now l.self.ds.now l.i)
