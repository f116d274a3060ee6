-- What all pieces say is what the pieces from i on say.
use Rattle.std.specs.Prelude.{List, ◌≡◌, ℤ}
use Rattle.spline_pieces.specs.Pieces.{pieces, all_whole}
use Rattle.spline_pieces.proofs.PieceLaws.{pieces_on}
use Rattle.spline_pieces.proofs.AxisPoints.all_whole.Given as goal

abbrev pub invariant-loop-i : goal.invariant-loop-i
invariant-loop-i l = (ps : List ℤ) → all_whole (pieces l.self.params.now ps l.self.ds.now) ≡ all_whole (pieces_on l.self.params.now ps l.self.ds.now l.i)
