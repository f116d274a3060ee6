-- The first piece has the move before it, any other its segment alone.
use native.Mathlib.Omega.{arith}
use Rattle.digits.proofs.PutLaws.{two-first, two-second, two-joined}
use Rattle.path_data.specs.Text.{move_text, segment_text}
use Rattle.svg_out.proofs.WriteLaws.{part-segment, part-both}
use Rattle.svg_out.proofs.writing.put_part.Goals.{then-k-eq0, else-k-eq0}
use Rattle.svg_out.proofs.writing.put_part.Goals as goal

pub put_move-requires : goal.put_move-requires
put_move-requires c = let a = c.args in
    let text = part-both a.m a.k a.piece c.if-k-eq0.true in
    two-first a.pen.now.out.now a.pen.now.at (move_text a.piece) (segment_text a.m a.piece) (rw text c.requires.piece_in_bounds)

pub put_segment-requires-clause-piece_in_bounds : goal.put_segment-requires-clause-piece_in_bounds
put_segment-requires-clause-piece_in_bounds c = let a = c.args in
    elim c.if-k-eq0.branch [
      | then-k-eq0 w ↦
          let text = part-both a.m a.k a.piece w.if-k-eq0.true in
          rw w.pen-is (two-second a.pen.now.out.now a.pen.now.at (move_text a.piece) (segment_text a.m a.piece) (rw text c.requires.piece_in_bounds) w.put_move.ensures.result)
      | else-k-eq0 w ↦
          let text = part-segment a.m a.k a.piece (omega (arith, w.if-k-eq0.false)) in
          rw w.pen-is (rw text c.requires.piece_in_bounds)
    ]

pub returns-clause-result : goal.returns-clause-result
returns-clause-result c = let a = c.args in
    elim c.if-k-eq0.branch [
      | then-k-eq0 w ↦
          let text = part-both a.m a.k a.piece w.if-k-eq0.true in
          rw (← text) (two-joined a.pen.now.out.now a.pen.now.at (move_text a.piece) (segment_text a.m a.piece) (rw text c.requires.piece_in_bounds) w.put_move.ensures.result (rw w.pen-is at c.put_segment.ensures.result))
      | else-k-eq0 w ↦
          let text = part-segment a.m a.k a.piece (omega (arith, w.if-k-eq0.false)) in
          rw (← text) (rw w.pen-is at c.put_segment.ensures.result)
    ]
