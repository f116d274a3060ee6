-- The line on one span more stands behind the lines on those before it.
use Rattle.std.proofs.Common.{◌∙◌, refl, arith}
use lib.ListN.{get_or, take}
use Rattle.lines.specs.Lines.{meet_line, meet_lines}
use Rattle.digits.proofs.PutLaws.{put-none, two-second, two-joined}
use Rattle.lines.proofs.LinesLaws.{meet_lines-next, meet_lines-room}
use Rattle.lines.proofs.put_meet_lines.Goals as goal

pub loop-k-init : goal.loop-k-init
unfolding meet_lines
loop-k-init c = (put-none _ _, refl)

pub put_meet_line-requires : goal.put_meet_line-requires
put_meet_line-requires c = let a = c.args in let k = c.loop-k.k in
    rw (c.from.ensures, c.from-in-loop-k.ensures)
    (two-second a.pen.now.out.now a.pen.now.at (meet_lines a.clamp (take k a.lows.now) (take k a.highs.now)) (meet_line a.clamp (get_or a.lows.now k 0) (get_or a.highs.now k 0)) (omega (arith, meet_lines-room a.clamp k a.lows.now a.highs.now (omega arith) (omega arith), c.requires.highs_in_bounds)) c.loop-k.invariant.0)

pub loop-k-preserved : goal.loop-k-preserved
loop-k-preserved c = let a = c.args in let k = c.loop-k.k in
    let line = rw (c.from.ensures, c.from-in-loop-k.ensures) at c.put_meet_line.ensures.result in (
      rw (meet_lines-next a.clamp k a.lows.now a.highs.now (omega arith) (omega arith))
          (two-joined a.pen.now.out.now a.pen.now.at (meet_lines a.clamp (take k a.lows.now) (take k a.highs.now)) (meet_line a.clamp (get_or a.lows.now k 0) (get_or a.highs.now k 0)) (omega (arith, meet_lines-room a.clamp k a.lows.now a.highs.now (omega arith) (omega arith), c.requires.highs_in_bounds)) c.loop-k.invariant.0 line),
      c.put_meet_line.ensures.name ∙ c.loop-k.invariant.1,
    )
