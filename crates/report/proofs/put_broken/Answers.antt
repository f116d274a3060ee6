-- The line is part 0, and there is no other.
use native.Mathlib.Omega.{arith}
use Rattle.lines.proofs.LengthLaws.{broken_line-most}
use Rattle.report.proofs.PartLaws.{broken-first, broken-later, broken-beyond}
use Rattle.clamp_lines.proofs.ClampPartLaws.{put-nothing}
use Rattle.report.proofs.put_broken.Goals.{else-k-eq0-via-then-k-eq0+else-place-le-JOB_MOST, else-k-eq0-via-else-k-eq0}
use Rattle.report.proofs.put_broken.Goals as goal

pub put_broken_line-requires : goal.put_broken_line-requires
put_broken_line-requires c = omega (arith, c.requires, broken_line-most c.args.number c.args.place (omega arith) (omega arith))

pub returns-then-place-le-JOB_MOST-clause-result : goal.returns-then-place-le-JOB_MOST-clause-result
returns-then-place-le-JOB_MOST-clause-result c = let a = c.args in
    rw (broken-first a.number a.place a.k c.if-k-eq0.true (omega arith)) c.put_broken_line.ensures.result

pub returns-else-k-eq0-clause-result : goal.returns-else-k-eq0-clause-result
returns-else-k-eq0-clause-result c = let a = c.args in
    put-nothing a.pen.now.out.now a.pen.now.at
    (elim c.else-k-eq0.branch [
      | else-k-eq0-via-then-k-eq0+else-place-le-JOB_MOST w ↦ broken-beyond a.number a.place a.k w.if-k-eq0.true (omega (arith, w.if-place-le-JOB_MOST.false))
      | else-k-eq0-via-else-k-eq0 w ↦ broken-later a.number a.place a.k w.if-k-eq0.false
    ])
