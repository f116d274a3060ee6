-- The line is part 0, and there is no other.
use native.Mathlib.Omega.{arith}
use Rattle.lines.proofs.LengthLaws.{refused_line-most}
use Rattle.report.proofs.PartLaws.{refused-first, refused-later}
use Rattle.clamp_lines.proofs.ClampPartLaws.{put-nothing}
use Rattle.report.proofs.put_refusal.Goals as goal

pub put_refused_line-requires : goal.put_refused_line-requires
put_refused_line-requires c = omega (arith, c.requires, refused_line-most c.args.number (omega arith))

pub returns-then-k-eq0-clause-result : goal.returns-then-k-eq0-clause-result
returns-then-k-eq0-clause-result c = let a = c.args in
    rw (refused-first a.number a.k c.if-k-eq0.true) c.put_refused_line.ensures.result

pub returns-else-k-eq0-clause-result : goal.returns-else-k-eq0-clause-result
returns-else-k-eq0-clause-result c = let a = c.args in
    put-nothing a.pen.now.out.now a.pen.now.at (refused-later a.number a.k c.if-k-eq0.false)
