-- Part 0 is the curve's line, any other that of the clamp before it in the count from 0.
use mathlib.Core.Path.{◌≡◌}
use native.Mathlib.Omega.{arith}
use Rattle.checked.specs.Along.{lists_of}
use Rattle.report.specs.Part.{curve_part}
use Rattle.report.proofs.PartLaws.{part-of-clamp}
use Rattle.report.proofs.put_curve_part.Goals as goal

pub returns-then-k-eq0-clause-result : goal.returns-then-k-eq0-clause-result
unfolding curve_part
returns-then-k-eq0-clause-result c = let first : c.args.k ≡ 0 = omega arith in rw first c.put_curve.ensures.result

pub returns-clause-result : goal.returns-clause-result
returns-clause-result c = let a = c.args in
    rw (part-of-clamp a.curve.degree (lists_of a.curve) a.radius a.count a.sides.now a.k (omega arith)) c.put_clamp.ensures.result
