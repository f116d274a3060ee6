-- The lines of a clamp that stands, and else nothing.
use mathlib.Core.Path.{sym, ◌∙◌}
use native.Mathlib.Numerals.{add-one}
use Rattle.checked.specs.Along.{lists_of}
use Rattle.clamp_lines.proofs.ClampPartLaws.{put-nothing, no-clamp, clamp-there}
use Rattle.clamp_lines.proofs.put_clamp.Goals as goal

pub returns-then-stands-clause-result : goal.returns-then-stands-clause-result
returns-then-stands-clause-result c = let a = c.args in
    rw (clamp-there a.curve.degree (lists_of a.curve) a.radius a.count a.sides.now a.k (sym c.stands.ensures.answer ∙ c.if-stands.true))
    (rw (c.clamp_at.ensures.answer, add-one a.k) at c.put_met.ensures.result)

pub returns-else-stands-clause-result : goal.returns-else-stands-clause-result
returns-else-stands-clause-result c = let a = c.args in
    put-nothing a.pen.now.out.now a.pen.now.at (no-clamp a.curve.degree (lists_of a.curve) a.radius a.count a.sides.now a.k (sym c.stands.ensures.answer ∙ c.if-stands.false))
