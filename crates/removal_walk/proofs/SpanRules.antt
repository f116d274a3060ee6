-- Where the span of v lies among the knots, for the tactics.
use Rattle.removal.proofs.EquationLaws.{reduced-least, reduced-most}

pub ruleset span_inside = (reduced-least, reduced-most)
