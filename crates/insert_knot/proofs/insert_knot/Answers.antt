-- The check first, then the rest: the number is the one of what comes first.
use Rattle.std.proofs.Common.{rules}
use Rattle.insert_knot.proofs.AnswerLaws.{outcome_unchecked}
use Rattle.insert_knot.proofs.insert_knot.Goals as goal

pub returns-in_err-curve : goal.returns-in_err-curve
returns-in_err-curve c = record { answer = outcome_unchecked _ _ _ _ _ c.in_err-curve.field-0.0 (search rules) c.in_err-curve.ensures.answer }
