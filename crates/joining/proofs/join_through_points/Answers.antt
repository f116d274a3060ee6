-- The judging first, then the rest: the number is the one of what comes first.
use Rattle.std.proofs.Common.{rules}
use Rattle.joining.proofs.AnswerLaws.{outcome_judged}
use Rattle.joining.proofs.join_through_points.Goals as goal

pub returns-in_err-points : goal.returns-in_err-points
returns-in_err-points c = record { answer = outcome_judged _ _ _ _ c.in_err-points.field-0.0 (search rules) c.in_err-points.ensures.answer }
