-- A refusal leaves the lists; a curve with no inner knot is handed over as it is; else the pass ends the call.
use Rattle.std.proofs.Common.{rules}
use Rattle.compact.proofs.OutcomeLaws.{compact_unchecked, compact_cramped, compact_whole}
use Rattle.compact.proofs.compact.Goals as goal

pub returns-in_err-curve : goal.returns-in_err-curve
returns-in_err-curve c = record { answer = compact_unchecked _ _ _ _ c.in_err-curve.field-0.0 (search rules) c.in_err-curve.ensures.answer }

pub returns-in_err-receive : goal.returns-in_err-receive
returns-in_err-receive c = record {
  answer = compact_cramped _ _ _ (search rules) (search rules) _ _ c.in_err-receive.field-0.0 (search rules) c.in_err-receive.ensures.answer c.in_err-receive.ensures.result;
}

pub returns-then-xs-curve : goal.returns-then-xs-curve
returns-then-xs-curve c = record { answer = compact_whole _ _ _ (search rules) (search rules) _ c.in_ok-receive.ensures.answer c.in_ok-receive.ensures.result }
