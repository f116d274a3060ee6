-- A refusal leaves the lists; else v is an inner knot, and what is left is handed over.
use mathlib.Core.Path.{sym, ◌∙◌}
use native.Mathlib.Omega.{arith}
use Rattle.std.proofs.Common.{rules, length}
use Rattle.checked.proofs.CheckedLaws.{checked-of-passes}
use Rattle.remove_knot.proofs.OutcomeLaws.{inner-of-inner_ok, removal_unchecked, removal_not_inner, removal_none, removal_cramped, removal_done}
use Rattle.remove_knot.proofs.remove_knot.Goals as goal

pub returns-in_err-curve : goal.returns-in_err-curve
returns-in_err-curve c = record { answer = removal_unchecked _ _ _ _ _ c.in_err-curve.field-0.0 (search rules) c.in_err-curve.ensures.answer }

pub returns-then-not-inner_ok : goal.returns-then-not-inner_ok
returns-then-not-inner_ok c = record { answer = removal_not_inner _ _ _ _ (search rules) (search rules) }

pub overflow_cast-v : goal.overflow_cast-v
overflow_cast-v c =
    let r = c.in_ok-curve.curve in
    omega (arith, (inner-of-inner_ok _ _ _ _ _ r.passes (sym c.inner_ok.ensures.answer ∙ c.if-not-inner_ok.false)).high, (checked-of-passes _ _ _ _ r.passes).largest (length r.xs.now) (omega (arith, r.sizes.knots)))

pub remove_polygon-requires-clause-inner : goal.remove_polygon-requires-clause-inner
remove_polygon-requires-clause-inner c = inner-of-inner_ok _ _ _ _ _ c.in_ok-curve.curve.passes (sym c.inner_ok.ensures.answer ∙ c.if-not-inner_ok.false)

pub returns-in_err-remove_polygon : goal.returns-in_err-remove_polygon
returns-in_err-remove_polygon c = record {
  answer = removal_none _ _ _ _ (inner-of-inner_ok _ _ _ _ _ (search rules) (search rules)) _ c.in_err-remove_polygon.field-0.0 (search rules) (search rules);
}

pub returns-in_err-receive : goal.returns-in_err-receive
returns-in_err-receive c = record {
  answer = removal_cramped _ _ _ _ (inner-of-inner_ok _ _ _ _ _ (search rules) (search rules)) _ (search rules) _ _ c.in_err-receive.field-0.0 (search rules) c.in_err-receive.ensures.answer c.in_err-receive.ensures.result;
}

pub returns : goal.returns
returns c = record {
  answer = removal_done _ _ _ _ (inner-of-inner_ok _ _ _ _ _ (search rules) (search rules)) _ (search rules) _ c.in_ok-receive.ensures.answer c.in_ok-receive.ensures.result;
}
