-- `domain::check_parameter` meets its contract: the check's number comes first, then the test of the domain.
use mathlib.Core.Path.{◌≡◌, sym, ◌∙◌}
use native.Mathlib.Omega.{arith}
use Rattle.std.proofs.Common.{rules}
use Rattle.refusal.specs.Answers.{number_of, number_in}
use Rattle.refusal.proofs.AnswerLaws.{refused-above_zero}
use Rattle.domain.proofs.ParameterLaws.{curve-refused, curve-passed}
use Rattle.domain.proofs.check_parameter.Goals as goal

pub returns-in_err-curve-clause-answer : goal.returns-in_err-curve-clause-answer
returns-in_err-curve-clause-answer c =
    let x = c.args in
    let e = c.in_err-curve.field-0.0 in
    let above = refused-above_zero e in
    let same : number_in c.from_residual.result ≡ number_of e = search rules in
    same ∙ c.in_err-curve.ensures.answer ∙ curve-refused x.degree x.knots.now x.xs.now x.ys.now x.t (λ z. omega (arith, c.in_err-curve.ensures.answer))

pub returns-then-not-in_domain-clause-answer : goal.returns-then-not-in_domain-clause-answer
returns-then-not-in_domain-clause-answer c =
    let k = c.in_ok-curve.curve in
    let same = c.in_ok-curve.ensures.result in
    rw (← same.0, ← same.1, ← same.2, ← same.3)
    (sym (curve-passed k.degree k.knots.now k.xs.now k.ys.now c.args.t k.passes ∙ simp (← c.in_domain.ensures.answer, c.if-not-in_domain.true)))

pub returns-clause-answer : goal.returns-clause-answer
returns-clause-answer c =
    let k = c.in_ok-curve.curve in
    let same = c.in_ok-curve.ensures.result in
    rw (← same.0, ← same.1, ← same.2, ← same.3)
    (sym (curve-passed k.degree k.knots.now k.xs.now k.ys.now c.args.t k.passes ∙ simp (← c.in_domain.ensures.answer, c.if-not-in_domain.false)))
