-- The copy stands at the fronts of the work lists, or row 11 refuses.
use mathlib.Core.Path.{◌≡◌}
use borrow.Author.Rules.{rules}
use Rattle.std.specs.Prelude.{Err}
use Rattle.curve.specs.Lists.{lists}
use Rattle.grid.proofs.SizeLaws.{sizes-of-passes}
use Rattle.checked.specs.Along.{lists_of}
use Rattle.checked.proofs.CheckedLaws.{checked-of-passes}
use Rattle.svg_out.proofs.WorkLaws.{copy-refused, front-ready, front-answers}
use Rattle.svg_out.proofs.open_ends.write_clamped.Goals as goal

pub returns-in_err-points : goal.returns-in_err-points
returns-in_err-points c = record {
  answer = let a = c.args in
      let refused = c.in_err-points.field-0.0 in
      let same : c.from_residual.result ≡ Err refused = search rules in
      rw same (copy-refused a.curve.degree (lists_of a.curve) (lists a.ts.now a.us.now a.ws.now) a.curve.passes c.requires refused _ c.in_err-points.ensures.answer a.out.now);
}

pub invariant_of-copy : goal.invariant_of-copy
invariant_of-copy c =
    let a = c.args in
    let passes = (front-ready a.curve.degree (lists_of a.curve) (lists a.ts.now a.us.now a.ws.now) a.curve.passes c.requires c.in_ok-points.points _ c.in_ok-points.ensures.answer).0 in
    record { passes = passes; sizes = sizes-of-passes _ _ _ _ passes; rising = (checked-of-passes _ _ _ _ passes).rising }

pub write_checked-requires : goal.write_checked-requires
write_checked-requires c = let a = c.args in
    (front-ready a.curve.degree (lists_of a.curve) (lists a.ts.now a.us.now a.ws.now) a.curve.passes c.requires c.in_ok-points.points _ c.in_ok-points.ensures.answer).1

pub returns : goal.returns
returns c = record {
  answer = let a = c.args in
      front-answers a.curve.degree (lists_of a.curve) (lists a.ts.now a.us.now a.ws.now) a.curve.passes c.requires c.in_ok-points.points _ c.in_ok-points.ensures.answer a.out.now _ _ c.write_checked.ensures.answer;
}
