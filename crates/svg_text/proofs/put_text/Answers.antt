-- By what reading answered: the curve's text, the line on the break, or the line on the refusal.
use Rattle.curve.specs.Lists.{lists}
use Rattle.svg_text.proofs.ReadLaws.{place-most, fronts-within, curve-text, broken-fault, broken-text, refused-text}
use Rattle.svg_text.proofs.put_text.Goals as goal

pub put_read-requires-clause-fronts : goal.put_read-requires-clause-fronts
put_read-requires-clause-fronts c = let a = c.args in
    fronts-within a.bytes.now (lists a.knots.now a.xs.now a.ys.now) _ c.in-Ok.stored.degree c.in-Ok.stored.points c.in-Ok.ensures.answer

pub put_break-requires : goal.put_break-requires
put_break-requires c = let a = c.args in
    (place-most a.bytes.now (broken-fault a.bytes.now (lists a.knots.now a.xs.now a.ys.now) _ c.in-Err-Broken.found (rw c.in-Err-Broken.field-0-is at c.in-Err-Broken.ensures.answer)), c.requires.on_text)

pub returns-in-Ok : goal.returns-in-Ok
returns-in-Ok c = record {
  result = let a = c.args in
      curve-text a.bytes.now (lists a.knots.now a.xs.now a.ys.now) _ c.in-Ok.stored.degree c.in-Ok.stored.points c.in-Ok.ensures.answer c.put_read.ensures.result;
}

pub returns-in-Err-Broken : goal.returns-in-Err-Broken
returns-in-Err-Broken c = record {
  result = let a = c.args in
      broken-text a.bytes.now (lists a.knots.now a.xs.now a.ys.now) _ c.in-Err-Broken.found (rw c.in-Err-Broken.field-0-is at c.in-Err-Broken.ensures.answer) c.put_break.ensures.result;
}

pub returns-in-Err-Refused : goal.returns-in-Err-Refused
returns-in-Err-Refused c = record {
  result = let a = c.args in
      refused-text a.bytes.now (lists a.knots.now a.xs.now a.ys.now) _ a.text.now c.requires c.in-Err-Refused.refusal (rw c.in-Err-Refused.field-0-is at c.in-Err-Refused.ensures.answer) c.put_refusal.ensures.result;
}
