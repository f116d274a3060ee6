-- Path data and a newline, or the line on the refusal.
use Rattle.curve.specs.Lists.{lists}
use Rattle.svg_text.proofs.DrawnLaws.{newline-fits, drawn-put, line-put}
use Rattle.svg_text.proofs.put_drawing.Goals as goal

pub put_newline-requires : goal.put_newline-requires
put_newline-requires c = let a = c.args in
    newline-fits a.degree (lists a.knots.now a.xs.now a.ys.now) a.text.now c.requires c.in-Ok.length _ c.in-Ok.ensures.answer

pub returns-in-Ok : goal.returns-in-Ok
returns-in-Ok c = record {
  result = let a = c.args in
      drawn-put a.degree (lists a.knots.now a.xs.now a.ys.now) a.text.now c.requires c.in-Ok.length _ c.in-Ok.ensures.answer _ _ c.put_newline.ensures.result;
}

pub returns-in-Err : goal.returns-in-Err
returns-in-Err c = record {
  result = let a = c.args in
      line-put a.degree (lists a.knots.now a.xs.now a.ys.now) a.text.now c.requires c.in-Err.refusal _ c.in-Err.ensures.answer _ _ c.put_refusal.ensures.result;
}
