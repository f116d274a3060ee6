-- The refusal of measuring, the room, or the text.
use mathlib.Core.Path.{◌≡◌}
use native.Mathlib.Omega.{arith}
use borrow.Author.Rules.{rules}
use Rattle.std.specs.Prelude.{Err}
use Rattle.checked.specs.Along.{lists_of}
use Rattle.svg_out.proofs.OutcomeLaws.{insertion-refuses, room-refuses, text-written}
use Rattle.svg_out.proofs.write_checked.Goals as goal

pub returns-in_err-length : goal.returns-in_err-length
returns-in_err-length c = record {
  answer = let a = c.args in
      let refused = c.in_err-length.field-0.0 in
      let same : c.from_residual.result ≡ Err refused = search rules in
      rw same (insertion-refuses a.curve.degree (lists_of a.curve) a.out.now a.curve.passes refused c.in_err-length.ensures.answer);
}

pub returns-then-out-length : goal.returns-then-out-length
returns-then-out-length c = record {
  answer = let a = c.args in
      room-refuses a.curve.degree (lists_of a.curve) a.out.now a.curve.passes c.in_ok-length.length c.in_ok-length.ensures.answer c.if-out-length.true;
}

pub returns : goal.returns
returns c = record {
  answer = let a = c.args in
      text-written a.curve.degree (lists_of a.curve) a.out.now a.curve.passes c.in_ok-length.length c.in_ok-length.ensures.answer _ (omega (arith, c.if-out-length.false)) c.put_path.ensures.result;
}
