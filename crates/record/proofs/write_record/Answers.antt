-- The check first, then the room, then the record put at the front.
use Rattle.std.proofs.Common.{rules, length, ◌*◌}
use mathlib.Core.Path.{sym}
use Rattle.curve.specs.Lists.{Lists, lists}
use Rattle.format.specs.RecordPlaces.{record_end}
use Rattle.format.proofs.SizeLaws.{record-size}
use Rattle.record.proofs.WriteLaws.{write_unchecked, write_cramped, written}
use Rattle.record.proofs.write_record.Goals as goal

pub returns-in_err-curve : goal.returns-in_err-curve
returns-in_err-curve c =
    let a = c.args in
    let whole = write_unchecked a.degree (lists a.knots.now a.xs.now a.ys.now) a.out.now c.from_residual.result c.in_err-curve.field-0.0 (search rules) (search rules) in record { answer = whole.0; result = whole.1 }

pub returns-then-out-size : goal.returns-then-out-size
returns-then-out-size c =
    let a = c.args in
    let l : Lists = lists a.knots.now a.xs.now a.ys.now in
    let whole = write_cramped a.degree l a.out.now (sym c.in_ok-curve.ensures.answer) (record_end (2 * length l.knots) (4 * length l.xs) (4 * length l.ys)) (record-size a.degree l) c.if-out-size.true in record { answer = whole.0; result = whole.1 }

pub returns : goal.returns
returns c =
    let a = c.args in
    let l : Lists = lists a.knots.now a.xs.now a.ys.now in
    let whole = written a.degree l a.out.now (sym c.in_ok-curve.ensures.answer) c.put_record.new.out (record_end (2 * length l.knots) (4 * length l.xs) (4 * length l.ys)) (record-size a.degree l) c.if-out-size.false (search rules) in record { answer = whole.0; result = whole.1 }
