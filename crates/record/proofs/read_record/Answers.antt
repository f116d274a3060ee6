-- Sound bytes are the record of the lists in them, others are nobody's.
use Rattle.std.proofs.Common.{rules, ◌≡◌, Ok}
use mathlib.Core.Path.{sym}
use Rattle.layout.specs.Judging.{whole_record}
use Rattle.layout.proofs.WholeLaws.{whole-lone}
use Rattle.record.proofs.ReadLaws.{read_broken, read_unchecked, read_cramped, read_done}
use Rattle.record.proofs.read_record.Goals.{In_ok-layout}
use Rattle.record.proofs.read_record.Goals as goal

known : (c : In_ok-layout) → whole_record c.args.bytes.now ≡ Ok c.in_ok-layout.layout
known c = sym c.in_ok-layout.ensures.answer

pub returns-in_err-layout : goal.returns-in_err-layout
returns-in_err-layout c = record {
  answer = read_broken c.args.bytes.now (λ i. (c.type_inv.bytes i).fits) _ c.in_err-layout.field-0.0 (search rules) _ (search rules);
}

pub invariant_of-stored : goal.invariant_of-stored
invariant_of-stored c = record { sound = (whole-lone _ _ _ _ (known (goal.at.invariant_of-stored c).In_ok-layout)).layout }

pub returns-in_err-curve_number : goal.returns-in_err-curve_number
returns-in_err-curve_number c = record {
  answer = let l = c.in_ok-layout.layout in
      read_unchecked c.args.bytes.now (λ i. (c.type_inv.bytes i).fits) _ l.knots l.xs l.ys (known (goal.at.returns-in_err-curve_number c).In_ok-layout)
      _ c.in_err-curve_number.field-0.0 (search rules) (search rules);
}

pub returns-in_err-hand_over : goal.returns-in_err-hand_over
returns-in_err-hand_over c = record {
  answer = let l = c.in_ok-layout.layout in
      read_cramped c.args.bytes.now (λ i. (c.type_inv.bytes i).fits) _ l.knots l.xs l.ys (known (goal.at.returns-in_err-hand_over c).In_ok-layout)
      (search rules) _ c.in_err-hand_over.field-0.0 (search rules) (search rules) _ c.in_err-hand_over.ensures.result;
}

pub returns : goal.returns
returns c = record {
  answer = let l = c.in_ok-layout.layout in
      read_done c.args.bytes.now (λ i. (c.type_inv.bytes i).fits) _ l.knots l.xs l.ys (known (goal.at.returns c).In_ok-layout)
      (search rules) (search rules) _ c.degree.ensures.answer _ c.in_ok-hand_over.ensures.result;
}
