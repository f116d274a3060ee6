-- Bytes have one text, and the first of them tell it where there are more than a record can have.
use mathlib.Core.List.{List}
use mathlib.Core.Logic.{◌⊎◌, inl, inr}
use mathlib.Core.Path.{refl, sym, ◌∙◌}
use Prim.Native.Nat.{ℕ, ◌+◌}
use native.Mathlib.Omega.{arith}
use lib.ListN.{take}
use lib.Seq.{length-take-le}
use Rattle.grid.specs.Limits.{record_most}
use Rattle.format.specs.Format.{form1, IsRecord}
use Rattle.fault.specs.Fault.{Fault}
use Rattle.fault.specs.Kinds.{lone_records}
use Rattle.fault.proofs.OneFaultLaws.{one-fault, file-no-fault}
use Rattle.fault.proofs.WithinLaws.{fault-kept}
use Rattle.breaks.proofs.LoneLaws.{one-record, record-whole, records-told}
use Rattle.round_trip.proofs.RecordTrip.{records-short}
use Rattle.lines.specs.Lines.{broken_line}
use Rattle.svg_text.specs.Text.{drawn_text, SvgTextOf, is_record, is_broken}
use Rattle.svg_text.specs.Program.{SomeSvgText, OneSvgText, BrokenRecordIsOneLine, FrontTellsText}

pub some-svg-text : SomeSvgText
some-svg-text bytes octets = by (records-told.told bytes octets)
  where
    by : IsRecord form1 bytes ⊎ ((number : ℕ) × (place : ℕ) × Fault lone_records bytes number place) → (text : List ℕ) × SvgTextOf bytes text
    by (inl w) = (drawn_text w.m w.c, is_record w refl)
    by (inr (number, place, fault)) = (broken_line number place, is_broken fault refl)

pub one-svg-text : OneSvgText
one-svg-text bytes a b (is_record w e) (is_record v f) = let same = one-record w v in e ∙ rw (same.degree, same.curve) (sym f)
one-svg-text bytes a b (is_record w e) (is_broken fault f) = absurd (file-no-fault lone_records bytes fault w)
one-svg-text bytes a b (is_broken fault e) (is_record v f) = absurd (file-no-fault lone_records bytes fault v)
one-svg-text bytes a b (is_broken fault e) (is_broken other f) = let same = one-fault lone_records bytes fault other in e ∙ rw (same.0, same.1) (sym f)

pub broken-record-is-one-line : BrokenRecordIsOneLine
broken-record-is-one-line bytes text number place fault t = one-svg-text bytes text (broken_line number place) t (is_broken fault refl)

pub front-tells-text : FrontTellsText
front-tells-text bytes text long (is_record w e) =
    absurd (omega (arith, records-short (take (record_most + 1) bytes) w, length-take-le (record_most + 1) bytes (omega arith)))
front-tells-text bytes text long (is_broken fault e) =
    is_broken (fault-kept lone_records record_most records-short record-whole bytes (record_most + 1) (omega arith) (omega arith) fault) e
