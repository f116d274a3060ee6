-- A record is read by the check's number and the room's, each where it was judged; broken bytes tell where they break.
use Rattle.std.specs.Prelude.{Result, Ok, Err, List, ◌≡◌, ℕ, ◌/◌}
use mathlib.Core.Path.{sym, ap, ◌∙◌, subst}
use native.Mathlib.Omega.{arith}
use Rattle.fields.specs.Bytes.{Octets}
use Rattle.refusal.specs.Answers.{number_of}
use Rattle.refusal.specs.declared.Refusal.{Refusal}
use Rattle.refusal.proofs.AnswerLaws.{refused-above_zero}
use Rattle.curve.specs.HandingOver.{room_number, handed_over}
use Rattle.curve.specs.Lists.{Lists}
use Rattle.curve.proofs.HandingLaws.{handed_over-refused}
use Rattle.grid.proofs.ThenLaws.{checked_then-refused, checked_then-passed}
use Rattle.layout.specs.Judging.{sound, whole_record}
use Rattle.layout.specs.StoredCurve.{degree_in, curve_in}
use Rattle.layout.proofs.StoredLaws.{stored-xs}
use Rattle.layout.proofs.WholeLaws.{record-of-sound}
use Rattle.taken_field.specs.declared.Break.{Break}
use Rattle.taken_field.specs.declared.Failure.{Failure}
use Rattle.taken_field.specs.declared.Failure.TheVariants.{Broken, Refused}
use Rattle.fault.specs.Kinds.{lone_records}
use Rattle.fault.specs.Verdict.{judged, broken}
use Rattle.fault.proofs.OneFaultLaws.{fault-refuses}
use Rattle.breaks.proofs.LoneLaws.{record-fault}
use Rattle.stored_check.specs.StoredNumber.{number_in}
use Rattle.stored_check.specs.Told.{Tells}
use Rattle.stored_check.proofs.ToldLaws.{told_refused, told_broken}
use Rattle.record.specs.Reading.{record_number, ReadAnswers, RecordRead, is_record, is_broken}
use Rattle.record.specs.declared.StoredCurve.{StoredCurve}

module _ (bytes : List ℕ) (octets : Octets bytes) (before : Lists) where
  -- nobody's
  pub read_broken : (found : Break) → whole_record bytes ≡ Err found → (answer : Result StoredCurve Failure) → answer ≡ Err (Broken found)
      → RecordRead bytes before answer before
  read_broken found breaks answer is =
      let fault = record-fault bytes octets found breaks in
      record {
        verdict = broken (number_of found.refusal) found.place;
        m = 0;
        c = before;
        comes_to = is_broken fault 0 before;
        answers = told_broken _ answer found is;
        hands = sym (handed_over-refused (number_of found.refusal) before before (fault-refuses lone_records bytes fault));
      }

  module _ (k x y : ℕ) (known : whole_record bytes ≡ sound k x y) where
    abbrev stored : Lists
    stored = curve_in bytes k x y

    abbrev number : ℕ
    number = record_number (degree_in bytes) stored before

    -- the record of the lists in them
    read_sound : (answer : Result StoredCurve Failure) (now : Lists) → Tells (judged number) (record { degree = degree_in bytes; points = x / 4 }) answer
        → now ≡ handed_over number stored before → RecordRead bytes before answer now
    read_sound answer now told hands =
        record {
          verdict = judged number;
          m = degree_in bytes;
          c = stored;
          comes_to = is_record (record-of-sound bytes octets k x y known);
          answers = subst (λ (n : ℕ). ReadAnswers (judged number) (degree_in bytes) n answer) (sym (stored-xs bytes k x y)) told;
          hands = hands;
        }

    -- the check refuses
    pub read_unchecked : (answer : Result StoredCurve Failure) (e : Refusal) → answer ≡ Err (Refused e) → number_of e ≡ number_in bytes k x y
        → RecordRead bytes before answer before
    unfolding record_number
    read_unchecked answer e is told =
        let above = refused-above_zero e in
        let same : number ≡ number_of e =
        checked_then-refused (degree_in bytes) stored.knots stored.xs stored.ys (room_number stored before) (λ z. omega (arith, above, told)) ∙ sym told in
        read_sound answer before (told_refused number _ answer e is (sym same)) (sym (handed_over-refused number stored before (λ z. omega (arith, above, same))))

    -- it passes, and only the room is left
    module _ (passes : number_in bytes k x y ≡ 0) where
      number-room : number ≡ room_number stored before
      unfolding record_number
      number-room = checked_then-passed (degree_in bytes) stored.knots stored.xs stored.ys (room_number stored before) passes

      pub read_cramped : (answer : Result StoredCurve Failure) (e : Refusal) → answer ≡ Err (Refused e) → number_of e ≡ room_number stored before
          → (now : Lists) → now ≡ handed_over (number_of e) stored before → RecordRead bytes before answer now
      read_cramped answer e is told now hands =
          let same : number_of e ≡ number = told ∙ sym number-room in
          read_sound answer now (told_refused number _ answer e is same) (rw (← same) hands)

      pub read_done : 0 ≡ room_number stored before → (d : ℕ) → d ≡ degree_in bytes → (now : Lists) → now ≡ handed_over 0 stored before
          → RecordRead bytes before (Ok (record { degree = d; points = x / 4 })) now
      read_done told d is_degree now hands =
          let none : 0 ≡ number = told ∙ sym number-room in
          read_sound (Ok (record { degree = d; points = x / 4 })) now (ap judged none, ap (λ (m : ℕ). record { degree = m; points = x / 4 }) is_degree) (rw (← none) hands)
