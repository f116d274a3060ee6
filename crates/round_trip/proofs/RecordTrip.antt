-- Records: reading and writing undo each other, and reading has one outcome.
use Rattle.std.specs.Prelude.{Result, Ok}
use mathlib.Core.Bool.{true}
use mathlib.Core.List.{List}
use mathlib.Core.Logic.{◌↔◌}
use mathlib.Core.Path.{◌≡◌, refl, sym, ap, ap₂, ◌∙◌, subst₂}
use Prim.Native.Nat.{ℕ, ◌+◌, ◌≤◌}
use native.Mathlib.Omega.{arith}
use lib.Dec.{lit≤}
use lib.ListN.{length}
use Rattle.lent.specs.Lent.{over, after}
use Rattle.refusal.specs.Numbers.{room_refused}
use Rattle.refusal.specs.declared.Refusal.{Refusal}
use Rattle.refusal.proofs.AnswerLaws.{answers-one}
use Rattle.taken_field.specs.declared.Failure.{Failure}
use Rattle.stored_check.proofs.ToldLaws.{judged_apart, judged_number, broken_number, tells_one, tells_value, tells_other}
use Rattle.refusal.proofs.JudgingLaws.{unless-all}
use Rattle.curve.specs.HandingOver.{room_for, handed_over}
use Rattle.curve.specs.Lists.{Lists}
use Rattle.curve.proofs.ListLaws.{lists-same, same-knots, same-xs, same-ys}
use Rattle.fields.proofs.PlaceLaws.{over-front}
use Rattle.grid.specs.Check.{Passes}
use Rattle.grid.proofs.ThenLaws.{checked_then-passed}
use Rattle.grid.proofs.SizeLaws.{sizes-of-passes}
use Rattle.format.specs.Format.{form1, record_bytes, IsRecord}
use Rattle.format.proofs.SizeLaws.{record-most}
use Rattle.curve.proofs.HandingLaws.{handed_over-refused}
use Rattle.fault.specs.Fault.{Fault}
use Rattle.fault.specs.Kinds.{lone_records}
use Rattle.fault.specs.Verdict.{Verdict, judged, broken, number_of}
use Rattle.fault.proofs.OneFaultLaws.{one-fault, file-no-fault, fault-refuses}
use Rattle.breaks.proofs.LoneLaws.{one-record}
use Rattle.record.specs.Writing.{write_number, WriteAnswers}
use Rattle.record.specs.Reading.{record_number, ReadAnswers, RecordComesTo, RecordRead, is_record, is_broken}
use Rattle.record.specs.declared.StoredCurve.{StoredCurve}
use Rattle.record.proofs.WriteLaws.{write_done}
use Rattle.round_trip.specs.RoundTrip.{front_of, read_as, WrittenReadsBack, ReadWritesBack, OneRecordForEachCurve, FaultsExactly, ReadingDetermined, RecordsShort}
use Rattle.round_trip.proofs.AnswerLaws.{checked_then-zero, checked_then-all}
use Rattle.round_trip.proofs.StorableLaws.{passes-storable}

-- whatever bytes come to, the answer and the lists are one
one-outcome : {bytes : List ℕ} {before : Lists} {s t : Verdict} {m d : ℕ} {c e : Lists} → RecordComesTo bytes before s m c → RecordComesTo bytes before t d e
    → ((a : Result StoredCurve Failure) → ReadAnswers s m (length c.xs) a → ReadAnswers t d (length e.xs) a) × (handed_over (number_of s) c before ≡ handed_over (number_of t) e before)
one-outcome (is_record w) (is_record v) = let same = one-record w v in (rw (same.degree, same.curve) (λ a h. h), rw (same.degree, same.curve))
one-outcome {bytes = bytes} (is_record w) (is_broken g d e) = absurd (file-no-fault lone_records bytes g w)
one-outcome {bytes = bytes} (is_broken f m c) (is_record v) = absurd (file-no-fault lone_records bytes f v)
one-outcome {bytes = bytes} {before = before} (is_broken {number = n} {place = p} f m c) (is_broken {number = k} {place = q} g d e) =
    let same = one-fault lone_records bytes f g in (
      λ a h. tells_other (broken k q) _ a (λ z. judged_apart 0 k q (sym z)) (h.0 ∙ ap₂ broken same.0 same.1),
      handed_over-refused n c before (fault-refuses lone_records bytes f) ∙ sym (handed_over-refused k e before (fault-refuses lone_records bytes g)),
    )

pub reading-determined : ReadingDetermined
reading-determined bytes before answer other now then p q =
    let same = one-outcome p.comes_to q.comes_to in
    (tells_one q.verdict _ answer other (same.0 answer p.answers) q.answers, p.hands ∙ same.1 ∙ sym q.hands)

number-accepted : (m : ℕ) (c before : Lists) → Passes m c.knots c.xs c.ys → room_for c before ≡ true → record_number m c before ≡ 0
unfolding record_number
number-accepted m c before p room = checked_then-passed m c.knots c.xs c.ys _ p ∙ rw room

pub written-reads-back : WrittenReadsBack
written-reads-back m c p before answer now room read =
    let w : IsRecord form1 (record_bytes form1 m c) = record { m = m; c = c; storable = passes-storable m c p; same = refl } in
    let zero : record_number m c before ≡ 0 = number-accepted m c before p room in
    let same = one-outcome read.comes_to (is_record w) in
    (tells_value _ _ answer (same.0 answer read.answers) (ap judged zero), read.hands ∙ same.1 ∙ rw zero)

number-passes : (m : ℕ) (c before : Lists) → record_number m c before ≡ 0 → Passes m c.knots c.xs c.ys
unfolding record_number
number-passes m c before e = (checked_then-zero m c.knots c.xs c.ys _ e).0

-- what an answer that is a curve says: the front of the lists passes and has so many points, and the bytes are its record
pub record Stored (bytes : List ℕ) (m n : ℕ) (c : Lists) : Type 0 where
  pub passes : Passes m c.knots c.xs c.ys
  pub points : length c.xs ≡ n
  pub same : bytes ≡ record_bytes form1 m c

module _ (bytes : List ℕ) (before : Lists) (m n : ℕ) (now : Lists) where
  front-stored : (w : IsRecord form1 bytes) → record_number w.m w.c before ≡ 0 → m ≡ w.m → n ≡ length w.c.xs → now ≡ handed_over 0 w.c before
      → Stored bytes m n (front_of m n now)
  front-stored w zero is_m is_n h =
      let p = number-passes w.m w.c before zero in
      let sizes = sizes-of-passes w.m w.c.knots w.c.xs w.c.ys p in
      let front : front_of m n now ≡ w.c =
      lists-same (over-front w.c.knots before.knots now.knots (n + m + 1) (omega (arith, sizes.knots)) (same-knots h))
      (over-front w.c.xs before.xs now.xs n (omega arith) (same-xs h))
      (over-front w.c.ys before.ys now.ys n (omega (arith, sizes.as_many)) (same-ys h)) in
      subst₂ (λ d c. Stored bytes d n c) (sym is_m) (sym front) (record { passes = p; points = sym is_n; same = w.same })

  stored-by : {verdict : Verdict} {d : ℕ} {c : Lists} → RecordComesTo bytes before verdict d c → ReadAnswers verdict d (length c.xs) (read_as m n)
      → now ≡ handed_over (number_of verdict) c before → Stored bytes m n (front_of m n now)
  stored-by (is_broken {number = number} {place = place} f d c) e h = absurd (judged_apart 0 number place e.0)
  stored-by (is_record w) e h =
      let zero : record_number w.m w.c before ≡ 0 = sym (judged_number 0 (record_number w.m w.c before) e.0) in
      front-stored w zero (ap (λ (r : StoredCurve). r.degree) e.1) (ap (λ (r : StoredCurve). r.points) e.1) (h ∙ ap (λ (k : ℕ). handed_over k w.c before) zero)

  pub read-stored : RecordRead bytes before (read_as m n) now → Stored bytes m n (front_of m n now)
  read-stored read = stored-by read.comes_to read.answers read.hands

-- writing a curve that passes, where there is room
written : {n : ℕ} (m : ℕ) (c : Lists) (bytes out : List ℕ) → Stored bytes m n c → length bytes ≤ length out
    → WriteAnswers m c out (Ok (length bytes))
    × ((answer : Result ℕ Refusal) → WriteAnswers m c out answer → answer ≡ Ok (length bytes))
    × (after (write_number m c out) (record_bytes form1 m c) out ≡ over bytes out)
written m c bytes out s room =
    let zero : write_number m c out ≡ 0 = write_done m c out s.passes (rw s.same at room) in
    let told : WriteAnswers m c out (Ok (length bytes)) = (sym zero, ap (λ (l : List ℕ). length l) s.same) in
    (told, λ answer says. answers-one _ _ answer (Ok (length bytes)) says told, rw (zero, s.same))

pub read-writes-back : ReadWritesBack
read-writes-back bytes before m n now read out room = written m (front_of m n now) bytes out (read-stored bytes before m n now read) room

pub one-record-for-each-curve : OneRecordForEachCurve
one-record-for-each-curve bytes others before lent m n now then p q same =
    (read-stored bytes before m n now p).same ∙ ap (record_bytes form1 m) same ∙ sym (read-stored others lent m n then q).same

pub number-most : (m : ℕ) (c before : Lists) → record_number m c before ≤ room_refused
unfolding record_number
number-most m c before =
    checked_then-all m c.knots c.xs c.ys _ (λ n. n ≤ room_refused) (λ n h. omega arith) (unless-all (λ n. n ≤ room_refused) (room_for c before) room_refused 0 (lit≤ tt) (lit≤ tt))

faults-by : {bytes : List ℕ} {before : Lists} {verdict : Verdict} {m : ℕ} {c : Lists} (number place : ℕ) → RecordComesTo bytes before verdict m c
    → (verdict ≡ broken number place) ↔ Fault lone_records bytes number place
faults-by {bytes = bytes} number place (is_broken {number = n} {place = p} f m c) = (
  λ e. let same = broken_number n number p place e in subst₂ (Fault lone_records bytes) same.0 same.1 f,
  λ g. let same = one-fault lone_records bytes f g in ap₂ broken same.0 same.1,
)
faults-by {bytes = bytes} {before = before} number place (is_record w) = (
  λ e. absurd (judged_apart (record_number w.m w.c before) number place e),
  λ g. absurd (file-no-fault lone_records bytes g w),
)

pub faults-exactly : FaultsExactly
faults-exactly bytes before answer now number place read =
    let by = faults-by number place read.comes_to in
    (λ e. by.0 (sym read.answers.0 ∙ e), λ g. read.answers.0 ∙ by.1 g)

pub records-short : RecordsShort
records-short bytes w = rw w.same (record-most w.m w.c w.storable)
