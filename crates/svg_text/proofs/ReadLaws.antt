-- What reading a record into the program's places says of the text: 15 is never given, a refusal is the check's, and no place lies beyond the longest record.
use mathlib.Core.List.{List}
use mathlib.Core.Path.{◌≡◌, refl, sym, ap, subst, ◌∙◌}
use Prim.Native.Nat.{ℕ, ◌+◌, ◌≤◌}
use native.Mathlib.Omega.{arith}
use lib.ListN.{length, take, drop, length-append, take-append-drop}
use borrow.Author.Tests.{ne_eqb}
use Rattle.std.specs.Prelude.{Err}
use Rattle.refusal.specs.Numbers.{accepted}
use Rattle.refusal.specs.Answers.{number_of}
use Rattle.refusal.specs.declared.Refusal.{Refusal}
use Rattle.refusal.proofs.AnswerLaws.{refused-above_zero}
use Rattle.curve.specs.Lists.{Lists}
use Rattle.curve.proofs.RoomLaws.{enough-all}
use Rattle.grid.specs.Check.{check_number}
use Rattle.grid.specs.Limits.{record_most}
use Rattle.grid.proofs.SizeLaws.{sizes-of-passes}
use Rattle.format.specs.Format.{form1, Storable}
use Rattle.format.proofs.SizeLaws.{length-knots, length-coordinates}
use Rattle.fault.specs.Fault.{Fault}
use Rattle.fault.specs.Kinds.{lone_records}
use Rattle.fault.specs.Verdict.{Verdict, judged}
use Rattle.fault.proofs.WithinLaws.{fault-most}
use Rattle.breaks.proofs.LoneLaws.{record-whole}
use Rattle.record.specs.Reading as reading
use Rattle.record.specs.Reading.{record_number, RecordComesTo, RecordRead}
use Rattle.taken_field.specs.declared.Break.{Break}
use Rattle.taken_field.specs.declared.Failure.TheVariants.{Broken, Refused}
use Rattle.stored_check.proofs.ToldLaws.{judged_apart, judged_number}
use Rattle.round_trip.specs.RoundTrip.{front_of, read_as}
use Rattle.round_trip.proofs.RecordTrip.{Stored, read-stored, records-short, faults-exactly}
use Rattle.round_trip.proofs.StorableLaws.{passes-storable}
use Rattle.svg_out.specs.Svg.{draw_number}
use Rattle.svg_whole.proofs.DrawLaws.{draw-unchecked}
use Rattle.digits.specs.Put.{Put}
use Rattle.digits.proofs.PutLaws.{put_front}
use Rattle.lines.specs.Lines.{refused_line, broken_line}
use Rattle.svg_text.specs.Text as text
use Rattle.svg_text.specs.Text.{drawn_text, SvgTextOf}
use Rattle.svg_text.specs.Program.{Places, TextInFront}

-- a front that is as long as it should be lies within its list
front-within : {A : Type 0} (n : ℕ) (l : List A) → length (take n l) ≡ n → n ≤ length l
front-within n l e = omega (arith, e, length-append (take n l) (drop n l), ap length (take-append-drop n l))

-- a line on a refused curve is its text
drawn-refused : (m : ℕ) (c : Lists) (number : ℕ) → (number ≡ accepted → ⊥) → number ≡ check_number m c.knots c.xs c.ys → refused_line number ≡ drawn_text m c
unfolding drawn_text
drawn-refused m c number refused e =
    let own : number ≡ draw_number m c = e ∙ sym (draw-unchecked m c accepted (λ none. refused (e ∙ none))) in
    rw (sym own, ne_eqb number 0 refused)

module _ (bytes : List ℕ) where
  -- no fault lies further on than the longest record is long
  pub place-most : {number place : ℕ} → Fault lone_records bytes number place → place ≤ record_most
  place-most fault = fault-most lone_records record_most records-short record-whole bytes fault

  -- what was put at the front of a list
  in-front : {lent put end : List ℕ} {r : ℕ} → Put lent 0 put end r → SvgTextOf bytes put → TextInFront bytes end r
  in-front w t = let f = put_front w in record { within = f.0; front = subst (SvgTextOf bytes) (sym f.1) t }

  module _ (before now : Lists) where
    -- bytes that are a record with a sound curve: it stands at the fronts of the lists
    module _ (m n : ℕ) (read : RecordRead bytes before (read_as m n) now) where
      abbrev curve : Lists
      curve = front_of m n now

      stored : Stored bytes m n (front_of m n now)
      stored = read-stored bytes before m n now read

      pub fronts-within : (n + m + 1 ≤ length now.knots) × (n ≤ length now.xs) × (n ≤ length now.ys)
      fronts-within =
          let sizes = sizes-of-passes m curve.knots curve.xs curve.ys stored.passes in (
            front-within (n + m + 1) now.knots (omega (arith, sizes.knots, stored.points)),
            front-within n now.xs stored.points,
            front-within n now.ys (omega (arith, sizes.as_many, stored.points)),
          )

      pub curve-text : {lent end : List ℕ} {r : ℕ} → Put lent 0 (drawn_text m (front_of m n now)) end r → TextInFront bytes end r
      curve-text put =
          in-front put (text.is_record (record { m = m; c = curve; storable = passes-storable m curve stored.passes; same = stored.same }) refl)

    -- bytes that are none
    module _ (found : Break) (read : RecordRead bytes before (Err (Broken found)) now) where
      pub broken-fault : Fault lone_records bytes (number_of found.refusal) found.place
      broken-fault = (faults-exactly bytes before (Err (Broken found)) now (number_of found.refusal) found.place read).0 refl

      pub broken-text : {lent end : List ℕ} {r : ℕ} → Put lent 0 (broken_line (number_of found.refusal) found.place) end r → TextInFront bytes end r
      broken-text put = in-front put (text.is_broken broken-fault refl)

    -- bytes that are a record with a curve that the check refuses
    module _ (list : List ℕ) (places : Places before list) where
      number_same : (m : ℕ) (c : Lists) → Storable form1 m c → record_number m c before ≡ check_number m c.knots c.xs c.ys
      unfolding record_number check_number
      number_same m c s =
          rw
          (enough-all (length c.knots) (length c.xs) (length c.ys) (length before.knots) (length before.xs) (length before.ys)
          (omega (arith, s.knot_room, length-knots c.knots, places.on_knots))
          (omega (arith, s.x_room, length-coordinates c.xs, places.on_x))
          (omega (arith, s.y_room, length-coordinates c.ys, places.on_y)))

      refused-by : (refusal : Refusal) {verdict : Verdict} {m : ℕ} {c : Lists} → RecordComesTo bytes before verdict m c
          → judged (number_of refusal) ≡ verdict → SvgTextOf bytes (refused_line (number_of refusal))
      refused-by refusal (reading.is_broken {number = n} {place = place} f m c) e = absurd (judged_apart (number_of refusal) n place e)
      refused-by refusal (reading.is_record w) e =
          let same : number_of refusal ≡ record_number w.m w.c before = judged_number (number_of refusal) (record_number w.m w.c before) e in
          text.is_record w
          (drawn-refused w.m w.c (number_of refusal) (λ none. omega (arith, refused-above_zero refusal, none)) (same ∙ number_same w.m w.c w.storable))

      pub refused-text : (refusal : Refusal) → RecordRead bytes before (Err (Refused refusal)) now → {lent end : List ℕ} {r : ℕ} → Put lent 0 (refused_line (number_of refusal)) end r → TextInFront bytes end r
      refused-text refusal read put = in-front put (refused-by refusal read.comes_to read.answers.0)
