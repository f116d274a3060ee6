-- A job's number by what was judged, each where it was; and what a refusal, a fault and a job that is read answer and leave.
use Rattle.std.specs.Prelude.{Bool, true, false, Result, Ok, Err, List, [], ◌≡◌, ℕ, ◌*◌, ◌/◌, ◌<◌, ◌≤◌, ℤ, nat_le, length}
use mathlib.Core.Path.{refl, sym, ap, ap₂, ◌∙◌, subst₂}
use native.Mathlib.Omega.{arith}
use borrow.Author.Tests.{le-leb, lt-leb, leb-true, leb-false, ne_eqb}
use Rattle.refusal.specs.Numbers.{radius_refused, rectangle_refused, room_refused}
use Rattle.refusal.specs.Answers.{number_of, number_in as refusal_number, required}
use Rattle.refusal.specs.declared.Refusal.{Refusal}
use Rattle.refusal.specs.declared.Refusal.TheVariants.{Radius, Rectangle, Room}
use Rattle.refusal.proofs.AnswerLaws.{refused-above_zero}
use Rattle.lent.specs.Lent.{after}
use Rattle.fields.specs.Bytes.{Octets}
use Rattle.fields.proofs.PlaceLaws.{length-each, length-entries_at}
use Rattle.curve.specs.HandingOver.{room_number, handed_over}
use Rattle.curve.specs.Lists.{Lists}
use Rattle.curve.proofs.HandingLaws.{handed_over-refused}
use Rattle.grid.specs.Check.{check_number}
use Rattle.grid.specs.Rows.{radius_ok}
use Rattle.grid.proofs.ThenLaws.{checked_then-refused, checked_then-passed}
use Rattle.layout.specs.StoredCurve.{degree_in, curve_in}
use Rattle.layout.proofs.StoredLaws.{stored-xs}
use Rattle.taken_field.specs.declared.Break.{Break}
use Rattle.taken_field.specs.declared.Failure.{Failure}
use Rattle.taken_field.specs.declared.Failure.TheVariants.{Broken, Refused}
use Rattle.fault.specs.Fault.{Fault}
use Rattle.fault.specs.Verdict.{judged, broken}
use Rattle.fault.proofs.OneFaultLaws.{fault-refuses}
use Rattle.stored_check.specs.StoredNumber.{number_in}
use Rattle.stored_check.specs.Told.{Tells}
use Rattle.stored_check.proofs.ToldLaws.{told_refused, told_broken}
use Rattle.clamps.specs.Clamp.{Clamp, clamp_sides, clamp_field_bytes, clamp_at, sides, all_sides, clamps_ok}
use Rattle.job.specs.JobFormat.{jobs}
use Rattle.job.specs.JobJudging.{sound, clamps_start, job_layout}
use Rattle.job.specs.JobReading.{job_number, JobAnswers, is_job, is_broken, JobRead}
use Rattle.job.specs.StoredJob.{radius_in, clamps_in}
use Rattle.job.specs.declared.Job.{Job}
use Rattle.job.proofs.JobLayoutLaws.{job-of-sound}

module _ (m : ℕ) (c : Lists) (radius : ℕ) (cs : List Clamp) (lent : Lists) (places : ℕ) where
  -- the check refuses
  pub number-checked : (number : ℕ) → number ≡ check_number m c.knots c.xs c.ys → (number ≡ 0 → ⊥) → job_number m c radius cs lent places ≡ number
  unfolding job_number
  number-checked number e n = checked_then-refused m c.knots c.xs c.ys _ (λ z. n (e ∙ z)) ∙ sym e

  module _ (passes : check_number m c.knots c.xs c.ys ≡ 0) where
    -- a radius above the largest
    pub number-wide : radius_ok radius ≡ false → job_number m c radius cs lent places ≡ radius_refused
    unfolding job_number
    number-wide h = checked_then-passed m c.knots c.xs c.ys _ passes ∙ rw h

    -- a clamp that is none
    pub number-crossed : radius_ok radius ≡ true → clamps_ok cs ≡ false → job_number m c radius cs lent places ≡ rectangle_refused
    unfolding job_number
    number-crossed short h = checked_then-passed m c.knots c.xs c.ys _ passes ∙ rw (short, h)

    module _ (short : radius_ok radius ≡ true) (upright : clamps_ok cs ≡ true) where
      -- too few places for the sides
      pub number_short : places < length (all_sides cs) → job_number m c radius cs lent places ≡ room_refused
      unfolding job_number
      number_short h = checked_then-passed m c.knots c.xs c.ys _ passes ∙ rw (short, upright, lt-leb (length (all_sides cs)) places h)

      -- enough: only the room of the curve's lists is left
      pub number-room : (room : ℕ) → length (all_sides cs) ≤ places → room ≡ room_number c lent → job_number m c radius cs lent places ≡ room
      unfolding job_number
      number-room room h r = checked_then-passed m c.knots c.xs c.ys _ passes ∙ rw (short, upright, le-leb (length (all_sides cs)) places h) (sym r)

-- a fault answers its number and its place, and leaves all four lists as they were
pub broken_read : (bytes : List ℕ) (before : Lists) (sides_before : List ℤ) (found : Break) → Fault jobs bytes (number_of found.refusal) found.place
    → (answer : Result Job Failure) → answer ≡ Err (Broken found) → JobRead bytes before sides_before answer before sides_before
broken_read bytes before sides_before found fault answer is =
    let refused = fault-refuses jobs bytes fault in
    record {
      verdict = broken (number_of found.refusal) found.place;
      m = 0;
      c = before;
      radius = 0;
      cs = [];
      comes_to = is_broken fault 0 before 0 [];
      answers = told_broken _ answer found is;
      hands = sym (handed_over-refused (number_of found.refusal) before before refused);
      clamps_now = rw (ne_eqb (number_of found.refusal) 0 refused);
    }

-- a test that was asked for has failed where a refusal came of it, and that refusal is its own
required_failed : (fine : Bool) (refusal e : Refusal) → Err e ≡ required fine refusal → (fine ≡ false) × (number_of e ≡ number_of refusal)
required_failed true refusal e h =
    let above = refused-above_zero e in
    let zero : number_of e ≡ 0 = ap refusal_number h in absurd (omega (arith, above, zero))
required_failed false refusal e h = (refl, ap refusal_number h)

module _ (bytes : List ℕ) (octets : Octets bytes) (before : Lists) (sides_before : List ℤ) (k x y n : ℕ) (known : job_layout bytes ≡ sound k x y n) where
  abbrev stored : Lists
  stored = curve_in bytes k x y

  abbrev radius : ℕ
  radius = radius_in bytes k x y

  abbrev standing : List Clamp
  standing = clamps_in bytes k x y n

  abbrev number : ℕ
  number = job_number (degree_in bytes) stored radius standing before (length sides_before)

  many : length standing ≡ n
  many = length-entries_at (clamp_at bytes) clamp_field_bytes (clamps_start k x y) n

  four : length (all_sides standing) ≡ clamp_sides * n
  four = length-each sides clamp_sides (λ _. refl) standing ∙ ap (λ (k : ℕ). clamp_sides * k) many

  -- the job of the lists in them
  read_sound : (answer : Result Job Failure) (now : Lists) (sides_now : List ℤ)
      → Tells (judged number) (record { degree = degree_in bytes; points = x / 4; radius = radius; clamps = n }) answer
      → now ≡ handed_over number stored before → sides_now ≡ after number (all_sides standing) sides_before → JobRead bytes before sides_before answer now sides_now
  read_sound answer now sides_now told hands clamps_now =
      record {
        verdict = judged number;
        m = degree_in bytes;
        c = stored;
        radius = radius;
        cs = standing;
        comes_to = is_job (job-of-sound bytes octets k x y n known);
        answers = subst₂ (λ (points clamps : ℕ). JobAnswers (judged number) (degree_in bytes) points radius clamps answer) (sym (stored-xs bytes k x y)) (sym many) told;
        hands = hands;
        clamps_now = clamps_now;
      }

  -- refused: all four lists are as they were, or the three as a call left them that refused with this number
  refused_with : (answer : Result Job Failure) (e : Refusal) → answer ≡ Err (Refused e) → number ≡ number_of e
      → (now : Lists) → now ≡ handed_over (number_of e) stored before → JobRead bytes before sides_before answer now sides_before
  refused_with answer e is same now hands =
      let above = refused-above_zero e in
      let some : number_of e ≡ 0 → ⊥ = λ z. omega (arith, above) in
      read_sound answer now sides_before (told_refused number _ answer e is (sym same)) (rw same hands) (rw (same, ne_eqb (number_of e) 0 some) refl)

  refused_by : (answer : Result Job Failure) (e : Refusal) → answer ≡ Err (Refused e) → number ≡ number_of e → JobRead bytes before sides_before answer before sides_before
  refused_by answer e is same =
      let above = refused-above_zero e in
      refused_with answer e is same before (sym (handed_over-refused (number_of e) stored before (λ z. omega (arith, above))))

  -- by the check
  pub read_unchecked : (answer : Result Job Failure) (e : Refusal) → answer ≡ Err (Refused e) → number_of e ≡ number_in bytes k x y
      → JobRead bytes before sides_before answer before sides_before
  read_unchecked answer e is told =
      let above = refused-above_zero e in
      refused_by answer e is (number-checked (degree_in bytes) stored radius standing before (length sides_before) (number_of e) told (λ z. omega (arith, above)))

  module _ (passes : number_in bytes k x y ≡ 0) where
    -- by the radius
    pub read_wide : (answer : Result Job Failure) (e : Refusal) → answer ≡ Err (Refused e) → (fine : Bool) → fine ≡ radius_ok radius → Err e ≡ required fine Radius
        → JobRead bytes before sides_before answer before sides_before
    read_wide answer e is fine test told =
        let failed = required_failed fine Radius e told in
        refused_by answer e is (number-wide (degree_in bytes) stored radius standing before (length sides_before) passes (sym test ∙ failed.0) ∙ sym failed.1)

    module _ (short : radius_ok radius ≡ true) where
      -- by a clamp
      pub read_crossed : (answer : Result Job Failure) (e : Refusal) → answer ≡ Err (Refused e) → (fine : Bool) → fine ≡ clamps_ok standing → Err e ≡ required fine Rectangle
          → JobRead bytes before sides_before answer before sides_before
      read_crossed answer e is fine test told =
          let failed = required_failed fine Rectangle e told in
          refused_by answer e is (number-crossed (degree_in bytes) stored radius standing before (length sides_before) passes short (sym test ∙ failed.0) ∙ sym failed.1)

      module _ (upright : clamps_ok standing ≡ true) where
        -- by the room for the sides
        pub read_crowded : (answer : Result Job Failure) (e : Refusal) → answer ≡ Err (Refused e) → Err e ≡ required (nat_le (clamp_sides * n) (length sides_before)) Room
            → JobRead bytes before sides_before answer before sides_before
        read_crowded answer e is told =
            let failed = required_failed (nat_le (clamp_sides * n) (length sides_before)) Room e told in
            let less = leb-false (clamp_sides * n) (length sides_before) failed.0 in
            refused_by answer e is (number_short (degree_in bytes) stored radius standing before (length sides_before) passes short upright (omega (arith, four, less)) ∙ sym failed.1)

        module _ (places : nat_le (clamp_sides * n) (length sides_before) ≡ true) where
          room_left : (room : ℕ) → room ≡ room_number stored before → number ≡ room
          room_left room told =
              number-room (degree_in bytes) stored radius standing before (length sides_before) passes short upright room
              (omega (arith, four, leb-true (clamp_sides * n) (length sides_before) places)) told

          -- by the room for the curve
          pub read_cramped : (answer : Result Job Failure) (e : Refusal) → answer ≡ Err (Refused e) → number_of e ≡ room_number stored before
              → (now : Lists) → now ≡ handed_over (number_of e) stored before → JobRead bytes before sides_before answer now sides_before
          read_cramped answer e is told now hands = refused_with answer e is (room_left (number_of e) told) now hands

          -- by nothing
          pub read_done : 0 ≡ room_number stored before → (d r : ℕ) → d ≡ degree_in bytes → r ≡ radius → (now : Lists) → now ≡ handed_over 0 stored before
              → (sides_now : List ℤ) → sides_now ≡ after 0 (all_sides standing) sides_before
              → JobRead bytes before sides_before (Ok (record { degree = d; points = x / 4; radius = r; clamps = n })) now sides_now
          read_done told d r is_degree is_radius now hands sides_now put =
              let none : number ≡ 0 = room_left 0 told in
              read_sound (Ok (record { degree = d; points = x / 4; radius = r; clamps = n })) now sides_now
              (sym (ap judged none), ap₂ (λ (m s : ℕ). record { degree = m; points = x / 4; radius = s; clamps = n }) is_degree is_radius) (rw none hands) (rw none put)
