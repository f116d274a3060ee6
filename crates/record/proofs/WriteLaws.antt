-- What writing answers, way by way.
use Rattle.std.specs.Prelude.{Result, Ok, Err}
use mathlib.Core.Path.{◌≡◌, refl, sym, ◌∙◌}
use mathlib.Core.List.{List}
use Prim.Native.Nat.{ℕ, ◌<◌, ◌≤◌}
use native.Mathlib.Omega.{arith}
use lib.ListN.{length}
use borrow.Author.Tests.{le-leb, lt-leb, ne_eqb}
use Rattle.lent.specs.Lent.{after}
use Rattle.refusal.specs.Numbers.{room_refused}
use Rattle.curve.specs.Lists.{Lists}
use Rattle.grid.specs.Check.{check_number}
use Rattle.grid.proofs.ThenLaws.{checked_then-refused, checked_then-passed}
use Rattle.fields.specs.Places.{put_at}
use Rattle.fields.proofs.PlaceLaws.{put_at-front}
use Rattle.format.specs.Format.{form1, record_bytes}
use Rattle.record.specs.Writing.{write_number, WriteAnswers}
use Rattle.refusal.specs.Answers.{number_of}
use Rattle.refusal.specs.declared.Refusal.{Refusal}
use Rattle.refusal.specs.declared.Refusal.TheVariants.{Room}
use Rattle.refusal.proofs.AnswerLaws.{refused-above_zero}

module _ (m : ℕ) (c : Lists) (out : List ℕ) where
  -- the answer and the list where a number refuses
  refused-by : (answer : Result ℕ Refusal) (e : Refusal) → answer ≡ Err e → write_number m c out ≡ number_of e
      → WriteAnswers m c out answer × (out ≡ after (write_number m c out) (record_bytes form1 m c) out)
  refused-by answer e is number =
      let above = refused-above_zero e in
      let some : number_of e ≡ 0 → ⊥ = λ z. omega (arith, above) in (rw (is, number) (refl, tt), rw (number, ne_eqb (number_of e) 0 some))

  -- the check refuses
  pub write_unchecked : (answer : Result ℕ Refusal) (e : Refusal) → answer ≡ Err e → number_of e ≡ check_number m c.knots c.xs c.ys
      → WriteAnswers m c out answer × (out ≡ after (write_number m c out) (record_bytes form1 m c) out)
  unfolding write_number
  write_unchecked answer e is number =
      let above = refused-above_zero e in
      refused-by answer e is (checked_then-refused m c.knots c.xs c.ys _ (λ z. omega (arith, above, number)) ∙ sym number)

  module _ (passes : check_number m c.knots c.xs c.ys ≡ 0) where
    write-short : length out < length (record_bytes form1 m c) → write_number m c out ≡ room_refused
    unfolding write_number
    write-short h = checked_then-passed m c.knots c.xs c.ys _ passes ∙ rw (lt-leb (length (record_bytes form1 m c)) (length out) h)

    pub write_done : length (record_bytes form1 m c) ≤ length out → write_number m c out ≡ 0
    unfolding write_number
    write_done h = checked_then-passed m c.knots c.xs c.ys _ passes ∙ rw (le-leb (length (record_bytes form1 m c)) (length out) h)

    -- there is no room
    pub write_cramped : (size : ℕ) → length (record_bytes form1 m c) ≡ size → length out < size
        → WriteAnswers m c out (Err Room) × (out ≡ after (write_number m c out) (record_bytes form1 m c) out)
    write_cramped size e short = refused-by (Err Room) Room refl (write-short (omega arith))

    -- the answer and the list where the record was put at the front
    pub written : (now : List ℕ) (size : ℕ) → length (record_bytes form1 m c) ≡ size → size ≤ length out → now ≡ put_at out 0 (record_bytes form1 m c)
        → WriteAnswers m c out (Ok size) × (now ≡ after (write_number m c out) (record_bytes form1 m c) out)
    written now size e room f =
        let done : write_number m c out ≡ 0 = write_done (omega arith) in
        ((sym done, sym e), rw done (f ∙ put_at-front out (record_bytes form1 m c)))
