-- Room, the lists afterwards and the ends of a call are what their sentences say.
use mathlib.Core.Bool.{Bool, true, false}
use mathlib.Core.Logic.{◌⊎◌, inl, inr}
use mathlib.Core.Path.{◌≡◌, refl, sym, ◌∙◌}
use Prim.Native.Nat.{ℕ, zero, suc, ◌≤◌, ◌<◌}
use native.Mathlib.Decide.{dec_le}
use native.Mathlib.Omega.{arith}
use lib.Dec.{eqb-suc-zero}
use lib.ListN.{length}
use Rattle.refusal.specs.Judging.{unless}
use Rattle.lent.proofs.SentenceLaws.{over-holds}
use Rattle.std.specs.Prelude.{Ok, ◌↔◌}
use Rattle.refusal.specs.Answers.{number_in, Answers}
use Rattle.refusal.proofs.AnswerLaws.{answers-value, answers-refusal}
use Rattle.refusal.proofs.JudgingLaws.{answered-refused}
use Rattle.curve.specs.Lists.{Lists}
use Rattle.curve.specs.HandingOver.{room_for, room_number, handed_over, HandsOutBy}
use Rattle.curve.specs.Sentences.{KnotsThenXThenY, EachLongEnough, RoomWrong, RoomExactly, SuccessHandsOver, RefusalHandsNothing, DoneOrRefusedBy, CallsEndSo, AnsweredBy, AnyCallEndsSo}
use Rattle.curve.proofs.RoomLaws.{enough-each, enough-all}
use Rattle.curve.proofs.HandingLaws.{handed_over-refused}

pub knots-then-x-then-y : KnotsThenXThenY
knots-then-x-then-y ts xs ys = (refl, refl, refl)

module _ (result lent : Lists) where
  each-of-room : room_for result lent ≡ true → EachLongEnough result lent
  each-of-room e =
      let each = enough-each _ _ _ _ _ _ e in
      record { knots = each.0; xs = each.1; ys = each.2 }

  room-of-each : EachLongEnough result lent → room_for result lent ≡ true
  room-of-each r = enough-all _ _ _ _ _ _ r.knots r.xs r.ys

  number-of-each : EachLongEnough result lent → room_number result lent ≡ 0
  number-of-each r = rw (room-of-each r)

  -- one of the two holds
  each-or-short : EachLongEnough result lent ⊎ RoomWrong result lent
  each-or-short = by (dec_le (length result.knots) (length lent.knots)) (dec_le (length result.xs) (length lent.xs)) (dec_le (length result.ys) (length lent.ys))
    where
      by : Dec (length result.knots ≤ length lent.knots) → Dec (length result.xs ≤ length lent.xs) → Dec (length result.ys ≤ length lent.ys)
          → EachLongEnough result lent ⊎ RoomWrong result lent
      by (yes a) (yes b) (yes c) = inl (record { knots = a; xs = b; ys = c })
      by (no a) b c = inr (inl (omega arith))
      by (yes a) (no b) c = inr (inr (inl (omega arith)))
      by (yes a) (yes b) (no c) = inr (inr (inr (omega arith)))

  -- and not both
  not-both : EachLongEnough result lent → RoomWrong result lent → ⊥
  not-both r (inl a) = omega (arith, r.knots)
  not-both r (inr (inl b)) = omega (arith, r.xs)
  not-both r (inr (inr c)) = omega (arith, r.ys)

  short-of-number : room_number result lent ≡ 15 → RoomWrong result lent
  short-of-number e = by each-or-short
    where
      by : EachLongEnough result lent ⊎ RoomWrong result lent → RoomWrong result lent
      by (inl r) = absurd (omega (arith, sym (number-of-each r) ∙ e))
      by (inr s) = s

  number-of-short : RoomWrong result lent → room_number result lent ≡ 15
  number-of-short s = by (room_for result lent) refl
    where
      by : (b : Bool) → room_for result lent ≡ b → unless b 15 0 ≡ 15
      by true e = absurd (not-both (each-of-room e) s)
      by false e = refl

  each-of-number : room_number result lent ≡ 0 → EachLongEnough result lent
  each-of-number e = by each-or-short
    where
      by : EachLongEnough result lent ⊎ RoomWrong result lent → EachLongEnough result lent
      by (inl r) = r
      by (inr s) = absurd (omega (arith, sym (number-of-short s) ∙ e))

pub room-exactly : RoomExactly
room-exactly result lent = (
  (each-of-room result lent, room-of-each result lent),
  (short-of-number result lent, number-of-short result lent),
  (each-of-number result lent, number-of-each result lent),
)

pub success-hands-over : SuccessHandsOver
success-hands-over result before r =
    record {
      knots = over-holds result.knots before.knots r.knots;
      xs = over-holds result.xs before.xs r.xs;
      ys = over-holds result.ys before.ys r.ys;
    }

pub refusal-hands-nothing : RefusalHandsNothing
refusal-hands-nothing number result before h = handed_over-refused number result before (λ e. omega arith)

-- `Says` by its two cases: number 0, and the number of a refusal
record ByCases {A : Type 0} (Says : ℕ → Lists → A → Type 0) (Done : Lists → A → Type 0) (Refused : ℕ → A → Type 0) : Type 0 where
  done : (d : Lists) (a : A) → Says 0 d a ↔ Done d a
  refused : (n : ℕ) (d : Lists) (a : A) → 0 < n → Says n d a ↔ Refused n a

module _ {A : Type 0} (ComesTo : ℕ → Lists → Type 0) (Says : ℕ → Lists → A → Type 0) (Done : Lists → A → Type 0) (Refused : ℕ → A → Type 0)
    (cases : ByCases Says Done Refused) (before : Lists) (answer : A) (now : Lists) where
  either_end : HandsOutBy ComesTo Says before answer now → DoneOrRefusedBy ComesTo Done Refused before answer now
  either_end h = by h.number h.comes_to h.answers h.hands
    where
      by : (n : ℕ) → ComesTo n h.result → Says n h.result answer → now ≡ handed_over n h.result before → DoneOrRefusedBy ComesTo Done Refused before answer now
      by zero comes a e = inl (h.result, comes, (cases.done h.result answer).0 a, e)
      by (suc n) comes a e =
          let some : 0 < suc n = omega arith in
          inr (suc n, h.result, comes, some, (cases.refused (suc n) h.result answer some).0 a, e ∙ rw (eqb-suc-zero n))

  ends-either : DoneOrRefusedBy ComesTo Done Refused before answer now → HandsOutBy ComesTo Says before answer now
  ends-either (inl d) = record { number = 0; result = d.0; comes_to = d.1; answers = (cases.done d.0 answer).1 d.2; hands = d.3 }
  ends-either (inr r) =
      let some : r.0 ≡ 0 → ⊥ = λ e. omega (arith, r.3) in record {
        number = r.0;
        result = r.1;
        comes_to = r.2;
        answers = (cases.refused r.0 r.1 answer r.3).1 r.4;
        hands = r.5 ∙ sym (handed_over-refused r.0 r.1 before some);
      }

result-cases : {A : Type 0} (value : Lists → A)
    → ByCases (λ number d a. Answers number (value d) a) (λ d a. a ≡ Ok (value d)) (λ number a. number_in a ≡ number)
result-cases value =
    record {
      done = λ d a. (λ h. answers-value 0 (value d) a h refl, λ e. rw e (refl, refl));
      refused = λ n d a some. (λ h. h.0, λ e. answers-refusal n (value d) a (λ z. omega (arith, some, z)) e);
    }

answered-cases : {A : Type 0} (done : Lists → A) (refused : ℕ → A) → ByCases (AnsweredBy done refused) (λ d a. a ≡ done d) (λ number a. a ≡ refused number)
answered-cases done refused =
    record {
      done = λ d a. (λ e. e, λ e. e);
      refused = λ n d a some.
          let same = answered-refused done refused n d (λ z. omega (arith, some, z)) in (λ e. e ∙ same, λ e. e ∙ sym same);
    }

pub calls-end-so : (A : Type 0) → CallsEndSo A
calls-end-so A ComesTo value before answer now =
    let cases = result-cases value in (either_end ComesTo _ _ _ cases before answer now, ends-either ComesTo _ _ _ cases before answer now)

pub any-call-ends-so : (A : Type 0) → AnyCallEndsSo A
any-call-ends-so A ComesTo done refused before answer now =
    let cases = answered-cases done refused in (either_end ComesTo _ _ _ cases before answer now, ends-either ComesTo _ _ _ cases before answer now)
