-- A verdict and a value fix the answer of a reader, and how each answer comes to its verdict.
use Rattle.std.specs.Prelude.{Result, Ok, Err, ◌≡◌, ℕ, ◌<◌}
use mathlib.Core.Path.{refl, sym, ap, ◌∙◌}
use native.Mathlib.Omega.{arith}
use Rattle.refusal.specs.Answers.{number_of, Answers}
use Rattle.refusal.specs.declared.Refusal.{Refusal}
use Rattle.refusal.proofs.AnswerLaws.{one_number-one_refusal, refused-above_zero}
use Rattle.taken_field.specs.declared.Break.{Break}
use Rattle.taken_field.specs.declared.Failure.{Failure}
use Rattle.taken_field.specs.declared.Failure.TheVariants.{Broken, Refused}
use Rattle.fault.specs.Verdict.{Verdict, judged, broken}
use Rattle.stored_check.specs.Told.{verdict_in, Tells}

pub judged_apart : (n k place : ℕ) → judged n ≡ broken k place → ⊥
judged_apart n k place e = let z : ◌≡◌ {A = ℕ} 0 1 = cc in omega arith

pub judged_number : (n k : ℕ) → judged n ≡ judged k → n ≡ k
judged_number n k e = cc

pub broken_number : (n k place there : ℕ) → broken n place ≡ broken k there → (n ≡ k) × (place ≡ there)
broken_number n k place there e =
    let number : n ≡ k = cc in
    let at : place ≡ there = cc in (number, at)

accepted_apart : (e : Refusal) → judged 0 ≡ judged (number_of e) → ⊥
accepted_apart e h =
    let zero : 0 ≡ number_of e = judged_number 0 (number_of e) h in
    let above : 0 < number_of e = refused-above_zero e in omega arith

one_break : (a b : Break) → a.refusal ≡ b.refusal → a.place ≡ b.place → a ≡ b
one_break a b e f = ap (λ r. record { refusal = r; place = a.place }) e ∙ ap (λ p. record { refusal = b.refusal; place = p }) f

-- one verdict and one value: one answer
module _ {A : Type 0} (verdict : Verdict) (value : A) where
  pub tells_one : (a b : Result A Failure) → Tells verdict value a → Tells verdict value b → a ≡ b
  tells_one (Ok x) (Ok y) h k = ap Ok (h.1 ∙ sym k.1)
  tells_one (Ok x) (Err (Refused e)) h k = absurd (accepted_apart e (h.0 ∙ sym k.0))
  tells_one (Ok x) (Err (Broken b)) h k = absurd (judged_apart 0 (number_of b.refusal) b.place (h.0 ∙ sym k.0))
  tells_one (Err (Refused e)) (Ok y) h k = absurd (accepted_apart e (k.0 ∙ sym h.0))
  tells_one (Err (Refused d)) (Err (Refused e)) h k =
      ap (λ r. Err (Refused r)) (one_number-one_refusal d e (judged_number (number_of d) (number_of e) (h.0 ∙ sym k.0)))
  tells_one (Err (Refused e)) (Err (Broken b)) h k = absurd (judged_apart (number_of e) (number_of b.refusal) b.place (h.0 ∙ sym k.0))
  tells_one (Err (Broken b)) (Ok y) h k = absurd (judged_apart 0 (number_of b.refusal) b.place (k.0 ∙ sym h.0))
  tells_one (Err (Broken b)) (Err (Refused e)) h k = absurd (judged_apart (number_of e) (number_of b.refusal) b.place (k.0 ∙ sym h.0))
  tells_one (Err (Broken a)) (Err (Broken b)) h k =
      let same = broken_number (number_of a.refusal) (number_of b.refusal) a.place b.place (h.0 ∙ sym k.0) in
      ap (λ f. Err (Broken f)) (one_break a b (one_number-one_refusal a.refusal b.refusal same.0) same.1)

  -- nothing refused: the value
  pub tells_value : (a : Result A Failure) → Tells verdict value a → verdict ≡ judged 0 → a ≡ Ok value
  tells_value (Ok x) h z = ap Ok h.1
  tells_value (Err (Refused e)) h z = absurd (accepted_apart e (sym z ∙ sym h.0))
  tells_value (Err (Broken b)) h z = absurd (judged_apart 0 (number_of b.refusal) b.place (sym z ∙ sym h.0))

  -- another verdict: no value
  pub tells_other : (a : Result A Failure) → (verdict ≡ judged 0 → ⊥) → verdict_in a ≡ verdict → Tells verdict value a
  tells_other (Ok x) n h = absurd (n (sym h))
  tells_other (Err (Refused e)) n h = (h, tt)
  tells_other (Err (Broken b)) n h = (h, tt)

-- what is judged to a number tells this number
module _ {A : Type 0} (number : ℕ) (value : A) where
  pub told_value : (x : A) → Answers number value (Ok x) → Tells (judged number) value (Ok x)
  told_value x h = (ap judged h.0, h.1)

  pub told_refused : (answer : Result A Failure) (e : Refusal) → answer ≡ Err (Refused e) → number_of e ≡ number → Tells (judged number) value answer
  told_refused answer e is h = rw is (ap judged h, tt)

-- broken bytes tell where they break
pub told_broken : {A : Type 0} (value : A) (answer : Result A Failure) (found : Break) → answer ≡ Err (Broken found)
    → Tells (broken (number_of found.refusal) found.place) value answer
told_broken value answer found is = rw is (refl, tt)
