-- What lent lists hold by the number of a call; and a call by cases has one outcome where it comes to one number and one curve.
use mathlib.Core.List.{List}
use mathlib.Core.Path.{◌≡◌, refl, sym, ap, ◌∙◌, subst}
use Prim.Native.Nat.{ℕ, zero, suc, ◌≤◌}
use lib.Dec.{eqb-suc-zero}
use lib.ListN.{length, take}
use lib.Seq.{take_all}
use borrow.Author.Tests.{ne_eqb}
use native.Mathlib.Omega.{arith}
use Rattle.std.specs.Prelude.{Result, Ok}
use Rattle.refusal.specs.Answers.{number_in, Answers}
use Rattle.refusal.specs.Judging.{answered}
use Rattle.refusal.specs.declared.Refusal.{Refusal}
use Rattle.refusal.proofs.AnswerLaws.{answers-refusal, answers-one}
use Rattle.refusal.proofs.JudgingLaws.{answered-refused}
use Rattle.lent.specs.Lent.{over}
use Rattle.curve.specs.Lists.{Lists}
use Rattle.curve.specs.HandingOver.{handed_over, HandsOutBy, HandsOut}
use Rattle.curve.specs.Sentences.{AnsweredBy}

-- a copy of a list that fits is the whole list
pub copied-whole : {A : Type 0} (source before after : List A) → length source ≤ length before → after ≡ over (take (length before) source) before
    → after ≡ over source before
copied-whole {A} source before after fits h = h ∙ ap (λ (l : List A). over l before) (take_all (length before) source fits)

-- a refusal leaves the lists as they were found
pub handed_over-refused : (number : ℕ) (result before : Lists) → (number ≡ 0 → ⊥) → handed_over number result before ≡ before
handed_over-refused number result before h = rw (ne_eqb number 0 h)

-- how a call by cases ends: with a refusal that wrote nothing, with the number of a handing over, or with the curve
module _ {A : Type 0} (ComesTo : ℕ → Lists → Type 0) (value : Lists → A) (before : Lists) (number : ℕ) (d : Lists) (comes : ComesTo number d) where
  pub ends-refused : (answer : Result A Refusal) (now : Lists) → number_in answer ≡ number → (number ≡ 0 → ⊥) → now ≡ handed_over number d before
      → HandsOut ComesTo value before answer now
  ends-refused answer now e h k =
      record { number = number; result = d; comes_to = comes; answers = answers-refusal number (value d) answer h e; hands = k }

  pub ends-untouched : (answer : Result A Refusal) → number_in answer ≡ number → (number ≡ 0 → ⊥) → HandsOut ComesTo value before answer before
  ends-untouched answer e h = ends-refused answer before e h (sym (handed_over-refused number d before h))

  pub ends-done : (now : Lists) → number ≡ 0 → now ≡ handed_over number d before → HandsOut ComesTo value before (Ok (value d)) now
  ends-done now z k = record { number = number; result = d; comes_to = comes; answers = (sym z, refl); hands = k }

-- the same with answers of any kind
module _ {A : Type 0} (ComesTo : ℕ → Lists → Type 0) (done : Lists → A) (refused : ℕ → A) (before : Lists) (number : ℕ) (d : Lists) (comes : ComesTo number d) where
  pub any-ends-refused : (now : Lists) → (number ≡ 0 → ⊥) → now ≡ handed_over number d before
      → HandsOutBy ComesTo (AnsweredBy done refused) before (refused number) now
  any-ends-refused now h k =
      record { number = number; result = d; comes_to = comes; answers = sym (answered-refused done refused number d h); hands = k }

  pub any-ends-untouched : (number ≡ 0 → ⊥) → HandsOutBy ComesTo (AnsweredBy done refused) before (refused number) before
  any-ends-untouched h = any-ends-refused before h (sym (handed_over-refused number d before h))

  pub any-ends-done : (now : Lists) → number ≡ 0 → now ≡ handed_over number d before → HandsOutBy ComesTo (AnsweredBy done refused) before (done d) now
  any-ends-done now z k = record { number = number; result = d; comes_to = comes; answers = rw z; hands = k }

-- it comes to one number, and where that is 0 to one curve
pub record Determined (ComesTo : ℕ → Lists → Type 0) : Type 0 where
  pub one_number : (n k : ℕ) (c d : Lists) → ComesTo n c → ComesTo k d → n ≡ k
  pub one-curve : (c d : Lists) → ComesTo 0 c → ComesTo 0 d → c ≡ d

-- the number fixes the answer, where it is 0 together with the curve
abbrev pub OneAnswer : {A : Type 0} → (ℕ → Lists → A → Type 0) → Type 0
OneAnswer {A} Says = (n : ℕ) (c d : Lists) (a b : A) → (n ≡ 0 → c ≡ d) → Says n c a → Says n d b → a ≡ b

-- it fixes the lists as well
one-handed_over : (n : ℕ) (c d before : Lists) → (n ≡ 0 → c ≡ d) → handed_over n c before ≡ handed_over n d before
one-handed_over zero c d before same = rw (same refl)
one-handed_over (suc n) c d before same = rw (eqb-suc-zero n)

-- so a call by cases has one outcome
module _ {A : Type 0} {ComesTo : ℕ → Lists → Type 0} (s : Determined ComesTo) (Says : ℕ → Lists → A → Type 0) (one : OneAnswer Says) (before : Lists) where
  same_curve : (n : ℕ) (c d : Lists) → ComesTo n c → ComesTo n d → n ≡ 0 → c ≡ d
  same_curve n c d p q z = s.one-curve c d (subst (λ k. ComesTo k c) z p) (subst (λ k. ComesTo k d) z q)

  pub hands-out-once-by : (a b : A) (x y : Lists) → HandsOutBy ComesTo Says before a x → HandsOutBy ComesTo Says before b y → (a ≡ b) × (x ≡ y)
  hands-out-once-by a b x y p q =
      let e = s.one_number _ _ _ _ p.comes_to q.comes_to in
      let same = same_curve p.number p.result q.result p.comes_to (rw e q.comes_to) in (
        one p.number p.result q.result a b same p.answers (rw e q.answers),
        p.hands ∙ one-handed_over p.number p.result q.result before same ∙ rw e (sym q.hands),
      )

one-result : {A : Type 0} (value : Lists → A) → OneAnswer (λ n d a. Answers n (value d) a)
one-result value zero c d a b same h k = answers-one 0 (value c) a b h (rw (same refl) k)
one-result value (suc n) c d a b same h k =
    let other : Answers (suc n) (value c) b = answers-refusal (suc n) (value c) b (λ e. absurd (omega (arith, e))) k.0 in
    answers-one (suc n) (value c) a b h other

one-answered : {A : Type 0} (done : Lists → A) (refused : ℕ → A) → OneAnswer (AnsweredBy done refused)
one-answered done refused zero c d a b same h k = h ∙ ap done (same refl) ∙ sym k
one-answered done refused (suc n) c d a b same h k =
    let alike : answered done refused (suc n) c ≡ answered done refused (suc n) d = rw (eqb-suc-zero n) in h ∙ alike ∙ sym k

module _ {A : Type 0} {ComesTo : ℕ → Lists → Type 0} (s : Determined ComesTo) (value : Lists → A) (before : Lists) where
  pub hands-out-once : (a b : Result A Refusal) (x y : Lists) → HandsOut ComesTo value before a x → HandsOut ComesTo value before b y → (a ≡ b) × (x ≡ y)
  hands-out-once = hands-out-once-by s (λ n d a. Answers n (value d) a) (one-result value) before

module _ {A : Type 0} {ComesTo : ℕ → Lists → Type 0} (s : Determined ComesTo) (done : Lists → A) (refused : ℕ → A) (before : Lists) where
  pub any-hands-out-once : (a b : A) (x y : Lists) → HandsOutBy ComesTo (AnsweredBy done refused) before a x → HandsOutBy ComesTo (AnsweredBy done refused) before b y
      → (a ≡ b) × (x ≡ y)
  any-hands-out-once = hands-out-once-by s (AnsweredBy done refused) (one-answered done refused) before
