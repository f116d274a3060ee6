-- Numbers that are whole: each of many, and what such a number is.
use mathlib.Core.Bool.{true, false, true≢false}
use mathlib.Core.Logic.{⊎_elim}
use mathlib.Core.Path.{◌≡◌, refl, sym, ap, ◌∙◌}
use Prim.Native.Nat.{ℕ, zero, suc, ◌<◌}
use native.Mathlib.Omega.{arith}
use lib.IntN.{ℤ, pos}
use lib.Signed.{quot_z}
use Rattle.refusal.proofs.JudgingLaws.{both}
use Rattle.signed.specs.Division.{divides}
use Rattle.signed.proofs.DivisionLaws.{quot-of-product, product-divides, product-of-quot}
use Rattle.checked.proofs.TestLaws.{one-fails, Judged}
use Rattle.insertion.proofs.OrderLaws.{either}
use Rattle.clamping.specs.declared.Share.{Share}
use Rattle.clamping.specs.Clamping.{is_whole, whole_of, all_whole}
use Rattle.clamping.specs.Sentences.{IsThe}

-- one number
module _ (a : Share) where
  pub whole-number : is_whole a ≡ true → IsThe (whole_of a) a
  whole-number h = product-of-quot a.upper a.lower h

  pub whole-of-number : (z : ℤ) → IsThe z a → is_whole a ≡ true
  whole-of-number z e = sym (ap (divides (pos a.lower)) e) ∙ product-divides z a.lower

  pub number-only : (z : ℤ) → 0 < a.lower → IsThe z a → whole_of a ≡ z
  number-only z some e = sym (ap (λ (n : ℤ). quot_z n (pos a.lower)) e) ∙ quot-of-product z a.lower some

-- many
module _ (f : ℕ → Share) where
  pub whole_each : (count : ℕ) → all_whole f count ≡ true → (j : ℕ) → j < count → is_whole (f j) ≡ true
  unfolding all_whole
  whole_each zero h j l = absurd (omega arith)
  whole_each (suc count) h j l =
      let p = both (all_whole f count) (is_whole (f count)) h in
      either j count (λ below. whole_each count p.0 j below) (λ above. let last : j ≡ count = omega arith in rw last p.1)

  pub whole-of-each : (count : ℕ) → ((j : ℕ) → j < count → is_whole (f j) ≡ true) → all_whole f count ≡ true
  unfolding all_whole
  whole-of-each zero each = refl
  whole-of-each (suc count) each = rw (whole-of-each count (λ j l. each j (omega arith)), each count (omega arith))

  pub one-not : (count : ℕ) → all_whole f count ≡ false → (j : ℕ) × (j < count) × (is_whole (f j) ≡ false)
  unfolding all_whole
  one-not zero h = absurd (true≢false h)
  one-not (suc count) h =
      let rest = one-not count in
      ⊎_elim
      (λ e. let r = rest e in (r.0, omega (arith, r.1), r.2))
      (λ e. (count, omega arith, e))
      (one-fails (all_whole f count) (is_whole (f count)) h)

  -- the test fails exactly where some number is not whole
  pub all-judged : (count : ℕ) → Judged (all_whole f count) ((j : ℕ) → j < count → is_whole (f j) ≡ true)
      ((j : ℕ) × (j < count) × ((z : ℤ) → IsThe z (f j) → ⊥))
  all-judged count =
      record {
        passing = whole_each count;
        failing = λ h. let r = one-not count h in (r.0, r.1, λ z e. true≢false (sym (whole-of-number (f r.0) z e) ∙ r.2));
        clash = λ each s. s.2 (whole_of (f s.0)) (whole-number (f s.0) (each s.0 s.1));
      }
