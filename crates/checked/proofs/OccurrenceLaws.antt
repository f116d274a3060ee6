-- Row 6: how often a value stands, over every value; and which stands too often.
use mathlib.Core.Bool.{true, false}
use mathlib.Core.List.{List, [], ◌∷◌}
use mathlib.Core.Logic.{◌⊎◌, inl, inr, ⊎_elim}
use mathlib.Core.Path.{◌≡◌, refl, subst}
use Prim.Native.Nat.{ℕ, zero, suc, ◌+◌, ◌≤◌, ◌<◌, zero-le}
use native.Mathlib.Decide.{ℕ_discrete, dec_le}
use native.Mathlib.Omega.{arith}
use lib.Dec.{leb}
use lib.ListN.{length, get_or}
use borrow.Author.Tests.{leb-true, leb-false}
use Rattle.grid.specs.Rows.{domain_start, domain_end, occurrences, repeats_most, repeats_within, repeats_ok}
use Rattle.grid.proofs.RepeatLaws.{occurrences-is, occurrences-not}
use Rattle.grid.proofs.InnerLaws.{most-inside, most-left, most-right}
use Rattle.checked.specs.Sentences.{Inside, RepeatsWrong}
use Rattle.checked.proofs.TestLaws.{every-passes, some-fails, Judged}

-- a value that stands somewhere is an entry, and an entry stands somewhere
pub stands_at : (v : ℕ) (ts : List ℕ) → 0 < occurrences v ts → (k : ℕ) × (k < length ts) × (get_or ts k 0 ≡ v)
unfolding occurrences
stands_at v [] h = absurd (omega arith)
stands_at v (t ∷ ts) h =
    let rest = stands_at v ts in
    elim (ℕ_discrete t v) [
      | yes e ↦ (zero, omega arith, e)
      | no n ↦ let r = rest (rw (occurrences-not v t ts n) at h) in (suc r.0, omega (arith, r.1), r.2)
    ]

pub occurs-at : (v : ℕ) (ts : List ℕ) (k : ℕ) → k < length ts → get_or ts k 0 ≡ v → 0 < occurrences v ts
occurs-at v [] k i e = absurd (omega arith)
occurs-at v (t ∷ ts) zero i e = rw (occurrences-is v t ts e) (omega arith)
occurs-at v (t ∷ ts) (suc k) i e =
    let rest = occurs-at v ts k (omega arith) e in
    elim (ℕ_discrete t v) [
      | yes same ↦ rw (occurrences-is v t ts same) (omega arith)
      | no n ↦ rw (occurrences-not v t ts n) rest
    ]

module _ (m : ℕ) (ts : List ℕ) where
  -- the test says so of every entry, and what is no entry stands nowhere
  within-entry : repeats_ok m ts ≡ true → (k : ℕ) → k < length ts → occurrences (get_or ts k 0) ts ≤ repeats_most m ts (get_or ts k 0)
  unfolding repeats_ok repeats_within
  within-entry h k i =
      leb-true (occurrences (get_or ts k 0) ts) (repeats_most m ts (get_or ts k 0))
      (every-passes (λ v. leb (occurrences v ts) (repeats_most m ts v)) (repeats_within m ts) refl (λ a r. refl) 0 ts h k i)

  within : repeats_ok m ts ≡ true → (v : ℕ) → occurrences v ts ≤ repeats_most m ts v
  within h v = by_count (occurrences v ts) refl
    where
      by_count : (n : ℕ) → occurrences v ts ≡ n → n ≤ repeats_most m ts v
      by_count zero e = zero-le
      by_count (suc n) e =
          let r = stands_at v ts (omega arith) in
          rw e at (subst (λ (x : ℕ). occurrences x ts ≤ repeats_most m ts x) r.2 (within-entry h r.0 r.1))

  -- a value strictly inside the domain stands at most m times, any value at most m+1 times
  abbrev pub Repeated : Type 0
  Repeated = ((v : ℕ) → Inside m ts v → occurrences v ts ≤ m) × ((v : ℕ) → occurrences v ts ≤ m + 1)

  -- a value stands inside, or as often as it may it stands m+1 times
  by_place : (v : ℕ) → (Inside m ts v × (repeats_most m ts v ≡ m)) ⊎ ((Inside m ts v → ⊥) × (repeats_most m ts v ≡ m + 1))
  by_place v =
      elim (dec_le v (domain_start m ts)) [
        | yes a ↦ inr (λ k. omega (arith, k.above), most-left m ts v a)
        | no a ↦ elim (dec_le (domain_end m ts) v) [
          | yes b ↦ inr (λ k. omega (arith, k.below), most-right m ts v b)
          | no b ↦ inl (record { above = omega arith; below = omega arith }, most-inside m ts v (omega arith) (omega arith))
        ]
      ]

  most-bound : (v : ℕ) → repeats_most m ts v ≤ m + 1
  most-bound v = ⊎_elim (λ k. omega (arith, k.1)) (λ k. omega (arith, k.1)) (by_place v)

  repeats-facts : repeats_ok m ts ≡ true → Repeated
  repeats-facts h = (
    (λ v k. rw (most-inside m ts v k.above k.below) at (within h v)),
    (λ v. omega (arith, within h v, most-bound v)),
  )

  repeats-wrong : repeats_ok m ts ≡ false → RepeatsWrong m ts
  unfolding repeats_ok repeats_within
  repeats-wrong h =
      let r = some-fails (λ v. leb (occurrences v ts) (repeats_most m ts v)) (repeats_within m ts) refl (λ a s. refl) 0 ts h in
      let v = get_or ts r.0 0 in
      let many = leb-false (occurrences v ts) (repeats_most m ts v) r.2 in
      (v, ⊎_elim (λ k. inl (k.0, rw k.1 at many)) (λ k. inr (k.0, rw k.1 at many)) (by_place v))

  repeats-clash : Repeated → RepeatsWrong m ts → ⊥
  repeats-clash r (v, inl h) = omega (arith, r.0 v h.0, h.1)
  repeats-clash r (v, inr h) = omega (arith, r.1 v, h.1)

  pub repeats-judged : Judged (repeats_ok m ts) Repeated (RepeatsWrong m ts)
  repeats-judged = record { passing = repeats-facts; failing = repeats-wrong; clash = repeats-clash }
