-- The box of some coordinates meets low..high exactly where they share a whole number.
use mathlib.Core.Bool.{Bool, true, false, ◌||◌, and-eq-true_iff}
use mathlib.Core.List.{List, [], ◌∷◌}
use mathlib.Core.Path.{◌≡◌, refl, sym, subst, ◌∙◌}
use Prim.Native.Nat.{ℕ, zero, suc, ◌<◌}
use native.Mathlib.Omega.{arith}
use lib.Dec.{T}
use lib.Ieee.Bits.{is_true}
use lib.IntN.{ℤ, pos}
use lib.ListN.{length, get_or}
use lib.Signed.{le_z, ◌≤ℤ◌}
use Rattle.signed.proofs.OrderLaws.{le_z-refl, le_z-trans, le_z-total}
use Rattle.boxes.specs.Meeting.{some_at_most, some_at_least, meets_on_axis}
use Rattle.boxes.specs.Sentences.{Shared, MeetsExactly}

-- the order and its test
pub order : {a b : ℤ} → le_z a b ≡ true → a ≤ℤ b
order e = record { le = subst T (sym e) tt }

pub test : {a b : ℤ} → a ≤ℤ b → le_z a b ≡ true
test {a} {b} h = is_true (le_z a b) h.le

-- some entry passes a test
abbrev Passed : (ℤ → Bool) → List ℤ → Type 0
Passed passes zs = (k : ℕ) × (k < length zs) × (passes (get_or zs k (pos 0)) ≡ true)

module _ (passes : ℤ → Bool) (some : List ℤ → Bool) (none : some [] ≡ false) (more : (z : ℤ) (zs : List ℤ) → some (z ∷ zs) ≡ (passes z || some zs)) where
  some-entry : (zs : List ℤ) → some zs ≡ true → Passed passes zs
  some-entry [] e = absurd (mathlib.Core.Bool.false≢true (sym none ∙ e))
  some-entry (z ∷ zs) e = by (passes z) refl (sym (more z zs) ∙ e) (some-entry zs)
    where
      by : (b : Bool) → passes z ≡ b → (b || some zs) ≡ true → (some zs ≡ true → Passed passes zs) → Passed passes (z ∷ zs)
      by true p h later = (0, omega arith, p)
      by false p h later = let s = later h in (suc s.0, omega (arith, s.1), s.2)

  entry-some : (zs : List ℤ) (k : ℕ) → k < length zs → passes (get_or zs k (pos 0)) ≡ true → some zs ≡ true
  entry-some [] k h e = absurd (omega arith)
  entry-some (z ∷ zs) zero h e = more z zs ∙ rw e
  entry-some (z ∷ zs) (suc k) h e = more z zs ∙ rw (entry-some zs k (omega arith) e) (or-true (passes z))
    where
      or-true : (b : Bool) → (b || true) ≡ true
      or-true true = refl
      or-true false = refl

module _ (low high : ℤ) (zs : List ℤ) where
  some-low : some_at_most high zs ≡ true → Passed (λ z. le_z z high) zs
  unfolding some_at_most
  some-low = some-entry (λ z. le_z z high) (some_at_most high) refl (λ z rest. refl) zs

  some-high : some_at_least low zs ≡ true → Passed (λ z. le_z low z) zs
  unfolding some_at_least
  some-high = some-entry (λ z. le_z low z) (some_at_least low) refl (λ z rest. refl) zs

  low-some : (k : ℕ) → k < length zs → le_z (get_or zs k (pos 0)) high ≡ true → some_at_most high zs ≡ true
  unfolding some_at_most
  low-some k = entry-some (λ z. le_z z high) (some_at_most high) refl (λ z rest. refl) zs k

  high-some : (k : ℕ) → k < length zs → le_z low (get_or zs k (pos 0)) ≡ true → some_at_least low zs ≡ true
  unfolding some_at_least
  high-some k = entry-some (λ z. le_z low z) (some_at_least low) refl (λ z rest. refl) zs k

  -- the low side itself where some entry lies at or below it, else an entry at or below the high side
  shared : le_z low high ≡ true → Passed (λ z. le_z z high) zs → Passed (λ z. le_z low z) zs → Shared low high zs
  shared sides a b = by (le_z (get_or zs a.0 (pos 0)) low) refl
    where
      by : (t : Bool) → le_z (get_or zs a.0 (pos 0)) low ≡ t → Shared low high zs
      by true e =
          record {
            number = low;
            between = record { below = a.0; above = b.0; below-stands = a.1; above-stands = b.1; low = order e; high = order b.2 };
            from = order (le_z-refl low);
            to = order sides;
          }
      by false e =
          let here = get_or zs a.0 (pos 0) in
          record {
            number = here;
            between = record { below = a.0; above = a.0; below-stands = a.1; above-stands = a.1; low = order (le_z-refl here); high = order (le_z-refl here) };
            from = order (le_z-total here low e);
            to = order a.2;
          }

  meets-shares : low ≤ℤ high → meets_on_axis low high zs ≡ true → Shared low high zs
  unfolding meets_on_axis
  meets-shares sides e =
      let both = (and-eq-true_iff (some_at_most high zs) (some_at_least low zs)).0 e in
      shared (test sides) (some-low both.0) (some-high both.1)

  shares-meets : Shared low high zs → meets_on_axis low high zs ≡ true
  unfolding meets_on_axis
  shares-meets s =
      let at_most : le_z (get_or zs s.between.below (pos 0)) high ≡ true = le_z-trans (get_or zs s.between.below (pos 0)) s.number high (test s.between.low) (test s.to) in
      let at_least : le_z low (get_or zs s.between.above (pos 0)) ≡ true = le_z-trans low s.number (get_or zs s.between.above (pos 0)) (test s.from) (test s.between.high) in
      rw (low-some s.between.below s.between.below-stands at_most, high-some s.between.above s.between.above-stands at_least)

pub meets-exactly : MeetsExactly
meets-exactly low high zs sides = (meets-shares low high zs sides, shares-meets low high zs)
