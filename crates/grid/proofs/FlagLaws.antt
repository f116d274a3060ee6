-- A loop that looks at every entry and lowers a flag at each one that is wrong: what the flag says of the entries that were passed.
use mathlib.Core.Bool.{Bool, true, false, ◌&&◌, true≢false, false≢true}
use mathlib.Core.Path.{◌≡◌, refl, sym}
use Prim.Native.Nat.{ℕ, ◌+◌, ◌≤◌, ◌<◌}
use native.Mathlib.Omega.{arith}
use borrow.Author.Count.{below_more}

-- from `first` on and before i: none is wrong where the flag stands, one is where it has been lowered
pub record Flagged (Wrong : ℕ → Type 0) (first i : ℕ) (fine : Bool) : Type 0 where
  pub begun : first ≤ i
  pub none : fine ≡ true → (j : ℕ) → j < i → first ≤ j → Wrong j → ⊥
  pub one : fine ≡ false → (j : ℕ) × (j < i) × (first ≤ j) × Wrong j

-- entry i is tested, and the flag stands where it stood and the test passes
module _ (Wrong : ℕ → Type 0) (first i : ℕ) where
  pub flagged_more : (fine test : Bool) → Flagged Wrong first i fine → (test ≡ true → Wrong i → ⊥) → (test ≡ false → Wrong i)
      → Flagged Wrong first (i + 1) (fine && test)
  flagged_more true true s right wrong =
      let here = s.begun in
      record { begun = omega arith; none = λ f. below_more (λ j. first ≤ j → Wrong j → ⊥) i (s.none refl) (λ l. right refl); one = λ f. absurd (true≢false f) }
  flagged_more true false s right wrong =
      let here = s.begun in
      record { begun = omega arith; none = λ f. absurd (false≢true f); one = λ f. (i, omega arith, here, wrong refl) }
  flagged_more false test s right wrong =
      let here = s.begun in
      let o = s.one refl in
      record { begun = omega arith; none = λ f. absurd (false≢true f); one = λ f. (o.0, omega (arith, o.1), o.2, o.3) }

-- a test that cannot pass fails, and one that cannot fail passes
pub fails : (test : Bool) → (test ≡ true → ⊥) → test ≡ false
fails true n = absurd (n refl)
fails false n = refl

pub passes : (test : Bool) → (test ≡ false → ⊥) → test ≡ true
passes true n = refl
passes false n = absurd (n refl)

-- a flag that tells of a test both ways is the test
pub flag-tells : (flag test : Bool) → (flag ≡ true → test ≡ true) → (flag ≡ false → test ≡ false) → flag ≡ test
flag-tells true test t f = sym (t refl)
flag-tells false test t f = sym (f refl)
