-- Where the exact coordinate lies between two whole numbers, some carrying coordinate is at most the higher and some at least the lower:
-- else all of them, and the exact one with them, would lie a whole step beyond.
use mathlib.Core.Bool.{Bool, true, false, ◌||◌, true≢false}
use mathlib.Core.List.{List, [], ◌∷◌}
use mathlib.Core.Path.{◌≡◌, refl, sym, ◌∙◌}
use Prim.Native.Nat.{ℕ, zero, suc, ◌+◌, ◌-◌, ◌≤◌, ◌<◌}
use native.Mathlib.Omega.{arith}
use lib.IntN.{ℤ, pos, ◌+ℤ◌, ◌-ℤ◌}
use lib.ListN.{length, get_or}
use lib.Ieee.Bits.{is_true}
use lib.Signed.{le_z}
use Rattle.algebra.specs.OrderedField.{Side, low, high}
use Rattle.signed.proofs.OrderLaws.{le_z-true, le_z-false, le-le_z}
use Rattle.signed.proofs.PartLaws.{sum-parts, difference-parts}
use Rattle.checked.proofs.GridLaws.{le_z-le}
use Rattle.boxes.specs.Meeting.{some_at_most, some_at_least, meets_on_axis}
use Rattle.fractions.specs.Fraction.{Fraction, whole}
use Rattle.fractions.specs.Order.{AtMost, Bounds}
use Rattle.algebra.proofs.OrderLaws.{AtMost-trans}
use Rattle.fractions.proofs.Rational.{class, rational}
use Rattle.fractions.proofs.ClassLaws.{whole-order, whole-at-most, class-at-most}
use Rattle.exact.specs.ExactPoint.{exact_coordinate}
use Rattle.exact.proofs.HullLaws.{Carried, exact-bounded}
use Rattle.span.specs.Span.{carrying_of}
use Rattle.span.proofs.SentenceLaws.{carrying-entries, carrying-at}

or-not : (a b : Bool) → (a || b) ≡ false → (a ≡ false) × (b ≡ false)
or-not true b h = absurd (true≢false h)
or-not false b h = (refl, h)

-- a test that some entry passes: where it fails, each entry fails
some-not : (test : ℤ → Bool) (some : List ℤ → Bool) → ((z : ℤ) (zs : List ℤ) → some (z ∷ zs) ≡ (test z || some zs)) → (zs : List ℤ) → some zs ≡ false → (k : ℕ) → k < length zs → test (get_or zs k (pos 0)) ≡ false
some-not test some more [] none k h = absurd (omega arith)
some-not test some more (z ∷ zs) none zero h = (or-not (test z) (some zs) (sym (more z zs) ∙ none)).0
some-not test some more (z ∷ zs) none (suc k) h =
    some-not test some more zs (or-not (test z) (some zs) (sym (more z zs) ∙ none)).1 k (omega arith)

-- whole numbers round a fraction are in order
round-order : (a b : ℤ) (e : Fraction) → AtMost (whole a) e → AtMost e (whole b) → le_z a b ≡ true
round-order a b e under above =
    is_true (le_z a b)
    ((whole-at-most a b).1 (AtMost-trans rational (class (whole a)) (class e) (class (whole b)) ((class-at-most (whole a) e).0 under) ((class-at-most e (whole b)).0 above))).le

-- the other side
other : Side → Side
other low = high
other high = low

-- one whole step past v: above it where all lies above, below it where all lies below
past : Side → ℤ → ℤ
past low v = v +ℤ pos 1
past high v = v -ℤ pos 1

-- z lies past v
Past : Side → ℤ → ℤ → Type 0
Past low v z = le_z z v ≡ false
Past high v z = le_z v z ≡ false

past-bounds : (side : Side) (v z : ℤ) → Past side v z → Bounds side (whole (past side v)) (whole z)
unfolding past Past
past-bounds low v z h = (whole-order (v +ℤ pos 1) z).0 (le_z-le (v +ℤ pos 1) z (le-le_z (v +ℤ pos 1) z (omega (arith, le_z-false z v h, sum-parts v (pos 1)))))
past-bounds high v z h = (whole-order z (v -ℤ pos 1)).0 (le_z-le z (v -ℤ pos 1) (le-le_z z (v -ℤ pos 1) (omega (arith, le_z-false v z h, difference-parts v (pos 1)))))

-- nothing lies past v and on this side of v at once
past-clash : (side : Side) (v : ℤ) (e : Fraction) → Bounds side (whole (past side v)) e → Bounds (other side) (whole v) e → ⊥
unfolding past other
past-clash low v e a b =
    let o = le_z-true (v +ℤ pos 1) v (round-order (v +ℤ pos 1) v e a b) in
    let s = sum-parts v (pos 1) in
    absurd (omega arith)
past-clash high v e a b =
    let o = le_z-true v (v -ℤ pos 1) (round-order v (v -ℤ pos 1) e b a) in
    let s = difference-parts v (pos 1) in
    absurd (omega arith)

module _ (ts : List ℕ) (ps : List ℤ) (m i p q : ℕ) (c : Carried ts ps m i p q) where
  -- not all carrying coordinates lie past v where the exact one does not
  not-all-past : (side : Side) (v : ℤ) → Bounds (other side) (whole v) (exact_coordinate ts ps m i p q) → ((j : ℕ) → i ≤ j + m → j ≤ i → Past side v (get_or ps j (pos 0))) → ⊥
  not-all-past side v bound all =
      past-clash side v (exact_coordinate ts ps m i p q)
      (exact-bounded ts ps m i p q c side (whole (past side v)) (λ j l h. past-bounds side v (get_or ps j (pos 0)) (all j l h)))
      bound

  -- a test that each carrying coordinate past v fails is passed by some carrying coordinate
  some-this-side : (side : Side) (v : ℤ) (test : ℤ → Bool) (some : List ℤ → Bool) → ((z : ℤ) (zs : List ℤ) → some (z ∷ zs) ≡ (test z || some zs)) → ((z : ℤ) → test z ≡ false → Past side v z) → Bounds (other side) (whole v) (exact_coordinate ts ps m i p q) → some (carrying_of m i ps) ≡ true
  some-this-side side v test some more fails bound = by (some (carrying_of m i ps)) refl
    where
      by : (b : Bool) → some (carrying_of m i ps) ≡ b → b ≡ true
      by true e = refl
      by false e =
          absurd
          (not-all-past side v bound
          (λ j l h. fails (get_or ps j (pos 0)) (rw (carrying-at m i ps c.from c.inside j l h) at (some-not test some more (carrying_of m i ps) e (j - (i - m)) (omega (arith, c.from, (carrying-entries m i ps c.from c.inside).count))))))

  -- the box of the carrying coordinates meets every pair of sides between which the exact coordinate lies
  pub exact-meets : (v w : ℤ) → AtMost (whole v) (exact_coordinate ts ps m i p q) → AtMost (exact_coordinate ts ps m i p q) (whole w) → meets_on_axis v w (carrying_of m i ps) ≡ true
  unfolding meets_on_axis some_at_most some_at_least other Past
  exact-meets v w above under =
      rw (some-this-side low w (λ z. le_z z w) (some_at_most w) (λ z zs. refl) (λ z h. h) under, some-this-side high v (λ z. le_z v z) (some_at_least v) (λ z zs. refl) (λ z h. h) above)
