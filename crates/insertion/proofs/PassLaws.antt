-- The knots with v among them and the knots without it: each row of the check that speaks of knots says the same of both,
-- so an insertion hands back a curve that passes the check, and a removal too.
use mathlib.Core.Bool.{Bool, true, false, cond, ◌&&◌}
use mathlib.Core.List.{List, [], ◌∷◌}
use mathlib.Core.Path.{◌≡◌, refl, ap, ◌∙◌}
use Prim.Native.Nat.{ℕ, suc, ◌+◌, ◌-◌, ◌≤◌, ◌<◌}
use native.Mathlib.Omega.{arith}
use lib.Dec.{leb, ltb, eqb}
use lib.ListN.{length, get_or}
use borrow.Author.Tests.{leb-true, leb-false, le-leb, eqb-true}
use Rattle.grid.specs.Limits.{knot_most}
use Rattle.grid.specs.Rows.{rises_from, domain_start, domain_end, ends_ok, occurrences, repeats_most, repeats_within, repeats_ok}
use Rattle.refusal.proofs.JudgingLaws.{both}
use Rattle.grid.proofs.RepeatLaws.{rises-cons, rises-weaken}
use Rattle.insertion.specs.Insertion.{knots_up_to, inserted_knots}
use Rattle.insertion.proofs.OrderLaws.{either}
use Rattle.insertion.proofs.KnotLaws.{inserted_knots-length, inserted_knots-before, inserted_knots-behind}

-- row 4
pub order-on : (low : ℕ) (ks : List ℕ) (v : ℕ) → rises_from low ks ≡ true → low ≤ v → v ≤ knot_most → rises_from low (inserted_knots ks v) ≡ true
unfolding rises_from inserted_knots
order-on low [] v h l u = rw (le-leb low v l, le-leb v knot_most u)
order-on low (k ∷ ks) v h l u = go (leb k v) refl (λ s. order-on k ks v p.1 s u)
  where
    p : (low ≤ k) × (rises_from k ks ≡ true) × (k ≤ knot_most)
    p = rises-cons low k ks h

    go : (b : Bool) → leb k v ≡ b → (k ≤ v → rises_from k (inserted_knots ks v) ≡ true) → rises_from low (cond b (k ∷ inserted_knots ks v) (v ∷ k ∷ ks)) ≡ true
    go true e rest = rw (le-leb low k p.0, le-leb k knot_most p.2) (rest (leb-true k v e))
    go false e rest = rw (le-leb low v l, le-leb v knot_most u, le-leb v k (omega (arith, leb-false k v e)), le-leb k knot_most p.2) p.1

pub order-back : (low : ℕ) (ks : List ℕ) (v : ℕ) → rises_from low (inserted_knots ks v) ≡ true → rises_from low ks ≡ true
unfolding rises_from inserted_knots
order-back low [] v h = refl
order-back low (k ∷ ks) v h = go (leb k v) (order-back k ks v) h
  where
    go : (b : Bool) → (rises_from k (inserted_knots ks v) ≡ true → rises_from k ks ≡ true)
        → rises_from low (cond b (k ∷ inserted_knots ks v) (v ∷ k ∷ ks)) ≡ true → rises_from low (k ∷ ks) ≡ true
    go true rest s =
        let p = rises-cons low k (inserted_knots ks v) s in
        rw (le-leb low k p.0, le-leb k knot_most p.2) (rest p.1)
    go false rest s =
        let p = rises-cons low v (k ∷ ks) s in
        rises-weaken v low (k ∷ ks) p.0 p.1

-- row 6: v stands once more, every other value as often
step-swap : (a b : Bool) (n : ℕ) → cond a (suc (cond b (suc n) n)) (cond b (suc n) n) ≡ cond b (suc (cond a (suc n) n)) (cond a (suc n) n)
step-swap true true n = refl
step-swap true false n = refl
step-swap false true n = refl
step-swap false false n = refl

pub occurrences-inserted : (w : ℕ) (ks : List ℕ) (v : ℕ) → occurrences w (inserted_knots ks v) ≡ occurrences w (v ∷ ks)
unfolding occurrences inserted_knots
occurrences-inserted w [] v = refl
occurrences-inserted w (k ∷ ks) v = go (leb k v) (occurrences-inserted w ks v)
  where
    go : (b : Bool) → occurrences w (inserted_knots ks v) ≡ occurrences w (v ∷ ks)
        → occurrences w (cond b (k ∷ inserted_knots ks v) (v ∷ k ∷ ks)) ≡ occurrences w (v ∷ k ∷ ks)
    go true e = rw e (step-swap (eqb k w) (eqb v w) (occurrences w ks))
    go false e = refl

-- each value within its bound, as a claim over all values
within-of-all : (m : ℕ) (ts vs : List ℕ) → ((w : ℕ) → occurrences w ts ≤ repeats_most m ts w) → repeats_within m ts vs ≡ true
unfolding repeats_within
within-of-all m ts [] all = refl
within-of-all m ts (w ∷ vs) all = rw (le-leb (occurrences w ts) (repeats_most m ts w) (all w), within-of-all m ts vs all)

some-within : (m : ℕ) (ts vs : List ℕ) (w : ℕ) → repeats_within m ts vs ≡ true → 0 < occurrences w vs → occurrences w ts ≤ repeats_most m ts w
unfolding repeats_within occurrences
some-within m ts [] w h some = absurd (omega arith)
some-within m ts (u ∷ vs) w h some = go (eqb u w) refl (some-within m ts vs w p.1) some
  where
    p : (leb (occurrences u ts) (repeats_most m ts u) ≡ true) × (repeats_within m ts vs ≡ true)
    p = both (leb (occurrences u ts) (repeats_most m ts u)) (repeats_within m ts vs) h

    go : (b : Bool) → eqb u w ≡ b → (0 < occurrences w vs → occurrences w ts ≤ repeats_most m ts w)
        → 0 < cond b (suc (occurrences w vs)) (occurrences w vs) → occurrences w ts ≤ repeats_most m ts w
    go true e rest s = rw (← eqb-true u w e) (leb-true (occurrences u ts) (repeats_most m ts u) p.0)
    go false e rest s = rest s

pub repeats-of-test : (m : ℕ) (ts : List ℕ) → repeats_ok m ts ≡ true → (w : ℕ) → occurrences w ts ≤ repeats_most m ts w
unfolding repeats_ok
repeats-of-test m ts h w =
    either 0 (occurrences w ts) (λ some. some-within m ts ts w h some) (λ none. omega arith)

pub test-of-repeats : (m : ℕ) (ts : List ℕ) → ((w : ℕ) → occurrences w ts ≤ repeats_most m ts w) → repeats_ok m ts ≡ true
unfolding repeats_ok
test-of-repeats m ts all = within-of-all m ts ts all

module _ (m : ℕ) (ks : List ℕ) (v : ℕ) (left : m < knots_up_to v ks) (right : knots_up_to v ks + m + 1 ≤ length ks) where
  -- the ends of the domain stay
  start-same : domain_start m (inserted_knots ks v) ≡ domain_start m ks
  start-same = inserted_knots-before ks v m left

  end_same : domain_end m (inserted_knots ks v) ≡ domain_end m ks
  end_same =
      let place : length (inserted_knots ks v) - (m + 1) ≡ suc (length ks - (m + 1)) = omega (arith, inserted_knots-length ks v) in
      ap (λ (n : ℕ). get_or (inserted_knots ks v) n 0) place ∙ inserted_knots-behind ks v (length ks - (m + 1)) (omega arith)

  -- row 5 reads these alone
  pub ends_same : ends_ok m (inserted_knots ks v) ≡ ends_ok m ks
  unfolding ends_ok
  ends_same = rw (start-same, end_same)

  -- how often a value may stand
  most-same : (w : ℕ) → repeats_most m (inserted_knots ks v) w ≡ repeats_most m ks w
  unfolding repeats_most
  most-same w = rw (start-same, end_same)

  most-least : (w : ℕ) → m ≤ repeats_most m ks w
  unfolding repeats_most
  most-least w = go (ltb (domain_start m ks) w && ltb w (domain_end m ks))
    where
      go : (b : Bool) → m ≤ cond b m (m + 1)
      go true = omega arith
      go false = omega arith

  pub repeats-on : repeats_ok m ks ≡ true → occurrences v ks < m → repeats_ok m (inserted_knots ks v) ≡ true
  unfolding occurrences
  repeats-on h few =
      test-of-repeats m (inserted_knots ks v)
      (λ w. rw (occurrences-inserted w ks v, most-same w) (go w (eqb v w) refl))
    where
      go : (w : ℕ) (b : Bool) → eqb v w ≡ b → cond b (suc (occurrences w ks)) (occurrences w ks) ≤ repeats_most m ks w
      go w true e = let same = eqb-true v w e in omega (arith, most-least w, rw same at few)
      go w false e = repeats-of-test m ks h w

  pub repeats-back : repeats_ok m (inserted_knots ks v) ≡ true → repeats_ok m ks ≡ true
  unfolding occurrences
  repeats-back h = test-of-repeats m ks (λ w. go w (eqb v w) (rw (occurrences-inserted w ks v, most-same w) at (repeats-of-test m (inserted_knots ks v) h w)))
    where
      go : (w : ℕ) (b : Bool) → cond b (suc (occurrences w ks)) (occurrences w ks) ≤ repeats_most m ks w → occurrences w ks ≤ repeats_most m ks w
      go w true s = omega arith
      go w false s = s
