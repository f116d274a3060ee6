-- The span of an insertion is the i with t_i ≤ v < t_{i+1}, and no other i is; it lies from m to n.
use mathlib.Core.Bool.{Bool, true, false, cond}
use mathlib.Core.Path.{◌≡◌, refl}
use mathlib.Core.List.{List, [], ◌∷◌}
use Prim.Native.Nat.{ℕ, zero, suc, ◌+◌, ◌-◌, ◌≤◌, ◌<◌}
use native.Mathlib.Numerals.{add-one}
use native.Mathlib.Omega.{arith}
use lib.Dec.{leb}
use lib.IntN.{ℤ}
use lib.ListN.{length, get_or, drop, drop_of_length-le}
use lib.Seq.{drop-cons}
use borrow.Author.Tests.{leb-true, leb-false, le-leb, lt-leb}
use Rattle.insertion.proofs.OrderLaws.{either}
use Rattle.insertion.specs.Insertion.{knots_up_to, insertion_span}
use Rattle.insertion.specs.Standing.{Weighed, Insertable}

-- the knots before the first one above v
pub knots_up_to-length : (v : ℕ) (ts : List ℕ) → knots_up_to v ts ≤ length ts
unfolding knots_up_to
knots_up_to-length v [] = omega arith
knots_up_to-length v (t ∷ ts) = go (leb t v) (knots_up_to-length v ts)
  where
    go : (b : Bool) → knots_up_to v ts ≤ length ts → cond b (suc (knots_up_to v ts)) 0 ≤ suc (length ts)
    go true ih = omega arith
    go false ih = omega arith

pub knots_up_to-below : (v : ℕ) (ts : List ℕ) (j : ℕ) → j < knots_up_to v ts → get_or ts j 0 ≤ v
unfolding knots_up_to
knots_up_to-below v [] j h = absurd (omega arith)
knots_up_to-below v (t ∷ ts) zero h = go (leb t v) refl h
  where
    go : (b : Bool) → leb t v ≡ b → zero < cond b (suc (knots_up_to v ts)) 0 → t ≤ v
    go true e p = leb-true t v e
    go false e p = absurd (omega arith)
knots_up_to-below v (t ∷ ts) (suc j) h = go (leb t v) (knots_up_to-below v ts j) h
  where
    go : (b : Bool) → (j < knots_up_to v ts → get_or ts j 0 ≤ v) → suc j < cond b (suc (knots_up_to v ts)) 0 → get_or ts j 0 ≤ v
    go true ih p = ih (omega arith)
    go false ih p = absurd (omega arith)

pub knots_up_to-above : (v : ℕ) (ts : List ℕ) → knots_up_to v ts < length ts → v < get_or ts (knots_up_to v ts) 0
unfolding knots_up_to
knots_up_to-above v [] h = absurd (omega arith)
knots_up_to-above v (t ∷ ts) h = go (leb t v) refl (knots_up_to-above v ts) h
  where
    go : (b : Bool) → leb t v ≡ b → (knots_up_to v ts < length ts → v < get_or ts (knots_up_to v ts) 0)
        → cond b (suc (knots_up_to v ts)) 0 < suc (length ts) → v < get_or (t ∷ ts) (cond b (suc (knots_up_to v ts)) 0) 0
    go true e ih p = ih (omega arith)
    go false e ih p = leb-false t v e

-- a walk from the left: it stops at the first knot above v, goes on at any other, and ends with the list
pub up_to-stops : (v : ℕ) (ts : List ℕ) (i : ℕ) → i < length ts → knots_up_to v ts ≡ i + knots_up_to v (drop i ts)
    → v < get_or ts i 0 → i ≡ knots_up_to v ts
unfolding knots_up_to
up_to-stops v ts i inside whole above =
    let rest : knots_up_to v (drop i ts) ≡ 0 =
    rw (drop-cons ts i 0 inside, lt-leb (get_or ts i 0) v above) refl in
    omega arith

pub up_to-more : (v : ℕ) (ts : List ℕ) (i : ℕ) → i < length ts → knots_up_to v ts ≡ i + knots_up_to v (drop i ts)
    → get_or ts i 0 ≤ v → knots_up_to v ts ≡ i + 1 + knots_up_to v (drop (i + 1) ts)
unfolding knots_up_to
up_to-more v ts i inside whole below =
    let rest : knots_up_to v (drop i ts) ≡ suc (knots_up_to v (drop (suc i) ts)) =
    rw (drop-cons ts i 0 inside, le-leb (get_or ts i 0) v below) refl in
    rw (add-one i) (omega arith)

pub up_to-none : (v : ℕ) (ts : List ℕ) (i : ℕ) → length ts ≤ i → knots_up_to v ts ≡ i + knots_up_to v (drop i ts)
    → i ≤ length ts → i ≡ knots_up_to v ts
unfolding knots_up_to
up_to-none v ts i past whole inside =
    let rest : knots_up_to v (drop i ts) ≡ 0 = rw (drop_of_length-le ts past) refl in
    omega arith

-- the span is one less than the count
pub span-of-up_to : (ts : List ℕ) (v k : ℕ) → k ≡ knots_up_to v ts → k - 1 ≡ insertion_span ts v
unfolding insertion_span
span-of-up_to ts v k e = rw e

-- in never-falling knots the first knot above v stands right of t_m and no further than t_{n+1}
module _ (m : ℕ) (ts : List ℕ) (ps : List ℤ) (v : ℕ) (s : Insertable m ts ps v) where
  pub up_to-least : m < knots_up_to v ts
  up_to-least = either m (knots_up_to v ts) (λ h. h) (λ h. absurd (clash h))
    where
      clash : knots_up_to v ts ≤ m → ⊥
      clash h =
          let inside : knots_up_to v ts < length ts = omega (arith, s.count) in
          omega (arith, knots_up_to-above v ts inside, s.rises (knots_up_to v ts) m h (omega (arith, s.count)), s.low)

  pub up_to-most : knots_up_to v ts ≤ length ps
  up_to-most = either (length ps) (knots_up_to v ts) (λ h. absurd (clash h)) (λ h. h)
    where
      clash : length ps < knots_up_to v ts → ⊥
      clash h = omega (arith, knots_up_to-below v ts (length ps) h, s.high)

  -- the span lies from m to n
  pub span-least : m ≤ insertion_span ts v
  unfolding insertion_span
  span-least = omega (arith, up_to-least)

  pub span-most : insertion_span ts v < length ps
  unfolding insertion_span
  span-most = omega (arith, up_to-least, up_to-most)

  -- knots up to the span are at most v, knots behind it are above v
  pub span-low : (j : ℕ) → j ≤ insertion_span ts v → get_or ts j 0 ≤ v
  unfolding insertion_span
  span-low j h = knots_up_to-below v ts j (omega (arith, up_to-least))

  pub span-high : (j : ℕ) → insertion_span ts v < j → j < length ts → v < get_or ts j 0
  unfolding insertion_span
  span-high j h p =
      let inside : knots_up_to v ts < length ts = omega (arith, up_to-most, s.count) in
      omega (arith, knots_up_to-above v ts inside, s.rises (knots_up_to v ts) j (omega (arith, up_to-least)) p)

  -- no other i has t_i ≤ v < t_{i+1}
  pub span-only : (i : ℕ) → i + 1 < length ts → get_or ts i 0 ≤ v → v < get_or ts (i + 1) 0 → i ≡ insertion_span ts v
  span-only i inside low high =
      either i (insertion_span ts v)
      (λ h. absurd (omega (arith, span-low (i + 1) (omega arith), high)))
      (λ h. either (insertion_span ts v) i (λ k. absurd (omega (arith, span-high i k (omega arith), low))) (λ k. omega arith))

  -- the quotients from Q_{i-m+1} to Q_i can be formed
  pub span-weighed : (j : ℕ) → insertion_span ts v < j + m → j ≤ insertion_span ts v → Weighed m ts (length ps) v j
  span-weighed j h k =
      let knot : j + m < length ts = omega (arith, s.count, span-most) in
      record {
        low = span-low j k;
        high = span-high (j + m) h knot;
        knot = knot;
        first = omega (arith, span-least);
        point = omega (arith, span-most);
      }
