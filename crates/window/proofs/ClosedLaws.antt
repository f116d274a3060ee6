-- The window's knots without the middle one: entry by entry, and what they carry.
use mathlib.Core.List.{List, ◌++◌}
use mathlib.Core.Path.{◌≡◌, sym, ap, ◌∙◌}
use Prim.Native.Nat.{ℕ, ◌+◌, ◌-◌, ◌≤◌, ◌<◌}
use native.Mathlib.Omega.{arith}
use lib.IntN.{ℤ}
use lib.ListN.{length, get_or, take, drop, length-append, length-drop, get_or-append}
use lib.Seq.{length-take-le, get_or-take, get_or-drop, get_or-append-add}
use Rattle.insertion.specs.Insertion.{knots_up_to, insertion_span}
use Rattle.insertion.proofs.OrderLaws.{either}
use Rattle.insertion.proofs.SpanLaws.{knots_up_to-below, knots_up_to-above, span-of-up_to}
use Rattle.removal.specs.Axis.{Reduced}
use Rattle.window.specs.Window.{middle, closed, Window}

-- in knots that never fall, the first one above v
pub up_to-is : (v k : ℕ) (ts : List ℕ) → ((a b : ℕ) → a ≤ b → b < length ts → get_or ts a 0 ≤ get_or ts b 0) → 1 ≤ k → k < length ts
    → get_or ts (k - 1) 0 ≤ v → v < get_or ts k 0 → knots_up_to v ts ≡ k
up_to-is v k ts rises some inside low high =
    either (knots_up_to v ts) k
    (λ less. absurd (omega (arith, knots_up_to-above v ts (omega arith), rises (knots_up_to v ts) (k - 1) (omega arith) (omega arith))))
    (λ more. either k (knots_up_to v ts) (λ past. absurd (omega (arith, knots_up_to-below v ts k past))) (λ h. omega arith))

module _ (m : ℕ) (ts : List ℕ) (size : length ts ≡ m + m + 3) where
  front : length (take (m + 1) ts) ≡ m + 1
  front = length-take-le (m + 1) ts (omega arith)

  pub closed-length : length (closed m ts) ≡ m + m + 2
  unfolding closed
  closed-length = length-append (take (m + 1) ts) (drop (m + 2) ts) ∙ omega (arith, front, length-drop (m + 2) ts)

  pub closed-before : (j : ℕ) → j < m + 1 → get_or (closed m ts) j 0 ≡ get_or ts j 0
  unfolding closed
  closed-before j h = get_or-append (take (m + 1) ts) (drop (m + 2) ts) 0 j (omega (arith, front)) ∙ get_or-take (m + 1) ts j 0 h

  pub closed-behind : (j : ℕ) → m + 1 ≤ j → get_or (closed m ts) j 0 ≡ get_or ts (j + 1) 0
  unfolding closed
  closed-behind j h =
      let at : length (take (m + 1) ts) + (j - (m + 1)) ≡ j = omega (arith, front) in
      let to : m + 2 + (j - (m + 1)) ≡ j + 1 = omega arith in
      ap (λ (n : ℕ). get_or (take (m + 1) ts ++ drop (m + 2) ts) n 0) (sym at)
      ∙ get_or-append-add (take (m + 1) ts) (drop (m + 2) ts) (j - (m + 1)) 0
      ∙ get_or-drop (m + 2) ts (j - (m + 1)) 0 ∙ ap (λ (n : ℕ). get_or ts n 0) to

module _ (m : ℕ) (ts : List ℕ) (xs ys : List ℤ) (w : Window m ts xs ys) where
  closed-rises : (a b : ℕ) → a ≤ b → b < length (closed m ts) → get_or (closed m ts) a 0 ≤ get_or (closed m ts) b 0
  closed-rises a b h inside =
      let size = closed-length m ts w.knots in
      either b (m + 1)
      (λ near.
      omega (arith, closed-before m ts w.knots a (omega arith), closed-before m ts w.knots b near, w.rises a b h (omega (arith, w.knots))))
      (λ far. either a (m + 1)
      (λ near.
      omega (arith, closed-before m ts w.knots a near, closed-behind m ts w.knots b far, w.rises a (b + 1) (omega arith) (omega (arith, w.knots))))
      (λ both.
      omega (arith, closed-behind m ts w.knots a both, closed-behind m ts w.knots b far, w.rises (a + 1) (b + 1) (omega arith) (omega (arith, w.knots)))))

  closed-low : get_or (closed m ts) m 0 ≤ middle m ts
  closed-low = omega (arith, closed-before m ts w.knots m (omega arith), w.rises m (m + 1) (omega arith) (omega (arith, w.knots)))

  closed-high : middle m ts < get_or (closed m ts) (m + 1) 0
  closed-high =
      let one : m + 1 + 1 ≡ m + 2 = omega arith in
      let e = rw one at (closed-behind m ts w.knots (m + 1) (omega arith)) in
      omega (arith, w.last)

  pub closed-span : insertion_span (closed m ts) (middle m ts) ≡ m
  closed-span =
      let size = closed-length m ts w.knots in
      let back : m + 1 - 1 ≡ m = omega arith in
      let up = up_to-is (middle m ts) (m + 1) (closed m ts) closed-rises (omega arith) (omega arith) (rw back closed-low) closed-high in
      sym (span-of-up_to (closed m ts) (middle m ts) (m + 1) (sym up)) ∙ back

  pub closed-reduced : (ps : List ℤ) → length ps ≡ m + 2 → Reduced m (closed m ts) (length ps - 1) (middle m ts)
  closed-reduced ps e =
      let count : length ps - 1 ≡ m + 1 = omega arith in
      record {
        rises = closed-rises;
        degree = w.least;
        knots = omega (arith, closed-length m ts w.knots);
        low = closed-low;
        high = rw count closed-high;
      }
