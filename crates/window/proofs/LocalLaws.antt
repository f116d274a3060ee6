-- Removing a knot is a matter of its window: points that give the window's old ones back give all the old ones back when they are put
-- in the window's place, and any polygon that gives all of them back does so in the window.
use mathlib.Core.List.{List}
use mathlib.Core.Path.{◌≡◌, sym, ap, ◌∙◌}
use Prim.Native.Nat.{ℕ, ◌+◌, ◌-◌, ◌≤◌, ◌<◌}
use native.Mathlib.Omega.{arith}
use lib.IntN.{ℤ, pos, nat_abs, ◌*ℤ◌}
use lib.ListN.{length, get_or, take, drop, length-drop, get_or-eq_default}
use lib.Seq.{length-take-le, get_or-take, get_or-drop}
use Rattle.grid.specs.Limits.{coordinate_most}
use Rattle.insertion.specs.Insertion.{insertion_span, point_at, weighted_sum, weight}
use Rattle.insertion.proofs.OrderLaws.{either}
use Rattle.removal.specs.Axis.{Reduced, AxisReinserts, GivesBack}
use Rattle.removal.proofs.EquationLaws.{reinserts-left, reinserts-right, reinserts-gives, reinserts-of-sides}

-- `ks` and `ps` stand in `wide` and `points` from `base` on; the span is the window's m
module _ (m base v : ℕ) (ks wide : List ℕ) (ps points : List ℤ)
    (knots : (j : ℕ) → j < m + m + 2 → get_or ks j 0 ≡ get_or wide (base + j) 0)
    (old : (j : ℕ) → j < m + 2 → point_at ps j ≡ point_at points (base + j))
    (here : insertion_span ks v ≡ m) (there : insertion_span wide v ≡ base + m) where
  module _ (w q : List ℤ) (new : (j : ℕ) → j < m + 1 → point_at w j ≡ point_at q (base + j)) where
    sum_same : (j : ℕ) → 1 ≤ j → j ≤ m → weighted_sum m ks w v j ≡ weighted_sum m wide q v (base + j)
    unfolding weighted_sum
    sum_same j a b =
        let far : base + (j + m) ≡ base + j + m = omega arith in
        let back : base + (j - 1) ≡ base + j - 1 = omega arith in
        let low = knots j (omega arith) in
        let high = knots (j + m) (omega arith) ∙ ap (λ (n : ℕ). get_or wide n 0) far in
        let right = new j (omega arith) in
        let left = new (j - 1) (omega arith) ∙ ap (λ (n : ℕ). point_at q n) back in
        rw (low, high, right, left)

    weight-same : (j : ℕ) → j ≤ m → weight m ks j ≡ weight m wide (base + j)
    unfolding weight
    weight-same j b =
        let far : base + (j + m) ≡ base + j + m = omega arith in
        let low = knots j (omega arith) in
        let high = knots (j + m) (omega arith) ∙ ap (λ (n : ℕ). get_or wide n 0) far in
        rw (low, high)

    gives-narrow : GivesBack m wide q v points → GivesBack m ks w v ps
    gives-narrow g j a b =
        let first : 1 ≤ j = omega (arith, here) in
        let last : j ≤ m = omega (arith, here) in
        sum_same j first last ∙ g (base + j) (omega (arith, there)) (omega (arith, there))
        ∙ ap (λ (z : ℤ). z *ℤ point_at points (base + j)) (sym (weight-same j last))
        ∙ ap (λ (z : ℤ). weight m ks j *ℤ z) (sym (old j (omega arith)))

    gives-wide : GivesBack m ks w v ps → GivesBack m wide q v points
    gives-wide g j a b =
        let k = j - base in
        let at : base + (j - base) ≡ j = omega (arith, there) in
        let first : 1 ≤ j - base = omega (arith, there) in
        let last : j - base ≤ m = omega (arith, there) in
        rw at at (sym (sum_same (j - base) first last) ∙ g (j - base) (omega (arith, here)) (omega (arith, here))
        ∙ ap (λ (z : ℤ). z *ℤ point_at ps (j - base)) (weight-same (j - base) last)
        ∙ ap (λ (z : ℤ). weight m wide (base + (j - base)) *ℤ z) (old (j - base) (omega arith)))

  module _ (narrowly : Reduced m ks (length ps - 1) v) (widely : Reduced m wide (length points - 1) v)
      (size : length ps ≡ m + 2) (inside : base + m + 2 ≤ length points) where
    -- from the whole to the window
    pub narrow : (q : List ℤ) → AxisReinserts m wide q v points → AxisReinserts m ks (take (m + 1) (drop base q)) v ps
    narrow q h =
        let part : length (take (m + 1) (drop base q)) ≡ m + 1 = length-take-le (m + 1) (drop base q) (omega (arith, length-drop base q, h.count)) in
        let new : (j : ℕ) → j < m + 1 → point_at (take (m + 1) (drop base q)) j ≡ point_at q (base + j) =
        λ j l. get_or-take (m + 1) (drop base q) j (pos 0) l ∙ get_or-drop base q j (pos 0) in
        reinserts-of-sides m ks v (length ps - 1) narrowly (take (m + 1) (drop base q)) ps (omega arith) (omega arith)
        (λ j a.
        let none : j ≡ 0 = omega (arith, here) in
        let at : base + j ≡ base = omega arith in
        new j (omega arith)
        ∙ reinserts-left m wide v (length points - 1) widely q points (omega arith) h (base + j) (omega (arith, there))
        ∙ sym (old j (omega arith)))
        (λ j a b.
        let next : base + j + 1 ≡ base + (j + 1) = omega arith in
        new j (omega arith)
        ∙ reinserts-right m wide v (length points - 1) widely q points (omega arith) h (base + j) (omega (arith, there, here)) (omega (arith, here))
        ∙ ap (λ (n : ℕ). point_at points n) next
        ∙ sym (old (j + 1) (omega arith)))
        (gives-narrow (take (m + 1) (drop base q)) q new (reinserts-gives m wide v (length points - 1) widely q points (omega arith) h))
        (λ j. either j (m + 1)
        (λ l. rw (new j l) (h.range (base + j)))
        (λ l. rw (get_or-eq_default (take (m + 1) (drop base q)) (pos 0) {n = j} (omega arith)) (omega arith)))

    -- from the window to the whole
    pub widen : (w q : List ℤ) → AxisReinserts m ks w v ps → length q + 1 ≡ length points
        → ((j : ℕ) → nat_abs (point_at points j) ≤ coordinate_most)
        → ((j : ℕ) → j < base → point_at q j ≡ point_at points j)
        → ((j : ℕ) → j < m + 1 → point_at w j ≡ point_at q (base + j))
        → ((j : ℕ) → base + m + 1 ≤ j → j < length q → point_at q j ≡ point_at points (j + 1))
        → AxisReinserts m wide q v points
    widen w q h count range before new behind =
        reinserts-of-sides m wide v (length points - 1) widely q points (omega arith) count
        (λ j a. either j base (before j)
        (λ l.
        let same : base + 0 ≡ j = omega (arith, there) in
        let start = reinserts-left m ks v (length ps - 1) narrowly w ps (omega arith) h 0 (omega (arith, here)) in
        rw same at (sym (new 0 (omega arith)) ∙ start ∙ old 0 (omega arith))))
        (λ j a b. either (base + m) j (λ l. behind j (omega arith) b)
        (λ l.
        let same : base + m ≡ j = omega (arith, there) in
        let next : base + (m + 1) ≡ base + m + 1 = omega arith in
        let end = reinserts-right m ks v (length ps - 1) narrowly w ps (omega arith) h m (omega (arith, here)) (omega arith) in
        rw same at (sym (new m (omega arith)) ∙ end ∙ old (m + 1) (omega arith) ∙ ap (λ (n : ℕ). point_at points n) next)))
        (gives-wide w q new (reinserts-gives m ks v (length ps - 1) narrowly w ps (omega arith) h))
        (λ j. either j base
        (λ l. rw (before j l) (range j))
        (λ l. either j (base + m + 1)
        (λ k.
        let at : base + (j - base) ≡ j = omega arith in
        let e : point_at q j ≡ point_at w (j - base) = sym (rw at at (new (j - base) (omega arith))) in
        rw e (h.range (j - base)))
        (λ k. either j (length q)
        (λ i. rw (behind j k i) (range (j + 1)))
        (λ i. rw (get_or-eq_default q (pos 0) {n = j} i) (omega arith)))))
