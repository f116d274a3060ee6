-- A walk that reached its far end: what it and its far side say of all the coordinates.
use mathlib.Core.List.{List}
use mathlib.Core.Path.{◌≡◌, sym, ap, ◌∙◌}
use Prim.Native.Nat.{ℕ, ◌+◌, ◌-◌, ◌≤◌, ◌<◌}
use native.Mathlib.Omega.{arith}
use lib.IntN.{ℤ, pos, nat_abs, ◌*ℤ◌, *ℤ-zero, +ℤ_invr}
use lib.ListN.{length, get_or, get_or-eq_default}
use Rattle.grid.specs.Limits.{coordinate_most}
use Rattle.insertion.specs.Insertion.{insertion_span, point_at, weighted_sum}
use Rattle.insertion.proofs.OrderLaws.{either}
use Rattle.removal.specs.Axis.{Reduced, Ranged, AxisReinserts, GivesBack, left_for}
use Rattle.removal_walk.specs.Walk.{FarEnd, Walked, FarAgrees, BetweenSides}
use Rattle.removal.proofs.SideLaws.{known-right}
use Rattle.removal.proofs.EquationLaws.{reinserts-rest, reinserts-of-sides, gives-of-rest, reduced-least, reduced-most, reduced-high}

module _ (m : ℕ) (ks : List ℕ) (v : ℕ) (ps w : List ℤ) (far : ℕ) (s : Reduced m ks (length ps - 1) v) (end : FarEnd m ks v far) (walked : Walked m ks v ps w far) where
  -- the knot behind the far end is not below v
  behind : v ≤ get_or ks (far + 1) 0
  behind =
      either (insertion_span ks v) (far + 1)
      (λ past. omega (arith, reduced-high m ks v (length ps - 1) s (far + 1) past (omega (arith, s.knots, reduced-most m ks v (length ps - 1) s, end.to))))
      (λ near. omega (arith, end.same (far + 1) (omega arith) near))

  -- any list that gives the old coordinates back agrees at the far end
  pub far-agrees : (p : List ℤ) → AxisReinserts m ks p v ps → FarAgrees m ks ps v far (point_at w (far - 1))
  far-agrees p h =
      let most = reduced-most m ks v (length ps - 1) s in
      let least = reduced-least m ks v (length ps - 1) s in
      ap (left_for m ks ps v far) (sym (walked.only p h (far - 1) (omega (arith, end.from)) (omega (arith, end.from))))
      ∙ reinserts-rest m ks v (length ps - 1) s p ps (omega arith) h far end.from end.to
      ∙ ap (λ (z : ℤ). z *ℤ pos (v - get_or ks far 0)) (known-right m ks v ps s far (omega (arith, end.to)) p h end.from behind)

  -- where it agrees, the points with the two sides around them give the old ones back
  module _ (agrees : FarAgrees m ks ps v far (point_at w (far - 1))) (q : List ℤ) (sides : BetweenSides ps (insertion_span ks v - m) far w q) (size : length q + 1 ≡ length ps) where
    in-front : (j : ℕ) → j + m ≤ insertion_span ks v → point_at q j ≡ point_at ps j
    in-front j h =
        either j (insertion_span ks v - m)
        (λ less. sides.left j less)
        (λ more.
        let same : j ≡ insertion_span ks v - m = omega arith in
        rw same (sides.between (insertion_span ks v - m) (omega arith) (omega (arith, end.from, reduced-least m ks v (length ps - 1) s)) ∙ walked.start))

    rest_at : (j : ℕ) → insertion_span ks v < j + m → j ≤ insertion_span ks v → far ≤ j
        → left_for m ks ps v j (point_at q (j - 1)) ≡ point_at q j *ℤ pos (v - get_or ks j 0)
    rest_at j a b past =
        let most = reduced-most m ks v (length ps - 1) s in
        let least = reduced-least m ks v (length ps - 1) s in
        either far j
        (λ more.
        let knot = end.same j more b in
        let back : j - 1 + 1 ≡ j = omega arith in
        let none : v - get_or ks j 0 ≡ 0 = omega arith in
        let before : point_at q (j - 1) ≡ point_at ps j = sides.right (j - 1) (omega arith) (omega arith) ∙ ap (point_at ps) back in
        rw (none, before, knot, +ℤ_invr (pos (get_or ks (j + m) 0 - v) *ℤ point_at ps j)) (sym (*ℤ-zero (point_at q j))))
        (λ less.
        let same : j ≡ far = omega arith in
        rw (same, sides.between (far - 1) (omega (arith, end.from)) (omega (arith, end.from)), sides.right far (omega arith) (omega (arith, end.to))) agrees)

    given_back : GivesBack m ks q v ps
    unfolding weighted_sum
    given_back j a b =
        either j far
        (λ less.
        let least = reduced-least m ks v (length ps - 1) s in
        rw (sides.between j (omega arith) less, sides.between (j - 1) (omega arith) (omega arith)) (walked.gives j a less))
        (λ past. gives-of-rest m ks v (length ps - 1) s q ps j a b (rest_at j a b past))

    in-range : Ranged ps → (j : ℕ) → nat_abs (point_at q j) ≤ coordinate_most
    in-range range j =
        either j far
        (λ less. either (insertion_span ks v) (j + m)
        (λ more. rw (sides.between j (omega arith) less) (walked.range j more less))
        (λ front. rw (in-front j front) (range j)))
        (λ past. either j (length q)
        (λ inside. rw (sides.right j past inside) (range (j + 1)))
        (λ outside. rw (get_or-eq_default q (pos 0) {n = j} outside) (omega arith)))

    pub walk-reinserts : Ranged ps → AxisReinserts m ks q v ps
    walk-reinserts range =
        reinserts-of-sides m ks v (length ps - 1) s q ps (omega arith) size in-front
        (λ j h inside. sides.right j (omega (arith, end.to)) inside) given_back (in-range range)
