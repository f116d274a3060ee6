-- The unclamped curve, entry by entry.
use mathlib.Core.Bool.{true, false, ◌&&◌, and-false}
use mathlib.Core.List.{List}
use mathlib.Core.Path.{◌≡◌, refl, sym, ap, ◌∙◌}
use Prim.Native.Nat.{ℕ, zero, suc, ◌+◌, ◌-◌, ◌*◌, ◌%◌, ◌≤◌, ◌<◌}
use native.Mathlib.Decide.{ℕ_discrete}
use native.Mathlib.Nat.{zero-mul, add-zero, div-one, mod-one}
use native.Mathlib.Omega.{arith}
use lib.Dec.{eqb}
use lib.IntN.{ℤ, pos, negsuc, neg_ℤ, nat_abs, ◌-ℤ◌, ◌*ℤ◌}
use lib.ListN.{length, get_or}
use borrow.Author.Tests.{le-leb, lt-leb, eq-eqb, ne_eqb}
use Rattle.signed.specs.Division.{divides}
use Rattle.curve.specs.Lists.{Lists}
use Rattle.insertion.specs.Insertion.{point_at}
use Rattle.insertion.proofs.EntryLaws.{entries-length, entries_at}
use Rattle.clamping.specs.declared.Share.{Share}
use Rattle.clamping.specs.EndRows.{whole, End, finish_of}
use Rattle.clamping.specs.Clamping.{is_whole, whole_of}
use Rattle.unclamping.specs.Unclamping.{open_knot, open_second, open_first, open_number, open_numbers, open_points, unclamped}

-- the knots up to t_{n+1}, and those from it on
module _ (ts : List ℕ) (count : ℕ) where
  pub knot-old : (j : ℕ) → j ≤ count → open_knot ts count j ≡ get_or ts j 0
  unfolding open_knot
  knot-old j h = rw (le-leb j count h)

  knot-new : (j : ℕ) → count < j → open_knot ts count j ≡ get_or ts count 0 + (j - count) * (get_or ts count 0 - get_or ts (count - 1) 0)
  unfolding open_knot
  knot-new j h = rw (lt-leb j count h)

  pub knot-behind : (k : ℕ) → open_knot ts count (count + k) ≡ get_or ts count 0 + k * (get_or ts count 0 - get_or ts (count - 1) 0)
  knot-behind zero =
      let here : count + 0 ≡ count = omega arith in
      rw here (knot-old count (omega arith) ∙ rw (zero-mul (get_or ts count 0 - get_or ts (count - 1) 0)) (sym (add-zero (get_or ts count 0))))
  knot-behind (suc k) =
      let back : count + suc k - count ≡ suc k = omega arith in
      rw back at (knot-new (count + suc k) (omega arith))

-- two tests of which one fails
not-both : (a b c d : ℕ) → (a ≡ b → c ≡ d → ⊥) → (eqb a b && eqb c d) ≡ false
not-both a b c d n =
    elim (ℕ_discrete a b) [
      | yes e ↦ rw (ne_eqb c d (n e)) (and-false (eqb a b))
      | no q ↦ rw (ne_eqb a b q)
    ]

-- the numbers of an end: the last of degree 2, the last two of degree 3, and the others
module _ (end : End) (m k : ℕ) where
  pub last-of-two : m ≡ 2 → k ≡ 0 → open_number end m k ≡ whole (pos 2 *ℤ end.point 0 -ℤ end.point 1)
  unfolding open_number
  last-of-two e z = rw (eq-eqb m 2 e, eq-eqb k 0 z)

  pub last-of-three : m ≡ 3 → k ≡ 0 → open_number end m k ≡ open_first end
  unfolding open_number
  last-of-three e z = rw (not-both m 2 k 0 (λ a b. omega arith), eq-eqb m 3 e, eq-eqb k 0 z)

  pub second-of-three : m ≡ 3 → k ≡ 1 → open_number end m k ≡ open_second end
  unfolding open_number
  second-of-three e z = rw (not-both m 2 k 0 (λ a b. omega arith), not-both m 3 k 0 (λ a b. omega arith), eq-eqb m 3 e, eq-eqb k 1 z)

  pub number-old : m ≤ k + 1 → open_number end m k ≡ whole (end.point k)
  unfolding open_number
  number-old h = rw (not-both m 2 k 0 (λ a b. omega arith), not-both m 3 k 0 (λ a b. omega arith), not-both m 3 k 1 (λ a b. omega arith))

-- what stands below the line of the last m - 1
module _ (end : End) (m k : ℕ) (inside : k + 1 < m) where
  pub lower-of-two : m ≡ 2 → (open_number end m k).lower ≡ 1
  lower-of-two degree = ap (λ (a : Share). a.lower) (last-of-two end m k degree (omega arith))

  pub lower-of-three : m ≡ 3 → (open_number end m k).lower ≡ end.inside 2
  unfolding open_first open_second
  lower-of-three degree =
      elim (ℕ_discrete k 0) [
        | yes e ↦ ap (λ (a : Share). a.lower) (last-of-three end m k degree e)
        | no n ↦ ap (λ (a : Share). a.lower) (second-of-three end m k degree (omega arith))
      ]

-- z / 1 is whole, and is z
pub whole-one : (z : ℤ) → is_whole (whole z) ≡ true
unfolding divides
whole-one z = eq-eqb (nat_abs z % 1) 0 (mod-one (nat_abs z))

pub whole_is : (z : ℤ) → whole_of (whole z) ≡ z
whole_is (pos a) = ap pos (div-one a)
whole_is (negsuc a) = ap (λ (n : ℕ). neg_ℤ (pos n)) (div-one (suc a))

-- one axis
module _ (m : ℕ) (ts : List ℕ) (ps : List ℤ) where
  pub open_points-length : length (open_points m ts ps) ≡ length ps
  unfolding open_points
  open_points-length = entries-length (λ j. whole_of (open_numbers m ts ps j)) (length ps)

  pub open_points-at : (j : ℕ) → j < length ps → get_or (open_points m ts ps) j (pos 0) ≡ whole_of (open_numbers m ts ps j)
  unfolding open_points
  open_points-at j h = entries_at (λ j. whole_of (open_numbers m ts ps j)) (length ps) j (pos 0) h

  -- the points in front of the last m - 1 are as before
  pub point-old : (j : ℕ) → j < length ps → j + m ≤ length ps → open_numbers m ts ps j ≡ whole (get_or ps j (pos 0))
  point-old j inside h =
      let back : length ps - 1 - (length ps - 1 - j) ≡ j = omega arith in
      number-old (finish_of ts ps) m (length ps - 1 - j) (omega arith) ∙ ap (λ (k : ℕ). whole (point_at ps k)) back

-- the three lists
module _ (m : ℕ) (c : Lists) where
  pub unclamped-knots : length (unclamped m c).knots ≡ length c.knots
  unfolding unclamped
  unclamped-knots = entries-length (open_knot c.knots (length c.xs)) (length c.knots)

  pub unclamped-knot-at : (j : ℕ) → j < length c.knots → get_or (unclamped m c).knots j 0 ≡ open_knot c.knots (length c.xs) j
  unfolding unclamped
  unclamped-knot-at j h = entries_at (open_knot c.knots (length c.xs)) (length c.knots) j 0 h

  pub unclamped-xs : (unclamped m c).xs ≡ open_points m c.knots c.xs
  unfolding unclamped
  unclamped-xs = refl

  pub unclamped-ys : (unclamped m c).ys ≡ open_points m c.knots c.ys
  unfolding unclamped
  unclamped-ys = refl
