-- The computed coordinate is near the exact one, for any degree up to 3, never-falling knots up to 2 ^ 22 and any whole parameter of a span:
-- the float triangle is one of `rounding`'s, and its exact counterpart is the exact point of `exact`.
use mathlib.Core.Path.{◌≡◌, refl, sym, ap, ◌∙◌, subst}
use mathlib.Core.List.{List}
use Prim.Native.Nat.{ℕ, suc, ◌+◌, ◌-◌, ◌≤◌, ◌<◌}
use native.Mathlib.Nat.{le_refl, le_trans}
use native.Mathlib.Omega.{arith}
use lib.IntN.{ℤ, pos, nat_abs, ◌-ℤ◌}
use lib.ListN.{get_or}
use lib.Ieee.{Float, binary64}
use Rattle.algebra.specs.Operations.{sub}
use Rattle.algebra.specs.OrderedField as Field
use Rattle.fractions.specs.Fraction.{Fraction, over, fraction_operations}
use Rattle.fractions.specs.Order.{DistanceBelow}
use Rattle.fractions.proofs.Rational.{ℚ, class, rational, rational_operations, class-of-equals}
use Rattle.fractions.proofs.ClassLaws.{class-distance}
use Rattle.splines.specs.Triangle.{entry}
use Rattle.exact.specs.ExactPoint.{knot_at, coordinate_at, exact_coordinate}
use Rattle.exact.proofs.Homomorphism.{entry_kept}
use Rattle.exact.proofs.ExactLaws.{class-homomorphism}
use Rattle.exact.proofs.HullLaws.{Carried, exact-triangle}
use Rattle.triangle.specs.FloatCell.{float_cell}
use Rattle.triangle.specs.FloatTriangle.{entry_of, coordinate_of}
use Rattle.rounding.specs.FloatFraction.{float_fraction}
use Rattle.rounding.proofs.Ratio.{Bounded}
use Rattle.rounding.proofs.CellError.{cell_in}
use Rattle.rounding.proofs.RatioClass.{as_fraction}
use Rattle.rounding.proofs.TriangleNear.{Triangle, exact_entry}
use Rattle.rounding.proofs.Binary64.{largest_coordinate, largest_difference, binary64-near, triangle-distance}
use Rattle.point_at_exact.specs.NearExact.{NearExact, nearness}
use Rattle.point_at_exact.proofs.CellDifferences.{left_of, right_of, between, differences-sum, differences-above, natural-difference}
use Rattle.point_at_exact.proofs.EntryClass.{entry-class}

-- a cell's differences as natural numbers
natural-cell : (w t z : ℕ) (l d : Float) → z ≤ t → t ≤ w → float_cell (pos w -ℤ pos t) (pos t -ℤ pos z) (pos w -ℤ pos z) l d ≡ cell_in binary64 (w - t) (t - z) l d
natural-cell w t z l d a b =
    ap (λ (x : ℤ). float_cell x (pos t -ℤ pos z) (pos w -ℤ pos z) l d) (natural-difference w t b)
    ∙ ap (λ (x : ℤ). float_cell (pos (w - t)) x (pos w -ℤ pos z) l d) (natural-difference t z a)
    ∙ ap (λ (x : ℤ). float_cell (pos (w - t)) (pos (t - z)) x l d) (natural-difference w z (le_trans a b) ∙ ap pos (sym (differences-sum w t z a b)))

high-index : (j m r : ℕ) → r < m → j + (m - suc r) + 1 ≡ j + m - r
high-index j m r h = omega arith

-- the computed triangle is one to which the bound applies
pub float-triangle : (ts : List ℕ) (ps : List ℤ) (m i t : ℕ) → Carried ts ps m i t 1 → ((k : ℕ) → k ≤ i + m → get_or ts k 0 ≤ largest_difference)
    → ((j : ℕ) → i - m ≤ j → j ≤ i → nat_abs (get_or ps j (pos 0)) ≤ largest_coordinate)
    → Triangle binary64 largest_coordinate largest_difference m (i - m) i (left_of m ts t) (right_of ts t) (λ k. get_or ps k (pos 0)) (entry_of m ts ps t)
unfolding entry_of
float-triangle ts ps m i t c knots coordinates = record {
  bounded = coordinates;
  start = λ j l h. refl;
  apart = λ r j R l h. differences-above (get_or ts (j + m - r) 0) t (get_or ts j 0) (between ts ps m i t c r j R l h).from (between ts ps m i t c r j R l h).to (between ts ps m i t c r j R l h).some;
  small = λ r j R l h. below (get_or ts (j + m - r) 0) t (get_or ts j 0) largest_difference (between ts ps m i t c r j R l h).from (between ts ps m i t c r j R l h).to (knots (j + m - r) (omega arith));
  step = λ r j R l h.
      ap (λ (k : ℕ). float_cell (pos (get_or ts k 0) -ℤ pos t) (pos t -ℤ pos (get_or ts j 0)) (pos (get_or ts k 0) -ℤ pos (get_or ts j 0)) (entry_of m ts ps t r (j - 1)) (entry_of m ts ps t r j)) (high-index j m r R)
      ∙ natural-cell (get_or ts (j + m - r) 0) t (get_or ts j 0) (entry_of m ts ps t r (j - 1)) (entry_of m ts ps t r j) (between ts ps m i t c r j R l h).from (between ts ps m i t c r j R l h).to;
}
  where
    below : (w t z D : ℕ) → z ≤ t → t ≤ w → w ≤ D → (w - t) + (t - z) ≤ D
    below w t z D a b s = omega arith

last_entry : (m i : ℕ) → m ≤ i → i - m + m ≤ i
last_entry m i h = omega arith

-- the last entry of the exact triangle in naturals is the exact coordinate
exact-entry : (ts : List ℕ) (ps : List ℤ) (m i t C : ℕ) → Carried ts ps m i t 1
    → ((r j : ℕ) → r ≤ m → i - m + r ≤ j → j ≤ i → Bounded C (exact_entry (left_of m ts t) (right_of ts t) (λ k. get_or ps k (pos 0)) r j))
    → class (as_fraction (exact_entry (left_of m ts t) (right_of ts t) (λ k. get_or ps k (pos 0)) m i)) ≡ class (exact_coordinate ts ps m i t 1)
exact-entry ts ps m i t C c b =
    entry-class ts ps m i t c C b m i (le_refl m) (last_entry m i c.from) (le_refl i)
    ∙ sym (entry_kept fraction_operations rational_operations class class-homomorphism (knot_at ts) (coordinate_at ps) m (over (pos t) 1) m i)
    ∙ class-of-equals {a = entry fraction_operations (knot_at ts) (coordinate_at ps) m (over (pos t) 1) m i} {b = exact_coordinate ts ps m i t 1} (exact-triangle ts ps m i t 1 c.from c.inside)

-- a distance from a fraction is one from any equal fraction
distance-equal : (a b d e : Fraction) → class b ≡ class d → DistanceBelow a b e → DistanceBelow a d e
distance-equal a b d e h k =
    (class-distance a d e).1
    (subst (λ (x : ℚ). Field.Below rational (sub rational_operations (class a) x) (class e) × Field.Below rational (sub rational_operations x (class a)) (class e)) h ((class-distance a b e).0 k))

pub coordinate-near : (ts : List ℕ) (ps : List ℤ) (m i t : ℕ) → m ≤ 3 → Carried ts ps m i t 1 → ((k : ℕ) → k ≤ i + m → get_or ts k 0 ≤ largest_difference)
    → ((j : ℕ) → i - m ≤ j → j ≤ i → nat_abs (get_or ps j (pos 0)) ≤ largest_coordinate) → NearExact (coordinate_of m ts ps i t) (exact_coordinate ts ps m i t 1)
coordinate-near ts ps m i t few c knots coordinates =
    let zs : ℕ → ℤ = λ k. get_or ps k (pos 0) in
    let q = exact_entry (left_of m ts t) (right_of ts t) zs m i in
    let tri = float-triangle ts ps m i t c knots coordinates in
    let last : i - m + m ≤ i = last_entry m i c.from in
    let w = triangle-distance m (i - m) i (left_of m ts t) (right_of ts t) zs (entry_of m ts ps t) few tri m i (le_refl m) last (le_refl i) in
    record {
      is_finite = w.0;
      distance =
          distance-equal (float_fraction (coordinate_of m ts ps i t)) (as_fraction q) (exact_coordinate ts ps m i t 1) nearness
          (exact-entry ts ps m i t largest_coordinate c (λ r j R l h. (binary64-near m (i - m) i (left_of m ts t) (right_of ts t) zs (entry_of m ts ps t) few tri r j R l h).bounded))
          w.1;
    }
