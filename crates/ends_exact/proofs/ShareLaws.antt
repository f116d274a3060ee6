-- The numbers in the rows of an end, as rational numbers: they are the rows of the theory.
use mathlib.Core.Bool.{true}
use mathlib.Core.List.{[], ◌∷◌}
use mathlib.Core.Path.{◌≡◌, refl, sym, ap, ap₂, ◌∙◌}
use Prim.Native.Nat.{ℕ, zero, suc, ◌+◌, ◌*◌, ◌-◌, ◌≤◌, ◌<◌}
use native.Mathlib.Nat.{mul-pos}
use native.Mathlib.Omega.{arith}
use lib.IntN.{ℤ, pos, ◌+ℤ◌, ◌*ℤ◌}
use Rattle.signed.specs.Division.{divides}
use Rattle.signed.proofs.DivisionLaws.{product-of-quot, product-divides}
use Rattle.algebra.specs.Operations.{div}
use Rattle.algebra.specs.Ring.{field_ring}
use Rattle.algebra.proofs.FieldLaws.{div-unique}
use Rattle.algebra.proofs.OrderLaws as Order
use Rattle.algebra.proofs.Expressions.{var, lit, ◌⊕◌, ◌⊗◌, minus}
use Rattle.algebra.proofs.Solver.{linear-combination, fact}
use Rattle.fractions.specs.Fraction.{whole, whole_n}
use Rattle.fractions.proofs.Rational.{ℚ, class, plus, times, rational, rational_operations}
use Rattle.fractions.proofs.ClassLaws.{whole_n-below}
use Rattle.fractions.proofs.WholeLaws.{whole_sum, whole-product}
use Rattle.same_polygon.proofs.PointLaws.{whole_is}
use Rattle.end_rows.specs.EndRows as Rows
use Rattle.clamping.specs.declared.Share.{Share}
use Rattle.clamping.specs.EndRows.{End, mean, end_row}
use Rattle.clamping.specs.Clamping.{is_whole, whole_of}
use Rattle.clamping.proofs.BoundLaws.{row-lower}

-- upper / lower
abbrev pub value : Share → ℚ
value a = div rational_operations (class (whole a.upper)) (class (whole_n a.lower))

-- a number above zero is not zero
pub apart-from-zero : (n : ℕ) → 0 < n → class (whole_n n) ≡ rational_operations.zero → ⊥
apart-from-zero n h = Order.apart-of-positive rational (class (whole_n n)) ((whole_n-below 0 n).0 h)

pub inverse-of : (n : ℕ) → 0 < n → times (class (whole_n n)) (rational_operations.inv (class (whole_n n))) ≡ rational_operations.one
inverse-of n h = rational.laws.mul-inv (class (whole_n n)) (apart-from-zero n h)

-- sums and products of natural numbers
pub natural-sum : (a b : ℕ) → class (whole_n (a + b)) ≡ plus (class (whole_n a)) (class (whole_n b))
natural-sum a b = whole_sum (pos a) (pos b)

pub natural-product : (a b : ℕ) → class (whole_n (a * b)) ≡ times (class (whole_n a)) (class (whole_n b))
natural-product a b = whole-product (pos a) (pos b)

-- (d·(p·x) + e·(q·y))·z times what stands below the line is what stands above it, where x, y, z turn the three factors below to 1
common-line : (d e p q a b x y z : ℚ) → times a x ≡ rational_operations.one → times b y ≡ rational_operations.one → times (plus d e) z ≡ rational_operations.one
    → plus (times (times d b) p) (times (times e a) q)
    ≡ times (times (plus (times d (times p x)) (times e (times q y))) z) (times (plus d e) (times a b))
common-line d e p q a b x y z ax by dz =
    linear-combination (field_ring rational) (d ∷ e ∷ p ∷ q ∷ a ∷ b ∷ x ∷ y ∷ z ∷ [])
    (var 0 ⊗ var 5 ⊗ var 2 ⊕ var 1 ⊗ var 4 ⊗ var 3)
    (((var 0 ⊗ (var 2 ⊗ var 6)) ⊕ (var 1 ⊗ (var 3 ⊗ var 7))) ⊗ var 8 ⊗ ((var 0 ⊕ var 1) ⊗ (var 4 ⊗ var 5)))
    (fact (minus (var 0 ⊗ var 2 ⊗ var 5)) (var 4 ⊗ var 6) (lit 1)
    ∷ fact (minus (var 1 ⊗ var 3 ⊗ var 4)) (var 5 ⊗ var 7) (lit 1)
    ∷ fact (minus (var 0 ⊗ var 2 ⊗ var 5 ⊗ (var 4 ⊗ var 6) ⊕ var 1 ⊗ var 3 ⊗ var 4 ⊗ (var 5 ⊗ var 7))) ((var 0 ⊕ var 1) ⊗ var 8) (lit 1)
    ∷ []) (ax, (by, (dz, tt))) refl

-- a quotient times its divisor
pub div-back : (a b : ℚ) → (b ≡ rational_operations.zero → ⊥) → times (div rational_operations a b) b ≡ a
div-back a b apart =
    linear-combination (field_ring rational) (a ∷ b ∷ rational_operations.inv b ∷ []) (var 0 ⊗ var 2 ⊗ var 1) (var 0)
    (fact (var 0) (var 1 ⊗ var 2) (lit 1) ∷ []) (rational.laws.mul-inv b apart, tt) refl

mean-value : (d e : ℕ) (a b : Share) → 0 < d + e → 0 < a.lower → 0 < b.lower
    → value (mean d a e b) ≡ Rows.mean rational_operations (class (whole_n d)) (value a) (class (whole_n e)) (value b)
unfolding mean
mean-value d e a b both left right =
    let below : class (whole_n ((d + e) * (a.lower * b.lower))) ≡ times (plus (class (whole_n d)) (class (whole_n e))) (times (class (whole_n a.lower)) (class (whole_n b.lower))) =
    natural-product (d + e) (a.lower * b.lower) ∙ ap₂ times (natural-sum d e) (natural-product a.lower b.lower) in
    let above : class (whole (pos (d * b.lower) *ℤ a.upper +ℤ pos (e * a.lower) *ℤ b.upper))
    ≡ plus (times (times (class (whole_n d)) (class (whole_n b.lower))) (class (whole a.upper))) (times (times (class (whole_n e)) (class (whole_n a.lower))) (class (whole b.upper))) =
    whole_sum (pos (d * b.lower) *ℤ a.upper) (pos (e * a.lower) *ℤ b.upper)
    ∙ ap₂ plus (whole-product (pos (d * b.lower)) a.upper ∙ ap (λ (x : ℚ). times x (class (whole a.upper))) (natural-product d b.lower))
    (whole-product (pos (e * a.lower)) b.upper ∙ ap (λ (x : ℚ). times x (class (whole b.upper))) (natural-product e a.lower)) in
    div-unique rational _ _ _
    (apart-from-zero ((d + e) * (a.lower * b.lower)) (mul-pos both (mul-pos left right)))
    (above ∙ common-line _ _ _ _ _ _ _ _ _ (inverse-of a.lower left) (inverse-of b.lower right)
    (ap (λ (x : ℚ). times x (rational_operations.inv x)) (sym (natural-sum d e)) ∙ inverse-of (d + e) both)
    ∙ ap (times _) (sym below))

-- entry k of row r, where the knots that it is worked out with lie apart from the end
pub row-value : (end : End) (m r k : ℕ) → ((j : ℕ) → k < j → j ≤ k + r → 0 < end.inside j)
    → value (end_row end m r k)
    ≡ Rows.end_row rational_operations (λ j. class (whole_n (end.inside j))) (λ j. class (whole_n (end.outside j))) (λ j. class (whole (end.point j))) m r k
unfolding end_row Rows.end_row
row-value end m zero k apart = div-unique rational _ _ _ (apart-from-zero 1 (omega arith)) (sym (rational.laws.mul-one (class (whole (end.point k)))))
row-value end m (suc r) k apart =
    let first = apart (k + 1) (omega arith) (omega arith) in
    mean-value (end.inside (k + 1)) (end.outside (m - k - r - 1)) (end_row end m r k) (end_row end m r (k + 1)) (omega arith)
    (row-lower end m r k (λ j a b. apart j a (omega arith)))
    (row-lower end m r (k + 1) (λ j a b. apart j (omega arith) (omega arith)))
    ∙ ap₂ (λ x y. Rows.mean rational_operations (class (whole_n (end.inside (k + 1)))) x (class (whole_n (end.outside (m - k - r - 1)))) y)
    (row-value end m r k (λ j a b. apart j a (omega arith)))
    (row-value end m r (k + 1) (λ j a b. apart j (omega arith) (omega arith)))

-- a number that is whole, and the whole number that it is
pub value-of-whole : (a : Share) → 0 < a.lower → is_whole a ≡ true → class (whole (whole_of a)) ≡ value a
value-of-whole a some divided =
    sym
    (div-unique rational _ _ (class (whole (whole_of a))) (apart-from-zero a.lower some)
    (ap (λ (z : ℤ). class (whole z)) (sym (product-of-quot a.upper a.lower divided)) ∙ whole-product (whole_of a) (pos a.lower)))

-- a number that equals a whole number is whole
pub whole-of-value : (a : Share) (z : ℤ) → 0 < a.lower → value a ≡ class (whole z) → is_whole a ≡ true
whole-of-value a z some e =
    let back : class (whole a.upper) ≡ class (whole (z *ℤ pos a.lower)) =
    sym (div-back (class (whole a.upper)) (class (whole_n a.lower)) (apart-from-zero a.lower some))
    ∙ ap (λ (x : ℚ). times x (class (whole_n a.lower))) e
    ∙ sym (whole-product z (pos a.lower)) in
    ap (λ (x : ℤ). divides (pos a.lower) x) (whole_is a.upper (z *ℤ pos a.lower) back) ∙ product-divides z a.lower
