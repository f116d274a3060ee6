-- A ratio of naturals as a fraction and as a rational number: the cell of ratios is the cell of rational numbers.
use mathlib.Core.Path.{◌≡◌, refl, sym, ap, ap₂, ◌∙◌}
use mathlib.Core.List.{[], ◌∷◌}
use Prim.Native.Nat.{ℕ, ◌+◌, ◌*◌, ◌<◌}
use native.Mathlib.Nat.{mul-pos}
use lib.IntN.{ℤ, pos, negsuc, ◌-ℤ◌, +ℤ_idl, +ℤ_idr}
use Rattle.algebra.specs.Operations.{sub, div}
use Rattle.algebra.specs.Ring.{field_ring}
use Rattle.algebra.proofs.Expressions.{var, lit, ◌⊕◌, ◌⊗◌, ◌⊖◌, minus}
use Rattle.algebra.proofs.Solver.{linear-combination, fact}
use Rattle.algebra.proofs.FieldLaws.{mul-cancel-right}
use Rattle.fractions.specs.Fraction.{Fraction, over, whole}
use Rattle.fractions.proofs.Rational.{ℚ, class, plus, times, inverse, rational, rational_operations}
use Rattle.fractions.proofs.WholeLaws.{whole-difference}
use Rattle.rounding.proofs.WholeClass.{whole_class, whole_sum, whole-product, over-times, whole_apart}
use Rattle.rounding.proofs.Ratio.{Ratio, whole_ratio, cell_ratio}

-- (more - less) / under
abbrev pub as_fraction : Ratio → Fraction
as_fraction q = over (pos q.more -ℤ pos q.less) q.under

pub whole-ratio : (z : ℤ) → as_fraction (whole_ratio z) ≡ whole z
whole-ratio (pos n) = ap (λ (x : ℤ). over x 1) (+ℤ_idr (pos n))
whole-ratio (negsuc n) = ap (λ (x : ℤ). over x 1) (+ℤ_idl (negsuc n))

-- a ratio times its lower number
ratio-times : (q : Ratio) → 0 < q.under → times (class (as_fraction q)) (whole_class q.under) ≡ sub rational_operations (whole_class q.more) (whole_class q.less)
ratio-times q P = over-times (pos q.more -ℤ pos q.less) q.under P ∙ whole-difference (pos q.more) (pos q.less)

-- a·g·j + b·x·k among the rational numbers
spread : (a g j b x k : ℕ) → whole_class (a * g * j + b * x * k)
    ≡ plus (times (times (whole_class a) (whole_class g)) (whole_class j)) (times (times (whole_class b) (whole_class x)) (whole_class k))
spread a g j b x k = whole_sum (a * g * j) (b * x * k) ∙ ap₂ plus (triple a g j) (triple b x k)
  where
    triple : (l m n : ℕ) → whole_class (l * m * n) ≡ times (times (whole_class l) (whole_class m)) (whole_class n)
    triple l m n = whole-product (l * m) n ∙ ap (λ (z : ℚ). times z (whole_class n)) (whole-product l m)

pub cell-class : (a b : ℕ) (p q : Ratio) → 0 < a + b → 0 < p.under → 0 < q.under → class (as_fraction (cell_ratio a b p q))
    ≡ div rational_operations (plus (times (whole_class a) (class (as_fraction p))) (times (whole_class b) (class (as_fraction q)))) (whole_class (a + b))
cell-class a b p q D K J =
    let k = p.under in
    let j = q.under in
    let P = class (as_fraction p) in
    let Q = class (as_fraction q) in
    let d = whole_class (a + b) in
    let all = (a + b) * (k * j) in
    let x : ℚ = div rational_operations (plus (times (whole_class a) P) (times (whole_class b) Q)) d in
    let lower : whole_class all ≡ times d (times (whole_class k) (whole_class j)) = whole-product (a + b) (k * j) ∙ ap (times d) (whole-product k j) in
    let left : times (class (as_fraction (cell_ratio a b p q))) (whole_class all)
    ≡ sub rational_operations
    (plus (times (times (whole_class a) (whole_class p.more)) (whole_class j)) (times (times (whole_class b) (whole_class q.more)) (whole_class k)))
    (plus (times (times (whole_class a) (whole_class p.less)) (whole_class j)) (times (times (whole_class b) (whole_class q.less)) (whole_class k))) =
    ratio-times (cell_ratio a b p q) (mul-pos D (mul-pos K J)) ∙ ap₂ (sub rational_operations) (spread a p.more j b q.more k) (spread a p.less j b q.less k) in
    mul-cancel-right rational (class (as_fraction (cell_ratio a b p q))) x (whole_class all) (whole_apart all (mul-pos D (mul-pos K J)))
    (left
    ∙ linear-combination (field_ring rational)
    (whole_class a ∷ whole_class b ∷ whole_class p.more ∷ whole_class p.less ∷ whole_class q.more ∷ whole_class q.less ∷ whole_class k ∷ whole_class j ∷ P ∷ Q ∷ d ∷ inverse d ∷ [])
    ((var 0 ⊗ var 2 ⊗ var 7 ⊕ var 1 ⊗ var 4 ⊗ var 6) ⊖ (var 0 ⊗ var 3 ⊗ var 7 ⊕ var 1 ⊗ var 5 ⊗ var 6))
    ((var 0 ⊗ var 8 ⊕ var 1 ⊗ var 9) ⊗ var 11 ⊗ (var 10 ⊗ (var 6 ⊗ var 7)))
    (fact (minus ((var 0 ⊗ var 8 ⊕ var 1 ⊗ var 9) ⊗ (var 6 ⊗ var 7))) (var 10 ⊗ var 11) (lit 1)
    ∷ fact (minus (var 0 ⊗ var 7)) (var 8 ⊗ var 6) (var 2 ⊖ var 3)
    ∷ fact (minus (var 1 ⊗ var 6)) (var 9 ⊗ var 7) (var 4 ⊖ var 5)
    ∷ [])
    (rational.laws.mul-inv d (whole_apart (a + b) D), (ratio-times p K, (ratio-times q J, tt)))
    refl
    ∙ ap (times x) (sym lower))
