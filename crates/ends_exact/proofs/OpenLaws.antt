-- The numbers of an unclamped end, as rational numbers: clamping gives the old points back exactly where the new ones are these.
use mathlib.Core.List.{[], ◌∷◌}
use mathlib.Core.Path.{◌≡◌, refl, sym, ap, ap₂, ◌∙◌}
use Prim.Native.Nat.{ℕ, zero, suc, ◌+◌, ◌≤◌, ◌<◌}
use native.Mathlib.Decide.{ℕ_discrete}
use native.Mathlib.Numerals.{add-one}
use native.Mathlib.Omega.{arith}
use lib.IntN.{ℤ, pos, ◌-ℤ◌, ◌*ℤ◌}
use Rattle.algebra.specs.Operations.{sub}
use Rattle.algebra.specs.Ring.{field_ring}
use Rattle.algebra.proofs.FieldLaws.{div-unique, mul-cancel-right}
use Rattle.algebra.proofs.Expressions.{var, lit, ◌⊕◌, ◌⊗◌, ◌⊖◌, minus}
use Rattle.algebra.proofs.Solver.{ones, linear-combination, fact}
use Rattle.fractions.specs.Fraction.{whole, whole_n}
use Rattle.fractions.proofs.Rational.{ℚ, class, plus, times, rational, rational_operations}
use Rattle.fractions.proofs.WholeLaws.{whole-product, whole-difference}
use Rattle.end_rows.specs.EndRows as Rows
use Rattle.end_rows.proofs.EndRowLaws.{end_number-old}
use Rattle.clamping.specs.EndRows as Share
use Rattle.clamping.specs.EndRows.{End}
use Rattle.unclamping.specs.Unclamping.{open_second, open_first, open_number}
use Rattle.unclamping.proofs.EntryLaws.{last-of-two, last-of-three, second-of-three, number-old}
use Rattle.ends_exact.proofs.ShareLaws.{value, apart-from-zero, div-back, natural-sum}
use Rattle.ends_exact.proofs.SolvedLaws.{twice, thrice, mean-says, mean-from, second-says, second_from, third-says, third-from}

-- a natural number as a sum of ones
ones-class : (n : ℕ) → class (whole_n n) ≡ ones rational_operations n
ones-class zero = refl
ones-class (suc zero) = refl
ones-class (suc (suc n)) =
    ap (λ (k : ℕ). class (whole_n k)) (sym (add-one (suc n)))
    ∙ natural-sum (suc n) 1 ∙ ap (λ (x : ℚ). plus x rational_operations.one) (ones-class (suc n))

-- a whole number's own value
pub whole-value : (z : ℤ) → value (Share.whole z) ≡ class (whole z)
whole-value z = div-unique rational _ _ _ (apart-from-zero 1 (omega arith)) (sym (rational.laws.mul-one (class (whole z))))

module _ (end : End) (two : 0 < end.inside 2) where
  abbrev P : ℕ → ℚ
  P k = class (whole (end.point k))

  abbrev h : ℚ
  h = class (whole_n (end.inside 1))

  abbrev w : ℚ
  w = class (whole_n (end.inside 2))

  -- degree 2
  value-two : value (Share.whole (pos 2 *ℤ end.point 0 -ℤ end.point 1)) ≡ sub rational_operations (twice rational (P 0)) (P 1)
  value-two =
      whole-value (pos 2 *ℤ end.point 0 -ℤ end.point 1)
      ∙ whole-difference (pos 2 *ℤ end.point 0) (end.point 1)
      ∙ ap (λ (x : ℚ). sub rational_operations x (P 1)) (whole-product (pos 2) (end.point 0))
      ∙ linear-combination (field_ring rational) (class (whole_n 2) ∷ P 0 ∷ P 1 ∷ []) (var 0 ⊗ var 1 ⊖ var 2) (var 1 ⊕ var 1 ⊖ var 2)
      (fact (var 1) (var 0) (lit 2) ∷ []) (ones-class 2, tt) refl

  -- degree 3: the last point but one ..
  upper-second : class (whole (open_second end).upper) ≡ sub rational_operations (times (plus w h) (P 1)) (times h (P 2))
  unfolding open_second
  upper-second =
      whole-difference (pos (end.inside 2 + end.inside 1) *ℤ end.point 1) (pos (end.inside 1) *ℤ end.point 2)
      ∙ ap₂ (λ x y. sub rational_operations x y)
      (whole-product (pos (end.inside 2 + end.inside 1)) (end.point 1) ∙ ap (λ (x : ℚ). times x (P 1)) (natural-sum (end.inside 2) (end.inside 1)))
      (whole-product (pos (end.inside 1)) (end.point 2))

  back-second : times (value (open_second end)) w ≡ class (whole (open_second end).upper)
  unfolding open_second
  back-second = div-back _ w (apart-from-zero (end.inside 2) two)

  pub value-second : times w (value (open_second end)) ≡ sub rational_operations (times (plus w h) (P 1)) (times h (P 2))
  value-second = rational.laws.mul_comm w (value (open_second end)) ∙ back-second ∙ upper-second

  -- .. and the last
  upper_first : class (whole (open_first end).upper)
      ≡ sub rational_operations (times w (sub rational_operations (times (class (whole_n 6)) (P 0)) (times (class (whole_n 3)) (P 1)))) (times (class (whole_n 2)) (class (whole (open_second end).upper)))
  unfolding open_first
  upper_first =
      whole-difference (pos (end.inside 2) *ℤ (pos 6 *ℤ end.point 0 -ℤ pos 3 *ℤ end.point 1)) (pos 2 *ℤ (open_second end).upper)
      ∙ ap₂ (λ x y. sub rational_operations x y)
      (whole-product (pos (end.inside 2)) (pos 6 *ℤ end.point 0 -ℤ pos 3 *ℤ end.point 1)
      ∙ ap (times w)
      (whole-difference (pos 6 *ℤ end.point 0) (pos 3 *ℤ end.point 1)
      ∙ ap₂ (λ x y. sub rational_operations x y) (whole-product (pos 6) (end.point 0)) (whole-product (pos 3) (end.point 1))))
      (whole-product (pos 2) (open_second end).upper)

  value-first : value (open_first end) ≡ sub rational_operations (sub rational_operations (thrice rational (twice rational (P 0))) (thrice rational (P 1))) (twice rational (value (open_second end)))
  unfolding open_first
  value-first =
      div-unique rational _ w _ (apart-from-zero (end.inside 2) two)
      (upper_first
      ∙ linear-combination (field_ring rational)
      (w ∷ P 0 ∷ P 1 ∷ class (whole (open_second end).upper) ∷ value (open_second end) ∷ class (whole_n 6) ∷ class (whole_n 3) ∷ class (whole_n 2) ∷ [])
      (var 0 ⊗ (var 5 ⊗ var 1 ⊖ var 6 ⊗ var 2) ⊖ var 7 ⊗ var 3)
      (((var 1 ⊕ var 1 ⊕ (var 1 ⊕ var 1) ⊕ (var 1 ⊕ var 1)) ⊖ (var 2 ⊕ var 2 ⊕ var 2) ⊖ (var 4 ⊕ var 4)) ⊗ var 0)
      (fact (var 0 ⊗ var 1) (var 5) (lit 6)
      ∷ fact (minus (var 0 ⊗ var 2)) (var 6) (lit 3)
      ∷ fact (minus (var 3)) (var 7) (lit 2)
      ∷ fact (lit 2) (var 4 ⊗ var 0) (var 3)
      ∷ []) (ones-class 6, (ones-class 3, (ones-class 2, (back-second, tt)))) refl)

  -- the new numbers Q over knots that lie as far inside as the old ones and go on outside in steps of h
  module _ (one : 0 < end.inside 1) (d e Q : ℕ → ℚ) (d1 : d 1 ≡ h) (d2 : d 2 ≡ w) (e1 : e 1 ≡ h) where
    some : h ≡ rational_operations.zero → ⊥
    some = apart-from-zero (end.inside 1) one

    double : twice rational h ≡ rational_operations.zero → ⊥
    double z = apart-from-zero (end.inside 1 + end.inside 1) (omega arith) (natural-sum (end.inside 1) (end.inside 1) ∙ z)

    triple : plus h (twice rational h) ≡ rational_operations.zero → ⊥
    triple z =
        apart-from-zero (end.inside 1 + (end.inside 1 + end.inside 1)) (omega arith)
        (natural-sum (end.inside 1) (end.inside 1 + end.inside 1) ∙ ap (plus h) (natural-sum (end.inside 1) (end.inside 1)) ∙ z)

    sum : plus w h ≡ rational_operations.zero → ⊥
    sum z = apart-from-zero (end.inside 2 + end.inside 1) (omega arith) (natural-sum (end.inside 2) (end.inside 1) ∙ z)

    -- the rows at the end, by degree
    row-two : Rows.end_number rational_operations d e Q 2 0 ≡ Rows.mean rational_operations h (Q 0) h (Q 1)
    unfolding Rows.end_row
    row-two = ap₂ (λ x y. Rows.mean rational_operations x (Q 0) y (Q 1)) d1 e1

    row-second : Rows.end_number rational_operations d e Q 3 1 ≡ Rows.mean rational_operations w (Q 1) h (Q 2)
    unfolding Rows.end_row
    row-second = ap₂ (λ x y. Rows.mean rational_operations x (Q 1) y (Q 2)) d2 e1

    row_first : e 2 ≡ twice rational h → Rows.end_number rational_operations d e Q 3 0
        ≡ Rows.mean rational_operations h (Rows.mean rational_operations h (Q 0) (twice rational h) (Q 1)) h (Rows.end_number rational_operations d e Q 3 1)
    unfolding Rows.end_row
    row_first e2 =
        ap₂ (λ x y. Rows.mean rational_operations x (Rows.mean rational_operations (d 1) (Q 0) (e 2) (Q 1)) y (Rows.mean rational_operations (d 2) (Q 1) (e 1) (Q 2))) d1 e1
        ∙ ap₂ (λ x y. Rows.mean rational_operations h (Rows.mean rational_operations x (Q 0) y (Q 1)) h (Rows.mean rational_operations (d 2) (Q 1) (e 1) (Q 2))) d1 e2

    -- these give the old points back ..
    abbrev Opened : ℕ → Type 0
    Opened m = (k : ℕ) → k ≤ m → Q k ≡ value (open_number end m k)

    abbrev Given : ℕ → Type 0
    Given m = (k : ℕ) → k ≤ m → Rows.end_number rational_operations d e Q m k ≡ P k

    old-open : (m k : ℕ) → m ≤ k + 1 → value (open_number end m k) ≡ P k
    old-open m k l = ap value (number-old end m k l) ∙ whole-value (end.point k)

    old_row : (m k : ℕ) → m ≤ k + 1 → Rows.end_number rational_operations d e Q m k ≡ Q k
    old_row m k l = end_number-old rational_operations d e Q m k l

    gives-two : Opened 2 → Given 2
    gives-two q zero l =
        row-two
        ∙ second_from rational h some double triple (Q 0) (P 0) (Q 1)
        (q 0 (omega arith) ∙ ap value (last-of-two end 2 0 refl refl) ∙ value-two ∙ ap (λ (x : ℚ). sub rational_operations (twice rational (P 0)) x) (sym (old-open 2 1 (omega arith)) ∙ sym (q 1 (omega arith))))
    gives-two q (suc k) l = old_row 2 (suc k) (omega arith) ∙ q (suc k) l ∙ old-open 2 (suc k) (omega arith)

    gives-three : e 2 ≡ twice rational h → Opened 3 → Given 3
    gives-three e2 q = by
      where
        second : Rows.end_number rational_operations d e Q 3 1 ≡ P 1
        second =
            row-second
            ∙ mean-from rational w (Q 1) h (Q 2) (P 1) sum
            (ap (times w) (q 1 (omega arith) ∙ ap value (second-of-three end 3 1 refl refl))
            ∙ value-second
            ∙ ap (λ (x : ℚ). sub rational_operations (times (plus w h) (P 1)) (times h x)) (sym (old-open 3 2 (omega arith)) ∙ sym (q 2 (omega arith))))

        by : Given 3
        by zero l =
            row_first e2
            ∙ ap (Rows.mean rational_operations h (Rows.mean rational_operations h (Q 0) (twice rational h) (Q 1)) h) second
            ∙ third-from rational h some double triple (Q 0) (Q 1) (P 0) (P 1)
            (q 0 (omega arith) ∙ ap value (last-of-three end 3 0 refl refl) ∙ value-first
            ∙ ap (λ (x : ℚ). sub rational_operations (sub rational_operations (thrice rational (twice rational (P 0))) (thrice rational (P 1))) (twice rational x))
            (sym (q 1 (omega arith) ∙ ap value (second-of-three end 3 1 refl refl))))
        by (suc zero) l = second
        by (suc (suc k)) l = old_row 3 (suc (suc k)) (omega arith) ∙ q (suc (suc k)) l ∙ old-open 3 (suc (suc k)) (omega arith)

    -- .. and no others do
    says_two : Given 2 → Opened 2
    says_two g zero l =
        second-says rational h some double triple (Q 0) (P 0) (Q 1) (sym row-two ∙ g 0 (omega arith))
        ∙ ap (λ (x : ℚ). sub rational_operations (twice rational (P 0)) x) (sym (old_row 2 1 (omega arith)) ∙ g 1 (omega arith))
        ∙ sym value-two
        ∙ ap value (sym (last-of-two end 2 0 refl refl))
    says_two g (suc k) l = sym (old_row 2 (suc k) (omega arith)) ∙ g (suc k) l ∙ sym (old-open 2 (suc k) (omega arith))

    says_three : e 2 ≡ twice rational h → Given 3 → Opened 3
    says_three e2 g = by
      where
        second : Q 1 ≡ value (open_second end)
        second =
            mul-cancel-right rational (Q 1) (value (open_second end)) w (apart-from-zero (end.inside 2) two)
            (rational.laws.mul_comm (Q 1) w
            ∙ mean-says rational w (Q 1) h (Q 2) (P 1) sum (sym row-second ∙ g 1 (omega arith))
            ∙ ap (λ (x : ℚ). sub rational_operations (times (plus w h) (P 1)) (times h x)) (sym (old_row 3 2 (omega arith)) ∙ g 2 (omega arith))
            ∙ sym value-second
            ∙ rational.laws.mul_comm w (value (open_second end)))

        by : Opened 3
        by zero l =
            third-says rational h some double triple (Q 0) (Q 1) (P 0) (P 1)
            (sym (ap (Rows.mean rational_operations h (Rows.mean rational_operations h (Q 0) (twice rational h) (Q 1)) h) (g 1 (omega arith))) ∙ sym (row_first e2) ∙ g 0 (omega arith))
            ∙ ap (λ (x : ℚ). sub rational_operations (sub rational_operations (thrice rational (twice rational (P 0))) (thrice rational (P 1))) (twice rational x)) second
            ∙ sym value-first
            ∙ ap value (sym (last-of-three end 3 0 refl refl))
        by (suc zero) l = second ∙ ap value (sym (second-of-three end 3 1 refl refl))
        by (suc (suc k)) l = sym (old_row 3 (suc (suc k)) (omega arith)) ∙ g (suc (suc k)) l ∙ sym (old-open 3 (suc (suc k)) (omega arith))

    -- degree 1 changes no point
    gives_one : Opened 1 → Given 1
    gives_one q k l = old_row 1 k (omega arith) ∙ q k l ∙ old-open 1 k (omega arith)

    says-one : Given 1 → Opened 1
    says-one g k l = sym (old_row 1 k (omega arith)) ∙ g k l ∙ sym (old-open 1 k (omega arith))

    -- any degree
    by-degree : (A : ℕ → Type 0) → A 1 → A 2 → A 3 → (m : ℕ) → 1 ≤ m → m ≤ 3 → A m
    by-degree A a b c m least most =
        elim (ℕ_discrete m 1) [
          | yes e ↦ rw e a
          | no n ↦ elim (ℕ_discrete m 2) [
            | yes e ↦ rw e b
            | no k ↦
                let e : m ≡ 3 = omega arith in
                rw e c
          ]
        ]

    -- of degree 1 the second knot outside is not read
    abbrev Second : ℕ → Type 0
    Second m = 2 ≤ m → e 2 ≡ twice rational h

    pub opened-gives : (m : ℕ) → 1 ≤ m → m ≤ 3 → Second m → Opened m → Given m
    opened-gives = by-degree (λ m. Second m → Opened m → Given m) (λ e2. gives_one) (λ e2. gives-two) (λ e2. gives-three (e2 (omega arith)))

    pub given-says : (m : ℕ) → 1 ≤ m → m ≤ 3 → Second m → Given m → Opened m
    given-says = by-degree (λ m. Second m → Given m → Opened m) (λ e2. says-one) (λ e2. says_two) (λ e2. says_three (e2 (omega arith)))
