-- De Boor's triangle gives the curve that the basis gives, at every t and over any knots: each row lowers the degree of the
-- basis by one. Others may cite `entry-step`, `triangle-is-curve`.
use mathlib.Core.Path.{◌≡◌, refl, ap, sym, ◌∙◌}
use mathlib.Core.List.{[], ◌∷◌}
use Prim.Native.Nat.{ℕ, zero, suc, ◌+◌, ◌-◌, ◌≤◌, ◌<◌}
use native.Mathlib.Omega.{arith}
use Rattle.algebra.specs.OrderedField.{OrderedField}
use Rattle.algebra.specs.Ring.{field_ring}
use Rattle.algebra.proofs.RingLaws as Law
use Rattle.algebra.proofs.Expressions.{var, ◌⊕◌, ◌⊗◌}
use Rattle.algebra.proofs.Solver.{ring}
use Rattle.splines.specs.Basis.{basis, sum_of, curve_at}
use Rattle.splines.specs.Triangle.{cell, entry}
use Rattle.splines.proofs.SumLaws.{sum_same, sum-shift, sum-only}
use Rattle.splines.proofs.BasisLaws.{rise, fall, basis-step, basis-at, basis-local}

module _ (F : OrderedField) where
  open F use {operations as O, laws}
  open O use {Number, add, mul}

  -- the next row over d, where the basis goes from degree s+1 to s
  abbrev pub row : (ts : ℕ → Number) (t : Number) (d : ℕ → Number) (s : ℕ) → ℕ → Number
  row ts t d s j = cell O (ts (j + suc s)) t (ts j) (d (j - 1)) (d j)

  pub entry-step : (ts : ℕ → Number) (t : Number) (ps : ℕ → Number) (m r s j : ℕ) → suc r + s ≡ m
      → entry O ts ps m t (suc r) j ≡ row ts t (entry O ts ps m t r) s j
  unfolding entry
  entry-step ts t ps m r s j h = rw same
    where
      same : j + m - r ≡ j + suc s
      same = omega arith

  zero-between : (x y : Number) → mul (mul x O.zero) y ≡ O.zero
  zero-between x y = ap (λ z. mul z y) (Law.mul-zero (field_ring F) x) ∙ Law.zero-mul (field_ring F) y

  -- x·v·n·d + y·v·n·e = n·((y·e + x·d)·v)
  gather : (x y v n d e : Number)
      → add (mul (mul (mul x v) n) d) (mul (mul (mul y v) n) e) ≡ mul n (mul (add (mul y e) (mul x d)) v)
  gather x y v n d e =
      ring (field_ring F) (x ∷ y ∷ v ∷ n ∷ d ∷ e ∷ [])
      (var 0 ⊗ var 2 ⊗ var 3 ⊗ var 4 ⊕ var 1 ⊗ var 2 ⊗ var 3 ⊗ var 5)
      (var 3 ⊗ ((var 1 ⊗ var 5 ⊕ var 0 ⊗ var 4) ⊗ var 2)) refl

  module _ (ts : ℕ → Number) (t : Number) (i count : ℕ) (inside : i < count) where
    -- the part of a term that goes up with t, and the part of its left neighbour that goes down
    module _ (d : ℕ → Number) (s : ℕ) where
      abbrev rising : ℕ → Number
      rising j = mul (mul (rise F ts t s j) (basis O ts i t s j)) (d j)

      abbrev falling : ℕ → Number
      falling j = mul (mul (fall F ts t s j) (basis O ts i t s j)) (d (j - 1))

      spread : (j : ℕ) → mul (basis O ts i t (suc s) j) (d j) ≡ add (rising j) (falling (j + 1))
      spread j =
          ap (λ n. mul n (d j)) (basis-step F ts i t s j) ∙ Law.add-mul (field_ring F) _ _ _
          ∙ ap (λ p. add (rising j) (mul (mul (fall F ts t s (j + 1)) (basis O ts i t s (j + 1))) (d p))) back
        where
          back : j ≡ j + 1 - 1
          back = omega arith

      falling-none : (j : ℕ) → (i ≤ j + s → j ≤ i → ⊥) → falling j ≡ O.zero
      falling-none j out =
          ap (λ n. mul (mul (fall F ts t s j) n) (d (j - 1))) (basis-local F ts i t s j out) ∙ zero-between _ _

      -- a row keeps the sum
      row_keeps : s < i
          → sum_of O (λ j. mul (basis O ts i t (suc s) j) (d j)) count
          ≡ sum_of O (λ j. mul (basis O ts i t s j) (row ts t d s j)) count
      row_keeps h =
          sum_same O _ _ count (λ j _. spread j)
          ∙ sym (laws.add-zero _)
          ∙ ap (add _) (sym (falling-none 0 (λ a b. omega arith)))
          ∙ sum-shift F rising falling count
          ∙ ap (add _) (falling-none count (λ a b. omega arith))
          ∙ laws.add-zero _
          ∙ sum_same O _ _ count (λ j _. gather _ _ _ _ _ _)

    -- the curve by the basis of degree s over row r of the triangle
    curve-by-row : (ps : ℕ → Number) (m r s : ℕ) → r + s ≡ m → m ≤ i
        → curve_at O ts ps m count i t ≡ sum_of O (λ j. mul (basis O ts i t s j) (entry O ts ps m t r j)) count
    unfolding curve_at entry
    curve-by-row ps m zero s e h = ap (λ q. sum_of O (λ j. mul (basis O ts i t q j) (ps j)) count) same
      where
        same : m ≡ s
        same = omega arith
    curve-by-row ps m (suc r) s e h =
        curve-by-row ps m r (suc s) (omega arith) h
        ∙ row_keeps (entry O ts ps m t r) s (omega arith)
        ∙ sum_same O _ _ count (λ j _. ap (mul _) (sym (entry-step ts t ps m r s j e)))

    -- the triangle's last entry is the sum of N_{j,m}(t)·P_j over all j
    pub triangle-is-curve : (ps : ℕ → Number) (m : ℕ) → m ≤ i → entry O ts ps m t m i ≡ curve_at O ts ps m count i t
    triangle-is-curve ps m h =
        sym
        (curve-by-row ps m m 0 (omega arith) h
        ∙ sum-only F _ count i inside
        (λ j out.
        ap (λ n. mul n (entry O ts ps m t m j)) (basis-local F ts i t 0 j (λ a b. out (omega arith)))
        ∙ Law.zero-mul (field_ring F) _)
        ∙ ap (λ n. mul n (entry O ts ps m t m i)) (basis-at F ts i t)
        ∙ Law.one-mul (field_ring F) _)
