-- The row at v over a row of the triangle at t is a row at t over the row at v of the control numbers: so it is an entry of the triangle
-- one degree lower whose control numbers are that row at v. Others may cite `row-exchange`.
use mathlib.Core.Path.{◌≡◌, ap, ap₂, sym, ◌∙◌}
use Prim.Native.Nat.{ℕ, zero, suc, ◌+◌, ◌-◌, ◌≤◌, ◌<◌}
use native.Mathlib.Omega.{arith}
use Rattle.algebra.specs.OrderedField.{OrderedField, Below}
use Rattle.splines.specs.Span.{Rising}
use Rattle.splines.specs.Triangle.{cell, entry}
use Rattle.splines.proofs.CellLaws.{cells-exchange}
use Rattle.splines.proofs.SpanLaws.{apart-round}
use Rattle.splines.proofs.TriangleLaws.{row, entry-step}

module _ (F : OrderedField) (ts ps : ℕ → F.operations.Number) (m i : ℕ) (rising : Rising F ts (i + suc m)) (from : m < i)
    (some : Below F (ts i) (ts (i + 1))) (v t : F.operations.Number) where
  open F use {operations as O}
  open O use {Number}

  pub row-exchange : (r s j : ℕ) → r + s ≡ m → i + r ≤ j + m → j ≤ i
      → row F ts v (entry O ts ps (suc m) t r) s j ≡ entry O ts (row F ts v ps m) m t r j
  unfolding entry
  row-exchange zero s j e h l = ap (λ q. row F ts v ps q j) same
    where
      same : s ≡ m
      same = omega arith
  row-exchange (suc r) s j e h l =
      ap₂ (cell O (ts (j + suc s)) v (ts j))
      (entry-step F ts t ps (suc m) r (suc s) (j - 1) (omega arith)
      ∙ ap (λ w. cell O (ts w) t (ts (j - 1)) (upper (j - 1 - 1)) (upper (j - 1))) near)
      (entry-step F ts t ps (suc m) r (suc s) j (omega arith))
      ∙ sym
      (cells-exchange F (ts j) (ts (j + suc s)) (ts (j - 1)) (ts (j + suc (suc s))) t v (upper (j - 1 - 1)) (upper (j - 1))
      (upper j) (apart (j - 1) (j + suc s) (omega arith) (omega arith) (omega arith))
      (apart j (j + suc (suc s)) l (omega arith) (omega arith)))
      ∙ ap₂ (cell O (ts (j + suc s)) t (ts j))
      (ap (λ w. cell O (ts w) v (ts (j - 1)) (upper (j - 1 - 1)) (upper (j - 1))) (sym near)
      ∙ row-exchange r (suc s) (j - 1) (omega arith) (omega arith) (omega arith))
      (row-exchange r (suc s) j (omega arith) (omega arith) l)
      ∙ sym (entry-step F ts t (row F ts v ps m) m r s j e)
    where
      upper : ℕ → Number
      upper = entry O ts ps (suc m) t r

      near : j - 1 + suc (suc s) ≡ j + suc s
      near = omega arith

      apart : (a w : ℕ) → a ≤ i → i < w → w ≤ i + suc m → Below F (ts a) (ts w)
      apart = apart-round F ts (i + suc m) i rising some
