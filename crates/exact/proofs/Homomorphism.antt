-- A map that carries the operations of one arithmetic to those of another carries the basis, sums and curves over as well.
use mathlib.Core.Path.{◌≡◌, refl, ◌∙◌, ap, ap₂}
use mathlib.Core.Bool.{Bool, true, false, cond}
use Prim.Native.Nat.{ℕ, zero, suc, ◌+◌, ◌-◌}
use lib.Dec.{eqb}
use Rattle.algebra.specs.Operations.{Operations, sub, div}
use Rattle.splines.specs.Basis.{basis, sum_of, curve_at}
use Rattle.splines.specs.Triangle.{cell, entry}

-- h carries the operations of O to those of P
pub record IsHomomorphism (O P : Operations) (h : O.Number → P.Number) : Type 0 where
  pub zero-kept : h O.zero ≡ P.zero
  pub one_kept : h O.one ≡ P.one
  pub add_kept : (a b : O.Number) → h (O.add a b) ≡ P.add (h a) (h b)
  pub mul-kept : (a b : O.Number) → h (O.mul a b) ≡ P.mul (h a) (h b)
  pub neg-kept : (a : O.Number) → h (O.neg a) ≡ P.neg (h a)
  pub inv-kept : (a : O.Number) → h (O.inv a) ≡ P.inv (h a)

module _ (O P : Operations) (h : O.Number → P.Number) (kept : IsHomomorphism O P h) where
  pub sub-kept : (a b : O.Number) → h (sub O a b) ≡ sub P (h a) (h b)
  sub-kept a b = kept.add_kept a (O.neg b) ∙ ap (λ x. P.add (h a) x) (kept.neg-kept b)

  pub div-kept : (a b : O.Number) → h (div O a b) ≡ div P (h a) (h b)
  div-kept a b = kept.mul-kept a (O.inv b) ∙ ap (λ x. P.mul (h a) x) (kept.inv-kept b)

  -- (a - b) / (c - d)
  ratio-kept : (a b c d : O.Number) → h (div O (sub O a b) (sub O c d)) ≡ div P (sub P (h a) (h b)) (sub P (h c) (h d))
  ratio-kept a b c d = div-kept (sub O a b) (sub O c d) ∙ ap₂ (λ x y. div P x y) (sub-kept a b) (sub-kept c d)

  -- N_{j,0}: one or zero
  choice-kept : (b : Bool) → h (cond b O.one O.zero) ≡ cond b P.one P.zero
  choice-kept true = kept.one_kept
  choice-kept false = kept.zero-kept

  pub basis-kept : (ts : ℕ → O.Number) (i : ℕ) (t : O.Number) (r j : ℕ)
      → h (basis O ts i t r j) ≡ basis P (λ k. h (ts k)) i (h t) r j
  unfolding basis
  basis-kept ts i t zero j = choice-kept (eqb j i)
  basis-kept ts i t (suc r) j =
      kept.add_kept (rise r j) (fall r j)
      ∙ ap₂ P.add
      (kept.mul-kept (rise_ratio r j) (basis O ts i t r j) ∙ ap₂ P.mul (ratio-kept t (ts j) (ts (j + suc r)) (ts j)) (basis-kept ts i t r j))
      (kept.mul-kept (fall_ratio r j) (basis O ts i t r (j + 1)) ∙ ap₂ P.mul (ratio-kept (ts (j + suc r + 1)) t (ts (j + suc r + 1)) (ts (j + 1))) (basis-kept ts i t r (j + 1)))
    where
      rise_ratio : (r j : ℕ) → O.Number
      rise_ratio r j = div O (sub O t (ts j)) (sub O (ts (j + suc r)) (ts j))

      fall_ratio : (r j : ℕ) → O.Number
      fall_ratio r j = div O (sub O (ts (j + suc r + 1)) t) (sub O (ts (j + suc r + 1)) (ts (j + 1)))

      rise : (r j : ℕ) → O.Number
      rise r j = O.mul (rise_ratio r j) (basis O ts i t r j)

      fall : (r j : ℕ) → O.Number
      fall r j = O.mul (fall_ratio r j) (basis O ts i t r (j + 1))

  pub sum_of-kept : (f : ℕ → O.Number) (g : ℕ → P.Number) → ((j : ℕ) → h (f j) ≡ g j) → (count : ℕ) → h (sum_of O f count) ≡ sum_of P g count
  unfolding sum_of
  sum_of-kept f g each zero = kept.zero-kept
  sum_of-kept f g each (suc count) = kept.add_kept (sum_of O f count) (f count) ∙ ap₂ P.add (sum_of-kept f g each count) (each count)

  pub curve_at-kept : (ts ps : ℕ → O.Number) (m count i : ℕ) (t : O.Number)
      → h (curve_at O ts ps m count i t) ≡ curve_at P (λ k. h (ts k)) (λ k. h (ps k)) m count i (h t)
  unfolding curve_at
  curve_at-kept ts ps m count i t =
      sum_of-kept (λ j. O.mul (basis O ts i t m j) (ps j)) (λ j. P.mul (basis P (λ k. h (ts k)) i (h t) m j) (h (ps j)))
      (λ j. kept.mul-kept (basis O ts i t m j) (ps j) ∙ ap (λ x. P.mul x (h (ps j))) (basis-kept ts i t m j)) count

  pub cell-kept : (w t low left right : O.Number) → h (cell O w t low left right) ≡ cell P (h w) (h t) (h low) (h left) (h right)
  cell-kept w t low left right =
      div-kept (O.add (O.mul (sub O w t) left) (O.mul (sub O t low) right)) (sub O w low)
      ∙ ap₂ (λ x y. div P x y)
      (kept.add_kept (O.mul (sub O w t) left) (O.mul (sub O t low) right)
      ∙ ap₂ P.add (kept.mul-kept (sub O w t) left ∙ ap (λ x. P.mul x (h left)) (sub-kept w t)) (kept.mul-kept (sub O t low) right ∙ ap (λ x. P.mul x (h right)) (sub-kept t low)))
      (sub-kept w low)

  pub entry_kept : (ts ps : ℕ → O.Number) (m : ℕ) (t : O.Number) (r j : ℕ)
      → h (entry O ts ps m t r j) ≡ entry P (λ k. h (ts k)) (λ k. h (ps k)) m (h t) r j
  unfolding entry
  entry_kept ts ps m t zero j = refl
  entry_kept ts ps m t (suc r) j =
      cell-kept (ts (j + m - r)) t (ts j) (entry O ts ps m t r (j - 1)) (entry O ts ps m t r j)
      ∙ ap₂ (λ x y. cell P (h (ts (j + m - r))) (h t) (h (ts j)) x y) (entry_kept ts ps m t r (j - 1)) (entry_kept ts ps m t r j)
