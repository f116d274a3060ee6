-- A test of every entry of a list: it passes where each entry does, and fails where one does.
use mathlib.Core.Bool.{Bool, true, false, ◌&&◌, and-false}
use mathlib.Core.List.{List, [], ◌∷◌}
use mathlib.Core.Path.{◌≡◌, refl, ◌∙◌}
use Prim.Native.Nat.{ℕ, zero, suc, ◌+◌, ◌<◌}
use native.Mathlib.Omega.{arith}
use lib.IntN.{ℤ}
use lib.ListN.{length, get_or, take}
use Rattle.std.proofs.Common.{rules, add-one}
use Rattle.grid.specs.Rows.{on_grid, all_on_grid}

module _ {A : Type 0} (ok : A → Bool) (all : List A → Bool) (none : all [] ≡ true) (more : (a : A) (l : List A) → all (a ∷ l) ≡ (ok a && all l)) (d : A) where
  pub every_holds : (l : List A) → ((j : ℕ) → j < length l → ok (get_or l j d) ≡ true) → all l ≡ true
  every_holds [] each = none
  every_holds (a ∷ l) each = more a l ∙ rw (each 0 (omega arith), every_holds l (λ j i. each (suc j) (omega arith)))

  pub every-fails : (l : List A) (j : ℕ) → j < length l → ok (get_or l j d) ≡ false → all l ≡ false
  every-fails [] j i e = absurd (omega arith)
  every-fails (a ∷ l) zero i e = more a l ∙ rw e
  every-fails (a ∷ l) (suc j) i e = more a l ∙ rw (every-fails l j (omega arith) e) (and-false (ok a))

-- one entry more
all_suc : (zs : List ℤ) (i : ℕ) (d : ℤ) → i < length zs → all_on_grid (take (suc i) zs) ≡ (all_on_grid (take i zs) && on_grid (get_or zs i d))
unfolding all_on_grid
all_suc [] i d h = absurd (omega arith)
all_suc (z ∷ zs) zero d h = search rules
all_suc (z ∷ zs) (suc i) d h =
    let e = all_suc zs i d (omega arith) in
    elim (on_grid z) as (λ v. (v && all_on_grid (take (suc i) zs)) ≡ ((v && all_on_grid (take i zs)) && on_grid (get_or zs i d)))
    [ true ↦ e | false ↦ refl ]

pub all_more : (zs : List ℤ) (i : ℕ) (d : ℤ) → i < length zs → all_on_grid (take (i + 1) zs) ≡ (all_on_grid (take i zs) && on_grid (get_or zs i d))
all_more zs i d h = rw add-one (all_suc zs i d h)
