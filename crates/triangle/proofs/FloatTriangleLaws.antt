-- The triangle row by row, with the next row's number written r + 1.
use mathlib.Core.List.{List}
use mathlib.Core.Path.{◌≡◌, refl, subst, sym}
use Prim.Native.Nat.{ℕ, suc, ◌+◌, ◌-◌}
use native.Mathlib.Numerals.{add-one}
use lib.IntN.{ℤ}
use Rattle.triangle.specs.FloatTriangle.{cell_at, entry_of}

-- an entry of row r + 1 is the cell of its two entries of row r
pub entry_of-next :
    (m : ℕ) (ts : List ℕ) (ps : List ℤ) (t r j : ℕ)
    → entry_of m ts ps t (r + 1) j ≡ cell_at m ts t (r + 1) j (entry_of m ts ps t r (j - 1)) (entry_of m ts ps t r j)
entry_of-next m ts ps t r j =
    subst (λ (k : ℕ). entry_of m ts ps t k j ≡ cell_at m ts t k j (entry_of m ts ps t r (j - 1)) (entry_of m ts ps t r j)) (sym (add-one r)) at_suc
  where
    at_suc : entry_of m ts ps t (suc r) j ≡ cell_at m ts t (suc r) j (entry_of m ts ps t r (j - 1)) (entry_of m ts ps t r j)
    at_suc = unfold entry_of in refl
