-- The clamps of a job in the list of their sides, and row 14 for each of them.
use mathlib.Core.Bool.{true}
use mathlib.Core.List.{List, [], ◌∷◌}
use mathlib.Core.Path.{◌≡◌, refl, ◌∙◌, ap}
use Prim.Native.Nat.{ℕ, zero, suc, ◌+◌, ◌*◌, ◌<◌}
use native.Mathlib.Omega.{arith}
use lib.IntN.{ℤ, pos}
use lib.ListN.{length, get_or}
use Rattle.boxes.specs.declared.Rectangle.{Rectangle}
use Rattle.grid.specs.Rows.{rectangle_ok}
use Rattle.clamps.specs.Clamp.{Clamp, no_clamp, sides, all_sides, clamps_ok}
use Rattle.refusal.proofs.JudgingLaws.{both}
use Rattle.lent.specs.Lent.{over}
use Rattle.lent.proofs.OverLaws.{over-entry}
use Rattle.fields.proofs.PlaceLaws.{length-each}
use Rattle.clamp_lines.specs.ClampPart.{clamp_at}
use Rattle.job_text.specs.Text.{rectangle_of}

-- rectangles with the same sides
same-sides : {a a₁ b b₁ c c₁ d d₁ : ℤ} → a ≡ a₁ → b ≡ b₁ → c ≡ c₁ → d ≡ d₁ → ◌≡◌ {A = Rectangle} (record { low_x = a; high_x = b; low_y = c; high_y = d }) (record { low_x = a₁; high_x = b₁; low_y = c₁; high_y = d₁ })
same-sides p q r s = rw (p, q, r, s)

-- four places on, the list of sides is that of the clamps behind the first
side-behind : (c : Clamp) (cs : List Clamp) (k j : ℕ) → get_or (all_sides (c ∷ cs)) (4 * suc k + j) (pos 0) ≡ get_or (all_sides cs) (4 * k + j) (pos 0)
side-behind c cs k j =
    let four : 4 * suc k + j ≡ suc (suc (suc (suc (4 * k + j)))) = omega arith in
    ap (λ (i : ℕ). get_or (all_sides (c ∷ cs)) i (pos 0)) four

-- clamp k of the list of sides is the job's clamp k
clamp-in-sides : (cs : List Clamp) (k : ℕ) → k < length cs → clamp_at (all_sides cs) k ≡ rectangle_of (get_or cs k no_clamp)
clamp-in-sides [] k h = absurd (omega arith)
clamp-in-sides (c ∷ cs) zero h = refl
clamp-in-sides (c ∷ cs) (suc k) h =
    same-sides (low c cs k) (side-behind c cs k 1) (side-behind c cs k 2) (side-behind c cs k 3)
    ∙ clamp-in-sides cs k (omega arith)
  where
    low : (c : Clamp) (cs : List Clamp) (k : ℕ) → get_or (all_sides (c ∷ cs)) (4 * suc k) (pos 0) ≡ get_or (all_sides cs) (4 * k) (pos 0)
    low c cs k =
        let four : 4 * suc k ≡ suc (suc (suc (suc (4 * k)))) = omega arith in
        ap (λ (i : ℕ). get_or (all_sides (c ∷ cs)) i (pos 0)) four

-- four sides a clamp
pub sides-length : (cs : List Clamp) → length (all_sides cs) ≡ 4 * length cs
sides-length cs = length-each sides 4 (λ c. refl) cs

-- so it is where the sides stand at the front of a longer list
pub clamp-in-front : (cs : List Clamp) (before : List ℤ) (k : ℕ) → k < length cs → clamp_at (over (all_sides cs) before) k ≡ rectangle_of (get_or cs k no_clamp)
clamp-in-front cs before k h =
    let at : (i : ℕ) → i < length (all_sides cs) → get_or (over (all_sides cs) before) i (pos 0) ≡ get_or (all_sides cs) i (pos 0) =
    λ i inside. over-entry (all_sides cs) before i (pos 0) inside in
    same-sides (at (4 * k) (omega (arith, sides-length cs))) (at (4 * k + 1) (omega (arith, sides-length cs))) (at (4 * k + 2) (omega (arith, sides-length cs))) (at (4 * k + 3) (omega (arith, sides-length cs)))
    ∙ clamp-in-sides cs k h

-- where row 14 passes all clamps it passes each
pub clamp-passes : (cs : List Clamp) (k : ℕ) → clamps_ok cs ≡ true → k < length cs → rectangle_ok (get_or cs k no_clamp).low_x (get_or cs k no_clamp).high_x (get_or cs k no_clamp).low_y (get_or cs k no_clamp).high_y ≡ true
unfolding clamps_ok
clamp-passes [] k h i = absurd (omega arith)
clamp-passes (c ∷ cs) zero h i = (both (rectangle_ok c.low_x c.high_x c.low_y c.high_y) (clamps_ok cs) h).0
clamp-passes (c ∷ cs) (suc k) h i =
    clamp-passes cs k (both (rectangle_ok c.low_x c.high_x c.low_y c.high_y) (clamps_ok cs) h).1 (omega arith)
