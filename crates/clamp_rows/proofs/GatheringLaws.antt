-- What was gathered of an end, number by number, is the end, and near where the end is.
use mathlib.Core.List.{List, [], ◌∷◌}
use mathlib.Core.Path.{◌≡◌}
use Prim.Native.Nat.{ℕ, zero, suc, ◌+◌, ◌≤◌, ◌<◌}
use native.Mathlib.Omega.{arith}
use lib.IntN.{ℤ, nat_abs}
use lib.ListN.{get_or}
use mir.Syntax.{w32, w64}
use mir.Val.{to_z, of_z}
use Rattle.signed.proofs.FitLaws.{fits32-of-size, read-wider}
use Rattle.grid.specs.Limits.{coordinate_most, knot_most}
use Rattle.insertion.specs.Insertion.{point_at}
use Rattle.clamping.specs.EndRows.{End}
use Rattle.clamp_rows.specs.declared.ends.NearEnd.{NearEnd}
use Rattle.clamp_rows.specs.Near.{Near}
use Rattle.clamp_rows.specs.Ends.{Gathered}

module _ (end : End) (a b c d : ℕ) (p q r : ℤ) (ea : a ≡ end.inside 1) (eb : b ≡ end.inside 2) (ec : c ≡ end.outside 1) (ed : d ≡ end.outside 2)
    (ep : p ≡ end.point 0) (eq : q ≡ end.point 1) (er : r ≡ end.point 2) where
  pub gathered : (e : NearEnd) → e.inside ≡ a ∷ b ∷ [] → e.outside ≡ c ∷ d ∷ [] → e.point ≡ p ∷ q ∷ r ∷ [] → Gathered e end
  gathered e i o w = record { inside = rw i inside; outside = rw o outside; point = rw w point }
    where
      inside : (k : ℕ) → k < 2 → get_or (a ∷ b ∷ []) k 0 ≡ end.inside (k + 1)
      inside zero h = ea
      inside (suc zero) h = eb
      inside (suc (suc k)) h = absurd (omega arith)

      outside : (k : ℕ) → k < 2 → get_or (c ∷ d ∷ []) k 0 ≡ end.outside (k + 1)
      outside zero h = ec
      outside (suc zero) h = ed
      outside (suc (suc k)) h = absurd (omega arith)

      point : (k : ℕ) → k < 3 → point_at (p ∷ q ∷ r ∷ []) k ≡ end.point k
      point zero h = ep
      point (suc zero) h = eq
      point (suc (suc zero)) h = er
      point (suc (suc (suc k))) h = absurd (omega arith)

  pub near : 0 < end.inside 1 → 0 < end.inside 2 → ((j l : ℕ) → end.inside j + end.outside l ≤ knot_most) → ((k : ℕ) → nat_abs (end.point k) ≤ coordinate_most)
      → Near (a ∷ b ∷ []) (c ∷ d ∷ []) (p ∷ q ∷ r ∷ [])
  near first second close range = record { apart = apart; within = within; range = ranges }
    where
      apart : (k : ℕ) → k < 2 → 0 < get_or (a ∷ b ∷ []) k 0
      apart zero h = omega arith
      apart (suc zero) h = omega arith
      apart (suc (suc k)) h = absurd (omega arith)

      within : (j k : ℕ) → get_or (a ∷ b ∷ []) j 0 + get_or (c ∷ d ∷ []) k 0 ≤ knot_most
      within zero zero = omega (arith, close 1 1)
      within zero (suc zero) = omega (arith, close 1 2)
      within zero (suc (suc k)) = omega (arith, close 1 1)
      within (suc zero) zero = omega (arith, close 2 1)
      within (suc zero) (suc zero) = omega (arith, close 2 2)
      within (suc zero) (suc (suc k)) = omega (arith, close 2 1)
      within (suc (suc j)) zero = omega (arith, close 1 1)
      within (suc (suc j)) (suc zero) = omega (arith, close 1 2)
      within (suc (suc j)) (suc (suc k)) = omega arith

      ranges : (k : ℕ) → nat_abs (point_at (p ∷ q ∷ r ∷ []) k) ≤ coordinate_most
      ranges zero = rw ep (range 0)
      ranges (suc zero) = rw eq (range 1)
      ranges (suc (suc zero)) = rw er (range 2)
      ranges (suc (suc (suc k))) = omega arith

-- a point that was widened is read as it stands in the list
pub point-widened : (ps : List ℤ) (j k : ℕ) (r : ℤ) → nat_abs (point_at ps k) ≤ coordinate_most → j ≡ k → r ≡ to_z w32 (of_z w32 (point_at ps j)) → to_z w64 (of_z w64 r) ≡ point_at ps k
point-widened ps j k r h e told = rw (told, e) (read-wider (point_at ps k) (fits32-of-size (point_at ps k) (omega (arith, h))))
