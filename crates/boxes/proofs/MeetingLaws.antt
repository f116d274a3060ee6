-- The box of some coordinates meets low..high on their axis exactly where some entry is at most high and some entry at least low; and four entries, each asked.
use Rattle.std.proofs.Common.{arith, ◌≡◌, ℤ, pos, ◌<◌, ◌≤◌, Bool, List, [], ◌∷◌, ◌&&◌, ◌||◌, length, slice_index_or, refl}
use Rattle.std.proofs.Math.Bool.{or_assoc, or-false}
use Rattle.std.specs.Int.Signed.{le_z}
use Rattle.std.specs.List.{list_any}
use Rattle.boxes.specs.Meeting.{some_at_most, some_at_least, meets_on_axis}

at_most_any : (high : ℤ) (zs : List ℤ) → list_any (λ z. le_z z high) zs ≡ some_at_most high zs
unfolding some_at_most
at_most_any high [] = refl
at_most_any high (z ∷ zs) = rw (at_most_any high zs)

at_least_any : (low : ℤ) (zs : List ℤ) → list_any (λ z. le_z low z) zs ≡ some_at_least low zs
unfolding some_at_least
at_least_any low [] = refl
at_least_any low (z ∷ zs) = rw (at_least_any low zs)

pub meets_any : (low high : ℤ) (zs : List ℤ) → meets_on_axis low high zs ≡ (list_any (λ z. le_z z high) zs && list_any (λ z. le_z low z) zs)
unfolding meets_on_axis
meets_any low high zs = rw (at_most_any high zs, at_least_any low zs)

-- of four entries, each asked, the answer is that of the library's list_any
pub any_of_four :
    (test : ℤ → Bool) (zs : List ℤ) → 4 ≤ length zs → length zs < 5
    → (test (slice_index_or zs 0 (pos 0)) || test (slice_index_or zs 1 (pos 0)) || test (slice_index_or zs 2 (pos 0)) || test (slice_index_or zs 3 (pos 0)))
    ≡ list_any test zs
any_of_four test [] long short = absurd (omega (arith, long))
any_of_four test (a ∷ []) long short = absurd (omega (arith, long))
any_of_four test (a ∷ b ∷ []) long short = absurd (omega (arith, long))
any_of_four test (a ∷ b ∷ c ∷ []) long short = absurd (omega (arith, long))
any_of_four test (a ∷ b ∷ c ∷ d ∷ []) long short = simp (or_assoc, or-false)
any_of_four test (a ∷ b ∷ c ∷ d ∷ e ∷ zs) long short = absurd (omega (arith, short))
