-- Closed cases of feeding: a list that is too short, and bytes that are held.
use Rattle.std.specs.Prelude.{Err}
use mathlib.Core.List.{[], ◌∷◌}
use mathlib.Core.Path.{◌≡◌, refl}
use native.Mathlib.Omega.{arith}
use Rattle.feed.specs.Burst.{fresh, work_number, burst_answer, work_after}
use Rattle.feed.specs.Ending.{Holds, whole, beyond}
use Rattle.refusal.specs.declared.Refusal.TheVariants.{Room}

-- a list of one place takes no burst
too_short : (burst_answer fresh (7 ∷ []) (1 ∷ []) ≡ Err Room) × (work_after fresh (7 ∷ []) (1 ∷ []) ≡ 1 ∷ []) × (work_number (1 ∷ []) ≡ 15)
too_short = (refl, refl, refl)

-- a count of 2 holds two bytes, and one of 6 more than the five that there are
two-held : Holds 2 (1 ∷ 2 ∷ 3 ∷ 4 ∷ 5 ∷ []) (1 ∷ 2 ∷ [])
two-held = whole (omega arith)

more-held : Holds 6 (1 ∷ 2 ∷ 3 ∷ 4 ∷ 5 ∷ []) (1 ∷ 2 ∷ 3 ∷ 4 ∷ 5 ∷ 7 ∷ 8 ∷ [])
more-held = beyond (omega arith) 7 (8 ∷ [])
