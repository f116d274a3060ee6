-- Closed cases: bursts kept in a list of five places, and counted.
use mathlib.Core.List.{[], ◌∷◌}
use mathlib.Core.Path.{◌≡◌, refl}
use Rattle.lent.specs.Lent.{over}
use Rattle.keeping.specs.Kept.{kept_with, received_with}

-- two bytes received, and 7 8 behind them; then one that fits only in part; then nothing that fits
second-burst : over (kept_with 2 (7 ∷ 8 ∷ []) (1 ∷ 2 ∷ 3 ∷ 4 ∷ 5 ∷ [])) (1 ∷ 2 ∷ 3 ∷ 4 ∷ 5 ∷ []) ≡ 1 ∷ 2 ∷ 7 ∷ 8 ∷ 5 ∷ []
unfolding kept_with
second-burst = refl

too-long-burst : over (kept_with 4 (7 ∷ 8 ∷ []) (1 ∷ 2 ∷ 3 ∷ 4 ∷ 5 ∷ [])) (1 ∷ 2 ∷ 3 ∷ 4 ∷ 5 ∷ []) ≡ 1 ∷ 2 ∷ 3 ∷ 4 ∷ 7 ∷ []
unfolding kept_with
too-long-burst = refl

full-list : over (kept_with 6 (7 ∷ 8 ∷ []) (1 ∷ 2 ∷ 3 ∷ 4 ∷ 5 ∷ [])) (1 ∷ 2 ∷ 3 ∷ 4 ∷ 5 ∷ []) ≡ 1 ∷ 2 ∷ 3 ∷ 4 ∷ 5 ∷ []
unfolding kept_with
full-list = refl

-- 2 and 2 are 4, 3 and 2 are 5, all places; 4 and 2 are one too many, and there the count stops; one beyond that stays
counts : received_with 2 (7 ∷ 8 ∷ []) (1 ∷ 2 ∷ 3 ∷ 4 ∷ 5 ∷ []) ∷ received_with 3 (7 ∷ 8 ∷ []) (1 ∷ 2 ∷ 3 ∷ 4 ∷ 5 ∷ [])
    ∷ received_with 4 (7 ∷ 8 ∷ 9 ∷ []) (1 ∷ 2 ∷ 3 ∷ 4 ∷ 5 ∷ []) ∷ received_with 100 (7 ∷ 8 ∷ []) (1 ∷ 2 ∷ 3 ∷ 4 ∷ 5 ∷ []) ∷ []
    ≡ 4 ∷ 5 ∷ 6 ∷ 100 ∷ []
unfolding received_with
counts = refl
