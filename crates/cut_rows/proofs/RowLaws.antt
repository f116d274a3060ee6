-- What the four places of a row hold after a step, place by place.
use mathlib.Core.List.{List, [], ◌∷◌}
use mathlib.Core.Path.{◌≡◌, refl}
use Prim.Native.Nat.{ℕ, zero, suc, ◌<◌}
use native.Mathlib.Omega.{arith}
use lib.IntN.{ℤ}
use Rattle.insertion.specs.Insertion.{point_at}
use Rattle.cut_rows.specs.Row.{Pushed}

-- three points behind another
pub pushed-on : (point : ℤ) (behind : List ℤ) → Pushed point behind (point ∷ point_at behind 0 ∷ point_at behind 1 ∷ point_at behind 2 ∷ [])
pushed-on point behind = record { places = refl; first = refl; others = others }
  where
    now : List ℤ
    now = point ∷ point_at behind 0 ∷ point_at behind 1 ∷ point_at behind 2 ∷ []

    others : (k : ℕ) → k < 3 → point_at now (suc k) ≡ point_at behind k
    others zero h = refl
    others (suc zero) h = refl
    others (suc (suc zero)) h = refl
    others (suc (suc (suc k))) h = absurd (omega arith)
