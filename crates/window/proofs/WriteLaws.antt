-- The knots without the middle one, written out for each degree.
use mathlib.Core.List.{List, [], ◌∷◌}
use mathlib.Core.Path.{◌≡◌, refl}
use Prim.Native.Nat.{ℕ}
use native.Mathlib.Omega.{arith}
use lib.ListN.{length, get_or}
use Rattle.window.specs.Window.{closed}

pub closed-linear : (ts : List ℕ) → length ts ≡ 5 → get_or ts 0 0 ∷ get_or ts 1 0 ∷ get_or ts 3 0 ∷ get_or ts 4 0 ∷ [] ≡ closed 1 ts
unfolding closed
closed-linear (a ∷ b ∷ c ∷ d ∷ e ∷ []) h = refl
closed-linear [] h = absurd (omega arith)
closed-linear (a ∷ []) h = absurd (omega arith)
closed-linear (a ∷ b ∷ []) h = absurd (omega arith)
closed-linear (a ∷ b ∷ c ∷ []) h = absurd (omega arith)
closed-linear (a ∷ b ∷ c ∷ d ∷ []) h = absurd (omega arith)
closed-linear (a ∷ b ∷ c ∷ d ∷ e ∷ f ∷ ts) h = absurd (omega arith)

pub closed-quadratic : (ts : List ℕ) → length ts ≡ 7 → get_or ts 0 0 ∷ get_or ts 1 0 ∷ get_or ts 2 0 ∷ get_or ts 4 0 ∷ get_or ts 5 0 ∷ get_or ts 6 0 ∷ [] ≡ closed 2 ts
unfolding closed
closed-quadratic (a ∷ b ∷ c ∷ d ∷ e ∷ f ∷ g ∷ []) h = refl
closed-quadratic [] h = absurd (omega arith)
closed-quadratic (a ∷ []) h = absurd (omega arith)
closed-quadratic (a ∷ b ∷ []) h = absurd (omega arith)
closed-quadratic (a ∷ b ∷ c ∷ []) h = absurd (omega arith)
closed-quadratic (a ∷ b ∷ c ∷ d ∷ []) h = absurd (omega arith)
closed-quadratic (a ∷ b ∷ c ∷ d ∷ e ∷ []) h = absurd (omega arith)
closed-quadratic (a ∷ b ∷ c ∷ d ∷ e ∷ f ∷ []) h = absurd (omega arith)
closed-quadratic (a ∷ b ∷ c ∷ d ∷ e ∷ f ∷ g ∷ i ∷ ts) h = absurd (omega arith)

pub closed-cubic : (ts : List ℕ) → length ts ≡ 9
    → get_or ts 0 0 ∷ get_or ts 1 0 ∷ get_or ts 2 0 ∷ get_or ts 3 0 ∷ get_or ts 5 0 ∷ get_or ts 6 0 ∷ get_or ts 7 0 ∷ get_or ts 8 0 ∷ [] ≡ closed 3 ts
unfolding closed
closed-cubic (a ∷ b ∷ c ∷ d ∷ e ∷ f ∷ g ∷ i ∷ j ∷ []) h = refl
closed-cubic [] h = absurd (omega arith)
closed-cubic (a ∷ []) h = absurd (omega arith)
closed-cubic (a ∷ b ∷ []) h = absurd (omega arith)
closed-cubic (a ∷ b ∷ c ∷ []) h = absurd (omega arith)
closed-cubic (a ∷ b ∷ c ∷ d ∷ []) h = absurd (omega arith)
closed-cubic (a ∷ b ∷ c ∷ d ∷ e ∷ []) h = absurd (omega arith)
closed-cubic (a ∷ b ∷ c ∷ d ∷ e ∷ f ∷ []) h = absurd (omega arith)
closed-cubic (a ∷ b ∷ c ∷ d ∷ e ∷ f ∷ g ∷ []) h = absurd (omega arith)
closed-cubic (a ∷ b ∷ c ∷ d ∷ e ∷ f ∷ g ∷ i ∷ []) h = absurd (omega arith)
closed-cubic (a ∷ b ∷ c ∷ d ∷ e ∷ f ∷ g ∷ i ∷ j ∷ k ∷ ts) h = absurd (omega arith)
