-- Row 11 of the heading "Numbers of refusal" for joining, as a sentence over all pieces: a control point between two spline points is not whole.
use Rattle.std.specs.Prelude.{List, ◌⊎◌, ◌≡◌, ℕ, suc, ◌-◌, ◌<◌, ℤ, pos, ◌*ℤ◌, length, get_or}

-- h·d is three times no whole number
abbrev pub NotThreefold : ℕ → ℤ → Type 0
NotThreefold h d = (q : ℤ) → q *ℤ pos 3 ≡ pos h *ℤ d → ⊥

-- the width of piece i
abbrev pub width_of : List ℕ → ℕ → ℕ
width_of ss i = get_or ss (suc i) 0 - get_or ss i 0

-- on one axis with tangents ds, some piece has a width that its first or its last tangent times it is three times no whole number
abbrev pub NotWhole : List ℕ → List ℤ → Type 0
NotWhole ss ds =
    (i : ℕ) × (suc i < length ss) × (NotThreefold (width_of ss i) (get_or ds i (pos 0)) ⊎ NotThreefold (width_of ss i) (get_or ds (suc i) (pos 0)))
