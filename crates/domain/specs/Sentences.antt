-- What a call at a parameter is refused with, in sentences (headings "The point at a parameter" and "Numbers of refusal").
use Rattle.std.specs.Prelude.{List, ◌⊎◌, ◌↔◌, ◌≡◌, ℕ, ◌+◌, ◌-◌, ◌≤◌, ◌<◌, ℤ, length, get_or}
use Rattle.grid.specs.Check.{check_number, Passes}
use Rattle.domain.specs.Parameter.{parameter_number}

-- t is left of t_m or right of t_{n+1}
abbrev pub Outside : List ℕ → ℕ → ℕ → ℕ → Type 0
Outside ts m n t = (t < get_or ts m 0) ⊎ (get_or ts (n + 1) 0 < t)

-- t lies from t_m to t_{n+1}, both included
abbrev pub Inside : List ℕ → ℕ → ℕ → ℕ → Type 0
Inside ts m n t = (get_or ts m 0 ≤ t) × (t ≤ get_or ts (n + 1) 0)

-- 8 is given exactly for a curve that passes and a parameter outside its domain
abbrev pub EightExactly : Type 0
EightExactly =
    (m : ℕ) (ts : List ℕ) (xs ys : List ℤ) (t : ℕ)
    → (parameter_number m ts xs ys t ≡ 8) ↔ (Passes m ts xs ys × Outside ts m (length xs - 1) t)

-- nothing is refused exactly for a curve that passes and a parameter of its domain
abbrev pub AcceptedExactly : Type 0
AcceptedExactly =
    (m : ℕ) (ts : List ℕ) (xs ys : List ℤ) (t : ℕ)
    → (parameter_number m ts xs ys t ≡ 0) ↔ (Passes m ts xs ys × Inside ts m (length xs - 1) t)

-- a curve that does not pass is refused with the check's own number, whatever the parameter
abbrev pub CurveJudgedFirst : Type 0
CurveJudgedFirst =
    (m : ℕ) (ts : List ℕ) (xs ys : List ℤ) (t : ℕ) → (Passes m ts xs ys → ⊥) → parameter_number m ts xs ys t ≡ check_number m ts xs ys
