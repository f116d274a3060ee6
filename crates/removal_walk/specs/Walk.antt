-- What the parts of a removal on one axis answer, for the inner functions: a walk from the left that must agree with the right side where it ends.
-- `ks` are the knots with one v fewer, `ps` the old coordinates.
use Rattle.std.specs.Prelude.{Bool, true, false, ◌&&◌, Result, Ok, Err, List, ◌≡◌, ℕ, ◌+◌, ◌-◌, ◌≤◌, ◌<◌, ℤ, pos, nat_abs, ◌*ℤ◌, length, get_or}
use Rattle.std.specs.Int.Signed.{quot_z}
use Rattle.refusal.specs.declared.Refusal.{Refusal}
use Rattle.refusal.specs.declared.Refusal.TheVariants.{NotRemovable}
use Rattle.grid.specs.Limits.{coordinate_most}
use Rattle.grid.specs.Rows.{on_grid}
use Rattle.signed.specs.Division.{divides}
use Rattle.insertion.specs.Insertion.{insertion_span, point_at}
use Rattle.removal.specs.Axis.{AxisReinserts, GivesAt, left_for}

-- z divided by d is a whole number on the grid
abbrev pub is_point : ℕ → ℤ → Bool
is_point d z = divides (pos d) z && on_grid (quot_z z (pos d))

-- where a walk from the left ends: from i-m+1 up to there v - t_j is above zero, and behind it, up to i, it is zero
pub record FarEnd (m : ℕ) (ks : List ℕ) (v far : ℕ) : Type 0 where
  pub from : insertion_span ks v < far + m
  pub to : far ≤ insertion_span ks v
  pub below : (j : ℕ) → insertion_span ks v < j + m → j < far → get_or ks j 0 < v
  pub same : (j : ℕ) → far < j → j ≤ insertion_span ks v → get_or ks j 0 ≡ v

-- w has P_{i-m} and, up to `far`, each point that follows from the one before it; no other list can give the old coordinates back
pub record Walked (m : ℕ) (ks : List ℕ) (v : ℕ) (ps w : List ℤ) (far : ℕ) : Type 0 where
  pub start : point_at w (insertion_span ks v - m) ≡ point_at ps (insertion_span ks v - m)
  pub gives : (j : ℕ) → insertion_span ks v < j + m → j < far → GivesAt m ks w v j (point_at ps j)
  pub range : (j : ℕ) → insertion_span ks v < j + m → j < far → nat_abs (point_at w j) ≤ coordinate_most
  pub only : (p : List ℤ) → AxisReinserts m ks p v ps → (j : ℕ) → insertion_span ks v ≤ j + m → j < far → point_at p j ≡ point_at w j

-- what a walk answers: the points up to `far`, or a refusal where no list gives the old coordinates back
abbrev pub WalkOutcome : ℕ → List ℕ → ℕ → List ℤ → List ℤ → ℕ → Result (Unit {0}) Refusal → Type 0
WalkOutcome m ks v ps w far (Ok done) = Walked m ks v ps w far
WalkOutcome m ks v ps w far (Err refusal) = (refusal ≡ NotRemovable) × ((p : List ℤ) → AxisReinserts m ks p v ps → ⊥)

-- a test's answer is whether P holds
pub record Says (r : Bool) (P : Type 0) : Type 0 where
  pub yes : r ≡ true → P
  pub no : r ≡ false → P → ⊥

-- the far side agrees: what is left for P_far behind `last` is what the old coordinate of the right side asks
abbrev pub FarAgrees : ℕ → List ℕ → List ℤ → ℕ → ℕ → ℤ → Type 0
FarAgrees m ks ps v far last = left_for m ks ps v far last ≡ point_at ps (far + 1) *ℤ pos (v - get_or ks far 0)

-- q has the old coordinates in front of `start` and, one place on, from `far`; between them it has those of w
pub record BetweenSides (ps : List ℤ) (start far : ℕ) (w q : List ℤ) : Type 0 where
  pub count : length q ≡ length w
  pub left : (j : ℕ) → j < start → point_at q j ≡ point_at ps j
  pub between : (j : ℕ) → start ≤ j → j < far → point_at q j ≡ point_at w j
  pub right : (j : ℕ) → far ≤ j → j < length q → point_at q j ≡ point_at ps (j + 1)

-- what one axis answers: the polygon's coordinates, or a refusal where there are none
abbrev pub AxisOutcome : ℕ → List ℕ → ℕ → List ℤ → List ℤ → Result (Unit {0}) Refusal → Type 0
AxisOutcome m ks v ps q (Ok done) = AxisReinserts m ks q v ps
AxisOutcome m ks v ps q (Err refusal) = (refusal ≡ NotRemovable) × ((p : List ℤ) → AxisReinserts m ks p v ps → ⊥)
