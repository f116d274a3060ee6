-- The window of a knot, the last of its value: the m + 2 points and 2m + 3 knots round it. Removing the knot changes nothing else
-- and looks at nothing else.
use Rattle.std.specs.Prelude.{Result, Ok, Err, List, ◌++◌, ◌≡◌, ℕ, ◌+◌, ◌≤◌, ◌<◌, ℤ, length, get_or, take, drop}
use Rattle.refusal.specs.declared.Refusal.{Refusal}
use Rattle.refusal.specs.declared.Refusal.TheVariants.{NotRemovable}
use Rattle.curve.specs.Lists.{NeverFall}
use Rattle.lent.specs.Lent.{over}
use Rattle.removal.specs.Axis.{Ranged, AxisReinserts}

-- the knot in the middle, and the knots without it
abbrev pub middle : ℕ → List ℕ → ℕ
middle m ts = get_or ts (m + 1) 0

unfoldable pub closed : ℕ → List ℕ → List ℕ
closed m ts = take (m + 1) ts ++ drop (m + 2) ts

-- knots that never fall, the one in the middle the last of its value, and as many points on the grid as they carry
pub record Window (m : ℕ) (ts : List ℕ) (xs ys : List ℤ) : Type 0 where
  pub least : 1 ≤ m
  pub most : m ≤ 3
  pub knots : length ts ≡ m + m + 3
  pub across : length xs ≡ m + 2
  pub up : length ys ≡ m + 2
  pub rises : NeverFall ts
  pub last : middle m ts < get_or ts (m + 2) 0
  pub ranged_xs : Ranged xs
  pub ranged_ys : Ranged ys

-- points that give the window's old ones back stand at its front, with the fewer knots
pub record Closed (m : ℕ) (ts : List ℕ) (xs ys : List ℤ) (ts_after : List ℕ) (xs_after ys_after : List ℤ) : Type 0 where
  pub px : List ℤ
  pub py : List ℤ
  pub on_x : AxisReinserts m (closed m ts) px (middle m ts) xs
  pub on_y : AxisReinserts m (closed m ts) py (middle m ts) ys
  pub new_knots : ts_after ≡ over (closed m ts) ts
  pub new_xs : xs_after ≡ over px xs
  pub new_ys : ys_after ≡ over py ys

-- there are no such points, and the window is as it was
pub record Stuck (m : ℕ) (ts : List ℕ) (xs ys : List ℤ) (ts_after : List ℕ) (xs_after ys_after : List ℤ) : Type 0 where
  pub none : (px py : List ℤ) → AxisReinserts m (closed m ts) px (middle m ts) xs → AxisReinserts m (closed m ts) py (middle m ts) ys → ⊥
  pub same_knots : ts_after ≡ ts
  pub same_xs : xs_after ≡ xs
  pub same_ys : ys_after ≡ ys

-- one try
abbrev pub WindowOutcome : ℕ → List ℕ → List ℤ → List ℤ → List ℕ → List ℤ → List ℤ → Result (Unit {0}) Refusal → Type 0
WindowOutcome m ts xs ys ts_after xs_after ys_after (Ok removed) = Closed m ts xs ys ts_after xs_after ys_after
WindowOutcome m ts xs ys ts_after xs_after ys_after (Err refusal) = (refusal ≡ NotRemovable) × Stuck m ts xs ys ts_after xs_after ys_after
