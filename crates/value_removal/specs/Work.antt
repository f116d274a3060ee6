-- Curves whose front stands in working lists and whose rest is still to come, for the inner functions.
use Rattle.std.specs.Prelude.{Result, Ok, Err, List, ◌++◌, ◌≡◌, ℕ, ◌+◌, ◌-◌, ◌≤◌, ◌<◌, ℤ, nat_abs, length, get_or, take}
use Rattle.refusal.specs.declared.Refusal.{Refusal}
use Rattle.refusal.specs.declared.Refusal.TheVariants.{NotRemovable}
use Rattle.grid.specs.Check.{Passes}
use Rattle.grid.specs.Limits.{coordinate_most}
use Rattle.insertion.specs.Insertion.{point_at}
use Rattle.curve.specs.Lists.{Lists}
use Rattle.removal.specs.Removal.{Removes}
use Rattle.compaction.specs.Compaction.{Stays, RemovesWhile}

-- the curve of n points at the front of the lists
abbrev pub front_curve : ℕ → ℕ → List ℕ → List ℤ → List ℤ → Lists
front_curve m n ks xs ys = record { knots = take (n + m + 1) ks; xs = take n xs; ys = take n ys }

-- the curve that n points at the front of the lists begin and `rk`, `rx`, `ry` end
abbrev pub front_then : ℕ → ℕ → List ℕ → List ℤ → List ℤ → List ℕ → List ℤ → List ℤ → Lists
front_then m n ks xs ys rk rx ry = record { knots = take (n + m + 1) ks ++ rk; xs = take n xs ++ rx; ys = take n ys ++ ry }

abbrev pub CurvePasses : ℕ → Lists → Type 0
CurvePasses m c = Passes m c.knots c.xs c.ys

-- the lists are long enough for n points
pub record Holding (m n : ℕ) (ks : List ℕ) (xs ys : List ℤ) : Type 0 where
  pub room_knots : n + m + 1 ≤ length ks
  pub room_xs : n ≤ length xs
  pub room_ys : n ≤ length ys

-- the last knot of the front that can go: the one before its last m + 1
abbrev pub newest : ℕ → List ℕ → ℕ
newest n ks = get_or ks (n - 1) 0

-- the first n coordinates are on the grid
abbrev pub OnGridTo : ℕ → List ℤ → Type 0
OnGridTo n ps = (j : ℕ) → j < n → nat_abs (point_at ps j) ≤ coordinate_most

-- knots that never fall, the newest of them above the left end, and points on the grid
pub record Growing (m n : ℕ) (ks : List ℕ) (xs ys : List ℤ) : Type 0 where
  pub least : 1 ≤ m
  pub most : m ≤ 3
  pub enough : m + 2 ≤ n
  pub holding : Holding m n ks xs ys
  pub rises : (a b : ℕ) → a ≤ b → b < n + m + 1 → get_or ks a 0 ≤ get_or ks b 0
  pub inner : get_or ks m 0 < newest n ks
  pub range_xs : OnGridTo n xs
  pub range_ys : OnGridTo n ys

-- the newest knot is gone, and this is its removal from every curve that the front begins
pub record Shorter (m n : ℕ) (ks : List ℕ) (xs ys : List ℤ) (ks_after : List ℕ) (xs_after ys_after : List ℤ) : Type 0 where
  pub removes : (rk : List ℕ) (rx ry : List ℤ) → CurvePasses m (front_then m n ks xs ys rk rx ry)
      → Removes m (newest n ks) (front_then m n ks xs ys rk rx ry) (front_then m (n - 1) ks_after xs_after ys_after rk rx ry)
  pub before : (j : ℕ) → j < n - 1 → get_or ks_after j 0 ≡ get_or ks j 0
  pub behind : (j : ℕ) → n ≤ j + 1 → j < n + m → get_or ks_after j 0 ≡ get_or ks (j + 1) 0
  pub range_xs : OnGridTo (n - 1) xs_after
  pub range_ys : OnGridTo (n - 1) ys_after

-- it can be removed from no curve that the front begins, and the lists are as they were
pub record Fixed (m n : ℕ) (ks : List ℕ) (xs ys : List ℤ) (ks_after : List ℕ) (xs_after ys_after : List ℤ) : Type 0 where
  pub stays : (rk : List ℕ) (rx ry : List ℤ) → CurvePasses m (front_then m n ks xs ys rk rx ry) → Stays m (newest n ks) (front_then m n ks xs ys rk rx ry)
  pub same_knots : ks_after ≡ ks
  pub same_xs : xs_after ≡ xs
  pub same_ys : ys_after ≡ ys

-- one try
abbrev pub TryOutcome : ℕ → ℕ → List ℕ → List ℤ → List ℤ → List ℕ → List ℤ → List ℤ → Result (Unit {0}) Refusal → Type 0
TryOutcome m n ks xs ys ks_after xs_after ys_after (Ok removed) = Shorter m n ks xs ys ks_after xs_after ys_after
TryOutcome m n ks xs ys ks_after xs_after ys_after (Err refusal) = (refusal ≡ NotRemovable) × Fixed m n ks xs ys ks_after xs_after ys_after

-- the newest value v is dealt with: removed while removal is accepted, in every curve that the front begins
pub record ValueRemoved (m n : ℕ) (ks : List ℕ) (xs ys : List ℤ) (ks_after : List ℕ) (xs_after ys_after : List ℤ) (left : ℕ) : Type 0 where
  pub passes : (rk : List ℕ) (rx ry : List ℤ) → CurvePasses m (front_then m n ks xs ys rk rx ry) → CurvePasses m (front_then m left ks_after xs_after ys_after rk rx ry)
  pub removes : (rk : List ℕ) (rx ry : List ℤ) → CurvePasses m (front_then m n ks xs ys rk rx ry)
      → RemovesWhile m (newest n ks) (front_then m n ks xs ys rk rx ry) (front_then m left ks_after xs_after ys_after rk rx ry)
  pub fewer : left ≤ n
  pub enough : m + 1 ≤ left
  pub below : newest left ks_after ≤ newest n ks
  pub next : get_or ks_after left 0 ≡ get_or ks n 0
  pub first : get_or ks_after m 0 ≡ get_or ks m 0

-- nothing is done yet: more of the same value come
pub record Waiting (n : ℕ) (ks : List ℕ) (xs ys : List ℤ) (ks_after : List ℕ) (xs_after ys_after : List ℤ) (left : ℕ) : Type 0 where
  pub same_knots : ks_after ≡ ks
  pub same_xs : xs_after ≡ xs
  pub same_ys : ys_after ≡ ys
  pub same_count : left ≡ n

-- a value is dealt with where its last knot has come
pub record ValueOutcome (m n : ℕ) (ks : List ℕ) (xs ys : List ℤ) (ks_after : List ℕ) (xs_after ys_after : List ℤ) (left : ℕ) : Type 0 where
  pub more : get_or ks n 0 ≤ newest n ks → Waiting n ks xs ys ks_after xs_after ys_after left
  pub last : newest n ks < get_or ks n 0 → ValueRemoved m n ks xs ys ks_after xs_after ys_after left
