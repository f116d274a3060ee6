-- What one pass answers and leaves in the working lists, for the inner functions.
use Rattle.std.specs.Prelude.{List, ℕ, ◌≤◌, ℤ, get_or}
use Rattle.curve.specs.Lists.{Lists}
use Rattle.compaction.specs.Compaction.{Pass}
use Rattle.value_removal.specs.Work.{front_curve, CurvePasses}

-- the curve at the front passes the check
pub record FrontPasses (m n : ℕ) (ks : List ℕ) (xs ys : List ℤ) : Type 0 where
  pub passes : CurvePasses m (front_curve m n ks xs ys)

-- a whole pass
pub record PassOutcome (m n : ℕ) (c : Lists) (ks : List ℕ) (xs ys : List ℤ) (left : ℕ) : Type 0 where
  pub fewer : left ≤ n
  pub passes : FrontPasses m left ks xs ys
  pub pass : Pass m (get_or c.knots m 0) c (front_curve m left ks xs ys)
