-- A curve that is the Hermite cubic on every interval passes through the spline points: `meets-points`.
use mathlib.Core.List.{List}
use mathlib.Core.Path.{◌≡◌, ◌∙◌}
use Prim.Native.Nat.{ℕ, zero, suc, ◌*◌, ◌≤◌, ◌<◌}
use native.Mathlib.Decide.{dec_le}
use native.Mathlib.Omega.{arith}
use lib.IntN.{ℤ, pos}
use lib.ListN.{length, get_or}
use Rattle.fractions.specs.Fraction.{whole, whole_n}
use Rattle.fractions.specs.Order.{Equals}
use Rattle.fractions.proofs.Rational.{class, rational, rational_operations, class-of-equals, equals-of-class}
use Rattle.fractions.proofs.ClassLaws.{whole_n-below}
use Rattle.splines.specs.Bezier.{hermite}
use Rattle.exact.specs.ExactCurve.{exact_at}
use Rattle.spline_pieces.specs.Standing.{Rising}
use Rattle.joining_exact.specs.HermitePoint.{hermite_coordinate}
use Rattle.joining_exact.specs.JoinedCurve.{HermiteOnAxis}
use Rattle.joining_exact.proofs.HermiteLaws.{hermite-class, hermite-start, hermite-end}
use Rattle.joining_exact.proofs.JoinedLaws.{whole-parameter}

-- each point but the last is met where its interval starts, the last where its interval ends
module _ (ts ss : List ℕ) (us ps ds : List ℤ) (rising : Rising ss) (cubic : HermiteOnAxis ts us ss ps ds) where
  -- the cubic of interval i at a whole parameter s, by its value there
  at-whole : (i s : ℕ) (z : ℤ) → suc i < length ss → get_or ss i 0 ≤ s → s ≤ get_or ss (suc i) 0
      → hermite rational_operations (class (whole_n (get_or ss i 0))) (class (whole_n (get_or ss (suc i) 0)))
      (class (whole (get_or ps i (pos 0)))) (class (whole (get_or ps (suc i) (pos 0))))
      (class (whole (get_or ds i (pos 0)))) (class (whole (get_or ds (suc i) (pos 0)))) (class (whole_n s))
      ≡ class (whole z)
      → Equals (exact_at 3 ts us s 1) (whole z)
  at-whole i s z inside from to value =
      let parameter : s ≡ s * 1 = omega arith in
      let there = cubic i s 1 inside (omega arith) (omega arith) (omega arith) in
      equals-of-class (exact_at 3 ts us s 1) (whole z)
      (class-of-equals {a = exact_at 3 ts us s 1} {b = hermite_coordinate ss ps ds i s 1} there
      ∙ hermite-class ss ps ds i s 1
      ∙ rw (whole-parameter s s 1 (omega arith) parameter) value)

  pub meets-points : (i : ℕ) → i < length ss → Equals (exact_at 3 ts us (get_or ss i 0) 1) (whole (get_or ps i (pos 0)))
  meets-points i h = by i h (dec_le (length ss) (suc i))
    where
      by : (i : ℕ) → i < length ss → Dec (length ss ≤ suc i) → Equals (exact_at 3 ts us (get_or ss i 0) 1) (whole (get_or ps i (pos 0)))
      by i h (no more) =
          at-whole i (get_or ss i 0) (get_or ps i (pos 0)) (omega arith) (omega arith) (omega (arith, rising.rises i (omega arith)))
          (hermite-start rational _ _ _ _ _ _)
      by zero h (yes end) = absurd (omega (arith, rising.least))
      by (suc k) h (yes end) =
          let below = rising.rises k h in
          at-whole k (get_or ss (suc k) 0) (get_or ps (suc k) (pos 0)) h (omega arith) (omega arith)
          (hermite-end rational _ _ _ _ _ _ ((whole_n-below (get_or ss k 0) (get_or ss (suc k) 0)).0 below))
