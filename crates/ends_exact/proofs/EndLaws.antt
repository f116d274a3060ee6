-- The points of a clamped curve whose points all carry, as rational numbers: they are those of the theory.
use mathlib.Core.List.{List}
use mathlib.Core.Path.{◌≡◌, refl, sym, ap, ap₂, ◌∙◌}
use Prim.Native.Nat.{ℕ, ◌+◌, ◌-◌, ◌≤◌, ◌<◌}
use native.Mathlib.Decide.{dec_le}
use native.Mathlib.Omega.{arith}
use lib.IntN.{ℤ, pos}
use lib.ListN.{length, get_or}
use borrow.Author.Tests.{le-leb, lt-leb}
use Rattle.signed.proofs.DifferenceLaws.{pos-sub}
use Rattle.algebra.specs.Operations.{sub}
use Rattle.fractions.specs.Fraction.{whole, whole_n}
use Rattle.fractions.proofs.Rational.{class, rational_operations}
use Rattle.fractions.proofs.WholeLaws.{whole-difference}
use Rattle.exact.proofs.ExactLaws.{rational_knot, rational_coordinate}
use Rattle.end_rows.specs.EndRows as Rows
use Rattle.end_rows.specs.BothEnds.{both_knots, both_points}
use Rattle.curve.specs.Lists.{NeverFall}
use Rattle.clamping.specs.EndRows.{end_number, start_of, finish_of}
use Rattle.clamping.specs.Clamping.{clamped_knot, clamped_number}
use Rattle.clamping.proofs.NumberLaws as Number
use Rattle.ends_exact.proofs.ShareLaws.{value, row-value}
use Rattle.ends_exact.proofs.EntryLaws.{rows_same}

-- the difference of two natural numbers that does not fall below zero
pub difference-class : (a b : ℕ) → b ≤ a → class (whole_n (a - b)) ≡ sub rational_operations (class (whole_n a)) (class (whole_n b))
difference-class a b h = ap (λ (z : ℤ). class (whole z)) (sym (pos-sub a b h)) ∙ whole-difference (pos a) (pos b)

-- knots ts and coordinates ps of n + 1 points; the first span and the last are not empty
pub record WideEnds (m : ℕ) (ts : List ℕ) (ps : List ℤ) (n : ℕ) : Type 0 where
  pub degree : 1 ≤ m
  pub enough : m ≤ n
  pub rises : NeverFall ts
  pub size : length ts ≡ n + 1 + m + 1
  pub points : length ps ≡ n + 1
  pub first : get_or ts m 0 < get_or ts (m + 1) 0
  pub final : get_or ts n 0 < get_or ts (n + 1) 0

module _ (m : ℕ) (ts : List ℕ) (ps : List ℤ) (n : ℕ) (w : WideEnds m ts ps n) where
  -- the same facts by the number of points
  many : m + 1 ≤ length ps
  many = omega (arith, w.points, w.enough)

  long : length ts ≡ length ps + m + 1
  long = w.size ∙ ap (λ (k : ℕ). k + m + 1) (sym w.points)

  final : get_or ts (length ps - 1) 0 < get_or ts (length ps) 0
  final =
      let before : length ps - 1 ≡ n = omega (arith, w.points) in
      rw (before, w.points) w.final

  -- the knots
  pub knot-class : (j : ℕ) → class (whole_n (clamped_knot m ts (n + 1) j)) ≡ both_knots rational_operations (rational_knot ts) m n j
  unfolding clamped_knot both_knots
  knot-class j =
      elim (dec_le j m) [
        | yes a ↦ rw (le-leb j m a)
        | no a ↦ elim (dec_le j n) [
          | yes b ↦ rw (lt-leb j m (omega arith), le-leb j n b, lt-leb (n + 1) j (omega arith))
          | no b ↦ rw (lt-leb j m (omega arith), lt-leb j n (omega arith), le-leb (n + 1) j (omega arith))
        ]
      ]

  -- a number at the start ..
  start-value : (k : ℕ) → value (end_number (start_of m ts ps) m k) ≡ Rows.start_number rational_operations (rational_knot ts) (rational_coordinate ps) m k
  start-value k =
      row-value (start_of m ts ps) m (m - 1 - k) k (λ j a b. Number.start-apart m ts ps many long w.rises w.first j (omega arith) (omega arith))
      ∙ rows_same rational_operations _ _ (rational_coordinate ps) (Rows.start_inside rational_operations (rational_knot ts) m) (Rows.start_outside rational_operations (rational_knot ts) m)
      (rational_coordinate ps) m w.degree
      (λ j a. difference-class (get_or ts m 0) (get_or ts (m - j) 0) (w.rises (m - j) m (omega arith) (omega (arith, w.size, w.enough))))
      (λ j. refl) (m - 1 - k) k
      (λ j a b. difference-class (get_or ts (m + j) 0) (get_or ts m 0) (w.rises m (m + j) (omega arith) (omega (arith, w.size, w.enough))))

  -- .. and one at the end
  knot-back : (j : ℕ) → get_or ts (length ps - j) 0 ≡ get_or ts (n + 1 - j) 0
  knot-back j = ap (λ (k : ℕ). get_or ts k 0) (omega (arith, w.points))

  last-knot : get_or ts (length ps) 0 ≡ get_or ts (n + 1) 0
  last-knot = ap (λ (k : ℕ). get_or ts k 0) w.points

  inside_is : (j : ℕ) → (finish_of ts ps).inside j ≡ get_or ts (n + 1) 0 - get_or ts (n + 1 - j) 0
  inside_is j = ap₂ (λ (a b : ℕ). a - b) last-knot (knot-back j)

  outside-is : (j : ℕ) → (finish_of ts ps).outside j ≡ get_or ts (n + 1 + j) 0 - get_or ts (n + 1) 0
  outside-is j = ap₂ (λ (a b : ℕ). a - b) (ap (λ (k : ℕ). get_or ts (k + j) 0) w.points) last-knot

  finish-value : (k : ℕ)
      → value (end_number (finish_of ts ps) m k)
      ≡ Rows.end_number rational_operations (Rows.end_inside rational_operations (rational_knot ts) n) (Rows.end_outside rational_operations (rational_knot ts) n) (λ j. rational_coordinate ps (n - j)) m k
  finish-value k =
      row-value (finish_of ts ps) m (m - 1 - k) k (λ j a b. Number.finish-apart m ts ps many long w.rises final j (omega arith))
      ∙ rows_same rational_operations _ _ (λ j. class (whole ((finish_of ts ps).point j))) (Rows.end_inside rational_operations (rational_knot ts) n) (Rows.end_outside rational_operations (rational_knot ts) n)
      (λ j. rational_coordinate ps (n - j)) m w.degree
      (λ j a. ap (λ (x : ℕ). class (whole_n x)) (outside-is j)
      ∙ difference-class (get_or ts (n + 1 + j) 0) (get_or ts (n + 1) 0) (w.rises (n + 1) (n + 1 + j) (omega arith) (omega (arith, w.size))))
      (λ j. ap (rational_coordinate ps) (omega (arith, w.points))) (m - 1 - k) k
      (λ j a b. ap (λ (x : ℕ). class (whole_n x)) (inside_is j)
      ∙ difference-class (get_or ts (n + 1) 0) (get_or ts (n + 1 - j) 0) (w.rises (n + 1 - j) (n + 1) (omega arith) (omega (arith, w.size))))

  -- every point
  pub number-value : (j : ℕ) → value (clamped_number m ts ps j) ≡ both_points rational_operations (rational_knot ts) (rational_coordinate ps) m n j
  unfolding clamped_number both_points
  number-value j =
      let place : length ps - 1 - j ≡ n - j = omega (arith, w.points) in
      elim (dec_le (j + 2) m) [
        | yes a ↦ rw (le-leb (j + 2) m a) (start-value j)
        | no a ↦ rw (lt-leb (j + 2) m (omega arith), place) (finish-value (n - j))
      ]

  pub number-lower : (j : ℕ) → 0 < (clamped_number m ts ps j).lower
  number-lower = Number.number-lower m ts ps many long w.rises w.first final
