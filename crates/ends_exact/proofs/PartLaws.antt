-- A curve whose first and last span are not empty, clamped: the triangle on every span stays, and a polygon that keeps it is the clamped one.
use mathlib.Core.Bool.{true}
use mathlib.Core.List.{List}
use mathlib.Core.Path.{◌≡◌, sym, ap, ◌∙◌}
use Prim.Native.Nat.{ℕ, ◌+◌, ◌≤◌, ◌<◌}
use native.Mathlib.Omega.{arith}
use lib.IntN.{ℤ, pos}
use lib.ListN.{length, get_or}
use Rattle.algebra.specs.OrderedField.{AtMost, Below}
use Rattle.splines.specs.Span.{Rising}
use Rattle.splines.specs.Triangle.{entry}
use Rattle.fractions.specs.Fraction.{whole, whole_n}
use Rattle.fractions.proofs.Rational.{ℚ, class, rational, rational_operations}
use Rattle.fractions.proofs.ClassLaws.{whole_n-below}
use Rattle.exact.proofs.ExactLaws.{rational_knot, rational_coordinate}
use Rattle.exact.proofs.SpanLaws.{knots-rising}
use Rattle.span_points.proofs.SpanPointLaws.{span-fixes-points}
use Rattle.end_rows.specs.BothEnds.{both_knots, both_points}
use Rattle.end_rows.specs.Steps.{Spline}
use Rattle.end_rows.proofs.EntryLaws.{entry-same}
use Rattle.end_rows.proofs.BothKnotLaws.{both-knot-inside, both-rising}
use Rattle.end_rows.proofs.BothEndLaws.{both-ends-keep}
use Rattle.end_rows.proofs.StepCurve.{span-stays}
use Rattle.insertion.specs.Insertion.{entries}
use Rattle.insertion.proofs.EntryLaws.{entries_at}
use Rattle.clamping.specs.Clamping.{clamped_knot, clamped_number, is_whole, whole_of, all_whole, clamped_points}
use Rattle.clamping.proofs.WholeLaws.{whole_each}
use Rattle.ends_exact.proofs.ShareLaws.{value, value-of-whole, whole-of-value}
use Rattle.ends_exact.proofs.EndLaws.{WideEnds, knot-class, number-value, number-lower}

module _ (m : ℕ) (ts : List ℕ) (ps : List ℤ) (n : ℕ) (w : WideEnds m ts ps n) (degree : m ≤ 3) where
  abbrev us : List ℕ
  us = entries (clamped_knot m ts (n + 1)) (length ts)

  abbrev spline : Spline rational_operations
  spline = record { knots = rational_knot ts; points = rational_coordinate ps }

  abbrev new_knots : ℕ → ℚ
  new_knots = both_knots rational_operations (rational_knot ts) m n

  abbrev new_points : ℕ → ℚ
  new_points = both_points rational_operations (rational_knot ts) (rational_coordinate ps) m n

  rising : Rising rational (rational_knot ts) (n + m + 1)
  rising = knots-rising ts (n + m + 1) (λ a b h l. w.rises a b h (omega (arith, w.size)))

  -- the clamped knots are those of the theory
  pub knots-are : (j : ℕ) → j < length ts → rational_knot us j ≡ new_knots j
  knots-are j l = ap (λ (x : ℕ). class (whole_n x)) (entries_at (clamped_knot m ts (n + 1)) (length ts) j 0 l) ∙ knot-class m ts ps n w j

  -- a span of the domain that is not empty
  module _ (i : ℕ) (from : m ≤ i) (to : i ≤ n) (some : get_or ts i 0 < get_or ts (i + 1) 0) (t : ℚ) where
    kept : entry rational_operations new_knots new_points m t m i ≡ entry rational_operations (rational_knot ts) (rational_coordinate ps) m t m i
    kept =
        both-ends-keep rational spline m n (n + m + 1) rising w.enough (omega arith) ((whole_n-below (get_or ts m 0) (get_or ts (m + 1) 0)).0 w.first)
        ((whole_n-below (get_or ts n 0) (get_or ts (n + 1) 0)).0 w.final) i from to ((whole_n-below (get_or ts i 0) (get_or ts (i + 1) 0)).0 some) (omega (arith, w.enough)) t

    -- the triangle over the clamped knots, of any numbers that carry the span
    pub over-new : (qs : ℕ → ℚ) → ((j : ℕ) → i ≤ j + m → j ≤ i → qs j ≡ new_points j)
        → entry rational_operations (rational_knot us) qs m t m i ≡ entry rational_operations (rational_knot ts) (rational_coordinate ps) m t m i
    over-new qs same =
        entry-same rational_operations m t (rational_knot us) new_knots qs new_points i from (λ j h. knots-are j (omega (arith, w.size))) same ∙ kept

  -- the clamped points, where all are whole
  module _ (all : all_whole (clamped_number m ts ps) (n + 1) ≡ true) where
    pub points-are : (j : ℕ) → j ≤ n → class (whole (whole_of (clamped_number m ts ps j))) ≡ new_points j
    points-are j l =
        value-of-whole (clamped_number m ts ps j) (number-lower m ts ps n w j) (whole_each (clamped_number m ts ps) (n + 1) all j (omega arith))
        ∙ number-value m ts ps n w j

    pub clamped-keeps : (i : ℕ) → m ≤ i → i ≤ n → get_or ts i 0 < get_or ts (i + 1) 0 → (t : ℚ)
        → entry rational_operations (rational_knot us) (rational_coordinate (clamped_points m ts ps)) m t m i
        ≡ entry rational_operations (rational_knot ts) (rational_coordinate ps) m t m i
    clamped-keeps i from to some t =
        over-new i from to some t (rational_coordinate (clamped_points m ts ps))
        (λ j h l. ap (λ (z : ℤ). class (whole z)) (entries_at (λ k. whole_of (clamped_number m ts ps k)) (length ps) j (pos 0) (omega (arith, w.points))) ∙ points-are j (omega arith))

  -- whole numbers over the clamped knots with the same triangle on a span, its right end left out: they are the clamped ones
  module _ (qs : List ℤ) (i : ℕ) (from : m ≤ i) (to : i ≤ n) (some : get_or ts i 0 < get_or ts (i + 1) 0)
      (same : (t : ℚ) → AtMost rational (rational_knot ts i) t → Below rational t (rational_knot ts (i + 1))
      → entry rational_operations (rational_knot us) (rational_coordinate qs) m t m i ≡ entry rational_operations (rational_knot ts) (rational_coordinate ps) m t m i) where
    here : (j : ℕ) → m ≤ j → j ≤ n + 1 → new_knots j ≡ rational_knot ts j
    here j low high = both-knot-inside rational spline m n w.enough j low high

    numbers-fixed : (j : ℕ) → i ≤ j + m → j ≤ i → rational_coordinate qs j ≡ new_points j
    numbers-fixed j first last =
        span-fixes-points rational new_knots (rational_coordinate qs) new_points m i
        (λ a b h l. both-rising rational spline m n w.enough (n + m + 1) rising (omega arith) a b h (omega arith)) from
        (span-stays rational (rational_knot ts) new_knots i (here i from (omega arith)) (here (i + 1) (omega arith) (omega arith)) ((whole_n-below (get_or ts i 0) (get_or ts (i + 1) 0)).0 some))
        (λ t low high.
        entry-same rational_operations m t new_knots (rational_knot us) (rational_coordinate qs) (rational_coordinate qs) i from (λ a h. sym (knots-are a (omega (arith, w.size)))) (λ a h l. λ k. rational_coordinate qs a)
        ∙ same t (rw (here i from (omega arith)) at low) (rw (here (i + 1) (omega arith) (omega arith)) at high)
        ∙ sym (kept i from to some t)) j first last

    pub point-fixed : (j : ℕ) → i ≤ j + m → j ≤ i → value (clamped_number m ts ps j) ≡ class (whole (get_or qs j (pos 0)))
    point-fixed j first last = number-value m ts ps n w j ∙ sym (numbers-fixed j first last)

    pub point-whole : (j : ℕ) → i ≤ j + m → j ≤ i → is_whole (clamped_number m ts ps j) ≡ true
    point-whole j first last = whole-of-value (clamped_number m ts ps j) (get_or qs j (pos 0)) (number-lower m ts ps n w j) (point-fixed j first last)
