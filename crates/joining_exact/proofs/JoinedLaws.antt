-- The joined curve with its meeting points is the Hermite cubic of its spline points at every fraction: `thrice-is-hermite`. Left of an interval's
-- right end the span rule gives the interval's own span; at the right end it gives the next one, whose cubic starts where this one ends.
use mathlib.Core.Bool.{true}
use mathlib.Core.List.{List}
use mathlib.Core.Logic.{◌⊎◌, inl, inr}
use mathlib.Core.Path.{◌≡◌, sym, ap, ◌∙◌}
use Prim.Native.Nat.{ℕ, zero, suc, ◌+◌, ◌-◌, ◌*◌, ◌≤◌, ◌<◌}
use native.Mathlib.Nat.{le_antisymm, le_trans, mul-le-mul_right}
use native.Mathlib.Decide.{dec_le}
use native.Mathlib.Omega.{arith}
use lib.IntN.{ℤ, pos}
use lib.ListN.{length, get_or}
use Rattle.span.specs.Span.{IsSpan, span_of}
use Rattle.span.proofs.SpanLaws.{span_of-is, span-unique}
use Rattle.fractions.specs.Fraction.{whole, whole_n, over}
use Rattle.fractions.specs.Order.{Equals}
use Rattle.fractions.proofs.Rational.{ℚ, class, rational, rational_operations, class-of-equals, equals-of-class}
use Rattle.fractions.proofs.ClassLaws.{whole_n-below}
use Rattle.splines.specs.Bezier.{hermite}
use Rattle.exact.specs.ExactCurve.{exact_at}
use Rattle.exact.proofs.ExactLaws.{rational_parameter}
use Rattle.spline_pieces.specs.Pieces.{pieces, all_whole}
use Rattle.spline_pieces.specs.Standing.{Rising}
use Rattle.joined_curve.specs.Curve.{inner_thrice, joined_points}
use Rattle.joined_curve.specs.Sentences.{KnotsOf}
use Rattle.joined_curve.proofs.CurveLaws.{points-length}
use Rattle.joined_curve.proofs.KnotLaws.{joined-knots}
use Rattle.joining.specs.SplinePoints.{SplinePoints}
use Rattle.joining.specs.Answer.{joined_lists}
use Rattle.joining.proofs.StandingLaws.{Joinable}
use Rattle.joining_exact.specs.HermitePoint.{hermite_coordinate}
use Rattle.joining_exact.specs.JoinedCurve.{HermiteOnAxis}
use Rattle.joining_exact.proofs.PassesLaws.{joined-checked}
use Rattle.joining_exact.proofs.HermiteLaws.{hermite-class, span-is-hermite, hermite-start, hermite-end}

-- a parameter that is the whole number s
pub whole-parameter : (s p q : ℕ) → 0 < q → p ≡ s * q → rational_parameter p q ≡ class (whole_n s)
whole-parameter s p (suc q) some e = class-of-equals {a = over (pos p) (suc q)} {b = whole_n s} (ap pos cross)
  where
    less : suc (suc q - 1) ≡ suc q
    less = omega arith

    cross : p * 1 ≡ s * suc (suc q - 1)
    cross = rw less (omega (arith, e))
whole-parameter s p zero some e = absurd (omega arith)

-- what is known of the shared knots `ts` and of one axis
module _ (ss : List ℕ) (ps ds : List ℤ) (rising : Rising ss) (all : all_whole (pieces ss ps ds) ≡ true) (ts : List ℕ)
    (count : length ts ≡ 3 * (length ss - 2) + 8)
    (knots : (k r : ℕ) → k < length ss → r < 3 → get_or ts (3 * k + 1 + r) 0 ≡ get_or ss k 0)
    (ordered : (a b : ℕ) → a ≤ b → b < length ts → get_or ts a 0 ≤ get_or ts b 0)
    (domain : get_or ts 3 0 < get_or ts (length (joined_points inner_thrice (pieces ss ps ds))) 0) where
  abbrev us : List ℤ
  us = joined_points inner_thrice (pieces ss ps ds)

  size : length us ≡ 3 * (length ss - 2) + 4
  size = points-length 3 (omega arith) ss ps ds rising.least

  -- the knots round the span of piece i
  low-knot : (i : ℕ) → suc i < length ss → get_or ts (3 * i + 3) 0 ≡ get_or ss i 0
  low-knot i h =
      let here : 3 * i + 3 ≡ 3 * i + 1 + 2 = omega arith in
      ap (λ j. get_or ts j 0) here ∙ knots i 2 (omega arith) (omega arith)

  high-knot : (i : ℕ) → suc i < length ss → get_or ts (3 * i + 3 + 1) 0 ≡ get_or ss (suc i) 0
  high-knot i h =
      let here : 3 * i + 3 + 1 ≡ 3 * suc i + 1 + 0 = omega arith in
      ap (λ j. get_or ts j 0) here ∙ knots (suc i) 0 h (omega arith)

  module _ (i p q : ℕ) (inside : suc i < length ss) (from : get_or ss i 0 * q ≤ p) (open-end : (p < get_or ss (suc i) 0 * q) ⊎ (suc (suc i) ≡ length ss)) where
    -- no later index begins a span at or before p/q
    none-later : (k : ℕ) → k ≤ length us - 1 → get_or ts k 0 * q ≤ p → (p < get_or ss (suc i) 0 * q) ⊎ (suc (suc i) ≡ length ss) → k ≤ 3 * i + 3
    none-later k most early (inr end) = omega (arith, size)
    none-later k most early (inl below) = by (dec_le k (3 * i + 3))
      where
        by : Dec (k ≤ 3 * i + 3) → k ≤ 3 * i + 3
        by (yes h) = h
        by (no h) =
            let later : get_or ts (3 * i + 3 + 1) 0 ≤ get_or ts k 0 = ordered (3 * i + 3 + 1) k (omega arith) (omega (arith, size, count, rising.least)) in
            let far : get_or ss (suc i) 0 * q ≤ get_or ts k 0 * q = mul-le-mul_right q (rw (high-knot i inside) at later) in
            absurd (omega arith)

    is-span : IsSpan ts 3 (length us - 1) p q (3 * i + 3)
    is-span =
        record {
          from = omega arith;
          to = omega (arith, size);
          starts = rw (low-knot i inside) from;
          wide = rw (low-knot i inside, high-knot i inside) (rising.rises i inside);
          largest = λ k most early wide. none-later k most early open-end;
        }

    span-is : span_of ts 3 (length us - 1) p q ≡ 3 * i + 3
    span-is =
        let first : get_or ts 3 0 ≤ get_or ss i 0 = rw (low-knot i inside) at (ordered 3 (3 * i + 3) (omega arith) (omega (arith, count))) in
        let end : length us - 1 + 1 ≡ length us = omega (arith, size, rising.least) in
        span-unique ts 3 (length us - 1) p q (span_of ts 3 (length us - 1) p q) (3 * i + 3)
        (span_of-is ts 3 (length us - 1) p q (omega (arith, size, rising.least)) (le_trans (mul-le-mul_right q first) from) (rw end domain)) is-span

    own-span : Equals (exact_at 3 ts us p q) (hermite_coordinate ss ps ds i p q)
    own-span = rw span-is (span-is-hermite ss ps ds rising all i (omega arith) p q ts knots)

  -- where two intervals meet, both cubics are at the meeting point
  meet : (i p q : ℕ) → suc (suc i) < length ss → 0 < q → p ≡ get_or ss (suc i) 0 * q → class (hermite_coordinate ss ps ds (suc i) p q) ≡ class (hermite_coordinate ss ps ds i p q)
  meet i p q h some e =
      let at = whole-parameter (get_or ss (suc i) 0) p q some e in
      let a = class (whole_n (get_or ss i 0)) in
      let b = class (whole_n (get_or ss (suc i) 0)) in
      let c = class (whole_n (get_or ss (suc (suc i)) 0)) in
      let point : ℕ → ℚ = λ k. class (whole (get_or ps k (pos 0))) in
      let tangent : ℕ → ℚ = λ k. class (whole (get_or ds k (pos 0))) in
      hermite-class ss ps ds (suc i) p q
      ∙ ap (λ t. hermite rational_operations b c (point (suc i)) (point (suc (suc i))) (tangent (suc i)) (tangent (suc (suc i))) t) at
      ∙ hermite-start rational b c (point (suc i)) (point (suc (suc i))) (tangent (suc i)) (tangent (suc (suc i)))
      ∙ sym (hermite-class ss ps ds i p q
      ∙ ap (λ t. hermite rational_operations a b (point i) (point (suc i)) (tangent i) (tangent (suc i)) t) at
      ∙ hermite-end rational a b (point i) (point (suc i)) (tangent i) (tangent (suc i)) ((whole_n-below (get_or ss i 0) (get_or ss (suc i) 0)).0 (rising.rises i (omega arith))))

  axis-is-hermite : HermiteOnAxis ts us ss ps ds
  axis-is-hermite i p q inside some from to = by (dec_le (get_or ss (suc i) 0 * q) p) (dec_le (length ss) (suc (suc i)))
    where
      by : Dec (get_or ss (suc i) 0 * q ≤ p) → Dec (length ss ≤ suc (suc i)) → Equals (exact_at 3 ts us p q) (hermite_coordinate ss ps ds i p q)
      by (no h) d = own-span i p q inside from (inl (omega arith))
      by (yes h) (yes end) = own-span i p q inside from (inr (omega arith))
      by (yes h) (no more) =
          let at : p ≡ get_or ss (suc i) 0 * q = le_antisymm to h in
          let room : suc (suc i) < length ss = omega arith in
          let next = own-span (suc i) p q room h (inl (later p q h at room some)) in
          equals-of-class (exact_at 3 ts us p q) (hermite_coordinate ss ps ds i p q)
          (class-of-equals {a = exact_at 3 ts us p q} {b = hermite_coordinate ss ps ds (suc i) p q} next ∙ meet i p q room some at)
        where
          later : (p q : ℕ) → get_or ss (suc i) 0 * q ≤ p → p ≡ get_or ss (suc i) 0 * q → suc (suc i) < length ss → 0 < q → p < get_or ss (suc (suc i)) 0 * q
          later p q h at room some = omega (arith, mul-le-mul_right q (rising.rises (suc i) room))

-- three times: parameter k stands at 3·k + 1 to 3·k + 3
thrice-at : (ss ts : List ℕ) → 2 ≤ length ss → KnotsOf inner_thrice ss ts → (k r : ℕ) → k < length ss → r < 3 → get_or ts (3 * k + 1 + r) 0 ≡ get_or ss k 0
thrice-at ss ts some knots zero r h few =
    let here : 3 * zero + 1 + r ≡ suc r = omega arith in
    ap (λ j. get_or ts j 0) here ∙ knots.first (suc r) (omega arith)
thrice-at ss ts some knots (suc i) r h few = by (dec_le (length ss) (suc (suc i)))
  where
    by : Dec (length ss ≤ suc (suc i)) → get_or ts (3 * suc i + 1 + r) 0 ≡ get_or ss (suc i) 0
    by (no more) =
        let here : 3 * suc i + 1 + r ≡ 3 * i + 4 + r = omega arith in
        ap (λ j. get_or ts j 0) here ∙ knots.inside i r (omega arith) few
    by (yes last) =
        let here : 3 * suc i + 1 + r ≡ 3 * (length ss - 2) + 4 + r = omega arith in
        let end : length ss - 1 ≡ suc i = omega arith in
        ap (λ j. get_or ts j 0) here ∙ knots.last r (omega arith) ∙ ap (λ j. get_or ss j 0) end

module _ (s : SplinePoints) (known : Joinable s) where
  pub thrice-is-hermite : HermiteOnAxis (joined_lists inner_thrice s).knots (joined_lists inner_thrice s).xs s.params s.xs s.dxs
      × HermiteOnAxis (joined_lists inner_thrice s).knots (joined_lists inner_thrice s).ys s.params s.ys s.dys
  thrice-is-hermite =
      let ss = s.params in
      let rising = known.standing.x-axis.rising in
      let checked = joined-checked 3 (omega arith, omega arith) s known in
      let knots = joined-knots 3 ss s.xs s.dxs rising.least in
      let at = thrice-at ss (joined_lists inner_thrice s).knots rising.least knots in (
        axis-is-hermite ss s.xs s.dxs rising known.whole.0 (joined_lists inner_thrice s).knots knots.count at checked.rising checked.domain,
        axis-is-hermite ss s.ys s.dys rising known.whole.1 (joined_lists inner_thrice s).knots knots.count at checked.rising
            (rw (← checked.sizes.as_many) at checked.domain),
      )
