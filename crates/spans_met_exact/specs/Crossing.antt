-- Every cut is reported (heading "Spans to check"): where some point of an accepted clamp is no further than the cutter's radius from the exact point at any
-- fraction of the domain, some span round this parameter is listed by the words that the list call's contract names.
use Rattle.std.specs.Prelude.{true, List, ◌↔◌, ◌≡◌, ℕ, ◌+◌, ◌-◌, ◌*◌, ◌≤◌, ◌<◌, ℤ, length, get_or}
use Rattle.refusal.specs.Numbers.{accepted}
use Rattle.curve.specs.Lists.{lists}
use Rattle.boxes.specs.Widening.{widened}
use Rattle.boxes.specs.declared.Rectangle.{Rectangle}
use Rattle.algebra.specs.Operations.{sub}
use Rattle.fractions.specs.Fraction.{Fraction, whole, whole_n, sum, product, fraction_operations}
use Rattle.fractions.specs.Order.{AtMost}
use Rattle.exact.specs.ExactCurve.{exact_at}
use Rattle.span.specs.Span.{span_of, in_domain}
use Rattle.span_walk.specs.SpansMet.{spans_met, low_knots, high_knots}
use Rattle.span_walk.specs.SpanLists.{SpanLists}
use Rattle.spans_met.specs.Answer.{list_number}

-- low ≤ a ≤ high, both sides included
pub record Within (low high : ℤ) (a : Fraction) : Type 0 where
  pub above : AtMost (whole low) a
  pub under : AtMost a (whole high)

-- (a - b)²
unfoldable pub squared_gap : Fraction → Fraction → Fraction
squared_gap a b = product (sub fraction_operations a b) (sub fraction_operations a b)

-- some point (u, v) of the clamp, its sides included and its coordinates any fractions, is at most the radius away from the exact point (x, y) at p/q:
-- (x - u)² + (y - v)² ≤ radius²
pub record Reached (clamp : Rectangle) (radius m : ℕ) (ts : List ℕ) (xs ys : List ℤ) (p q : ℕ) : Type 0 where
  pub u : Fraction
  pub v : Fraction
  pub on-x : Within clamp.low_x clamp.high_x u
  pub on-y : Within clamp.low_y clamp.high_y v
  pub near : AtMost (sum (squared_gap (exact_at m ts xs p q) u) (squared_gap (exact_at m ts ys p q) v)) (whole_n (radius * radius))

-- entry k of the list of spans whose boxes meet a rectangle is the span of p/q, its two knots are those of this very span, and they hold p/q: low ≤ p/q ≤ high
pub record ReportedAt (reach : Rectangle) (m : ℕ) (ts : List ℕ) (xs ys : List ℤ) (p q k : ℕ) : Type 0 where
  pub listed : k < length (spans_met reach m ts xs ys)
  pub span : get_or (spans_met reach m ts xs ys) k 0 ≡ span_of ts m (length xs - 1) p q
  pub low : get_or (low_knots ts (spans_met reach m ts xs ys)) k 0 ≡ get_or ts (span_of ts m (length xs - 1) p q) 0
  pub high : get_or (high_knots ts (spans_met reach m ts xs ys)) k 0 ≡ get_or ts (span_of ts m (length xs - 1) p q + 1) 0
  pub starts : get_or (low_knots ts (spans_met reach m ts xs ys)) k 0 * q ≤ p
  pub ends : p ≤ get_or (high_knots ts (spans_met reach m ts xs ys)) k 0 * q

-- whenever the call refuses nothing: every fraction p/q of the domain at which the cutter reaches the clamp is reported
abbrev pub EveryCutReported : Type 0
EveryCutReported =
    (m : ℕ) (ts : List ℕ) (xs ys : List ℤ) (clamp : Rectangle) (radius : ℕ) (lent : SpanLists) (p q : ℕ)
    → list_number m (lists ts xs ys) clamp radius lent ≡ accepted
    → 0 < q
    → in_domain ts m (length xs - 1) p q ≡ true
    → Reached clamp radius m ts xs ys p q
    → (k : ℕ) × ReportedAt (widened radius clamp) m ts xs ys p q k

-- the exact point at p/q lies in the clamp or on its sides
pub record InClamp (clamp : Rectangle) (m : ℕ) (ts : List ℕ) (xs ys : List ℤ) (p q : ℕ) : Type 0 where
  pub x : Within clamp.low_x clamp.high_x (exact_at m ts xs p q)
  pub y : Within clamp.low_y clamp.high_y (exact_at m ts ys p q)

-- a cutter of no width reaches a clamp exactly where the exact point lies in or on it
abbrev pub NoWidthIsThePoint : Type 0
NoWidthIsThePoint =
    (clamp : Rectangle) (m : ℕ) (ts : List ℕ) (xs ys : List ℤ) (p q : ℕ) → Reached clamp 0 m ts xs ys p q ↔ InClamp clamp m ts xs ys p q

-- so with radius 0 the spans whose boxes meet the clamp itself hold every fraction p/q of the domain at which the exact point lies in or on it
abbrev pub EveryCrossingReported : Type 0
EveryCrossingReported =
    (m : ℕ) (ts : List ℕ) (xs ys : List ℤ) (clamp : Rectangle) (lent : SpanLists) (p q : ℕ)
    → list_number m (lists ts xs ys) clamp 0 lent ≡ accepted
    → 0 < q
    → in_domain ts m (length xs - 1) p q ≡ true
    → InClamp clamp m ts xs ys p q
    → (k : ℕ) × ReportedAt clamp m ts xs ys p q k
