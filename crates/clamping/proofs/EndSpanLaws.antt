-- The first and the last span of the domain that are not empty: where they lie, and the knots up to the one and behind the other.
use mathlib.Core.Path.{◌≡◌}
use Prim.Native.Nat.{ℕ, ◌+◌, ◌-◌, ◌≤◌, ◌<◌}
use native.Mathlib.Omega.{arith}
use lib.ListN.{length, get_or}
use Rattle.curve.specs.Lists.{Lists}
use Rattle.checked.specs.Checked.{Checked}
use Rattle.span.specs.Span.{IsSpan, span_of}
use Rattle.span.proofs.SpanLaws.{span_of-is, span-holds}
use Rattle.clamping.specs.Clamping.{first_span, last_span}

-- i and j are these two: the knots from t_m to t_i are t_m, those from t_{j+1} to t_{n+1} are t_{n+1}
pub record EndSpans (m : ℕ) (c : Lists) (i j : ℕ) : Type 0 where
  pub from : m ≤ i
  pub order : i ≤ j
  pub to : j < length c.xs
  pub starts : (k : ℕ) → m ≤ k → k ≤ i → get_or c.knots k 0 ≡ get_or c.knots m 0
  pub stops : (k : ℕ) → j < k → k ≤ length c.xs → get_or c.knots k 0 ≡ get_or c.knots (length c.xs) 0
  pub first-wide : get_or c.knots m 0 < get_or c.knots (i + 1) 0
  pub last-wide : get_or c.knots j 0 < get_or c.knots (length c.xs) 0

module _ (m : ℕ) (c : Lists) (h : Checked m c.knots c.xs c.ys) where
  past : length c.xs - 1 + 1 ≡ length c.xs
  past = omega (arith, h.sizes.enough)

  -- the span of a value from t_m on, by the span rule
  found : (p : ℕ) → get_or c.knots m 0 ≤ p → IsSpan c.knots m (length c.xs - 1) p 1 (span_of c.knots m (length c.xs - 1) p 1)
  found p low = span_of-is c.knots m (length c.xs - 1) p 1 (omega (arith, h.sizes.enough)) (omega arith) (rw past h.domain)

  module _ (i j : ℕ) (first : IsSpan c.knots m (length c.xs - 1) (get_or c.knots m 0) 1 i)
      (last : IsSpan c.knots m (length c.xs - 1) (get_or c.knots (length c.xs) 0) 1 j) where
    rises : (a b : ℕ) → a ≤ b → b ≤ length c.xs → get_or c.knots a 0 ≤ get_or c.knots b 0
    rises a b l u = h.rising a b l (omega (arith, h.sizes.knots))

    at-start : (k : ℕ) → m ≤ k → k ≤ i → get_or c.knots k 0 ≡ get_or c.knots m 0
    at-start k l u =
        omega (arith, rises m k l (omega (arith, first.to, past)), rises k i u (omega (arith, first.to, past)), first.starts)

    at-end : (k : ℕ) → j < k → k ≤ length c.xs → get_or c.knots k 0 ≡ get_or c.knots (length c.xs) 0
    at-end k l u =
        let holds = (span-holds c.knots m (length c.xs - 1) (get_or c.knots (length c.xs) 0) 1 j last (rw past (omega arith))).1 in
        omega (arith, holds, rises (j + 1) k (omega arith) u, rises k (length c.xs) u (omega arith))

    spans-are : EndSpans m c i j
    spans-are =
        let start = at-start i first.from (omega arith) in
        let stop = at-end (j + 1) (omega arith) (omega (arith, last.to, past)) in
        record {
          from = first.from;
          order = last.largest i first.to (omega (arith, start, h.domain)) first.wide;
          to = omega (arith, last.to, past);
          starts = at-start;
          stops = at-end;
          first-wide = omega (arith, first.wide, start);
          last-wide = omega (arith, last.wide, stop);
        }

  pub end-spans : EndSpans m c (first_span m c) (last_span m c)
  end-spans =
      spans-are (first_span m c) (last_span m c) (found (get_or c.knots m 0) (omega arith)) (found (get_or c.knots (length c.xs) 0) (omega (arith, h.domain)))
