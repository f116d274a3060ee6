-- A parameter of the domain of a checked curve lies in its span, as the theory of the exact point asks: `domain-span`, `domain-carried`.
use mathlib.Core.Bool.{true}
use mathlib.Core.List.{List}
use mathlib.Core.Path.{◌≡◌}
use Prim.Native.Nat.{ℕ, zero, ◌+◌, ◌-◌, ◌<◌}
use native.Mathlib.Omega.{arith}
use lib.IntN.{ℤ}
use lib.ListN.{length}
use Rattle.checked.specs.Checked.{Checked}
use Rattle.span.specs.Span.{span_of, in_domain, IsSpan}
use Rattle.span.proofs.SpanLaws.{span_of-is, span-holds, in_domain-says}
use Rattle.exact.proofs.HullLaws.{Carried}

module _ (m : ℕ) (ts : List ℕ) (xs ys : List ℤ) (c : Checked m ts xs ys) where
  -- the number of points is one more than the last index
  last-point : length xs - 1 + 1 ≡ length xs
  last-point = omega (arith, c.sizes.enough)

  -- the search finds the span of every parameter of the domain
  pub domain-span : (p q : ℕ) → in_domain ts m (length xs - 1) p q ≡ true → IsSpan ts m (length xs - 1) p q (span_of ts m (length xs - 1) p q)
  domain-span p q inside =
      span_of-is ts m (length xs - 1) p q (omega (arith, c.sizes.enough)) (in_domain-says ts m (length xs - 1) p q inside).0 (rw last-point c.domain)

  -- that span carries the exact point, on either axis
  pub domain-carried : (ps : List ℤ) → length ps ≡ length xs → (p q : ℕ) → zero < q → in_domain ts m (length xs - 1) p q ≡ true → Carried ts ps m (span_of ts m (length xs - 1) p q) p q
  domain-carried ps same p q above inside =
      let s = domain-span p q inside in
      let h = span-holds ts m (length xs - 1) p q (span_of ts m (length xs - 1) p q) s (in_domain-says ts m (length xs - 1) p q inside).1 in
      record {
        rises = λ a b l k. c.rising a b l (omega (arith, c.sizes.knots, s.to, last-point));
        above = above;
        starts = h.0;
        ends = h.1;
        some = s.wide;
        from = s.from;
        inside = rw same (omega (arith, s.to, last-point));
      }
