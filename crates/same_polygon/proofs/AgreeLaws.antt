-- Two polygons with the same exact curve agree wherever a span that is not empty is carried.
use mathlib.Core.List.{List}
use mathlib.Core.Path.{◌≡◌, sym, ◌∙◌, ap}
use Prim.Native.Nat.{ℕ, ◌+◌, ◌*◌, ◌-◌, ◌≤◌, ◌<◌}
use native.Mathlib.Decide.{dec_le}
use native.Mathlib.Nat.{mul-le-mul_right, le_trans}
use native.Mathlib.Omega.{arith}
use mathlib.Core.Bool.{true}
use lib.IntN.{ℤ}
use lib.ListN.{length, get_or}
use Rattle.splines.specs.Triangle.{entry}
use Rattle.splines.proofs.TriangleLaws.{triangle-is-curve}
use Rattle.fractions.proofs.Rational.{class, rational, rational_operations}
use Rattle.exact.specs.ExactPoint.{exact_coordinate}
use Rattle.exact.specs.ExactCurve.{exact_at}
use Rattle.exact.proofs.ExactLaws.{rational_knot, rational_coordinate, rational_parameter, exact-class}
use Rattle.span.specs.Span.{IsSpan, span_of, in_domain}
use Rattle.span.proofs.SentenceLaws.{span-exactly, domain-exactly}
use Rattle.curve.specs.Lists.{NeverFall}

-- knots ts of a curve with `count` points, and a span i of its domain that is not empty
pub record WideSpan (m : ℕ) (ts : List ℕ) (count i : ℕ) : Type 0 where
  pub rises : NeverFall ts
  pub size : length ts ≡ count + m + 1
  pub domain : get_or ts m 0 < get_or ts count 0
  pub from : m ≤ i
  pub to : i < count
  pub some : get_or ts i 0 < get_or ts (i + 1) 0

module _ (m : ℕ) (ts : List ℕ) (count i : ℕ) (s : WideSpan m ts count i) (p q : ℕ) (above : 0 < q) (low : get_or ts i 0 * q ≤ p) (high : p < get_or ts (i + 1) 0 * q) where
  -- p/q lies in the domain ..
  pub in-domain : in_domain ts m (count - 1) p q ≡ true
  in-domain =
      let last : count - 1 + 1 ≡ count = omega (arith, s.to) in
      let start = mul-le-mul_right q (s.rises m i s.from (omega (arith, s.size, s.to))) in
      let stop = mul-le-mul_right q (s.rises (i + 1) count (omega (arith, s.to)) (omega (arith, s.size))) in
      (domain-exactly ts m (count - 1) p q).1 (le_trans start low, rw last (omega (arith, stop)))

  -- .. and its span is i
  is-span : IsSpan ts m (count - 1) p q i
  is-span = record {
    from = s.from;
    to = omega (arith, s.to);
    starts = low;
    wide = s.some;
    largest = λ j most early wide.
        elim (dec_le j i) [
          | yes before ↦ before
          | no behind ↦
              let later = mul-le-mul_right q (s.rises (i + 1) j (omega arith) (omega (arith, s.size, s.to))) in
              absurd (omega (arith, later))
        ];
  }

  pub span-is : i ≡ span_of ts m (count - 1) p q
  span-is =
      let last : count - 1 + 1 ≡ count = omega (arith, s.to) in
      let start = mul-le-mul_right q (s.rises m i s.from (omega (arith, s.size, s.to))) in
      (span-exactly ts m (count - 1) p q (omega (arith, s.from, s.to)) (le_trans start low) (rw last s.domain) i).0 is-span

  -- the exact coordinate there is the last entry of the triangle
  pub exact-entry : (ps : List ℤ) → length ps ≡ count
      → class (exact_at m ts ps p q) ≡ entry rational_operations (rational_knot ts) (rational_coordinate ps) m (rational_parameter p q) m i
  exact-entry ps size =
      let here : span_of ts m (length ps - 1) p q ≡ i = rw size (sym span-is) in
      ap (λ (k : ℕ). class (exact_coordinate ts ps m k p q)) here
      ∙ exact-class ts ps m i p q
      ∙ sym (triangle-is-curve rational (rational_knot ts) (rational_parameter p q) i (length ps) (omega (arith, s.to, size)) (rational_coordinate ps) m s.from)
