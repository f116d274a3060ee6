-- One axis: the clamped part has the exact curve of the whole over its domain, and whole numbers over its knots that have it are its points.
use mathlib.Core.Bool.{true}
use mathlib.Core.List.{List}
use mathlib.Core.Path.{◌≡◌, sym, ap, ◌∙◌}
use Prim.Native.Nat.{ℕ, ◌+◌, ◌-◌, ◌≤◌, ◌<◌}
use native.Mathlib.Omega.{arith}
use lib.IntN.{ℤ, pos}
use lib.ListN.{length, get_or}
use Rattle.algebra.specs.OrderedField.{AtMost, Below}
use Rattle.splines.specs.Triangle.{entry}
use Rattle.splines.proofs.TriangleLaws.{triangle-is-curve}
use Rattle.fractions.specs.Fraction.{whole, whole_n}
use Rattle.fractions.proofs.Rational.{ℚ, class, rational, rational_operations, equals-of-class}
use Rattle.exact.specs.ExactPoint.{exact_coordinate}
use Rattle.exact.specs.ExactCurve.{exact_at}
use Rattle.exact.proofs.ExactLaws.{rational_knot, rational_coordinate, rational_parameter, exact-class}
use Rattle.span.specs.Span.{span_of}
use Rattle.curve.specs.Lists.{NeverFall}
use Rattle.insertion.specs.Insertion.{entries}
use Rattle.insertion.proofs.EntryLaws.{entries-length}
use Rattle.clamping.specs.Clamping.{clamped_knot, clamped_number, is_whole, whole_of, all_whole, clamped_points}
use Rattle.knots_exact.specs.SameCurve.{SameOnAxis}
use Rattle.same_polygon.proofs.AgreeLaws.{WideSpan}
use Rattle.same_polygon.proofs.PointLaws.{same_entries}
use Rattle.ends_exact.proofs.ShareLaws.{value}
use Rattle.ends_exact.proofs.EntryLaws.{entry-moved}
use Rattle.ends_exact.proofs.PartLaws.{clamped-keeps, point-fixed, point-whole}
use Rattle.ends_exact.proofs.MovedLaws.{Axis, PartOf, knot-inside, knot-moved, span-from, span_to, span-back, span-wide, span-is}

module _ (m : ℕ) (degree : m ≤ 3) (ts : List ℕ) (ps : List ℤ) (a : Axis m ts ps) (ks : List ℕ) (rs : List ℤ) (first n : ℕ) (part : PartOf m ts ps ks rs first n) where
  abbrev us : List ℕ
  us = entries (clamped_knot m ks (n + 1)) (length ks)

  -- the exact point as the last entry of its triangle
  exact-last : (vs : List ℕ) (qs : List ℤ) (i p q : ℕ) → m ≤ i → i < length qs
      → class (exact_coordinate vs qs m i p q) ≡ entry rational_operations (rational_knot vs) (rational_coordinate qs) m (rational_parameter p q) m i
  exact-last vs qs i p q from to =
      exact-class vs qs m i p q ∙ sym (triangle-is-curve rational (rational_knot vs) (rational_parameter p q) i (length qs) to (rational_coordinate qs) m from)

  -- the part's triangle is the whole's
  moved : (t : ℚ) (k : ℕ) → m ≤ k → k ≤ n
      → entry rational_operations (rational_knot ks) (rational_coordinate rs) m t m k ≡ entry rational_operations (rational_knot ts) (rational_coordinate ps) m t m (first + k)
  moved t k low high =
      entry-moved rational_operations m t (rational_knot ts) (rational_knot ks) (rational_coordinate ps) (rational_coordinate rs) first k
      (λ j h. ap (λ (x : ℕ). class (whole_n x)) (part.knot j (omega arith)))
      (λ j h. ap (λ (z : ℤ). class (whole z)) (part.point j (omega arith))) low

  -- the ends of the domain
  pub same_start : get_or us m 0 ≡ get_or ts m 0
  same_start = knot-inside m ts ps a ks rs first n part m (omega arith) (omega (arith, part.wide.enough)) ∙ part.start

  pub same_stop : get_or us (n + 1) 0 ≡ get_or ts (length ps) 0
  same_stop = knot-inside m ts ps a ks rs first n part (n + 1) (omega (arith, part.wide.enough)) (omega arith) ∙ part.stop

  pub clamped-same : all_whole (clamped_number m ks rs) (n + 1) ≡ true → SameOnAxis m ts ps us (clamped_points m ks rs)
  clamped-same all =
      let long : length (clamped_points m ks rs) ≡ n + 1 = entries-length (λ j. whole_of (clamped_number m ks rs j)) (length rs) ∙ part.wide.points in
      let top : length (clamped_points m ks rs) - 1 ≡ n = omega arith in
      record {
        start = same_start;
        stop = ap (λ (j : ℕ). get_or us j 0) long ∙ same_stop;
        point = λ p q above inside.
            let low = span-from m ts ps a ks rs first n part p q inside in
            let high = span_to m ts ps a ks rs first n part p q inside in
            let i = span_of ts m (length ps - 1) p q in
            let k = i - first in
            let back : first + k ≡ i = span-back m ts ps a ks rs first n part p q inside in
            let here : span_of us m (length (clamped_points m ks rs) - 1) p q ≡ k = rw top (sym (span-is m ts ps a ks rs first n part p q inside)) in
            let within : first + k < length ps = omega (arith, part.within) in
            equals-of-class (exact_at m us (clamped_points m ks rs) p q) (exact_at m ts ps p q)
            (ap (λ (j : ℕ). class (exact_coordinate us (clamped_points m ks rs) m j p q)) here
            ∙ exact-last us (clamped_points m ks rs) k p q low (omega arith)
            ∙ clamped-keeps m ks rs n part.wide degree all k low high (span-wide m ts ps a ks rs first n part p q inside) (rational_parameter p q)
            ∙ moved (rational_parameter p q) k low high
            ∙ sym (exact-last ts ps (first + k) p q (omega arith) within)
            ∙ ap (λ (j : ℕ). class (exact_coordinate ts ps m j p q)) back);
      }

  -- whole numbers over the clamped knots with the exact curve of the whole
  module _ (rises : NeverFall us) (qs : List ℤ) (many : length qs ≡ n + 1) (same : SameOnAxis m ts ps us qs) (k : ℕ) (low : m ≤ k) (high : k ≤ n) (some : get_or ks k 0 < get_or ks (k + 1) 0) where
    here : get_or us k 0 ≡ get_or ts (first + k) 0
    here = knot-moved m ts ps a ks rs first n part k low (omega arith)

    next : get_or us (k + 1) 0 ≡ get_or ts (first + k + 1) 0
    next =
        let place : first + (k + 1) ≡ first + k + 1 = omega arith in
        knot-moved m ts ps a ks rs first n part (k + 1) (omega arith) (omega arith) ∙ ap (λ (j : ℕ). get_or ts j 0) place

    old-span : WideSpan m ts (length ps) (first + k)
    old-span = record {
      rises = a.rises;
      size = a.size;
      domain = a.domain;
      from = omega arith;
      to = omega (arith, part.within);
      some =
          let place : first + (k + 1) ≡ first + k + 1 = omega arith in
          omega (arith, some, part.knot k (omega arith), part.knot (k + 1) (omega arith) ∙ ap (λ (j : ℕ). get_or ts j 0) place);
    }

    new-span : WideSpan m us (length qs) k
    new-span = record {
      rises = rises;
      size = rw many (entries-length (clamped_knot m ks (n + 1)) (length ks) ∙ part.wide.size);
      domain = rw (many, same_start, same_stop) a.domain;
      from = low;
      to = omega arith;
      some = rw (here, next) old-span.some;
    }

    agree : (t : ℚ) → AtMost rational (rational_knot ks k) t → Below rational t (rational_knot ks (k + 1))
        → entry rational_operations (rational_knot us) (rational_coordinate qs) m t m k ≡ entry rational_operations (rational_knot ks) (rational_coordinate rs) m t m k
    agree t from to =
        let low-is : rational_knot ks k ≡ rational_knot ts (first + k) = ap (λ (x : ℕ). class (whole_n x)) (part.knot k (omega arith)) in
        let place : first + (k + 1) ≡ first + k + 1 = omega arith in
        let high_is : rational_knot ks (k + 1) ≡ rational_knot ts (first + k + 1) =
        ap (λ (x : ℕ). class (whole_n x)) (part.knot (k + 1) (omega arith) ∙ ap (λ (j : ℕ). get_or ts j 0) place) in
        same_entries m ts us ps qs (first + k) k old-span new-span here next same.point t (rw low-is at from) (rw high_is at to) ∙ sym (moved t k low high)

    -- each that carries the span is the clamped number, which so is whole
    pub carrier-fixed : (j : ℕ) → k ≤ j + m → j ≤ k → value (clamped_number m ks rs j) ≡ class (whole (get_or qs j (pos 0)))
    carrier-fixed j = point-fixed m ks rs n part.wide degree qs k low high some agree j

    pub carrier-whole : (j : ℕ) → k ≤ j + m → j ≤ k → is_whole (clamped_number m ks rs j) ≡ true
    carrier-whole j = point-whole m ks rs n part.wide degree qs k low high some agree j
