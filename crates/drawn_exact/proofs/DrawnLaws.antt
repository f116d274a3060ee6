-- The pieces of the clamped copy are the exact curve over the spans of the curve.
use mathlib.Core.Bool.{true}
use mathlib.Core.List.{List}
use mathlib.Core.Path.{◌≡◌, refl, sym, ap, ◌∙◌}
use Prim.Native.Nat.{ℕ, ◌+◌, ◌*◌, ◌-◌, ◌≤◌, ◌<◌}
use native.Mathlib.Nat.{mul-le-mul_right, le_trans}
use native.Mathlib.Omega.{arith}
use lib.ListN.{length, get_or, length-map}
use Rattle.refusal.specs.Numbers.{accepted}
use Rattle.curve.specs.Lists.{Lists}
use Rattle.grid.specs.Check.{Passes}
use Rattle.checked.specs.Checked.{Checked, Clamped}
use Rattle.checked.proofs.CheckedLaws.{checked-of-passes}
use Rattle.checked.specs.declared.Axis.{Axis}
use Rattle.checked.specs.declared.Axis.TheVariants.{X, Y}
use Rattle.span.specs.Span.{in_domain}
use Rattle.span.proofs.SentenceLaws.{domain-exactly}
use Rattle.span_walk.specs.SpansMet.{keep, spans_of, non_empty, span_count}
use Rattle.span_walk.proofs.ListedLaws.{map_at, keep-only}
use Rattle.clamping.specs.Clamping.{carriers_from, carriers, clamped}
use Rattle.clamping.proofs.ClampedLaws.{clamped-entries, clamped-passes}
use Rattle.cutting.specs.Cutting.{cut_number}
use Rattle.cutting.specs.Pieces.{piece_count, pieces}
use Rattle.cutting.specs.declared.Piece.{Piece}
use Rattle.cut_whole.specs.Sentences.{span_at, low_at, high_at}
use Rattle.cut_whole.proofs.SentenceLaws.{piece-knots}
use Rattle.fractions.proofs.Rational.{class-of-equals, equals-of-class}
use Rattle.exact.specs.ExactCurve.{exact_at}
use Rattle.pieces_exact.specs.PieceCurve.{axis_of, points_of, BezierIsCurve}
use Rattle.pieces_exact.specs.BezierPoint.{bezier_at}
use Rattle.pieces_exact.proofs.KeptLaws.{axis-same, axis-some}
use Rattle.pieces_exact.proofs.PieceLaws.{piece-is-curve, pieces-meet}
use Rattle.ends_exact.proofs.ClampLaws.{whole-keeps}
use Rattle.svg_out.specs.Svg.{draw_number}
use Rattle.svg_whole.proofs.DrawLaws.{draw-passes, draw-whole}
use Rattle.drawn_exact.specs.Drawn.{DrawnIsCurve}
use Rattle.drawn_exact.proofs.SpanLaws.{knot-moved, spans-moved}

module _ (m : ℕ) (c : Lists) (past : Piece) (none : draw_number m c ≡ accepted) where
  abbrev e : Lists
  e = clamped m c

  passes : Passes m c.knots c.xs c.ys
  passes = draw-passes m c none

  facts : Checked m c.knots c.xs c.ys
  facts = checked-of-passes m c.knots c.xs c.ys passes

  cut-accepted : cut_number m (clamped m c) ≡ accepted
  cut-accepted = (draw-whole m c none).1

  ends : Clamped m (clamped m c).knots (length (clamped m c).xs)
  ends = (clamped-passes m c passes).clamped-ends

  abbrev wide_c : List ℕ
  wide_c = keep (non_empty c.knots) (spans_of m (length c.xs))

  abbrev wide_e : List ℕ
  wide_e = keep (non_empty e.knots) (spans_of m (length e.xs))

  -- as many spans
  same_count : piece_count m c ≡ piece_count m (clamped m c)
  unfolding span_count
  same_count = ap length (spans-moved m c passes) ∙ length-map wide_e (λ j. carriers_from m c + j)

  module _ (k : ℕ) (l : k < piece_count m c) where
    inside-e : k < length wide_e
    unfolding span_count
    inside-e = omega (arith, same_count)

    -- span k of the copy, so many places on, is span k of the curve
    span-is : span_at m c k ≡ carriers_from m c + span_at m (clamped m c) k
    span-is = ap (λ (l : List ℕ). get_or l k 0) (spans-moved m c passes) ∙ map_at (λ j. carriers_from m c + j) wide_e k inside-e

    kept-e : (m ≤ span_at m (clamped m c) k) × (span_at m (clamped m c) k < carriers m c)
    kept-e =
        let s = keep-only (non_empty e.knots) m (length e.xs - m) k inside-e in
        (s.from, omega (arith, s.to, s.from, (clamped-entries m c passes).count-xs))

    low-is : low_at m (clamped m c) k ≡ low_at m c k
    low-is =
        knot-moved m c passes (span_at m (clamped m c) k) kept-e.0 (omega (arith, kept-e.1)) ∙ ap (λ (j : ℕ). get_or c.knots j 0) (sym span-is)

    high_is : high_at m (clamped m c) k ≡ high_at m c k
    high_is =
        let place : carriers_from m c + (span_at m (clamped m c) k + 1) ≡ span_at m c k + 1 = omega (arith, span-is) in
        knot-moved m c passes (span_at m (clamped m c) k + 1) (omega (arith, kept-e.0)) (omega (arith, kept-e.1)) ∙ ap (λ (j : ℕ). get_or c.knots j 0) place

    -- it lies in the domain of the curve
    span-kept : (m ≤ span_at m c k) × (span_at m c k < length c.xs)
    unfolding span_count
    span-kept =
        let s = keep-only (non_empty c.knots) m (length c.xs - m) k l in
        (s.from, omega (arith, s.to, s.from))

    in-domain : (axis : Axis) (p q : ℕ) → low_at m c k * q ≤ p → p ≤ high_at m c k * q → in_domain c.knots m (length (axis_of axis c) - 1) p q ≡ true
    in-domain axis p q from to =
        let some = axis-some axis m c passes in
        let even = axis-even axis in
        let end : length (axis_of axis c) - 1 + 1 ≡ length c.xs = omega (arith, even) in
        let first = facts.rising m (span_at m c k) span-kept.0 (omega (arith, span-kept.1, facts.sizes.knots)) in
        let last = facts.rising (span_at m c k + 1) (length c.xs) (omega (arith, span-kept.1)) (omega (arith, facts.sizes.knots)) in
        (domain-exactly c.knots m (length (axis_of axis c) - 1) p q).1 (le_trans (mul-le-mul_right q first) from, rw end (le_trans to (mul-le-mul_right q last)))
      where
        axis-even : (axis : Axis) → length (axis_of axis c) ≡ length c.xs
        axis-even X = refl
        axis-even Y = facts.sizes.as_many

    more : k < piece_count m (clamped m c)
    more = omega (arith, same_count)

    abbrev piece : Piece
    piece = get_or (pieces m (clamped m c)) k past

    piece-low : piece.low ≡ low_at m c k
    piece-low = (piece-knots m (clamped m c) cut-accepted ends).low k past more ∙ low-is

    piece-high : piece.high ≡ high_at m c k
    piece-high = (piece-knots m (clamped m c) cut-accepted ends).high k past more ∙ high_is

    piece-curve : (axis : Axis) → BezierIsCurve axis m c (get_or (pieces m (clamped m c)) k past)
    piece-curve axis p q above from to =
        let same = axis-same axis m c (clamped m c) (whole-keeps m c passes (draw-whole m c none).0) in
        let inside = in-domain axis p q (rw piece-low at from) (rw piece-high at to) in
        equals-of-class (bezier_at m piece.low piece.high (points_of axis piece) p q) (exact_at m c.knots (axis_of axis c) p q)
        (class-of-equals {a = bezier_at m piece.low piece.high (points_of axis piece) p q} {b = exact_at m e.knots (axis_of axis e) p q}
        (piece-is-curve axis m (clamped m c) k past cut-accepted ends more p q above from to)
        ∙ class-of-equals {a = exact_at m e.knots (axis_of axis e) p q} {b = exact_at m c.knots (axis_of axis c) p q} (same.point p q above inside))

pub drawn-is-curve : DrawnIsCurve
drawn-is-curve m c past none =
    let same = same_count m c past none in
    record {
      count = (piece-knots m (clamped m c) (cut-accepted m c past none) (ends m c past none)).count ∙ sym same;
      low = piece-low m c past none;
      high = piece-high m c past none;
      curve = λ axis k l. piece-curve m c past none k l axis;
      meet = λ k l. pieces-meet m (clamped m c) k past (cut-accepted m c past none) (ends m c past none) (omega (arith, same));
    }
