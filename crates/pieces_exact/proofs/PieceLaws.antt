-- The pieces of a curve are the curve: `piece-is-curve`; they meet and cover the domain: `pieces-meet`, `pieces-cover-domain`. At a piece's high knot
-- the span rule gives the next piece's span: there both pieces have their common point.
use mathlib.Core.Bool.{true}
use mathlib.Core.List.{List}
use mathlib.Core.Logic.{inl, inr}
use mathlib.Core.Path.{◌≡◌, sym, ap, ◌∙◌}
use Prim.Native.Nat.{ℕ, suc, ◌+◌, ◌-◌, ◌*◌, ◌≤◌, ◌<◌}
use native.Mathlib.Decide.{dec_le, ℕ_discrete}
use native.Mathlib.Nat.{le_trans, mul-le-mul_right, suc-mul}
use native.Mathlib.Numerals.{add-one}
use native.Mathlib.Omega.{arith}
use lib.IntN.{ℤ}
use lib.ListN.{length, get_or}
use Rattle.refusal.specs.Numbers.{accepted}
use Rattle.curve.specs.Lists.{Lists}
use Rattle.checked.specs.declared.Axis.{Axis}
use Rattle.checked.specs.Checked.{Clamped}
use Rattle.span.specs.Span.{in_domain}
use Rattle.span.proofs.SentenceLaws.{domain-exactly}
use Rattle.fractions.specs.Fraction.{Fraction, whole}
use Rattle.fractions.specs.Order.{Equals}
use Rattle.fractions.proofs.Rational.{class, class-of-equals, equals-of-class}
use Rattle.exact.specs.ExactCurve.{exact_at}
use Rattle.insertion.specs.Insertion.{point_at}
use Rattle.cutting.specs.Cutting.{cut, cut_number}
use Rattle.cutting.specs.Pieces.{piece_count, pieces}
use Rattle.cutting.specs.declared.Piece.{Piece}
use Rattle.cut_whole.specs.Sentences.{low_at, high_at}
use Rattle.cut_whole.proofs.KnotLaws.{low-knot, high-knot}
use Rattle.cut_whole.proofs.SentenceLaws.{cut-passes, cut-sizes, piece-knots}
use Rattle.pieces_exact.specs.BezierPoint.{bezier_at}
use Rattle.pieces_exact.specs.PieceCurve.{axis_of, points_of, PieceIsCurve, PiecesMeet, PiecesCoverDomain}
use Rattle.pieces_exact.proofs.BezierLaws.{bezier-start, bezier-end}
use Rattle.pieces_exact.proofs.PointLaws.{piece-points}
use Rattle.pieces_exact.proofs.KeptLaws.{cut-keeps-curve, axis-same, axis-count, axis-some}
use Rattle.pieces_exact.proofs.SpanLaws.{known, order, ends-within, own-span}

module _ (m : ℕ) (c : Lists) (past : Piece) (h : cut_number m c ≡ accepted) (clamped : Clamped m c.knots (length c.xs)) where
  abbrev count : ℕ
  count = piece_count m c

  -- the last point of a piece is the first of the next
  common-point : (axis : Axis) (k : ℕ) → k + 1 < count → point_at (points_of axis (get_or (pieces m c) k past)) m ≡ point_at (points_of axis (get_or (pieces m c) (k + 1) past)) 0
  common-point axis k l =
      let place : k * m + m ≡ (k + 1) * m + 0 = rw (add-one k, suc-mul k m) (omega arith) in
      (piece-points axis m c k past h (omega arith)).used m (omega arith)
      ∙ ap (λ j. point_at (axis_of axis (cut m c)) j) place
      ∙ sym ((piece-points axis m c (k + 1) past h l).used 0 (omega arith))

  module _ (axis : Axis) where
    abbrev us : List ℤ
    us = axis_of axis (cut m c)

    abbrev ps : ℕ → List ℤ
    ps k = points_of axis (get_or (pieces m c) k past)

    abbrev bezier : ℕ → ℕ → ℕ → Fraction
    bezier k p q = bezier_at m (low_at m c k) (high_at m c k) (points_of axis (get_or (pieces m c) k past)) p q

    -- where two pieces meet, both are at their common point
    meet : (k p q : ℕ) → k + 1 < count → 0 < q → p ≡ high_at m c k * q → class (bezier k p q) ≡ class (bezier (k + 1) p q)
    meet k p q l above at =
        let next : p ≡ low_at m c (k + 1) * q = at ∙ ap (λ v. v * q) ((order m c h clamped).meet k l) in
        bezier-end m (low_at m c k) (high_at m c k) (ps k) p q above ((order m c h clamped).wide k (omega arith)) at
        ∙ ap (λ z. class (whole z)) (common-point axis k l)
        ∙ sym (bezier-start m (low_at m c (k + 1)) (high_at m c (k + 1)) (ps (k + 1)) p q above ((order m c h clamped).wide (k + 1) l) next)

    -- over its whole interval a piece is the cut curve
    piece-is-cut : (k p q : ℕ) → k < count → 0 < q → low_at m c k * q ≤ p → p ≤ high_at m c k * q → Equals (bezier k p q) (exact_at m (cut m c).knots us p q)
    piece-is-cut k p q l above from to = by (dec_le (high_at m c k * q) p) (ℕ_discrete (suc k) count)
      where
        by : Dec (high_at m c k * q ≤ p) → Dec (suc k ≡ count) → Equals (bezier k p q) (exact_at m (cut m c).knots us p q)
        by (no left) last = own-span m c h clamped axis k p q (ps k) l from (inl (omega arith)) (piece-points axis m c k past h l).used
        by (yes end) (yes last) = own-span m c h clamped axis k p q (ps k) l from (inr last) (piece-points axis m c k past h l).used
        by (yes end) (no more) =
            let room : k + 1 < count = omega arith in
            let at : p ≡ high_at m c k * q = omega arith in
            let same : high_at m c k * q ≡ low_at m c (k + 1) * q = ap (λ v. v * q) ((order m c h clamped).meet k room) in
            let start : low_at m c (k + 1) * q ≤ p = omega arith in
            let later : p < high_at m c (k + 1) * q =
            omega (arith, mul-le-mul_right q ((order m c h clamped).wide (k + 1) room), suc-mul (low_at m c (k + 1)) q) in
            equals-of-class (bezier k p q) (exact_at m (cut m c).knots us p q)
            (meet k p q room above at
            ∙ class-of-equals {a = bezier (k + 1) p q} {b = exact_at m (cut m c).knots us p q}
            (own-span m c h clamped axis (k + 1) p q (ps (k + 1)) room start (inl later) (piece-points axis m c (k + 1) past h room).used))

    -- its interval lies in the domain
    in-domain : (k p q : ℕ) → k < count → low_at m c k * q ≤ p → p ≤ high_at m c k * q → in_domain c.knots m (length (axis_of axis c) - 1) p q ≡ true
    in-domain k p q l from to =
        let same = axis-same axis m c (cut m c) (cut-keeps-curve m c h).1 in
        let some = axis-some axis m c (cut-passes m c h).passes in
        let end : length (axis_of axis c) - 1 + 1 ≡ length (axis_of axis c) = omega arith in
        let size = axis-count axis m c h clamped in
        let within = ends-within m c h clamped k l in
        let many = (cut-sizes m c h clamped).knots in
        let first : get_or (cut m c).knots m 0 ≤ low_at m c k = rw (low-knot m c h clamped k l) at ((known m c h clamped).rising m (k * m + m) (omega arith) (omega arith)) in
        let last : high_at m c k ≤ get_or (cut m c).knots (length us) 0 = rw (high-knot m c h clamped k l) at ((known m c h clamped).rising (k * m + m + 1) (length us) (omega arith) (omega arith)) in
        (domain-exactly c.knots m (length (axis_of axis c) - 1) p q).1 (
          le_trans (mul-le-mul_right q (rw same.start at first)) from,
          rw end (le_trans to (mul-le-mul_right q (rw same.stop at last))),
        )

    -- ... so it is the curve itself
    piece-is-old : (k p q : ℕ) → k < count → 0 < q → low_at m c k * q ≤ p → p ≤ high_at m c k * q → Equals (bezier k p q) (exact_at m c.knots (axis_of axis c) p q)
    piece-is-old k p q l above from to =
        let same = axis-same axis m c (cut m c) (cut-keeps-curve m c h).1 in
        equals-of-class (bezier k p q) (exact_at m c.knots (axis_of axis c) p q)
        (class-of-equals {a = bezier k p q} {b = exact_at m (cut m c).knots us p q} (piece-is-cut k p q l above from to)
        ∙ class-of-equals {a = exact_at m (cut m c).knots us p q} {b = exact_at m c.knots (axis_of axis c) p q} (same.point p q above (in-domain k p q l from to)))

pub piece-is-curve : PieceIsCurve
piece-is-curve axis m c k past h clamped l p q above from to =
    let knots = piece-knots m c h clamped in
    let end : p ≤ high_at m c k * q = omega (arith, rw (knots.high k past l) at to) in
    rw (knots.low k past l, knots.high k past l) (piece-is-old m c past h clamped axis k p q l above (rw (knots.low k past l) at from) end)

pub pieces-meet : PiecesMeet
pieces-meet m c k past h clamped l =
    let knots = piece-knots m c h clamped in
    record {
      knot = knots.high k past (omega arith) ∙ (order m c h clamped).meet k l ∙ sym (knots.low (k + 1) past l);
      point = λ axis. common-point m c past h clamped axis k l;
    }

pub pieces-cover-domain : PiecesCoverDomain
pieces-cover-domain m c past h clamped =
    let knots = piece-knots m c h clamped in
    let some = (order m c h clamped).some in
    record {
      some = rw knots.count some;
      count = knots.count;
      wide = λ k l. let i = rw knots.count at l in rw (knots.low k past i, knots.high k past i) ((order m c h clamped).wide k i);
      start = knots.low 0 past (omega arith) ∙ (order m c h clamped).start;
      stop = rw knots.count (knots.high (piece_count m c - 1) past (omega arith) ∙ (order m c h clamped).stop);
    }
