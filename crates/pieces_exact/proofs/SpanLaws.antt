-- The cut curve on the span of piece k, which has the index k·m + m: m equal knots stand on either side of it, so the curve is there the Bezier curve
-- of the points k·m to k·m + m. Left of the piece's high knot, and at the right end of the domain, the span rule gives this span: `own-span`.
use mathlib.Core.List.{List}
use mathlib.Core.Logic.{◌⊎◌, inl, inr}
use mathlib.Core.Path.{◌≡◌, sym, ap, ◌∙◌}
use Prim.Native.Nat.{ℕ, suc, ◌+◌, ◌-◌, ◌*◌, ◌≤◌, ◌<◌}
use native.Mathlib.Decide.{dec_le}
use native.Mathlib.Nat.{le_trans, mul-le-mul_right, suc-mul}
use native.Mathlib.Omega.{arith}
use lib.IntN.{ℤ}
use lib.ListN.{length, get_or}
use Rattle.refusal.specs.Numbers.{accepted}
use Rattle.curve.specs.Lists.{Lists}
use Rattle.checked.specs.declared.Axis.{Axis}
use Rattle.checked.specs.Checked.{Checked, Clamped}
use Rattle.checked.proofs.CheckedLaws.{checked-of-passes}
use Rattle.span.specs.Span.{IsSpan, span_of}
use Rattle.span.proofs.SentenceLaws.{span-exactly}
use Rattle.fractions.specs.Fraction.{whole, whole_n}
use Rattle.fractions.specs.Order.{Equals}
use Rattle.fractions.proofs.Rational.{class, rational, rational_operations, equals-of-class}
use Rattle.splines.proofs.BezierLaws.{casteljau-same, span-is-casteljau}
use Rattle.exact.specs.ExactPoint.{exact_coordinate}
use Rattle.exact.specs.ExactCurve.{exact_at}
use Rattle.exact.proofs.ExactLaws.{rational_knot, rational_coordinate, rational_parameter, exact-class}
use Rattle.insertion.specs.Insertion.{point_at}
use Rattle.cutting.specs.Cutting.{cut, cut_number}
use Rattle.cutting.specs.Pieces.{piece_count}
use Rattle.cut_whole.specs.Sentences.{low_at, high_at, SpansInOrder}
use Rattle.cut_whole.proofs.KnotLaws.{low-knot, high-knot}
use Rattle.cut_whole.proofs.SentenceLaws.{cut-passes, cut-sizes, cut-knots, spans-follow}
use Rattle.pieces_exact.specs.BezierPoint.{bezier_at}
use Rattle.pieces_exact.specs.PieceCurve.{axis_of}
use Rattle.pieces_exact.proofs.BezierLaws.{bezier-class}
use Rattle.pieces_exact.proofs.KeptLaws.{axis-count}

module _ (m : ℕ) (c : Lists) (h : cut_number m c ≡ accepted) (clamped : Clamped m c.knots (length c.xs)) where
  abbrev ks : List ℕ
  ks = (cut m c).knots

  pub known : Checked m (cut m c).knots (cut m c).xs (cut m c).ys
  known = checked-of-passes m (cut m c).knots (cut m c).xs (cut m c).ys (cut-passes m c h).cut-passes

  pub order : SpansInOrder m c
  order = spans-follow m c (cut-passes m c h).passes

  -- up to the end of piece k there are at most as many points as the curve has
  pub ends-within : (k : ℕ) → k < piece_count m c → k * m + m ≤ piece_count m c * m
  ends-within k l = rw (suc-mul k m) at (mul-le-mul_right m l)

  -- the m knots on either side of the span
  starts : (k : ℕ) → k < piece_count m c → (j : ℕ) → j ≤ k * m + m → k * m + m < j + m → rational_knot ks j ≡ class (whole_n (low_at m c k))
  starts k l j low high =
      let place : j ≡ k * m + 1 + (j - (k * m + 1)) = omega arith in
      ap (λ i. rational_knot ks i) place ∙ ap (λ v. class (whole_n v)) ((cut-knots m c h clamped).low k (j - (k * m + 1)) l (omega arith))

  ends : (k : ℕ) → k < piece_count m c → (j : ℕ) → k * m + m < j → j ≤ k * m + m + m → rational_knot ks j ≡ class (whole_n (high_at m c k))
  ends k l j low high =
      let place : j ≡ k * m + m + 1 + (j - (k * m + m + 1)) = omega arith in
      ap (λ i. rational_knot ks i) place ∙ ap (λ v. class (whole_n v)) ((cut-knots m c h clamped).high k (j - (k * m + m + 1)) l (omega arith))

  -- n is the last point's index; p/q lies from the piece's low knot on, and left of its high knot unless it is the last piece
  module _ (n k p q : ℕ) (last : n ≡ piece_count m c * m) (l : k < piece_count m c) (from : low_at m c k * q ≤ p)
      (open-end : (p < high_at m c k * q) ⊎ (suc k ≡ piece_count m c)) where
    none-later : (j : ℕ) → j ≤ n → get_or ks j 0 * q ≤ p → (p < high_at m c k * q) ⊎ (suc k ≡ piece_count m c) → j ≤ k * m + m
    none-later j most early (inr end) =
        let whole : suc k * m ≡ piece_count m c * m = ap (λ i. i * m) end in
        omega (arith, suc-mul k m)
    none-later j most early (inl below) =
        elim (dec_le j (k * m + m)) [
          | yes i ↦ i
          | no i ↦
              let inside : j < length ks = omega (arith, (cut-sizes m c h clamped).knots) in
              let later = known.rising (k * m + m + 1) j (omega arith) inside in
              let far : high_at m c k * q ≤ get_or ks j 0 * q = mul-le-mul_right q (rw (high-knot m c h clamped k l) at later) in
              absurd (omega arith)
        ]

    is-span : IsSpan ks m n p q (k * m + m)
    is-span = record {
      from = omega arith;
      to = omega (arith, ends-within k l);
      starts = rw (low-knot m c h clamped k l) from;
      wide = rw (low-knot m c h clamped k l, high-knot m c h clamped k l) (order.wide k l);
      largest = λ j most early wide. none-later j most early open-end;
    }

    pub span-is : k * m + m ≡ span_of ks m n p q
    span-is =
        let within = ends-within k l in
        let inside : k * m + m < length ks = omega (arith, (cut-sizes m c h clamped).knots) in
        let first : get_or ks m 0 ≤ low_at m c k = rw (low-knot m c h clamped k l) at (known.rising m (k * m + m) (omega arith) inside) in
        let end : n + 1 ≡ length (cut m c).xs = omega (arith, (cut-sizes m c h clamped).xs) in
        (span-exactly ks m n p q (omega arith) (le_trans (mul-le-mul_right q first) from) (rw end known.domain) (k * m + m)).0 is-span

  -- ps are the points of the piece on the asked axis
  module _ (axis : Axis) (k p q : ℕ) (ps : List ℤ) (l : k < piece_count m c) (from : low_at m c k * q ≤ p)
      (open-end : (p < high_at m c k * q) ⊎ (suc k ≡ piece_count m c))
      (points : (a : ℕ) → a ≤ m → point_at ps a ≡ point_at (axis_of axis (cut m c)) (k * m + a)) where
    abbrev us : List ℤ
    us = axis_of axis (cut m c)

    pub own-span : Equals (bezier_at m (low_at m c k) (high_at m c k) ps p q) (exact_at m ks us p q)
    own-span =
        let a = class (whole_n (low_at m c k)) in
        let b = class (whole_n (high_at m c k)) in
        let t = rational_parameter p q in
        let size = axis-count axis m c h clamped in
        let within = ends-within k l in
        let here = span-is (length us - 1) k p q (omega arith) l from open-end in
        equals-of-class (bezier_at m (low_at m c k) (high_at m c k) ps p q) (exact_at m ks us p q)
        (bezier-class m (low_at m c k) (high_at m c k) ps p q
        ∙ casteljau-same rational_operations a b (rational_coordinate us) (rational_coordinate ps) t (k * m) m
        (λ j i. ap (λ z. class (whole z)) (points j i)) m m (omega arith) (omega arith)
        ∙ sym (span-is-casteljau rational (rational_knot ks) (rational_coordinate us) (k * m + m) m a b t (omega arith) (starts k l) (ends k l) (length us) (omega arith))
        ∙ sym (exact-class ks us m (k * m + m) p q)
        ∙ ap (λ i. class (exact_coordinate ks us m i p q)) here)
