-- Inserting a knot keeps the exact curve on one axis, and so on both.
use mathlib.Core.Bool.{true, and-eq-true_iff}
use mathlib.Core.List.{List}
use mathlib.Core.Path.{◌≡◌, sym, ap, subst, ◌∙◌}
use Prim.Native.Nat.{ℕ, zero, suc, ◌+◌, ◌-◌, ◌≤◌, ◌<◌}
use native.Mathlib.Omega.{arith}
use lib.IntN.{ℤ}
use lib.ListN.{length, get_or}
use Rattle.fractions.specs.Fraction.{whole_n}
use Rattle.fractions.specs.Order.{Equals}
use Rattle.fractions.proofs.Rational.{ℚ, class, rational, rational_operations, equals-of-class}
use Rattle.fractions.proofs.ClassLaws.{whole_n-at-most}
use Rattle.splines.specs.Basis.{curve_at}
use Rattle.splines.specs.Span.{SpanRule}
use Rattle.splines.specs.Insertion as S
use Rattle.splines.proofs.CurveLaws.{curve-same}
use Rattle.splines.proofs.InsertedSpanLaws.{insertion-keeps-point}
use Rattle.span.specs.Span.{IsSpan, span_of, in_domain}
use Rattle.span.proofs.SpanLaws.{span_of-is, in_domain-says}
use Rattle.exact.specs.ExactPoint.{exact_coordinate}
use Rattle.exact.proofs.ExactLaws.{rational_knot, rational_coordinate, rational_parameter, exact-class}
use Rattle.exact.proofs.SpanLaws.{knots-rising}
use Rattle.insertion.specs.Insertion.{insertion_span, inserted_knots, inserted_points, whole_points}
use Rattle.insertion.specs.Judged.{whole_ok}
use Rattle.insertion.specs.Standing.{Insertable}
use Rattle.insertion.proofs.KnotLaws.{inserted_knots-before, inserted_knots-behind}
use Rattle.insertion.proofs.PointLaws.{inserted_points-length}
use Rattle.insertion.proofs.SpanLaws.{up_to-least, up_to-most, span-least, span-most, span-low, span-high}
use Rattle.insertion.proofs.CheckedLaws.{value-of-test, insertable-xs, insertable-ys}
use Rattle.insertion.proofs.JudgedLaws.{accepted-of-number}
use Rattle.knots_exact.specs.SameCurve.{SameOnAxis, InsertKeepsCurve}
use Rattle.knots_exact.proofs.SpanRuleLaws.{rule-of-span}
use Rattle.knots_exact.proofs.InsertedLaws.{knots-inserted, points-inserted}

module _ (m : ℕ) (ts : List ℕ) (ps : List ℤ) (v : ℕ) (s : Insertable m ts ps v) (all : whole_points m ts ps v ≡ true) where
  abbrev us : List ℕ
  us = inserted_knots ts v

  abbrev qs : List ℤ
  qs = inserted_points m ts ps v

  -- the domain stays
  pub same_start : get_or us m 0 ≡ get_or ts m 0
  same_start = inserted_knots-before ts v m (up_to-least m ts ps v s)

  pub same_stop : get_or us (length qs) 0 ≡ get_or ts (length ps) 0
  same_stop =
      let count : length qs ≡ suc (length ps) = inserted_points-length m ts ps v ∙ omega arith in
      rw count (inserted_knots-behind ts v (length ps) (up_to-most m ts ps v s))

  -- the exact coordinate in the new span is the one in the old span
  kept-in-spans : (n p q i j : ℕ) → n + 1 ≡ length ps → zero < q → IsSpan us m (n + 1) p q i → IsSpan ts m n p q j → Equals (exact_coordinate us qs m i p q) (exact_coordinate ts ps m j p q)
  kept-in-spans n p q i j last above new old =
      let k : ℕ = insertion_span ts v in
      let t : ℚ = rational_parameter p q in
      let new-rule : SpanRule rational (S.inserted_knots rational_operations (rational_knot ts) k (class (whole_n v))) m (n + 1) t i =
      subst (λ (f : ℕ → ℚ). SpanRule rational f m (n + 1) t i) (knots-inserted m ts ps v s) (rule-of-span us m (n + 1) p q i above new) in
      let count : length qs ≡ suc (length ps) = inserted_points-length m ts ps v ∙ omega arith in
      equals-of-class (exact_coordinate us qs m i p q) (exact_coordinate ts ps m j p q)
      (exact-class us qs m i p q
      ∙ curve-same rational_operations (rational_knot us) (S.inserted_knots rational_operations (rational_knot ts) k (class (whole_n v))) (length qs + m)
      (λ a h. ap (λ (f : ℕ → ℚ). f a) (knots-inserted m ts ps v s))
      i t (rational_coordinate qs) (S.inserted_points rational_operations (rational_knot ts) (rational_coordinate ps) m k (class (whole_n v))) m (length qs) (omega arith)
      (λ a h. points-inserted m ts ps v s all a (omega (arith, count)))
      ∙ ap (λ (c : ℕ). curve_at rational_operations (S.inserted_knots rational_operations (rational_knot ts) k (class (whole_n v))) (S.inserted_points rational_operations (rational_knot ts) (rational_coordinate ps) m k (class (whole_n v))) m c i t) count
      ∙ insertion-keeps-point rational (rational_knot ts) m n k (class (whole_n v)) (span-least m ts ps v s) (omega (arith, span-most m ts ps v s))
      ((whole_n-at-most (get_or ts k 0) v).0 (span-low m ts ps v s k (omega arith)))
      ((whole_n-at-most v (get_or ts (k + 1) 0)).0 (below (k + 1) (omega arith) (omega (arith, s.count, span-most m ts ps v s))))
      (rational_coordinate ps) (n + m) (length ps)
      (knots-rising ts (n + m) (λ a b l h. s.rises a b l (omega (arith, s.count))))
      (omega arith) (omega arith) t i j new-rule (rule-of-span ts m n p q j above old)
      ∙ sym (exact-class ts ps m j p q))
    where
      below : (j : ℕ) → insertion_span ts v < j → j < length ts → v ≤ get_or ts j 0
      below j h l = omega (arith, span-high m ts ps v s j h l)

  -- one axis
  pub axis-kept : SameOnAxis m ts ps us qs
  axis-kept = record {
    start = same_start;
    stop = same_stop;
    point = λ p q above inside. at p q above inside;
  }
    where
      at : (p q : ℕ) → 0 < q → in_domain ts m (length ps - 1) p q ≡ true → Equals (exact_coordinate us qs m (span_of us m (length qs - 1) p q) p q) (exact_coordinate ts ps m (span_of ts m (length ps - 1) p q) p q)
      at p q above inside =
          let n : ℕ = length ps - 1 in
          let last : n + 1 ≡ length ps = omega (arith, span-most m ts ps v s) in
          let count : length qs ≡ length ps + 1 = inserted_points-length m ts ps v in
          let top : length qs - 1 ≡ n + 1 = omega arith in
          let wide : get_or ts m 0 < get_or ts (length ps) 0 = omega (arith, s.low, s.high) in
          let low = (in_domain-says ts m n p q inside).0 in
          let many : m ≤ n = omega (arith, span-least m ts ps v s, span-most m ts ps v s) in
          let ends : n + 1 + 1 ≡ length qs = omega arith in
          rw top
          (kept-in-spans n p q (span_of us m (n + 1) p q) (span_of ts m n p q) last above
          (span_of-is us m (n + 1) p q (omega arith) (rw same_start low) (rw (ends, same_start, same_stop) wide))
          (span_of-is ts m n p q many low (rw last wide)))

pub insert-keeps-curve : InsertKeepsCurve
unfolding whole_ok
insert-keeps-curve m c v lent e =
    let a = accepted-of-number m c v lent e in
    let whole = (and-eq-true_iff (whole_points m c.knots c.xs v) (whole_points m c.knots c.ys v)).0 a.whole in
    let inside = value-of-test m c.knots c.xs v a.value in
    let low : get_or c.knots m 0 ≤ v = omega (arith, inside.0) in
    record {
      x = axis-kept m c.knots c.xs v (insertable-xs m c.knots c.xs c.ys v a.passes low inside.1) whole.0;
      y = axis-kept m c.knots c.ys v (insertable-ys m c.knots c.xs c.ys v a.passes low inside.1) whole.1;
    }
