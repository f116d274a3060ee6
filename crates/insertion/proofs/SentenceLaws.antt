-- The new curve at every index, and each row of refusal as its sentence: the tests of an insertion fail exactly where these hold.
use mathlib.Core.Bool.{true, false, true≢false}
use mathlib.Core.List.{List}
use mathlib.Core.Path.{◌≡◌, refl, sym, ap, ◌∙◌}
use Prim.Native.Nat.{ℕ, ◌+◌, ◌-◌, ◌≤◌, ◌<◌}
use native.Mathlib.Numerals.{add-one}
use native.Mathlib.Omega.{arith}
use lib.IntN.{ℤ, pos, ◌*ℤ◌}
use lib.ListN.{length, get_or}
use lib.Signed.{quot_z}
use Rattle.refusal.proofs.JudgingLaws.{both}
use Rattle.refusal.proofs.ChainLaws.{accepts, judged, answers-first}
use Rattle.curve.specs.Lists.{Lists}
use Rattle.grid.specs.Check.{Passes}
use Rattle.grid.specs.Rows.{occurrences}
use Rattle.signed.specs.Division.{divides}
use Rattle.signed.proofs.DivisionLaws.{product-divides, product-of-quot}
use Rattle.span.specs.Span.{strictly_inside}
use Rattle.checked.proofs.TestLaws.{Judged, fails-iff, ltb-judged, both-judged, three-judged, room-judged}
use Rattle.checked.proofs.SentenceLaws.{curve-judged}
use Rattle.insertion.specs.Insertion.{knots_up_to, insertion_span, inserted_knots, inserted_points, weighted_sum, weight, whole_points, inserted}
use Rattle.insertion.specs.Standing.{Insertable}
use Rattle.insertion.specs.Judged.{value_ok, place_ok, whole_ok, insertable_then, insertion_number}
use Rattle.insertion.specs.Sentences.{Between, Quotient, NewPoints, NewKnots, InsertedByIndex, ValueWrong, Full, NotWholeOn, NotWhole, insertion_rows, InsertionAnswersFirst}
use Rattle.insertion.proofs.SpanLaws.{up_to-least, span-least, span-most, span-low, span-high, span-only, span-weighed}
use Rattle.insertion.proofs.KnotLaws.{inserted_knots-length, inserted_knots-before, inserted_knots-here, inserted_knots-behind}
use Rattle.insertion.proofs.PointLaws.{inserted_points-length, inserted_points-at, point-left, point-quotient, point-right}
use Rattle.insertion.proofs.QuotientLaws.{weight-natural}
use Rattle.insertion.proofs.WholeLaws.{whole_each, whole-not}
use Rattle.insertion.proofs.CheckedLaws.{insertable-xs, insertable-ys}
use Rattle.insertion.proofs.JudgedLaws.{accepted-of-number}

module _ (m : ℕ) (ts : List ℕ) (ps : List ℤ) (v : ℕ) (s : Insertable m ts ps v) where
  -- the span is such an i
  span_between : Between ts v (insertion_span ts v)
  span_between =
      let most = span-most m ts ps v s in
      record {
        inside = omega (arith, s.count);
        low = span-low m ts ps v s (insertion_span ts v) (omega arith);
        high = span-high m ts ps v s (insertion_span ts v + 1) (omega arith) (omega (arith, s.count));
      }

  -- the test of Q_j passes where it has a quotient, and fails where it has none
  module _ (j : ℕ) (from : insertion_span ts v < j + m) (to : j ≤ insertion_span ts v) where
    natural : weight m ts j ≡ pos (get_or ts (j + m) 0 - get_or ts j 0)
    natural = let w = span-weighed m ts ps v s j from to in weight-natural m ts ps v j w.low w.high

    as-product : (q : ℤ) → Quotient m ts ps v j q → q *ℤ weight m ts j ≡ weighted_sum m ts ps v j
    unfolding weight weighted_sum
    as-product q e = e

    of-product : (q : ℤ) → q *ℤ weight m ts j ≡ weighted_sum m ts ps v j → Quotient m ts ps v j q
    unfolding weight weighted_sum
    of-product q e = e

    whole-quotient : divides (weight m ts j) (weighted_sum m ts ps v j) ≡ true → Quotient m ts ps v j (quot_z (weighted_sum m ts ps v j) (weight m ts j))
    whole-quotient h =
        let test = sym (ap (λ (d : ℤ). divides d (weighted_sum m ts ps v j)) natural) ∙ h in
        of-product (quot_z (weighted_sum m ts ps v j) (weight m ts j)) (rw natural (product-of-quot (weighted_sum m ts ps v j) (get_or ts (j + m) 0 - get_or ts j 0) test))

    no-quotient : divides (weight m ts j) (weighted_sum m ts ps v j) ≡ false → (q : ℤ) → Quotient m ts ps v j q → ⊥
    no-quotient h q e =
        let product = sym (ap (λ (d : ℤ). q *ℤ d) natural) ∙ as-product q e in
        true≢false (
        sym (product-divides q (get_or ts (j + m) 0 - get_or ts j 0))
        ∙ ap (divides (pos (get_or ts (j + m) 0 - get_or ts j 0))) product
        ∙ sym (ap (λ (d : ℤ). divides d (weighted_sum m ts ps v j)) natural)
        ∙ h
        )

  span-of : (i : ℕ) → Between ts v i → i ≡ insertion_span ts v
  span-of i b = span-only m ts ps v s i b.inside b.low b.high

  -- row 11 on one axis
  abbrev Whole : Type 0
  Whole = (j : ℕ) → insertion_span ts v < j + m → j ≤ insertion_span ts v → divides (weight m ts j) (weighted_sum m ts ps v j) ≡ true

  whole-clash : Whole → NotWholeOn m ts ps v → ⊥
  whole-clash p (i, j, b, from, to, none) =
      let e = span-of i b in
      none (quot_z (weighted_sum m ts ps v j) (weight m ts j)) (whole-quotient j (omega (arith, e)) (omega (arith, e)) (p j (omega (arith, e)) (omega (arith, e))))

  axis-judged : Judged (whole_points m ts ps v) Whole (NotWholeOn m ts ps v)
  axis-judged =
      let least = span-least m ts ps v s in
      record {
        passing = whole_each m ts ps v least;
        failing = λ h. let r = whole-not m ts ps v least h in (insertion_span ts v, r.0, span_between, r.1, r.2, no-quotient r.0 r.1 r.2 r.3);
        clash = whole-clash;
      }

  -- the new coordinates
  points-at-span : Whole → NewPoints m ts ps v (insertion_span ts v) (inserted_points m ts ps v)
  points-at-span whole =
      let most = span-most m ts ps v s in
      let at = inserted_points-at m ts ps v in
      record {
        count = inserted_points-length m ts ps v;
        left = λ j l. at j (omega arith) ∙ point-left m ts ps v (insertion_span ts v) j l;
        between = λ j from to. rw (at j (omega arith) ∙ point-quotient m ts ps v (insertion_span ts v) j from to) (whole-quotient j from to (whole j from to));
        right = λ j l inside.
            let back : j + 1 - 1 ≡ j = omega arith in
            at (j + 1) (omega arith) ∙ point-right m ts ps v (insertion_span ts v) (j + 1) (omega arith) ∙ ap (λ (k : ℕ). get_or ps k (pos 0)) back;
      }

  points-by-index : (i : ℕ) → Between ts v i → whole_points m ts ps v ≡ true → NewPoints m ts ps v i (inserted_points m ts ps v)
  points-by-index i b h = rw (span-of i b) (points-at-span (axis-judged.passing h))

  -- the new knots
  behind-span : insertion_span ts v + 1 ≡ knots_up_to v ts
  unfolding insertion_span
  behind-span = omega (arith, up_to-least m ts ps v s)

  knots-by-index : (i : ℕ) → Between ts v i → NewKnots ts v i (inserted_knots ts v)
  knots-by-index i b =
      let e = span-of i b in
      let place : i + 1 ≡ knots_up_to v ts = omega (arith, behind-span) in
      record {
        count = inserted_knots-length ts v;
        left = λ j l. inserted_knots-before ts v j (omega arith);
        here = rw place (inserted_knots-here ts v);
        right = λ j l. rw (add-one j) (inserted_knots-behind ts v j (omega arith));
      }

module _ (m : ℕ) (c : Lists) (v : ℕ) where
  value-judged : Judged (value_ok m c.knots c.xs v)
      ((get_or c.knots m 0 < v) × (v < get_or c.knots (length c.xs) 0) × (occurrences v c.knots < m))
      (ValueWrong m c v)
  unfolding value_ok strictly_inside
  value-judged = three-judged (ltb-judged _ _) (ltb-judged _ _) (ltb-judged _ _)

  place-judged : Judged (place_ok c.xs) (length c.xs < 1024) (Full c)
  unfolding place_ok
  place-judged = ltb-judged _ _

  module _ (passes : Passes m c.knots c.xs c.ys) (value : value_ok m c.knots c.xs v ≡ true) where
    on-x : Insertable m c.knots c.xs v
    on-x = let p = value-judged.passing value in insertable-xs m c.knots c.xs c.ys v passes (omega (arith, p.0)) p.1

    on-y : Insertable m c.knots c.ys v
    on-y = let p = value-judged.passing value in insertable-ys m c.knots c.xs c.ys v passes (omega (arith, p.0)) p.1

    whole-judged : Judged (whole_ok m c v) (Whole m c.knots c.xs v on-x × Whole m c.knots c.ys v on-y) (NotWhole m c v)
    unfolding whole_ok
    whole-judged = both-judged (axis-judged m c.knots c.xs v on-x) (axis-judged m c.knots c.ys v on-y)

pub insertion-answers-first : InsertionAnswersFirst
unfolding insertion_number insertable_then
insertion-answers-first m c v lent =
    answers-first (insertion_number m c v lent) (insertion_rows m c v lent) refl
    (curve-judged m c.knots c.xs c.ys _ _ λ passes.
    judged (fails-iff (value-judged m c v)) λ value.
    judged (fails-iff (place-judged m c v)) λ place.
    judged (fails-iff (whole-judged m c v passes value)) λ whole. judged (fails-iff (room-judged (inserted m c v) lent)) λ room. accepts)

pub inserted-by-index : InsertedByIndex
unfolding whole_ok
inserted-by-index m c v lent i h b =
    let a = accepted-of-number m c v lent h in
    let w = both (whole_points m c.knots c.xs v) (whole_points m c.knots c.ys v) a.whole in
    let x = on-x m c v a.passes a.value in
    let y = on-y m c v a.passes a.value in (
      knots-by-index m c.knots c.xs v x i b,
      points-by-index m c.knots c.xs v x i b w.0,
      points-by-index m c.knots c.ys v y i b w.1,
    )
