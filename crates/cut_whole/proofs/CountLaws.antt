-- The values to insert are counted: `counted-cuts`. An inner knot is one of the inner values, and nothing else is, since the last span ends the
-- domain and is not empty: `last_step`.
use mathlib.Core.Bool.{true≢false}
use mathlib.Core.List.{List}
use mathlib.Core.Path.{◌≡◌, sym, ap, ◌∙◌}
use Prim.Native.Nat.{ℕ, ◌+◌, ◌-◌, ◌*◌, ◌<◌}
use native.Mathlib.Decide.{dec_le}
use native.Mathlib.Nat.{one-mul, zero-mul}
use native.Mathlib.Omega.{arith}
use lib.ListN.{length, get_or}
use Rattle.curve.specs.Lists.{Lists}
use Rattle.grid.specs.Rows.{knot_order_ok, occurrences}
use Rattle.grid.specs.Check.{Passes}
use Rattle.grid.proofs.CheckLaws.{passes-tests}
use Rattle.grid.proofs.InnerLaws.{again-far}
use Rattle.grid.proofs.RepeatLaws.{rises-between}
use Rattle.checked.specs.Checked.{Checked, Clamped}
use Rattle.checked.proofs.CheckedLaws.{checked-of-passes}
use Rattle.checked.proofs.OccurrenceLaws.{stands_at, occurs-at}
use Rattle.cutting.specs.Cutting.{inner_values, cuts}
use Rattle.cut_whole.specs.Sentences.{InnerKnot, CountedCuts}
use Rattle.cut_whole.proofs.LackingLaws.{lacking-occurrences, lacking-rises}
use Rattle.cut_whole.proofs.EndsLaws.{ends-rise, ends-once, ends-only, ends-has}

module _ (m : ℕ) (c : Lists) (passes : Passes m c.knots c.xs c.ys) (clamped : Clamped m c.knots (length c.xs)) where
  abbrev ts : List ℕ
  ts = c.knots

  known : Checked m c.knots c.xs c.ys
  known = checked-of-passes m c.knots c.xs c.ys passes

  abbrev count : ℕ
  count = length c.xs - 1 - m

  inside : m + count < length ts
  inside = omega (arith, known.sizes.enough, known.sizes.knots)

  -- the right end stands m + 1 times and no more, so the knot before it is below it
  last_step : get_or ts (length c.xs - 1) 0 < get_or ts (length c.xs) 0
  unfolding knot_order_ok
  last_step =
      let n = length c.xs - 1 in
      let back : n + m + 1 - (m + 1) ≡ n = omega arith in
      let sizes : length ts ≡ length c.xs + m + 1 = known.sizes.knots in
      let enough = known.sizes.enough in
      let test = passes-tests m c.knots c.xs c.ys passes in
      elim (dec_le (get_or ts (length c.xs) 0) (get_or ts n 0)) [
        | no below ↦ omega arith
        | yes above ↦
            let far = clamped.lasts (n + m + 1) (omega arith) (omega arith) in
            let order = known.rising n (length c.xs) (omega arith) (omega arith) in
            let same : get_or ts (n + m + 1) 0 ≡ get_or ts (n + m + 1 - (m + 1)) 0 = rw back (omega arith) in
            absurd (true≢false (sym test.repeats ∙ again-far m ts test.order (n + m + 1) (omega arith) (omega arith) same))
      ]

  inner-once : (v : ℕ) → InnerKnot m c v → occurrences v (inner_values m c) ≡ 1
  inner-once v k =
      let s = stands_at v ts k.stands in
      let j = s.0 in
      let from : m < j =
      elim (dec_le j m) [
        | yes h ↦ absurd (omega (arith, known.rising j m h (omega (arith, known.sizes.knots)), k.above, s.2))
        | no h ↦ omega arith
      ] in
      let to : j < length c.xs =
      elim (dec_le (length c.xs) j) [
        | yes h ↦ absurd (omega (arith, known.rising (length c.xs) j h s.1, k.below, s.2))
        | no h ↦ omega arith
      ] in
      let place : m + (j - m) ≡ j = omega arith in
      let most = ends-once ts known.rising m count inside known.largest v in
      let some = ends-has ts known.rising m count inside v k.above (j - m) (omega arith) (rw place s.2) in
      omega arith

  inner-of-value : (v : ℕ) → 0 < occurrences v (inner_values m c) → InnerKnot m c v
  inner-of-value v h =
      let s = ends-only ts known.rising m count inside v h in
      let low = known.rising m s.0 s.1 (omega (arith, s.2, inside)) in
      let high = known.rising (s.0 + 1) (length c.xs - 1) (omega (arith, s.2)) (omega (arith, known.sizes.knots)) in
      record {
        above = omega (arith, s.3);
        below = omega (arith, s.4, last_step);
        stands = occurs-at v ts (s.0 + 1) (omega (arith, s.2, inside)) s.4;
      }

  other_none : (v : ℕ) → (InnerKnot m c v → ⊥) → occurrences v (inner_values m c) ≡ 0
  other_none v no_knot =
      elim (dec_le 1 (occurrences v (inner_values m c))) [
        | no h ↦ omega arith
        | yes h ↦ absurd (no_knot (inner-of-value v h))
      ]

  pub counted-cuts : CountedCuts m c
  counted-cuts = record {
    inner = λ v k. lacking-occurrences m ts (inner_values m c) v ∙ ap (λ n. n * (m - occurrences v ts)) (inner-once v k) ∙ one-mul (m - occurrences v ts);
    other = λ v n. lacking-occurrences m ts (inner_values m c) v ∙ ap (λ k. k * (m - occurrences v ts)) (other_none v n) ∙ zero-mul (m - occurrences v ts);
    rising = λ a b le l. rises-between 0 (cuts m c) a b (lacking-rises m ts 0 (inner_values m c) (ends-rise ts known.rising m count inside known.largest)) le l;
  }

  -- what is inserted is an inner knot
  pub inner-of-cut : (v : ℕ) → 0 < occurrences v (cuts m c) → InnerKnot m c v
  inner-of-cut v h =
      elim (dec_le 1 (occurrences v (inner_values m c))) [
        | yes some ↦ inner-of-value v some
        | no none ↦ absurd (omega (arith, counted-cuts.other v (λ k. omega (arith, inner-once v k))))
      ]
