-- The values at which spans end, as far as these are not empty: each of them once, rising; a value that stands behind knot i is one of them.
use mathlib.Core.Bool.{true}
use mathlib.Core.List.{List}
use mathlib.Core.Path.{◌≡◌, sym, ◌∙◌}
use Prim.Native.Nat.{ℕ, zero, suc, ◌+◌, ◌≤◌, ◌<◌}
use native.Mathlib.Decide.{dec_le, ℕ_discrete}
use native.Mathlib.Omega.{arith}
use borrow.Author.Tests.{ltb-true, lt-ltb}
use lib.ListN.{length, get_or, length-map}
use Rattle.curve.specs.Lists.{NeverFall}
use Rattle.grid.specs.Limits.{knot_most}
use Rattle.grid.specs.Rows.{knot_order_ok, rises_from, occurrences}
use Rattle.grid.proofs.RepeatLaws.{occurrences-most}
use Rattle.checked.proofs.OccurrenceLaws.{stands_at, occurs-at}
use Rattle.checked.proofs.RisingLaws.{order-judged}
use Rattle.checked.proofs.TestLaws.{passes-from}
use Rattle.span_walk.specs.SpansMet.{up_from, keep, non_empty, high_knots}
use Rattle.span_walk.proofs.ListedLaws.{keep-has, keep-only, keep-rises, map_at}
use Rattle.cutting.specs.Cutting.{ends_from}

-- `count` spans from i on, inside knots that never fall
module _ (ts : List ℕ) (rising : NeverFall ts) (i count : ℕ) (inside : i + count < length ts) where
  abbrev spans : List ℕ
  spans = keep (non_empty ts) (up_from i count)

  ends-length : length (ends_from ts i count) ≡ length spans
  unfolding ends_from high_knots
  ends-length = length-map spans (λ j. get_or ts (j + 1) 0)

  ends_at : (k : ℕ) → k < length spans → get_or (ends_from ts i count) k 0 ≡ get_or ts (get_or spans k 0 + 1) 0
  unfolding ends_from high_knots
  ends_at k h = map_at (λ j. get_or ts (j + 1) 0) spans k h

  -- each value is above those before it
  ends-strict : (a b : ℕ) → a < b → b < length spans → get_or (ends_from ts i count) a 0 < get_or (ends_from ts i count) b 0
  ends-strict a b h l =
      let kept = keep-only (non_empty ts) i count b l in
      let order = keep-rises (non_empty ts) i count a b h l in
      let wide = ltb-true (get_or ts (get_or spans b 0) 0) (get_or ts (get_or spans b 0 + 1) 0) kept.passes in
      rw (ends_at a (omega arith), ends_at b l) (omega (arith, rising (get_or spans a 0 + 1) (get_or spans b 0) (omega arith) (omega (arith, kept.to))))

  ends-order : ((a : ℕ) → a < length ts → get_or ts a 0 ≤ knot_most) → knot_order_ok (ends_from ts i count) ≡ true
  ends-order largest = passes-from (order-judged (ends_from ts i count)) (never-fall, most)
    where
      never-fall : NeverFall (ends_from ts i count)
      never-fall a b le l =
          elim (ℕ_discrete a b) [
            | yes e ↦ rw e (omega arith)
            | no n ↦ omega (arith, ends-strict a b (omega arith) (omega (arith, ends-length)))
          ]

      most : (k : ℕ) → k < length (ends_from ts i count) → get_or (ends_from ts i count) k 0 ≤ knot_most
      most k l =
          let place : k < length spans = omega (arith, ends-length) in
          rw (ends_at k place) (largest (get_or spans k 0 + 1) (omega (arith, (keep-only (non_empty ts) i count k place).to)))

  pub ends-rise : ((a : ℕ) → a < length ts → get_or ts a 0 ≤ knot_most) → rises_from 0 (ends_from ts i count) ≡ true
  unfolding knot_order_ok
  ends-rise largest = ends-order largest

  -- so none stands twice
  pub ends-once : ((a : ℕ) → a < length ts → get_or ts a 0 ≤ knot_most) → (v : ℕ) → occurrences v (ends_from ts i count) ≤ 1
  ends-once largest v =
      occurrences-most v 1 0 (ends_from ts i count) (ends-rise largest)
      (λ j k next l a b. omega (arith, ends-strict j k (omega arith) (omega (arith, ends-length))))

  -- a value that stands among them ends one of the spans
  pub ends-only : (v : ℕ) → 0 < occurrences v (ends_from ts i count) → (j : ℕ) × (i ≤ j) × (j < i + count) × (get_or ts j 0 < v) × (get_or ts (j + 1) 0 ≡ v)
  ends-only v h =
      let s = stands_at v (ends_from ts i count) h in
      let place : s.0 < length spans = omega (arith, s.1, ends-length) in
      let kept = keep-only (non_empty ts) i count s.0 place in
      let is = sym (ends_at s.0 place) ∙ s.2 in
      let wide = ltb-true (get_or ts (get_or spans s.0 0) 0) (get_or ts (get_or spans s.0 0 + 1) 0) kept.passes in
      (get_or spans s.0 0, kept.from, kept.to, omega arith, is)

  -- the last knot below v begins a span that ends at v, where v stands behind knot i, up to knot i + count
  module _ (v : ℕ) (below : get_or ts i 0 < v) where
    last-below : (d : ℕ) → d ≤ count → get_or ts (i + d) 0 ≡ v → (j : ℕ) × (i ≤ j) × (j < i + count) × (get_or ts j 0 < v) × (get_or ts (j + 1) 0 ≡ v)
    last-below zero h e = let here : i + zero ≡ i = omega arith in absurd (omega (arith, rw here at e))
    last-below (suc d) h e =
        let rest = last-below d (omega arith) in
        let next : i + suc d ≡ i + d + 1 = omega arith in
        let is : get_or ts (i + d + 1) 0 ≡ v = rw next at e in
        let order = rising (i + d) (i + d + 1) (omega arith) (omega arith) in
        elim (dec_le v (get_or ts (i + d) 0)) [
          | yes l ↦ rest (omega arith)
          | no n ↦ (i + d, omega arith, omega arith, omega arith, is)
        ]

    pub ends-has : (d : ℕ) → d ≤ count → get_or ts (i + d) 0 ≡ v → 0 < occurrences v (ends_from ts i count)
    ends-has d h e =
        let s = last-below d h e in
        let kept = keep-has (non_empty ts) i count s.0 s.1 s.2 (lt-ltb (get_or ts s.0 0) (get_or ts (s.0 + 1) 0) (rw s.4 s.3)) in
        occurs-at v (ends_from ts i count) kept.0 (omega (arith, kept.1, ends-length)) (ends_at kept.0 kept.1 ∙ rw kept.2 s.4)
