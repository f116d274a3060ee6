-- How often values stand among the knots of a curve that passes the check and has clamped ends: the ends no more than m + 1 times, so that the first span and the last are not
-- empty; and a run of equal knots is all of its value.
use mathlib.Core.Bool.{true, true≢false}
use mathlib.Core.List.{List}
use mathlib.Core.Path.{◌≡◌, sym, ap, ◌∙◌}
use Prim.Native.Nat.{ℕ, ◌+◌, ◌-◌, ◌≤◌, ◌<◌}
use native.Mathlib.Decide.{dec_le}
use native.Mathlib.Omega.{arith}
use lib.IntN.{ℤ}
use lib.ListN.{length, get_or}
use borrow.Author.Tests.{eq-eqb, ne_eqb, leb-true, leb-false}
use Rattle.grid.specs.Rows.{knot_order_ok, occurrences}
use Rattle.grid.specs.Check.{Passes}
use Rattle.grid.proofs.CheckLaws.{passes-tests}
use Rattle.grid.proofs.InnerLaws.{again-far}
use Rattle.checked.specs.Checked.{Checked, Clamped}
use Rattle.checked.proofs.CheckedLaws.{checked-of-passes}
use Rattle.insertion.specs.Insertion.{insertion_span, knots_up_to}
use Rattle.insertion.specs.Standing.{Insertable}
use Rattle.insertion.proofs.CheckedLaws.{insertable-xs}
use Rattle.insertion.proofs.SpanLaws.{span-only, up_to-least}
use Rattle.insertion_parts.proofs.OccurrenceLaws.{one-knot-tells}
use Rattle.cut_window.specs.Window.{Run}

module _ (m : ℕ) (ts : List ℕ) (xs ys : List ℤ) (passes : Passes m ts xs ys) (clamped : Clamped m ts (length xs)) where
  facts : Checked m ts xs ys
  facts = checked-of-passes m ts xs ys passes

  order : knot_order_ok ts ≡ true
  order = (passes-tests m ts xs ys passes).order

  -- no knot is the (m+1)-th before it
  no_more : (i : ℕ) → m + 1 ≤ i → i < length ts → get_or ts i 0 ≡ get_or ts (i - (m + 1)) 0 → ⊥
  unfolding knot_order_ok
  no_more i from to same = true≢false (sym (passes-tests m ts xs ys passes).repeats ∙ again-far m ts order i from to same)

  pub first-wide : get_or ts m 0 < get_or ts (m + 1) 0
  first-wide =
      let z = facts.sizes in
      let rises = facts.rising m (m + 1) (omega arith) (omega (arith, z.knots, z.enough)) in
      elim (dec_le (get_or ts (m + 1) 0) (get_or ts m 0)) [
        | no h ↦ omega arith
        | yes h ↦
            let back : m + 1 - (m + 1) ≡ 0 = omega arith in
            let zeroth : get_or ts (m + 1 - (m + 1)) 0 ≡ get_or ts 0 0 = ap (λ j. get_or ts j 0) back in
            absurd (no_more (m + 1) (omega arith) (omega (arith, z.knots, z.enough)) (omega (arith, rises, zeroth, clamped.firsts 0 (omega arith))))
      ]

  -- every knot before t_{n+1} is below it
  pub below_end : (a : ℕ) → a < length xs → get_or ts a 0 < get_or ts (length xs) 0
  below_end a inside =
      let z = facts.sizes in
      let n = length xs - 1 in
      let last : n + m + 1 - (m + 1) ≡ n = omega arith in
      let here : get_or ts (n + m + 1 - (m + 1)) 0 ≡ get_or ts n 0 = ap (λ j. get_or ts j 0) last in
      let most = facts.rising a n (omega arith) (omega (arith, z.knots)) in
      let end = facts.rising n (n + m + 1) (omega arith) (omega (arith, z.knots, z.enough)) in
      let is_last = clamped.lasts (n + m + 1) (omega (arith, z.enough)) (omega (arith, z.knots, z.enough)) in
      elim (dec_le (get_or ts (length xs) 0) (get_or ts n 0)) [
        | no h ↦ omega (arith, most)
        | yes h ↦ absurd (no_more (n + m + 1) (omega (arith, z.enough)) (omega (arith, z.knots, z.enough)) (omega (arith, is_last, end, here)))
      ]

  module _ (i s : ℕ) (from : m ≤ i) (wide : get_or ts i 0 < get_or ts (i + 1) 0) (run : Run ts i s) where
    abbrev v : ℕ
    v = get_or ts (i + 1) 0

    -- the run ends within the domain
    within : i + s + 1 ≤ length xs
    within =
        elim (dec_le (i + s + 1) (length xs)) [
          | yes h ↦ h
          | no h ↦
              let last = clamped.lasts (i + s) (omega arith) (omega (arith, run.inside)) in
              let next = clamped.lasts (i + s + 1) (omega arith) run.inside in
              absurd (omega (arith, run.ends, run.same s run.least (omega arith), last, next))
        ]

    -- so the value lies strictly inside it
    low_end : get_or ts m 0 < v
    low_end = omega (arith, facts.rising m i from (omega (arith, facts.sizes.knots, within)), wide)

    high_end : v < get_or ts (length xs) 0
    high_end = omega (arith, facts.rising (i + s + 1) (length xs) within (omega (arith, facts.sizes.knots)), run.ends)

    on : Insertable m ts xs v
    on = insertable-xs m ts xs ys v passes (omega (arith, low_end)) high_end

    up_to : i + s + 1 ≡ knots_up_to v ts
    unfolding insertion_span
    up_to =
        omega
        (arith, span-only m ts xs v on (i + s) run.inside (omega (arith, run.same s run.least (omega arith))) run.ends, up_to-least m ts xs v on)

    pub run-occurs : occurrences v ts ≡ s
    run-occurs =
        let some = one-knot-tells v s (i + s + 1) ts order up_to run.least (omega arith) in
        let none = one-knot-tells v (s + 1) (i + s + 1) ts order up_to (omega arith) (omega arith) in
        let first : i + s + 1 - s ≡ i + 1 = omega arith in
        let low : i + s + 1 - (s + 1) ≡ i = omega arith in
        let least = leb-true s (occurrences v ts) (sym some ∙ eq-eqb (get_or ts (i + s + 1 - s) 0) v (ap (λ j. get_or ts j 0) first)) in
        let most = leb-false (s + 1) (occurrences v ts) (sym none ∙ ne_eqb (get_or ts (i + s + 1 - (s + 1)) 0) v (λ e. omega (arith, wide, e, ap (λ j. get_or ts j 0) low))) in
        omega (arith, least, most)

    pub run-most : s ≤ m
    run-most = omega (arith, run-occurs, facts.inner v low_end high_end)
