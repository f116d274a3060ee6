-- The different values of the domain, from left to right, among the knots of the cut curve: an inner one stands there m times, the two ends once
-- more, and no knot lies between two neighbours. So the knots up to each value are counted: `up_to`, `all-up-to`.
use mathlib.Core.Bool.{true}
use mathlib.Core.List.{List}
use mathlib.Core.Logic.{◌⊎◌, inl, inr}
use mathlib.Core.Path.{◌≡◌, refl, sym, ap, ◌∙◌}
use Prim.Native.Nat.{ℕ, zero, suc, ◌+◌, ◌-◌, ◌*◌, ◌≤◌, ◌<◌}
use native.Mathlib.Decide.{dec_le}
use native.Mathlib.Nat.{suc-mul, zero-mul}
use native.Mathlib.Numerals.{add-one}
use native.Mathlib.Omega.{arith}
use lib.ListN.{length, get_or}
use Rattle.refusal.specs.Numbers.{accepted}
use Rattle.curve.specs.Lists.{Lists}
use Rattle.grid.specs.Rows.{knot_order_ok, rises_from, occurrences}
use Rattle.grid.proofs.CheckLaws.{passes-tests}
use Rattle.grid.proofs.RepeatLaws.{rises-drop}
use Rattle.checked.specs.Checked.{Checked, Clamped}
use Rattle.checked.proofs.CheckedLaws.{checked-of-passes}
use Rattle.checked.proofs.OccurrenceLaws.{stands_at, occurs-at}
use Rattle.insertion.specs.Insertion.{knots_up_to}
use Rattle.insertion.proofs.SpanLaws.{knots_up_to-length, knots_up_to-below, knots_up_to-above}
use Rattle.cutting.specs.Cutting.{cut, cut_number}
use Rattle.cutting.specs.Pieces.{piece_count}
use Rattle.cut_whole.specs.Sentences.{InnerKnot, span_at, low_at, high_at, SpansInOrder}
use Rattle.cut_whole.proofs.EachLaws.{Kept}
use Rattle.cut_whole.proofs.JudgedLaws.{passes-of-cut, cut_keeps}
use Rattle.cut_whole.proofs.SpanLaws.{span-kept, span-inside, spans-in-order}
use Rattle.cut_whole.proofs.FullLaws.{fully-cut, old_value}
use Rattle.cut_whole.proofs.OrderLaws.{up_to-first, up_to-next}

-- the left end, then where each span that is not empty ends
abbrev pub value_at : ℕ → Lists → ℕ → ℕ
value_at m c zero = get_or c.knots m 0
value_at m c (suc k) = high_at m c k

module _ (m : ℕ) (c : Lists) (h : cut_number m c ≡ accepted) (clamped : Clamped m c.knots (length c.xs)) where
  abbrev ts : List ℕ
  ts = c.knots

  abbrev ks : List ℕ
  ks = (cut m c).knots

  abbrev count : ℕ
  count = piece_count m c

  old : Checked m c.knots c.xs c.ys
  old = checked-of-passes m c.knots c.xs c.ys (passes-of-cut m c h)

  pub kept : Kept m c (cut m c)
  kept = cut_keeps m c h

  pub new : Checked m (cut m c).knots (cut m c).xs (cut m c).ys
  new = checked-of-passes m (cut m c).knots (cut m c).xs (cut m c).ys kept.passes

  pub ends : Clamped m (cut m c).knots (length (cut m c).xs)
  ends = kept.clamped clamped

  pub order : SpansInOrder m c
  order = spans-in-order m c old

  rises : rises_from 0 ks ≡ true
  unfolding knot_order_ok
  rises = (passes-tests m (cut m c).knots (cut m c).xs (cut m c).ys kept.passes).order

  pub low-is : (k : ℕ) → k < count → low_at m c k ≡ value_at m c k
  low-is zero l = order.start
  low-is (suc k) l = sym (order.meet k (rw (add-one k) l) ∙ ap (low_at m c) (add-one k))

  value-rises : (k : ℕ) → k < count → value_at m c k < value_at m c (suc k)
  value-rises k l = omega (arith, order.wide k l, low-is k l)

  -- no knot lies between two neighbours
  pub none_between : (k : ℕ) → k < count → (j : ℕ) → j < length ks → (get_or ks j 0 ≤ value_at m c k) ⊎ (value_at m c (suc k) ≤ get_or ks j 0)
  none_between k l j i =
      let s = stands_at (get_or ks j 0) ts (old_value m c (passes-of-cut m c h) clamped (get_or ks j 0) (occurs-at (get_or ks j 0) ks j i refl)) in
      let inside : span_at m c k < length c.xs = span-inside m c old k l in
      elim (dec_le s.0 (span_at m c k)) [
        | yes before ↦ inl (omega (arith, s.2, low-is k l, old.rising s.0 (span_at m c k) before (omega (arith, old.sizes.knots))))
        | no behind ↦ inr (omega (arith, s.2, old.rising (span_at m c k + 1) s.0 (omega arith) s.1))
      ]

  pub next-up-to : (k : ℕ) → k < count → knots_up_to (value_at m c (suc k)) ks ≡ knots_up_to (value_at m c k) ks + occurrences (value_at m c (suc k)) ks
  next-up-to k l = up_to-next (value_at m c k) (value_at m c (suc k)) 0 ks rises (value-rises k l) (none_between k l)

  -- where a span ends and is not the last, an inner knot stands, so m times
  inner-value : (k : ℕ) → suc k < count → InnerKnot m c (value_at m c (suc k))
  inner-value k l =
      let here = span-kept m c old k (omega arith) in
      let next = span-inside m c old (suc k) l in
      let inside = span-inside m c old k (omega arith) in
      record {
        above = omega (arith, order.wide k (omega arith), old.rising m (span_at m c k) here.from (omega (arith, old.sizes.knots)));
        below = omega (arith, low-is (suc k) l, order.wide (suc k) l, old.rising (span_at m c (suc k) + 1) (length c.xs) (omega arith) (omega (arith, old.sizes.knots)));
        stands = occurs-at (value_at m c (suc k)) ts (span_at m c k + 1) (omega (arith, old.sizes.knots)) refl;
      }

  pub inner-stands : (k : ℕ) → suc k < count → occurrences (value_at m c (suc k)) ks ≡ m
  inner-stands k l = (fully-cut m c (passes-of-cut m c h) clamped).inner (value_at m c (suc k)) (inner-value k l)

  -- the left end stands m + 1 times
  first-up-to : knots_up_to (value_at m c 0) ks ≡ m + 1
  first-up-to =
      let same : get_or ks 0 0 ≡ value_at m c 0 = ends.firsts 0 (omega arith) ∙ kept.start in
      let many : length ks ≡ length (cut m c).xs + m + 1 = new.sizes.knots in
      let stand = up_to-first (value_at m c 0) (get_or ks 0 0) ks (rises-drop 0 ks 0 rises (omega arith)) (omega arith) in
      let most = new.outer (value_at m c 0) in
      elim (dec_le (m + 1) (knots_up_to (value_at m c 0) ks)) [
        | yes least ↦ omega arith
        | no few ↦
            let above = knots_up_to-above (value_at m c 0) ks (omega arith) in
            let up = new.rising (knots_up_to (value_at m c 0) ks) m (omega arith) (omega arith) in
            absurd (omega (arith, kept.start))
      ]

  -- so the knots up to each value but the last are counted
  pub up_to : (k : ℕ) → k < count → knots_up_to (value_at m c k) ks ≡ k * m + m + 1
  up_to zero l = first-up-to ∙ omega (arith, zero-mul m)
  up_to (suc k) l = next-up-to k (omega arith) ∙ omega (arith, up_to k (omega arith), inner-stands k l, suc-mul k m)

  -- the last value is the right end, and no knot is behind it
  abbrev last : ℕ
  last = count - 1

  last-is : value_at m c (suc last) ≡ get_or ks (length (cut m c).xs) 0
  last-is = order.stop ∙ sym kept.stop

  pub all-up-to : knots_up_to (value_at m c (suc last)) ks ≡ length ks
  all-up-to =
      let many : length ks ≡ length (cut m c).xs + m + 1 = new.sizes.knots in
      elim (dec_le (length ks) (knots_up_to (value_at m c (suc last)) ks)) [
        | yes most ↦ omega (arith, knots_up_to-length (value_at m c (suc last)) ks)
        | no few ↦
            let above = knots_up_to-above (value_at m c (suc last)) ks (omega arith) in
            let up = new.rising (knots_up_to (value_at m c (suc last)) ks) (length ks - 1) (omega arith) (omega arith) in
            let end = ends.lasts (length ks - 1) (omega arith) (omega arith) in
            absurd (omega (arith, last-is))
      ]

  -- the m + 1 knots of the right end are behind the value before it
  before_last : knots_up_to (value_at m c last) ks ≤ length (cut m c).xs
  before_last =
      elim (dec_le (knots_up_to (value_at m c last) ks) (length (cut m c).xs)) [
        | yes h ↦ h
        | no n ↦
            let low = knots_up_to-below (value_at m c last) ks (length (cut m c).xs) (omega arith) in
            absurd (omega (arith, last-is, value-rises last (omega (arith, order.some))))
      ]

  pub last-stands : occurrences (value_at m c (suc last)) ks ≡ m + 1
  last-stands =
      let next = next-up-to last (omega (arith, order.some)) in
      omega (arith, all-up-to, before_last, new.sizes.knots, new.outer (value_at m c (suc last)))
