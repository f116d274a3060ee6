-- A curve whose ends are clamped comes back as it is: all its points carry, and its knots and points stay.
use mathlib.Core.Bool.{true, ◌&&◌}
use mathlib.Core.List.{List}
use mathlib.Core.Path.{◌≡◌, sym, ap, ◌∙◌}
use Prim.Native.Nat.{ℕ, ◌+◌, ◌-◌, ◌≤◌, ◌<◌}
use native.Mathlib.Omega.{arith}
use lib.ListN.{length, get_or}
use lib.Seq.{ext_get_or, take_all}
use Rattle.curve.specs.Lists.{Lists, lists}
use Rattle.grid.specs.Sizes.{Sizes}
use Rattle.checked.specs.Checked.{Checked, Clamped}
use Rattle.checked.proofs.CheckedLaws.{checked-of-passes}
use Rattle.insertion.specs.Insertion.{entries}
use Rattle.insertion.proofs.OrderLaws.{either}
use Rattle.clamping.specs.Clamping.{first_span, last_span, carriers_from, carriers, part, carrying_part, clamped_knot, clamped_number, all_whole, clamped_part, clamped, clamps_whole}
use Rattle.clamping.specs.Sentences.{ClampedComesBack}
use Rattle.clamping.proofs.CountLaws.{counted-all, counted-run}
use Rattle.clamping.proofs.EndSpanLaws.{EndSpans, end-spans}
use Rattle.clamping.proofs.KnotLaws.{knots-clamped}
use Rattle.clamping.proofs.AxisStayLaws.{AxisStays, axis-stays}

knots-stay : (m : ℕ) (ts : List ℕ) (count : ℕ) → Clamped m ts count → m + 1 ≤ count → length ts ≡ count + m + 1
    → entries (clamped_knot m ts count) (length ts) ≡ ts
knots-stay m ts count ends enough long =
    let us = entries (clamped_knot m ts count) (length ts) in
    let c = knots-clamped m ts count enough long in
    let same : length us ≡ length ts = c.long ∙ sym long in
    ext_get_or 0 us ts same
    (λ k inside.
    either m k
    (λ a. either k count (λ b. c.between k a b) (λ b. c.lasts k b inside ∙ sym (ends.lasts k b (omega arith))))
    (λ a. c.firsts k a ∙ sym (ends.firsts k a)))

-- all entries of a list, and of a curve
part-all : {A : Type 0} (first count : ℕ) (l : List A) → first ≡ 0 → count ≡ length l → part first count l ≡ l
part-all first count l none all = rw none (take_all count l (omega arith))

part_stays : (m : ℕ) (c : Lists) → Sizes m c.knots c.xs c.ys → (first count : ℕ) → first ≡ 0 → count ≡ length c.xs
    → lists (part first (count + m + 1) c.knots) (part first count c.xs) (part first count c.ys) ≡ c
part_stays m c z first count none all =
    rw (
      part-all first (count + m + 1) c.knots none (omega (arith, z.knots)),
      part-all first count c.xs none all,
      part-all first count c.ys none (omega (arith, z.as_many)),
    )

-- the first span is t_m's own and the last t_{n+1}'s: else an end value would stand more than m+1 times
module _ (m : ℕ) (c : Lists) (h : Checked m c.knots c.xs c.ys) (ends : Clamped m c.knots (length c.xs)) (i j : ℕ) (e : EndSpans m c i j) where
  first-is : i ≡ m
  first-is =
      let v = get_or c.knots m 0 in
      let run = counted-run v c.knots 0 (i + 1) (omega (arith, e.order, e.to, h.sizes.knots)) in
      let all = counted-all v (λ k. get_or c.knots k 0) 0 (i + 1) (λ k l u. either m k (λ a. e.starts k (omega arith) (omega arith)) (λ a. ends.firsts k a)) in
      omega (arith, run, all, h.outer v, e.from)

  last-is : j + 1 ≡ length c.xs
  last-is =
      let n = length c.xs in
      let v = get_or c.knots n 0 in
      let b = length c.knots - (j + 1) in
      let run = counted-run v c.knots (j + 1) b (omega (arith, e.to, h.sizes.knots)) in
      let all = counted-all v (λ k. get_or c.knots k 0) (j + 1) b
      (λ k l u. either k n (λ a. e.stops k (omega arith) (omega arith)) (λ a. ends.lasts k a (omega (arith, e.to, h.sizes.knots)))) in
      omega (arith, run, all, h.outer v, e.to, h.sizes.knots)

-- the whole curve
module _ (m : ℕ) (c : Lists) (h : Checked m c.knots c.xs c.ys) (ends : Clamped m c.knots (length c.xs)) where
  abbrev spans : EndSpans m c (first_span m c) (last_span m c)
  spans = end-spans m c h

  first : first_span m c ≡ m
  first = first-is m c h ends (first_span m c) (last_span m c) spans

  last : last_span m c + 1 ≡ length c.xs
  last = last-is m c h ends (first_span m c) (last_span m c) spans

  first-wide : get_or c.knots m 0 < get_or c.knots (m + 1) 0
  first-wide = rw first at spans.first-wide

  last-wide : get_or c.knots (length c.xs - 1) 0 < get_or c.knots (length c.xs) 0
  last-wide =
      let place : last_span m c ≡ length c.xs - 1 = omega (arith, last) in
      rw place at spans.last-wide

  same-part : carrying_part m c ≡ c
  same-part = part_stays m c h.sizes (carriers_from m c) (carriers m c) (omega (arith, first)) (omega (arith, first, last))

  abbrev z : Sizes m c.knots c.xs c.ys
  z = h.sizes

  on-x : AxisStays m c.knots c.xs
  on-x = axis-stays m c.knots c.xs ends z.enough z.knots h.rising first-wide last-wide

  on-y : AxisStays m c.knots c.ys
  on-y =
      axis-stays m c.knots c.ys (rw z.as_many ends) (rw z.as_many z.enough) (rw z.as_many z.knots) h.rising first-wide
      (rw z.as_many last-wide)

  whole-stays : clamps_whole m c ≡ true
  unfolding clamps_whole
  whole-stays =
      ap (λ (d : Lists). all_whole (clamped_number m d.knots d.xs) (length d.xs) && all_whole (clamped_number m d.knots d.ys) (length d.ys)) same-part
      ∙ rw (on-x.whole, on-y.whole)

  curve-stays : clamped m c ≡ c
  unfolding clamped
  curve-stays = ap (clamped_part m) same-part ∙ rw (knots-stay m c.knots (length c.xs) ends z.enough z.knots, on-x.points, on-y.points)

pub clamped-comes-back : ClampedComesBack
clamped-comes-back m c passes ends =
    let h = checked-of-passes m c.knots c.xs c.ys passes in
    (whole-stays m c h ends, curve-stays m c h ends)
