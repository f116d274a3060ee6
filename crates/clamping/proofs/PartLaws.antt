-- The part of a curve whose points carry some span: its entries, its domain, and that it passes the check.
use mathlib.Core.List.{List}
use mathlib.Core.Path.{◌≡◌, sym, ap, ◌∙◌}
use Prim.Native.Nat.{ℕ, ◌+◌, ◌-◌, ◌≤◌, ◌<◌}
use native.Mathlib.Nat.{zero-add}
use native.Mathlib.Omega.{arith}
use lib.IntN.{pos}
use lib.ListN.{length, get_or, drop, length-drop}
use lib.Seq.{get_or-take, get_or-drop, length-take-le}
use Rattle.curve.specs.Lists.{Lists, lists}
use Rattle.grid.specs.Rows.{occurrences}
use Rattle.grid.specs.Check.{Passes}
use Rattle.checked.specs.Checked.{Checked}
use Rattle.checked.proofs.CheckedLaws.{checked-of-passes}
use Rattle.clamping.specs.Clamping.{first_span, last_span, carriers_from, carriers, part, carrying_part}
use Rattle.clamping.proofs.CountLaws.{counted, counted-list, counted_same, counted-run, counted-middle}
use Rattle.clamping.proofs.EndSpanLaws.{EndSpans, end-spans}

-- so many entries from one on
module _ {A : Type 0} (first count : ℕ) (l : List A) where
  pub part_length : first + count ≤ length l → length (part first count l) ≡ count
  part_length room = length-take-le count (drop first l) (rw (length-drop first l) (omega arith))

  pub part_at : (k : ℕ) (d : A) → k < count → get_or (part first count l) k d ≡ get_or l (first + k) d
  part_at k d inside = get_or-take count (drop first l) k d inside ∙ get_or-drop first l k d

-- d has `count` points of c, from `first` on, and their knots; the domain is that of c, and its first and its last span are not empty
pub record PartFacts (m : ℕ) (c d : Lists) (first count : ℕ) : Type 0 where
  pub within : first + count ≤ length c.xs
  pub enough : m + 1 ≤ count
  pub count-knots : length d.knots ≡ count + m + 1
  pub count-xs : length d.xs ≡ count
  pub count-ys : length d.ys ≡ count
  pub knot : (k : ℕ) → k < count + m + 1 → get_or d.knots k 0 ≡ get_or c.knots (first + k) 0
  pub x : (k : ℕ) → k < count → get_or d.xs k (pos 0) ≡ get_or c.xs (first + k) (pos 0)
  pub y : (k : ℕ) → k < count → get_or d.ys k (pos 0) ≡ get_or c.ys (first + k) (pos 0)
  pub start : get_or d.knots m 0 ≡ get_or c.knots m 0
  pub stop : get_or d.knots count 0 ≡ get_or c.knots (length c.xs) 0
  pub first-wide : get_or d.knots m 0 < get_or d.knots (m + 1) 0
  pub last-wide : get_or d.knots (count - 1) 0 < get_or d.knots count 0
  -- a value strictly inside the domain stands in d as often as in c
  pub inner : (v : ℕ) → get_or c.knots m 0 < v → v < get_or c.knots (length c.xs) 0 → occurrences v d.knots ≡ occurrences v c.knots
  pub checked : Checked m d.knots d.xs d.ys

module _ (m : ℕ) (c : Lists) (h : Checked m c.knots c.xs c.ys) (i j : ℕ) (e : EndSpans m c i j)
    (first count : ℕ) (place : first + m ≡ i) (past : first + count ≡ j + 1) where
  abbrev cut : Lists
  cut = lists (part first (count + m + 1) c.knots) (part first count c.xs) (part first count c.ys)

  within : first + count ≤ length c.xs
  within = omega (arith, e.order, e.to)

  many : m + 1 ≤ count
  many = omega (arith, e.from, e.order)

  knots-within : first + (count + m + 1) ≤ length c.knots
  knots-within = omega (arith, within, h.sizes.knots)

  knot-at : (k : ℕ) → k < count + m + 1 → get_or cut.knots k 0 ≡ get_or c.knots (first + k) 0
  knot-at k l = part_at first (count + m + 1) c.knots k 0 l

  x-at : (k : ℕ) → k < count → get_or cut.xs k (pos 0) ≡ get_or c.xs (first + k) (pos 0)
  x-at k l = part_at first count c.xs k (pos 0) l

  y-at : (k : ℕ) → k < count → get_or cut.ys k (pos 0) ≡ get_or c.ys (first + k) (pos 0)
  y-at k l = part_at first count c.ys k (pos 0) l

  knots-long : length cut.knots ≡ count + m + 1
  knots-long = part_length first (count + m + 1) c.knots knots-within

  xs-long : length cut.xs ≡ count
  xs-long = part_length first count c.xs within

  ys-long : length cut.ys ≡ count
  ys-long = part_length first count c.ys (omega (arith, within, h.sizes.as_many))

  -- the domain begins at t_i, which is t_m, and ends at t_{j+1}, which is t_{n+1}
  knot-from : (k l : ℕ) → first + k ≡ l → k < count + m + 1 → get_or cut.knots k 0 ≡ get_or c.knots l 0
  knot-from k l place inside = knot-at k inside ∙ ap (λ (n : ℕ). get_or c.knots n 0) place

  starts : get_or cut.knots m 0 ≡ get_or c.knots m 0
  starts = knot-from m i (omega (arith, e.from)) (omega arith) ∙ e.starts i e.from (omega arith)

  stops : get_or cut.knots count 0 ≡ get_or c.knots (length c.xs) 0
  stops = knot-from count (j + 1) (omega (arith, e.order)) (omega arith) ∙ e.stops (j + 1) (omega arith) (omega (arith, e.to))

  second : get_or cut.knots (m + 1) 0 ≡ get_or c.knots (i + 1) 0
  second = knot-from (m + 1) (i + 1) (omega (arith, e.from)) (omega (arith, many))

  last : get_or cut.knots (count - 1) 0 ≡ get_or c.knots j 0
  last = knot-from (count - 1) j (omega (arith, e.order, many)) (omega (arith, many))

  -- how often a value stands: in the part no more often, and strictly inside the domain as often
  counted-part : (v : ℕ) → occurrences v cut.knots ≡ counted v (λ k. get_or c.knots k 0) first (count + m + 1)
  counted-part v =
      counted-list v cut.knots
      ∙ ap (counted v (λ k. get_or cut.knots k 0) 0) knots-long
      ∙ counted_same v (λ k. get_or cut.knots k 0) (λ k. get_or c.knots k 0) 0 first (count + m + 1) (λ k l. rw (zero-add k) (knot-at k l))

  at_most : (v : ℕ) → occurrences v cut.knots ≤ occurrences v c.knots
  at_most v = rw (counted-part v) (counted-run v c.knots first (count + m + 1) knots-within)

  as-often : (v : ℕ) → get_or c.knots m 0 < v → v < get_or c.knots (length c.xs) 0 → occurrences v cut.knots ≡ occurrences v c.knots
  as-often v low high =
      counted-part v
      ∙ sym (counted-middle v c.knots first (count + m + 1) knots-within
      (λ k l same. omega (arith, h.rising k i (omega arith) (omega (arith, e.order, e.to, h.sizes.knots)), e.starts i e.from (omega arith)))
      (λ k l u same. omega (arith, h.rising (j + 1) k (omega (arith, e.from, e.order)) u, e.stops (j + 1) (omega arith) (omega (arith, e.to)))))

  cut-checked : Checked m cut.knots cut.xs cut.ys
  cut-checked =
      let z = h.sizes in
      let stop : get_or cut.knots (length cut.xs) 0 ≡ get_or c.knots (length c.xs) 0 = ap (λ (n : ℕ). get_or cut.knots n 0) xs-long ∙ stops in
      record {
        sizes =
            record {
              degree-least = z.degree-least;
              degree-most = z.degree-most;
              as_many = ys-long ∙ sym xs-long;
              enough = omega (arith, xs-long, many);
              most = omega (arith, xs-long, within, z.most);
              knots = knots-long ∙ ap (λ (n : ℕ). n + m + 1) (sym xs-long);
            };
        rising = λ a b l u.
            let inside : b < count + m + 1 = omega (arith, knots-long) in
            rw (knot-at a (omega arith), knot-at b inside) (h.rising (first + a) (first + b) (omega arith) (omega (arith, knots-within)));
        largest = λ a u.
            let inside : a < count + m + 1 = omega (arith, knots-long) in
            rw (knot-at a inside) (h.largest (first + a) (omega (arith, knots-within)));
        domain = rw (starts, stop) h.domain;
        inner = λ v low high. omega (arith, at_most v, h.inner v (omega (arith, starts)) (omega (arith, stop)));
        outer = λ v. omega (arith, at_most v, h.outer v);
        grid_x = λ a u.
            let inside : a < count = omega (arith, xs-long) in
            rw (x-at a inside) (h.grid_x (first + a) (omega (arith, within)));
        grid_y = λ a u.
            let inside : a < count = omega (arith, ys-long) in
            rw (y-at a inside) (h.grid_y (first + a) (omega (arith, within, z.as_many)));
      }

  part-facts : PartFacts m c cut first count
  part-facts =
      record {
        within = within;
        enough = many;
        count-knots = knots-long;
        count-xs = xs-long;
        count-ys = ys-long;
        knot = knot-at;
        x = x-at;
        y = y-at;
        start = starts;
        stop = stops;
        first-wide = rw (starts, second) e.first-wide;
        last-wide = rw (last, stops) e.last-wide;
        inner = as-often;
        checked = cut-checked;
      }

pub part-of-checked : (m : ℕ) (c : Lists) → Checked m c.knots c.xs c.ys → PartFacts m c (carrying_part m c) (carriers_from m c) (carriers m c)
part-of-checked m c h =
    let e = end-spans m c h in
    part-facts m c h (first_span m c) (last_span m c) e (carriers_from m c) (carriers m c) (omega (arith, e.from)) (omega (arith, e.from, e.order))

pub part-of-passes : (m : ℕ) (c : Lists) → Passes m c.knots c.xs c.ys → PartFacts m c (carrying_part m c) (carriers_from m c) (carriers m c)
part-of-passes m c h = part-of-checked m c (checked-of-passes m c.knots c.xs c.ys h)
