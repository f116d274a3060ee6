-- The clamped curve: its lengths and entries, its knots by number, its domain, and that it passes the check with both ends clamped.
use mathlib.Core.List.{List}
use mathlib.Core.Path.{◌≡◌, sym, ap, ◌∙◌}
use Prim.Native.Nat.{ℕ, ◌+◌, ◌≤◌, ◌<◌}
use native.Mathlib.Decide.{ℕ_discrete}
use native.Mathlib.Omega.{arith}
use lib.IntN.{ℤ, pos, nat_abs}
use lib.ListN.{length, get_or, get_or-eq_default}
use Rattle.curve.specs.Lists.{Lists}
use Rattle.grid.specs.Limits.{coordinate_most}
use Rattle.grid.specs.Rows.{occurrences}
use Rattle.grid.specs.Check.{Passes}
use Rattle.checked.specs.Checked.{Checked, Clamped, OnGrid}
use Rattle.checked.proofs.GridLaws.{on_grid-facts, on_grid-size}
use Rattle.checked.proofs.CheckedLaws.{passes-of-checked}
use Rattle.insertion.proofs.OrderLaws.{either}
use Rattle.insertion.proofs.EntryLaws.{entries-length, entries_at}
use Rattle.insertion.proofs.CheckedLaws.{grid-of-size}
use Rattle.clamping.specs.Clamping.{carriers_from, carriers, carrying_part, clamped_number, whole_of, clamped_points, clamped_part, clamped}
use Rattle.clamping.specs.Sentences.{ClampedCounts, ClampedWell, ClampedKnots, ClampedPasses}
use Rattle.clamping.proofs.PartLaws.{PartFacts, part-of-passes}
use Rattle.clamping.proofs.KnotLaws.{KnotsClamped, knots-clamped, not-above, clamped-rising, inner-as-often, below_none, above-none, start-times, stop-times}
use Rattle.clamping.proofs.NumberLaws.{whole-within}

-- coordinates on the grid, past the end of the list too
pub range-of-grid : (ps : List ℤ) → ((a : ℕ) → a < length ps → OnGrid (get_or ps a (pos 0))) → (k : ℕ) → nat_abs (get_or ps k (pos 0)) ≤ coordinate_most
range-of-grid ps grid k =
    either k (length ps) (λ l. on_grid-size (get_or ps k (pos 0)) (grid k l)) (λ l. rw (get_or-eq_default ps (pos 0) l) (omega arith))

-- the points of one axis
module _ (m : ℕ) (ts : List ℕ) (ps : List ℤ) where
  pub points-length : length (clamped_points m ts ps) ≡ length ps
  points-length = entries-length (λ j. whole_of (clamped_number m ts ps j)) (length ps)

  pub points-at : (j : ℕ) → j < length ps → get_or (clamped_points m ts ps) j (pos 0) ≡ whole_of (clamped_number m ts ps j)
  points-at j l = entries_at (λ j. whole_of (clamped_number m ts ps j)) (length ps) j (pos 0) l

  points-grid : ((a : ℕ) → a < length ps → OnGrid (get_or ps a (pos 0))) → (a : ℕ) → a < length (clamped_points m ts ps)
      → OnGrid (get_or (clamped_points m ts ps) a (pos 0))
  points-grid grid a l =
      let z = whole_of (clamped_number m ts ps a) in
      rw (points-at a (omega (arith, points-length))) (on_grid-facts z (grid-of-size z (whole-within m ts ps (range-of-grid ps grid) a)))

-- d is the part of c that carries, e is d clamped
module _ (m : ℕ) (c d : Lists) (first count : ℕ) (p : PartFacts m c d first count) where
  abbrev e : Lists
  e = clamped_part m d

  knots : KnotsClamped m d.knots count e.knots
  knots = rw p.count-xs (knots-clamped m d.knots count p.enough p.count-knots)

  xs-long : length e.xs ≡ count
  xs-long = points-length m d.knots d.xs ∙ p.count-xs

  ys-long : length e.ys ≡ count
  ys-long = points-length m d.knots d.ys ∙ p.count-ys

  starts : get_or e.knots m 0 ≡ get_or c.knots m 0
  starts = knots.firsts m (omega arith) ∙ p.start

  stops : get_or e.knots (length e.xs) 0 ≡ get_or c.knots (length c.xs) 0
  stops = rw xs-long (knots.lasts count (omega arith) (omega (arith, knots.long)) ∙ p.stop)

  counts : ClampedCounts m c e
  counts =
      let rising = p.checked.rising in
      let start = p.start in
      let stop = p.stop in
      record {
        inner = λ v low high.
            inner-as-often m d.knots count e.knots knots p.enough p.count-knots rising v (omega arith) (omega arith) ∙ p.inner v low high;
        start = rw (← start) (start-times m d.knots count e.knots knots p.enough p.count-knots rising p.first-wide p.last-wide);
        stop = rw (← stop) (stop-times m d.knots count e.knots knots p.enough p.count-knots rising p.first-wide p.last-wide);
        below = λ v low. below_none m d.knots count e.knots knots p.enough p.count-knots rising v (omega arith);
        above = λ v high. above-none m d.knots count e.knots knots p.enough p.count-knots rising v (omega arith);
      }

  -- how often a value may stand, and does
  inner-most : (v : ℕ) → get_or c.knots m 0 < v → v < get_or c.knots (length c.xs) 0 → occurrences v e.knots ≤ m
  inner-most v low high =
      let stop : get_or d.knots (length d.xs) 0 ≡ get_or c.knots (length c.xs) 0 = rw p.count-xs p.stop in
      omega (arith, counts.inner v low high, p.inner v low high, p.checked.inner v (omega (arith, p.start)) (omega (arith, stop)))

  outer-most : (v : ℕ) → occurrences v e.knots ≤ m + 1
  outer-most v =
      let start = get_or c.knots m 0 in
      let stop = get_or c.knots (length c.xs) 0 in
      elim (ℕ_discrete v start) [
        | yes s ↦ rw s (omega (arith, counts.start))
        | no s ↦ elim (ℕ_discrete v stop) [
          | yes f ↦ rw f (omega (arith, counts.stop))
          | no f ↦
              either v start
              (λ l. omega (arith, counts.below v l))
              (λ l. either stop v (λ u. omega (arith, counts.above v u)) (λ u. omega (arith, inner-most v (omega arith) (omega arith))))
        ]
      ]

  e-checked : Checked m e.knots e.xs e.ys
  e-checked =
      let h = p.checked in
      let z = h.sizes in
      record {
        sizes =
            record {
              degree-least = z.degree-least;
              degree-most = z.degree-most;
              as_many = ys-long ∙ sym xs-long;
              enough = omega (arith, xs-long, p.enough);
              most = omega (arith, xs-long, p.count-xs, z.most);
              knots = knots.long ∙ ap (λ (n : ℕ). n + m + 1) (sym xs-long);
            };
        rising = clamped-rising m d.knots count e.knots knots p.enough p.count-knots h.rising;
        largest = λ a l.
            omega (
              arith,
              not-above m d.knots count e.knots knots p.enough p.count-knots h.rising a l,
              h.largest count (omega (arith, p.count-knots)),
            );
        domain = rw (starts, stops) (omega (arith, h.domain, p.start, ap (λ (n : ℕ). get_or d.knots n 0) p.count-xs, p.stop));
        inner = λ v low high. inner-most v (omega (arith, starts)) (omega (arith, stops));
        outer = outer-most;
        grid_x = points-grid m d.knots d.xs h.grid_x;
        grid_y = points-grid m d.knots d.ys h.grid_y;
      }

  e-clamped : Clamped m e.knots (length e.xs)
  e-clamped =
      record {
        firsts = λ a l. knots.firsts a l ∙ sym (knots.firsts m (omega arith));
        lasts = λ a l u.
            knots.lasts a (omega (arith, xs-long)) u ∙ sym (knots.lasts (length e.xs) (omega (arith, xs-long)) (omega (arith, xs-long, knots.long)));
      }

  well : ClampedWell m c e
  well = record { passes = passes-of-checked m e.knots e.xs e.ys e-checked; clamped-ends = e-clamped; start = starts; stop = stops }

-- the lengths and entries of the clamped curve: between its ends the old knots, and the points that the numbers are
pub record ClampedEntries (m : ℕ) (c e : Lists) : Type 0 where
  pub count-knots : length e.knots ≡ carriers m c + m + 1
  pub count-xs : length e.xs ≡ carriers m c
  pub count-ys : length e.ys ≡ carriers m c
  pub between : (k : ℕ) → m < k → k < carriers m c → get_or e.knots k 0 ≡ get_or c.knots (carriers_from m c + k) 0
  pub x : (k : ℕ) → k < carriers m c → get_or e.xs k (pos 0) ≡ whole_of (clamped_number m (carrying_part m c).knots (carrying_part m c).xs k)
  pub y : (k : ℕ) → k < carriers m c → get_or e.ys k (pos 0) ≡ whole_of (clamped_number m (carrying_part m c).knots (carrying_part m c).ys k)

pub clamped-entries : (m : ℕ) (c : Lists) → Passes m c.knots c.xs c.ys → ClampedEntries m c (clamped m c)
unfolding clamped
clamped-entries m c h =
    let p = part-of-passes m c h in
    let d = carrying_part m c in
    let us = knots m c d (carriers_from m c) (carriers m c) p in
    record {
      count-knots = us.long;
      count-xs = xs-long m c d (carriers_from m c) (carriers m c) p;
      count-ys = ys-long m c d (carriers_from m c) (carriers m c) p;
      between = λ k l u. us.between k l u ∙ p.knot k (omega arith);
      x = λ k l. points-at m d.knots d.xs k (omega (arith, p.count-xs));
      y = λ k l. points-at m d.knots d.ys k (omega (arith, p.count-ys));
    }

pub clamped-knots : ClampedKnots
unfolding clamped
clamped-knots m c h = counts m c (carrying_part m c) (carriers_from m c) (carriers m c) (part-of-passes m c h)

pub clamped-passes : ClampedPasses
unfolding clamped
clamped-passes m c h = well m c (carrying_part m c) (carriers_from m c) (carriers m c) (part-of-passes m c h)
