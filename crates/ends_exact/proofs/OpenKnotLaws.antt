-- The knots of an unclamped curve: up to t_{n+1} the old ones, so that spans are the same, and behind it steps of the last span.
use mathlib.Core.List.{List}
use mathlib.Core.Path.{◌≡◌, refl, sym, ap, ◌∙◌}
use Prim.Native.Nat.{ℕ, zero, suc, ◌+◌, ◌*◌, ◌-◌, ◌≤◌, ◌<◌}
use native.Mathlib.Decide.{dec_le}
use native.Mathlib.Nat.{mul-le-mul_right}
use native.Mathlib.Omega.{arith}
use lib.ListN.{length, get_or}
use Rattle.curve.specs.Lists.{Lists, NeverFall}
use Rattle.grid.specs.Check.{Passes}
use Rattle.checked.specs.Checked.{Checked}
use Rattle.checked.proofs.CheckedLaws.{checked-of-passes}
use Rattle.span.specs.Span.{span_of}
use Rattle.insertion.specs.Insertion.{entries}
use Rattle.insertion.proofs.EntryLaws.{entries-length, entries_at}
use Rattle.unclamping.specs.Unclamping.{open_knot}
use Rattle.unclamping.proofs.EntryLaws.{knot-old, knot-behind}
use Rattle.unclamping.proofs.WidthLaws.{last-span}
use Rattle.ends_exact.proofs.UnclampAxisLaws.{OpenKnots}

-- the search for a span reads the knots up to the one behind n
pub span_same : (ts us : List ℕ) (m n p q : ℕ) → ((j : ℕ) → j ≤ n + 1 → get_or us j 0 ≡ get_or ts j 0) → span_of us m n p q ≡ span_of ts m n p q
unfolding span_of
span_same ts us m zero p q same = refl
span_same ts us m (suc n) p q same =
    rw (span_same ts us m n p q (λ j h. same j (omega arith)), same (suc n) (omega arith), same (suc n + 1) (omega arith))

module _ (m : ℕ) (c : Lists) (passes : Passes m c.knots c.xs c.ys) (agree : get_or c.knots (length c.xs + m) 0 ≡ get_or c.knots (length c.xs) 0) where
  abbrev ts : List ℕ
  ts = c.knots

  abbrev count : ℕ
  count = length c.xs

  abbrev n : ℕ
  n = count - 1

  abbrev us : List ℕ
  us = entries (open_knot ts count) (length ts)

  facts : Checked m c.knots c.xs c.ys
  facts = checked-of-passes m c.knots c.xs c.ys passes

  next : count ≡ n + 1
  next = omega (arith, facts.sizes.enough)

  size : length ts ≡ count + m + 1
  size = facts.sizes.knots

  some : get_or ts n 0 < get_or ts count 0
  some = last-span m ts c.xs c.ys passes agree

  old-at : (j : ℕ) → j ≤ count → get_or us j 0 ≡ get_or ts j 0
  old-at j h = entries_at (open_knot ts count) (length ts) j 0 (omega (arith, size)) ∙ knot-old ts count j h

  new-at : (k : ℕ) → k ≤ m → get_or us (count + k) 0 ≡ get_or ts count 0 + k * (get_or ts count 0 - get_or ts n 0)
  new-at k h = entries_at (open_knot ts count) (length ts) (count + k) 0 (omega (arith, size)) ∙ knot-behind ts count k

  -- the same by index
  behind : (j : ℕ) → count < j → j < length ts → get_or us j 0 ≡ get_or ts count 0 + (j - count) * (get_or ts count 0 - get_or ts n 0)
  behind j h l =
      let place : count + (j - count) ≡ j = omega arith in
      ap (λ (i : ℕ). get_or us i 0) (sym place) ∙ new-at (j - count) (omega (arith, size))

  new-rises : NeverFall us
  new-rises a b h inside =
      let within : b < length ts = rw (entries-length (open_knot ts count) (length ts)) at inside in
      elim (dec_le b count) [
        | yes low ↦ omega (arith, old-at a (omega arith), old-at b low, facts.rising a b h within)
        | no high ↦ elim (dec_le a count) [
          | yes low ↦ omega (arith, old-at a low, behind b (omega arith) within, facts.rising a count low (omega (arith, size)))
          | no far ↦
              let steps : (a - count) * (get_or ts count 0 - get_or ts n 0) ≤ (b - count) * (get_or ts count 0 - get_or ts n 0) = mul-le-mul_right (get_or ts count 0 - get_or ts n 0) (omega arith) in
              omega (arith, behind a (omega arith) (omega arith), behind b (omega arith) within)
        ]
      ]

  pub open-knots : OpenKnots m n ts us
  open-knots = record {
    least = facts.sizes.degree-least;
    most = facts.sizes.degree-most;
    enough = omega (arith, facts.sizes.enough);
    size = rw (← next) size;
    new_size = entries-length (open_knot ts count) (length ts) ∙ rw (← next) size;
    rises = facts.rising;
    new_rises = new-rises;
    some = rw (← next) some;
    lasts = λ k h. rw (← next) (omega (arith, agree, facts.rising count (count + k) (omega arith) (omega (arith, size)), facts.rising (count + k) (count + m) (omega arith) (omega (arith, size))));
    old = λ j h. old-at j (omega (arith, next));
    new = λ k h. rw (← next) (new-at k h);
  }
