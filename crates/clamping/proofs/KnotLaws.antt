-- The knots of a clamped curve: t_m up to index m, t_{n+1} from index n+1 on, the old ones between; they never fall, and how often each value stands.
use mathlib.Core.List.{List}
use mathlib.Core.Path.{◌≡◌, sym, ◌∙◌}
use Prim.Native.Nat.{ℕ, ◌+◌, ◌-◌, ◌≤◌, ◌<◌}
use native.Mathlib.Omega.{arith}
use lib.ListN.{length, get_or}
use borrow.Author.Tests.{le-leb, lt-leb}
use Rattle.curve.specs.Lists.{NeverFall}
use Rattle.grid.specs.Rows.{occurrences}
use Rattle.insertion.specs.Insertion.{entries}
use Rattle.insertion.proofs.OrderLaws.{either}
use Rattle.insertion.proofs.EntryLaws.{entries-length, entries_at}
use Rattle.clamping.specs.Clamping.{clamped_knot}
use Rattle.clamping.proofs.CountLaws.{counted_same, counted-all, counted-list, counted_none, counted-middle}

-- us are the knots ts of a curve with `count` points, clamped
pub record KnotsClamped (m : ℕ) (ts : List ℕ) (count : ℕ) (us : List ℕ) : Type 0 where
  pub long : length us ≡ count + m + 1
  pub firsts : (k : ℕ) → k ≤ m → get_or us k 0 ≡ get_or ts m 0
  pub between : (k : ℕ) → m < k → k < count → get_or us k 0 ≡ get_or ts k 0
  pub lasts : (k : ℕ) → count ≤ k → k < length us → get_or us k 0 ≡ get_or ts count 0

-- by index
module _ (m : ℕ) (ts : List ℕ) (count : ℕ) where
  knot-first : (k : ℕ) → k ≤ m → clamped_knot m ts count k ≡ get_or ts m 0
  unfolding clamped_knot
  knot-first k l = rw (le-leb k m l)

  knot-between : (k : ℕ) → m < k → k < count → clamped_knot m ts count k ≡ get_or ts k 0
  unfolding clamped_knot
  knot-between k l u = rw (lt-leb k m l, lt-leb count k u)

  knot-last : (k : ℕ) → m < k → count ≤ k → clamped_knot m ts count k ≡ get_or ts count 0
  unfolding clamped_knot
  knot-last k l u = rw (lt-leb k m l, le-leb count k u)

  pub knots-clamped : m + 1 ≤ count → length ts ≡ count + m + 1 → KnotsClamped m ts count (entries (clamped_knot m ts count) (length ts))
  knots-clamped enough long =
      let f : ℕ → ℕ = clamped_knot m ts count in
      record {
        long = entries-length f (length ts) ∙ long;
        firsts = λ k l. entries_at f (length ts) k 0 (omega arith) ∙ knot-first k l;
        between = λ k l u. entries_at f (length ts) k 0 (omega arith) ∙ knot-between k l u;
        lasts = λ k l u. entries_at f (length ts) k 0 (omega (arith, entries-length f (length ts))) ∙ knot-last k (omega arith) l;
      }

module _ (m : ℕ) (ts : List ℕ) (count : ℕ) (us : List ℕ) (c : KnotsClamped m ts count us) (enough : m + 1 ≤ count) (old : length ts ≡ count + m + 1)
    (rising : NeverFall ts) where
  -- a claim for each of the three runs
  by-run : {X : Type 0} (k : ℕ) → (k ≤ m → X) → (m < k → k < count → X) → (count ≤ k → X) → X
  by-run k first between last = either m k (λ l. either k count (between l) last) first

  rises : (a b : ℕ) → a ≤ b → b ≤ count → get_or ts a 0 ≤ get_or ts b 0
  rises a b l u = rising a b l (omega (arith, old))

  -- all lie in the domain
  pub not-below : (k : ℕ) → k < length us → get_or ts m 0 ≤ get_or us k 0
  not-below k inside =
      by-run k
      (λ l. omega (arith, c.firsts k l))
      (λ l u. omega (arith, c.between k l u, rises m k (omega arith) (omega arith)))
      (λ l. omega (arith, c.lasts k l inside, rises m count (omega arith) (omega arith)))

  pub not-above : (k : ℕ) → k < length us → get_or us k 0 ≤ get_or ts count 0
  not-above k inside =
      by-run k
      (λ l. omega (arith, c.firsts k l, rises m count (omega arith) (omega arith)))
      (λ l u. omega (arith, c.between k l u, rises k count (omega arith) (omega arith)))
      (λ l. omega (arith, c.lasts k l inside))

  -- they never fall
  pub clamped-rising : NeverFall us
  clamped-rising a b l inside =
      by-run a
      (λ h. omega (arith, c.firsts a h, not-below b inside))
      (λ h k. by-run b
      (λ g. absurd (omega arith))
      (λ g o. omega (arith, c.between a h k, c.between b g o, rises a b l (omega arith)))
      (λ g. omega (arith, c.lasts b g inside, not-above a (omega arith))))
      (λ h. omega (arith, c.lasts a h (omega arith), c.lasts b (omega arith) inside))

  -- a value strictly inside the domain stands as often as before
  pub inner-as-often : (v : ℕ) → get_or ts m 0 < v → v < get_or ts count 0 → occurrences v us ≡ occurrences v ts
  inner-as-often v low high =
      let b = count - (m + 1) in
      counted-middle v us (m + 1) b (omega (arith, c.long))
      (λ k l same. omega (arith, c.firsts k (omega arith)))
      (λ k l u same. omega (arith, c.lasts k (omega arith) u))
      ∙ counted_same v (λ k. get_or us k 0) (λ k. get_or ts k 0) (m + 1) (m + 1) b (λ k l. c.between (m + 1 + k) (omega arith) (omega arith))
      ∙ sym (counted-middle v ts (m + 1) b (omega (arith, old))
      (λ k l same. omega (arith, rises k m (omega arith) (omega arith)))
      (λ k l u same. omega (arith, rising count k (omega arith) u)))

  -- a value outside the domain stands nowhere
  outside-none : (v : ℕ) → ((k : ℕ) → k < length us → get_or us k 0 ≡ v → ⊥) → occurrences v us ≡ 0
  outside-none v none = counted-list v us ∙ counted_none v (λ k. get_or us k 0) 0 (length us) (λ k l u. none k (omega arith))

  pub below_none : (v : ℕ) → v < get_or ts m 0 → occurrences v us ≡ 0
  below_none v low = outside-none v (λ k inside same. omega (arith, not-below k inside))

  pub above-none : (v : ℕ) → get_or ts count 0 < v → occurrences v us ≡ 0
  above-none v high = outside-none v (λ k inside same. omega (arith, not-above k inside))

  -- where the first and the last span are not empty, each end value stands m+1 times
  module _ (first-wide : get_or ts m 0 < get_or ts (m + 1) 0) (last-wide : get_or ts (count - 1) 0 < get_or ts count 0) where
    pub start-times : occurrences (get_or ts m 0) us ≡ m + 1
    start-times =
        counted-middle (get_or ts m 0) us 0 (m + 1) (omega (arith, c.long))
        (λ k l same. omega arith)
        (λ k l u same.
        either k count
        (λ h. omega (arith, c.between k (omega arith) h, rises (m + 1) k (omega arith) (omega arith)))
        (λ h. omega (arith, c.lasts k h u, rises (m + 1) count (omega arith) (omega arith))))
        ∙ counted-all (get_or ts m 0) (λ k. get_or us k 0) 0 (m + 1) (λ k l u. c.firsts k (omega arith))

    pub stop-times : occurrences (get_or ts count 0) us ≡ m + 1
    stop-times =
        counted-middle (get_or ts count 0) us count (m + 1) (omega (arith, c.long))
        (λ k l same.
        either m k
        (λ h. omega (arith, c.between k h l, rises k (count - 1) (omega arith) (omega arith)))
        (λ h. omega (arith, c.firsts k h, rises m (count - 1) (omega arith) (omega arith))))
        (λ k l u same. omega (arith, c.long))
        ∙ counted-all (get_or ts count 0) (λ k. get_or us k 0) count (m + 1) (λ k l u. c.lasts k l (omega (arith, c.long)))
