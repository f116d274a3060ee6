-- The spans that are not empty follow one another: between two that are neighbours all are empty, so the knots there are equal.
use mathlib.Core.Bool.{Bool, true, false}
use mathlib.Core.List.{List}
use mathlib.Core.Path.{◌≡◌, refl, sym, ap}
use Prim.Native.Nat.{ℕ, zero, suc, ◌+◌, ◌-◌, ◌≤◌, ◌<◌}
use native.Mathlib.Decide.{dec_le, ℕ_discrete}
use native.Mathlib.Omega.{arith}
use borrow.Author.Tests.{ltb-true, ltb-false}
use lib.ListN.{length, get_or}
use Rattle.curve.specs.Lists.{Lists, NeverFall}
use Rattle.checked.specs.Checked.{Checked}
use Rattle.span_walk.specs.SpansMet.{non_empty, span_count}
use Rattle.span_walk.proofs.ListedLaws.{Kept, keep-has, keep-only, keep-rises}
use Rattle.cutting.specs.Pieces.{piece_count}
use Rattle.cut_whole.specs.Sentences.{span_at, low_at, high_at, SpansInOrder}

-- where every span from a to b is empty, the two knots are equal
flat : (ts : List ℕ) → NeverFall ts → (a d : ℕ) → a + d < length ts → ((i : ℕ) → a ≤ i → i < a + d → non_empty ts i ≡ false) → get_or ts (a + d) 0 ≡ get_or ts a 0
flat ts rising a zero inside empty = let here : a + zero ≡ a = omega arith in ap (λ j. get_or ts j 0) here
flat ts rising a (suc d) inside empty =
    let next : a + suc d ≡ a + d + 1 = omega arith in
    let before = flat ts rising a d (omega arith) (λ i from to. empty i from (omega arith)) in
    let most = ltb-false (get_or ts (a + d) 0) (get_or ts (a + d + 1) 0) (empty (a + d) (omega arith) (omega arith)) in
    rw next (omega (arith, rising (a + d) (a + d + 1) (omega arith) (omega arith)))

flat-to : (ts : List ℕ) → NeverFall ts → (a b : ℕ) → a ≤ b → b < length ts → ((i : ℕ) → a ≤ i → i < b → non_empty ts i ≡ false) → get_or ts b 0 ≡ get_or ts a 0
flat-to ts rising a b le inside empty =
    let place : a + (b - a) ≡ b = omega arith in
    rw place at (flat ts rising a (b - a) (omega arith) (λ i from to. empty i from (omega arith)))

module _ (m : ℕ) (c : Lists) (known : Checked m c.knots c.xs c.ys) where
  abbrev ts : List ℕ
  ts = c.knots

  -- span k of those that are not empty
  pub span-kept : (k : ℕ) → k < piece_count m c → Kept (non_empty ts) m (length c.xs - m) (span_at m c k)
  unfolding span_count
  span-kept k h = keep-only (non_empty ts) m (length c.xs - m) k h

  pub span-inside : (k : ℕ) → k < piece_count m c → span_at m c k < length c.xs
  span-inside k h = omega (arith, (span-kept k h).to, known.sizes.enough)

  pub span-wide : (k : ℕ) → k < piece_count m c → low_at m c k < high_at m c k
  span-wide k h = ltb-true (low_at m c k) (high_at m c k) (span-kept k h).passes

  span-rises : (a b : ℕ) → a ≤ b → b < piece_count m c → span_at m c a ≤ span_at m c b
  unfolding span_count
  span-rises a b le h =
      elim (ℕ_discrete a b) [
        | yes e ↦ rw e (omega arith)
        | no n ↦ omega (arith, keep-rises (non_empty ts) m (length c.xs - m) a b (omega arith) h)
      ]

  -- a span that is none of them is empty
  others-empty : (i : ℕ) → m ≤ i → i < length c.xs → ((k : ℕ) → k < piece_count m c → span_at m c k ≡ i → ⊥) → non_empty ts i ≡ false
  unfolding span_count
  others-empty i from to none = by (non_empty ts i) refl
    where
      by : (b : Bool) → non_empty ts i ≡ b → b ≡ false
      by false e = refl
      by true e = let s = keep-has (non_empty ts) m (length c.xs - m) i from (omega arith) e in absurd (none s.0 s.1 s.2)

  -- the knots from a to b are equal where every span there would be one of those up to k, which end before a, or one of those behind k
  module _ (a b : ℕ) (from : m ≤ a) (le : a ≤ b) (to : b ≤ length c.xs) where
    none_between : ((k : ℕ) → k < piece_count m c → a ≤ span_at m c k → span_at m c k < b → ⊥) → get_or ts b 0 ≡ get_or ts a 0
    none_between none =
        flat-to ts known.rising a b le (omega (arith, known.sizes.knots))
        (λ i low high. others-empty i (omega arith) (omega arith) (λ k h e. none k h (omega (arith, e)) (omega (arith, e))))

  pub spans-some : 1 ≤ piece_count m c
  spans-some =
      elim (dec_le 1 (piece_count m c)) [
        | yes h ↦ h
        | no n ↦
            let flat-all = none_between m (length c.xs) (omega arith) (omega (arith, known.sizes.enough)) (omega arith) (λ k h low high. omega arith) in
            absurd (omega (arith, flat-all, known.domain))
      ]

  pub spans-start : low_at m c 0 ≡ get_or ts m 0
  spans-start =
      let kept = span-kept 0 (omega (arith, spans-some)) in
      none_between m (span_at m c 0) (omega arith) kept.from (omega (arith, span-inside 0 (omega (arith, spans-some))))
      (λ k h low high. omega (arith, span-rises 0 k (omega arith) h))

  pub spans-meet : (k : ℕ) → k + 1 < piece_count m c → high_at m c k ≡ low_at m c (k + 1)
  unfolding span_count
  spans-meet k h =
      let kept = span-kept k (omega arith) in
      let next = keep-rises (non_empty ts) m (length c.xs - m) k (k + 1) (omega arith) h in
      sym (none_between (span_at m c k + 1) (span_at m c (k + 1)) (omega (arith, kept.from)) (omega arith) (omega (arith, span-inside (k + 1) h))
      (λ l i low high.
      elim (dec_le l k) [
        | yes before ↦ omega (arith, span-rises l k before (omega arith))
        | no behind ↦ omega (arith, span-rises (k + 1) l (omega arith) i)
      ]))

  pub spans-stop : high_at m c (piece_count m c - 1) ≡ get_or ts (length c.xs) 0
  spans-stop =
      let last = piece_count m c - 1 in
      let inside : last < piece_count m c = omega (arith, spans-some) in
      sym (none_between (span_at m c last + 1) (length c.xs) (omega (arith, (span-kept last inside).from)) (omega (arith, span-inside last inside)) (omega arith)
      (λ k h low high. omega (arith, span-rises k last (omega arith) inside)))

  pub spans-in-order : SpansInOrder m c
  spans-in-order = record { some = spans-some; wide = span-wide; start = spans-start; meet = spans-meet; stop = spans-stop }
