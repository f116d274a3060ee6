-- The span of a parameter in a curve and in its clamped part: the same span, so many places on.
use mathlib.Core.Bool.{true}
use mathlib.Core.List.{List}
use mathlib.Core.Path.{◌≡◌, sym, ap, ◌∙◌}
use Prim.Native.Nat.{ℕ, ◌+◌, ◌-◌, ◌≤◌, ◌<◌}
use native.Mathlib.Decide.{dec_le}
use native.Mathlib.Omega.{arith}
use lib.IntN.{ℤ, pos}
use lib.ListN.{length, get_or}
use borrow.Author.Tests.{le-leb, lt-leb}
use Rattle.span.specs.Span.{IsSpan, span_of, in_domain}
use Rattle.span.proofs.SpanLaws.{span_of-is, in_domain-says}
use Rattle.span.proofs.SentenceLaws.{span-exactly}
use Rattle.curve.specs.Lists.{NeverFall}
use Rattle.insertion.specs.Insertion.{entries}
use Rattle.insertion.proofs.EntryLaws.{entries_at}
use Rattle.clamping.specs.Clamping.{clamped_knot}
use Rattle.ends_exact.proofs.EndLaws.{WideEnds}

-- a curve on one axis: its knots never fall, and its domain is not empty
pub record Axis (m : ℕ) (ts : List ℕ) (ps : List ℤ) : Type 0 where
  pub rises : NeverFall ts
  pub size : length ts ≡ length ps + m + 1
  pub domain : get_or ts m 0 < get_or ts (length ps) 0

-- ks and rs are n + 1 of its points and their knots, from `first` on: the domain is the same, and the outer spans are not empty
pub record PartOf (m : ℕ) (ts : List ℕ) (ps : List ℤ) (ks : List ℕ) (rs : List ℤ) (first n : ℕ) : Type 0 where
  pub wide : WideEnds m ks rs n
  pub within : first + (n + 1) ≤ length ps
  pub knot : (j : ℕ) → j < n + 1 + m + 1 → get_or ks j 0 ≡ get_or ts (first + j) 0
  pub point : (j : ℕ) → j < n + 1 → get_or rs j (pos 0) ≡ get_or ps (first + j) (pos 0)
  pub start : get_or ks m 0 ≡ get_or ts m 0
  pub stop : get_or ks (n + 1) 0 ≡ get_or ts (length ps) 0

module _ (m : ℕ) (ts : List ℕ) (ps : List ℤ) (a : Axis m ts ps) (ks : List ℕ) (rs : List ℤ) (first n : ℕ) (part : PartOf m ts ps ks rs first n) where
  abbrev us : List ℕ
  us = entries (clamped_knot m ks (n + 1)) (length ks)

  -- from t_m to t_{n+1} the clamped knots are the old ones
  pub knot-inside : (j : ℕ) → m ≤ j → j ≤ n + 1 → get_or us j 0 ≡ get_or ks j 0
  unfolding clamped_knot
  knot-inside j low high =
      let inside : j < length ks = omega (arith, part.wide.size) in
      entries_at (clamped_knot m ks (n + 1)) (length ks) j 0 inside
      ∙ elim (dec_le j m) [
        | yes at ↦
            let same : m ≡ j = omega arith in
            rw (le-leb j m at) (ap (λ (k : ℕ). get_or ks k 0) same)
        | no past ↦ elim (dec_le (n + 1) j) [
          | yes end ↦
              let same : n + 1 ≡ j = omega arith in
              rw (lt-leb j m (omega arith), le-leb (n + 1) j end) (ap (λ (k : ℕ). get_or ks k 0) same)
          | no before ↦ rw (lt-leb j m (omega arith), lt-leb (n + 1) j (omega arith)) (λ k. get_or ks j 0)
        ]
      ]

  pub knot-moved : (j : ℕ) → m ≤ j → j ≤ n + 1 → get_or us j 0 ≡ get_or ts (first + j) 0
  knot-moved j low high = knot-inside j low high ∙ part.knot j (omega arith)

  module _ (p q : ℕ) (inside : in_domain ts m (length ps - 1) p q ≡ true) where
    abbrev i : ℕ
    i = span_of ts m (length ps - 1) p q

    last : length ps - 1 + 1 ≡ length ps
    last = omega (arith, part.within)

    many : m ≤ length ps - 1
    many = omega (arith, part.within, part.wide.enough)

    old : IsSpan ts m (length ps - 1) p q i
    old = span_of-is ts m (length ps - 1) p q many (in_domain-says ts m (length ps - 1) p q inside).0 (rw last a.domain)

    -- its first span that is not empty starts no later ..
    not-before : first + m ≤ i
    not-before =
        let here = part.knot m (omega arith) in
        let next = part.knot (m + 1) (omega (arith, part.wide.enough)) in
        let place : first + (m + 1) ≡ first + m + 1 = omega arith in
        old.largest (first + m) (omega (arith, part.within, part.wide.enough))
        (rw (sym here ∙ part.start) (in_domain-says ts m (length ps - 1) p q inside).0)
        (omega (arith, part.wide.first, here, rw place at next))

    -- .. and its last one no earlier
    not_behind : i ≤ first + n
    not_behind =
        elim (dec_le i (first + n)) [
          | yes h ↦ h
          | no h ↦
              let end = part.knot (n + 1) (omega arith) in
              let low = a.rises (first + (n + 1)) i (omega arith) (omega (arith, a.size, old.to, part.within)) in
              let high = a.rises (i + 1) (length ps) (omega (arith, old.to, part.within)) (omega (arith, a.size)) in
              absurd (omega (arith, old.wide, end, part.stop))
        ]

    abbrev k : ℕ
    k = i - first

    pub span-from : m ≤ k
    span-from = omega (arith, not-before)

    pub span_to : k ≤ n
    span_to = omega (arith, not_behind)

    pub span-back : first + k ≡ i
    span-back = omega (arith, not-before)

    span-next : first + (k + 1) ≡ i + 1
    span-next = omega (arith, not-before)

    low-knot : get_or us k 0 ≡ get_or ts i 0
    low-knot = knot-moved k span-from (omega (arith, span_to)) ∙ ap (λ (j : ℕ). get_or ts j 0) span-back

    high-knot : get_or us (k + 1) 0 ≡ get_or ts (i + 1) 0
    high-knot = knot-moved (k + 1) (omega (arith, span-from)) (omega (arith, span_to)) ∙ ap (λ (j : ℕ). get_or ts j 0) span-next

    pub span-wide : get_or ks k 0 < get_or ks (k + 1) 0
    span-wide =
        omega (
          arith,
          old.wide,
          sym (knot-inside k span-from (omega (arith, span_to))) ∙ low-knot,
          sym (knot-inside (k + 1) (omega (arith, span-from)) (omega (arith, span_to))) ∙ high-knot,
        )

    new : IsSpan us m n p q k
    new = record {
      from = span-from;
      to = span_to;
      starts = rw low-knot old.starts;
      wide = rw (low-knot, high-knot) old.wide;
      largest = λ j most early some.
          elim (dec_le j m) [
            | yes h ↦ omega (arith, span-from)
            | no h ↦
                let place : first + (j + 1) ≡ first + j + 1 = omega arith in
                let here = knot-moved j (omega arith) (omega arith) in
                let next = knot-moved (j + 1) (omega arith) (omega arith) in
                let bound = old.largest (first + j) (omega (arith, part.within)) (rw here at early) (omega (arith, here, rw place at next)) in
                omega (arith, not-before)
          ];
    }

    -- the span rule gives it
    pub span-is : k ≡ span_of us m n p q
    span-is =
        (span-exactly us m n p q part.wide.enough
        (rw (knot-inside m (omega arith) (omega (arith, part.wide.enough)) ∙ part.start) (in_domain-says ts m (length ps - 1) p q inside).0)
        (rw (knot-inside m (omega arith) (omega (arith, part.wide.enough)), knot-inside (n + 1) (omega (arith, part.wide.enough)) (omega arith), part.start, part.stop) a.domain)
        k).0 new
