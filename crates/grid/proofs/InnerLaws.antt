-- Row 6 in knots that never fall: no value stands too often exactly where none of three runs of knots has one that comes again: m+1 places on round either
-- end of the domain, m places on between them.
use mathlib.Core.Bool.{true, false, and-false}
use mathlib.Core.List.{List}
use mathlib.Core.Path.{◌≡◌, ◌∙◌}
use Prim.Native.Nat.{ℕ, ◌+◌, ◌*◌, ◌-◌, ◌≤◌, ◌<◌}
use native.Mathlib.Decide.{ℕ_discrete, dec_le}
use native.Mathlib.Omega.{arith}
use lib.Dec.{ltb}
use lib.ListN.{length, get_or}
use borrow.Author.Tests.{eq-eqb, ne_eqb, lt-ltb, le-ltb}
use Rattle.grid.specs.Rows.{rises_from, domain_start, domain_end, repeats_most, repeats_ok}
use Rattle.grid.specs.Again.{Again}
use Rattle.grid.proofs.RepeatLaws.{rises-between, equals_far, repeats-hold, repeats-fail}

-- how often a value may stand: strictly inside the domain, and elsewhere
module _ (m : ℕ) (ts : List ℕ) (v : ℕ) where
  pub most-inside : domain_start m ts < v → v < domain_end m ts → repeats_most m ts v ≡ m
  unfolding repeats_most
  most-inside a b = rw (lt-ltb (domain_start m ts) v a, lt-ltb v (domain_end m ts) b)

  pub most-left : v ≤ domain_start m ts → repeats_most m ts v ≡ m + 1
  unfolding repeats_most
  most-left a = rw (le-ltb (domain_start m ts) v a)

  pub most-right : domain_end m ts ≤ v → repeats_most m ts v ≡ m + 1
  unfolding repeats_most
  most-right b = rw (le-ltb v (domain_end m ts) b, and-false (ltb (domain_start m ts) v))

-- a knot that has its equal as far on as its value may stand, and one that has not
far-equal : (m : ℕ) (ts : List ℕ) (j k : ℕ) → repeats_most m ts (get_or ts j 0) ≡ k → j + k < length ts → get_or ts (j + k) 0 ≡ get_or ts j 0 → equals_far m ts j ≡ true
far-equal m ts j k most l e = rw (most, lt-ltb (j + k) (length ts) l, eq-eqb (get_or ts (j + k) 0) (get_or ts j 0) e)

far-other : (m : ℕ) (ts : List ℕ) (j k : ℕ) → repeats_most m ts (get_or ts j 0) ≡ k → (j + k < length ts → get_or ts (j + k) 0 ≡ get_or ts j 0 → ⊥) → equals_far m ts j ≡ false
far-other m ts j k most n =
    elim (ℕ_discrete (get_or ts (j + k) 0) (get_or ts j 0)) [
      | yes e ↦
          let short : j + k < length ts → ⊥ = λ l. n l e in
          rw (most, le-ltb (j + k) (length ts) (omega arith))
      | no q ↦ rw (most, ne_eqb (get_or ts (j + k) 0) (get_or ts j 0) q) (and-false (ltb (j + k) (length ts)))
    ]

module _ (m : ℕ) (ts : List ℕ) (rises : rises_from 0 ts ≡ true) where
  rising : (i j : ℕ) → i ≤ j → j < length ts → get_or ts i 0 ≤ get_or ts j 0
  rising i j o l = rises-between 0 ts i j rises o l

  -- m places on, strictly inside the domain
  again-inside : (j i : ℕ) → i ≡ j + m → i < length ts → get_or ts i 0 ≡ get_or ts j 0 → domain_start m ts < get_or ts j 0 → get_or ts j 0 < domain_end m ts
      → repeats_ok m ts ≡ false
  again-inside j i there l e a b =
      repeats-fail m ts rises j (omega arith) (far-equal m ts j m (most-inside m ts (get_or ts j 0) a b) (omega arith) (rw (← there) e))

  -- m+1 places on, wherever the value lies
  pub again-far : (i : ℕ) → m + 1 ≤ i → i < length ts → Again ts (m + 1) i → repeats_ok m ts ≡ false
  again-far i long l e =
      let j = i - (m + 1) in
      let v = get_or ts (i - (m + 1)) 0 in
      let there : i ≡ j + (m + 1) = omega arith in
      let too_far : repeats_most m ts v ≡ m + 1 → repeats_ok m ts ≡ false =
      λ most. repeats-fail m ts rises j (omega arith) (far-equal m ts j (m + 1) most (omega arith) (rw (← there) e)) in
      let near : get_or ts (j + m) 0 ≡ v = omega (arith, rising j (j + m) (omega arith) (omega arith), rising (j + m) i (omega arith) l, e) in
      elim (dec_le v (domain_start m ts)) [
        | yes a ↦ too_far (most-left m ts v a)
        | no a ↦ elim (dec_le (domain_end m ts) v) [
          | yes b ↦ too_far (most-right m ts v b)
          | no b ↦ again-inside j (j + m) (omega arith) (omega arith) near (omega arith) (omega arith)
        ]
      ]

  module _ (long : 2 * m + 2 ≤ length ts) (wide : domain_start m ts < domain_end m ts) where
    abbrev end : ℕ
    end = length ts - (m + 1)

    -- m places on, between the ends: an end value that reaches in so far stands m+2 times
    pub again-between : (i : ℕ) → m + (m + 1) ≤ i → i < end → Again ts m i → repeats_ok m ts ≡ false
    again-between i low high e =
        let j = i - m in
        let v = get_or ts (i - m) 0 in
        let start = rising m (j - 1) (omega arith) (omega arith) in
        let before = rising (j - 1) j (omega arith) (omega arith) in
        let behind = rising i (i + 1) (omega arith) (omega arith) in
        let stop = rising (i + 1) end (omega arith) (omega arith) in
        let left : i - (m + 1) ≡ j - 1 = omega arith in
        let right : i + 1 - (m + 1) ≡ j = omega arith in
        elim (dec_le v (domain_start m ts)) [
          | yes a ↦ again-far i (omega arith) (omega arith) (rw left (omega arith))
          | no a ↦ elim (dec_le (domain_end m ts) v) [
            | yes b ↦ again-far (i + 1) (omega arith) (omega arith) (rw right (omega arith))
            | no b ↦ again-inside j i (omega arith) (omega arith) e (omega arith) (omega arith)
          ]
        ]

    -- none of the three runs has one: no value stands too often
    module _ (start : (i : ℕ) → m + 1 ≤ i → i < m + (m + 1) → Again ts (m + 1) i → ⊥) (stop : (i : ℕ) → end + 1 ≤ i → i < length ts → Again ts (m + 1) i → ⊥)
        (between : (i : ℕ) → m + (m + 1) ≤ i → i < end → Again ts m i → ⊥) where
      -- a value that stands m+1 places on again
      none-far : (j : ℕ) → j + (m + 1) < length ts → get_or ts (j + (m + 1)) 0 ≡ get_or ts j 0 → ⊥
      none-far j l e =
          let i = j + (m + 1) in
          let here : i - (m + 1) ≡ j = omega arith in
          elim (dec_le (j + 1) m) [
            | yes a ↦ start i (omega arith) (omega arith) (rw here e)
            | no a ↦ elim (dec_le (end + 1) i) [
              | yes b ↦ stop i (omega arith) l (rw here e)
              | no b ↦ elim (ℕ_discrete j m) [
                | yes at ↦
                    let first : i - m ≡ m + 1 = omega arith in
                    let up = rising m (m + 1) (omega arith) (omega arith) in
                    let to = rising (m + 1) i (omega arith) l in
                    let same : get_or ts i 0 ≡ get_or ts m 0 = e ∙ rw at in
                    elim (ℕ_discrete i end) [
                      | yes last ↦ absurd (omega (arith, rw last at same))
                      | no inner ↦ between i (omega arith) (omega arith) (rw first (omega arith))
                    ]
                | no past ↦
                    let back : j + m - m ≡ j = omega arith in
                    let up = rising j (j + m) (omega arith) (omega arith) in
                    let to = rising (j + m) i (omega arith) l in
                    between (j + m) (omega arith) (omega arith) (rw back (omega arith))
              ]
            ]
          ]

      -- a value inside that stands m places on again
      none_inside : (j : ℕ) → j < length ts → domain_start m ts < get_or ts j 0 → get_or ts j 0 < domain_end m ts → j + m < length ts → get_or ts (j + m) 0 ≡ get_or ts j 0 → ⊥
      none_inside j here a b l e =
          let back : j + m - m ≡ j = omega arith in
          elim (dec_le j m) [
            | yes low ↦ omega (arith, rising j m low (omega arith))
            | no low ↦ elim (dec_le end (j + m)) [
              | yes high ↦ omega (arith, rising end (j + m) high l)
              | no high ↦ between (j + m) (omega arith) (omega arith) (rw back e)
            ]
          ]

      pub none-too-often : repeats_ok m ts ≡ true
      none-too-often = repeats-hold m ts rises at
        where
          at : (j : ℕ) → j < length ts → equals_far m ts j ≡ false
          at j l =
              let v = get_or ts j 0 in
              elim (dec_le v (domain_start m ts)) [
                | yes a ↦ far-other m ts j (m + 1) (most-left m ts v a) (none-far j)
                | no a ↦ elim (dec_le (domain_end m ts) v) [
                  | yes b ↦ far-other m ts j (m + 1) (most-right m ts v b) (none-far j)
                  | no b ↦ far-other m ts j m (most-inside m ts v (omega arith) (omega arith)) (none_inside j l (omega arith) (omega arith))
                ]
              ]
