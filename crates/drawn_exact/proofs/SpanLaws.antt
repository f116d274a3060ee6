-- The spans of a curve and of its clamped copy that are not empty are the same, so many places on.
use mathlib.Core.Bool.{Bool, true, false, cond}
use mathlib.Core.List.{List, [], ◌∷◌, ◌++◌, append-nil, map}
use mathlib.Core.Path.{◌≡◌, refl, sym, ap, ap₂, ◌∙◌}
use Prim.Native.Nat.{ℕ, zero, suc, ◌+◌, ◌-◌, ◌≤◌, ◌<◌}
use native.Mathlib.Decide.{dec_le}
use native.Mathlib.Omega.{arith}
use lib.Dec.{ltb}
use lib.ListN.{length, get_or}
use borrow.Author.Tests.{le-ltb}
use Rattle.curve.specs.Lists.{Lists}
use Rattle.grid.specs.Check.{Passes}
use Rattle.checked.specs.Checked.{Checked}
use Rattle.checked.proofs.CheckedLaws.{checked-of-passes}
use Rattle.clamping.specs.Clamping.{first_span, last_span, carriers_from, carriers, clamped}
use Rattle.clamping.proofs.EndSpanLaws.{EndSpans, end-spans}
use Rattle.clamping.proofs.ClampedLaws.{ClampedEntries, clamped-entries, clamped-passes}
use Rattle.span_walk.specs.SpansMet.{up_from, keep, spans_of, non_empty}

-- a run of numbers in two parts, and what is kept of it
up_from-parts : (i a b : ℕ) → up_from i (a + b) ≡ up_from i a ++ up_from (i + a) b
unfolding up_from
up_from-parts i zero b =
    let here : i ≡ i + zero = omega arith in
    let all : zero + b ≡ b = omega arith in
    rw all (ap (λ (k : ℕ). up_from k b) here)
up_from-parts i (suc a) b =
    let next : suc i + a ≡ i + suc a = omega arith in
    let more : suc a + b ≡ suc (a + b) = omega arith in
    rw more (ap (λ (l : List ℕ). i ∷ l) (up_from-parts (suc i) a b ∙ ap (λ (k : ℕ). up_from (suc i) a ++ up_from k b) next))

keep-parts : (test : ℕ → Bool) (k l : List ℕ) → keep test (k ++ l) ≡ keep test k ++ keep test l
unfolding keep
keep-parts test [] l = refl
keep-parts test (i ∷ k) l = go (test i) (keep-parts test k l)
  where
    go : (b : Bool) → keep test (k ++ l) ≡ keep test k ++ keep test l
        → cond b (i ∷ keep test (k ++ l)) (keep test (k ++ l)) ≡ cond b (i ∷ keep test k) (keep test k) ++ keep test l
    go true e = ap (λ (x : List ℕ). i ∷ x) e
    go false e = e

keep-none : (test : ℕ → Bool) (i count : ℕ) → ((j : ℕ) → i ≤ j → j < i + count → test j ≡ false) → keep test (up_from i count) ≡ []
unfolding keep up_from
keep-none test i zero none = refl
keep-none test i (suc count) none = rw (none i (omega arith) (omega arith)) (keep-none test (suc i) count (λ j a b. none j (omega arith) (omega arith)))

-- the same tests, so many places on
keep-moved : (test other : ℕ → Bool) (first i count : ℕ) → ((j : ℕ) → i ≤ j → j < i + count → other j ≡ test (first + j))
    → keep test (up_from (first + i) count) ≡ map (λ j. first + j) (keep other (up_from i count))
unfolding keep up_from
keep-moved test other first i zero same = refl
keep-moved test other first i (suc count) same =
    let next : suc (first + i) ≡ first + suc i = omega arith in
    rw (next, same i (omega arith) (omega arith)) (go (test (first + i)) (keep-moved test other first (suc i) count (λ j a b. same j (omega arith) (omega arith))))
  where
    go : (b : Bool) → keep test (up_from (first + suc i) count) ≡ map (λ j. first + j) (keep other (up_from (suc i) count))
        → cond b ((first + i) ∷ keep test (up_from (first + suc i) count)) (keep test (up_from (first + suc i) count))
        ≡ map (λ j. first + j) (cond b (i ∷ keep other (up_from (suc i) count)) (keep other (up_from (suc i) count)))
    go true e = ap (λ (x : List ℕ). (first + i) ∷ x) e
    go false e = e

module _ (m : ℕ) (c : Lists) (passes : Passes m c.knots c.xs c.ys) where
  abbrev ts : List ℕ
  ts = c.knots

  abbrev us : List ℕ
  us = (clamped m c).knots

  abbrev first : ℕ
  first = carriers_from m c

  facts : Checked m c.knots c.xs c.ys
  facts = checked-of-passes m c.knots c.xs c.ys passes

  ends : EndSpans m c (first_span m c) (last_span m c)
  ends = end-spans m c facts

  entries : ClampedEntries m c (clamped m c)
  entries = clamped-entries m c passes

  -- from t_m to t_{n+1} the knots of the copy are those of the curve
  pub knot-moved : (j : ℕ) → m ≤ j → j ≤ carriers m c → get_or us j 0 ≡ get_or ts (first + j) 0
  knot-moved j low high =
      let well = clamped-passes m c passes in
      let end : get_or us (carriers m c) 0 ≡ get_or us (length (clamped m c).xs) 0 = ap (λ (k : ℕ). get_or us k 0) (sym entries.count-xs) in
      elim (dec_le j m) [
        | yes at ↦
            let here : j ≡ m = omega arith in
            let place : first + m ≡ first_span m c = omega (arith, ends.from) in
            rw here (well.start ∙ sym (ends.starts (first_span m c) ends.from (omega arith)) ∙ ap (λ (k : ℕ). get_or ts k 0) (sym place))
        | no past ↦ elim (dec_le (carriers m c) j) [
          | yes far ↦
              let here : j ≡ carriers m c = omega arith in
              let place : first + carriers m c ≡ last_span m c + 1 = omega (arith, ends.from, ends.order) in
              rw here (end ∙ well.stop ∙ sym (ends.stops (last_span m c + 1) (omega arith) (omega (arith, ends.to))) ∙ ap (λ (k : ℕ). get_or ts k 0) (sym place))
          | no near ↦ entries.between j (omega arith) (omega arith)
        ]
      ]

  -- the spans outside the part that carries are empty
  empty-before : (j : ℕ) → m ≤ j → j < m + first → non_empty ts j ≡ false
  empty-before j low high =
      le-ltb (get_or ts j 0) (get_or ts (j + 1) 0) (omega (arith, ends.starts j low (omega (arith, ends.from)), ends.starts (j + 1) (omega arith) (omega (arith, ends.from))))

  empty-behind : (j : ℕ) → last_span m c < j → j < length c.xs → non_empty ts j ≡ false
  empty-behind j low high =
      le-ltb (get_or ts j 0) (get_or ts (j + 1) 0) (omega (arith, ends.stops j low (omega arith), ends.stops (j + 1) (omega arith) (omega arith)))

  -- the spans that are not empty
  pub spans-moved : keep (non_empty ts) (spans_of m (length c.xs)) ≡ map (λ j. first + j) (keep (non_empty us) (spans_of m (length (clamped m c).xs)))
  spans-moved =
      let inner = carriers m c - m in
      let rest = length c.xs - (last_span m c + 1) in
      let from = ends.from in
      let order = ends.order in
      let to = ends.to in
      let all : length c.xs - m ≡ first + (inner + rest) = omega arith in
      let start : m + first ≡ first + m = omega arith in
      let behind : first + m + inner ≡ last_span m c + 1 = omega arith in
      let parts : up_from m (length c.xs - m) ≡ up_from m first ++ (up_from (first + m) inner ++ up_from (last_span m c + 1) rest) =
      ap (up_from m) all
      ∙ up_from-parts m first (inner + rest)
      ∙ ap (λ (k : ℕ). up_from m first ++ up_from k (inner + rest)) start
      ∙ ap (λ (l : List ℕ). up_from m first ++ l) (up_from-parts (first + m) inner rest ∙ ap (λ (k : ℕ). up_from (first + m) inner ++ up_from k rest) behind) in
      ap (keep (non_empty ts)) parts
      ∙ keep-parts (non_empty ts) (up_from m first) (up_from (first + m) inner ++ up_from (last_span m c + 1) rest)
      ∙ ap₂ (λ (k l : List ℕ). k ++ l) (keep-none (non_empty ts) m first empty-before)
      (keep-parts (non_empty ts) (up_from (first + m) inner) (up_from (last_span m c + 1) rest)
      ∙ ap₂ (λ (k l : List ℕ). k ++ l)
      (keep-moved (non_empty ts) (non_empty us) first m inner
      (λ j a b.
      let place : first + (j + 1) ≡ first + j + 1 = omega arith in
      ap₂ ltb (knot-moved j a (omega arith)) (knot-moved (j + 1) (omega arith) (omega arith) ∙ ap (λ (k : ℕ). get_or ts k 0) place)))
      (keep-none (non_empty ts) (last_span m c + 1) rest (λ j a b. empty-behind j (omega arith) (omega arith))))
      ∙ append-nil _
      ∙ ap (λ (k : ℕ). map (λ j. first + j) (keep (non_empty us) (up_from m (k - m)))) (sym entries.count-xs)
