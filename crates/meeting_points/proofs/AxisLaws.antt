-- Inserting a value v that stands twice among the knots of a cubic, on one axis: where the mean for Q_k is a whole q, all means are whole, and the new
-- points are the old ones with q before P_k. For the other two means lie at a knot that is v already.
use mathlib.Core.Bool.{true}
use mathlib.Core.List.{List, ◌∷◌, ◌++◌}
use mathlib.Core.Path.{◌≡◌, ap, ◌∙◌}
use Prim.Native.Nat.{ℕ, suc, ◌+◌, ◌-◌, ◌≤◌, ◌<◌}
use native.Mathlib.Numerals.{add-one}
use native.Mathlib.Decide.{dec_le, ℕ_discrete}
use native.Mathlib.Omega.{arith}
use lib.IntN.{ℤ, pos}
use lib.ListN.{length, get_or}
use Rattle.signed.specs.Division.{divides}
use Rattle.insertion.specs.Insertion.{insertion_span, weighted_sum, weight, whole_points}
use Rattle.insertion.specs.Standing.{Insertable}
use Rattle.insertion.specs.Sentences.{Between, Quotient, NewPoints}
use Rattle.insertion.proofs.SpanLaws.{span-least, span-only, span-weighed}
use Rattle.insertion.proofs.WholeLaws.{whole-of-each}
use Rattle.insertion.proofs.KnownLaws.{quotient-whole, quotient-unique, quotient-old}
use Rattle.meeting_points.proofs.ListLaws.{one-put-in}

-- v stands behind t_k, twice and no more
pub record Twice (ts : List ℕ) (v k : ℕ) : Type 0 where
  pub low : get_or ts k 0 < v
  pub first : get_or ts (k + 1) 0 ≡ v
  pub second : get_or ts (k + 2) 0 ≡ v
  pub high : v < get_or ts (k + 3) 0

-- the second of the two begins the span
pub twice-between : (ts : List ℕ) (v k : ℕ) → Twice ts v k → k + 3 < length ts → Between ts v (k + 2)
twice-between ts v k t inside =
    let next : k + 2 + 1 ≡ k + 3 = omega arith in
    record { inside = omega arith; low = omega (arith, t.second); high = rw next t.high }

module _ (ts : List ℕ) (ps : List ℤ) (v k : ℕ) (q : ℤ) (t : Twice ts v k) (s : Insertable 3 ts ps v) (inside : k + 3 < length ts) (mean : Quotient 3 ts ps v k q) where
  span-is : k + 2 ≡ insertion_span ts v
  span-is = let b = twice-between ts v k t inside in span-only 3 ts ps v s (k + 2) b.inside b.low b.high

  later-mean : (j : ℕ) → k < j → j ≤ k + 2 → Quotient 3 ts ps v j (get_or ps (j - 1) (pos 0))
  later-mean j from to =
      elim (ℕ_discrete j (k + 1)) [
        | yes e ↦ quotient-old 3 ts ps v j (rw e t.first)
        | no e ↦ let last : j ≡ k + 2 = omega arith in quotient-old 3 ts ps v j (rw last t.second)
      ]

  pub axis-whole : whole_points 3 ts ps v ≡ true
  axis-whole = whole-of-each 3 ts ps v (span-least 3 ts ps v s) each
    where
      each : (j : ℕ) → insertion_span ts v < j + 3 → j ≤ insertion_span ts v → divides (weight 3 ts j) (weighted_sum 3 ts ps v j) ≡ true
      each j from to =
          let w = span-weighed 3 ts ps v s j from to in
          elim (ℕ_discrete j k) [
            | yes e ↦ quotient-whole 3 ts ps v j w.low w.high q (rw e mean)
            | no e ↦ quotient-whole 3 ts ps v j w.low w.high (get_or ps (j - 1) (pos 0)) (later-mean j (omega (arith, span-is)) (omega (arith, span-is)))
          ]

  pub axis-points : (front back qs : List ℤ) → ps ≡ front ++ back → length front ≡ k → NewPoints 3 ts ps v (k + 2) qs → qs ≡ front ++ (q ∷ back)
  axis-points front back qs parted place new =
      one-put-in (pos 0) q front back qs (new.count ∙ ap (λ (l : List ℤ). length l + 1) parted)
      (λ j below. new.left j (omega arith) ∙ same j)
      (rw place (mean-is k q (omega arith) (omega arith) mean))
      (λ j from to. later j (omega arith) (rw parted to) ∙ same j)
    where
      same : (j : ℕ) → get_or ps j (pos 0) ≡ get_or (front ++ back) j (pos 0)
      same j = ap (λ (l : List ℤ). get_or l j (pos 0)) parted

      mean-is : (j : ℕ) (p : ℤ) → k ≤ j → j ≤ k + 2 → Quotient 3 ts ps v j p → get_or qs j (pos 0) ≡ p
      mean-is j p from to e =
          let w = span-weighed 3 ts ps v s j (omega (arith, span-is)) (omega (arith, span-is)) in
          quotient-unique 3 ts ps v j w.low w.high (get_or qs j (pos 0)) p (new.between j (omega arith) to) e

      later : (j : ℕ) → k ≤ j → j < length ps → get_or qs (suc j) (pos 0) ≡ get_or ps j (pos 0)
      later j from to =
          elim (dec_le (suc j) (k + 2)) [
            | yes h ↦
                let back : suc j - 1 ≡ j = omega arith in
                mean-is (suc j) (get_or ps (suc j - 1) (pos 0)) (omega arith) h (later-mean (suc j) (omega arith) h) ∙ ap (λ (l : ℕ). get_or ps l (pos 0)) back
            | no h ↦ rw (← (add-one j)) (new.right j (omega arith) to)
          ]
