-- How often a value stands in a list, counted by index: run by run.
use mathlib.Core.Bool.{cond}
use mathlib.Core.List.{List, [], ◌∷◌}
use mathlib.Core.Path.{◌≡◌, refl, sym, ap, ◌∙◌}
use Prim.Native.Nat.{ℕ, zero, suc, ◌+◌, ◌-◌, ◌≤◌, ◌<◌}
use native.Mathlib.Nat.{suc-add, add-suc, zero-add, add-zero}
use native.Mathlib.Decide.{ℕ_discrete}
use native.Mathlib.Omega.{arith}
use lib.Dec.{eqb}
use lib.ListN.{length, get_or}
use borrow.Author.Tests.{eq-eqb, ne_eqb}
use Rattle.grid.specs.Rows.{occurrences}

-- how many of the `count` entries from index i on are v
unfoldable pub counted : ℕ → (ℕ → ℕ) → ℕ → ℕ → ℕ
counted v f i zero = 0
counted v f i (suc count) = let rest = counted v f (suc i) count in cond (eqb (f i) v) (suc rest) rest

-- entries that are the same, one by one
pub counted_same : (v : ℕ) (f g : ℕ → ℕ) (i j count : ℕ) → ((k : ℕ) → k < count → f (i + k) ≡ g (j + k))
    → counted v f i count ≡ counted v g j count
unfolding counted
counted_same v f g i j zero same = refl
counted_same v f g i j (suc count) same =
    let here : f i ≡ g j = rw (add-zero i, add-zero j) at (same 0 (omega arith)) in
    let rest : counted v f (suc i) count ≡ counted v g (suc j) count =
    counted_same v f g (suc i) (suc j) count (λ k l. rw (suc-add i k, suc-add j k, ← add-suc i k, ← add-suc j k) (same (suc k) (omega arith))) in
    rw (here, rest)

-- two runs, one behind the other
pub counted-split : (v : ℕ) (f : ℕ → ℕ) (i a b : ℕ) → counted v f i (a + b) ≡ counted v f i a + counted v f (i + a) b
unfolding counted
counted-split v f i zero b = rw (zero-add b, add-zero i) (sym (zero-add (counted v f i b)))
counted-split v f i (suc a) b =
    let rest : counted v f (suc i) (a + b) ≡ counted v f (suc i) a + counted v f (suc i + a) b = counted-split v f (suc i) a b in
    let next : i + suc a ≡ suc i + a = omega arith in
    elim (ℕ_discrete (f i) v) [
      | yes e ↦ rw (suc-add a b, next, eq-eqb (f i) v e) (omega arith)
      | no n ↦ rw (suc-add a b, next, ne_eqb (f i) v n) rest
    ]

-- all are v
pub counted-all : (v : ℕ) (f : ℕ → ℕ) (i count : ℕ) → ((k : ℕ) → i ≤ k → k < i + count → f k ≡ v) → counted v f i count ≡ count
unfolding counted
counted-all v f i zero all = refl
counted-all v f i (suc count) all =
    rw (eq-eqb (f i) v (all i (omega arith) (omega arith)), counted-all v f (suc i) count (λ k l u. all k (omega arith) (omega arith)))

-- none is
pub counted_none : (v : ℕ) (f : ℕ → ℕ) (i count : ℕ) → ((k : ℕ) → i ≤ k → k < i + count → f k ≡ v → ⊥) → counted v f i count ≡ 0
unfolding counted
counted_none v f i zero none = refl
counted_none v f i (suc count) none =
    rw (ne_eqb (f i) v (none i (omega arith) (omega arith))) (counted_none v f (suc i) count (λ k l u. none k (omega arith) (omega arith)))

-- a list
pub counted-list : (v : ℕ) (ts : List ℕ) → occurrences v ts ≡ counted v (λ k. get_or ts k 0) 0 (length ts)
unfolding occurrences counted
counted-list v [] = refl
counted-list v (t ∷ ts) =
    let rest : occurrences v ts ≡ counted v (λ k. get_or (t ∷ ts) k 0) (suc 0) (length ts) =
    counted-list v ts
    ∙ counted_same v (λ k. get_or ts k 0) (λ k. get_or (t ∷ ts) k 0) 0 (suc 0) (length ts) (λ k l. rw (suc-add 0 k, zero-add k)) in
    rw rest

-- a list in three runs: the middle one has no more than the whole, and as many where the others have none
module _ (v : ℕ) (ts : List ℕ) (a b : ℕ) (within : a + b ≤ length ts) where
  abbrev entry : ℕ → ℕ
  entry k = get_or ts k 0

  abbrev behind : ℕ
  behind = length ts - (a + b)

  three-runs : occurrences v ts ≡ counted v entry 0 a + counted v entry a b + counted v entry (a + b) behind
  three-runs =
      let long : length ts ≡ a + b + behind = omega arith in
      counted-list v ts
      ∙ ap (counted v entry 0) long
      ∙ counted-split v entry 0 (a + b) behind
      ∙ rw (counted-split v entry 0 a b, zero-add a, zero-add (a + b))

  pub counted-run : counted v entry a b ≤ occurrences v ts
  counted-run = omega (arith, three-runs)

  pub counted-middle : ((k : ℕ) → k < a → get_or ts k 0 ≡ v → ⊥)
      → ((k : ℕ) → a + b ≤ k → k < length ts → get_or ts k 0 ≡ v → ⊥) → occurrences v ts ≡ counted v entry a b
  counted-middle before after =
      omega (
        arith,
        three-runs,
        counted_none v entry 0 a (λ k l u. before k (omega arith)),
        counted_none v entry (a + b) behind (λ k l u. after k l (omega arith)),
      )
