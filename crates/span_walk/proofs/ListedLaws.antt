-- What is kept of a run of numbers: exactly those of the run that pass the test, in rising order; and one number worked out for each.
use mathlib.Core.Bool.{Bool, true, false, cond, false≢true}
use mathlib.Core.List.{List, [], ◌∷◌, map}
use mathlib.Core.Path.{◌≡◌, refl, sym, ◌∙◌}
use Prim.Native.Nat.{ℕ, zero, suc, ◌+◌, ◌≤◌, ◌<◌}
use native.Mathlib.Decide.{dec_le}
use native.Mathlib.Omega.{arith}
use lib.ListN.{length, get_or}
use Rattle.span_walk.specs.SpansMet.{up_from, keep}
use Rattle.span_walk.specs.Sentences.{Stands}

stands-behind : (l : List ℕ) (i j : ℕ) → Stands l i → Stands (j ∷ l) i
stands-behind l i j s = (suc s.0, omega (arith, s.1), s.2)

-- a number of the run that passes the test is kept
pub keep-has : (test : ℕ → Bool) (m count i : ℕ) → m ≤ i → i < m + count → test i ≡ true → Stands (keep test (up_from m count)) i
unfolding keep up_from
keep-has test m zero i low high passes = absurd (omega arith)
keep-has test m (suc count) i low high passes =
    by (test m) refl (dec_le i m) (λ h. keep-has test (suc m) count i (omega arith) (omega arith) passes)
  where
    here : i ≤ m → i ≡ m
    here h = omega arith

    by : (t : Bool) → test m ≡ t → Dec (i ≤ m) → (¬ (i ≤ m) → Stands (keep test (up_from (suc m) count)) i) → Stands (cond t (m ∷ keep test (up_from (suc m) count)) (keep test (up_from (suc m) count))) i
    by true e (yes h) later = (0, omega arith, sym (here h))
    by false e (yes h) later = absurd (false≢true (sym e ∙ rw (here h) at passes))
    by true e (no h) later = stands-behind (keep test (up_from (suc m) count)) i m (later h)
    by false e (no h) later = later h

-- what is kept is a number of the run, and passes the test
pub record Kept (test : ℕ → Bool) (m count i : ℕ) : Type 0 where
  pub from : m ≤ i
  pub to : i < m + count
  pub passes : test i ≡ true

pub keep-only : (test : ℕ → Bool) (m count k : ℕ) → k < length (keep test (up_from m count)) → Kept test m count (get_or (keep test (up_from m count)) k 0)
unfolding keep up_from
keep-only test m zero k h = absurd (omega arith)
keep-only test m (suc count) k h = by (test m) refl k h (λ j g. keep-only test (suc m) count j g)
  where
    wider : (i : ℕ) → Kept test (suc m) count i → Kept test m (suc count) i
    wider i s = record { from = omega (arith, s.from); to = omega (arith, s.to); passes = s.passes }

    by : (t : Bool) → test m ≡ t → (k : ℕ) → k < length (cond t (m ∷ keep test (up_from (suc m) count)) (keep test (up_from (suc m) count)))
        → ((j : ℕ) → j < length (keep test (up_from (suc m) count)) → Kept test (suc m) count (get_or (keep test (up_from (suc m) count)) j 0))
        → Kept test m (suc count) (get_or (cond t (m ∷ keep test (up_from (suc m) count)) (keep test (up_from (suc m) count))) k 0)
    by true e zero g later = record { from = omega arith; to = omega arith; passes = e }
    by true e (suc j) g later = wider _ (later j (omega arith))
    by false e j g later = wider _ (later j g)

-- an entry before another is smaller
pub keep-rises : (test : ℕ → Bool) (m count a b : ℕ) → a < b → b < length (keep test (up_from m count))
    → get_or (keep test (up_from m count)) a 0 < get_or (keep test (up_from m count)) b 0
unfolding keep up_from
keep-rises test m zero a b h inside = absurd (omega arith)
keep-rises test m (suc count) a b h inside = by (test m) a b h inside (λ j k g i. keep-rises test (suc m) count j k g i)
  where
    by : (t : Bool) (a b : ℕ) → a < b → b < length (cond t (m ∷ keep test (up_from (suc m) count)) (keep test (up_from (suc m) count)))
        → ((j k : ℕ) → j < k → k < length (keep test (up_from (suc m) count)) → get_or (keep test (up_from (suc m) count)) j 0 < get_or (keep test (up_from (suc m) count)) k 0)
        → get_or (cond t (m ∷ keep test (up_from (suc m) count)) (keep test (up_from (suc m) count))) a 0
        < get_or (cond t (m ∷ keep test (up_from (suc m) count)) (keep test (up_from (suc m) count))) b 0
    by true a zero g i later = absurd (omega arith)
    by true zero (suc k) g i later = omega (arith, (keep-only test (suc m) count k (omega arith)).from)
    by true (suc j) (suc k) g i later = later j k (omega arith) (omega arith)
    by false j k g i later = later j k g i

-- the entry of a list that is worked out place by place
pub map_at : (f : ℕ → ℕ) (l : List ℕ) (k : ℕ) → k < length l → get_or (map f l) k 0 ≡ f (get_or l k 0)
map_at f [] k h = absurd (omega arith)
map_at f (i ∷ l) zero h = refl
map_at f (i ∷ l) (suc k) h = map_at f l k (omega arith)
