-- Keeping entries of a run of numbers, one number more at a time, and how many are kept.
use mathlib.Core.Bool.{Bool, true, false, cond}
use mathlib.Core.List.{List, [], ◌∷◌, ◌++◌}
use mathlib.Core.Path.{◌≡◌, refl, ◌∙◌, ap}
use Prim.Native.Nat.{ℕ, zero, suc, ◌+◌, ◌-◌, ◌≤◌, ◌<◌}
use native.Mathlib.Nat.{add-suc, add-zero, suc-add, sub_self}
use native.Mathlib.Omega.{arith}
use lib.ListN.{length, length-append}
use Rattle.span_walk.specs.SpansMet.{up_from, keep}

-- one number more stands at the end
up_from-next : (m k : ℕ) → up_from m (suc k) ≡ up_from m k ++ ((m + k) ∷ [])
unfolding up_from
up_from-next m zero = rw (add-zero m)
up_from-next m (suc k) = ap (λ (l : List ℕ). m ∷ l) (up_from-next (suc m) k ∙ rw (suc-add m k, add-suc m k))

-- what is kept of two lists
keep_append : (test : ℕ → Bool) (a b : List ℕ) → keep test (a ++ b) ≡ keep test a ++ keep test b
unfolding keep
keep_append test [] b = refl
keep_append test (i ∷ a) b = rw (keep_append test a b) (by (test i))
  where
    by : (t : Bool) → cond t (i ∷ (keep test a ++ keep test b)) (keep test a ++ keep test b) ≡ cond t (i ∷ keep test a) (keep test a) ++ keep test b
    by true = refl
    by false = refl

-- the spans up to i, then i itself
pub keep-up_to : (test : ℕ → Bool) (m i : ℕ) → m ≤ i → keep test (up_from m (i + 1 - m)) ≡ keep test (up_from m (i - m)) ++ cond (test i) (i ∷ []) []
unfolding keep
keep-up_to test m i h =
    let e : i + 1 - m ≡ suc (i - m) = omega arith in
    let f : m + (i - m) ≡ i = omega arith in
    rw (e, up_from-next m (i - m), f) (keep_append test (up_from m (i - m)) (i ∷ []))

-- how many are kept, one number more at a time
pub count_none : (test : ℕ → Bool) (m : ℕ) → length (keep test (up_from m (m - m))) ≡ 0
unfolding keep up_from
count_none test m = rw (sub_self m)

pub count_passed : (test : ℕ → Bool) (m i : ℕ) → m ≤ i → test i ≡ true → length (keep test (up_from m (i + 1 - m))) ≡ length (keep test (up_from m (i - m))) + 1
count_passed test m i h e = rw (keep-up_to test m i h, e) (length-append (keep test (up_from m (i - m))) (i ∷ []))

pub count_failed : (test : ℕ → Bool) (m i : ℕ) → m ≤ i → test i ≡ false → length (keep test (up_from m (i + 1 - m))) ≡ length (keep test (up_from m (i - m)))
count_failed test m i h e = rw (keep-up_to test m i h, e) (rw (length-append (keep test (up_from m (i - m))) []) (omega arith))

pub ruleset counting = (count_none, count_passed, count_failed)

-- a test that passes less often keeps fewer
pub keep-fewer : (test wide : ℕ → Bool) → ((i : ℕ) → test i ≡ true → wide i ≡ true) → (l : List ℕ) → length (keep test l) ≤ length (keep wide l)
unfolding keep
keep-fewer test wide h [] = omega arith
keep-fewer test wide h (i ∷ l) = by (test i) (wide i) (h i) (keep-fewer test wide h l)
  where
    by : (t w : Bool) → (t ≡ true → w ≡ true) → length (keep test l) ≤ length (keep wide l) → length (cond t (i ∷ keep test l) (keep test l)) ≤ length (cond w (i ∷ keep wide l) (keep wide l))
    by true true g k = omega arith
    by true false g k = absurd (mathlib.Core.Bool.false≢true (g refl))
    by false true g k = omega arith
    by false false g k = k

-- a longer run keeps no fewer
keep-longer : (test : ℕ → Bool) (m k d : ℕ) → length (keep test (up_from m k)) ≤ length (keep test (up_from m (k + d)))
keep-longer test m k zero = rw (add-zero k) (omega arith)
keep-longer test m k (suc d) =
    rw (add-suc k d, up_from-next m (k + d), keep_append test (up_from m (k + d)) ((m + (k + d)) ∷ []), length-append (keep test (up_from m (k + d))) (keep test ((m + (k + d)) ∷ [])))
    (omega (arith, keep-longer test m k d))

-- where i is kept, the ones before it are fewer than what the wider test keeps of the whole run
pub keep-room : (test wide : ℕ → Bool) → ((i : ℕ) → test i ≡ true → wide i ≡ true) → (m i count : ℕ) → m ≤ i → i < count → test i ≡ true → length (keep test (up_from m (i - m))) < length (keep wide (up_from m (count - m)))
keep-room test wide narrower m i count low high kept =
    let e : (i + 1 - m) + (count - (i + 1)) ≡ count - m = omega arith in
    let one : length (keep wide (up_from m (i + 1 - m))) ≡ length (keep wide (up_from m (i - m))) + 1 =
    rw (keep-up_to wide m i low, narrower i kept) (length-append (keep wide (up_from m (i - m))) (i ∷ [])) in
    let all : length (keep wide (up_from m (i + 1 - m))) ≤ length (keep wide (up_from m (count - m))) =
    rw e at (keep-longer wide m (i + 1 - m) (count - (i + 1))) in
    omega (arith, keep-fewer test wide narrower (up_from m (i - m)))
