-- The non-empty spans are one fewer than the different knot values of the domain: where a knot is below the next, all later ones are above it,
-- and else the next one is equal to it.
use mathlib.Core.Bool.{Bool, true, false, cond}
use mathlib.Core.List.{List, [], ◌∷◌}
use mathlib.Core.Path.{◌≡◌, refl}
use Prim.Native.Nat.{ℕ, zero, suc, ◌+◌, ◌-◌, ◌≤◌, ◌<◌}
use native.Mathlib.Numerals.{add-one}
use native.Mathlib.Omega.{arith}
use borrow.Author.Tests.{ne_eqb, eq-eqb, ltb-true, ltb-false}
use lib.Dec.{eqb}
use lib.ListN.{length, get_or, take, drop}
use lib.Seq.{drop-cons, get_or-drop, get_or-take}
use Rattle.curve.specs.Lists.{NeverFall}
use Rattle.grid.specs.Rows.{occurrences}
use Rattle.span_walk.specs.SpansMet.{up_from, keep, non_empty, span_count}
use Rattle.span_walk.specs.Sentences.{different_values, SpanCountExactly}

-- a value below all entries does not stand among them
below_all : (v : ℕ) (l : List ℕ) → ((k : ℕ) → k < length l → v < get_or l k 0) → occurrences v l ≡ 0
unfolding occurrences
below_all v [] h = refl
below_all v (t ∷ l) h =
    let first : v < t = h 0 (omega arith) in
    rw (ne_eqb t v (λ e. omega arith)) (below_all v l (λ k g. h (suc k) (omega arith)))

-- a value that comes first again is counted later
again : (v t : ℕ) (l : List ℕ) → t ≡ v → eqb (occurrences v (t ∷ l)) 0 ≡ false
unfolding occurrences
again v t l e = rw (eq-eqb t v e) (ne_eqb (suc (occurrences v l)) 0 (λ f. omega arith))

module _ (ts : List ℕ) (rising : NeverFall ts) where
  -- the run of knots t_m .. t_{m+k}
  abbrev run : ℕ → ℕ → List ℕ
  run m k = take (suc k) (drop m ts)

  run-cons : (m k : ℕ) → m < length ts → run m (suc k) ≡ get_or ts m 0 ∷ run (suc m) k
  run-cons m k h = rw (drop-cons ts m 0 h)

  run_length : (m k : ℕ) → length (run m k) ≤ suc k
  run_length m k = rw (lib.ListN.length-take (suc k) (drop m ts)) (omega arith)

  values : (m k : ℕ) → m + k < length ts → different_values (run m k) ≡ suc (length (keep (non_empty ts) (up_from m k)))
  unfolding different_values keep up_from occurrences
  values m zero h = rw (drop-cons ts m 0 (omega arith))
  values m (suc k) h =
      rw (run-cons m k (omega arith), values (suc m) k (omega arith))
      (by (non_empty ts m) refl)
    where
      by : (t : Bool) → non_empty ts m ≡ t
          → cond (eqb (occurrences (get_or ts m 0) (run (suc m) k)) 0) (suc (suc (length (keep (non_empty ts) (up_from (suc m) k))))) (suc (length (keep (non_empty ts) (up_from (suc m) k))))
          ≡ suc (length (cond t (m ∷ keep (non_empty ts) (up_from (suc m) k)) (keep (non_empty ts) (up_from (suc m) k))))
      by true e =
          let step : get_or ts m 0 < get_or ts (suc m) 0 = rw add-one at (ltb-true (get_or ts m 0) (get_or ts (m + 1) 0) e) in
          rw (below_all (get_or ts m 0) (run (suc m) k)
          (λ j g. rw (get_or-take (suc k) (drop (suc m) ts) j 0 (omega (arith, run_length (suc m) k)), get_or-drop (suc m) ts j 0)
          (omega (arith, rising (suc m) (suc m + j) (omega arith) (omega (arith, run_length (suc m) k))))))
      by false e =
          let flat : get_or ts (suc m) 0 ≤ get_or ts m 0 = rw add-one at (ltb-false (get_or ts m 0) (get_or ts (m + 1) 0) e) in
          let same : get_or ts (suc m) 0 ≡ get_or ts m 0 = omega (arith, rising m (suc m) (omega arith) (omega arith)) in
          rw (drop-cons ts (suc m) 0 (omega arith), again (get_or ts m 0) (get_or ts (suc m) 0) (take k (drop (suc (suc m)) ts)) same)

pub span-count-exactly : SpanCountExactly
unfolding span_count
span-count-exactly m ts n rising low high =
    rw (add-one (n + 1 - m), values ts rising m (n + 1 - m) (omega arith)) (add-one (length (keep (non_empty ts) (up_from m (n + 1 - m)))))
