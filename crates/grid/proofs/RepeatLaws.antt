-- Counting in knots that never fall (row 6): a value stands more than k times exactly where a knot equals the k-th after it.
use mathlib.Core.Bool.{Bool, true, false, ◌&&◌, true≢false}
use mathlib.Core.List.{List, [], ◌∷◌}
use mathlib.Core.Path.{◌≡◌, refl, sym, ◌∙◌, subst}
use Prim.Native.Nat.{ℕ, zero, suc, ◌+◌, ◌-◌, ◌≤◌, ◌<◌, zero-le, suc-le-suc}
use native.Mathlib.Nat.{le_refl}
use native.Mathlib.Decide.{ℕ_discrete}
use native.Mathlib.Omega.{arith}
use lib.Dec.{leb, ltb, eqb}
use lib.ListN.{length, get_or, drop, length-drop}
use lib.Seq.{get_or-drop}
use borrow.Author.Tests.{le-leb, lt-leb, leb-true, eq-eqb, ne_eqb, eqb-true, lt-ltb, ltb-true}
use Rattle.grid.specs.Limits.{knot_most}
use Rattle.grid.specs.Rows.{rises_from, occurrences, repeats_most, repeats_within, repeats_ok}
use Rattle.refusal.proofs.JudgingLaws.{both}
use Rattle.grid.proofs.EntryLaws.{every_holds, every-fails}

-- the head of knots that never fall, and the rest
pub rises-cons : (low t : ℕ) (ts : List ℕ) → rises_from low (t ∷ ts) ≡ true → (low ≤ t) × (rises_from t ts ≡ true) × (t ≤ knot_most)
unfolding rises_from
rises-cons low t ts h =
    let p = both (leb low t && leb t knot_most) (rises_from t ts) h in
    let q = both (leb low t) (leb t knot_most) p.0 in
    (leb-true low t q.0, p.1, leb-true t knot_most q.1)

-- from a lower start they never fall either
pub rises-weaken : (low lower : ℕ) (ts : List ℕ) → lower ≤ low → rises_from low ts ≡ true → rises_from lower ts ≡ true
unfolding rises_from
rises-weaken low lower [] l h = refl
rises-weaken low lower (t ∷ ts) l h =
    let p = rises-cons low t ts h in
    rw (le-leb lower t (omega (arith, p.0)), p.1, le-leb t knot_most p.2)

-- no entry is below the start
pub rises-above : (low : ℕ) (ts : List ℕ) (k : ℕ) → rises_from low ts ≡ true → k < length ts → low ≤ get_or ts k 0
rises-above low [] k h l = absurd (omega arith)
rises-above low (t ∷ ts) zero h l = (rises-cons low t ts h).0
rises-above low (t ∷ ts) (suc k) h l =
    let p = rises-cons low t ts h in
    let q = rises-above t ts k p.1 (omega arith) in
    omega arith

-- and none is above the largest
pub rises-most : (low : ℕ) (ts : List ℕ) → rises_from low ts ≡ true → (k : ℕ) → k < length ts → get_or ts k 0 ≤ knot_most
rises-most low [] h k l = absurd (omega arith)
rises-most low (t ∷ ts) h zero l = (rises-cons low t ts h).2
rises-most low (t ∷ ts) h (suc k) l = rises-most t ts (rises-cons low t ts h).1 k (omega arith)

-- from entry i on, nothing is below entry i
pub rises-drop : (low : ℕ) (ts : List ℕ) (i : ℕ) → rises_from low ts ≡ true → i < length ts → rises_from (get_or ts i 0) (drop i ts) ≡ true
unfolding rises_from
rises-drop low [] i h l = absurd (omega arith)
rises-drop low (t ∷ ts) zero h l =
    let p = rises-cons low t ts h in
    rw (le-leb t t (omega arith), p.1, le-leb t knot_most p.2)
rises-drop low (t ∷ ts) (suc i) h l = rises-drop t ts i (rises-cons low t ts h).1 (omega arith)

-- of two entries the later is not below the earlier
pub rises-between : (low : ℕ) (ts : List ℕ) (i j : ℕ) → rises_from low ts ≡ true → i ≤ j → j < length ts → get_or ts i 0 ≤ get_or ts j 0
rises-between low ts i j h o l =
    let there : i + (j - i) ≡ j = omega arith in
    let above = rises-above (get_or ts i 0) (drop i ts) (j - i) (rises-drop low ts i h (omega arith)) (rw (length-drop i ts) (omega arith)) in
    rw (get_or-drop i ts (j - i) 0, there) at above

-- a value below every entry stands nowhere
occurrences-above : (v low : ℕ) (ts : List ℕ) → v < low → rises_from low ts ≡ true → occurrences v ts ≡ 0
unfolding occurrences
occurrences-above v low [] l h = refl
occurrences-above v low (t ∷ ts) l h =
    let p = rises-cons low t ts h in
    rw (ne_eqb t v (λ e. omega arith)) (occurrences-above v t ts (omega arith) p.1)

-- one entry more: v itself
pub occurrences-is : (v t : ℕ) (ts : List ℕ) → t ≡ v → occurrences v (t ∷ ts) ≡ suc (occurrences v ts)
unfolding occurrences
occurrences-is v t ts e = rw (eq-eqb t v e)

-- one entry more: another value
pub occurrences-not : (v t : ℕ) (ts : List ℕ) → (t ≡ v → ⊥) → occurrences v (t ∷ ts) ≡ occurrences v ts
unfolding occurrences
occurrences-not v t ts n = rw (ne_eqb t v n)

-- knots that do not begin below v and have v at k: all before it are v too
occurrences-front : (v k : ℕ) (ts : List ℕ) → rises_from v ts ≡ true → k < length ts → get_or ts k 0 ≡ v → k < occurrences v ts
occurrences-front v k [] h l e = absurd (omega arith)
occurrences-front v zero (t ∷ ts) h l e = rw (occurrences-is v t ts e) (omega arith)
occurrences-front v (suc k) (t ∷ ts) h l e =
    let p = rises-cons v t ts h in
    let q = rises-above t ts k p.1 (omega arith) in
    let s : t ≡ v = omega arith in
    let n = occurrences-front v k ts (rw s at p.1) (omega arith) e in
    rw (occurrences-is v t ts s) (omega arith)

-- knots that do not begin below v and have another value at k, or end before: at most k of them are v
occurrences-within : (v k : ℕ) (ts : List ℕ) → rises_from v ts ≡ true → (k < length ts → get_or ts k 0 ≡ v → ⊥) → occurrences v ts ≤ k
unfolding occurrences
occurrences-within v k [] h other = zero-le
occurrences-within v zero (t ∷ ts) h other =
    let p = rises-cons v t ts h in
    let s : t ≡ v → ⊥ = other (omega arith) in
    rw (occurrences-not v t ts s, occurrences-above v t ts (omega arith) p.1) zero-le
occurrences-within v (suc k) (t ∷ ts) h other =
    let p = rises-cons v t ts h in
    let rest = occurrences-within v k ts in
    elim (ℕ_discrete t v) [
      | yes e ↦ rw (occurrences-is v t ts e) (suc-le-suc (rest (rw e at p.1) (λ l q. other (omega arith) q)))
      | no n ↦ rw (occurrences-not v t ts n, occurrences-above v t ts (omega arith) p.1) zero-le
    ]

-- no v has another v k places after it: then at most k knots are v
pub occurrences-most : (v k low : ℕ) (ts : List ℕ) → rises_from low ts ≡ true
    → ((j l : ℕ) → l ≡ j + k → l < length ts → get_or ts j 0 ≡ v → get_or ts l 0 ≡ v → ⊥) → occurrences v ts ≤ k
unfolding occurrences
occurrences-most v k low [] h other = zero-le
occurrences-most v k low (t ∷ ts) h other =
    let p = rises-cons low t ts h in
    let rest = occurrences-most v k t ts in
    elim (ℕ_discrete t v) [
      | yes e ↦ occurrences-within v k (t ∷ ts) (subst (λ (x : ℕ). rises_from x (t ∷ ts) ≡ true) e (rises-drop low (t ∷ ts) 0 h (omega arith))) (λ l q. other 0 k (omega arith) l e q)
      | no n ↦ rw (occurrences-not v t ts n) (rest p.1 (λ j l a b c d. other (suc j) (suc l) (omega arith) (omega arith) c d))
    ]

-- fewer stand in the rest
occurrences-drop : (v i : ℕ) (ts : List ℕ) → occurrences v (drop i ts) ≤ occurrences v ts
unfolding occurrences
occurrences-drop v zero ts = le_refl (occurrences v ts)
occurrences-drop v (suc i) [] = zero-le
occurrences-drop v (suc i) (t ∷ ts) =
    let rest = occurrences-drop v i ts in
    elim (ℕ_discrete t v) [
      | yes e ↦ rw (occurrences-is v t ts e) (omega arith)
      | no n ↦ rw (occurrences-not v t ts n) rest
    ]

-- knot j has its equal as many places on as its value may stand: one too many
abbrev pub equals_far : ℕ → List ℕ → ℕ → Bool
equals_far m ts j =
    ltb (j + repeats_most m ts (get_or ts j 0)) (length ts) && eqb (get_or ts (j + repeats_most m ts (get_or ts j 0)) 0) (get_or ts j 0)

-- the test at a knot of value v
equals_far-no : (m : ℕ) (ts : List ℕ) (v j l : ℕ) → equals_far m ts j ≡ false → l ≡ j + repeats_most m ts v → l < length ts → get_or ts j 0 ≡ v → get_or ts l 0 ≡ v → ⊥
equals_far-no m ts v j l h a b c d =
    let far : l ≡ j + repeats_most m ts (get_or ts j 0) = rw c a in
    let t : equals_far m ts j ≡ true =
    rw (← far, lt-ltb l (length ts) b, eq-eqb (get_or ts l 0) (get_or ts j 0) (d ∙ sym c)) in
    true≢false (sym t ∙ h)

-- no knot has its equal that far on: row 6 passes
pub repeats-hold : (m : ℕ) (ts : List ℕ) → rises_from 0 ts ≡ true → ((j : ℕ) → j < length ts → equals_far m ts j ≡ false) → repeats_ok m ts ≡ true
unfolding repeats_ok repeats_within
repeats-hold m ts h all =
    every_holds (λ v. leb (occurrences v ts) (repeats_most m ts v)) (repeats_within m ts) refl (λ v vs. refl) 0 ts
    (λ i k.
    let v = get_or ts i 0 in
    le-leb (occurrences v ts) (repeats_most m ts v)
    (occurrences-most v (repeats_most m ts v) 0 ts h (λ j l a b c d. equals_far-no m ts v j l (all j (omega arith)) a b c d)))

-- one knot has: row 6 refuses
pub repeats-fail : (m : ℕ) (ts : List ℕ) → rises_from 0 ts ≡ true → (j : ℕ) → j < length ts → equals_far m ts j ≡ true → repeats_ok m ts ≡ false
unfolding repeats_ok repeats_within
repeats-fail m ts h j l e =
    let v = get_or ts j 0 in
    let k = repeats_most m ts (get_or ts j 0) in
    let p = both (ltb (j + k) (length ts)) (eqb (get_or ts (j + k) 0) v) e in
    let far : j + k < length ts = ltb-true (j + k) (length ts) p.0 in
    let n : k < occurrences v (drop j ts) =
    occurrences-front v k (drop j ts) (rises-drop 0 ts j h l) (rw (length-drop j ts) (omega arith)) (get_or-drop j ts k 0 ∙ eqb-true (get_or ts (j + k) 0) v p.1) in
    every-fails (λ w. leb (occurrences w ts) (repeats_most m ts w)) (repeats_within m ts) refl (λ w ws. refl) 0 ts j l
    (lt-leb (occurrences v ts) k (omega (arith, occurrences-drop v j ts)))
