-- Counting in knots that never fall: v stands m times or more exactly where the m-th last of the knots up to v is v.
use mathlib.Core.Bool.{true}
use mathlib.Core.List.{List, [], ◌∷◌}
use mathlib.Core.Path.{◌≡◌, refl, sym, ◌∙◌, subst}
use Prim.Native.Nat.{ℕ, zero, suc, ◌+◌, ◌-◌, ◌≤◌, ◌<◌, zero-le, suc-le-suc}
use native.Mathlib.Decide.{ℕ_discrete}
use native.Mathlib.Omega.{arith}
use lib.Dec.{leb, eqb}
use lib.ListN.{length, get_or}
use borrow.Author.Tests.{le-leb, lt-leb, eq-eqb, ne_eqb}
use Rattle.grid.specs.Rows.{rises_from, knot_order_ok, occurrences}
use Rattle.grid.proofs.RepeatLaws.{rises-cons, rises-above, rises-drop, occurrences-is, occurrences-not}
use Rattle.insertion.specs.Insertion.{knots_up_to}
use Rattle.insertion.proofs.OrderLaws.{either}
use Rattle.insertion.proofs.SpanLaws.{knots_up_to-length, knots_up_to-below}

-- the knots up to v, one knot more
up_to-more : (v t : ℕ) (ts : List ℕ) → t ≤ v → knots_up_to v (t ∷ ts) ≡ suc (knots_up_to v ts)
unfolding knots_up_to
up_to-more v t ts h = rw (le-leb t v h)

up_to-none : (v t : ℕ) (ts : List ℕ) → v < t → knots_up_to v (t ∷ ts) ≡ 0
unfolding knots_up_to
up_to-none v t ts h = rw (lt-leb t v h)

-- a value below every knot stands nowhere
stands-nowhere : (v low : ℕ) (ts : List ℕ) → v < low → rises_from low ts ≡ true → occurrences v ts ≡ 0
unfolding occurrences
stands-nowhere v low [] l h = refl
stands-nowhere v low (t ∷ ts) l h =
    let p = rises-cons low t ts h in
    occurrences-not v t ts (λ e. omega arith) ∙ stands-nowhere v t ts (omega arith) p.1

-- v stands no more often than there are knots up to it
stands-most : (v low : ℕ) (ts : List ℕ) → rises_from low ts ≡ true → occurrences v ts ≤ knots_up_to v ts
unfolding occurrences
stands-most v low [] h = zero-le
stands-most v low (t ∷ ts) h =
    let p = rises-cons low t ts h in
    let rest = stands-most v t ts p.1 in
    either v t
    (λ above. rw (occurrences-not v t ts (λ e. omega arith), stands-nowhere v t ts above p.1) zero-le)
    (λ up_to. rw (up_to-more v t ts up_to) (elim (ℕ_discrete t v) [
      | yes e ↦ rw (occurrences-is v t ts e) (suc-le-suc rest)
      | no n ↦ rw (occurrences-not v t ts n) (omega (arith, rest))
    ]))

-- where no knot is below v, every knot up to v is v
stands-all : (v : ℕ) (ts : List ℕ) → rises_from v ts ≡ true → knots_up_to v ts ≤ occurrences v ts
unfolding knots_up_to
stands-all v [] h = zero-le
stands-all v (t ∷ ts) h =
    let p = rises-cons v t ts h in
    either v t
    (λ above. rw (up_to-none v t ts above) zero-le)
    (λ up_to.
    let same : t ≡ v = omega arith in
    rw (up_to-more v t ts up_to, occurrences-is v t ts same) (suc-le-suc (stands-all v ts (rw same at p.1))))

-- v at k: v stands from k on
stands_from : (v k low : ℕ) (ts : List ℕ) → rises_from low ts ≡ true → k < length ts → get_or ts k 0 ≡ v → knots_up_to v ts ≤ k + occurrences v ts
stands_from v k low [] h l e = absurd (omega arith)
stands_from v zero low (t ∷ ts) h l e =
    let all = stands-all v (t ∷ ts) (subst (λ (x : ℕ). rises_from x (t ∷ ts) ≡ true) e (rises-drop low (t ∷ ts) 0 h l)) in
    omega (arith, all)
stands_from v (suc k) low (t ∷ ts) h l e =
    let p = rises-cons low t ts h in
    let rest = stands_from v k t ts p.1 (omega arith) e in
    let up_to : t ≤ v = omega (arith, rises-above t ts k p.1 (omega arith)) in
    rw (up_to-more v t ts up_to) (elim (ℕ_discrete t v) [
      | yes e ↦ rw (occurrences-is v t ts e) (omega (arith, rest))
      | no n ↦ rw (occurrences-not v t ts n) (omega (arith, rest))
    ])

-- a knot below v at k: v stands behind it
stands-behind : (v k low : ℕ) (ts : List ℕ) → rises_from low ts ≡ true → k < length ts → get_or ts k 0 < v → k + occurrences v ts < knots_up_to v ts
stands-behind v k low [] h l e = absurd (omega arith)
stands-behind v zero low (t ∷ ts) h l e =
    let p = rises-cons low t ts h in
    rw (up_to-more v t ts (omega arith), occurrences-not v t ts (λ q. omega arith)) (omega (arith, stands-most v t ts p.1))
stands-behind v (suc k) low (t ∷ ts) h l e =
    let p = rises-cons low t ts h in
    let rest = stands-behind v k t ts p.1 (omega arith) e in
    let below : t < v = omega (arith, rises-above t ts k p.1 (omega arith)) in
    rw (up_to-more v t ts (omega arith), occurrences-not v t ts (λ q. omega arith)) (omega (arith, rest))

-- one knot tells whether v stands m times
pub one-knot-tells : (v m at : ℕ) (ts : List ℕ) → knot_order_ok ts ≡ true → at ≡ knots_up_to v ts → 1 ≤ m → m ≤ at
    → eqb (get_or ts (at - m) 0) v ≡ leb m (occurrences v ts)
unfolding knot_order_ok
one-knot-tells v m at ts h place least most =
    let inside : at - m < length ts = omega (arith, knots_up_to-length v ts) in
    let low : get_or ts (at - m) 0 ≤ v = knots_up_to-below v ts (at - m) (omega arith) in
    elim (ℕ_discrete (get_or ts (at - m) 0) v) [
      | yes e ↦ eq-eqb (get_or ts (at - m) 0) v e ∙ sym (le-leb m (occurrences v ts) (omega (arith, stands_from v (at - m) 0 ts h inside e)))
      | no n ↦ ne_eqb (get_or ts (at - m) 0) v n ∙ sym (lt-leb m (occurrences v ts) (omega (arith, stands-behind v (at - m) 0 ts h inside (omega (arith, low, n)))))
    ]
