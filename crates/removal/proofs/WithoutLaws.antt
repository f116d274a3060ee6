-- Inserting v into the knots with one v fewer gives the knots again, and taking an inserted v away gives the old ones; those in front of the new one and those behind it are the fewer knots.
use mathlib.Core.Bool.{Bool, true, false, cond}
use mathlib.Core.List.{List, [], ◌∷◌, ◌++◌}
use mathlib.Core.Path.{◌≡◌, refl, ap, ◌∙◌}
use Prim.Native.Nat.{ℕ, suc, ◌≤◌, ◌<◌}
use native.Mathlib.Nat.{le_refl}
use native.Mathlib.Omega.{arith}
use lib.Dec.{eqb, leb}
use lib.ListN.{take, drop}
use borrow.Author.Tests.{eqb-true, eq-eqb, le-leb, leb-true}
use Rattle.grid.specs.Limits.{knot_most}
use Rattle.grid.specs.Rows.{rises_from, occurrences}
use Rattle.grid.proofs.RepeatLaws.{rises-cons}
use Rattle.insertion.specs.Insertion.{knots_up_to, inserted_knots}
use Rattle.removal.specs.Removal.{without_one}

-- with v inserted, one knot more is up to v
pub inserted-up_to : (v : ℕ) (ks : List ℕ) → knots_up_to v (inserted_knots ks v) ≡ suc (knots_up_to v ks)
unfolding knots_up_to inserted_knots
inserted-up_to v [] = rw (le-leb v v (le_refl v))
inserted-up_to v (t ∷ ks) = go (leb t v) refl (inserted-up_to v ks)
  where
    go : (b : Bool) → leb t v ≡ b → knots_up_to v (inserted_knots ks v) ≡ suc (knots_up_to v ks)
        → knots_up_to v (cond b (t ∷ inserted_knots ks v) (v ∷ t ∷ ks)) ≡ suc (cond b (suc (knots_up_to v ks)) 0)
    go true e rest = rw e (ap suc rest)
    go false e rest = rw (le-leb v v (le_refl v), e)

-- the knots in front of the new one, and those behind it
pub inserted-parts : (v : ℕ) (ks : List ℕ) → take (knots_up_to v ks) (inserted_knots ks v) ++ drop (suc (knots_up_to v ks)) (inserted_knots ks v) ≡ ks
unfolding knots_up_to inserted_knots
inserted-parts v [] = refl
inserted-parts v (t ∷ ks) = go (leb t v) (inserted-parts v ks)
  where
    go : (b : Bool) → take (knots_up_to v ks) (inserted_knots ks v) ++ drop (suc (knots_up_to v ks)) (inserted_knots ks v) ≡ ks
        → take (cond b (suc (knots_up_to v ks)) 0) (cond b (t ∷ inserted_knots ks v) (v ∷ t ∷ ks))
        ++ drop (suc (cond b (suc (knots_up_to v ks)) 0)) (cond b (t ∷ inserted_knots ks v) (v ∷ t ∷ ks)) ≡ t ∷ ks
    go true rest = ap (λ (l : List ℕ). t ∷ l) rest
    go false rest = refl

-- a value that stands in the rest is not below its start
present-above : (low v : ℕ) (ts : List ℕ) → rises_from low ts ≡ true → 0 < occurrences v ts → low ≤ v
unfolding occurrences
present-above low v [] h s = absurd (omega arith)
present-above low v (t ∷ ts) h s = go (eqb t v) refl (present-above t v ts p.1) s
  where
    p : (low ≤ t) × (rises_from t ts ≡ true) × (t ≤ knot_most)
    p = rises-cons low t ts h

    go : (b : Bool) → eqb t v ≡ b → (0 < occurrences v ts → t ≤ v) → 0 < cond b (suc (occurrences v ts)) (occurrences v ts) → low ≤ v
    go true e rest s = omega (arith, eqb-true t v e, p.0)
    go false e rest s = omega (arith, rest s, p.0)

-- v goes to the front of knots that do not begin below it
inserted-front : (v : ℕ) (ts : List ℕ) → rises_from v ts ≡ true → inserted_knots ts v ≡ v ∷ ts
unfolding inserted_knots
inserted-front v [] h = refl
inserted-front v (t ∷ ts) h = go (leb t v) refl (λ e. inserted-front v ts (rw e at p.1))
  where
    p : (v ≤ t) × (rises_from t ts ≡ true) × (t ≤ knot_most)
    p = rises-cons v t ts h

    go : (b : Bool) → leb t v ≡ b → (t ≡ v → inserted_knots ts v ≡ v ∷ ts) → cond b (t ∷ inserted_knots ts v) (v ∷ t ∷ ts) ≡ v ∷ t ∷ ts
    go true e rest = let same : t ≡ v = omega (arith, leb-true t v e, p.0) in rw (rest same, same)
    go false e rest = refl

pub without-inserted : (low v : ℕ) (ts : List ℕ) → rises_from low ts ≡ true → 0 < occurrences v ts → inserted_knots (without_one v ts) v ≡ ts
unfolding without_one inserted_knots occurrences
without-inserted low v [] h s = absurd (omega arith)
without-inserted low v (t ∷ ts) h s = go (eqb t v) refl (without-inserted t v ts p.1) s
  where
    p : (low ≤ t) × (rises_from t ts ≡ true) × (t ≤ knot_most)
    p = rises-cons low t ts h

    go : (b : Bool) → eqb t v ≡ b → (0 < occurrences v ts → inserted_knots (without_one v ts) v ≡ ts)
        → 0 < cond b (suc (occurrences v ts)) (occurrences v ts) → inserted_knots (cond b ts (t ∷ without_one v ts)) v ≡ t ∷ ts
    go true e rest s = let same = eqb-true t v e in inserted-front v ts (rw same at p.1) ∙ rw same
    go false e rest s =
        rw (le-leb t v (present-above t v ts p.1 s)) (ap (λ (l : List ℕ). t ∷ l) (rest s))

-- and back: v inserted and taken away again
pub inserted-without : (low v : ℕ) (ks : List ℕ) → rises_from low ks ≡ true → without_one v (inserted_knots ks v) ≡ ks
unfolding without_one inserted_knots
inserted-without low v [] h = rw (eq-eqb v v refl)
inserted-without low v (t ∷ ks) h = go (leb t v) (eqb t v) refl (inserted-without t v ks p.1)
  where
    p : (low ≤ t) × (rises_from t ks ≡ true) × (t ≤ knot_most)
    p = rises-cons low t ks h

    go : (b e : Bool) → eqb t v ≡ e → without_one v (inserted_knots ks v) ≡ ks → without_one v (cond b (t ∷ inserted_knots ks v) (v ∷ t ∷ ks)) ≡ t ∷ ks
    go false e same rest = rw (eq-eqb v v refl)
    go true true same rest = let e = eqb-true t v same in rw same (inserted-front v ks (rw e at p.1) ∙ rw e)
    go true false same rest = rw same (ap (λ (l : List ℕ). t ∷ l) rest)
