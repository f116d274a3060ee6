-- The new knots, entry by entry: the old ones up to v, then v, then the others.
use mathlib.Core.Bool.{Bool, true, false, cond}
use mathlib.Core.Path.{◌≡◌, refl, ◌∙◌}
use mathlib.Core.List.{List, [], ◌∷◌}
use Prim.Native.Nat.{ℕ, zero, suc, ◌+◌, ◌-◌, ◌≤◌, ◌<◌}
use native.Mathlib.Omega.{arith}
use lib.Dec.{leb}
use lib.ListN.{length, get_or, take, drop, set}
use Rattle.lent.specs.Lent.{over}
use Rattle.lent.proofs.ListLaws.{take_rest}
use Rattle.insertion.specs.Insertion.{knots_up_to, inserted_knots}
use Rattle.lent.proofs.StoreLaws.{Stored, stored_more}
use Rattle.insertion.proofs.PartLaws.{same-front, same_rest, front-copied}
use Rattle.insertion.proofs.SpanLaws.{knots_up_to-length}

pub inserted_knots-length : (ts : List ℕ) (v : ℕ) → length (inserted_knots ts v) ≡ length ts + 1
unfolding inserted_knots
inserted_knots-length [] v = refl
inserted_knots-length (t ∷ ts) v = go (leb t v) (inserted_knots-length ts v)
  where
    go : (b : Bool) → length (inserted_knots ts v) ≡ length ts + 1
        → length (cond b (t ∷ inserted_knots ts v) (v ∷ t ∷ ts)) ≡ suc (length ts) + 1
    go true ih = omega arith
    go false ih = omega arith

pub inserted_knots-before : (ts : List ℕ) (v j : ℕ) → j < knots_up_to v ts → get_or (inserted_knots ts v) j 0 ≡ get_or ts j 0
unfolding inserted_knots knots_up_to
inserted_knots-before [] v j h = absurd (omega arith)
inserted_knots-before (t ∷ ts) v zero h = go (leb t v) h
  where
    go : (b : Bool) → zero < cond b (suc (knots_up_to v ts)) 0 → get_or (cond b (t ∷ inserted_knots ts v) (v ∷ t ∷ ts)) zero 0 ≡ t
    go true p = refl
    go false p = absurd (omega arith)
inserted_knots-before (t ∷ ts) v (suc j) h = go (leb t v) (inserted_knots-before ts v j) h
  where
    go : (b : Bool) → (j < knots_up_to v ts → get_or (inserted_knots ts v) j 0 ≡ get_or ts j 0)
        → suc j < cond b (suc (knots_up_to v ts)) 0 → get_or (cond b (t ∷ inserted_knots ts v) (v ∷ t ∷ ts)) (suc j) 0 ≡ get_or ts j 0
    go true ih p = ih (omega arith)
    go false ih p = absurd (omega arith)

pub inserted_knots-here : (ts : List ℕ) (v : ℕ) → get_or (inserted_knots ts v) (knots_up_to v ts) 0 ≡ v
unfolding inserted_knots knots_up_to
inserted_knots-here [] v = refl
inserted_knots-here (t ∷ ts) v = go (leb t v) (inserted_knots-here ts v)
  where
    go : (b : Bool) → get_or (inserted_knots ts v) (knots_up_to v ts) 0 ≡ v
        → get_or (cond b (t ∷ inserted_knots ts v) (v ∷ t ∷ ts)) (cond b (suc (knots_up_to v ts)) 0) 0 ≡ v
    go true ih = ih
    go false ih = refl

pub inserted_knots-behind : (ts : List ℕ) (v j : ℕ) → knots_up_to v ts ≤ j → get_or (inserted_knots ts v) (suc j) 0 ≡ get_or ts j 0
unfolding inserted_knots knots_up_to
inserted_knots-behind [] v j h = refl
inserted_knots-behind (t ∷ ts) v zero h = go (leb t v) h
  where
    go : (b : Bool) → cond b (suc (knots_up_to v ts)) 0 ≤ zero → get_or (cond b (t ∷ inserted_knots ts v) (v ∷ t ∷ ts)) (suc zero) 0 ≡ t
    go true p = absurd (omega arith)
    go false p = refl
inserted_knots-behind (t ∷ ts) v (suc j) h = go (leb t v) (inserted_knots-behind ts v j) h
  where
    go : (b : Bool) → (knots_up_to v ts ≤ j → get_or (inserted_knots ts v) (suc j) 0 ≡ get_or ts j 0)
        → cond b (suc (knots_up_to v ts)) 0 ≤ suc j → get_or (cond b (t ∷ inserted_knots ts v) (v ∷ t ∷ ts)) (suc (suc j)) 0 ≡ get_or ts j 0
    go true ih p = ih (omega arith)
    go false ih p = refl

-- the knots behind v, one place on
module _ (ts : List ℕ) (v at : ℕ) (place : at ≡ knots_up_to v ts) where
  pub value-rest : take (length ts - at) (drop at ts) ≡ drop (at + 1) (inserted_knots ts v)
  value-rest =
      take_rest at ts ∙ same_rest 0 (inserted_knots ts v) ts at (inserted_knots-length ts v) (λ k behind inside. inserted_knots-behind ts v k (omega arith))

  -- the knots up to v are copied, and v is stored behind them
  pub value-stored : (before list : List ℕ) → length ts + 1 ≤ length before → list ≡ over (take (length before) (take at ts)) before
      → Stored (inserted_knots ts v) before (set list at v) (at + 1)
  value-stored before list room copied =
      let n = inserted_knots-length ts v in
      let most = knots_up_to-length v ts in
      let front = same-front 0 (inserted_knots ts v) ts at (omega arith) (omega arith) (λ k inside. inserted_knots-before ts v k (omega arith)) in
      stored_more (front-copied (inserted_knots ts v) before (take at ts) list at (omega arith) (omega arith) front copied) v 0 (omega arith)
      (rw place (inserted_knots-here ts v))
