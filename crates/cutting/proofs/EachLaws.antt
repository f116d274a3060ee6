-- Insertions one after the other: first some, then others.
use mathlib.Core.List.{List, [], ◌∷◌, ◌++◌, append_assoc, map-append}
use mathlib.Core.Path.{◌≡◌, refl, sym, ap, ◌∙◌}
use Prim.Native.Nat.{ℕ, ◌+◌, ◌-◌, ◌≤◌}
use native.Mathlib.Decide.{ℕ_discrete}
use native.Mathlib.Omega.{arith}
use mathlib.Core.Bool.{cond}
use lib.ListN.{get_or, replicate}
use Rattle.refusal.specs.Numbers.{accepted}
use Rattle.curve.specs.Lists.{Lists}
use Rattle.curve.proofs.SentenceLaws.{room-exactly}
use Rattle.grid.specs.Check.{Passes}
use Rattle.grid.specs.Rows.{occurrences}
use Rattle.insertion.specs.Insertion.{inserted}
use Rattle.insertion.specs.Judged.{insertion_number, insertable_then}
use Rattle.insertion.proofs.JudgedLaws.{judged-refused, judged-passed, number_passed}
use Rattle.span_walk.specs.SpansMet.{up_from, keep, non_empty, high_knots}
use Rattle.span_walk.proofs.KeepLaws.{keep-up_to}
use Rattle.cutting.specs.Cutting.{ends_from, lacking, inserted_each, insertable_each_then}

module _ (m : ℕ) where
  pub inserted-append : (vs ws : List ℕ) (c : Lists) → inserted_each m (vs ++ ws) c ≡ inserted_each m ws (inserted_each m vs c)
  unfolding inserted_each
  inserted-append [] ws c = refl
  inserted-append (v ∷ vs) ws c = inserted-append vs ws (inserted m c v)

  pub insertable-append : (vs ws : List ℕ) (c : Lists) (next : ℕ)
      → insertable_each_then m (vs ++ ws) c next ≡ insertable_each_then m vs c (insertable_each_then m ws (inserted_each m vs c) next)
  unfolding inserted_each insertable_each_then
  insertable-append [] ws c next = refl
  insertable-append (v ∷ vs) ws c next = ap (insertable_then m c v) (insertable-append vs ws (inserted m c v) next)

  -- where none is refused, what is judged next decides
  pub each-passed : (vs : List ℕ) (c : Lists) (next : ℕ) → insertable_each_then m vs c accepted ≡ accepted → insertable_each_then m vs c next ≡ next
  unfolding insertable_each_then
  each-passed [] c next e = refl
  each-passed (v ∷ vs) c next e =
      elim (ℕ_discrete (insertable_then m c v accepted) accepted) [
        | yes h ↦
            sym (judged-passed m c v (insertable_each_then m vs (inserted m c v) next) h)
            ∙ each-passed vs (inserted m c v) next (judged-passed m c v (insertable_each_then m vs (inserted m c v) accepted) h ∙ e)
        | no h ↦ absurd (h (judged-refused m c v (insertable_each_then m vs (inserted m c v) accepted) h ∙ e))
      ]

  -- where one is refused, its number is the answer, whatever is judged next
  pub each-refused : (vs : List ℕ) (c : Lists) (next : ℕ) → (insertable_each_then m vs c accepted ≡ accepted → ⊥) → insertable_each_then m vs c next ≡ insertable_each_then m vs c accepted
  unfolding insertable_each_then
  each-refused [] c next h = absurd (h refl)
  each-refused (v ∷ vs) c next h =
      elim (ℕ_discrete (insertable_then m c v accepted) accepted) [
        | yes e ↦
            sym (judged-passed m c v (insertable_each_then m vs (inserted m c v) next) e)
            ∙ each-refused vs (inserted m c v) next (λ k. h (sym (judged-passed m c v (insertable_each_then m vs (inserted m c v) accepted) e) ∙ k))
            ∙ judged-passed m c v (insertable_each_then m vs (inserted m c v) accepted) e
        | no e ↦
            sym (judged-refused m c v (insertable_each_then m vs (inserted m c v) next) e)
            ∙ judged-refused m c v (insertable_each_then m vs (inserted m c v) accepted) e
      ]

  -- the first of several is not refused where none is
  pub first-passed : (v : ℕ) (vs : List ℕ) (c : Lists) → insertable_each_then m (v ∷ vs) c accepted ≡ accepted
      → (insertable_then m c v accepted ≡ accepted) × (insertable_each_then m vs (inserted m c v) accepted ≡ accepted)
  unfolding insertable_each_then
  first-passed v vs c e =
      elim (ℕ_discrete (insertable_then m c v accepted) accepted) [
        | yes h ↦ (h, judged-passed m c v (insertable_each_then m vs (inserted m c v) accepted) h ∙ e)
        | no h ↦ absurd (h (judged-refused m c v (insertable_each_then m vs (inserted m c v) accepted) h ∙ e))
      ]

  -- an insertion that is not refused is accepted with lists of just the places that its result needs
  pub inserts-just : (c : Lists) (v : ℕ) → Passes m c.knots c.xs c.ys → insertable_then m c v accepted ≡ accepted → insertion_number m c v (inserted m c v) ≡ accepted
  inserts-just c v passes e =
      number_passed m c v (inserted m c v) passes
      ∙ ap (insertable_then m c v) ((room-exactly (inserted m c v) (inserted m c v)).2.1 (record { knots = omega arith; xs = omega arith; ys = omega arith }))
      ∙ e

  pub lacking-append : (ts vs ws : List ℕ) → lacking m ts (vs ++ ws) ≡ lacking m ts vs ++ lacking m ts ws
  unfolding lacking
  lacking-append ts [] ws = refl
  lacking-append ts (v ∷ vs) ws =
      ap (λ l. replicate (m - occurrences v ts) v ++ l) (lacking-append ts vs ws) ∙ sym (append_assoc (replicate (m - occurrences v ts) v) (lacking m ts vs) (lacking m ts ws))

-- the ends of spans, one span more
pub ends_more : (ts : List ℕ) (m i : ℕ) → m ≤ i → ends_from ts m (i + 1 - m) ≡ ends_from ts m (i - m) ++ high_knots ts (cond (non_empty ts i) (i ∷ []) [])
unfolding ends_from high_knots
ends_more ts m i h = ap (high_knots ts) (keep-up_to (non_empty ts) m i h) ∙ map-append (λ j. get_or ts (j + 1) 0) (keep (non_empty ts) (up_from m (i - m))) (cond (non_empty ts i) (i ∷ []) [])
