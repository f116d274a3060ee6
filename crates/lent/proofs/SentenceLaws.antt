-- The definition of a lent list after a call says what its sentences say, entry by entry.
use mathlib.Core.List.{List}
use mathlib.Core.Path.{◌≡◌, ◌∙◌}
use Prim.Native.Nat.{ℕ, zero, suc, ◌+◌, ◌-◌, ◌≤◌}
use native.Mathlib.Omega.{arith}
use lib.ListN.{length, get_or, drop}
use lib.Seq.{get_or-append-add, get_or-drop}
use Rattle.lent.specs.Lent.{over}
use Rattle.lent.specs.Sentences.{ResultThenRest, SuccessPutsResult, RefusalLeavesList}
use Rattle.lent.proofs.OverLaws.{over-length, over-entry, after-refused}

module _ {A : Type 0} where
  over-others : (result before : List A) (k : ℕ) (d : A) → length result ≤ k → get_or (over result before) k d ≡ get_or before k d
  over-others result before k d behind =
      let place : length result + (k - length result) ≡ k = omega arith in
      rw place at (get_or-append-add result (drop (length result) before) (k - length result) d ∙ get_or-drop (length result) before (k - length result) d)

  pub over-holds : (result before : List A) → length result ≤ length before → ResultThenRest result before (over result before)
  over-holds result before room = record { places = over-length result before room; first = over-entry result before; others = over-others result before }

pub success-puts-result : (A : Type 0) → SuccessPutsResult A
success-puts-result A result before room = over-holds result before room

pub refusal-leaves-list : (A : Type 0) → RefusalLeavesList A
refusal-leaves-list A zero result before h = absurd (omega arith)
refusal-leaves-list A (suc n) result before h = after-refused n result before
