-- What a number says of the check before it, and what holds of every number that can be.
use mathlib.Core.Bool.{Bool, true, false, cond}
use mathlib.Core.Path.{◌≡◌, refl, sym, ◌∙◌}
use mathlib.Core.List.{List}
use Prim.Native.Nat.{ℕ, ◌≤◌}
use lib.Dec.{eqb}
use lib.IntN.{ℤ}
use borrow.Author.Tests.{eqb-true, eqb-false}
use Rattle.refusal.specs.Numbers.{range_refused}
use Rattle.grid.specs.Check.{check_number, checked_then}
use Rattle.grid.proofs.CheckLaws.{checked_then-split, check_number-most}

module _ (chk next : ℕ) where
  -- nothing refused: neither by the check nor after it
  split-zero : (b : Bool) → eqb chk 0 ≡ b → cond b next chk ≡ 0 → (chk ≡ 0) × (next ≡ 0)
  split-zero true t e = (eqb-true chk 0 t, e)
  split-zero false t e = absurd (eqb-false chk 0 t e)

  split-all : (P : ℕ → Type 0) (b : Bool) → P chk → P next → P (cond b next chk)
  split-all P true h k = k
  split-all P false h k = h

module _ (m : ℕ) (ts : List ℕ) (xs ys : List ℤ) (next : ℕ) where
  pub checked_then-zero : checked_then m ts xs ys next ≡ 0 → (check_number m ts xs ys ≡ 0) × (next ≡ 0)
  checked_then-zero e = split-zero (check_number m ts xs ys) next (eqb (check_number m ts xs ys) 0) refl (sym (checked_then-split m ts xs ys next) ∙ e)

  -- what holds of 0 to 7 and of what is judged next holds of the answer
  pub checked_then-all : (P : ℕ → Type 0) → ((n : ℕ) → n ≤ range_refused → P n) → P next → P (checked_then m ts xs ys next)
  checked_then-all P low h =
      rw (checked_then-split m ts xs ys next)
      (split-all (check_number m ts xs ys) next P (eqb (check_number m ts xs ys) 0) (low (check_number m ts xs ys) (check_number-most m ts xs ys)) h)
