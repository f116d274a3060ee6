-- What a call judges after the curve is answered exactly where the curve passes the check.
use mathlib.Core.List.{List}
use mathlib.Core.Path.{◌≡◌, ◌∙◌}
use Prim.Native.Nat.{ℕ}
use borrow.Author.Tests.{ne_eqb}
use lib.IntN.{ℤ}
use Rattle.grid.specs.Check.{checked_then, check_number}
use Rattle.grid.proofs.CheckLaws.{checked_then-split}

-- a refused curve: the call gives the check's number
pub checked_then-refused : (m : ℕ) (ts : List ℕ) (xs ys : List ℤ) (next : ℕ) → (check_number m ts xs ys ≡ 0 → ⊥) → checked_then m ts xs ys next ≡ check_number m ts xs ys
checked_then-refused m ts xs ys next h = checked_then-split m ts xs ys next ∙ rw (ne_eqb (check_number m ts xs ys) 0 h)

-- a curve that passes: the call goes on to what it judges next
pub checked_then-passed : (m : ℕ) (ts : List ℕ) (xs ys : List ℤ) (next : ℕ) → check_number m ts xs ys ≡ 0 → checked_then m ts xs ys next ≡ next
checked_then-passed m ts xs ys next h = checked_then-split m ts xs ys next ∙ rw h
