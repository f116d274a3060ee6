-- The number of an insertion, test by test, and what an accepted insertion says of its input.
use mathlib.Core.Bool.{true, false, cond}
use mathlib.Core.List.{List}
use mathlib.Core.Path.{◌≡◌, refl, sym, ◌∙◌}
use Prim.Native.Nat.{ℕ, ◌+◌}
use native.Mathlib.Decide.{ℕ_discrete}
use lib.Dec.{leb, eqb}
use lib.IntN.{ℤ}
use lib.ListN.{length}
use borrow.Author.Tests.{lt-ltb, le-ltb, leb-true, leb-false, ne_eqb}
use Rattle.refusal.specs.Numbers.{insertion_refused, full_refused, not_whole_refused}
use Rattle.refusal.proofs.JudgingLaws.{unless-accepted, unless-split}
use Rattle.curve.specs.Lists.{Lists}
use Rattle.curve.specs.HandingOver.{enough, room_for, room_number}
use Rattle.span.specs.Span.{strictly_inside}
use Rattle.grid.specs.Rows.{occurrences}
use Rattle.grid.specs.Check.{Passes, check_number}
use Rattle.grid.proofs.ThenLaws.{checked_then-passed, checked_then-refused}
use Rattle.insertion.specs.Insertion.{inserted}
use Rattle.insertion.specs.Judged.{value_ok, place_ok, whole_ok, insertable_then, insertion_number}
use Rattle.insertion.proofs.KnotLaws.{inserted_knots-length}
use Rattle.insertion.proofs.PointLaws.{inserted_points-length}

-- row 9: strictly inside the domain, and not there m times
module _ (m : ℕ) (ts : List ℕ) (xs : List ℤ) (v : ℕ) where
  pub value-outside : strictly_inside ts m (length xs) v ≡ false → value_ok m ts xs v ≡ false
  unfolding value_ok
  value-outside h = rw h

  pub value-often : strictly_inside ts m (length xs) v ≡ true → leb m (occurrences v ts) ≡ true → value_ok m ts xs v ≡ false
  unfolding value_ok
  value-often h e = rw (h, le-ltb (occurrences v ts) m (leb-true m (occurrences v ts) e))

  pub value-seldom : strictly_inside ts m (length xs) v ≡ true → leb m (occurrences v ts) ≡ false → value_ok m ts xs v ≡ true
  unfolding value_ok
  value-seldom h e = rw (h, lt-ltb (occurrences v ts) m (leb-false m (occurrences v ts) e))

-- all tests of an insertion
pub record Accepted (m : ℕ) (c : Lists) (v : ℕ) (lent : Lists) : Type 0 where
  pub passes : Passes m c.knots c.xs c.ys
  pub value : value_ok m c.knots c.xs v ≡ true
  pub place : place_ok c.xs ≡ true
  pub whole : whole_ok m c v ≡ true
  pub room : room_for (inserted m c v) lent ≡ true

-- the chain of 9, 10, 11 and what is judged next
module _ (m : ℕ) (c : Lists) (v next : ℕ) where
  pub judged-value : value_ok m c.knots c.xs v ≡ false → insertion_refused ≡ insertable_then m c v next
  unfolding insertable_then
  judged-value p = rw p

  pub judged-place : value_ok m c.knots c.xs v ≡ true → place_ok c.xs ≡ false → full_refused ≡ insertable_then m c v next
  unfolding insertable_then
  judged-place p q = rw (p, q)

  pub judged-whole : value_ok m c.knots c.xs v ≡ true → place_ok c.xs ≡ true → whole_ok m c v ≡ false → not_whole_refused ≡ insertable_then m c v next
  unfolding insertable_then
  judged-whole p q r = rw (p, q, r)

  pub judged-next : value_ok m c.knots c.xs v ≡ true → place_ok c.xs ≡ true → whole_ok m c v ≡ true → next ≡ insertable_then m c v next
  unfolding insertable_then
  judged-next p q r = rw (p, q, r)

  -- where the chain alone refuses nothing, `next` is answered; else its own number
  judged-split : insertable_then m c v next ≡ cond (eqb (insertable_then m c v 0) 0) next (insertable_then m c v 0)
  unfolding insertable_then
  judged-split =
      unless-split (value_ok m c.knots c.xs v) 8 next _ _
      (unless-split (place_ok c.xs) 9 next _ _ (unless-split (whole_ok m c v) 10 next next 0 refl))

  pub judged-refused : (insertable_then m c v 0 ≡ 0 → ⊥) → insertable_then m c v 0 ≡ insertable_then m c v next
  judged-refused h = sym (judged-split ∙ rw (ne_eqb (insertable_then m c v 0) 0 h))

  pub judged-passed : insertable_then m c v 0 ≡ 0 → next ≡ insertable_then m c v next
  judged-passed h = sym (judged-split ∙ rw h)

module _ (m : ℕ) (c : Lists) (v : ℕ) (lent : Lists) where
  -- row 15: one knot more and one point more
  pub inserted-room : enough (length c.knots + 1) (length c.xs + 1) (length c.ys + 1) (length lent.knots) (length lent.xs) (length lent.ys) ≡ room_for (inserted m c v) lent
  inserted-room = rw (inserted_knots-length c.knots v, inserted_points-length m c.knots c.xs v, inserted_points-length m c.knots c.ys v)

  -- the check comes first
  pub number-refused : (check_number m c.knots c.xs c.ys ≡ 0 → ⊥) → check_number m c.knots c.xs c.ys ≡ insertion_number m c v lent
  unfolding insertion_number
  number-refused h = sym (checked_then-refused m c.knots c.xs c.ys _ h)

  pub number_passed : Passes m c.knots c.xs c.ys → insertion_number m c v lent ≡ insertable_then m c v (room_number (inserted m c v) lent)
  unfolding insertion_number
  number_passed h = checked_then-passed m c.knots c.xs c.ys _ h

  -- judged 0 after the check: every test passed
  tests-of-judged : Passes m c.knots c.xs c.ys → insertable_then m c v (room_number (inserted m c v) lent) ≡ 0 → Accepted m c v lent
  unfolding insertable_then
  tests-of-judged passes e =
      let a = unless-accepted (value_ok m c.knots c.xs v) 8 _ e in
      let b = unless-accepted (place_ok c.xs) 9 _ a.1 in
      let w = unless-accepted (whole_ok m c v) 10 _ b.1 in
      let d = unless-accepted (room_for (inserted m c v) lent) 14 _ w.1 in
      record { passes = passes; value = a.0; place = b.0; whole = w.0; room = d.0 }

  -- number 0: every test passed
  pub accepted-of-number : insertion_number m c v lent ≡ 0 → Accepted m c v lent
  accepted-of-number h = go (ℕ_discrete (check_number m c.knots c.xs c.ys) 0)
    where
      go : Dec (check_number m c.knots c.xs c.ys ≡ 0) → Accepted m c v lent
      go (yes p) = tests-of-judged p (sym (number_passed p) ∙ h)
      go (no n) = absurd (n (number-refused n ∙ h))

  -- every test passed: number 0
  pub number-of-accepted : Accepted m c v lent → insertion_number m c v lent ≡ 0
  number-of-accepted a = number_passed a.passes ∙ sym (judged-next m c v (room_number (inserted m c v) lent) a.value a.place a.whole) ∙ rw a.room
