-- How a call hands a curve out into three lent lists (heading "Numbers of refusal": row 15, and what the lists hold afterwards).
use Rattle.std.specs.Prelude.{Bool, ◌&&◌, Result, ◌≡◌, ℕ, leb, length}
use Rattle.refusal.specs.Answers.{Answers}
use Rattle.refusal.specs.Judging.{unless}
use Rattle.refusal.specs.Numbers.{accepted, room_refused}
use Rattle.refusal.specs.declared.Refusal.{Refusal}
use Rattle.lent.specs.Lent.{after}
use Rattle.curve.specs.Lists.{Lists, lists}

unfoldable pub enough : ℕ → ℕ → ℕ → ℕ → ℕ → ℕ → Bool  -- lists with so many places hold so many knots, x and y
enough knots xs ys knot_places x_places y_places = leb knots knot_places && leb xs x_places && leb ys y_places

abbrev pub room_for : Lists → Lists → Bool  -- row 15: none of the lent lists is shorter than its result
room_for result lent =
    enough (length result.knots) (length result.xs) (length result.ys)
    (length lent.knots) (length lent.xs) (length lent.ys)

abbrev pub room_number : Lists → Lists → ℕ  -- the number of a call that has only row 15 left to judge
room_number result lent = unless (room_for result lent) room_refused accepted

-- the lent lists afterwards: each its result and then the rest where the number is 0, else as they were found
abbrev pub handed_over : ℕ → Lists → Lists → Lists
handed_over number result before =
    lists (after number result.knots before.knots) (after number result.xs before.xs) (after number result.ys before.ys)

-- a call that comes to a number and a curve, by cases: the lent lists follow from these two, and its answer is one that `Says` gives them
pub record HandsOutBy {A : Type 0} (ComesTo : ℕ → Lists → Type 0) (Says : ℕ → Lists → A → Type 0) (before : Lists) (answer : A) (now : Lists) : Type 0 where
  pub number : ℕ
  pub result : Lists
  pub comes_to : ComesTo number result
  pub answers : Says number result answer
  pub hands : now ≡ handed_over number result before

abbrev pub HandsOut : {A : Type 0} → (ℕ → Lists → Type 0) → (Lists → A) → Lists → Result A Refusal → Lists → Type 0  -- the same of a call that answers a result
HandsOut ComesTo value before answer now = HandsOutBy ComesTo (λ number d a. Answers number (value d) a) before answer now
