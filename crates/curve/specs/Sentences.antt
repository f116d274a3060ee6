-- Handing a curve out, in sentences (heading "Numbers of refusal": row 15, and what three lent lists hold afterwards).
use Rattle.std.specs.Prelude.{true, List, Result, Ok, ◌⊎◌, ◌↔◌, ◌≡◌, ℕ, ◌≤◌, ◌<◌, ℤ, length}
use Rattle.refusal.specs.Answers.{number_in}
use Rattle.refusal.specs.Judging.{answered}
use Rattle.refusal.specs.declared.Refusal.{Refusal}
use Rattle.lent.specs.Sentences.{ResultThenRest}
use Rattle.curve.specs.Lists.{Lists, lists}
use Rattle.curve.specs.HandingOver.{room_for, room_number, handed_over, HandsOutBy, HandsOut}

-- three lists go together in this order: knots, x, y
abbrev pub KnotsThenXThenY : Type 0
KnotsThenXThenY = (ts : List ℕ) (xs ys : List ℤ) → ((lists ts xs ys).knots ≡ ts) × ((lists ts xs ys).xs ≡ xs) × ((lists ts xs ys).ys ≡ ys)

-- each lent list is at least as long as its result
pub record EachLongEnough (result lent : Lists) : Type 0 where
  pub knots : length result.knots ≤ length lent.knots
  pub xs : length result.xs ≤ length lent.xs
  pub ys : length result.ys ≤ length lent.ys

-- row 15: some lent list is shorter than its result
abbrev pub RoomWrong : Lists → Lists → Type 0
RoomWrong result lent =
    (length lent.knots < length result.knots) ⊎ (length lent.xs < length result.xs) ⊎ (length lent.ys < length result.ys)

-- there is room exactly where each list is long enough; a call that has only row 15 left gives 15 exactly where one is too short, and else 0
abbrev pub RoomExactly : Type 0
RoomExactly =
    (result lent : Lists)
    → ((room_for result lent ≡ true) ↔ EachLongEnough result lent)
    × ((room_number result lent ≡ 15) ↔ RoomWrong result lent)
    × ((room_number result lent ≡ 0) ↔ EachLongEnough result lent)

-- after success each of the three lists holds its own result and then what it held before
pub record ThreeResults (result before now : Lists) : Type 0 where
  pub knots : ResultThenRest result.knots before.knots now.knots
  pub xs : ResultThenRest result.xs before.xs now.xs
  pub ys : ResultThenRest result.ys before.ys now.ys

abbrev pub SuccessHandsOver : Type 0
SuccessHandsOver = (result before : Lists) → EachLongEnough result before → ThreeResults result before (handed_over 0 result before)

-- a refused call leaves all three as they were
abbrev pub RefusalHandsNothing : Type 0
RefusalHandsNothing = (number : ℕ) (result before : Lists) → 0 < number → handed_over number result before ≡ before

-- a call by cases ends in one of two ways: it did its work, with a curve at which it arrived and which the lists hold; or it is refused, with its
-- number, and the lists are as they were. `Done` tells what it answers after its work, `Refused` what it answers where it is refused
abbrev pub DoneOrRefusedBy : {A : Type 0} → (ℕ → Lists → Type 0) → (Lists → A → Type 0) → (ℕ → A → Type 0) → Lists → A → Lists → Type 0
DoneOrRefusedBy ComesTo Done Refused before answer now =
    ((d : Lists) × ComesTo 0 d × Done d answer × (now ≡ handed_over 0 d before))
    ⊎ ((number : ℕ) × (d : Lists) × ComesTo number d × (0 < number) × Refused number answer × (now ≡ before))

abbrev pub DoneOrRefused : {A : Type 0} → (ℕ → Lists → Type 0) → (Lists → A) → Lists → Result A Refusal → Lists → Type 0  -- the same of a call that answers a result
DoneOrRefused ComesTo value before answer now =
    DoneOrRefusedBy ComesTo (λ d a. a ≡ Ok (value d)) (λ number a. number_in a ≡ number) before answer now

abbrev pub CallsEndSo : Type 0 → Type 1
CallsEndSo A =
    (ComesTo : ℕ → Lists → Type 0) (value : Lists → A) (before : Lists) (answer : Result A Refusal) (now : Lists)
    → HandsOut ComesTo value before answer now ↔ DoneOrRefused ComesTo value before answer now

-- answers of any kind, one for each curve and one for each number of a refusal
abbrev pub AnsweredBy : {A : Type 0} → (Lists → A) → (ℕ → A) → ℕ → Lists → A → Type 0
AnsweredBy done refused number d answer = answer ≡ answered done refused number d

-- a call that answers by them ends so too
abbrev pub AnyCallEndsSo : Type 0 → Type 1
AnyCallEndsSo A =
    (ComesTo : ℕ → Lists → Type 0) (done : Lists → A) (refused : ℕ → A) (before : Lists) (answer : A) (now : Lists)
    → HandsOutBy ComesTo (AnsweredBy done refused) before answer now
    ↔ DoneOrRefusedBy ComesTo (λ d a. a ≡ done d) (λ number a. a ≡ refused number) before answer now
