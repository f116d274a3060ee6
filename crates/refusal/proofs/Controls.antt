-- Closed cases: the numbers one by one; of two rows that apply the first gives the answer, and a row that does not apply is passed over.
use Rattle.std.specs.Prelude.{map}
use mathlib.Core.List.{List, [], ◌∷◌}
use mathlib.Core.Path.{◌≡◌, refl}
use Prim.Native.Nat.{ℕ, zero, suc, ◌<◌}
use native.Mathlib.Omega.{arith}
use Rattle.refusal.specs.Numbers.{accepted, degree_refused, point_count_refused, knot_count_refused, knot_order_refused, ends_refused, repeats_refused, range_refused, parameter_refused, insertion_refused, full_refused, not_whole_refused, not_inner_refused, not_removable_refused, rectangle_refused, room_refused, ended_refused, spline_points_refused, joined_range_refused, tag_refused, length_refused, left_over_refused, radius_refused, unclamp_refused}
use Rattle.refusal.specs.Answers.{number_of}
use Rattle.refusal.specs.declared.Refusal.TheVariants.{Degree, PointCount, KnotCount, KnotOrder, Ends, Repeats, Range, Parameter, Insertion, Full, NotWhole, NotInner, NotRemovable, Rectangle, Room, Ended, SplinePoints, JoinedRange, Tag, Length, LeftOver, Radius, Unclamp}
use Rattle.refusal.specs.Chain.{row, AppliesAt, AnswersFirst}

-- a row that applies
abbrev Same : Type 0
Same = ◌≡◌ {A = ℕ} 1 1

first-of-two : (answer : ℕ) → AnswersFirst answer (row 4 Same ∷ row 6 Same ∷ []) → answer ≡ 4
first-of-two answer a = (a.first 0 (omega arith)).1 (refl, λ i l. absurd (omega arith))

second-alone : (answer : ℕ) → AnswersFirst answer (row 4 ⊥ ∷ row 6 Same ∷ []) → answer ≡ 6
second-alone answer a = (a.first 1 (omega arith)).1 (refl, here)
  where
    here : (i : ℕ) → i < 1 → AppliesAt (row 4 ⊥ ∷ row 6 Same ∷ []) i → ⊥
    here zero l x = x
    here (suc i) l x = absurd (omega arith)

-- the rows of the scope's table, from 0 for none
numbers : List ℕ
numbers =
    accepted ∷ degree_refused ∷ point_count_refused ∷ knot_count_refused ∷ knot_order_refused ∷ ends_refused ∷ repeats_refused ∷ range_refused ∷ parameter_refused ∷ insertion_refused
    ∷ full_refused ∷ not_whole_refused ∷ not_inner_refused ∷ not_removable_refused ∷ rectangle_refused ∷ room_refused ∷ ended_refused ∷ spline_points_refused ∷ joined_range_refused ∷ tag_refused ∷ length_refused ∷ left_over_refused ∷ radius_refused ∷ unclamp_refused ∷ []

numbers-in-order : numbers ≡ 0 ∷ 1 ∷ 2 ∷ 3 ∷ 4 ∷ 5 ∷ 6 ∷ 7 ∷ 8 ∷ 9 ∷ 10 ∷ 11 ∷ 12 ∷ 13 ∷ 14 ∷ 15 ∷ 16 ∷ 17 ∷ 18 ∷ 19 ∷ 20 ∷ 21 ∷ 22 ∷ 23 ∷ []
unfolding numbers
numbers-in-order = refl

-- the refusals in the order of the same table
refusals-in-order :
    map number_of
    (Degree ∷ PointCount ∷ KnotCount ∷ KnotOrder ∷ Ends ∷ Repeats ∷ Range ∷ Parameter ∷ Insertion ∷ Full ∷ NotWhole ∷ NotInner ∷ NotRemovable ∷ Rectangle ∷ Room ∷ Ended ∷ SplinePoints ∷ JoinedRange ∷ Tag ∷ Length ∷ LeftOver ∷ Radius ∷ Unclamp ∷ [])
    ≡ 1 ∷ 2 ∷ 3 ∷ 4 ∷ 5 ∷ 6 ∷ 7 ∷ 8 ∷ 9 ∷ 10 ∷ 11 ∷ 12 ∷ 13 ∷ 14 ∷ 15 ∷ 16 ∷ 17 ∷ 18 ∷ 19 ∷ 20 ∷ 21 ∷ 22 ∷ 23 ∷ []
refusals-in-order = refl
