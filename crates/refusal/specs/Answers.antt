-- The number of a refusal, and what a call answers that judges its input to a number.
use Rattle.std.specs.Prelude.{Bool, cond, Result, Ok, Err, IfOk, ◌≡◌, ℕ}
use Rattle.refusal.specs.Numbers.{accepted, degree_refused, point_count_refused, knot_count_refused, knot_order_refused, ends_refused, repeats_refused, range_refused, parameter_refused, insertion_refused, full_refused, not_whole_refused, not_inner_refused, not_removable_refused, rectangle_refused, room_refused, ended_refused, spline_points_refused, joined_range_refused, tag_refused, length_refused, left_over_refused, radius_refused, unclamp_refused}
use Rattle.refusal.specs.declared.Refusal.{Refusal}
use Rattle.refusal.specs.declared.Refusal.TheVariants.{Degree, PointCount, KnotCount, KnotOrder, Ends, Repeats, Range, Parameter, Insertion, Full, NotWhole, NotInner, NotRemovable, Rectangle, Room, Ended, SplinePoints, JoinedRange, Tag, Length, LeftOver, Radius, Unclamp}

-- the number by which a refusal is known outside
abbrev pub number_of : Refusal → ℕ
number_of Degree = degree_refused
number_of PointCount = point_count_refused
number_of KnotCount = knot_count_refused
number_of KnotOrder = knot_order_refused
number_of Ends = ends_refused
number_of Repeats = repeats_refused
number_of Range = range_refused
number_of Parameter = parameter_refused
number_of Insertion = insertion_refused
number_of Full = full_refused
number_of NotWhole = not_whole_refused
number_of NotInner = not_inner_refused
number_of NotRemovable = not_removable_refused
number_of Rectangle = rectangle_refused
number_of Room = room_refused
number_of Ended = ended_refused
number_of SplinePoints = spline_points_refused
number_of JoinedRange = joined_range_refused
number_of Tag = tag_refused
number_of Length = length_refused
number_of LeftOver = left_over_refused
number_of Radius = radius_refused
number_of Unclamp = unclamp_refused

-- 0 where a call answers, else the number of its refusal
abbrev pub number_in : {A : Type 0} → Result A Refusal → ℕ
number_in (Ok x) = accepted
number_in (Err e) = number_of e

-- what a call answers that judges its input to a number: its value where the number is 0, else the refusal with this number
abbrev pub Answers : {A : Type 0} → ℕ → A → Result A Refusal → Type 0
Answers number value answer = (number_in answer ≡ number) × IfOk answer (λ x. x ≡ value)

-- what a test comes to that stands for one refusal
abbrev pub required : Bool → Refusal → Result (Unit {0}) Refusal
required fine refusal = cond fine (Ok tt) (Err refusal)
