-- The numbers of refusal, each by a name, once (heading "Numbers of refusal").
use Rattle.std.specs.Prelude.{ℕ}

abbrev pub accepted : ℕ  -- nothing is refused
accepted = 0

abbrev pub degree_refused : ℕ  -- the degree is none of 1, 2, 3
degree_refused = 1

abbrev pub point_count_refused : ℕ  -- x and y differ in number, or there are too few points or too many
point_count_refused = 2

abbrev pub knot_count_refused : ℕ  -- the number of knots does not go with points and degree
knot_count_refused = 3

abbrev pub knot_order_refused : ℕ  -- a knot too large, or below its forerunner
knot_order_refused = 4

abbrev pub ends_refused : ℕ  -- an empty domain
ends_refused = 5

abbrev pub repeats_refused : ℕ  -- a value that stands too often
repeats_refused = 6

abbrev pub range_refused : ℕ  -- a coordinate or a tangent off the grid
range_refused = 7

abbrev pub parameter_refused : ℕ  -- a parameter outside the domain
parameter_refused = 8

abbrev pub insertion_refused : ℕ  -- a value that cannot be inserted
insertion_refused = 9

abbrev pub full_refused : ℕ  -- no place for one point more
full_refused = 10

abbrev pub not_whole_refused : ℕ  -- a new coordinate that is not whole
not_whole_refused = 11

abbrev pub not_inner_refused : ℕ  -- a value that is no inner knot
not_inner_refused = 12

abbrev pub not_removable_refused : ℕ  -- a knot without which no grid polygon gives the curve
not_removable_refused = 13

abbrev pub rectangle_refused : ℕ  -- a rectangle with crossed sides, or off the grid
rectangle_refused = 14

abbrev pub room_refused : ℕ  -- a lent list that is too short, for a result or to work in
room_refused = 15

abbrev pub ended_refused : ℕ  -- bytes that end before a record, or a job, is whole
ended_refused = 16

abbrev pub spline_points_refused : ℕ  -- spline points that cannot be joined
spline_points_refused = 17

abbrev pub joined_range_refused : ℕ  -- a joined control point off the grid
joined_range_refused = 18

abbrev pub tag_refused : ℕ  -- a byte that is no tag which may stand there
tag_refused = 19

abbrev pub length_refused : ℕ  -- a length that the field cannot have
length_refused = 20

abbrev pub left_over_refused : ℕ  -- a byte behind a lone record, or behind a job's 64th clamp
left_over_refused = 21

abbrev pub radius_refused : ℕ  -- a cutter's radius above the largest
radius_refused = 22

abbrev pub unclamp_refused : ℕ  -- an end that cannot be unclamped
unclamp_refused = 23
