-- Every limit of the grid and of its files, by a name, once.
use Rattle.std.specs.Prelude.{ℕ, ◌+◌, ◌-◌, ◌*◌}

abbrev pub points_most : ℕ  -- "The curve on the grid": points of a curve
points_most = 1024

abbrev pub knots_most : ℕ  -- ... and its knots, at the highest degree
knots_most = points_most + 4

abbrev pub knot_most : ℕ  -- "The curve on the grid": the largest knot
knot_most = 16383

abbrev pub coordinate_most : ℕ  -- "The curve on the grid": the largest coordinate, either way
coordinate_most = 262144

abbrev pub spline_points_least : ℕ  -- "Numbers of refusal", 17: spline points of one joining
spline_points_least = 2

abbrev pub spline_points_most : ℕ
spline_points_most = 342

abbrev pub knot_bytes_most : ℕ  -- "The record on disk": bytes of the field of knots
knot_bytes_most = 2056

abbrev pub coordinate_bytes_most : ℕ  -- "The record on disk": bytes of a field of coordinates
coordinate_bytes_most = 4096

abbrev pub radius_most : ℕ  -- "Numbers of refusal", 22: the largest radius of a cutter
radius_most = 4096

abbrev pub radius_bytes : ℕ  -- "The record on disk": bytes of the radius in its field
radius_bytes = 2

abbrev pub clamp_bytes : ℕ  -- "The record on disk": bytes of a clamp's field, and clamps of a job
clamp_bytes = 16

abbrev pub clamps_most : ℕ
clamps_most = 64

abbrev pub sides_most : ℕ  -- ... and the sides of all of them, four a clamp
sides_most = 4 * clamps_most

abbrev pub head_bytes : ℕ  -- "The record on disk": a tag and a length stand in front of a field's contents
head_bytes = 3

abbrev pub record_most : ℕ  -- the longest record: four fields; and the longest job: the radius and all clamps behind it
record_most = 4 * head_bytes + (1 + knot_bytes_most + coordinate_bytes_most + coordinate_bytes_most)

abbrev pub job_most : ℕ
job_most = record_most + (head_bytes + radius_bytes) + clamps_most * (head_bytes + clamp_bytes)

abbrev pub number_bytes_most : ℕ  -- "Out to SVG": bytes of a coordinate, a minus sign and six digits; and of " x y"
number_bytes_most = 7

abbrev pub pair_bytes_most : ℕ
pair_bytes_most = 2 * (1 + number_bytes_most)

abbrev pub svg_most : ℕ  -- the longest path data: "M x y", and " L x y" for each further point, for at degree 1 every point has a letter of its own
svg_most = (1 + pair_bytes_most) + (points_most - 1) * (2 + pair_bytes_most)
