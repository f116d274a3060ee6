-- Where a record's fields and their contents stand (heading "The record on disk"), behind knots of k bytes and x of x bytes.
use Rattle.std.specs.Prelude.{ℕ, ◌+◌}
use Rattle.grid.specs.Limits.{head_bytes}

-- the degree's byte stands behind its head, and the knots' field behind that
abbrev pub degree_place : ℕ
degree_place = head_bytes

abbrev pub knots_field : ℕ
knots_field = degree_place + 1

-- bytes of heads and degree in front of the contents of knots, x and y
abbrev pub before_knots : ℕ
before_knots = knots_field + head_bytes

abbrev pub before_x : ℕ
before_x = before_knots + head_bytes

abbrev pub before_y : ℕ
before_y = before_x + head_bytes

-- where the field of x begins, and its contents
abbrev pub x_field : ℕ → ℕ
x_field k = before_knots + k

abbrev pub x_place : ℕ → ℕ
x_place k = before_x + k

-- where the field of y begins, and its contents
abbrev pub y_field : ℕ → ℕ → ℕ
y_field k x = before_x + k + x

abbrev pub y_place : ℕ → ℕ → ℕ
y_place k x = before_y + k + x

-- where a record with fields of these lengths ends
abbrev pub record_end : ℕ → ℕ → ℕ → ℕ
record_end k x y = before_y + k + x + y
