-- The degree and the lists that stand in bytes with a sound layout, by its places (heading "The record on disk").
use Rattle.std.specs.Prelude.{List, ℕ, ◌/◌, get_or}
use Rattle.fields.specs.Places.{knots_at, coordinates_at}
use Rattle.curve.specs.Lists.{Lists, lists}
use Rattle.format.specs.RecordPlaces.{degree_place, before_knots, x_place, y_place}

-- the degree's byte
abbrev pub degree_in : List ℕ → ℕ
degree_in bytes = get_or bytes degree_place 0

-- the knots in k bytes, the x coordinates in x and the y coordinates in y
abbrev pub curve_in : List ℕ → ℕ → ℕ → ℕ → Lists
curve_in bytes k x y =
    lists (knots_at bytes before_knots (k / 2)) (coordinates_at bytes (x_place k) (x / 4)) (coordinates_at bytes (y_place k x) (y / 4))
