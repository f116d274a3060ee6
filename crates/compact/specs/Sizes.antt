-- What the short work lists hold, for the inner functions.
use Rattle.std.specs.Prelude.{ℕ}

abbrev pub short_points : ℕ  -- the points that the short work lists hold
short_points = 64
