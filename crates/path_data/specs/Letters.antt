-- The codes of the letters and of the sign that path data has beside spaces and digits (heading "Out to SVG"; ASCII).
use Rattle.std.specs.Prelude.{ℕ}

abbrev pub move_letter : ℕ  -- M
move_letter = 77

abbrev pub line_letter : ℕ  -- L
line_letter = 76

abbrev pub quadratic_letter : ℕ  -- Q
quadratic_letter = 81

abbrev pub cubic_letter : ℕ  -- C
cubic_letter = 67

abbrev pub minus_sign : ℕ  -- -
minus_sign = 45
