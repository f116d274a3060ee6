-- Two lines of the worked text, cut behind their newlines.
use mathlib.Core.List.{[], ◌∷◌, ◌++◌}
use mathlib.Core.Path.{◌≡◌, refl}
use Rattle.digits.specs.Decimal.{digits_of, decimal}
use Rattle.lines.specs.Lines.{one_number, three_numbers, clear_line, meet_line}
use Rattle.clear_is_clear.specs.Clear.{in_front, lines_of}

two-lines : lines_of (clear_line 2 ++ meet_line 3 0 4) ≡ clear_line 2 ∷ meet_line 3 0 4 ∷ []
unfolding lines_of in_front one_number three_numbers decimal digits_of
two-lines = refl
