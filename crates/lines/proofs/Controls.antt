-- Closed cases of the lines, worked by hand.
use mathlib.Core.List.{[], ◌∷◌}
use mathlib.Core.Path.{◌≡◌, refl}
use Rattle.digits.specs.Letters.{c, d, f, l, a, m, p, s, u, y, e, t, r, space, dot, newline, digit}
use Rattle.digits.specs.Decimal.{digits_of, decimal}
use Rattle.lines.specs.Lines.{one_number, two_numbers, three_numbers, broken_line, meet_lines, clamp_text}

-- "clamp 1 may meet 0..4"
one-span-printed : clamp_text 1 (0 ∷ []) (4 ∷ [])
    ≡ c ∷ l ∷ a ∷ m ∷ p ∷ space ∷ digit 1 ∷ space ∷ m ∷ a ∷ y ∷ space ∷ m ∷ e ∷ e ∷ t ∷ space ∷ digit 0 ∷ dot ∷ dot ∷ digit 4 ∷ newline ∷ []
unfolding decimal digits_of three_numbers meet_lines clamp_text
one-span-printed = refl

-- "clamp 2 clear"
no-span-printed : clamp_text 2 [] [] ≡ c ∷ l ∷ a ∷ m ∷ p ∷ space ∷ digit 2 ∷ space ∷ c ∷ l ∷ e ∷ a ∷ r ∷ newline ∷ []
unfolding decimal digits_of one_number clamp_text
no-span-printed = refl

-- "refused 19 at 61"
broken-printed : broken_line 19 61
    ≡ r ∷ e ∷ f ∷ u ∷ s ∷ e ∷ d ∷ space ∷ digit 1 ∷ digit 9 ∷ space ∷ a ∷ t ∷ space ∷ digit 6 ∷ digit 1 ∷ newline ∷ []
unfolding decimal digits_of one_number two_numbers
broken-printed = refl
