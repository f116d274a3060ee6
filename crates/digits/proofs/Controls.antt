-- Closed cases of the digits, worked by hand.
use mathlib.Core.List.{[], ◌∷◌}
use mathlib.Core.Path.{◌≡◌, refl}
use Rattle.digits.specs.Letters.{digit}
use Rattle.digits.specs.Decimal.{digits_of, decimal}

-- 0 is one digit
zero-printed : decimal 0 ≡ digit 0 ∷ []
unfolding decimal digits_of
zero-printed = refl

-- 1,023 is four
four-digits-printed : decimal 1023 ≡ digit 1 ∷ digit 0 ∷ digit 2 ∷ digit 3 ∷ []
unfolding decimal digits_of
four-digits-printed = refl
