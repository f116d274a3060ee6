-- The lists of a checked curve, one by one, and its coordinates along either axis.
use mathlib.Core.Path.{◌≡◌, refl}
use Rattle.checked.specs.Along.{along, lists_of}
use Rattle.checked.specs.declared.Axis.TheVariants.{X, Y}
use Rattle.checked.specs.declared.Curve.{Curve}

pub lists-of_curve : (c : Curve) → ((lists_of c).knots ≡ c.knots.now) × ((lists_of c).xs ≡ c.xs.now) × ((lists_of c).ys ≡ c.ys.now)
lists-of_curve c = (refl, refl, refl)

pub along-either : {A : Type 0} (x y : A) → (along X x y ≡ x) × (along Y x y ≡ y)
along-either x y = (refl, refl)
