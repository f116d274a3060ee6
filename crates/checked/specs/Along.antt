-- A checked curve's three lists, and its coordinates along one of the two axes.
use Rattle.curve.specs.Lists.{Lists, lists}
use Rattle.checked.specs.declared.Axis.{Axis}
use Rattle.checked.specs.declared.Axis.TheVariants.{X, Y}
use Rattle.checked.specs.declared.Curve.{Curve}

abbrev pub along : {A : Type 0} → Axis → A → A → A
along X x y = x
along Y x y = y

abbrev pub lists_of : Curve → Lists
lists_of c = lists c.knots.now c.xs.now c.ys.now
