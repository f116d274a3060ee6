-- A number that is read from a narrow width and written to a wider one is the same number.
use mathlib.Core.Path.{◌≡◌, ◌∙◌}
use lib.Dec.{T, leb}
use lib.IntN.{ℤ}
use mir.Syntax.{Width}
use mir.Val.{SFits, hbits, to_z, of_z}
use mir.Facts.{to_z-of_z, sfits_widen}

module _ (w v : Width) (wider : T (leb (hbits w) (hbits v))) (z : ℤ) (f : SFits w z) where
  -- it fits
  pub cast_fits : SFits v (to_z w (of_z w z))
  cast_fits = rw (to_z-of_z f) (sfits_widen wider f)

  -- it is the same
  pub cast_same : to_z v (of_z v (to_z w (of_z w z))) ≡ z
  cast_same = to_z-of_z cast_fits ∙ to_z-of_z f
