-- An i32 holds a number of the grid.
use mathlib.Core.Bool.{true}
use mathlib.Core.Path.{◌≡◌}
use native.Mathlib.Omega.{arith}
use lib.IntN.{ℤ}
use mir.Syntax.{w32}
use mir.Val.{SFits}
use Rattle.signed.proofs.FitLaws.{fits32-of-size}
use Rattle.grid.specs.Rows.{on_grid}
use Rattle.checked.proofs.GridLaws.{on_grid-facts, on_grid-size}

pub on_grid-fits : (z : ℤ) → on_grid z ≡ true → SFits w32 z
on_grid-fits z e = fits32-of-size z (omega (arith, on_grid-size z (on_grid-facts z e)))
