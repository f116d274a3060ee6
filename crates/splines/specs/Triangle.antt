-- De Boor's triangle over any arithmetic (heading "The point at a parameter"): row 0 is the control numbers, and each
-- entry of row r is worked out from two entries of the row before.
use Rattle.std.specs.Prelude.{ℕ, zero, suc, ◌+◌, ◌-◌}
use Rattle.algebra.specs.Operations.{Operations, sub, div}

-- ((w - t)·left + (t - low)·right) / (w - low)
abbrev pub cell : (O : Operations) (w t low left right : O.Number) → O.Number
cell O w t low left right = div O (O.add (O.mul (sub O w t) left) (O.mul (sub O t low) right)) (sub O w low)

-- entry j of row r for degree m: w is t_{j+m-r+1}, the low knot t_j
unfoldable pub entry : (O : Operations) (ts ps : ℕ → O.Number) (m : ℕ) (t : O.Number) → ℕ → ℕ → O.Number
entry O ts ps m t zero j = ps j
entry O ts ps m t (suc r) j =
    cell O (ts (j + m - r)) t (ts j) (entry O ts ps m t r (j - 1)) (entry O ts ps m t r j)
