-- The Cox-de Boor basis and the curve that it gives, over any arithmetic (heading "The point at a parameter").
-- Knots `ts` and control numbers `ps` are read by index; `i` is the span's index and `t` the parameter. A quotient with
-- divisor zero is what the arithmetic's reciprocal of zero makes it; where that is zero, such a term counts as zero.
use Rattle.std.specs.Prelude.{cond, ℕ, zero, suc, ◌+◌, eqb}
use Rattle.algebra.specs.Operations.{Operations, sub, div}

-- N_{j,r}(t): 1 at the span's index and 0 elsewhere for r = 0; then the two neighbours of the row before, weighted
unfoldable pub basis : (O : Operations) (ts : ℕ → O.Number) (i : ℕ) (t : O.Number) → ℕ → ℕ → O.Number
basis O ts i t zero j = cond (eqb j i) O.one O.zero
basis O ts i t (suc r) j =
    O.add
    (O.mul (div O (sub O t (ts j)) (sub O (ts (j + suc r)) (ts j))) (basis O ts i t r j))
    (O.mul (div O (sub O (ts (j + suc r + 1)) t) (sub O (ts (j + suc r + 1)) (ts (j + 1)))) (basis O ts i t r (j + 1)))

-- the sum of f 0, f 1, .., f (count - 1)
unfoldable pub sum_of : (O : Operations) (f : ℕ → O.Number) → ℕ → O.Number
sum_of O f zero = O.zero
sum_of O f (suc count) = O.add (sum_of O f count) (f count)

-- the curve of degree m at t: the sum of N_{j,m}(t)·P_j over all j below the number of points
unfoldable pub curve_at : (O : Operations) (ts ps : ℕ → O.Number) (m count i : ℕ) (t : O.Number) → O.Number
curve_at O ts ps m count i t = sum_of O (λ j. O.mul (basis O ts i t m j) (ps j)) count
