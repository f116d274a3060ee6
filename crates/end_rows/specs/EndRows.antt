-- The points at a clamped end, over any arithmetic: rows of means of neighbours. Numbers and distances are read by index
-- from the end inwards, so that one definition serves both ends.
use Rattle.std.specs.Prelude.{ℕ, zero, suc, ◌+◌, ◌-◌}
use Rattle.algebra.specs.Operations.{Operations, sub, div}

-- (d·p + e·q) / (d + e)
abbrev pub mean : (O : Operations) (d p e q : O.Number) → O.Number
mean O d p e q = div O (O.add (O.mul d p) (O.mul e q)) (O.add d e)

-- the k-th number from the end after r rows: d j is how far the j-th knot lies inside the end value, e j how far the j-th
-- lies outside it
unfoldable pub end_row : (O : Operations) (d e ps : ℕ → O.Number) (m : ℕ) → ℕ → ℕ → O.Number
end_row O d e ps m zero k = ps k
end_row O d e ps m (suc r) k =
    mean O (d (k + 1)) (end_row O d e ps m r k) (e (m - k - r - 1)) (end_row O d e ps m r (k + 1))

-- the k-th point from a clamped end: entry k of row m-1-k, so the old point from k = m-1 on
abbrev pub end_number : (O : Operations) (d e ps : ℕ → O.Number) (m k : ℕ) → O.Number
end_number O d e ps m k = end_row O d e ps m (m - 1 - k) k

-- the distances at the start, where the end value is t_m ..
abbrev pub start_inside : (O : Operations) (ts : ℕ → O.Number) (m : ℕ) → ℕ → O.Number
start_inside O ts m j = sub O (ts (m + j)) (ts m)

abbrev pub start_outside : (O : Operations) (ts : ℕ → O.Number) (m : ℕ) → ℕ → O.Number
start_outside O ts m j = sub O (ts m) (ts (m - j))

-- .. and at the end, where it is t_{n+1}
abbrev pub end_inside : (O : Operations) (ts : ℕ → O.Number) (n : ℕ) → ℕ → O.Number
end_inside O ts n j = sub O (ts (n + 1)) (ts (n + 1 - j))

abbrev pub end_outside : (O : Operations) (ts : ℕ → O.Number) (n : ℕ) → ℕ → O.Number
end_outside O ts n j = sub O (ts (n + 1 + j)) (ts (n + 1))

-- point j of degree m, of the points 0 to n, after the start is clamped, and after the end is
abbrev pub start_number : (O : Operations) (ts ps : ℕ → O.Number) (m j : ℕ) → O.Number
start_number O ts ps m j = end_number O (start_inside O ts m) (start_outside O ts m) ps m j

abbrev pub finish_number : (O : Operations) (ts ps : ℕ → O.Number) (m n j : ℕ) → O.Number
finish_number O ts ps m n j = end_number O (end_inside O ts n) (end_outside O ts n) (λ k. ps (n - k)) m (n - j)
