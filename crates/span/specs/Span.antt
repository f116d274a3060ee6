-- The span rule and the domain (heading "The point at a parameter"). The parameter is the fraction p/q of two whole numbers, q above zero;
-- a whole parameter has q = 1. `ts` are the knots, `m` the degree, `n` the last point's index. Nothing here asks for clamped ends.
use Rattle.std.specs.Prelude.{Bool, cond, ◌&&◌, ◌||◌, List, ℕ, zero, suc, ◌+◌, ◌-◌, ◌*◌, ◌≤◌, ◌<◌, leb, ltb, ℤ, get_or, take, drop}

abbrev pub starts_at : List ℕ → ℕ → ℕ → ℕ → Bool  -- the span i may hold p/q: t_i ≤ p/q, and t_i < t_{i+1}, so the span is not empty
starts_at ts p q i = leb (get_or ts i 0 * q) p && ltb (get_or ts i 0) (get_or ts (i + 1) 0)

-- i is the span of p/q: the largest index from m to n with t_i ≤ p/q and t_i < t_{i+1}
pub record IsSpan (ts : List ℕ) (m n p q i : ℕ) : Type 0 where
  pub from : m ≤ i
  pub to : i ≤ n
  pub starts : get_or ts i 0 * q ≤ p
  pub wide : get_or ts i 0 < get_or ts (i + 1) 0
  pub largest : (k : ℕ) → k ≤ n → get_or ts k 0 * q ≤ p → get_or ts k 0 < get_or ts (k + 1) 0 → k ≤ i

-- the span of p/q, sought from n downward; where no index above m will do, the search ends at m, and at n where n is no larger
unfoldable pub span_of : List ℕ → ℕ → ℕ → ℕ → ℕ → ℕ
span_of ts m zero p q = zero
span_of ts m (suc n) p q = let lower = span_of ts m n p q in cond (leb (suc n) m || starts_at ts p q (suc n)) (suc n) lower

unfoldable pub in_domain : List ℕ → ℕ → ℕ → ℕ → ℕ → Bool  -- p/q lies in the domain: t_m ≤ p/q ≤ t_{n+1}
in_domain ts m n p q = leb (get_or ts m 0 * q) p && leb p (get_or ts (n + 1) 0 * q)

-- v lies strictly inside the domain of a curve of `count` points: t_m < v < t_{n+1}
unfoldable pub strictly_inside : List ℕ → ℕ → ℕ → ℕ → Bool
strictly_inside ts m count v = ltb (get_or ts m 0) v && ltb v (get_or ts count 0)

abbrev pub carrying_of : ℕ → ℕ → List ℤ → List ℤ  -- the m+1 coordinates of one axis that carry the span i: P_{i-m} to P_i
carrying_of m i ps = take (m + 1) (drop (i - m) ps)
