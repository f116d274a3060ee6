-- The tests of the domain and the carrying coordinates, in sentences (headings "The point at a parameter", "Inserting and removing a knot").
use Rattle.std.specs.Prelude.{true, List, ◌↔◌, ◌≡◌, ℕ, ◌+◌, ◌-◌, ◌*◌, ◌≤◌, ◌<◌, ℤ, pos, length, get_or}
use Rattle.span.specs.Span.{IsSpan, span_of, in_domain, strictly_inside, carrying_of}

-- the domain holds p/q exactly where t_m ≤ p/q and p/q ≤ t_{n+1}, cross-multiplied
abbrev pub DomainExactly : Type 0
DomainExactly =
    (ts : List ℕ) (m n p q : ℕ) → (in_domain ts m n p q ≡ true) ↔ ((get_or ts m 0 * q ≤ p) × (p ≤ get_or ts (n + 1) 0 * q))

-- a knot value of a curve with points P_0 .. P_n, so n + 1 of them, is strictly inside exactly where t_m < v and v < t_{n+1}
abbrev pub InsideExactly : Type 0
InsideExactly =
    (ts : List ℕ) (m n v : ℕ) → (strictly_inside ts m (n + 1) v ≡ true) ↔ ((get_or ts m 0 < v) × (v < get_or ts (n + 1) 0))

-- where the domain is not empty every p/q from t_m on has its span, the search finds it, and it has no other
abbrev pub SpanExactly : Type 0
SpanExactly =
    (ts : List ℕ) (m n p q : ℕ) → m ≤ n → get_or ts m 0 * q ≤ p → get_or ts m 0 < get_or ts (n + 1) 0
    → (i : ℕ) → IsSpan ts m n p q i ↔ (i ≡ span_of ts m n p q)

-- these are m+1 coordinates, P_{i-m} first and P_i last
pub record Carry (m i : ℕ) (ps carrying : List ℤ) : Type 0 where
  pub count : length carrying ≡ m + 1
  pub entry : (k : ℕ) → k ≤ m → get_or carrying k (pos 0) ≡ get_or ps (i - m + k) (pos 0)

abbrev pub CarryingEntries : Type 0
CarryingEntries = (m i : ℕ) (ps : List ℤ) → m ≤ i → i < length ps → Carry m i ps (carrying_of m i ps)
