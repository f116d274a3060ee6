-- The search downward finds the span (heading "The point at a parameter"): `span_of-is`; a parameter has one span: `span-unique`;
-- the span holds the parameter, at the right end of the domain too: `span-holds`. Only t_m < t_{n+1} is used, not clamped ends.
use mathlib.Core.Bool.{Bool, true, false, cond, ◌||◌, and-false, and-eq-true_iff, true≢false}
use mathlib.Core.Path.{◌≡◌, refl, sym, ap, ◌∙◌}
use mathlib.Core.List.{List}
use Prim.Native.Nat.{ℕ, zero, suc, ◌+◌, ◌-◌, ◌*◌, ◌≤◌, ◌<◌, zero-le}
use native.Mathlib.Nat.{lt_of_mul-lt-mul_right, mul-le-mul_right, le_refl, le_antisymm, le_trans, add-zero}
use native.Mathlib.Numerals.{add-one, sub-one}
use native.Mathlib.Decide.{dec_le}
use native.Mathlib.Omega.{arith}
use borrow.Author.Tests.{le-leb, lt-leb, lt-ltb, le-ltb, leb-true, leb-false, ltb-true, ltb-false}
use lib.Dec.{leb, ltb}
use lib.ListN.{length, get_or, get_or-eq_default}
use Rattle.span.specs.Span.{starts_at, IsSpan, span_of, in_domain}

-- the test says what it says
starts_at-of : (ts : List ℕ) (p q k : ℕ) → get_or ts k 0 * q ≤ p → get_or ts k 0 < get_or ts (k + 1) 0 → starts_at ts p q k ≡ true
starts_at-of ts p q k a b = simp (le-leb _ _ a, lt-ltb _ _ b)

starts_at-says : (ts : List ℕ) (p q k : ℕ) → starts_at ts p q k ≡ true → (get_or ts k 0 * q ≤ p) × (get_or ts k 0 < get_or ts (k + 1) 0)
starts_at-says ts p q k e =
    let both = (and-eq-true_iff (leb (get_or ts k 0 * q) p) (ltb (get_or ts k 0) (get_or ts (k + 1) 0))).0 e in
    (leb-true _ _ both.0, ltb-true _ _ both.1)

-- where knot k is at most the parameter and no span begins, the next knot is no larger
starts_at-not : (ts : List ℕ) (p q k : ℕ) → starts_at ts p q k ≡ false → get_or ts k 0 * q ≤ p → get_or ts (k + 1) 0 ≤ get_or ts k 0
starts_at-not ts p q k e a = ltb-false _ _ (simp (le-leb _ _ a) at e)

-- no span begins at the last knot or past it
pub starts_at-past : (ts : List ℕ) (p q i : ℕ) → length ts ≤ i + 1 → starts_at ts p q i ≡ false
starts_at-past ts p q i h = simp (get_or-eq_default ts 0 h, le-ltb (get_or ts i 0) 0 zero-le, and-false)

-- one turn of the search: it ends here, or goes on below
pub span_of-here : (ts : List ℕ) (m n p q : ℕ) → (leb n m || starts_at ts p q n) ≡ true → span_of ts m n p q ≡ n
unfolding span_of
span_of-here ts m zero p q e = refl
span_of-here ts m (suc n) p q e = simp e

pub span_of-lower : (ts : List ℕ) (m n p q : ℕ) → m < n → starts_at ts p q n ≡ false → span_of ts m n p q ≡ span_of ts m (n - 1) p q
unfolding span_of
span_of-lower ts m zero p q h e = absurd (omega arith)
span_of-lower ts m (suc n) p q h e = simp (lt-leb _ _ h, e, sub-one)

pub ruleset span_turns = (span_of-here, span_of-lower)

module _ (ts : List ℕ) (m n p q : ℕ) where
  last-is : m ≤ n → get_or ts n 0 * q ≤ p → get_or ts n 0 < get_or ts (n + 1) 0 → IsSpan ts m n p q n
  last-is h a b = record { from = h; to = le_refl n; starts = a; wide = b; largest = λ k kn _ _. kn }

  -- a span below n + 1 stays the span where n + 1 begins none
  still-is : (i : ℕ) → starts_at ts p q (suc n) ≡ false → IsSpan ts m n p q i → IsSpan ts m (suc n) p q i
  still-is i e s =
      record { from = s.from; to = omega arith; starts = s.starts; wide = s.wide; largest = λ k kn a b. beyond k kn a b (dec_le k n) }
    where
      beyond : (k : ℕ) → k ≤ suc n → get_or ts k 0 * q ≤ p → get_or ts k 0 < get_or ts (k + 1) 0 → Dec (k ≤ n) → k ≤ i
      beyond k kn a b (yes h) = s.largest k h a b
      beyond k kn a b (no h) =
          let here : k ≡ suc n = omega arith in
          absurd (true≢false (sym (starts_at-of ts p q k a b) ∙ ap (starts_at ts p q) here ∙ e))

  -- the first knot of the domain is below the next index's knot too where that index begins no span
  still-wide : get_or ts m 0 * q ≤ p → starts_at ts p q (suc n) ≡ false → get_or ts m 0 < get_or ts (suc n + 1) 0 → get_or ts m 0 < get_or ts (n + 1) 0
  still-wide low e wide = rw add-one (by (dec_le (get_or ts (suc n) 0 * q) p))
    where
      by : Dec (get_or ts (suc n) 0 * q ≤ p) → get_or ts m 0 < get_or ts (suc n) 0
      by (yes h) = omega (arith, starts_at-not ts p q (suc n) e h)
      by (no h) = lt_of_mul-lt-mul_right q (omega arith)

-- one turn: the index itself, or the span below it
turn_is :
    (ts : List ℕ) (m n p q lower : ℕ) (b s : Bool) → leb (suc n) m ≡ b → starts_at ts p q (suc n) ≡ s → m ≤ suc n
    → get_or ts m 0 * q ≤ p → get_or ts m 0 < get_or ts (suc n + 1) 0
    → (m ≤ n → get_or ts m 0 < get_or ts (n + 1) 0 → IsSpan ts m n p q lower)
    → IsSpan ts m (suc n) p q (cond (b || s) (suc n) lower)
turn_is ts m n p q lower true s e f h low wide below =
    let ends : m ≡ suc n = le_antisymm h (leb-true _ _ e) in
    last-is ts m (suc n) p q h (rw ends at low) (rw ends at wide)
turn_is ts m n p q lower false true e f h low wide below =
    last-is ts m (suc n) p q h (starts_at-says ts p q (suc n) f).0 (starts_at-says ts p q (suc n) f).1
turn_is ts m n p q lower false false e f h low wide below =
    still-is ts m n p q lower f (below (omega (arith, leb-false (suc n) m e)) (still-wide ts m n p q low f wide))

-- every parameter of the domain has a span, and the search finds it
pub span_of-is :
    (ts : List ℕ) (m n p q : ℕ) → m ≤ n → get_or ts m 0 * q ≤ p → get_or ts m 0 < get_or ts (n + 1) 0 → IsSpan ts m n p q (span_of ts m n p q)
unfolding span_of
span_of-is ts m zero p q h low wide =
    let ends : m ≡ zero = omega arith in
    last-is ts m zero p q h (rw ends at low) (rw ends at wide)
span_of-is ts m (suc n) p q h low wide =
    turn_is ts m n p q (span_of ts m n p q) (leb (suc n) m) (starts_at ts p q (suc n)) refl refl h low wide
    (λ mn w. span_of-is ts m n p q mn low w)

turn-within :
    (m n lower : ℕ) (b s : Bool) → leb (suc n) m ≡ b → m ≤ suc n → (m ≤ n → (m ≤ lower) × (lower ≤ n))
    → (m ≤ cond (b || s) (suc n) lower) × (cond (b || s) (suc n) lower ≤ suc n)
turn-within m n lower true s e h below = (h, le_refl (suc n))
turn-within m n lower false true e h below = (h, le_refl (suc n))
turn-within m n lower false false e h below =
    let w : (m ≤ lower) × (lower ≤ n) = below (omega (arith, leb-false (suc n) m e)) in
    omega arith

-- the search stays from m to n, whatever the knots
pub span_of-within : (ts : List ℕ) (m n p q : ℕ) → m ≤ n → (m ≤ span_of ts m n p q) × (span_of ts m n p q ≤ n)
unfolding span_of
span_of-within ts m zero p q h = (h, le_refl zero)
span_of-within ts m (suc n) p q h =
    turn-within m n (span_of ts m n p q) (leb (suc n) m) (starts_at ts p q (suc n)) refl h (λ mn. span_of-within ts m n p q mn)

-- a parameter has one span
pub span-unique : (ts : List ℕ) (m n p q i j : ℕ) → IsSpan ts m n p q i → IsSpan ts m n p q j → i ≡ j
span-unique ts m n p q i j a b =
    le_antisymm (b.largest i a.to a.starts a.wide) (a.largest j b.to b.starts b.wide)

-- where the span's second knot is no larger than the parameter, no later knot of the domain is larger than that knot
module _ (ts : List ℕ) (m n p q i : ℕ) (s : IsSpan ts m n p q i) (past : get_or ts (i + 1) 0 * q ≤ p) where
  none-larger : (d : ℕ) → i + d ≤ n → get_or ts (i + d + 1) 0 ≤ get_or ts (i + 1) 0
  none-larger zero h = simp add-zero (le_refl _)
  none-larger (suc d) h =
      let here : i + suc d ≡ i + d + 1 = omega arith in
      let before : get_or ts (i + d + 1) 0 ≤ get_or ts (i + 1) 0 = none-larger d (omega arith) in
      let early : get_or ts (i + d + 1) 0 * q ≤ p = le_trans (mul-le-mul_right q before) past in
      rw here (le_trans (falls early (dec_le (get_or ts (i + d + 1 + 1) 0) (get_or ts (i + d + 1) 0))) before)
    where
      falls : get_or ts (i + d + 1) 0 * q ≤ p → Dec (get_or ts (i + d + 1 + 1) 0 ≤ get_or ts (i + d + 1) 0) → get_or ts (i + d + 1 + 1) 0 ≤ get_or ts (i + d + 1) 0
      falls early (yes h) = h
      falls early (no g) = absurd (omega (arith, s.largest (i + d + 1) (omega arith) early (omega arith)))

  span-reach : get_or ts (n + 1) 0 ≤ get_or ts (i + 1) 0
  span-reach =
      let ends : i + (n - i) ≡ n = omega (arith, s.to) in
      rw ends at (none-larger (n - i) (omega (arith, s.to)))

-- the span holds a parameter of the domain: t_i ≤ p/q ≤ t_{i+1}, the right end of the domain included
pub span-holds :
    (ts : List ℕ) (m n p q i : ℕ) → IsSpan ts m n p q i → p ≤ get_or ts (n + 1) 0 * q → (get_or ts i 0 * q ≤ p) × (p ≤ get_or ts (i + 1) 0 * q)
span-holds ts m n p q i s high = (s.starts, by (dec_le (get_or ts (i + 1) 0 * q) p))
  where
    by : Dec (get_or ts (i + 1) 0 * q ≤ p) → p ≤ get_or ts (i + 1) 0 * q
    by (yes h) = le_trans high (mul-le-mul_right q (span-reach ts m n p q i s h))
    by (no h) = omega arith

-- the test of the domain says what it says
pub in_domain-says : (ts : List ℕ) (m n p q : ℕ) → in_domain ts m n p q ≡ true → (get_or ts m 0 * q ≤ p) × (p ≤ get_or ts (n + 1) 0 * q)
unfolding in_domain
in_domain-says ts m n p q e =
    let both = (and-eq-true_iff (leb (get_or ts m 0 * q) p) (leb p (get_or ts (n + 1) 0 * q))).0 e in
    (leb-true _ _ both.0, leb-true _ _ both.1)
