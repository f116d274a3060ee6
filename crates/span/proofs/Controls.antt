-- Spans worked by hand, by computation: the right end of the domain, doubled knots, ends that are not clamped, a fraction; and what carries a span.
use mathlib.Core.Bool.{true, false}
use mathlib.Core.List.{List, [], ◌∷◌}
use mathlib.Core.Path.{◌≡◌, refl}
use Prim.Native.Nat.{ℕ}
use lib.IntN.{pos}
use Rattle.span.specs.Span.{span_of, in_domain, strictly_inside, carrying_of}

-- one span from 0 to 4, degree 3
abbrev one : List ℕ
one = 0 ∷ 0 ∷ 0 ∷ 0 ∷ 4 ∷ 4 ∷ 4 ∷ 4 ∷ []

-- two spans, 0 to 2 and 2 to 4, degree 2
abbrev two : List ℕ
two = 0 ∷ 0 ∷ 0 ∷ 2 ∷ 4 ∷ 4 ∷ 4 ∷ []

-- the knot 2 twice, degree 2
abbrev doubled : List ℕ
doubled = 0 ∷ 0 ∷ 0 ∷ 2 ∷ 2 ∷ 4 ∷ 4 ∷ 4 ∷ []

-- ends that are not clamped, and an empty span at the right end, degree 2
abbrev open-ended : List ℕ
open-ended = 0 ∷ 1 ∷ 2 ∷ 4 ∷ 4 ∷ 4 ∷ 5 ∷ []

right_end : span_of one 3 3 4 1 ≡ 3
unfolding span_of
right_end = refl

first-of-two : span_of two 2 3 1 1 ≡ 2
unfolding span_of
first-of-two = refl

at-an-inner-knot : span_of two 2 3 2 1 ≡ 3
unfolding span_of
at-an-inner-knot = refl

past-a-doubled-knot : span_of doubled 2 4 2 1 ≡ 4
unfolding span_of
past-a-doubled-knot = refl

before-a-doubled-knot : span_of doubled 2 4 7 4 ≡ 2
unfolding span_of
before-a-doubled-knot = refl

last-that-is-not-empty : span_of open-ended 2 3 4 1 ≡ 2
unfolding span_of
last-that-is-not-empty = refl

half-past-the-end : in_domain one 3 3 9 2 ≡ false
unfolding in_domain
half-past-the-end = refl

at-the-end : in_domain one 3 3 8 2 ≡ true
unfolding in_domain
at-the-end = refl

-- strictly inside: neither end, and what lies between them
left-end-not-inside : strictly_inside two 2 4 0 ≡ false
unfolding strictly_inside
left-end-not-inside = refl

between-the-ends : strictly_inside two 2 4 3 ≡ true
unfolding strictly_inside
between-the-ends = refl

right-end-not-inside : strictly_inside two 2 4 4 ≡ false
unfolding strictly_inside
right-end-not-inside = refl

-- the second span of a curve with points 10, 11, 12, 13 is carried by the last three
carried-by : carrying_of 2 3 (pos 10 ∷ pos 11 ∷ pos 12 ∷ pos 13 ∷ []) ≡ pos 11 ∷ pos 12 ∷ pos 13 ∷ []
carried-by = refl
