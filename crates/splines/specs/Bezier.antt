-- A curve over the interval from a to b (headings "Joining spline points" and "Out to SVG"): of any degree by its control numbers; a cubic by
-- four of them, and by its values p, q and tangents u, v at the two ends.
use Rattle.std.specs.Prelude.{ℕ, zero, suc, ◌-◌}
use Rattle.algebra.specs.Operations.{Operations, sub, div}
use Rattle.algebra.specs.Ring.{numeral}
use Rattle.splines.specs.Triangle.{cell}

-- de Casteljau's scheme: row 0 is the control numbers, and entry j of the next row is ((b - t)·left + (t - a)·right) / (b - a) of the entries
-- j-1 and j; entry m of row m is the Bezier curve of degree m at t
unfoldable pub casteljau : (O : Operations) (a b : O.Number) (ps : ℕ → O.Number) (t : O.Number) → ℕ → ℕ → O.Number
casteljau O a b ps t zero j = ps j
casteljau O a b ps t (suc r) j = cell O b t a (casteljau O a b ps t r (j - 1)) (casteljau O a b ps t r j)

-- x³·p₀ + 3·y·x²·p₁ + 3·y²·x·p₂ + y³·p₃
abbrev pub bernstein : (O : Operations) (x y p₀ p₁ p₂ p₃ : O.Number) → O.Number
bernstein O x y p₀ p₁ p₂ p₃ =
    O.add
    (O.add
    (O.add (O.mul (O.mul x (O.mul x x)) p₀) (O.mul (O.mul (numeral O 3) (O.mul y (O.mul x x))) p₁))
    (O.mul (O.mul (numeral O 3) (O.mul (O.mul y y) x)) p₂))
    (O.mul (O.mul y (O.mul y y)) p₃)

-- the Bezier cubic: x is (b - t)/(b - a) and y is (t - a)/(b - a)
abbrev pub bezier : (O : Operations) (a b p₀ p₁ p₂ p₃ t : O.Number) → O.Number
bezier O a b p₀ p₁ p₂ p₃ t = bernstein O (div O (sub O b t) (sub O b a)) (div O (sub O t a) (sub O b a)) p₀ p₁ p₂ p₃

-- the weight of the first point: 2·y³ - 3·y² + 1
abbrev pub start_weight : (O : Operations) (y : O.Number) → O.Number
start_weight O y =
    O.add (sub O (O.mul (numeral O 2) (O.mul y (O.mul y y))) (O.mul (numeral O 3) (O.mul y y))) O.one

-- the weight of the last point: -2·y³ + 3·y²
abbrev pub end_weight : (O : Operations) (y : O.Number) → O.Number
end_weight O y = O.add (O.neg (O.mul (numeral O 2) (O.mul y (O.mul y y)))) (O.mul (numeral O 3) (O.mul y y))

-- the weight of the first tangent: y·(y² - 2·y + 1)·h, where h is the interval's width
abbrev pub start_tangent_weight : (O : Operations) (h y : O.Number) → O.Number
start_tangent_weight O h y =
    O.mul (O.mul y (O.add (sub O (O.mul y y) (O.mul (numeral O 2) y)) O.one)) h

-- the weight of the last tangent: y·(y² - y)·h
abbrev pub end_tangent_weight : (O : Operations) (h y : O.Number) → O.Number
end_tangent_weight O h y = O.mul (O.mul y (sub O (O.mul y y) y)) h

-- the four weights' sum at y
abbrev pub hermite_at : (O : Operations) (h y p q u v : O.Number) → O.Number
hermite_at O h y p q u v =
    O.add
    (O.add
    (O.add (O.mul (start_weight O y) p) (O.mul (end_weight O y) q))
    (O.mul (start_tangent_weight O h y) u))
    (O.mul (end_tangent_weight O h y) v)

-- the Hermite cubic: y is (t - a)/(b - a)
abbrev pub hermite : (O : Operations) (a b p q u v t : O.Number) → O.Number
hermite O a b p q u v t = hermite_at O (sub O b a) (div O (sub O t a) (sub O b a)) p q u v
