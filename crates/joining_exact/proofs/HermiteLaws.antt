-- On the span of piece i the exact curve is the Hermite cubic of interval i, at any fraction: `span-is-hermite`. The cubic's ends are its points.
use mathlib.Core.Bool.{true}
use mathlib.Core.List.{List, [], ◌∷◌}
use mathlib.Core.Path.{◌≡◌, refl, sym, ap, ap₂, ◌∙◌}
use Prim.Native.Nat.{ℕ, suc, ◌+◌, ◌-◌, ◌*◌, ◌≤◌, ◌<◌}
use native.Mathlib.Nat.{le_of_lt}
use native.Mathlib.Omega.{arith}
use lib.IntN.{ℤ, pos}
use lib.ListN.{length, get_or}
use Rattle.algebra.specs.Operations.{sub}
use Rattle.algebra.specs.OrderedField.{OrderedField, Below}
use Rattle.algebra.specs.Ring.{field_ring, numeral}
use Rattle.algebra.proofs.Expressions.{var, lit, expressions}
use Rattle.algebra.proofs.Solver.{ring}
use Rattle.fractions.specs.Fraction.{whole, whole_n}
use Rattle.fractions.specs.Order.{Equals}
use Rattle.fractions.proofs.Rational.{class, rational, rational_operations, equals-of-class}
use Rattle.fractions.proofs.ClassLaws.{class-sum, class-product, class-negation, class-reciprocal, whole_n-below}
use Rattle.splines.specs.Bezier.{hermite_at, hermite}
use Rattle.splines.proofs.SpanLaws.{divisor-inverse}
use Rattle.splines.proofs.HermiteLaws.{piece-is-hermite}
use Rattle.exact.specs.ExactPoint.{exact_coordinate}
use Rattle.exact.proofs.ExactLaws.{rational_knot, rational_coordinate, rational_parameter, exact-class}
use Rattle.spline_pieces.specs.Pieces.{piece_of, piece_at, pieces, all_whole}
use Rattle.spline_pieces.specs.Standing.{Rising}
use Rattle.spline_pieces.proofs.SentenceLaws.{whole-judged}
use Rattle.joined_curve.specs.Curve.{inner_thrice, joined_points}
use Rattle.joined_curve.proofs.CurveLaws.{points-length}
use Rattle.joining_exact.specs.HermitePoint.{hermite_coordinate}
use Rattle.joined_curve.proofs.PointLaws.{leaving-is, arriving-is, point-is}
use Rattle.joining_exact.proofs.ThirdLaws.{leaving-third, arriving-third}

-- the cubic on pairs of whole numbers and the cubic in rational numbers
pub hermite-class : (ss : List ℕ) (ps ds : List ℤ) (i p q : ℕ)
    → class (hermite_coordinate ss ps ds i p q)
    ≡ hermite rational_operations (class (whole_n (get_or ss i 0))) (class (whole_n (get_or ss (suc i) 0)))
    (class (whole (get_or ps i (pos 0)))) (class (whole (get_or ps (suc i) (pos 0))))
    (class (whole (get_or ds i (pos 0)))) (class (whole (get_or ds (suc i) (pos 0)))) (rational_parameter p q)
unfolding hermite_coordinate numeral
hermite-class ss ps ds i p q = simp (class-sum, class-product, class-negation, class-reciprocal)

-- `ts` are knots that are s_i and s_{i+1} round the span of piece i; x and y share them
module _ (ss : List ℕ) (ps ds : List ℤ) (rising : Rising ss) (all : all_whole (pieces ss ps ds) ≡ true) (i : ℕ) (inside : i + 1 < length ss) (p q : ℕ)
    (ts : List ℕ) (knots : (k r : ℕ) → k < length ss → r < 3 → get_or ts (3 * k + 1 + r) 0 ≡ get_or ss k 0) where
  abbrev us : List ℤ
  us = joined_points inner_thrice (pieces ss ps ds)

  starts : (j : ℕ) → j ≤ 3 * i + 3 → 3 * i + 3 < j + 3 → rational_knot ts j ≡ class (whole_n (get_or ss i 0))
  starts j low high =
      let here : j ≡ 3 * i + 1 + (j - (3 * i + 1)) = omega arith in
      ap (λ k. class (whole_n (get_or ts k 0))) here ∙ ap (λ v. class (whole_n v)) (knots i (j - (3 * i + 1)) (omega arith) (omega arith))

  ends : (j : ℕ) → 3 * i + 3 < j → j ≤ 3 * i + 3 + 3 → rational_knot ts j ≡ class (whole_n (get_or ss (suc i) 0))
  ends j low high =
      let here : j ≡ 3 * suc i + 1 + (j - (3 * suc i + 1)) = omega arith in
      ap (λ k. class (whole_n (get_or ts k 0))) here ∙ ap (λ v. class (whole_n v)) (knots (suc i) (j - (3 * suc i + 1)) (omega arith) (omega arith))

  next-below : get_or ss i 0 < get_or ss (suc i) 0
  next-below = rising.rises i (omega arith)

  -- the four carrying coordinates
  first-is : rational_coordinate us (3 * i + 3 - 3) ≡ class (whole (get_or ps i (pos 0)))
  first-is =
      let here : 3 * i + 3 - 3 ≡ 3 * i = omega arith in
      ap (λ j. rational_coordinate us j) here ∙ ap (λ z. class (whole z)) (point-is ss ps ds rising.least i (omega arith))

  last-is : rational_coordinate us (3 * i + 3) ≡ class (whole (get_or ps (suc i) (pos 0)))
  last-is =
      let here : 3 * i + 3 ≡ 3 * suc i = omega arith in
      ap (λ j. rational_coordinate us j) here ∙ ap (λ z. class (whole z)) (point-is ss ps ds rising.least (suc i) (omega arith))

  second_is : rational_coordinate us (3 * i + 3 - 2) ≡ class (whole (piece_at ss ps ds i).leaving)
  second_is =
      let here : 3 * i + 3 - 2 ≡ 3 * i + 1 = omega arith in
      ap (λ j. rational_coordinate us j) here ∙ ap (λ z. class (whole z)) (leaving-is 3 (omega arith) ss ps ds rising.least i (omega arith))

  third-is : rational_coordinate us (3 * i + 3 - 1) ≡ class (whole (piece_at ss ps ds i).arriving)
  third-is =
      let here : 3 * i + 3 - 1 ≡ 3 * i + 2 = omega arith in
      ap (λ j. rational_coordinate us j) here ∙ ap (λ z. class (whole z)) (arriving-is 3 (omega arith) ss ps ds rising.least i (omega arith))

  pub span-is-hermite : Equals (exact_coordinate ts us 3 (3 * i + 3) p q) (hermite_coordinate ss ps ds i p q)
  unfolding piece_at piece_of
  span-is-hermite =
      let low = get_or ss i 0 in
      let high = get_or ss (suc i) 0 in
      let thirds = (whole-judged ss ps ds).passing all i (omega arith) in
      equals-of-class (exact_coordinate ts us 3 (3 * i + 3) p q) (hermite_coordinate ss ps ds i p q)
      (exact-class ts us 3 (3 * i + 3) p q
      ∙ piece-is-hermite rational (rational_knot ts) (rational_coordinate us) (3 * i + 3) (class (whole_n low)) (class (whole_n high)) (rational_parameter p q)
      (omega arith) starts ends (length us) (omega (arith, points-length 3 (omega arith) ss ps ds rising.least))
      (class (whole (get_or ds i (pos 0)))) (class (whole (get_or ds (suc i) (pos 0)))) ((whole_n-below low high).0 next-below)
      (rw (second_is, first-is) (leaving-third low high (le_of_lt next-below) (get_or ps i (pos 0)) (get_or ds i (pos 0)) thirds.0))
      (rw (third-is, last-is) (arriving-third low high (le_of_lt next-below) (get_or ps (suc i) (pos 0)) (get_or ds (suc i) (pos 0)) thirds.1))
      ∙ ap₂ (λ x y. hermite rational_operations (class (whole_n low)) (class (whole_n high)) x y (class (whole (get_or ds i (pos 0)))) (class (whole (get_or ds (suc i) (pos 0)))) (rational_parameter p q)) first-is last-is
      ∙ sym (hermite-class ss ps ds i p q))

-- the cubic starts at its first point and ends at its second
module _ (F : OrderedField) where
  open F use {operations as O}
  open O use {Number, inv}

  pub hermite-start : (a b p q u v : Number) → hermite O a b p q u v a ≡ p
  unfolding numeral
  hermite-start a b p q u v =
      ring (field_ring F) (a ∷ b ∷ p ∷ q ∷ u ∷ v ∷ inv (sub O b a) ∷ [])
      (hermite (expressions [] 6) (var 0) (var 1) (var 2) (var 3) (var 4) (var 5) (var 0)) (var 2) refl

  pub hermite-end : (a b p q u v : Number) → Below F a b → hermite O a b p q u v b ≡ q
  unfolding numeral
  hermite-end a b p q u v some =
      ap (λ y. hermite_at O (sub O b a) y p q u v) (divisor-inverse F a b some)
      ∙ ring (field_ring F) (sub O b a ∷ p ∷ q ∷ u ∷ v ∷ [])
      (hermite_at (expressions [] 5) (var 0) (lit 1) (var 1) (var 2) (var 3) (var 4)) (var 2) refl
