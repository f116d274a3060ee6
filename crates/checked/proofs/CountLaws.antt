-- Rows 1 to 3: what the test of degree and counts says where it passes and where it fails.
use mathlib.Core.Bool.{true, false, ◌&&◌, true≢false}
use mathlib.Core.List.{List}
use mathlib.Core.Logic.{inl, inr, ⊎_elim}
use mathlib.Core.Path.{◌≡◌, refl, sym, ◌∙◌, ap}
use Prim.Native.Nat.{ℕ, ◌+◌, ◌≤◌}
use native.Mathlib.Omega.{arith}
use lib.Dec.{leb, eqb}
use lib.IntN.{ℤ}
use lib.ListN.{length}
use borrow.Author.Tests.{leb-false, eqb-false}
use Rattle.grid.specs.Limits.{points_most}
use Rattle.grid.specs.Rows.{degree_ok, point_count_ok, knot_count_ok}
use Rattle.grid.proofs.CountLaws.{degree-of-test, points-of-test, knots-of-test}
use Rattle.checked.specs.Sentences.{DegreeWrong, PointCountWrong, KnotCountWrong}
use Rattle.checked.proofs.TestLaws.{one-fails, Judged}

module _ (m : ℕ) where
  degree-wrong : degree_ok m ≡ false → DegreeWrong m
  unfolding degree_ok
  degree-wrong h = (none 1 refl, none 2 refl, none 3 refl)
    where
      none : (n : ℕ) → degree_ok n ≡ true → m ≡ n → ⊥
      none n ok e = true≢false (sym ok ∙ sym (ap degree_ok e) ∙ h)

  degree-clash : (1 ≤ m) × (m ≤ 3) → DegreeWrong m → ⊥
  degree-clash p w = omega (arith, p.0, p.1, w.0, w.1, w.2)

  pub degree-judged : Judged (degree_ok m) ((1 ≤ m) × (m ≤ 3)) (DegreeWrong m)
  degree-judged = record { passing = degree-of-test m; failing = degree-wrong; clash = degree-clash }

module _ (m : ℕ) (xs ys : List ℤ) where
  points-wrong : point_count_ok m xs ys ≡ false → PointCountWrong m xs ys
  unfolding point_count_ok
  points-wrong h =
      ⊎_elim
      (λ e.
      ⊎_elim
      (λ f. inl (eqb-false (length xs) (length ys) f))
      (λ f. inr (inl (leb-false (m + 1) (length xs) f)))
      (one-fails (eqb (length xs) (length ys)) (leb (m + 1) (length xs)) e))
      (λ e. inr (inr (leb-false (length xs) points_most e)))
      (one-fails (eqb (length xs) (length ys) && leb (m + 1) (length xs)) (leb (length xs) points_most) h)

  abbrev pub Counted : Type 0
  Counted = (length xs ≡ length ys) × (m + 1 ≤ length xs) × (length xs ≤ points_most)

  points-clash : Counted → PointCountWrong m xs ys → ⊥
  points-clash p (inl n) = n p.0
  points-clash p (inr (inl l)) = omega (arith, p.1)
  points-clash p (inr (inr l)) = omega (arith, p.2)

  pub points-judged : Judged (point_count_ok m xs ys) Counted (PointCountWrong m xs ys)
  points-judged = record { passing = points-of-test m xs ys; failing = points-wrong; clash = points-clash }

module _ (m : ℕ) (ts : List ℕ) (xs : List ℤ) where
  knots-wrong : knot_count_ok m ts xs ≡ false → KnotCountWrong m ts xs
  unfolding knot_count_ok
  knots-wrong h = eqb-false (length ts) (length xs + m + 1) h

  pub knots-judged : Judged (knot_count_ok m ts xs) (length ts ≡ length xs + m + 1) (KnotCountWrong m ts xs)
  knots-judged = record { passing = knots-of-test m ts xs; failing = knots-wrong; clash = λ p s. s p }
