-- Three times an inner point of a whole piece, in rational numbers: 3·P + h·P' where it leaves P, and 3·Q - h·Q' where it arrives at Q.
use mathlib.Core.Path.{◌≡◌, sym, ap, ap₂, ◌∙◌}
use Prim.Native.Nat.{ℕ, ◌-◌, ◌≤◌}
use lib.IntN.{ℤ, pos, neg_ℤ, ◌+ℤ◌, ◌-ℤ◌, ◌*ℤ◌, *ℤ_comm}
use Rattle.algebra.specs.Operations.{sub}
use Rattle.algebra.specs.Ring.{numeral}
use Rattle.algebra.proofs.IntegerRing.{mul-add}
use Rattle.signed.proofs.DifferenceLaws.{pos-sub}
use Rattle.fractions.specs.Fraction.{whole, whole_n}
use Rattle.fractions.proofs.Rational.{class, plus, times, rational_operations}
use Rattle.fractions.proofs.WholeLaws.{whole_sum, whole-product, whole-difference}
use Rattle.fractions.proofs.IntegerLaws.{mul-neg}
use Rattle.spline_pieces.specs.Pieces.{third}

-- in whole numbers
abbrev Third : ℕ → ℤ → Type 0
Third h d = third h d *ℤ pos 3 ≡ pos h *ℤ d

third_back : (h : ℕ) (d : ℤ) → Third h d → pos 3 *ℤ third h d ≡ pos h *ℤ d
third_back h d e = *ℤ_comm (pos 3) (third h d) ∙ e

leaving-back : (h : ℕ) (p d : ℤ) → Third h d → pos 3 *ℤ (p +ℤ third h d) ≡ pos 3 *ℤ p +ℤ pos h *ℤ d
leaving-back h p d e = mul-add (pos 3) p (third h d) ∙ ap (λ z. pos 3 *ℤ p +ℤ z) (third_back h d e)

arriving-back : (h : ℕ) (p d : ℤ) → Third h d → pos 3 *ℤ (p -ℤ third h d) ≡ pos 3 *ℤ p -ℤ pos h *ℤ d
arriving-back h p d e =
    mul-add (pos 3) p (neg_ℤ (third h d))
    ∙ ap (λ z. pos 3 *ℤ p +ℤ z) (mul-neg (pos 3) (third h d) ∙ ap neg_ℤ (third_back h d e))

-- the number 3, and a width, as rational numbers
three-is : class (whole (pos 3)) ≡ numeral rational_operations 3
unfolding numeral
three-is = whole_sum (pos 2) (pos 1) ∙ ap (λ x. plus x (class (whole (pos 1)))) (whole_sum (pos 1) (pos 1))

width_is : (a b : ℕ) → a ≤ b → class (whole_n (b - a)) ≡ sub rational_operations (class (whole_n b)) (class (whole_n a))
width_is a b h = ap (λ z. class (whole z)) (sym (pos-sub b a h)) ∙ whole-difference (pos b) (pos a)

module _ (a b : ℕ) (rise : a ≤ b) (p d : ℤ) (e : Third (b - a) d) where
  reach : class (whole (pos (b - a) *ℤ d)) ≡ times (sub rational_operations (class (whole_n b)) (class (whole_n a))) (class (whole d))
  reach = whole-product (pos (b - a)) d ∙ ap (λ x. times x (class (whole d))) (width_is a b rise)

  triple : (z : ℤ) → class (whole (pos 3 *ℤ z)) ≡ times (numeral rational_operations 3) (class (whole z))
  triple z = whole-product (pos 3) z ∙ ap (λ x. times x (class (whole z))) three-is

  pub leaving-third : times (numeral rational_operations 3) (class (whole (p +ℤ third (b - a) d)))
      ≡ plus (times (numeral rational_operations 3) (class (whole p))) (times (sub rational_operations (class (whole_n b)) (class (whole_n a))) (class (whole d)))
  leaving-third =
      sym (triple (p +ℤ third (b - a) d))
      ∙ ap (λ z. class (whole z)) (leaving-back (b - a) p d e)
      ∙ whole_sum (pos 3 *ℤ p) (pos (b - a) *ℤ d)
      ∙ ap₂ plus (triple p) reach

  pub arriving-third : times (numeral rational_operations 3) (class (whole (p -ℤ third (b - a) d)))
      ≡ sub rational_operations (times (numeral rational_operations 3) (class (whole p))) (times (sub rational_operations (class (whole_n b)) (class (whole_n a))) (class (whole d)))
  arriving-third =
      sym (triple (p -ℤ third (b - a) d))
      ∙ ap (λ z. class (whole z)) (arriving-back (b - a) p d e)
      ∙ whole-difference (pos 3 *ℤ p) (pos (b - a) *ℤ d)
      ∙ ap₂ (sub rational_operations) (triple p) reach
