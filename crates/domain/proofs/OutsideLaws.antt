-- 8 is given exactly when the curve passes and the parameter is outside the domain, and nothing is refused exactly when it is inside.
use mathlib.Core.Bool.{Bool, true, false, ◌&&◌}
use mathlib.Core.List.{List}
use mathlib.Core.Logic.{inl, inr}
use mathlib.Core.Path.{◌≡◌, refl, sym, ◌∙◌}
use Prim.Native.Nat.{ℕ, ◌+◌, ◌-◌}
use native.Mathlib.Decide.{ℕ_discrete}
use native.Mathlib.Nat.{mul-one}
use native.Mathlib.Omega.{arith}
use borrow.Author.Tests.{leb-false, lt-leb}
use lib.Dec.{leb}
use lib.IntN.{ℤ}
use lib.ListN.{length, get_or}
use Rattle.refusal.specs.Judging.{unless}
use Rattle.grid.specs.Check.{check_number, Passes}
use Rattle.grid.proofs.CheckLaws.{check_number-most}
use Rattle.span.specs.Span.{in_domain}
use Rattle.span.proofs.SentenceLaws.{domain-exactly}
use Rattle.domain.specs.Parameter.{parameter_number}
use Rattle.domain.specs.Sentences.{Outside, Inside, EightExactly, AcceptedExactly, CurveJudgedFirst}
use Rattle.domain.proofs.ParameterLaws.{curve-refused, curve-passed, parameter-accepted}

-- the test of the domain fails exactly outside it
module _ (ts : List ℕ) (m n t : ℕ) where
  outside-of-test : in_domain ts m n t 1 ≡ false → Outside ts m n t
  unfolding in_domain
  outside-of-test e = by (leb (get_or ts m 0) t) refl (simp mul-one at e)
    where
      by : (b : Bool) → leb (get_or ts m 0) t ≡ b → (leb (get_or ts m 0) t && leb t (get_or ts (n + 1) 0)) ≡ false → Outside ts m n t
      by true p f = inr (leb-false t (get_or ts (n + 1) 0) (simp p at f))
      by false p f = inl (leb-false (get_or ts m 0) t p)

  test-of-outside : Outside ts m n t → in_domain ts m n t 1 ≡ false
  unfolding in_domain
  test-of-outside (inl left) = simp (mul-one, lt-leb (get_or ts m 0) t left)
  test-of-outside (inr right) = simp (mul-one, lt-leb t (get_or ts (n + 1) 0) right, mathlib.Core.Bool.and-false)

eight-of-test : (b : Bool) → unless b 8 0 ≡ 8 → b ≡ false
eight-of-test true e = absurd (omega arith)
eight-of-test false e = refl

module _ (m : ℕ) (ts : List ℕ) (xs ys : List ℤ) (t : ℕ) where
  outside-of-number : parameter_number m ts xs ys t ≡ 8 → Passes m ts xs ys × Outside ts m (length xs - 1) t
  outside-of-number h = by (ℕ_discrete (check_number m ts xs ys) 0)
    where
      by : Dec (check_number m ts xs ys ≡ 0) → Passes m ts xs ys × Outside ts m (length xs - 1) t
      by (yes p) = (p, outside-of-test ts m (length xs - 1) t (eight-of-test (in_domain ts m (length xs - 1) t 1) (sym (curve-passed m ts xs ys t p) ∙ h)))
      by (no r) = absurd (omega (arith, check_number-most m ts xs ys, curve-refused m ts xs ys t r ∙ h))

  number-of-outside : Passes m ts xs ys × Outside ts m (length xs - 1) t → parameter_number m ts xs ys t ≡ 8
  number-of-outside w = curve-passed m ts xs ys t w.0 ∙ simp (test-of-outside ts m (length xs - 1) t w.1)

  inside-of-number : parameter_number m ts xs ys t ≡ 0 → Passes m ts xs ys × Inside ts m (length xs - 1) t
  inside-of-number h =
      let judged = parameter-accepted m ts xs ys t h in
      (judged.0, simp mul-one at ((domain-exactly ts m (length xs - 1) t 1).0 judged.1))

  number-of-inside : Passes m ts xs ys × Inside ts m (length xs - 1) t → parameter_number m ts xs ys t ≡ 0
  number-of-inside w =
      curve-passed m ts xs ys t w.0 ∙ simp ((domain-exactly ts m (length xs - 1) t 1).1 (simp mul-one w.1))

pub eight-exactly : EightExactly
eight-exactly m ts xs ys t = (outside-of-number m ts xs ys t, number-of-outside m ts xs ys t)

pub accepted-exactly : AcceptedExactly
accepted-exactly m ts xs ys t = (inside-of-number m ts xs ys t, number-of-inside m ts xs ys t)

pub curve-judged-first : CurveJudgedFirst
curve-judged-first m ts xs ys t refused = sym (curve-refused m ts xs ys t refused)
