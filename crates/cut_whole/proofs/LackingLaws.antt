-- A list in which each of some values stands as often as it lacks of m times: how often each stands in it, and that it never falls.
use mathlib.Core.Bool.{true}
use mathlib.Core.List.{List, [], ◌∷◌, ◌++◌}
use mathlib.Core.Path.{◌≡◌, refl, sym, ap, ◌∙◌}
use Prim.Native.Nat.{ℕ, zero, suc, ◌+◌, ◌-◌, ◌*◌, ◌≤◌}
use native.Mathlib.Decide.{ℕ_discrete}
use native.Mathlib.Nat.{le_refl, suc-mul, zero-mul}
use native.Mathlib.Omega.{arith}
use borrow.Author.Tests.{le-leb}
use lib.ListN.{replicate}
use Rattle.grid.specs.Limits.{knot_most}
use Rattle.grid.specs.Rows.{rises_from, occurrences}
use Rattle.grid.proofs.RepeatLaws.{occurrences-is, occurrences-not, rises-cons, rises-weaken}
use Rattle.cutting.specs.Cutting.{lacking}

-- n equal entries in front: they are v, or they are not
module _ (v t : ℕ) (l : List ℕ) where
  run_is : (n : ℕ) → t ≡ v → occurrences v (replicate n t ++ l) ≡ n + occurrences v l
  run_is zero e = omega arith
  run_is (suc n) e = occurrences-is v t (replicate n t ++ l) e ∙ ap suc (run_is n e) ∙ omega arith

  run-not : (n : ℕ) → (t ≡ v → ⊥) → occurrences v (replicate n t ++ l) ≡ occurrences v l
  run-not zero n = refl
  run-not (suc k) n = occurrences-not v t (replicate k t ++ l) n ∙ run-not k n

-- a value that stands so often among the values stands as often m - its number among the knots
pub lacking-occurrences : (m : ℕ) (ts vs : List ℕ) (v : ℕ) → occurrences v (lacking m ts vs) ≡ occurrences v vs * (m - occurrences v ts)
unfolding lacking occurrences
lacking-occurrences m ts [] v = sym (zero-mul (m - occurrences v ts))
lacking-occurrences m ts (t ∷ vs) v =
    let rest = lacking-occurrences m ts vs v in
    elim (ℕ_discrete t v) [
      | yes e ↦
          let more = suc-mul (occurrences v vs) (m - occurrences v ts) in
          let lack : m - occurrences t ts ≡ m - occurrences v ts = ap (λ w. m - occurrences w ts) e in
          run_is v t (lacking m ts vs) (m - occurrences t ts) e ∙ rw (occurrences-is v t vs e) (omega arith)
      | no n ↦ run-not v t (lacking m ts vs) (m - occurrences t ts) n ∙ rw (occurrences-not v t vs n) rest
    ]

-- equal entries in front of knots that never fall below them
run-rises : (n low v : ℕ) (l : List ℕ) → low ≤ v → v ≤ knot_most → rises_from v l ≡ true → rises_from low (replicate n v ++ l) ≡ true
unfolding rises_from
run-rises zero low v l h k e = rises-weaken v low l h e
run-rises (suc n) low v l h k e = rw (le-leb low v h, le-leb v knot_most k) (run-rises n v v l (le_refl v) k e)

pub lacking-rises : (m : ℕ) (ts : List ℕ) (low : ℕ) (vs : List ℕ) → rises_from low vs ≡ true → rises_from low (lacking m ts vs) ≡ true
unfolding lacking rises_from
lacking-rises m ts low [] h = refl
lacking-rises m ts low (v ∷ vs) h =
    let p = rises-cons low v vs h in
    run-rises (m - occurrences v ts) low v (lacking m ts vs) p.0 p.2 (lacking-rises m ts v vs p.1)
