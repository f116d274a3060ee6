-- What an answer says of the test that was judged first.
use mathlib.Core.Bool.{Bool, true, false, not, cond, ◌&&◌, and-eq-true_iff}
use mathlib.Core.Path.{◌≡◌, refl, sym, ◌∙◌}
use Prim.Native.Nat.{ℕ, suc}
use lib.Dec.{eqb, eqb-suc-zero}
use borrow.Author.Tests.{not-true, not-false, ne_eqb}
use native.Mathlib.Omega.{arith}
use Rattle.refusal.specs.Judging.{unless, answered}

-- number 0: the first test passed, and nothing after it was refused
pub unless-accepted : (ok : Bool) (n : ℕ) (next : ℕ) → unless ok (suc n) next ≡ 0 → (ok ≡ true) × (next ≡ 0)
unless-accepted true n next h = (refl, h)
unless-accepted false n next h = absurd (omega arith)

-- code that judges `!flag`, where the flag is the test: it failed
pub test-failed : {flag test : Bool} → not flag ≡ true → flag ≡ test → test ≡ false
test-failed {flag} {test} n e = sym e ∙ not-true flag n

-- it passed
pub test-passed : {flag test : Bool} → not flag ≡ false → flag ≡ test → test ≡ true
test-passed {flag} {test} n e = sym e ∙ not-false flag n

-- a chain that goes on to `next` is the chain by itself, with `next` where that refuses nothing
pub unless-split : (ok : Bool) (n next whole alone : ℕ) → whole ≡ cond (eqb alone 0) next alone
    → unless ok (suc n) whole ≡ cond (eqb (unless ok (suc n) alone) 0) next (unless ok (suc n) alone)
unless-split true n next whole alone h = h
unless-split false n next whole alone h = rw (eqb-suc-zero n)

-- what holds of both numbers holds of the answer
pub unless-all : (P : ℕ → Type 0) (ok : Bool) (n next : ℕ) → P n → P next → P (unless ok n next)
unless-all P true n next h k = k
unless-all P false n next h k = h

-- two tests that both pass, each for itself
pub both : (a b : Bool) → (a && b) ≡ true → (a ≡ true) × (b ≡ true)
both a b = (and-eq-true_iff a b).0

-- a refusal answers its number
pub answered-refused : {B A : Type 0} (done : B → A) (refused : ℕ → A) (number : ℕ) (value : B) → (number ≡ 0 → ⊥) → answered done refused number value ≡ refused number
answered-refused done refused number value h = rw (ne_eqb number 0 h)
