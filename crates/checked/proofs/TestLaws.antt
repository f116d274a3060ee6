-- Tests, and tests of every entry of a list: what they say where they pass and where they fail.
use mathlib.Core.Bool.{Bool, true, false, ◌&&◌, true≢false}
use mathlib.Core.List.{List, [], ◌∷◌}
use mathlib.Core.Logic.{◌⊎◌, inl, inr, ⊎_elim, ◌↔◌}
use mathlib.Core.Path.{◌≡◌, refl, sym, ◌∙◌}
use Prim.Native.Nat.{ℕ, zero, suc, ◌≤◌, ◌<◌}
use native.Mathlib.Omega.{arith}
use lib.Dec.{leb, ltb, eqb}
use lib.ListN.{length, get_or}
use borrow.Author.Tests.{leb-true, leb-false, ltb-true, ltb-false, eqb-true, eqb-false}
use Rattle.refusal.proofs.JudgingLaws.{both}
use Rattle.curve.specs.Lists.{Lists}
use Rattle.curve.specs.HandingOver.{enough, room_for}
use Rattle.grid.proofs.FlagLaws.{fails, passes}
use Rattle.curve.specs.Sentences.{RoomWrong}

-- a conjunction that fails, by the part that does
pub one-fails : (a b : Bool) → (a && b) ≡ false → (a ≡ false) ⊎ (b ≡ false)
one-fails true b e = inr e
one-fails false b e = inl refl

-- a test whose passing says P and whose failing says S, where the two exclude each other
pub record Judged (ok : Bool) (P S : Type 0) : Type 0 where
  pub passing : ok ≡ true → P
  pub failing : ok ≡ false → S
  pub clash : P → S → ⊥

module _ {P S : Type 0} {ok : Bool} (j : Judged ok P S) where
  pub fails-iff : (ok ≡ false) ↔ S
  fails-iff = (j.failing, λ s. fails ok (λ e. j.clash (j.passing e) s))

  pub passes-from : P → ok ≡ true
  passes-from p = passes ok (λ e. j.clash p (j.failing e))

-- tests of order
pub leb-judged : (a b : ℕ) → Judged (leb a b) (a ≤ b) (b < a)
leb-judged a b = record { passing = leb-true a b; failing = leb-false a b; clash = λ p s. omega arith }

pub ltb-judged : (a b : ℕ) → Judged (ltb a b) (a < b) (b ≤ a)
ltb-judged a b = record { passing = ltb-true a b; failing = ltb-false a b; clash = λ p s. omega arith }

-- two tests that must both pass, and three
module _ {a b : Bool} {P Q S T : Type 0} (p : Judged a P S) (q : Judged b Q T) where
  either-clash : P × Q → S ⊎ T → ⊥
  either-clash x (inl s) = p.clash x.0 s
  either-clash x (inr t) = q.clash x.1 t

  pub both-judged : Judged (a && b) (P × Q) (S ⊎ T)
  both-judged =
      record {
        passing = λ h. let e = both a b h in (p.passing e.0, q.passing e.1);
        failing = λ h. ⊎_elim (λ e. inl (p.failing e)) (λ e. inr (q.failing e)) (one-fails a b h);
        clash = either-clash;
      }

pub three-judged : {a b c : Bool} {P Q R S T U : Type 0} → Judged a P S → Judged b Q T → Judged c R U → Judged (a && b && c) (P × Q × R) (S ⊎ T ⊎ U)
three-judged {a} {b} {c} {S = S} {T = T} {U = U} p q r =
    let j = both-judged (both-judged p q) r in
    record {
      passing = λ h. let e = j.passing h in (e.0.0, e.0.1, e.1);
      failing = λ h. regroup (j.failing h);
      clash = λ x s. j.clash ((x.0, x.1), x.2) (back s);
    }
  where
    regroup : (S ⊎ T) ⊎ U → S ⊎ T ⊎ U
    regroup (inl (inl s)) = inl s
    regroup (inl (inr t)) = inr (inl t)
    regroup (inr u) = inr (inr u)

    back : S ⊎ T ⊎ U → (S ⊎ T) ⊎ U
    back (inl s) = inl (inl s)
    back (inr (inl t)) = inl (inr t)
    back (inr (inr u)) = inr u

-- row 15: one of the lists is too short
pub room-judged : (result lent : Lists) → Judged (room_for result lent)
    ((length result.knots ≤ length lent.knots) × (length result.xs ≤ length lent.xs) × (length result.ys ≤ length lent.ys))
    (RoomWrong result lent)
unfolding enough
room-judged result lent = three-judged (leb-judged _ _) (leb-judged _ _) (leb-judged _ _)

module _ {A : Type 0} (ok : A → Bool) (all : List A → Bool) (none : all [] ≡ true) (more : (a : A) (l : List A) → all (a ∷ l) ≡ (ok a && all l)) (d : A) where
  pub every-passes : (l : List A) → all l ≡ true → (k : ℕ) → k < length l → ok (get_or l k d) ≡ true
  every-passes [] h k i = absurd (omega arith)
  every-passes (a ∷ l) h zero i = (both (ok a) (all l) (sym (more a l) ∙ h)).0
  every-passes (a ∷ l) h (suc k) i = every-passes l (both (ok a) (all l) (sym (more a l) ∙ h)).1 k (omega arith)

  pub some-fails : (l : List A) → all l ≡ false → (k : ℕ) × (k < length l) × (ok (get_or l k d) ≡ false)
  some-fails [] h = absurd (true≢false (sym none ∙ h))
  some-fails (a ∷ l) h =
      let rest = some-fails l in
      ⊎_elim
      (λ e. (zero, omega arith, e))
      (λ e. (suc (rest e).0, omega (arith, (rest e).1), (rest e).2))
      (one-fails (ok a) (all l) (sym (more a l) ∙ h))

  -- a test of every entry, by the test of one
  pub every-judged : {P S : A → Type 0} → ((a : A) → Judged (ok a) (P a) (S a)) → (l : List A)
      → Judged (all l) ((k : ℕ) → k < length l → P (get_or l k d)) ((k : ℕ) × (k < length l) × S (get_or l k d))
  every-judged each l =
      record {
        passing = λ h k i. (each (get_or l k d)).passing (every-passes l h k i);
        failing = λ h. let r = some-fails l h in (r.0, r.1, (each (get_or l r.0 d)).failing r.2);
        clash = λ p s. (each (get_or l s.0 d)).clash (p s.0 s.1) s.2;
      }

-- a test of equality
pub eqb-judged : (a b : ℕ) → Judged (eqb a b) (a ≡ b) (a ≡ b → ⊥)
eqb-judged a b = record { passing = eqb-true a b; failing = eqb-false a b; clash = λ p s. s p }
