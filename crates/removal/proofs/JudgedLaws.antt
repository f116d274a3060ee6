-- The number of a removal, test by test, and what number 0 says.
use mathlib.Core.Bool.{Bool, true, false}
use mathlib.Core.List.{List}
use mathlib.Core.Path.{◌≡◌, refl, sym, ◌∙◌}
use Prim.Native.Nat.{ℕ, ◌<◌}
use native.Mathlib.Decide.{ℕ_discrete}
use native.Mathlib.Omega.{arith}
use lib.Dec.{leb}
use lib.IntN.{ℤ}
use lib.ListN.{length, get_or}
use borrow.Author.Tests.{leb-true, leb-false}
use Rattle.refusal.specs.Numbers.{accepted, not_inner_refused}
use Rattle.curve.specs.Lists.{Lists, lists}
use Rattle.span.specs.Span.{strictly_inside}
use Rattle.grid.specs.Rows.{occurrences}
use Rattle.grid.specs.Check.{Passes, check_number}
use Rattle.grid.proofs.ThenLaws.{checked_then-passed, checked_then-refused}
use Rattle.checked.proofs.TestLaws.{Judged, passes-from, ltb-judged, three-judged}
use Rattle.checked.proofs.OccurrenceLaws.{stands_at, occurs-at}
use Rattle.removal.specs.Polygon.{Inner}
use Rattle.removal.specs.Judged.{inner_ok, removal_number}
use Rattle.removal.specs.Sentences.{NotInner}

-- some knot is v, or none is
present-judged : (v : ℕ) (ts : List ℕ) → Judged (leb 1 (occurrences v ts)) (0 < occurrences v ts) ((k : ℕ) → k < length ts → get_or ts k 0 ≡ v → ⊥)
present-judged v ts =
    record {
      passing = leb-true 1 (occurrences v ts);
      failing = λ h k i e. omega (arith, leb-false 1 (occurrences v ts) h, occurs-at v ts k i e);
      clash = λ p none. let at = stands_at v ts p in none at.0 at.1 at.2;
    }

-- row 12
pub inner-judged : (m : ℕ) (c : Lists) (v : ℕ) → Judged (inner_ok m c.knots c.xs v)
    ((get_or c.knots m 0 < v) × (v < get_or c.knots (length c.xs) 0) × (0 < occurrences v c.knots))
    (NotInner m c v)
unfolding inner_ok strictly_inside
inner-judged m c v = three-judged (ltb-judged _ _) (ltb-judged _ _) (present-judged v c.knots)

module _ (m : ℕ) (ts : List ℕ) (xs ys : List ℤ) (v : ℕ) where
  pub number-refused : (check_number m ts xs ys ≡ 0 → ⊥) → check_number m ts xs ys ≡ removal_number m (lists ts xs ys) v
  unfolding removal_number
  number-refused h = sym (checked_then-refused m ts xs ys _ h)

  pub number-not-inner : Passes m ts xs ys → inner_ok m ts xs v ≡ false → not_inner_refused ≡ removal_number m (lists ts xs ys) v
  unfolding removal_number
  number-not-inner h e = sym (checked_then-passed m ts xs ys _ h ∙ rw e)

  pub number-accepted : Passes m ts xs ys → inner_ok m ts xs v ≡ true → accepted ≡ removal_number m (lists ts xs ys) v
  unfolding removal_number
  number-accepted h e = sym (checked_then-passed m ts xs ys _ h ∙ rw e)

  inner-of-tests : Passes m ts xs ys → inner_ok m ts xs v ≡ true → Inner m ts xs ys v
  inner-of-tests h e =
      let i = (inner-judged m (lists ts xs ys) v).passing e in
      record { passes = h; low = i.0; high = i.1; present = i.2 }

  pub inner-of-number : removal_number m (lists ts xs ys) v ≡ 0 → Inner m ts xs ys v
  inner-of-number h = go (ℕ_discrete (check_number m ts xs ys) 0)
    where
      go : Dec (check_number m ts xs ys ≡ 0) → Inner m ts xs ys v
      go (no n) = absurd (n (number-refused n ∙ h))
      go (yes p) = test (inner_ok m ts xs v) refl
        where
          test : (b : Bool) → inner_ok m ts xs v ≡ b → Inner m ts xs ys v
          test true e = inner-of-tests p e
          test false e = absurd (wrong (number-not-inner p e ∙ h))
            where
              wrong : not_inner_refused ≡ 0 → ⊥
              wrong z = omega arith

  -- an inner knot of a curve that passes: number 0
  pub number-of-inner : Inner m ts xs ys v → removal_number m (lists ts xs ys) v ≡ 0
  number-of-inner i = sym (number-accepted i.passes (passes-from (inner-judged m (lists ts xs ys) v) (i.low, i.high, i.present)))
