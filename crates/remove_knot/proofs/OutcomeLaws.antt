-- How a removal ends is an outcome of the call; and two outcomes of one call are the same.
use mathlib.Core.List.{List}
use lib.IntN.{ℤ}
use mathlib.Core.Path.{◌≡◌, refl, sym, ap, ◌∙◌}
use Prim.Native.Nat.{ℕ, ◌-◌}
use native.Mathlib.Omega.{arith}
use lib.ListN.{length}
use Rattle.std.specs.Prelude.{Result, Ok, Err, false, true}
use Rattle.refusal.specs.Answers.{number_of, number_in}
use Rattle.refusal.specs.declared.Refusal.{Refusal}
use Rattle.refusal.specs.declared.Refusal.TheVariants.{NotInner, NotRemovable}
use Rattle.refusal.proofs.AnswerLaws.{refused-above_zero}
use Rattle.curve.specs.Lists.{Lists}
use Rattle.curve.specs.HandingOver.{room_number, handed_over}
use Rattle.curve.proofs.HandingLaws.{ends-refused, ends-untouched, ends-done, hands-out-once}
use Rattle.grid.specs.Check.{Passes, check_number}
use Rattle.removal.specs.Judged.{inner_ok}
use Rattle.removal.specs.Polygon.{Inner}
use Rattle.removal.specs.Removal.{Removes, Removable}
use Rattle.removal.specs.Outcome.{RemovalComesTo, refused, not_removable, removed}
use Rattle.removal.proofs.JudgedLaws.{number-refused, number-not-inner, number-accepted, number-of-inner, inner-of-number}
use Rattle.removal.proofs.OutcomeLaws.{same_number, same-curve}
use Rattle.removal.proofs.SentenceLaws.{removal-takes-one}
use Rattle.remove_knot.specs.Outcome.{RemovalOutcome}

-- what the test of row 12 lets pass is an inner knot
pub inner-of-inner_ok : (m : ℕ) (ts : List ℕ) (xs ys : List ℤ) (v : ℕ) → Passes m ts xs ys → inner_ok m ts xs v ≡ true → Inner m ts xs ys v
inner-of-inner_ok m ts xs ys v passes h = inner-of-number m ts xs ys v (sym (number-accepted m ts xs ys v passes h))

module _ (m : ℕ) (c : Lists) (v : ℕ) (before : Lists) where
  -- a refusal by the check: 1 to 7
  pub removal_unchecked : (answer : Result ℕ Refusal) (e : Refusal) → answer ≡ Err e → number_of e ≡ check_number m c.knots c.xs c.ys
      → RemovalOutcome m c v before answer before
  removal_unchecked answer e is number =
      let above = refused-above_zero e in
      let same = number ∙ number-refused m c.knots c.xs c.ys v (λ z. omega (arith, above)) in
      ends-untouched (RemovalComesTo m c v before) (λ (d : Lists). length d.xs) before (number_of e) c
      (refused (λ z. omega (arith, above, same)) same) answer (ap number_in is) (λ z. omega (arith, above))

  -- by row 12
  pub removal_not_inner : Passes m c.knots c.xs c.ys → inner_ok m c.knots c.xs v ≡ false → RemovalOutcome m c v before (Err NotInner) before
  removal_not_inner passes outside =
      let same = number-not-inner m c.knots c.xs c.ys v passes outside in
      ends-untouched (RemovalComesTo m c v before) (λ (d : Lists). length d.xs) before (number_of NotInner) c
      (refused (λ z. omega (arith, same)) same) (Err NotInner) refl (λ z. omega arith)

  module _ (inner : Inner m c.knots c.xs c.ys v) where
    -- by row 13
    pub removal_none : (answer : Result ℕ Refusal) (e : Refusal) → answer ≡ Err e → (e ≡ NotRemovable) × (Removable m c v → ⊥)
        → RemovalOutcome m c v before answer before
    removal_none answer e is why =
        ends-untouched (RemovalComesTo m c v before) (λ (d : Lists). length d.xs) before (number_of NotRemovable) c
        (not_removable (number-of-inner m c.knots c.xs c.ys v inner) why.1 refl) answer (ap number_in is ∙ ap number_of why.0) (λ z. omega arith)

    -- by row 15, or not at all
    module _ (d : Lists) (removes : Removes m v c d) (now : Lists) where
      pub removal_cramped : (answer : Result ℕ Refusal) (e : Refusal) → answer ≡ Err e → number_of e ≡ room_number d before
          → now ≡ handed_over (number_of e) d before → RemovalOutcome m c v before answer now
      removal_cramped answer e is number hands =
          let above = refused-above_zero e in
          ends-refused (RemovalComesTo m c v before) (λ (d : Lists). length d.xs) before (number_of e) d
          (removed (number-of-inner m c.knots c.xs c.ys v inner) removes number) answer now (ap number_in is) (λ z. omega (arith, above)) hands

      pub removal_done : 0 ≡ room_number d before → now ≡ handed_over 0 d before → RemovalOutcome m c v before (Ok (length c.xs - 1)) now
      removal_done number hands =
          let fewer : length c.xs - 1 ≡ length d.xs = omega (arith, (removal-takes-one m v c d removes).points.0) in
          rw fewer
          (ends-done (RemovalComesTo m c v before) (λ (d : Lists). length d.xs) before 0 d
          (removed (number-of-inner m c.knots c.xs c.ys v inner) removes number) now refl hands)

  pub removal-determined : (a b : Result ℕ Refusal) (x y : Lists) → RemovalOutcome m c v before a x → RemovalOutcome m c v before b y → (a ≡ b) × (x ≡ y)
  removal-determined a b x y p q =
      hands-out-once (record { one_number = same_number m c v before; one-curve = same-curve m c v before }) (λ (d : Lists). length d.xs) before a b x y p q
