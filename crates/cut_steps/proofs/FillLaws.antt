-- None, one or two insertions until the high knot stands m times.
use mathlib.Core.Path.{◌≡◌, refl, sym, ◌∙◌}
use Prim.Native.Nat.{ℕ, zero, suc, ◌+◌, ◌-◌, ◌≤◌}
use native.Mathlib.Omega.{arith}
use Rattle.curve.specs.Lists.{Lists}
use Rattle.grid.proofs.SizeLaws.{sizes-of-passes}
use Rattle.std.specs.Prelude.{Result, Ok, Err}
use Rattle.refusal.specs.Numbers.{accepted}
use Rattle.refusal.specs.declared.Refusal.{Refusal}
use Rattle.refusal.proofs.AnswerLaws.{refused-above_zero}
use Rattle.insertion.specs.Insertion.{inserted}
use Rattle.insertion.specs.Judged.{insertable_then}
use Rattle.insertion.proofs.JudgedLaws.{judged-refused, judged-passed}
use Rattle.cutting.specs.Cutting.{inserted_each, insertable_each_then}
use Rattle.cut_steps.specs.declared.Cut.{Cut}
use Rattle.cut_steps.specs.Step.{CutStands, Steps, Fills, high_of}

module _ (m : ℕ) (c d : Lists) (i k s : ℕ) (cut : Cut) (st : CutStands m c d i k s 0 cut) where
  abbrev v : ℕ
  v = high_of c i

  -- it stands m times already
  pub fills-none : s ≡ m → Fills m c d i k s (Ok cut)
  unfolding inserted_each insertable_each_then
  fills-none full = let none : m - s ≡ zero = omega arith in record { number = rw none refl; goes = rw none st }

  -- once
  pub fills-once : (next : Cut) → s + 1 ≡ m → Steps m c d i k s 0 (Ok next) → Fills m c d i k s (Ok next)
  unfolding inserted_each insertable_each_then
  fills-once next full step =
      let one : m - s ≡ suc zero = omega arith in
      record { number = rw one step.number; goes = rw one step.goes }

  -- twice, unless the first is refused
  pub two : (s ≡ m → ⊥) → (s + 1 ≡ m → ⊥) → s ≤ m → m - s ≡ suc (suc zero)
  two none one most =
      let size = sizes-of-passes m c.knots c.xs c.ys st.window.original in
      omega (arith, none, one, size.degree-most, st.run.least)

  pub fills-broken : (refused : Refusal) → (s ≡ m → ⊥) → s ≤ m → Steps m c d i k s 0 (Err refused) → Fills m c d i k s (Err refused)
  unfolding inserted_each insertable_each_then
  fills-broken refused some most step =
      let least : m - s ≡ suc (m - s - 1) = omega (arith, some) in
      record {
        number = rw least (step.number ∙ judged-refused m d v _ (λ h. absurd (omega (arith, refused-above_zero refused, step.number ∙ h))));
        goes = tt;
      }

  pub fills-twice : (next : Cut) (last : Result Cut Refusal) → m - s ≡ suc (suc zero) → Steps m c d i k s 0 (Ok next) → Steps m c (inserted m d v) i k s 1 last
      → Fills m c d i k s last
  unfolding inserted_each insertable_each_then
  fills-twice next last twice step then =
      record {
        number = rw twice (then.number ∙ judged-passed m d v (insertable_then m (inserted m d v) v accepted) (sym step.number));
        goes = rw twice then.goes;
      }
