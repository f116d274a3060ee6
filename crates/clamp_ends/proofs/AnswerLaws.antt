-- A refused clamping hands back its number and changes nothing; an accepted one hands back the clamped curve.
use Rattle.std.specs.Prelude.{Result, Ok, Err}
use Rattle.std.proofs.Common.{rules}
use mathlib.Core.Bool.{Bool, true, false, ◌&&◌}
use mathlib.Core.Path.{◌≡◌, sym, ap, subst, ◌∙◌}
use Prim.Native.Nat.{ℕ, ◌<◌}
use native.Mathlib.Omega.{arith}
use lib.ListN.{length}
use Rattle.refusal.specs.Numbers.{accepted, not_whole_refused, room_refused}
use Rattle.refusal.specs.Answers.{number_in, number_of, required}
use Rattle.refusal.specs.declared.Refusal.{Refusal}
use Rattle.refusal.proofs.AnswerLaws.{answers-refusal, refused-above_zero}
use Rattle.curve.specs.Lists.{Lists}
use Rattle.curve.specs.HandingOver.{enough, room_for, handed_over}
use Rattle.curve.proofs.HandingLaws.{handed_over-refused}
use Rattle.grid.specs.Check.{Passes, check_number}
use Rattle.grid.proofs.ThenLaws.{checked_then-passed, checked_then-refused}
use Rattle.insertion.proofs.EntryLaws.{entries-length}
use Rattle.clamping.specs.Clamping.{carrying_part, clamped_knot, clamped_number, all_whole, clamped_part, clamped, clamps_whole, clamp_then, clamp_number}
use Rattle.clamping.proofs.ClampedLaws.{points-length}
use Rattle.clamp_ends.specs.Answer.{Outcome, ClampOutcome, part_number, PartOutcome}

module _ (number : ℕ) (result before : Lists) where
  pub outcome-refused : (e : Refusal) → number_of e ≡ number → (answer : Result ℕ Refusal) → answer ≡ Err e → (now : Lists) → now ≡ before → Outcome number result before answer now
  outcome-refused e n answer is now k =
      let refused : number ≡ 0 → ⊥ = λ z. (let above : 0 < number_of e = refused-above_zero e in omega (arith, n, z)) in
      record { answers = answers-refusal number (length result.xs) answer refused (ap number_in is ∙ n); hands = k ∙ sym (handed_over-refused number result before refused) }

  pub outcome-clamped : number ≡ 0 → (count : ℕ) → count ≡ length result.xs → (now : Lists) → now ≡ handed_over 0 result before → Outcome number result before (Ok count) now
  outcome-clamped z count long now h = record { answers = (sym z, long); hands = rw z h }

-- a curve whose points all carry: row 11, then row 15
module _ (m : ℕ) (d before : Lists) where
  abbrev Whole : Bool
  Whole = all_whole (clamped_number m d.knots d.xs) (length d.xs) && all_whole (clamped_number m d.knots d.ys) (length d.ys)

  abbrev Room : Bool
  Room = enough (length d.knots) (length d.xs) (length d.ys) (length before.knots) (length before.xs) (length before.ys)

  as_long : Room ≡ room_for (clamped_part m d) before
  as_long =
      rw (
        entries-length (clamped_knot m d.knots (length d.xs)) (length d.knots),
        points-length m d.knots d.xs,
        points-length m d.knots d.ys,
      )

  pub part-not-whole : Whole ≡ false → not_whole_refused ≡ part_number m d before
  part-not-whole h = rw h

  pub part-without-room : Whole ≡ true → Room ≡ false → room_refused ≡ part_number m d before
  part-without-room h k = rw (h, ← as_long, k)

  pub part-accepted : Whole ≡ true → Room ≡ true → accepted ≡ part_number m d before
  part-accepted h k = rw (h, ← as_long, k)

module _ (m : ℕ) (c before : Lists) where
  -- the check comes first
  pub number-refused : (check_number m c.knots c.xs c.ys ≡ 0 → ⊥) → check_number m c.knots c.xs c.ys ≡ clamp_number m c before
  unfolding clamp_number clamp_then
  number-refused h = sym (checked_then-refused m c.knots c.xs c.ys _ h)

  number_passed : Passes m c.knots c.xs c.ys → clamp_number m c before ≡ part_number m (carrying_part m c) before
  unfolding clamp_number clamp_then clamps_whole clamped
  number_passed h = checked_then-passed m c.knots c.xs c.ys _ h

  -- a curve that passes is clamped as the part of it that carries
  pub outcome-of-part : Passes m c.knots c.xs c.ys → (n : ℕ) → n ≡ m → (d : Lists) → d ≡ carrying_part m c → (answer : Result ℕ Refusal) (now : Lists)
      → PartOutcome n d before answer now → ClampOutcome m c before answer now
  unfolding clamped
  outcome-of-part h n degree d part answer now p =
      rw (number_passed h)
      (subst (λ (k : ℕ). PartOutcome k (carrying_part m c) before answer now) degree (subst (λ (e : Lists). PartOutcome n e before answer now) part p))
