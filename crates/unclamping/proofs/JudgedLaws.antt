-- The number of unclamping, test by test, and what an accepted one says of its input.
use mathlib.Core.Bool.{true, false, ◌&&◌}
use mathlib.Core.Path.{◌≡◌, sym, ◌∙◌}
use Prim.Native.Nat.{ℕ, ◌+◌, ◌-◌, ◌*◌, ◌≤◌}
use native.Mathlib.Decide.{ℕ_discrete}
use lib.ListN.{length, get_or}
use borrow.Author.Tests.{eqb-true, leb-true}
use Rattle.refusal.proofs.JudgingLaws.{both, unless-accepted}
use Rattle.curve.specs.Lists.{Lists}
use Rattle.curve.specs.HandingOver.{enough, room_for, room_number}
use Rattle.grid.specs.Limits.{knot_most}
use Rattle.grid.specs.Check.{Passes, check_number}
use Rattle.grid.proofs.ThenLaws.{checked_then-passed, checked_then-refused}
use Rattle.unclamping.specs.Unclamping.{end_clamped, open_knot, knots_fit, unclamped, opens_on, opens, unclamp_number}
use Rattle.unclamping.proofs.EntryLaws.{knot-behind, open_points-length, unclamped-knots, unclamped-xs, unclamped-ys}

-- all parts of row 23
pub record Opens (m : ℕ) (c : Lists) : Type 0 where
  pub end : get_or c.knots (length c.xs + m) 0 ≡ get_or c.knots (length c.xs) 0
  pub fit : get_or c.knots (length c.xs) 0 + m * (get_or c.knots (length c.xs) 0 - get_or c.knots (length c.xs - 1) 0) ≤ knot_most
  pub x : opens_on m c.knots c.xs ≡ true
  pub y : opens_on m c.knots c.ys ≡ true

module _ (m : ℕ) (c : Lists) where
  -- the end and the new knots, as facts
  pub knots-open : (end_clamped m c.knots (length c.xs) && knots_fit m c.knots (length c.xs)) ≡ true
      → (get_or c.knots (length c.xs + m) 0 ≡ get_or c.knots (length c.xs) 0)
      × (get_or c.knots (length c.xs) 0 + m * (get_or c.knots (length c.xs) 0 - get_or c.knots (length c.xs - 1) 0) ≤ knot_most)
  unfolding end_clamped knots_fit
  knots-open h =
      let p = both (end_clamped m c.knots (length c.xs)) (knots_fit m c.knots (length c.xs)) h in
      (eqb-true _ _ p.0, rw (knot-behind c.knots (length c.xs) m) at (leb-true (open_knot c.knots (length c.xs) (length c.xs + m)) knot_most p.1))

  pub opens-parts : opens m c ≡ true → Opens m c
  unfolding opens
  opens-parts h =
      let p = both (end_clamped m c.knots (length c.xs) && knots_fit m c.knots (length c.xs)) (opens_on m c.knots c.xs && opens_on m c.knots c.ys) h in
      let k = knots-open p.0 in
      let q = both (opens_on m c.knots c.xs) (opens_on m c.knots c.ys) p.1 in
      record { end = k.0; fit = k.1; x = q.0; y = q.1 }

module _ (m : ℕ) (c lent : Lists) where
  -- row 15: as many knots and points as before
  pub unclamped-room : enough (length c.knots) (length c.xs) (length c.ys) (length lent.knots) (length lent.xs) (length lent.ys) ≡ room_for (unclamped m c) lent
  unclamped-room =
      rw (unclamped-knots m c, unclamped-xs m c, unclamped-ys m c, open_points-length m c.knots c.xs, open_points-length m c.knots c.ys)

  -- the check comes first
  pub number-refused : (check_number m c.knots c.xs c.ys ≡ 0 → ⊥) → check_number m c.knots c.xs c.ys ≡ unclamp_number m c lent
  unfolding unclamp_number
  number-refused h = sym (checked_then-refused m c.knots c.xs c.ys _ h)

  -- then row 23, then row 15
  module _ (passes : Passes m c.knots c.xs c.ys) where
    pub number-closed : opens m c ≡ false → 23 ≡ unclamp_number m c lent
    unfolding unclamp_number
    number-closed h = sym (checked_then-passed m c.knots c.xs c.ys _ passes ∙ rw h)

    pub number-room : opens m c ≡ true → room_number (unclamped m c) lent ≡ unclamp_number m c lent
    unfolding unclamp_number
    number-room h = sym (checked_then-passed m c.knots c.xs c.ys _ passes ∙ rw h)

    tests-of-judged : unclamp_number m c lent ≡ 0 → opens m c ≡ true
    unfolding unclamp_number
    tests-of-judged h = (unless-accepted (opens m c) 22 _ (sym (checked_then-passed m c.knots c.xs c.ys _ passes) ∙ h)).0

  -- number 0: the curve passes the check, and its end opens
  pub accepted-of-number : unclamp_number m c lent ≡ 0 → Passes m c.knots c.xs c.ys × (opens m c ≡ true)
  accepted-of-number h = go (ℕ_discrete (check_number m c.knots c.xs c.ys) 0)
    where
      go : Dec (check_number m c.knots c.xs c.ys ≡ 0) → Passes m c.knots c.xs c.ys × (opens m c ≡ true)
      go (yes p) = (p, tests-of-judged p h)
      go (no n) = absurd (n (number-refused n ∙ h))
