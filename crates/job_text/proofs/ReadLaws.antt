-- What the program puts of a job that was read: the curve stands at the fronts of its lists, and each part is part-read from there.
use mathlib.Core.Bool.{Bool, true, false, cond}
use mathlib.Core.List.{List}
use mathlib.Core.Path.{◌≡◌, refl, sym, ◌∙◌, ap}
use Prim.Native.Nat.{ℕ, zero, suc, ◌+◌, ◌*◌, ◌≤◌, ◌<◌}
use native.Mathlib.Omega.{arith}
use lib.Dec.{eqb, ltb}
use lib.IntN.{ℤ}
use lib.ListN.{length, get_or, take, drop, length-append}
use borrow.Author.Tests.{eqb-true, eqb-false, ltb-true, lt-ltb, le-leb}
use Rattle.refusal.specs.Judging.{unless}
use Rattle.refusal.specs.Numbers.{accepted, radius_refused, rectangle_refused}
use Rattle.refusal.proofs.JudgingLaws.{unless-accepted}
use Rattle.lent.specs.Lent.{over}
use Rattle.lent.proofs.OverLaws.{over-result}
use Rattle.curve.specs.Lists.{Lists}
use Rattle.curve.specs.HandingOver.{handed_over}
use Rattle.curve.proofs.ListLaws.{lists-same}
use Rattle.curve.proofs.RoomLaws.{enough-all}
use Rattle.grid.specs.Check.{check_number}
use Rattle.grid.specs.Limits.{clamps_most}
use Rattle.grid.specs.Rows.{radius_ok}
use Rattle.grid.proofs.CheckLaws.{checked_then-split}
use Rattle.grid.proofs.SizeLaws.{sizes-of-passes}
use Rattle.clamps.specs.Clamp.{Clamp, no_clamp, all_sides, clamps_ok}
use Rattle.boxes.specs.declared.Rectangle.{Rectangle}
use Rattle.clamp_lines.specs.ClampPart.{clamp_lines, standing, where_sound, clamp_part}
use Rattle.clamp_lines.proofs.ClampPartLaws.{clamp-there}
use Rattle.report.specs.Part.{curve_part, curve_read, job_part}
use Rattle.report.proofs.PartLaws.{room-checked}
use Rattle.job_text.specs.Text.{rectangle_of, accepted_part, text_number}
use Rattle.job_text.proofs.ClampLaws.{clamp-in-front, clamp-passes, sides-length}

-- a chain behind the check that refuses nothing: the check passed, and so did what is judged next
chain-accepted : (number next : ℕ) → cond (eqb number 0) next number ≡ 0 → (number ≡ 0) × (next ≡ 0)
chain-accepted number next h = by (eqb number 0) refl h
  where
    by : (t : Bool) → eqb number 0 ≡ t → cond t next number ≡ 0 → (number ≡ 0) × (next ≡ 0)
    by true e k = (eqb-true number 0 e, k)
    by false e k = absurd (eqb-false number 0 e k)

-- nothing is refused: the curve passes the check, row 22 the radius, and row 14 every clamp
pub record AllPass (m : ℕ) (c : Lists) (radius : ℕ) (cs : List Clamp) : Type 0 where
  pub curve : check_number m c.knots c.xs c.ys ≡ 0
  pub short : radius_ok radius ≡ true
  pub upright : clamps_ok cs ≡ true

pub all_pass : (m : ℕ) (c : Lists) (radius : ℕ) (cs : List Clamp) → text_number m c radius cs ≡ 0 → AllPass m c radius cs
unfolding text_number
all_pass m c radius cs h =
    let last = unless (clamps_ok cs) rectangle_refused accepted in
    let next = unless (radius_ok radius) radius_refused last in
    let passed = chain-accepted (check_number m c.knots c.xs c.ys) next (sym (checked_then-split m c.knots c.xs c.ys next) ∙ h) in
    let short = unless-accepted (radius_ok radius) 21 last passed.1 in
    record { curve = passed.0; short = short.0; upright = (unless-accepted (clamps_ok cs) 13 accepted short.1).0 }

-- the front of a result put over a list
front : {A : Type 0} (result before : List A) (n : ℕ) → n ≡ length result → take n (over result before) ≡ result
front result before n e = rw e (over-result result before)

fits : {A : Type 0} (result before : List A) (n : ℕ) → n ≡ length result → n ≤ length (over result before)
fits result before n e = omega (arith, e, length-append result (drop (length result) before))

module _ (m : ℕ) (c : Lists) (radius : ℕ) (cs : List Clamp) (before : Lists) (sides_before : List ℤ) (few : length cs ≤ clamps_most) (none : text_number m c radius cs ≡ 0) where
  abbrev passes : AllPass m c radius cs
  passes = all_pass m c radius cs none

  -- the lists as the reader left them
  abbrev pub now : Lists
  now = handed_over accepted c before

  abbrev pub sides : List ℤ
  sides = over (all_sides cs) sides_before

  stands : (k : ℕ) → k < length cs → standing (length cs) sides k ≡ true
  stands k h =
      rw (lt-ltb k (length cs) h, lt-ltb k clamps_most (omega (arith, h, few)), le-leb (4 * k + 4) (length sides) (omega (arith, h, sides-length cs, length-append (all_sides cs) (drop (length (all_sides cs)) sides_before))))

  -- clamp k of the list of sides, where the job has one
  clamp-read : (k : ℕ) → k < length cs → clamp_part m c radius (length cs) sides k ≡ accepted_part m c radius cs (suc k)
  unfolding accepted_part
  clamp-read k h =
      let clamp = rectangle_of (get_or cs k no_clamp) in
      clamp-there m c radius (length cs) sides k (stands k h)
      ∙ ap (λ (r : Rectangle). where_sound radius r (clamp_lines m c radius (suc k) r)) (clamp-in-front cs sides_before k h)
      ∙ rw (passes.short, clamp-passes cs k passes.upright h, lt-ltb k (length cs) h)

  -- part k of the curve that was read
  part-read : (k : ℕ) → curve_part m c radius (length cs) sides k ≡ accepted_part m c radius cs k
  unfolding curve_part clamp_part accepted_part
  part-read zero = refl
  part-read (suc k) = by (ltb k (length cs)) refl
    where
      by : (t : Bool) → ltb k (length cs) ≡ t → clamp_part m c radius (length cs) sides k ≡ accepted_part m c radius cs (suc k)
      by true e = clamp-read k (ltb-true k (length cs) e)
      by false e = rw e

  -- the curve at the fronts of the lists
  abbrev knots-many : length c.xs + m + 1 ≡ length c.knots
  knots-many = sym (sizes-of-passes m c.knots c.xs c.ys passes.curve).knots

  abbrev ys-many : length c.xs ≡ length c.ys
  ys-many = sym (sizes-of-passes m c.knots c.xs c.ys passes.curve).as_many

  read : curve_read m (length c.xs) now ≡ c
  read = lists-same (front c.knots before.knots (length c.xs + m + 1) knots-many) (front c.xs before.xs (length c.xs) refl) (front c.ys before.ys (length c.xs) ys-many)

  -- part k of the job that was read
  pub job_read : (k : ℕ) → job_part m (length c.xs) radius (length cs) now sides k ≡ accepted_part m c radius cs k
  job_read k =
      room-checked m (length c.xs) radius (length cs) now sides k
      (enough-all (length c.xs + m + 1) (length c.xs) (length c.xs) (length now.knots) (length now.xs) (length now.ys)
      (fits c.knots before.knots (length c.xs + m + 1) knots-many) (fits c.xs before.xs (length c.xs) refl) (fits c.ys before.ys (length c.xs) ys-many))
      (ap (λ (d : Lists). check_number m d.knots d.xs d.ys) read ∙ passes.curve)
      ∙ ap (λ (d : Lists). curve_part m d radius (length cs) sides k) read
      ∙ part-read k
