-- Why an insertion at a span is refused, or what it gives: in the words of inserting into the whole curve.
use mathlib.Core.Bool.{true, false}
use mathlib.Core.Path.{◌≡◌, ◌∙◌}
use Prim.Native.Nat.{ℕ, ◌+◌, ◌-◌, ◌≤◌, ◌<◌}
use native.Mathlib.Omega.{arith}
use lib.ListN.{length, get_or}
use borrow.Author.Tests.{le-ltb, lt-ltb}
use Rattle.curve.specs.Lists.{Lists}
use Rattle.std.specs.Prelude.{Ok, Err}
use Rattle.refusal.specs.Numbers.{accepted}
use Rattle.refusal.specs.declared.Refusal.TheVariants.{Full, NotWhole}
use Rattle.grid.specs.Limits.{points_most}
use Rattle.insertion.specs.Insertion.{whole_points}
use Rattle.insertion.specs.Judged.{value_ok, place_ok, whole_ok}
use Rattle.insertion.proofs.JudgedLaws.{judged-place, judged-whole, judged-next}
use Rattle.insertion.proofs.PointLaws.{inserted_points-length}
use Rattle.cut_rows.specs.Row.{RowStands, WholeOutcome}
use Rattle.cut_window.proofs.KnotLaws.{on-x, on-y, value-ok}
use Rattle.cut_window.proofs.AxisLaws.{row-stands, whole-row-whole, broken-row-broken, row-steps, behind-steps}
use Rattle.cut_window.proofs.StepLaws.{window-steps}
use Rattle.cut_steps.specs.declared.Cut.{Cut}
use Rattle.cut_steps.specs.Step.{CutStands, AxisSteps, Steps, high_of}

module _ (m : ℕ) (c d : Lists) (i k s r : ℕ) (cut : Cut) (st : CutStands m c d i k s r cut) (few : s + r < m) where
  abbrev v : ℕ
  v = high_of c i

  abbrev u : ℕ
  u = get_or c.knots i 0

  pub stands-x : RowStands m c.knots (i - r) u v (s + r) cut.x.row
  stands-x =
      row-stands m c d i k r s st.window st.run few c.xs d.xs cut.x.row (on-x m c d i k r s st.window st.run) st.row_x

  pub stands-y : RowStands m c.knots (i - r) u v (s + r) cut.y.row
  stands-y =
      row-stands m c d i k r s st.window st.run few c.ys d.ys cut.y.row (on-y m c d i k r s st.window st.run) st.row_y

  value : value_ok m d.knots d.xs v ≡ true
  value = value-ok m c d i k r s st.window st.run few

  -- the curve is full
  pub full_refuses : points_most ≤ cut.points → Steps m c d i k s r (Err Full)
  unfolding place_ok
  full_refuses full =
      record { number = judged-place m d v accepted value (le-ltb (length d.xs) points_most (omega (arith, st.count))); goes = tt }

  module _ (free : cut.points < points_most) where
    place : place_ok d.xs ≡ true
    unfolding place_ok
    place = lt-ltb (length d.xs) points_most (omega (arith, st.count))

    whole-x : WholeOutcome m c.knots (i - r) u v (s + r) cut.x.row true → whole_points m d.knots d.xs v ≡ true
    whole-x =
        whole-row-whole m c d i k r s st.window st.run few c.xs d.xs cut.x.row (on-x m c d i k r s st.window st.run) st.row_x

    whole-y : WholeOutcome m c.knots (i - r) u v (s + r) cut.y.row true → whole_points m d.knots d.ys v ≡ true
    whole-y =
        whole-row-whole m c d i k r s st.window st.run few c.ys d.ys cut.y.row (on-y m c d i k r s st.window st.run) st.row_y

    -- a point is not whole, on x or else on y
    broken-refuses : whole_ok m d v ≡ false → Steps m c d i k s r (Err NotWhole)
    broken-refuses broken = record { number = judged-whole m d v accepted value place broken; goes = tt }

    pub broken-x-refuses : WholeOutcome m c.knots (i - r) u v (s + r) cut.x.row false → Steps m c d i k s r (Err NotWhole)
    unfolding whole_ok
    broken-x-refuses out =
        broken-refuses
        (rw (broken-row-broken m c d i k r s st.window st.run few c.xs d.xs cut.x.row (on-x m c d i k r s st.window st.run) st.row_x out))

    pub broken-y-refuses : WholeOutcome m c.knots (i - r) u v (s + r) cut.x.row true → WholeOutcome m c.knots (i - r) u v (s + r) cut.y.row false
        → Steps m c d i k s r (Err NotWhole)
    unfolding whole_ok
    broken-y-refuses first out =
        broken-refuses
        (rw (
          whole-x first,
          broken-row-broken m c d i k r s st.window st.run few c.ys d.ys cut.y.row (on-y m c d i k r s st.window st.run) st.row_y out,
        ))

    -- all are whole
    pub insertion-goes : (next : Cut) → WholeOutcome m c.knots (i - r) u v (s + r) cut.x.row true → WholeOutcome m c.knots (i - r) u v (s + r) cut.y.row true
        → AxisSteps m c.knots (i - r) u v (s + r) cut.x next.x → AxisSteps m c.knots (i - r) u v (s + r) cut.y next.y
        → next.points ≡ cut.points + 1 → Steps m c d i k s r (Ok next)
    unfolding whole_ok
    insertion-goes next first second x y one =
        let all : whole_ok m d v ≡ true = rw (whole-x first, whole-y second) in
        let xs = on-x m c d i k r s st.window st.run in
        let ys = on-y m c d i k r s st.window st.run in
        record {
          number = judged-next m d v accepted value place all;
          goes = record {
            window = window-steps m c d i k r s st.window st.run few place all;
            run = st.run;
            count = one ∙ omega (arith, st.count, inserted_points-length m d.knots d.xs v);
            row_x = row-steps m c d i k r s st.window st.run few c.xs d.xs cut.x.row xs st.row_x next.x.row x.row;
            row_y = row-steps m c d i k r s st.window st.run few c.ys d.ys cut.y.row ys st.row_y next.y.row y.row;
            behind_x = behind-steps m c d i k r s st.window st.run few c.xs d.xs cut.x.row xs st.row_x cut.x.behind next.x.behind st.behind_x x.behind;
            behind_y = behind-steps m c d i k r s st.window st.run few c.ys d.ys cut.y.row ys st.row_y cut.y.behind next.y.behind st.behind_y y.behind;
          };
        }
