-- A curve that is being cut, an insertion further, and with a value full, at the next span.
use mathlib.Core.Bool.{true}
use mathlib.Core.List.{List}
use mathlib.Core.Path.{◌≡◌, sym, ap, ◌∙◌}
use Prim.Native.Nat.{ℕ, zero, suc, ◌+◌, ◌*◌, ◌≤◌, ◌<◌}
use native.Mathlib.Nat.{suc-mul}
use native.Mathlib.Omega.{arith}
use lib.IntN.{ℤ, pos}
use lib.ListN.{get_or}
use Rattle.curve.specs.Lists.{Lists}
use Rattle.curve.proofs.SentenceLaws.{room-exactly}
use Rattle.grid.specs.Check.{Passes}
use Rattle.insertion.specs.Insertion.{point_at, inserted}
use Rattle.insertion.specs.Judged.{place_ok, whole_ok}
use Rattle.insertion.proofs.JudgedLaws.{number-of-accepted}
use Rattle.insertion.proofs.PointLaws.{inserted_points-length}
use Rattle.insertion.proofs.ResultLaws.{inserted-passes}
use Rattle.cut_rows.specs.Row.{Pushed}
use Rattle.cut_window.specs.Window.{Window, Carried, Behind, Run}
use Rattle.cut_window.proofs.KnotLaws.{value-ok, high_is, run_inside, next_low, next-again, next-far}

module _ (m : ℕ) (c d : Lists) (i k r s : ℕ) (w : Window m c d i k r) (run : Run c.knots i s) where
  abbrev v : ℕ
  v = get_or c.knots (i + 1) 0

  -- an insertion that is not refused gives a curve that passes the check
  still-passes : s + r < m → place_ok d.xs ≡ true → whole_ok m d v ≡ true → Passes m (inserted m d v).knots (inserted m d v).xs (inserted m d v).ys
  still-passes few place whole =
      inserted-passes m d.knots d.xs d.ys v (inserted m d v)
      (number-of-accepted m d v (inserted m d v)
      (record {
        passes = w.passes;
        value = value-ok m c d i k r s w run few;
        place = place;
        whole = whole;
        room = (room-exactly (inserted m d v) (inserted m d v)).0.1 (record { knots = omega arith; xs = omega arith; ys = omega arith });
      }))

  -- one insertion further
  pub window-steps : s + r < m → place_ok d.xs ≡ true → whole_ok m d v ≡ true → Window m c (inserted m d v) i k (r + 1)
  window-steps few place whole =
      record {
        passes = still-passes few place whole;
        original = w.original;
        clamped = w.clamped;
        points = omega (arith, inserted_points-length m d.knots d.xs v, w.points);
        least = w.least;
        inside = w.inside;
        wide = w.wide;
        low = next_low m c d i k r s w run;
        again = next-again m c d i k r s w run;
        far = next-far m c d i k r s w run;
      }

  -- the high knot stands m times: the span behind it comes next
  pub window-turns : s + r ≡ m → Window m c d (i + s) (suc k) 0
  window-turns full =
      let more : suc k * m ≡ k * m + m = suc-mul k m ∙ omega arith in
      record {
        passes = w.passes;
        original = w.original;
        clamped = w.clamped;
        points = omega (arith, more, w.points);
        least = omega (arith, w.least);
        inside = omega (arith, run_inside m c d i k r s w run);
        wide = omega (arith, run.same s run.least (omega arith), run.ends);
        low = low;
        again = λ a least most. absurd (omega arith);
        far = far;
      }
    where
      low : (a : ℕ) → 1 ≤ a → a ≤ m → get_or d.knots (suc k * m + a) 0 ≡ get_or c.knots (i + s) 0
      low a least most =
          let place : suc k * m + a ≡ k * m + m + a = omega (arith, suc-mul k m) in
          ap (λ j. get_or d.knots j 0) place ∙ high_is m c d i k r s w run a least (omega arith) ∙ sym (run.same s run.least (omega arith))

      far : (x : ℕ) → 1 ≤ x → get_or d.knots (suc k * m + m + 0 + x) 0 ≡ get_or c.knots (i + s + x) 0
      far x least =
          let place : suc k * m + m + 0 + x ≡ k * m + m + r + (s + x) = omega (arith, suc-mul k m) in
          let here : i + (s + x) ≡ i + s + x = omega arith in
          ap (λ j. get_or d.knots j 0) place ∙ w.far (s + x) (omega arith) ∙ ap (λ j. get_or c.knots j 0) here

-- one axis there: the last point of the row, and those behind it
pub carried-turns : (m : ℕ) (ps qs : List ℤ) (i k r s : ℕ) (row behind next : List ℤ) → s + r ≡ m → m ≤ 3
    → Carried m ps qs i k r row → Behind m qs k m behind → Pushed (point_at row m) behind next → Carried m ps qs (i + s) (suc k) 0 next
carried-turns m ps qs i k r s row behind next full most on b pushed = record { places = pushed.places; unused = unused; holds = holds; far = far }
  where
    unused : (a : ℕ) → m < a → a < 4 → point_at next a ≡ pos 0
    unused zero from to = absurd (omega arith)
    unused (suc a) from to = pushed.others a (omega arith) ∙ b.unused a (omega arith) (omega arith)

    holds : (a : ℕ) → a ≤ m → point_at qs (suc k * m + a) ≡ point_at next a
    holds zero to =
        let place : suc k * m + 0 ≡ k * m + m = omega (arith, suc-mul k m) in
        ap (λ j. point_at qs j) place ∙ on.holds m (omega arith) ∙ sym pushed.first
    holds (suc a) to =
        let place : suc k * m + suc a ≡ k * m + m + 1 + a = omega (arith, suc-mul k m) in
        ap (λ j. point_at qs j) place ∙ b.holds a (omega arith) ∙ sym (pushed.others a (omega arith))

    far : (x : ℕ) → 1 ≤ x → point_at qs (suc k * m + m + 0 + x) ≡ point_at ps (i + s + x)
    far x least =
        let place : suc k * m + m + 0 + x ≡ k * m + m + r + (s + x) = omega (arith, suc-mul k m) in
        let here : i + (s + x) ≡ i + s + x = omega arith in
        ap (λ j. point_at qs j) place ∙ on.far (s + x) (omega arith) ∙ ap (λ j. point_at ps j) here
