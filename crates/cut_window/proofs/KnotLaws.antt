-- The knots of a curve that is being cut: the high knot of its span goes in behind those of its value, and it is not refused for its value.
use mathlib.Core.Bool.{true}
use mathlib.Core.Path.{◌≡◌, sym, ap, ◌∙◌}
use Prim.Native.Nat.{ℕ, suc, ◌+◌, ◌-◌, ◌*◌, ◌≤◌, ◌<◌}
use native.Mathlib.Omega.{arith}
use native.Mathlib.Decide.{dec_le}
use lib.ListN.{length, get_or}
use borrow.Author.Tests.{ne_eqb}
use Rattle.curve.specs.Lists.{Lists}
use Rattle.grid.specs.Rows.{knot_order_ok}
use Rattle.grid.specs.Sizes.{Sizes}
use Rattle.grid.proofs.SizeLaws.{sizes-of-passes}
use Rattle.grid.proofs.CheckLaws.{passes-tests}
use Rattle.checked.specs.Checked.{Checked}
use Rattle.checked.proofs.CheckedLaws.{checked-of-passes}
use Rattle.insertion.specs.Insertion.{insertion_span, knots_up_to, inserted_knots}
use Rattle.insertion.specs.Judged.{value_ok}
use Rattle.insertion.specs.Standing.{Insertable}
use Rattle.insertion.proofs.CheckedLaws.{rises-of-test, insertable-xs, insertable-ys, inside-of-ends}
use Rattle.insertion.proofs.SpanLaws.{span-only, up_to-least}
use Rattle.insertion.proofs.KnotLaws.{inserted_knots-before, inserted_knots-here, inserted_knots-behind}
use Rattle.insertion.proofs.JudgedLaws.{value-seldom}
use Rattle.insertion_parts.proofs.OccurrenceLaws.{one-knot-tells}
use Rattle.cut_window.specs.Window.{Window, Run}

module _ (m : ℕ) (c d : Lists) (i k r s : ℕ) (w : Window m c d i k r) (run : Run c.knots i s) where
  abbrev v : ℕ
  v = get_or c.knots (i + 1) 0

  -- the last of the low knots
  abbrev e : ℕ
  e = k * m + m

  size : Sizes m d.knots d.xs d.ys
  size = sizes-of-passes m d.knots d.xs d.ys w.passes

  old : Sizes m c.knots c.xs c.ys
  old = sizes-of-passes m c.knots c.xs c.ys w.original

  order : knot_order_ok d.knots ≡ true
  order = (passes-tests m d.knots d.xs d.ys w.passes).order

  -- the high knots of d
  pub high_is : (a : ℕ) → 1 ≤ a → a ≤ s + r → get_or d.knots (e + a) 0 ≡ v
  high_is a least most =
      elim (dec_le a r) [
        | yes h ↦ w.again a least h
        | no h ↦
            let place : e + a ≡ e + r + (a - r) = omega arith in
            rw place (w.far (a - r) (omega arith) ∙ run.same (a - r) (omega arith) (omega arith))
      ]

  -- what comes behind them
  pub behind-is : get_or d.knots (e + s + r + 1) 0 ≡ get_or c.knots (i + s + 1) 0
  behind-is =
      let place : e + s + r + 1 ≡ e + r + (s + 1) = omega arith in
      let here : i + (s + 1) ≡ i + s + 1 = omega arith in
      rw place (w.far (s + 1) (omega arith) ∙ ap (λ j. get_or c.knots j 0) here)

  -- the low knot is below the high one, and at the end of d's domain stands what stands at that of c
  low-is : get_or d.knots e 0 ≡ get_or c.knots i 0
  low-is = w.low m (omega (arith, old.degree-least)) (omega arith)

  facts : Checked m c.knots c.xs c.ys
  facts = checked-of-passes m c.knots c.xs c.ys w.original

  -- the run ends within c's domain
  pub run_inside : i + s + 1 ≤ length c.xs
  run_inside =
      elim (dec_le (i + s + 1) (length c.xs)) [
        | yes h ↦ h
        | no h ↦
            let last = w.clamped.lasts (i + s) (omega arith) (omega (arith, run.inside)) in
            let next = w.clamped.lasts (i + s + 1) (omega arith) run.inside in
            absurd (omega (arith, run.ends, run.same s run.least (omega arith), last, next))
      ]

  low_end : get_or d.knots m 0 < v
  low_end = omega (arith, rises-of-test d.knots order m e (omega arith) (omega (arith, size.knots, w.points, run_inside)), low-is, w.wide)

  high_end : v < get_or d.knots (length d.xs) 0
  high_end =
      let place : length d.xs ≡ e + r + (length c.xs - i) = omega (arith, w.points, w.inside) in
      let here : i + (length c.xs - i) ≡ length c.xs = omega (arith, w.inside) in
      let end : get_or d.knots (length d.xs) 0 ≡ get_or c.knots (length c.xs) 0 =
      ap (λ j. get_or d.knots j 0) place ∙ w.far (length c.xs - i) (omega (arith, w.inside)) ∙ ap (λ j. get_or c.knots j 0) here in
      omega (arith, run.ends, facts.rising (i + s + 1) (length c.xs) run_inside (omega (arith, old.knots)), end)

  pub on-x : Insertable m d.knots d.xs v
  on-x = insertable-xs m d.knots d.xs d.ys v w.passes (omega (arith, low_end)) high_end

  pub on-y : Insertable m d.knots d.ys v
  on-y = insertable-ys m d.knots d.xs d.ys v w.passes (omega (arith, low_end)) high_end

  last-high : get_or d.knots (e + s + r) 0 ≡ v
  last-high =
      let place : e + s + r ≡ e + (s + r) = omega arith in
      rw place (high_is (s + r) (omega (arith, run.least)) (omega arith))

  -- where it goes in
  pub span-is : e + s + r ≡ insertion_span d.knots v
  span-is =
      span-only m d.knots d.xs v on-x (e + s + r) (omega (arith, size.knots, w.points, run_inside)) (omega (arith, last-high))
      (omega (arith, behind-is, run.ends))

  pub up-to-is : e + s + r + 1 ≡ knots_up_to v d.knots
  unfolding insertion_span
  up-to-is = omega (arith, span-is, up_to-least m d.knots d.xs v on-x)

  -- where it stands fewer than m times it is not refused for its value
  pub value-ok : s + r < m → value_ok m d.knots d.xs v ≡ true
  value-ok few =
      let seldom = one-knot-tells v m (e + s + r + 1) d.knots order up-to-is (omega (arith, old.degree-least)) (omega arith) in
      let place : e + s + r + 1 - m ≡ k * m + (s + r + 1) = omega arith in
      let here : get_or d.knots (e + s + r + 1 - m) 0 ≡ get_or c.knots i 0 =
      ap (λ j. get_or d.knots j 0) place ∙ w.low (s + r + 1) (omega arith) (omega arith) in
      value-seldom m d.knots d.xs v (inside-of-ends d.knots m (length d.xs) v low_end high_end)
      (sym seldom ∙ ne_eqb (get_or d.knots (e + s + r + 1 - m) 0) v (λ same. omega (arith, here, same, w.wide)))

  -- the knots afterwards
  pub next_low : (a : ℕ) → 1 ≤ a → a ≤ m → get_or (inserted_knots d.knots v) (k * m + a) 0 ≡ get_or c.knots i 0
  next_low a least most = inserted_knots-before d.knots v (k * m + a) (omega (arith, up-to-is)) ∙ w.low a least most

  pub next-again : (a : ℕ) → 1 ≤ a → a ≤ r + 1 → get_or (inserted_knots d.knots v) (e + a) 0 ≡ v
  next-again a least most =
      inserted_knots-before d.knots v (e + a) (omega (arith, up-to-is, run.least)) ∙ high_is a least (omega (arith, run.least))

  pub next-far : (x : ℕ) → 1 ≤ x → get_or (inserted_knots d.knots v) (e + (r + 1) + x) 0 ≡ get_or c.knots (i + x) 0
  next-far x least =
      elim (dec_le x s) [
        | yes h ↦ by-run h
        | no h ↦
            let place : e + (r + 1) + x ≡ suc (e + r + x) = omega arith in
            rw place (inserted_knots-behind d.knots v (e + r + x) (omega (arith, up-to-is)) ∙ w.far x least)
      ]
    where
      by-run : x ≤ s → get_or (inserted_knots d.knots v) (e + (r + 1) + x) 0 ≡ get_or c.knots (i + x) 0
      by-run h =
          elim (dec_le (x + 1) s) [
            | yes l ↦
                let place : e + (r + 1) + x ≡ e + (r + 1 + x) = omega arith in
                rw place (inserted_knots-before d.knots v (e + (r + 1 + x)) (omega (arith, up-to-is)) ∙ high_is (r + 1 + x) (omega arith) (omega arith))
                ∙ sym (run.same x least h)
            | no l ↦
                let place : e + (r + 1) + x ≡ knots_up_to v d.knots = omega (arith, up-to-is) in
                rw place (inserted_knots-here d.knots v) ∙ sym (run.same x least h)
          ]
