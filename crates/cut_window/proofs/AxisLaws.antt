-- One axis of a curve that is being cut: the points that an insertion makes, from the row that holds those of its span.
use mathlib.Core.Bool.{Bool, true, false, true≢false}
use mathlib.Core.List.{List, [], ◌∷◌}
use mathlib.Core.Path.{◌≡◌, refl, sym, ap, ◌∙◌}
use Prim.Native.Nat.{ℕ, zero, suc, ◌+◌, ◌-◌, ◌*◌, ◌≤◌, ◌<◌}
use native.Mathlib.Omega.{arith}
use native.Mathlib.Decide.{dec_le}
use lib.IntN.{ℤ, pos, nat_abs}
use lib.ListN.{length, get_or}
use lib.Signed.{quot_z}
use Rattle.signed.specs.Division.{divides}
use Rattle.curve.specs.Lists.{Lists}
use Rattle.grid.specs.Limits.{coordinate_most}
use Rattle.grid.specs.Sizes.{Sizes}
use Rattle.grid.proofs.SizeLaws.{sizes-of-passes}
use Rattle.checked.proofs.CheckedLaws.{checked-of-passes}
use Rattle.insertion.specs.Insertion.{point_at, insertion_span, weighted_sum, weight, inserted_points, whole_points}
use Rattle.insertion.specs.Standing.{Insertable}
use Rattle.insertion.proofs.QuotientLaws.{sum-natural, weight-natural}
use Rattle.insertion.proofs.KnownLaws.{quotient-whole, quotient_is, quotient-old}
use Rattle.insertion.proofs.WholeLaws.{whole_each, whole-of-each}
use Rattle.insertion.proofs.PointLaws.{point-left, point-quotient, point-right, inserted_points-at, inserted_points-length}
use Rattle.insertion.proofs.SpanLaws.{span-least, span-most, span-weighed}
use Rattle.cut_rows.specs.Row.{sum_at, width_at, RowStands, WholeOutcome, Stepped, Pushed}
use Rattle.cut_window.specs.Window.{Window, Carried, Behind, Run}
use Rattle.cut_window.proofs.KnotLaws.{high_is, run_inside, span-is}

-- behind a list's end nothing stands
past_end : (l : List ℤ) (j : ℕ) → length l ≤ j → point_at l j ≡ pos 0
past_end [] j e = refl
past_end (z ∷ l) zero e = absurd (omega arith)
past_end (z ∷ l) (suc j) e = past_end l j (omega arith)

module _ (m : ℕ) (c d : Lists) (i k r s : ℕ) (w : Window m c d i k r) (run : Run c.knots i s) (few : s + r < m)
    (ps qs row : List ℤ) (ins : Insertable m d.knots qs (get_or c.knots (i + 1) 0)) (on : Carried m ps qs i k r row) where
  abbrev u : ℕ
  u = get_or c.knots i 0

  abbrev v : ℕ
  v = get_or c.knots (i + 1) 0

  abbrev e : ℕ
  e = k * m + m

  old : Sizes m c.knots c.xs c.ys
  old = sizes-of-passes m c.knots c.xs c.ys w.original

  span : e + s + r ≡ insertion_span d.knots v
  span = span-is m c d i k r s w run

  row-range : (a : ℕ) → nat_abs (point_at row a) ≤ coordinate_most
  row-range a =
      elim (dec_le a m) [
        | yes h ↦ rw (← (on.holds a h)) (ins.range (k * m + a))
        | no h ↦ elim (dec_le 4 a) [
          | yes l ↦ rw (past_end row a (omega (arith, on.places))) (omega arith)
          | no l ↦ rw (on.unused a (omega arith) (omega arith)) (omega arith)
        ]
      ]

  -- the row is one that a step can take
  pub row-stands : RowStands m c.knots (i - r) u v (s + r) row
  row-stands =
      record {
        degree = old.degree-most;
        least = omega (arith, run.least);
        less = few;
        rises = w.wide;
        inside = omega (arith, old.knots, w.inside);
        behind = behind;
        range = row-range;
      }
    where
      behind : (a : ℕ) → s + r < a → a ≤ m → v ≤ get_or c.knots (i - r + a) 0
      behind a from to =
          let inside = run_inside m c d i k r s w run in
          let rises = (checked-of-passes m c.knots c.xs c.ys w.original).rising (i + s + 1) (i - r + a) (omega (arith, w.least)) (omega (arith, old.knots, w.inside)) in
          omega (arith, run.ends, rises)

  -- a quotient that is made of the row
  module _ (a : ℕ) (from : s + r < a) (to : a ≤ m) where
    low-knot : get_or d.knots (k * m + a) 0 ≡ u
    low-knot = w.low a (omega arith) to

    high-knot : get_or d.knots (k * m + a + m) 0 ≡ get_or c.knots (i - r + a) 0
    high-knot =
        let place : k * m + a + m ≡ e + r + (a - r) = omega arith in
        let here : i + (a - r) ≡ i - r + a = omega (arith, w.least) in
        ap (λ j. get_or d.knots j 0) place ∙ w.far (a - r) (omega arith) ∙ ap (λ j. get_or c.knots j 0) here

    weighed-low : get_or d.knots (k * m + a) 0 ≤ v
    weighed-low = omega (arith, low-knot, w.wide)

    weighed-high : v < get_or d.knots (k * m + a + m) 0
    weighed-high =
        (span-weighed m d.knots qs v ins (k * m + a) (omega (arith, span)) (omega (arith, span))).high

    before : point_at qs (k * m + a - 1) ≡ point_at row (a - 1)
    before =
        let place : k * m + a - 1 ≡ k * m + (a - 1) = omega arith in
        ap (λ j. point_at qs j) place ∙ on.holds (a - 1) (omega arith)

    pub sum-of-row : weighted_sum m d.knots qs v (k * m + a) ≡ sum_at c.knots (i - r) u v row a
    sum-of-row =
        sum-natural m d.knots qs v (k * m + a) weighed-low weighed-high
        ∙ rw (low-knot, high-knot, on.holds a to, before)

    pub weight-of-row : weight m d.knots (k * m + a) ≡ width_at c.knots (i - r) u a
    weight-of-row = weight-natural m d.knots qs v (k * m + a) weighed-low weighed-high ∙ rw (low-knot, high-knot)

  -- one at a knot that is v already is the point before it
  module _ (j : ℕ) (from : e < j) (to : j ≤ e + s + r) where
    here-is : get_or d.knots j 0 ≡ v
    here-is =
        let place : j ≡ e + (j - e) = omega arith in
        ap (λ x. get_or d.knots x 0) place ∙ high_is m c d i k r s w run (j - e) (omega arith) (omega arith)

    weighed-at : v < get_or d.knots (j + m) 0
    weighed-at = (span-weighed m d.knots qs v ins j (omega (arith, span)) (omega (arith, span))).high

    pub old-whole : divides (weight m d.knots j) (weighted_sum m d.knots qs v j) ≡ true
    old-whole = quotient-whole m d.knots qs v j (omega (arith, here-is)) weighed-at (point_at qs (j - 1)) (quotient-old m d.knots qs v j here-is)

    pub old-point : quot_z (weighted_sum m d.knots qs v j) (weight m d.knots j) ≡ point_at qs (j - 1)
    old-point = quotient_is m d.knots qs v j (omega (arith, here-is)) weighed-at (point_at qs (j - 1)) (quotient-old m d.knots qs v j here-is)

  -- all new points are whole exactly where those of the row are
  pub whole-row-whole : WholeOutcome m c.knots (i - r) u v (s + r) row true → whole_points m d.knots qs v ≡ true
  whole-row-whole out = whole-of-each m d.knots qs v (span-least m d.knots qs v ins) each
    where
      each : (j : ℕ) → insertion_span d.knots v < j + m → j ≤ insertion_span d.knots v → divides (weight m d.knots j) (weighted_sum m d.knots qs v j) ≡ true
      each j from to =
          elim (dec_le j e) [
            | yes h ↦
                let a : ℕ = j - k * m in
                let place : j ≡ k * m + (j - k * m) = omega (arith, span) in
                rw (place, sum-of-row (j - k * m) (omega (arith, span)) (omega arith), weight-of-row (j - k * m) (omega (arith, span)) (omega arith))
                (out.whole refl (j - k * m) (omega (arith, span)) (omega arith))
            | no h ↦ old-whole j (omega arith) (omega (arith, span))
          ]

  pub broken-row-broken : WholeOutcome m c.knots (i - r) u v (s + r) row false → whole_points m d.knots qs v ≡ false
  broken-row-broken out = by (whole_points m d.knots qs v) refl
    where
      by : (b : Bool) → whole_points m d.knots qs v ≡ b → b ≡ false
      by false e = refl
      by true whole =
          let (a, from, to, broken) = out.broken refl in
          let here = whole_each m d.knots qs v (span-least m d.knots qs v ins) whole (k * m + a) (omega (arith, span)) (omega (arith, span)) in
          absurd (true≢false (sym here ∙ rw (sum-of-row a from to, weight-of-row a from to) broken))

  -- behind the low knots every point moves by one place
  pub point-moves : (j : ℕ) → e < j → point_at (inserted_points m d.knots qs v) j ≡ point_at qs (j - 1)
  point-moves j from =
      elim (dec_le j (length qs)) [
        | yes h ↦ inserted_points-at m d.knots qs v j h ∙ (elim (dec_le j (e + s + r)) [
          | yes l ↦ point-quotient m d.knots qs v (insertion_span d.knots v) j (omega (arith, span)) (omega (arith, span)) ∙ old-point j from l
          | no l ↦ point-right m d.knots qs v (insertion_span d.knots v) j (omega (arith, span))
        ])
        | no h ↦ past_end (inserted_points m d.knots qs v) j (omega (arith, inserted_points-length m d.knots qs v)) ∙ sym (past_end qs (j - 1) (omega arith))
      ]

  -- the row afterwards holds the points that carry the span then
  pub row-steps : (next : List ℤ) → Stepped m c.knots (i - r) u v (s + r) row next → Carried m ps (inserted_points m d.knots qs v) i k (r + 1) next
  row-steps next step =
      record {
        places = step.places;
        unused = λ a from to. step.unused a from to ∙ on.unused a from to;
        holds = holds;
        far = far;
      }
    where
      holds : (a : ℕ) → a ≤ m → point_at (inserted_points m d.knots qs v) (k * m + a) ≡ point_at next a
      holds a to =
          inserted_points-at m d.knots qs v (k * m + a) (omega (arith, span, span-most m d.knots qs v ins))
          ∙ (elim (dec_le a (s + r)) [
            | yes h ↦
                point-left m d.knots qs v (insertion_span d.knots v) (k * m + a) (omega (arith, span)) ∙ on.holds a to ∙ sym (step.kept a h)
            | no h ↦
                point-quotient m d.knots qs v (insertion_span d.knots v) (k * m + a) (omega (arith, span)) (omega (arith, span))
                ∙ rw (sum-of-row a (omega arith) to, weight-of-row a (omega arith) to) (sym (step.made a (omega arith) to))
          ])

      far : (x : ℕ) → 1 ≤ x → point_at (inserted_points m d.knots qs v) (e + (r + 1) + x) ≡ point_at ps (i + x)
      far x least =
          let place : e + (r + 1) + x - 1 ≡ e + r + x = omega arith in
          point-moves (e + (r + 1) + x) (omega arith) ∙ ap (λ j. point_at qs j) place ∙ on.far x least

  -- and the points behind it have its last one in front
  pub behind-steps : (behind next : List ℤ) → Behind m qs k (s + r) behind → Pushed (point_at row m) behind next
      → Behind m (inserted_points m d.knots qs v) k (s + (r + 1)) next
  behind-steps behind next b pushed = record { places = pushed.places; unused = unused; holds = holds }
    where
      unused : (a : ℕ) → s + (r + 1) ≤ a → a < 4 → point_at next a ≡ pos 0
      unused zero from to = absurd (omega arith)
      unused (suc a) from to = pushed.others a (omega arith) ∙ b.unused a (omega arith) (omega arith)

      holds : (a : ℕ) → a < s + (r + 1) → point_at (inserted_points m d.knots qs v) (e + 1 + a) ≡ point_at next a
      holds zero to =
          let place : e + 1 + 0 - 1 ≡ k * m + m = omega arith in
          point-moves (e + 1 + 0) (omega arith) ∙ ap (λ j. point_at qs j) place ∙ on.holds m (omega arith) ∙ sym pushed.first
      holds (suc a) to =
          let place : e + 1 + suc a - 1 ≡ e + 1 + a = omega arith in
          point-moves (e + 1 + suc a) (omega arith) ∙ ap (λ j. point_at qs j) place ∙ b.holds a (omega arith) ∙ sym (pushed.others a (omega (arith, old.degree-most)))
