-- One axis of an unclamped end: with the unclamped numbers the triangle stays on every span, and whole numbers with which the exact curve stays are these.
use mathlib.Core.List.{List}
use mathlib.Core.Path.{◌≡◌, refl, sym, ap, ap₂, ◌∙◌}
use Prim.Native.Nat.{ℕ, ◌+◌, ◌*◌, ◌-◌, ◌≤◌, ◌<◌}
use native.Mathlib.Decide.{dec_le}
use native.Mathlib.Omega.{arith}
use lib.IntN.{ℤ}
use lib.ListN.{length, get_or}
use Rattle.algebra.specs.Operations.{sub}
use Rattle.algebra.specs.OrderedField.{AtMost, Below}
use Rattle.splines.specs.Span.{Rising}
use Rattle.splines.specs.Triangle.{entry}
use Rattle.fractions.specs.Fraction.{whole, whole_n}
use Rattle.fractions.proofs.Rational.{ℚ, class, rational, rational_operations}
use Rattle.fractions.proofs.ClassLaws.{whole_n-below}
use Rattle.exact.proofs.ExactLaws.{rational_knot, rational_coordinate}
use Rattle.exact.proofs.SpanLaws.{knots-rising}
use Rattle.span_points.proofs.SpanPointLaws.{span-fixes-points}
use Rattle.end_rows.specs.EndRows as Rows
use Rattle.end_rows.specs.Steps.{Spline, ended}
use Rattle.end_rows.proofs.EntryLaws.{entry-same}
use Rattle.end_rows.proofs.EndRowLaws.{end_number-old}
use Rattle.end_rows.proofs.StepKnots.{end-knot-inside, end-knot-end}
use Rattle.end_rows.proofs.StepCurve.{ended-keeps}
use Rattle.end_rows.proofs.StepPoints.{ended-points}
use Rattle.curve.specs.Lists.{NeverFall}
use Rattle.clamping.specs.EndRows.{finish_of}
use Rattle.unclamping.specs.Unclamping.{open_number}
use Rattle.unclamping.proofs.EntryLaws.{number-old}
use Rattle.ends_exact.proofs.ShareLaws.{value, natural-sum}
use Rattle.ends_exact.proofs.EndLaws.{difference-class}
use Rattle.ends_exact.proofs.OpenLaws.{whole-value, opened-gives, given-says}
use Rattle.ends_exact.proofs.SolvedLaws.{twice}

-- knots ts of n + 1 points whose last m+1 agree, and knots us that go on behind t_{n+1} in steps of the last span
pub record OpenKnots (m n : ℕ) (ts us : List ℕ) : Type 0 where
  pub least : 1 ≤ m
  pub most : m ≤ 3
  pub enough : m ≤ n
  pub size : length ts ≡ n + 1 + m + 1
  pub new_size : length us ≡ n + 1 + m + 1
  pub rises : NeverFall ts
  pub new_rises : NeverFall us
  pub some : get_or ts n 0 < get_or ts (n + 1) 0
  pub lasts : (k : ℕ) → k ≤ m → get_or ts (n + 1 + k) 0 ≡ get_or ts (n + 1) 0
  pub old : (j : ℕ) → j ≤ n + 1 → get_or us j 0 ≡ get_or ts j 0
  pub new : (k : ℕ) → k ≤ m → get_or us (n + 1 + k) 0 ≡ get_or ts (n + 1) 0 + k * (get_or ts (n + 1) 0 - get_or ts n 0)

module _ (m n : ℕ) (ts us : List ℕ) (o : OpenKnots m n ts us) (ps qs : List ℤ) (size : length ps ≡ n + 1) where
  abbrev spline : Spline rational_operations
  spline = record { knots = rational_knot us; points = rational_coordinate qs }

  abbrev last : ℕ
  last = n + m + 1

  rising : Rising rational (rational_knot us) last
  rising = knots-rising us last (λ a b h l. o.new_rises a b h (omega (arith, o.new_size)))

  same-knot : (j : ℕ) → j ≤ n + 1 → rational_knot us j ≡ rational_knot ts j
  same-knot j h = ap (λ (x : ℕ). class (whole_n x)) (o.old j h)

  -- the numbers that clamping the end gives
  abbrev given : ℕ → ℚ
  given j = Rows.finish_number rational_operations (rational_knot us) (rational_coordinate qs) m n j

  -- over the old knots these have the triangle of the new curve
  over-old : (ws : ℕ → ℚ) → ((j : ℕ) → j ≤ n → ws j ≡ given j) → (i : ℕ) → m ≤ i → i ≤ n → get_or ts i 0 < get_or ts (i + 1) 0 → (t : ℚ)
      → entry rational_operations (rational_knot us) (rational_coordinate qs) m t m i ≡ entry rational_operations (rational_knot ts) ws m t m i
  over-old ws same i from to wide t =
      sym (ended-keeps rational m n last (omega arith) spline rising m t i from to (omega arith)
      ((whole_n-below (get_or us i 0) (get_or us (i + 1) 0)).0 (rw (o.old i (omega arith), o.old (i + 1) (omega arith)) wide)))
      ∙ entry-same rational_operations m t (ended rational_operations m n m spline).knots (rational_knot ts) (ended rational_operations m n m spline).points ws i from
      (λ j h.
      elim (dec_le j (n + 1)) [
        | yes low ↦ end-knot-inside rational spline m n m j low ∙ same-knot j low
        | no high ↦
            let place : n + 1 + (j - (n + 1)) ≡ j = omega arith in
            end-knot-end rational spline m n m j (omega arith) (omega arith)
            ∙ same-knot (n + 1) (omega arith)
            ∙ ap (λ (x : ℕ). class (whole_n x)) (sym (o.lasts (j - (n + 1)) (omega arith)) ∙ ap (λ (k : ℕ). get_or ts k 0) place)
      ])
      (λ j h l.
      ended-points rational spline m n last rising o.enough (omega arith)
      ((whole_n-below (get_or us n 0) (get_or us (n + 1) 0)).0 (rw (o.old n (omega arith), o.old (n + 1) (omega arith)) o.some)) j (omega arith)
      ∙ sym (same j (omega arith)))

  -- the widths of the last span and of the last two
  inside_is : (k : ℕ) → (finish_of ts ps).inside k ≡ get_or ts (n + 1) 0 - get_or ts (n + 1 - k) 0
  inside_is k = ap₂ (λ (a b : ℕ). a - b) (ap (λ (j : ℕ). get_or ts j 0) size) (ap (λ (j : ℕ). get_or ts (j - k) 0) size)

  pub inside-some : (k : ℕ) → 1 ≤ k → k ≤ n + 1 → 0 < (finish_of ts ps).inside k
  inside-some k least most = omega (arith, inside_is k, o.some, o.rises (n + 1 - k) n (omega arith) (omega (arith, o.size)))

  -- the new knots inside and outside, as the rows read them
  inside-class : (k : ℕ) → k ≤ n + 1 → Rows.end_inside rational_operations (rational_knot us) n k ≡ class (whole_n ((finish_of ts ps).inside k))
  inside-class k h =
      ap₂ (λ x y. sub rational_operations x y) (same-knot (n + 1) (omega arith)) (same-knot (n + 1 - k) (omega arith))
      ∙ sym (difference-class (get_or ts (n + 1) 0) (get_or ts (n + 1 - k) 0) (o.rises (n + 1 - k) (n + 1) (omega arith) (omega (arith, o.size))))
      ∙ ap (λ (x : ℕ). class (whole_n x)) (sym (inside_is k))

  outside-class : (k : ℕ) → k ≤ m → Rows.end_outside rational_operations (rational_knot us) n k ≡ class (whole_n (k * (get_or ts (n + 1) 0 - get_or ts n 0)))
  outside-class k h =
      let before : get_or us (n + 1) 0 ≤ get_or us (n + 1 + k) 0 = o.new_rises (n + 1) (n + 1 + k) (omega arith) (omega (arith, o.new_size)) in
      let width : get_or us (n + 1 + k) 0 - get_or us (n + 1) 0 ≡ k * (get_or ts (n + 1) 0 - get_or ts n 0) = omega (arith, o.new k h, o.old (n + 1) (omega arith)) in
      sym (difference-class (get_or us (n + 1 + k) 0) (get_or us (n + 1) 0) before) ∙ ap (λ (x : ℕ). class (whole_n x)) width

  last-width : (finish_of ts ps).inside 1 ≡ get_or ts (n + 1) 0 - get_or ts n 0
  last-width =
      let place : n + 1 - 1 ≡ n = omega arith in
      inside_is 1 ∙ ap (λ (j : ℕ). get_or ts (n + 1) 0 - get_or ts j 0) place

  outside-one : Rows.end_outside rational_operations (rational_knot us) n 1 ≡ class (whole_n ((finish_of ts ps).inside 1))
  outside-one = outside-class 1 o.least ∙ ap (λ (x : ℕ). class (whole_n x)) (omega (arith, last-width))

  outside-two : 2 ≤ m → Rows.end_outside rational_operations (rational_knot us) n 2 ≡ twice rational (class (whole_n ((finish_of ts ps).inside 1)))
  outside-two h =
      outside-class 2 h
      ∙ ap (λ (x : ℕ). class (whole_n x)) (omega (arith, last-width))
      ∙ natural-sum ((finish_of ts ps).inside 1) ((finish_of ts ps).inside 1)

  -- the numbers from the end inwards
  abbrev Q : ℕ → ℚ
  Q k = rational_coordinate qs (n - k)

  abbrev row : ℕ → ℚ
  row = Rows.end_number rational_operations (Rows.end_inside rational_operations (rational_knot us) n) (Rows.end_outside rational_operations (rational_knot us) n) Q m

  old-point : (k : ℕ) → class (whole ((finish_of ts ps).point k)) ≡ rational_coordinate ps (n - k)
  old-point k = ap (rational_coordinate ps) (omega (arith, size))

  -- the unclamped numbers give the old points
  pub opened-old : ((k : ℕ) → k ≤ n → Q k ≡ value (open_number (finish_of ts ps) m k)) → (j : ℕ) → j ≤ n → rational_coordinate ps j ≡ given j
  opened-old q j h =
      let back : n - (n - j) ≡ j = omega arith in
      ap (rational_coordinate ps) (sym back)
      ∙ sym (old-point (n - j))
      ∙ sym (by (n - j) (omega arith))
    where
      by : (k : ℕ) → k ≤ n → row k ≡ class (whole ((finish_of ts ps).point k))
      by k l =
          elim (dec_le k m) [
            | yes low ↦
                opened-gives (finish_of ts ps) (inside-some 2 (omega arith) (omega (arith, o.least, o.enough))) (inside-some 1 (omega arith) (omega arith))
                (Rows.end_inside rational_operations (rational_knot us) n) (Rows.end_outside rational_operations (rational_knot us) n) Q
                (inside-class 1 (omega arith)) (inside-class 2 (omega (arith, o.least, o.enough))) outside-one m o.least o.most outside-two
                (λ k near. q k (omega (arith, o.enough))) k low
            | no high ↦
                end_number-old rational_operations (Rows.end_inside rational_operations (rational_knot us) n) (Rows.end_outside rational_operations (rational_knot us) n) Q m k (omega arith)
                ∙ q k l
                ∙ ap value (number-old (finish_of ts ps) m k (omega arith))
                ∙ whole-value ((finish_of ts ps).point k)
          ]

  pub opened-keeps : ((k : ℕ) → k ≤ n → Q k ≡ value (open_number (finish_of ts ps) m k)) → (i : ℕ) → m ≤ i → i ≤ n → get_or ts i 0 < get_or ts (i + 1) 0 → (t : ℚ)
      → entry rational_operations (rational_knot us) (rational_coordinate qs) m t m i ≡ entry rational_operations (rational_knot ts) (rational_coordinate ps) m t m i
  opened-keeps q = over-old (rational_coordinate ps) (opened-old q)

  -- numbers with the triangle of the old curve on the last span, its right end left out, are the unclamped ones
  pub kept-opened : ((t : ℚ) → AtMost rational (rational_knot ts n) t → Below rational t (rational_knot ts (n + 1))
      → entry rational_operations (rational_knot us) (rational_coordinate qs) m t m n ≡ entry rational_operations (rational_knot ts) (rational_coordinate ps) m t m n)
      → (k : ℕ) → k ≤ m → Q k ≡ value (open_number (finish_of ts ps) m k)
  kept-opened same =
      given-says (finish_of ts ps) (inside-some 2 (omega arith) (omega (arith, o.least, o.enough))) (inside-some 1 (omega arith) (omega arith))
      (Rows.end_inside rational_operations (rational_knot us) n) (Rows.end_outside rational_operations (rational_knot us) n) Q
      (inside-class 1 (omega arith)) (inside-class 2 (omega (arith, o.least, o.enough))) outside-one m o.least o.most outside-two
      (λ k near.
      let far : k ≤ n = omega (arith, o.enough) in
      let back : n - (n - k) ≡ k = omega arith in
      ap row (sym back)
      ∙ span-fixes-points rational (rational_knot ts) given (rational_coordinate ps) m n
      (knots-rising ts (n + m) (λ a b h l. o.rises a b h (omega (arith, o.size)))) o.enough ((whole_n-below (get_or ts n 0) (get_or ts (n + 1) 0)).0 o.some)
      (λ t low high. sym (over-old given (λ j h. refl) n o.enough (omega arith) o.some t) ∙ same t low high) (n - k) (omega arith) (omega arith)
      ∙ sym (old-point k))
