-- The curve comes point by point: what has come and what is still to come are the whole curve, with the values below `low` dealt with.
use mathlib.Core.Bool.{true}
use mathlib.Core.List.{List, [], ◌∷◌, ◌++◌, append_assoc, append-nil}
use mathlib.Core.Path.{◌≡◌, refl, sym, ap, ◌∙◌, subst}
use Prim.Native.Nat.{ℕ, suc, ◌+◌, ◌-◌, ◌≤◌, ◌<◌}
use native.Mathlib.Omega.{arith}
use lib.IntN.{ℤ, pos}
use lib.ListN.{length, get_or, take, drop, set, length-set, length-drop, drop_of_length-le, take-append-drop}
use lib.Seq.{take-suc-set, drop-cons, get_or-set_other, length-take-le}
use Rattle.lent.specs.Lent.{over}
use Rattle.grid.specs.Rows.{range_ok, all_on_grid}
use Rattle.refusal.proofs.JudgingLaws.{both}
use Rattle.grid.proofs.CheckLaws.{passes-tests}
use Rattle.grid.proofs.SizeLaws.{sizes-of-passes}
use Rattle.insertion.proofs.OrderLaws.{either}
use Rattle.insertion.specs.Insertion.{knots_up_to}
use Rattle.insertion.proofs.SpanLaws.{knots_up_to-below}
use Rattle.insertion.proofs.CheckedLaws.{rises-of-test, sizes-of-grid}
use Rattle.curve.specs.Lists.{Lists}
use Rattle.compaction.specs.Compaction.{IsNext, Pass, done, next}
use Rattle.value_removal.specs.Work.{front_curve, front_then, CurvePasses, Holding, newest, OnGridTo, Growing, ValueOutcome}
use Rattle.compaction_pass.specs.Outcome.{PassOutcome}
use Rattle.value_removal.proofs.PartLaws.{glue-front, glue-length}
use Rattle.compaction_pass.proofs.FrontLaws.{copied-front, curve-is}
use Rattle.compaction_pass.proofs.FirstLaws.{first-least, first_above, points-reach, others-reach, knots-reach}
use Rattle.checked.proofs.OccurrenceLaws.{occurs-at, stands_at}

-- one entry moves from what is to come to what has come
one-moves : {A : Type 0} (d : A) (k t : ℕ) (l source : List A) → k < length l → t < length source
    → take (suc k) (set l k (get_or source t d)) ++ drop (suc t) source ≡ take k l ++ drop t source
one-moves {A} d k t l source room inside =
    ap (λ (x : List A). x ++ drop (suc t) source) (take-suc-set l k (get_or source t d) room)
    ∙ append_assoc (take k l) (get_or source t d ∷ []) (drop (suc t) source)
    ∙ ap (λ (x : List A). take k l ++ x) (sym (drop-cons source t d inside))

-- the whole curve, with n points at the front of lists and the rest as it was from point t on
abbrev pub comes : ℕ → Lists → ℕ → ℕ → List ℕ → List ℤ → List ℤ → Lists
comes m c n t ks xs ys = front_then m n ks xs ys (drop (t + m + 1) c.knots) (drop t c.xs) (drop t c.ys)

-- the state between two points
pub record Growth (m : ℕ) (c : Lists) (ks₀ : List ℕ) (xs₀ ys₀ : List ℤ) (ks : List ℕ) (xs ys : List ℤ) (left taken : ℕ) : Type 0 where
  pub size_knots : length ks ≡ length ks₀
  pub size_xs : length xs ≡ length xs₀
  pub size_ys : length ys ≡ length ys₀
  pub enough : m + 1 ≤ left
  pub fewer : left ≤ taken
  pub inside : taken ≤ length c.xs
  pub passes : CurvePasses m (comes m c left taken ks xs ys)
  pub first : get_or ks m 0 ≡ get_or c.knots m 0
  -- the values up to `low` are dealt with; others that have come are those of the next knot
  pub low : ℕ
  pub above : get_or c.knots m 0 ≤ low
  pub below : low < get_or ks left 0
  pub pending : (j : ℕ) → j < left → low < get_or ks j 0 → get_or ks j 0 ≡ get_or ks left 0
  pub chain : (e : Lists) → Pass m low (comes m c left taken ks xs ys) e → Pass m (get_or c.knots m 0) c e

module _ (m : ℕ) (c : Lists) (passing : CurvePasses m c) (ks₀ : List ℕ) (xs₀ ys₀ : List ℤ) (hold : Holding m (length c.xs) ks₀ xs₀ ys₀) where
  -- other lists as long hold as many
  pub held : (ks : List ℕ) (xs ys : List ℤ) → length ks ≡ length ks₀ → length xs ≡ length xs₀ → length ys ≡ length ys₀ → Holding m (length c.xs) ks xs ys
  held ks xs ys a b d =
      record { room_knots = omega (arith, hold.room_knots); room_xs = omega (arith, hold.room_xs); room_ys = omega (arith, hold.room_ys) }

  -- as many points as there are knots up to t_m
  pub growth-begins : (first : ℕ) (ks : List ℕ) (xs ys : List ℤ) → first ≡ knots_up_to (get_or c.knots m 0) c.knots
      → ks ≡ over (take (length ks₀) (take (first + m + 1) c.knots)) ks₀
      → xs ≡ over (take (length xs₀) (take first c.xs)) xs₀
      → ys ≡ over (take (length ys₀) (take first c.ys)) ys₀
      → length ks ≡ length ks₀ → length xs ≡ length xs₀ → length ys ≡ length ys₀
      → Growth m c ks xs ys ks xs ys first first
  growth-begins first ks xs ys ef ek ex ey lk lx ly =
      let least = first-least m c.knots c.xs c.ys passing in
      let most = points-reach m c.knots c.xs c.ys passing first ef in
      let fk = copied-front (take (first + m + 1) c.knots) ks₀ ks (first + m + 1)
      (length-take-le (first + m + 1) c.knots (knots-reach m c.knots c.xs c.ys passing first ef)) (omega (arith, hold.room_knots, most)) ek in
      let fx = copied-front (take first c.xs) xs₀ xs first (length-take-le first c.xs most) (omega (arith, hold.room_xs, most)) ex in
      let fy = copied-front (take first c.ys) ys₀ ys first (length-take-le first c.ys (others-reach m c.knots c.xs c.ys passing first ef)) (omega (arith, hold.room_ys, most)) ey in
      let whole : comes m c first first ks xs ys ≡ c =
      curve-is c (take (first + m + 1) ks ++ drop (first + m + 1) c.knots) (take first xs ++ drop first c.xs) (take first ys ++ drop first c.ys)
      (rw fk (take-append-drop (first + m + 1) c.knots))
      (rw fx (take-append-drop first c.xs))
      (rw fy (take-append-drop first c.ys)) in
      let entry : (j : ℕ) → j < first + m + 1 → get_or ks j 0 ≡ get_or c.knots j 0 =
      λ j h. sym (glue-front 0 (first + m + 1) ks (drop (first + m + 1) c.knots) j (omega (arith, hold.room_knots, most)) h)
      ∙ ap (λ (x : Lists). get_or x.knots j 0) whole in
      record {
        size_knots = refl;
        size_xs = refl;
        size_ys = refl;
        enough = omega (arith, ef, least);
        fewer = omega arith;
        inside = most;
        passes = subst (λ (x : Lists). CurvePasses m x) (sym whole) passing;
        first = entry m (omega (arith, ef, least));
        low = get_or c.knots m 0;
        above = omega arith;
        below = rw (entry first (omega arith), ef) (first_above m c.knots c.xs c.ys passing);
        pending = λ j h more.
            absurd (omega (arith, entry j (omega arith), knots_up_to-below (get_or c.knots m 0) c.knots j (omega (arith, ef))));
        chain = λ e p. subst (λ (x : Lists). Pass m (get_or c.knots m 0) x e) whole p;
      }

  module _ (ks : List ℕ) (xs ys : List ℤ) (left taken : ℕ) (w : Growth m c ks₀ xs₀ ys₀ ks xs ys left taken) where
    -- there is room for one more
    module _ (more : taken < length c.xs) where
      pub room-knots : left + (m + 1) < length ks
      room-knots = omega (arith, w.size_knots, hold.room_knots, w.fewer)

      pub room-xs : left < length xs
      room-xs = omega (arith, w.size_xs, hold.room_xs, w.fewer)

      pub room-ys : left < length ys
      room-ys = omega (arith, w.size_ys, hold.room_ys, w.fewer)

      abbrev ks₁ : List ℕ
      ks₁ = set ks (left + (m + 1)) (get_or c.knots (taken + (m + 1)) 0)

      abbrev xs₁ : List ℤ
      xs₁ = set xs left (get_or c.xs taken (pos 0))

      abbrev ys₁ : List ℤ
      ys₁ = set ys left (get_or c.ys taken (pos 0))

      same-curve : comes m c (left + 1) (taken + 1) ks₁ xs₁ ys₁ ≡ comes m c left taken ks xs ys
      same-curve =
          let s = sizes-of-passes m c.knots c.xs c.ys passing in
          let a : left + 1 + m + 1 ≡ suc (left + (m + 1)) = omega arith in
          let b : taken + 1 + m + 1 ≡ suc (taken + (m + 1)) = omega arith in
          let d : left + m + 1 ≡ left + (m + 1) = omega arith in
          let e : taken + m + 1 ≡ taken + (m + 1) = omega arith in
          let f : left + 1 ≡ suc left = omega arith in
          let h : taken + 1 ≡ suc taken = omega arith in
          curve-is (comes m c left taken ks xs ys)
          (take (left + 1 + m + 1) ks₁ ++ drop (taken + 1 + m + 1) c.knots) (take (left + 1) xs₁ ++ drop (taken + 1) c.xs) (take (left + 1) ys₁ ++ drop (taken + 1) c.ys)
          (rw (a, b, d, e) (one-moves 0 (left + (m + 1)) (taken + (m + 1)) ks c.knots room-knots (omega (arith, s.knots))))
          (rw (f, h) (one-moves (pos 0) left taken xs c.xs room-xs more))
          (rw (f, h) (one-moves (pos 0) left taken ys c.ys room-ys (omega (arith, s.as_many))))

      old-knot : (j : ℕ) → j < left + (m + 1) → get_or ks₁ j 0 ≡ get_or ks j 0
      old-knot j h = get_or-set_other ks (left + (m + 1)) j (get_or c.knots (taken + (m + 1)) 0) 0 (λ e. omega arith)

      passes₁ : CurvePasses m (comes m c (left + 1) (taken + 1) ks₁ xs₁ ys₁)
      passes₁ = subst (λ (x : Lists). CurvePasses m x) (sym same-curve) w.passes

      size₁ : length ks₁ ≡ length ks
      size₁ = length-set ks (left + (m + 1)) (get_or c.knots (taken + (m + 1)) 0)

      roomy : left + 1 + m + 1 ≤ length ks₁
      roomy = omega (arith, size₁, room-knots)

      abbrev ts₁ : List ℕ
      ts₁ = take (left + 1 + m + 1) ks₁ ++ drop (taken + 1 + m + 1) c.knots

      front-knot : (j : ℕ) → j < left + 1 + m + 1 → get_or ts₁ j 0 ≡ get_or ks₁ j 0
      front-knot j h = glue-front 0 (left + 1 + m + 1) ks₁ (drop (taken + 1 + m + 1) c.knots) j roomy h

      count₁ : length ts₁ ≡ left + 1 + m + 1 + (length c.knots - (taken + 1 + m + 1))
      count₁ = glue-length (left + 1 + m + 1) ks₁ (drop (taken + 1 + m + 1) c.knots) roomy ∙ rw (length-drop (taken + 1 + m + 1) c.knots)

      rises₁ : (a b : ℕ) → a ≤ b → b < length ts₁ → get_or ts₁ a 0 ≤ get_or ts₁ b 0
      rises₁ = rises-of-test ts₁ (passes-tests m ts₁ (take (left + 1) xs₁ ++ drop (taken + 1) c.xs) (take (left + 1) ys₁ ++ drop (taken + 1) c.ys) passes₁).order

      -- the points that have come are on the grid
      ranged : (ps rest : List ℤ) → left + 1 ≤ length ps → all_on_grid (take (left + 1) ps ++ rest) ≡ true → OnGridTo (left + 1) ps
      ranged ps rest room h j l = rw (sym (glue-front (pos 0) (left + 1) ps rest j room l)) (sizes-of-grid (take (left + 1) ps ++ rest) h j)

      on-grid : (all_on_grid (take (left + 1) xs₁ ++ drop (taken + 1) c.xs) ≡ true) × (all_on_grid (take (left + 1) ys₁ ++ drop (taken + 1) c.ys) ≡ true)
      unfolding range_ok
      on-grid =
          both (all_on_grid (take (left + 1) xs₁ ++ drop (taken + 1) c.xs)) (all_on_grid (take (left + 1) ys₁ ++ drop (taken + 1) c.ys))
          (passes-tests m ts₁ (take (left + 1) xs₁ ++ drop (taken + 1) c.xs) (take (left + 1) ys₁ ++ drop (taken + 1) c.ys) passes₁).range

      roomy-xs : left + 1 ≤ length xs₁
      roomy-xs = rw (length-set xs left (get_or c.xs taken (pos 0))) (omega (arith, room-xs))

      roomy-ys : left + 1 ≤ length ys₁
      roomy-ys = rw (length-set ys left (get_or c.ys taken (pos 0))) (omega (arith, room-ys))

      pub one_more : Growing m (left + 1) ks₁ xs₁ ys₁
      one_more =
          let s = sizes-of-passes m c.knots c.xs c.ys passing in
          let at : left + 1 - 1 ≡ left = omega arith in
          record {
            least = s.degree-least;
            most = s.degree-most;
            enough = omega (arith, w.enough);
            holding =
                record {
                  room_knots = roomy;
                  room_xs = roomy-xs;
                  room_ys = roomy-ys;
                };
            rises = λ a b h i. omega (arith, front-knot a (omega arith), front-knot b i, rises₁ a b h (omega (arith, count₁)));
            inner = rw at (omega (arith, old-knot m (omega (arith, w.enough)), old-knot left (omega arith), w.first, w.above, w.below));
            range_xs = ranged xs₁ (drop (taken + 1) c.xs) roomy-xs on-grid.0;
            range_ys = ranged ys₁ (drop (taken + 1) c.ys) roomy-ys on-grid.1;
          }

      -- the newest knot is the next value
      newest-is : newest (left + 1) ks₁ ≡ get_or ks left 0
      newest-is =
          let at : left + 1 - 1 ≡ left = omega arith in
          ap (λ (j : ℕ). get_or ks₁ j 0) at ∙ old-knot left (omega arith)

      here : get_or ts₁ left 0 ≡ newest (left + 1) ks₁
      here = front-knot left (omega arith) ∙ old-knot left (omega arith) ∙ sym newest-is

      is-next : newest (left + 1) ks₁ < get_or ks₁ (left + 1) 0 → IsNext m w.low (comes m c (left + 1) (taken + 1) ks₁ xs₁ ys₁) (newest (left + 1) ks₁)
      is-next last =
          let s = sizes-of-passes m ts₁ (take (left + 1) xs₁ ++ drop (taken + 1) c.xs) (take (left + 1) ys₁ ++ drop (taken + 1) c.ys) passes₁ in
          let count = glue-length (left + 1) xs₁ (drop (taken + 1) c.xs) roomy-xs in
          record {
            above = omega (arith, newest-is, w.below);
            left = omega (arith, front-knot m (omega (arith, w.enough)), old-knot m (omega (arith, w.enough)), w.first, w.above, w.below, newest-is);
            right = omega (arith, front-knot (left + 1) (omega arith), rises₁ (left + 1) (length (take (left + 1) xs₁ ++ drop (taken + 1) c.xs)) (omega arith) (omega (arith, s.knots)));
            present = occurs-at (newest (left + 1) ks₁) ts₁ left (omega (arith, count₁)) here;
            least = λ j l h.
                either j left
                (λ before.
                omega (arith, front-knot j (omega arith), old-knot j (omega arith), newest-is, w.pending j before (omega (arith, front-knot j (omega arith), old-knot j (omega arith)))))
                (λ behind. omega (arith, rises₁ left j behind l, here));
          }

      pub growth-on : (ks' : List ℕ) (xs' ys' : List ℤ) (left' : ℕ) → ValueOutcome m (left + 1) ks₁ xs₁ ys₁ ks' xs' ys' left'
          → length ks' ≡ length ks₁ → length xs' ≡ length xs₁ → length ys' ≡ length ys₁
          → Growth m c ks₀ xs₀ ys₀ ks' xs' ys' left' (taken + 1)
      growth-on ks' xs' ys' left' o a b d =
          either (newest (left + 1) ks₁) (get_or ks₁ (left + 1) 0)
          (λ last.
          let z = o.last last in
          let passes' = z.passes (drop (taken + 1 + m + 1) c.knots) (drop (taken + 1) c.xs) (drop (taken + 1) c.ys) passes₁ in
          let roomy' : left' + m + 1 ≤ length ks' = omega (arith, roomy, z.fewer) in
          let ts' = take (left' + m + 1) ks' ++ drop (taken + 1 + m + 1) c.knots in
          record {
            size_knots = a ∙ size₁ ∙ w.size_knots;
            size_xs = b ∙ length-set xs left (get_or c.xs taken (pos 0)) ∙ w.size_xs;
            size_ys = d ∙ length-set ys left (get_or c.ys taken (pos 0)) ∙ w.size_ys;
            enough = z.enough;
            fewer = omega (arith, z.fewer, w.fewer);
            inside = omega arith;
            passes = passes';
            first = z.first ∙ old-knot m (omega (arith, w.enough)) ∙ w.first;
            low = newest (left + 1) ks₁;
            above = omega (arith, newest-is, w.above, w.below);
            below = omega (arith, z.next);
            pending = λ j h more.
                let front : (i : ℕ) → i < left' + m + 1 → get_or (take (left' + m + 1) ks' ++ drop (taken + 1 + m + 1) c.knots) i 0 ≡ get_or ks' i 0 =
                λ i l. glue-front 0 (left' + m + 1) ks' (drop (taken + 1 + m + 1) c.knots) i roomy' l in
                let up = rises-of-test (take (left' + m + 1) ks' ++ drop (taken + 1 + m + 1) c.knots)
                (passes-tests m (take (left' + m + 1) ks' ++ drop (taken + 1 + m + 1) c.knots) (take left' xs' ++ drop (taken + 1) c.xs) (take left' ys' ++ drop (taken + 1) c.ys) passes').order
                j (left' - 1) (omega arith) (omega (arith, glue-length (left' + m + 1) ks' (drop (taken + 1 + m + 1) c.knots) roomy')) in
                absurd (omega (arith, front j (omega arith), front (left' - 1) (omega arith), z.below));
            chain = λ e p.
                w.chain e (subst (λ (x : Lists). Pass m w.low x e) same-curve (next (is-next last) (z.removes (drop (taken + 1 + m + 1) c.knots) (drop (taken + 1) c.xs) (drop (taken + 1) c.ys) passes₁) p));
          })
          (λ wait.
          let z = o.more wait in
          let up = rises₁ left (left + 1) (omega arith) (omega (arith, count₁)) in
          let even : get_or ks₁ (left + 1) 0 ≡ get_or ks left 0 = omega (arith, here, front-knot (left + 1) (omega arith), newest-is) in
          rw (z.same_knots, z.same_xs, z.same_ys, z.same_count)
          (record {
            size_knots = size₁ ∙ w.size_knots;
            size_xs = length-set xs left (get_or c.xs taken (pos 0)) ∙ w.size_xs;
            size_ys = length-set ys left (get_or c.ys taken (pos 0)) ∙ w.size_ys;
            enough = omega (arith, w.enough);
            fewer = omega (arith, w.fewer);
            inside = omega arith;
            passes = passes₁;
            first = old-knot m (omega (arith, w.enough)) ∙ w.first;
            low = w.low;
            above = w.above;
            below = omega (arith, even, w.below);
            pending = λ j h high.
                either j left
                (λ before. old-knot j (omega arith) ∙ w.pending j before (omega (arith, old-knot j (omega arith))) ∙ sym even)
                (λ last. let at : j ≡ left = omega arith in rw at (old-knot left (omega arith) ∙ sym even));
            chain = λ e p. w.chain e (subst (λ (x : Lists). Pass m w.low x e) same-curve p);
          }))

    -- nothing is to come
    pub growth-ends : length c.xs ≤ taken → PassOutcome m (length c.xs) c ks xs ys left
    growth-ends all =
        let s = sizes-of-passes m c.knots c.xs c.ys passing in
        let nk : drop (taken + m + 1) c.knots ≡ [] = drop_of_length-le c.knots {i = taken + m + 1} (omega (arith, s.knots)) in
        let nx : drop taken c.xs ≡ [] = drop_of_length-le c.xs {i = taken} all in
        let ny : drop taken c.ys ≡ [] = drop_of_length-le c.ys {i = taken} (omega (arith, s.as_many)) in
        let room : left + m + 1 ≤ length ks = omega (arith, w.size_knots, hold.room_knots, w.fewer, w.inside) in
        let whole : comes m c left taken ks xs ys ≡ front_curve m left ks xs ys =
        curve-is (front_curve m left ks xs ys) (take (left + m + 1) ks ++ drop (taken + m + 1) c.knots) (take left xs ++ drop taken c.xs) (take left ys ++ drop taken c.ys)
        (rw nk (append-nil (take (left + m + 1) ks))) (rw nx (append-nil (take left xs))) (rw ny (append-nil (take left ys))) in
        let passes : CurvePasses m (front_curve m left ks xs ys) = subst (λ (x : Lists). CurvePasses m x) whole w.passes in
        let count = length-take-le left xs (omega (arith, w.size_xs, hold.room_xs, w.fewer, w.inside)) in
        let size = length-take-le (left + m + 1) ks room in
        let front : (j : ℕ) → j < left + m + 1 → get_or (take (left + m + 1) ks) j 0 ≡ get_or ks j 0 =
        λ j h. sym (ap (λ (x : Lists). get_or x.knots j 0) whole) ∙ glue-front 0 (left + m + 1) ks (drop (taken + m + 1) c.knots) j room h in
        record {
          fewer = omega (arith, w.fewer, w.inside);
          passes = record { passes = passes };
          pass = w.chain (front_curve m left ks xs ys)
              (subst (λ (x : Lists). Pass m w.low x (front_curve m left ks xs ys)) (sym whole) (done (λ v i.
              let at = stands_at v (take (left + m + 1) ks) i.present in
              let end = rw count at i.right in
              let last = front left (omega arith) in
              either at.0 left
              (λ before.
              let e = front at.0 (omega arith) in
              omega (arith, at.2, w.pending at.0 before (omega (arith, at.2, i.above))))
              (λ behind.
              omega (arith, at.2, rises-of-test (take (left + m + 1) ks) (passes-tests m (take (left + m + 1) ks) (take left xs) (take left ys) passes).order left at.0 behind at.1)))));
        }

-- a curve of m + 1 points has no inner knot: a pass leaves it as it is
pub nothing-inner : (m : ℕ) (c : Lists) → CurvePasses m c → length c.xs ≡ m + 1 → Pass m (get_or c.knots m 0) c c
nothing-inner m c passing few =
    let s = sizes-of-passes m c.knots c.xs c.ys passing in
    let rises = rises-of-test c.knots (passes-tests m c.knots c.xs c.ys passing).order in
    done (λ v i.
    let at = stands_at v c.knots i.present in
    either at.0 (length c.xs)
    (λ before. omega (arith, at.2, i.left, rises at.0 m (omega arith) (omega (arith, s.knots))))
    (λ behind. omega (arith, at.2, i.right, rises (length c.xs) at.0 behind at.1)))
