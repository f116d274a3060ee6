-- Removing the newest value again and again, in every curve that the front begins.
use mathlib.Core.List.{List}
use mathlib.Core.Path.{◌≡◌, refl, sym, ap, ◌∙◌, subst}
use Prim.Native.Nat.{ℕ, ◌+◌, ◌-◌, ◌≤◌, ◌<◌}
use native.Mathlib.Omega.{arith}
use lib.IntN.{ℤ}
use lib.ListN.{length, get_or}
use Rattle.grid.proofs.CheckLaws.{passes-tests}
use Rattle.insertion.specs.Insertion.{knots_up_to}
use Rattle.insertion.proofs.OrderLaws.{either}
use Rattle.insertion.proofs.SpanLaws.{knots_up_to-length}
use Rattle.insertion.proofs.KnotLaws.{inserted_knots-length, inserted_knots-here}
use Rattle.insertion.proofs.CheckedLaws.{rises-of-test}
use Rattle.insertion.proofs.JudgedLaws.{accepted-of-number}
use Rattle.curve.specs.Lists.{Lists}
use Rattle.removal.specs.Removal.{Removes}
use Rattle.curve.proofs.ListLaws.{same-knots}
use Rattle.compaction.specs.Compaction.{Stays, RemovesWhile, stays, goes_on}
use Rattle.value_removal.specs.Work.{front_then, CurvePasses, Holding, newest, OnGridTo, Growing, Shorter, Fixed, ValueOutcome}
use Rattle.value_removal.proofs.PartLaws.{glue-front, glue-length}

-- a curve with one v fewer passes the check
removes-passes : (m v : ℕ) (c d : Lists) → Removes m v c d → CurvePasses m d
removes-passes m v c d r =
    (accepted-of-number m d v c r.accepts).passes

-- a value between two neighbouring knots is no knot
pub none_between : (m v k : ℕ) (c : Lists) → CurvePasses m c → 1 ≤ k → k < length c.knots → get_or c.knots (k - 1) 0 < v → v < get_or c.knots k 0 → Stays m v c
none_between m v k c passes some inside low high r =
    let rises = rises-of-test c.knots (passes-tests m c.knots c.xs c.ys passes).order in
    let ks = r.without.knots in
    let gives = same-knots r.removes.gives in
    let here : get_or c.knots (knots_up_to v ks) 0 ≡ v = ap (λ (l : List ℕ). get_or l (knots_up_to v ks) 0) (sym gives) ∙ inserted_knots-here ks v in
    let size : length ks + 1 ≡ length c.knots = sym (inserted_knots-length ks v) ∙ ap length gives in
    let most = knots_up_to-length v ks in
    either (knots_up_to v ks) k
    (λ before. omega (arith, rises (knots_up_to v ks) (k - 1) (omega arith) (omega arith)))
    (λ behind. omega (arith, rises k (knots_up_to v ks) behind (omega arith)))

-- the state between two removals of the newest value of the front that was handed in
pub record Going (m n : ℕ) (ks₀ : List ℕ) (xs₀ ys₀ : List ℤ) (v : ℕ) (ks : List ℕ) (xs ys : List ℤ) (left : ℕ) : Type 0 where
  pub value : v ≡ newest n ks₀
  pub last : newest n ks₀ < get_or ks₀ n 0
  pub size_knots : length ks ≡ length ks₀
  pub size_xs : length xs ≡ length xs₀
  pub size_ys : length ys ≡ length ys₀
  pub fewer : left ≤ n
  pub enough : m + 1 ≤ left
  pub rises : (a b : ℕ) → a ≤ b → b < left + m + 1 → get_or ks a 0 ≤ get_or ks b 0
  pub below : newest left ks ≤ newest n ks₀
  pub next : get_or ks left 0 ≡ get_or ks₀ n 0
  pub first : get_or ks m 0 ≡ get_or ks₀ m 0
  pub range_xs : OnGridTo left xs
  pub range_ys : OnGridTo left ys
  pub passes : (rk : List ℕ) (rx ry : List ℤ) → CurvePasses m (front_then m n ks₀ xs₀ ys₀ rk rx ry) → CurvePasses m (front_then m left ks xs ys rk rx ry)
  pub chain : (rk : List ℕ) (rx ry : List ℤ) → CurvePasses m (front_then m n ks₀ xs₀ ys₀ rk rx ry) → (e : Lists)
      → RemovesWhile m (newest n ks₀) (front_then m left ks xs ys rk rx ry) e → RemovesWhile m (newest n ks₀) (front_then m n ks₀ xs₀ ys₀ rk rx ry) e

module _ (m n : ℕ) (ks₀ : List ℕ) (xs₀ ys₀ : List ℤ) (g : Growing m n ks₀ xs₀ ys₀) where
  pub waiting : get_or ks₀ n 0 ≤ newest n ks₀ → ValueOutcome m n ks₀ xs₀ ys₀ ks₀ xs₀ ys₀ n
  waiting h =
      record {
        more = λ _. record { same_knots = refl; same_xs = refl; same_ys = refl; same_count = refl };
        last = λ k. absurd (omega arith);
      }

  pub going-none : (v : ℕ) → v ≡ newest n ks₀ → newest n ks₀ < get_or ks₀ n 0 → Going m n ks₀ xs₀ ys₀ v ks₀ xs₀ ys₀ n
  going-none v e h =
      record {
        value = e;
        last = h;
        size_knots = refl;
        size_xs = refl;
        size_ys = refl;
        fewer = omega arith;
        enough = omega (arith, g.enough);
        rises = g.rises;
        below = omega arith;
        next = refl;
        first = refl;
        range_xs = g.range_xs;
        range_ys = g.range_ys;
        passes = λ rk rx ry p. p;
        chain = λ rk rx ry p e w. w;
      }

  module _ (v : ℕ) (ks : List ℕ) (xs ys : List ℤ) (left : ℕ) (w : Going m n ks₀ xs₀ ys₀ v ks xs ys left) where
    pub going-holds : Holding m left ks xs ys
    going-holds =
        record {
          room_knots = omega (arith, g.holding.room_knots, w.size_knots, w.fewer);
          room_xs = omega (arith, g.holding.room_xs, w.size_xs, w.fewer);
          room_ys = omega (arith, g.holding.room_ys, w.size_ys, w.fewer);
        }

    pub going-above : newest left ks < get_or ks left 0
    going-above = omega (arith, w.below, w.next, w.last)

    -- where no more can be removed the value is dealt with
    value-removed : ((rk : List ℕ) (rx ry : List ℤ) → CurvePasses m (front_then m left ks xs ys rk rx ry) → Stays m (newest n ks₀) (front_then m left ks xs ys rk rx ry))
        → ValueOutcome m n ks₀ xs₀ ys₀ ks xs ys left
    value-removed none =
        record {
          more = λ h. absurd (omega (arith, w.last));
          last = λ _.
              record {
                passes = w.passes;
                removes = λ rk rx ry p. w.chain rk rx ry p (front_then m left ks xs ys rk rx ry) (stays (none rk rx ry (w.passes rk rx ry p)));
                fewer = w.fewer;
                enough = w.enough;
                below = w.below;
                next = w.next;
                first = w.first;
              };
        }

    -- one more of the value stands at the front's end
    module _ (more : newest left ks ≡ v) where
      same : newest left ks ≡ newest n ks₀
      same = more ∙ w.value

      pub going-enough : m + 2 ≤ left
      going-enough =
          either (m + 1) left (λ h. omega arith)
          (λ h.
          let at : left - 1 ≡ m = omega (arith, w.enough) in
          let low : get_or ks m 0 ≡ newest n ks₀ = rw at at same in
          absurd (omega (arith, w.first, g.inner)))

      pub going-growing : Growing m left ks xs ys
      going-growing =
          record {
            least = g.least;
            most = g.most;
            enough = going-enough;
            holding = going-holds;
            rises = w.rises;
            inner = omega (arith, w.first, g.inner, same);
            range_xs = w.range_xs;
            range_ys = w.range_ys;
          }

      module _ (ks' : List ℕ) (xs' ys' : List ℤ) where
        -- it goes
        pub going_on : Shorter m left ks xs ys ks' xs' ys' → length ks' ≡ length ks → length xs' ≡ length xs → length ys' ≡ length ys → Going m n ks₀ xs₀ ys₀ v ks' xs' ys' (left - 1)
        going_on s a b c =
            let enough = going-enough in
            record {
              value = w.value;
              last = w.last;
              size_knots = a ∙ w.size_knots;
              size_xs = b ∙ w.size_xs;
              size_ys = c ∙ w.size_ys;
              fewer = omega (arith, w.fewer);
              enough = omega arith;
              rises = λ i j h inside.
                  either j (left - 1)
                  (λ near. omega (arith, s.before i (omega arith), s.before j near, w.rises i j h (omega arith)))
                  (λ far. either i (left - 1)
                  (λ near. omega (arith, s.before i near, s.behind j (omega arith) (omega arith), w.rises i (j + 1) (omega arith) (omega arith)))
                  (λ both. omega (arith, s.behind i (omega arith) (omega arith), s.behind j (omega arith) (omega arith), w.rises (i + 1) (j + 1) (omega arith) (omega arith))));
              below = omega (arith, s.before (left - 1 - 1) (omega arith), w.rises (left - 1 - 1) (left - 1) (omega arith) (omega arith), w.below);
              next =
                  let at : left - 1 + 1 ≡ left = omega arith in
                  s.behind (left - 1) (omega arith) (omega arith) ∙ ap (λ (k : ℕ). get_or ks k 0) at ∙ w.next;
              first = s.before m (omega arith) ∙ w.first;
              range_xs = s.range_xs;
              range_ys = s.range_ys;
              passes = λ rk rx ry p. removes-passes m (newest left ks) (front_then m left ks xs ys rk rx ry) (front_then m (left - 1) ks' xs' ys' rk rx ry) (s.removes rk rx ry (w.passes rk rx ry p));
              chain = λ rk rx ry p e u.
                  w.chain rk rx ry p e (goes_on (subst (λ (x : ℕ). Removes m x (front_then m left ks xs ys rk rx ry) (front_then m (left - 1) ks' xs' ys' rk rx ry)) same (s.removes rk rx ry (w.passes rk rx ry p))) u);
            }

        -- it stays
        pub going-fixed : Fixed m left ks xs ys ks' xs' ys' → ValueOutcome m n ks₀ xs₀ ys₀ ks' xs' ys' left
        going-fixed s =
            rw (s.same_knots, s.same_xs, s.same_ys)
            (value-removed (λ rk rx ry p. subst (λ (x : ℕ). Stays m x (front_then m left ks xs ys rk rx ry)) same (s.stays rk rx ry p)))

    -- none is left
    pub going-gone : (newest left ks ≡ v → ⊥) → ValueOutcome m n ks₀ xs₀ ys₀ ks xs ys left
    going-gone other =
        value-removed
        (λ rk rx ry p.
        let room = going-holds.room_knots in
        none_between m (newest n ks₀) left (front_then m left ks xs ys rk rx ry) p (omega (arith, w.enough)) (omega (arith, glue-length (left + m + 1) ks rk room))
        (rw (glue-front 0 (left + m + 1) ks rk (left - 1) room (omega arith)) (strictly w.below (λ e. other (e ∙ sym w.value))))
        (rw (glue-front 0 (left + m + 1) ks rk left room (omega arith)) (omega (arith, w.next, w.last))))
      where
        strictly : {a b : ℕ} → a ≤ b → (a ≡ b → ⊥) → a < b
        strictly {a} {b} h k = either a b (λ less. less) (λ more. absurd (k (omega arith)))
