-- Values inserted one after the other: what passed the check passes it again, the domain stays, clamped ends stay clamped, and each value stands once more for each time that
-- it is inserted.
use mathlib.Core.Bool.{Bool, true, false, cond}
use mathlib.Core.List.{List, [], ◌∷◌}
use mathlib.Core.Path.{◌≡◌, refl, sym, ap, subst, ◌∙◌}
use Prim.Native.Nat.{ℕ, suc, ◌+◌, ◌-◌, ◌≤◌, ◌<◌}
use native.Mathlib.Omega.{arith}
use lib.Dec.{eqb}
use lib.ListN.{length, get_or, drop}
use Rattle.curve.specs.Lists.{Lists}
use Rattle.grid.specs.Check.{Passes}
use Rattle.grid.specs.Rows.{occurrences}
use Rattle.checked.specs.Checked.{Clamped}
use Rattle.insertion.specs.Insertion.{inserted, inserted_knots}
use Rattle.insertion.specs.Standing.{Insertable}
use Rattle.insertion.proofs.KnotLaws.{inserted_knots-length, inserted_knots-before, inserted_knots-behind}
use Rattle.insertion.proofs.PassLaws.{occurrences-inserted}
use Rattle.insertion.proofs.PointLaws.{inserted_points-length}
use Rattle.insertion.proofs.SpanLaws.{up_to-least, up_to-most}
use Rattle.insertion.proofs.ResultLaws.{inserted-passes, accepted-xs}
use Rattle.cutting.specs.Cutting.{inserted_each}
use Rattle.cut_whole.specs.Sentences.{own_number, AcceptsEach}

-- one value: the domain stays, and so do clamped ends
module _ (m : ℕ) (c : Lists) (v : ℕ) (accepts : own_number m c v ≡ 0) where
  pub one_passes : Passes m (inserted m c v).knots (inserted m c v).xs (inserted m c v).ys
  one_passes = inserted-passes m c.knots c.xs c.ys v (inserted m c v) accepts

  on : Insertable m c.knots c.xs v
  on = accepted-xs m c.knots c.xs c.ys v (inserted m c v) accepts

  before : (a : ℕ) → a ≤ m → get_or (inserted_knots c.knots v) a 0 ≡ get_or c.knots a 0
  before a h = inserted_knots-before c.knots v a (omega (arith, up_to-least m c.knots c.xs v on))

  behind : (a : ℕ) → length c.xs ≤ a → get_or (inserted_knots c.knots v) (suc a) 0 ≡ get_or c.knots a 0
  behind a h = inserted_knots-behind c.knots v a (omega (arith, up_to-most m c.knots c.xs v on))

  more : length (inserted m c v).xs ≡ suc (length c.xs)
  more = inserted_points-length m c.knots c.xs v ∙ omega arith

  one-start : get_or (inserted m c v).knots m 0 ≡ get_or c.knots m 0
  one-start = before m (omega arith)

  one-stop : get_or (inserted m c v).knots (length (inserted m c v).xs) 0 ≡ get_or c.knots (length c.xs) 0
  one-stop = rw more (behind (length c.xs) (omega arith))

  one-clamped : Clamped m c.knots (length c.xs) → Clamped m (inserted m c v).knots (length (inserted m c v).xs)
  one-clamped ends = record {
    firsts = λ a h. before a h ∙ ends.firsts a h ∙ sym one-start;
    lasts = lasts;
  }
    where
      lasts : (a : ℕ) → length (inserted m c v).xs ≤ a → a < length (inserted_knots c.knots v)
          → get_or (inserted_knots c.knots v) a 0 ≡ get_or (inserted_knots c.knots v) (length (inserted m c v).xs) 0
      lasts a from inside =
          let place : a ≡ suc (a - 1) = omega (arith, more) in
          ap (λ (j : ℕ). get_or (inserted_knots c.knots v) j 0) place
          ∙ behind (a - 1) (omega (arith, more))
          ∙ ends.lasts (a - 1) (omega (arith, more)) (omega (arith, more, inserted_knots-length c.knots v))
          ∙ sym one-stop

-- the first value and the others
module _ (m v : ℕ) (vs : List ℕ) (c : Lists) where
  pub first-accepts : AcceptsEach m (v ∷ vs) c → own_number m c v ≡ 0
  unfolding inserted_each
  first-accepts each = each [] v vs refl

  pub others-accept : AcceptsEach m (v ∷ vs) c → AcceptsEach m vs (inserted m c v)
  unfolding inserted_each
  others-accept each before w later e = each (v ∷ before) w later (ap (λ (l : List ℕ). v ∷ l) e)

  pub all-accept : own_number m c v ≡ 0 → AcceptsEach m vs (inserted m c v) → AcceptsEach m (v ∷ vs) c
  unfolding inserted_each
  all-accept here others [] w later e =
      subst (λ (u : ℕ). own_number m c u ≡ 0) (ap (λ (l : List ℕ). get_or l 0 0) e) here
  all-accept here others (u ∷ before) w later e =
      subst (λ (a : ℕ). own_number m (inserted_each m before (inserted m c a)) w ≡ 0) (ap (λ (l : List ℕ). get_or l 0 0) e)
      (others before w later (ap (drop 1) e))

-- what an accepted list of values leaves as it was
pub record Kept (m : ℕ) (c d : Lists) : Type 0 where
  pub passes : Passes m d.knots d.xs d.ys
  pub start : get_or d.knots m 0 ≡ get_or c.knots m 0
  pub stop : get_or d.knots (length d.xs) 0 ≡ get_or c.knots (length c.xs) 0
  pub clamped : Clamped m c.knots (length c.xs) → Clamped m d.knots (length d.xs)

pub each_keeps : (m : ℕ) (vs : List ℕ) (c : Lists) → Passes m c.knots c.xs c.ys → AcceptsEach m vs c → Kept m c (inserted_each m vs c)
unfolding inserted_each
each_keeps m [] c passes each = record { passes = passes; start = refl; stop = refl; clamped = λ ends. ends }
each_keeps m (v ∷ vs) c passes each =
    let here = first-accepts m v vs c each in
    let rest = each_keeps m vs (inserted m c v) (one_passes m c v here) (others-accept m v vs c each) in
    record { passes = rest.passes; start = rest.start ∙ one-start m c v here; stop = rest.stop ∙ one-stop m c v here; clamped = λ ends. rest.clamped (one-clamped m c v here ends) }

-- how often w stands afterwards
head-count : (w v : ℕ) (vs : List ℕ) (n : ℕ) → occurrences w vs + cond (eqb v w) (suc n) n ≡ occurrences w (v ∷ vs) + n
unfolding occurrences
head-count w v vs n = by (eqb v w)
  where
    by : (b : Bool) → occurrences w vs + cond b (suc n) n ≡ cond b (suc (occurrences w vs)) (occurrences w vs) + n
    by true = omega arith
    by false = refl

pub each-occurrences : (m : ℕ) (vs : List ℕ) (c : Lists) (w : ℕ)
    → occurrences w (inserted_each m vs c).knots ≡ occurrences w vs + occurrences w c.knots
unfolding inserted_each occurrences
each-occurrences m [] c w = omega arith
each-occurrences m (v ∷ vs) c w =
    each-occurrences m vs (inserted m c v) w
    ∙ ap (λ (n : ℕ). occurrences w vs + n) (occurrences-inserted w c.knots v)
    ∙ head-count w v vs (occurrences w c.knots)
