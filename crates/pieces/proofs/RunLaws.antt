-- Equal knots behind one another, counted from the left.
use mathlib.Core.List.{List}
use mathlib.Core.Path.{◌≡◌, refl, ap, ◌∙◌}
use Prim.Native.Nat.{ℕ, ◌+◌, ◌≤◌, ◌<◌}
use native.Mathlib.Decide.{dec_le}
use native.Mathlib.Omega.{arith}
use lib.ListN.{length, get_or}
use Rattle.curve.specs.Lists.{NeverFall}
use Rattle.cut_window.specs.Window.{Run}
use Rattle.pieces.specs.Walk.{LargerBehind}

-- s knots so far, which are not the last
pub record SoFar (ts : List ℕ) (i s : ℕ) : Type 0 where
  pub least : 1 ≤ s
  pub inside : i + s + 1 < length ts
  pub same : (x : ℕ) → 1 ≤ x → x ≤ s → get_or ts (i + x) 0 ≡ get_or ts (i + 1) 0

module _ (ts : List ℕ) (i : ℕ) (rises : NeverFall ts) (above : LargerBehind ts i) where
  -- an entry of that value has one behind it
  more-behind : (j : ℕ) → j < length ts → get_or ts j 0 ≡ get_or ts (i + 1) 0 → j + 1 < length ts
  more-behind j inside here =
      elim (dec_le above.place j) [
        | no h ↦ omega (arith, above.inside)
        | yes h ↦ absurd (omega (arith, rises above.place j h inside, here, above.larger))
      ]

  pub run-begins : i + 1 < length ts → SoFar ts i 1
  run-begins inside =
      record {
        least = omega arith;
        inside = more-behind (i + 1) inside refl;
        same = λ x least most. (let one : x ≡ 1 = omega arith in ap (λ y. get_or ts (i + y) 0) one);
      }

  pub run-goes : (s : ℕ) → SoFar ts i s → get_or ts (i + s + 1) 0 ≡ get_or ts (i + 1) 0 → SoFar ts i (s + 1)
  run-goes s so next =
      let place : i + (s + 1) ≡ i + s + 1 = omega arith in
      record {
        least = omega arith;
        inside = rw place (more-behind (i + s + 1) so.inside next);
        same = same;
      }
    where
      same : (x : ℕ) → 1 ≤ x → x ≤ s + 1 → get_or ts (i + x) 0 ≡ get_or ts (i + 1) 0
      same x least most =
          elim (dec_le x s) [
            | yes h ↦ so.same x least h
            | no h ↦ (let here : i + x ≡ i + s + 1 = omega arith in ap (λ j. get_or ts j 0) here ∙ next)
          ]

  pub run_ends : (s : ℕ) → SoFar ts i s → (get_or ts (i + s + 1) 0 ≡ get_or ts (i + 1) 0 → ⊥) → Run ts i s
  run_ends s so other =
      record {
        least = so.least;
        inside = so.inside;
        same = so.same;
        ends = omega (arith, rises (i + 1) (i + s + 1) (omega (arith, so.least)) so.inside, other);
      }
