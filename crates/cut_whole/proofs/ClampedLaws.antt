-- m + 1 equal knots in front and m + 1 equal ones behind: the ends are clamped.
use mathlib.Core.List.{List, ◌++◌}
use mathlib.Core.Path.{◌≡◌, sym, ap, ◌∙◌}
use Prim.Native.Nat.{ℕ, ◌+◌, ◌-◌, ◌≤◌, ◌<◌}
use native.Mathlib.Omega.{arith}
use lib.ListN.{length, get_or, replicate, length-append, length-replicate, get_or-replicate, get_or-append}
use lib.Seq.{get_or-append-add}
use Rattle.checked.specs.Checked.{Clamped}

module _ (m low high : ℕ) (inner : List ℕ) where
  abbrev front : List ℕ
  front = replicate (m + 1) low

  abbrev back : List ℕ
  back = replicate (m + 1) high

  abbrev ts : List ℕ
  ts = front ++ (inner ++ back)

  left : (a : ℕ) → a ≤ m → get_or ts a 0 ≡ low
  left a h = get_or-append front (inner ++ back) 0 a (rw (length-replicate (m + 1) low) (omega arith)) ∙ get_or-replicate (m + 1) a low 0 (omega arith)

  right : (a : ℕ) → a ≤ m → get_or ts (m + 1 + length inner + a) 0 ≡ high
  right a h =
      let place : m + 1 + length inner + a ≡ length front + (length inner + a) = omega (arith, length-replicate (m + 1) low) in
      ap (λ (j : ℕ). get_or ts j 0) place
      ∙ get_or-append-add front (inner ++ back) (length inner + a) 0
      ∙ get_or-append-add inner back a 0
      ∙ get_or-replicate (m + 1) a high 0 (omega arith)

  pub runs-clamped : Clamped m ts (m + 1 + length inner)
  runs-clamped = record {
    firsts = λ a h. left a h ∙ sym (left m (omega arith));
    lasts = lasts;
  }
    where
      lasts : (a : ℕ) → m + 1 + length inner ≤ a → a < length ts → get_or ts a 0 ≡ get_or ts (m + 1 + length inner) 0
      lasts a from inside =
          let many : length ts ≡ m + 1 + (length inner + (m + 1)) =
          length-append front (inner ++ back) ∙ omega (arith, length-append inner back, length-replicate (m + 1) low, length-replicate (m + 1) high) in
          let place : a ≡ m + 1 + length inner + (a - (m + 1 + length inner)) = omega arith in
          let here : m + 1 + length inner ≡ m + 1 + length inner + 0 = omega arith in
          ap (λ (j : ℕ). get_or ts j 0) place
          ∙ right (a - (m + 1 + length inner)) (omega arith)
          ∙ sym (ap (λ (j : ℕ). get_or ts j 0) here ∙ right 0 (omega arith))
