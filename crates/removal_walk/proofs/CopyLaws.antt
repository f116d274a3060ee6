-- A list copied over another without one entry or more: in front of `start` as it stands, and from `far` on one place back.
use mathlib.Core.List.{List, [], ◌++◌, append-nil}
use mathlib.Core.Path.{◌≡◌, sym, ap, ◌∙◌}
use Prim.Native.Nat.{ℕ, ◌+◌, ◌-◌, ◌≤◌, ◌<◌}
use native.Mathlib.Omega.{arith}
use lib.IntN.{ℤ, pos}
use lib.ListN.{length, get_or, take, drop, length-append, length-drop, drop_of_length-le, get_or-append}
use lib.Seq.{get_or-take, get_or-drop, get_or-append-add, length-take-le, take_all, take_at}
use Rattle.lent.specs.Lent.{over}
use Rattle.lent.proofs.ListLaws.{take_rest}
use Rattle.lent.proofs.OverLaws.{over-whole}
use Rattle.removal_walk.specs.Walk.{BetweenSides}

-- a list in two parts, by its entries: k of the first part, then the second
module _ {A : Type 0} (d : A) (first second : List A) (k : ℕ) (inside : k ≤ length first) where
  in-first : (j : ℕ) → j < k → get_or (take k first ++ second) j d ≡ get_or first j d
  in-first j h =
      get_or-append (take k first) second d j (rw (length-take-le k first inside) h) ∙ get_or-take k first j d h

  in-second : (j : ℕ) → k ≤ j → get_or (take k first ++ second) j d ≡ get_or second (j - k) d
  in-second j h =
      let place : length (take k first) + (j - k) ≡ j = rw (length-take-le k first inside) (omega arith) in
      ap (λ (n : ℕ). get_or (take k first ++ second) n d) (sym place) ∙ get_or-append-add (take k first) second (j - k) d

-- the old list in front of `start` over a list, and behind `far` over the part from `far` on
module _ {A : Type 0} (old before list last : List A) (start far : ℕ) (order : start ≤ far) (inside : far < length old) (room : length before + 1 ≡ length old)
    (front : list ≡ over (take (length before) (take start old)) before)
    (behind : last ≡ over (take (length (take (length list - far) (drop far list))) (take (length old - (far + 1)) (drop (far + 1) old))) (take (length list - far) (drop far list))) where
  fronted : list ≡ take start old ++ drop start before
  fronted =
      let n = length-take-le start old (omega arith) in
      front ∙ rw (take_all (length before) (take start old) (rw n (omega arith)), n)

  as_long : length list ≡ length before
  as_long = rw (fronted, length-append (take start old) (drop start before), length-take-le start old (omega arith), length-drop start before) (omega arith)

  copied-parts : take far list ++ (last ++ drop (length list - far) (drop far list)) ≡ take far list ++ drop (far + 1) old
  copied-parts =
      let n : length (drop far list) ≡ length (drop (far + 1) old) = rw (length-drop far list, length-drop (far + 1) old) (omega (arith, as_long)) in
      let none : drop (length list - far) (drop far list) ≡ [] = drop_of_length-le (drop far list) {i = length list - far} (rw (length-drop far list) (omega arith)) in
      let all : last ≡ drop (far + 1) old =
      behind
      ∙ rw (take_rest far list, take_rest (far + 1) old, take_all (length (drop far list)) (drop (far + 1) old) (omega (arith, n)))
      (over-whole (drop (far + 1) old) (drop far list) (omega (arith, n))) in
      rw (none, all, append-nil (drop (far + 1) old))

-- the two sides of a walk, by their entries
pub sides-copied : (ps before list last : List ℤ) (start far : ℕ) → start ≤ far → far < length ps → length before + 1 ≡ length ps
    → list ≡ over (take (length before) (take start ps)) before
    → last ≡ over (take (length (take (length list - far) (drop far list))) (take (length ps - (far + 1)) (drop (far + 1) ps))) (take (length list - far) (drop far list))
    → BetweenSides ps start far before (take far list ++ (last ++ drop (length list - far) (drop far list)))
sides-copied ps before list last start far order inside room front behind =
    let n = as_long ps before list last start far order inside room front behind in
    let parts = fronted ps before list last start far order inside room front behind in
    rw (copied-parts ps before list last start far order inside room front behind)
    (record {
      count = rw (length-append (take far list) (drop (far + 1) ps), length-take-le far list (omega arith), length-drop (far + 1) ps) (omega arith);
      left = λ j h.
          in-first (pos 0) list (drop (far + 1) ps) far (omega arith) j (omega arith)
          ∙ ap (λ (l : List ℤ). get_or l j (pos 0)) parts ∙ in-first (pos 0) ps (drop start before) start (omega arith) j h;
      between = λ j a h.
          let place : start + (j - start) ≡ j = omega arith in
          in-first (pos 0) list (drop (far + 1) ps) far (omega arith) j h
          ∙ ap (λ (l : List ℤ). get_or l j (pos 0)) parts ∙ in-second (pos 0) ps (drop start before) start (omega arith) j a
          ∙ get_or-drop start before (j - start) (pos 0) ∙ ap (λ (k : ℕ). get_or before k (pos 0)) place;
      right = λ j a h.
          let place : far + 1 + (j - far) ≡ j + 1 = omega arith in
          in-second (pos 0) list (drop (far + 1) ps) far (omega arith) j a
          ∙ get_or-drop (far + 1) ps (j - far) (pos 0) ∙ ap (λ (k : ℕ). get_or ps k (pos 0)) place;
    })

-- the entries round the one at `at`
pub entry-removed : (ts before list last : List ℕ) (at : ℕ) → at < length ts → length before + 1 ≡ length ts
    → list ≡ over (take (length before) (take at ts)) before
    → last ≡ over (take (length (take (length list - at) (drop at list))) (take (length ts - (at + 1)) (drop (at + 1) ts))) (take (length list - at) (drop at list))
    → take at list ++ (last ++ drop (length list - at) (drop at list)) ≡ take at ts ++ drop (at + 1) ts
entry-removed ts before list last at inside room front behind =
    copied-parts ts before list last at at (omega arith) inside room front behind
    ∙ ap (λ (l : List ℕ). take at l ++ drop (at + 1) ts) (fronted ts before list last at at (omega arith) inside room front behind)
    ∙ ap (λ (l : List ℕ). l ++ drop (at + 1) ts) (take_at (take at ts) (drop at before) at (length-take-le at ts (omega arith)))
