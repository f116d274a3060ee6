-- Laws of bytes put at a place and of entries read from a place on, over any entry and its width.
use mathlib.Core.Path.{◌≡◌, refl, sym, ap, ◌∙◌}
use mathlib.Core.List.{List, [], ◌∷◌, ◌++◌, append_assoc, append-nil}
use Prim.Native.Nat.{ℕ, zero, suc, ◌+◌, ◌*◌, ◌-◌, ◌<◌, ◌≤◌}
use native.Mathlib.Nat.{add-zero, zero-add, add_assoc, add_comm, mul-zero, mul-suc, le_of_eq}
use native.Mathlib.Omega.{arith}
use lib.ListN.{length, get_or, take, drop, length-append, length-drop, take-append-drop, drop_of_length-le}
use lib.Seq.{take_at, drop-drop, drop-append-add, length-take-le}
use Rattle.lent.specs.Lent.{over}
use Rattle.lent.proofs.ListLaws.{take_rest}
use Rattle.fields.specs.Bytes.{each}
use Rattle.fields.specs.Places.{entries_at, put_at}

module _ {A : Type 0} where
  -- nothing put is nothing changed
  pub put_at-nil : (before : List A) (at : ℕ) → before ≡ put_at before at []
  put_at-nil before at = rw (add-zero, append-nil, take-append-drop)

  -- put at the front is put over
  pub put_at-front : (before part : List A) → put_at before 0 part ≡ over part before
  put_at-front before part = rw zero-add

  -- the front of a list that a result was put over is the result
  pub over-front : (result before now : List A) (n : ℕ) → length result ≡ n → now ≡ over result before → take n now ≡ result
  over-front result before now n e f = ap (take n) f ∙ take_at result (drop (length result) before) n e

  -- what was put, with what stands before it
  length_front : (before part : List A) (at : ℕ) → at ≤ length before → length (take at before ++ part) ≡ at + length part
  length_front before part at h = length-append (take at before) part ∙ ap (λ (k : ℕ). k + length part) (length-take-le at before h)

  -- two parts put one after the other are their join put at once
  pub put_at-join : (before : List A) (at : ℕ) (a b : List A) → at + length a + length b ≤ length before
      → put_at (put_at before at a) (at + length a) b ≡ put_at before at (a ++ b)
  put_at-join before at a b h =
      let front : List A = take at before ++ a in
      let rest : List A = drop (at + length a) before in
      let inside : at ≤ length before = omega arith in
      let size : length front ≡ at + length a = length_front before a at inside in
      let taken : take (at + length a) (front ++ rest) ≡ front = take_at front rest (at + length a) size in
      let left : drop (at + length a + length b) (front ++ rest) ≡ drop (at + length a + length b) before =
      ap (λ (k : ℕ). drop (k + length b) (front ++ rest)) (sym size) ∙ drop-append-add front rest (length b) ∙ drop-drop (length b) (at + length a) before in
      ap (λ (l : List A). l ++ b ++ drop (at + length a + length b) (front ++ rest)) taken
      ∙ ap (λ (l : List A). front ++ b ++ l) left
      ∙ simp (append_assoc, length-append, add_assoc)

  -- a part put over the rest of a list from a place on, as a program's `&mut l[at..]` is given back
  pub put_at-rest : (before now : List A) (at : ℕ) (part : List A) → now ≡ over part (take (length before - at) (drop at before))
      → take at before ++ (now ++ drop (length before - at) (drop at before)) ≡ put_at before at part
  put_at-rest before now at part e =
      let none : drop (length before - at) (drop at before) ≡ [] = drop_of_length-le (drop at before) (le_of_eq (length-drop at before)) in
      rw (e, none, take_rest at before, append-nil, drop-drop (length part) at before) (sym (append_assoc (take at before) part (drop (at + length part) before)))

  -- a list keeps its length under a part that is put within it
  pub length-put_at : (before : List A) (at : ℕ) (part : List A) → at + length part ≤ length before → length (put_at before at part) ≡ length before
  length-put_at before at part h =
      let inside : at ≤ length before = omega arith in
      simp (length-append, length-drop, length-take-le at before inside) (omega arith)

module _ {A : Type 0} (read : ℕ → A) (width : ℕ) where
  pub length-entries_at : (at count : ℕ) → length (entries_at read width at count) ≡ count
  length-entries_at at zero = refl
  length-entries_at at (suc count) = ap suc (length-entries_at (at + width) count)

  -- one entry more is the one that stands behind them all
  pub entries_at-more : (at count : ℕ) → entries_at read width at (suc count) ≡ entries_at read width at count ++ (read (at + width * count) ∷ [])
  entries_at-more at zero = simp (mul-zero, add-zero)
  entries_at-more at (suc count) =
      let place : at + width + width * count ≡ at + width * suc count = omega (arith, mul-suc width count) in
      ap (λ (l : List A). read at ∷ l) (entries_at-more (at + width) count)
      ∙ ap (λ (k : ℕ). read at ∷ (entries_at read width (at + width) count ++ (read k ∷ []))) place

module _ {A B : Type 0} (parts_of : A → List B) (width : ℕ) (wide : (x : A) → length (parts_of x) ≡ width) where
  pub length-each : (xs : List A) → length (each parts_of xs) ≡ width * length xs
  length-each [] = sym (mul-zero width)
  length-each (x ∷ xs) =
      length-append (parts_of x) (each parts_of xs)
      ∙ ap (λ (k : ℕ). k + length (each parts_of xs)) (wide x)
      ∙ ap (λ (k : ℕ). width + k) (length-each xs)
      ∙ simp (mul-suc, add_comm)

  pub each_append : (xs ys : List A) → each parts_of (xs ++ ys) ≡ each parts_of xs ++ each parts_of ys
  each_append [] ys = refl
  each_append (x ∷ xs) ys = ap (λ (l : List B). parts_of x ++ l) (each_append xs ys) ∙ sym (append_assoc (parts_of x) (each parts_of xs) (each parts_of ys))

-- the entry at an index is the one that stands at its place
pub entries_at-entry : {A : Type 0} (read : ℕ → A) (width at count i : ℕ) (d : A) → i < count → get_or (entries_at read width at count) i d ≡ read (at + width * i)
entries_at-entry read width at zero i d h = absurd (omega arith)
entries_at-entry read width at (suc count) zero d h = rw (mul-zero, add-zero)
entries_at-entry read width at (suc count) (suc i) d h =
    let place : at + width + width * i ≡ at + width * suc i = omega (arith, mul-suc width i) in
    entries_at-entry read width (at + width) count i d (omega arith) ∙ ap read place
