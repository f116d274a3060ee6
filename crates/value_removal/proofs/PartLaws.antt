-- Entries of a part of a list, of a list with a part put back, and of a front with a rest.
use mathlib.Core.List.{List, ◌++◌}
use mathlib.Core.Path.{◌≡◌, sym, ap, ◌∙◌}
use Prim.Native.Nat.{ℕ, ◌+◌, ◌≤◌, ◌<◌}
use native.Mathlib.Omega.{arith}
use lib.ListN.{length, get_or, take, drop, length-append, get_or-append}
use lib.Seq.{length-take-le, get_or-take, get_or-drop, get_or-append-add}

module _ {A : Type 0} (d : A) where
  -- a part, `&l[a..a + k]`
  pub part-entry : (a k : ℕ) (l : List A) (j : ℕ) → j < k → get_or (take k (drop a l)) j d ≡ get_or l (a + j) d
  part-entry a k l j h = get_or-take k (drop a l) j d h ∙ get_or-drop a l j d

  -- the part comes back as `w`
  pub put-before : (a : ℕ) (l w r : List A) (j : ℕ) → a ≤ length l → j < a → get_or (take a l ++ (w ++ r)) j d ≡ get_or l j d
  put-before a l w r j fits h =
      get_or-append (take a l) (w ++ r) d j (omega (arith, length-take-le a l fits)) ∙ get_or-take a l j d h

  pub put-inside : (a : ℕ) (l w r : List A) (j : ℕ) → a ≤ length l → j < length w → get_or (take a l ++ (w ++ r)) (a + j) d ≡ get_or w j d
  put-inside a l w r j fits h =
      ap (λ (n : ℕ). get_or (take a l ++ (w ++ r)) (n + j) d) (sym (length-take-le a l fits))
      ∙ get_or-append-add (take a l) (w ++ r) j d ∙ get_or-append w r d j h

  -- a front and a rest
  pub glue-front : (k : ℕ) (l r : List A) (j : ℕ) → k ≤ length l → j < k → get_or (take k l ++ r) j d ≡ get_or l j d
  glue-front k l r j fits h =
      get_or-append (take k l) r d j (omega (arith, length-take-le k l fits)) ∙ get_or-take k l j d h

  pub glue-rest : (k : ℕ) (l r : List A) (j : ℕ) → k ≤ length l → get_or (take k l ++ r) (k + j) d ≡ get_or r j d
  glue-rest k l r j fits =
      ap (λ (n : ℕ). get_or (take k l ++ r) (n + j) d) (sym (length-take-le k l fits)) ∙ get_or-append-add (take k l) r j d

pub glue-length : {A : Type 0} (k : ℕ) (l r : List A) → k ≤ length l → length (take k l ++ r) ≡ k + length r
glue-length k l r fits = length-append (take k l) r ∙ ap (λ (n : ℕ). n + length r) (length-take-le k l fits)
