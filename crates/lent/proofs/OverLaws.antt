-- A result over a lent list: its length, one entry more, two results one behind the other; and what a call leaves by its number.
use mathlib.Core.List.{List, [], ◌∷◌, ◌++◌, append_assoc, append-nil}
use mathlib.Core.Path.{◌≡◌, sym, ◌∙◌}
use Prim.Native.Nat.{ℕ, suc, ◌≤◌, ◌<◌}
use native.Mathlib.Numerals.{add-one}
use native.Mathlib.Omega.{arith}
use lib.Dec.{eqb-suc-zero}
use lib.ListN.{length, get_or, take, drop, set, length-append, length-drop, drop_of_length-le, get_or-append}
use lib.Seq.{set_at, drop-cons, append_snoc, take-append_seam, drop-drop}
use Rattle.lent.specs.Lent.{over, after}

module _ {A : Type 0} where
  -- the list keeps its length
  pub over-length : (result before : List A) → length result ≤ length before → length (over result before) ≡ length before
  over-length result before room = rw (length-append, length-drop) (omega arith)

  -- a result as long as the list is all of it
  pub over-whole : (result before : List A) → length before ≤ length result → over result before ≡ result
  over-whole result before full = rw (drop_of_length-le before full) (append-nil result)

  -- the first entries are the result, and those behind it are as before
  pub over-result : (result before : List A) → take (length result) (over result before) ≡ result
  over-result result before = take-append_seam result (drop (length result) before)

  pub over-entry : (result before : List A) (k : ℕ) (d : A) → k < length result → get_or (over result before) k d ≡ get_or result k d
  over-entry result before k d i = get_or-append result (drop (length result) before) d k i

  -- one entry more, stored behind the result
  pub over-more : (result before : List A) (v d : A) (i : ℕ) → length result ≡ i → i < length before
      → set (over result before) i v ≡ over (result ++ (v ∷ [])) before
  over-more result before v d i e room =
      rw (e, drop-cons before i d room)
      (set_at result (get_or before i d) (drop (suc i) before) v i e
      ∙ rw (length-append result (v ∷ []), e, add-one i) (sym (append_snoc result v (drop (suc i) before))))

  -- a result behind a result
  pub over-append : (first second before : List A) → over (first ++ second) before ≡ first ++ over second (drop (length first) before)
  over-append first second before =
      rw (length-append first second, append_assoc first second, drop-drop (length second) (length first) before)

  pub after-refused : (number : ℕ) (result before : List A) → after (suc number) result before ≡ before
  after-refused number result before = rw (eqb-suc-zero number)
