-- A list in two parts: an entry of the second part, and a list with one entry more between the parts.
use mathlib.Core.List.{List, ◌∷◌, ◌++◌}
use mathlib.Core.Path.{◌≡◌, sym, ap, ◌∙◌}
use Prim.Native.Nat.{ℕ, suc, ◌+◌, ◌≤◌, ◌<◌}
use native.Mathlib.Numerals.{add-one}
use native.Mathlib.Omega.{arith}
use lib.ListN.{length, get_or, take, drop, length-append}
use lib.Seq.{split_at, take-append_seam, drop-append_seam, get_or-append-add}
use Rattle.insertion.proofs.PartLaws.{same-front, same_rest}

pub entry-behind : {A : Type 0} (none : A) (front back : List A) (n j : ℕ) → length front ≡ n → get_or (front ++ back) (n + j) none ≡ get_or back j none
entry-behind none front back n j e = rw (← e) (get_or-append-add front back j none)

-- told entry by entry, the list is `front`, q and `back`
pub one-put-in : {A : Type 0} (none q : A) (front back result : List A) → length result ≡ length (front ++ back) + 1
    → ((j : ℕ) → j < length front → get_or result j none ≡ get_or (front ++ back) j none)
    → get_or result (length front) none ≡ q
    → ((j : ℕ) → length front ≤ j → j < length (front ++ back) → get_or result (suc j) none ≡ get_or (front ++ back) j none)
    → result ≡ front ++ (q ∷ back)
one-put-in none q front back result longer left here right =
    let sum = length-append front back in
    let before : front ≡ take (length front) result =
    sym (take-append_seam front back) ∙ same-front none result (front ++ back) (length front) (omega arith) (omega arith) left in
    let behind : back ≡ drop (suc (length front)) result =
    sym (drop-append_seam front back) ∙ same_rest none result (front ++ back) (length front) longer right ∙ ap (λ (n : ℕ). drop n result) (add-one (length front)) in
    split_at result (length front) none (omega arith) ∙ rw (here, ← before, ← behind)
