-- A result that begins and ends as another list does, written in parts: the front is copied, the middle is stored, the rest is copied.
use mathlib.Core.List.{List, [], ◌++◌, append-nil}
use mathlib.Core.Path.{◌≡◌, sym, ap, ◌∙◌}
use Prim.Native.Nat.{ℕ, suc, ◌+◌, ◌-◌, ◌≤◌, ◌<◌}
use native.Mathlib.Omega.{arith}
use lib.ListN.{length, get_or, take, drop, take-append-drop, length-drop, drop_of_length-le}
use lib.Seq.{ext_get_or, get_or-take, get_or-drop, length-take-le, take_all, take_at, drop_at, drop-drop}
use Rattle.lent.specs.Lent.{over}
use Rattle.lent.proofs.ListLaws.{take_rest}
use Rattle.lent.proofs.OverLaws.{over-append}
use Rattle.lent.proofs.StoreLaws.{Stored, stored-length}

module _ {A : Type 0} (d : A) (result from : List A) where
  -- the same entries in front
  pub same-front : (n : ℕ) → n ≤ length result → n ≤ length from → ((k : ℕ) → k < n → get_or result k d ≡ get_or from k d) → take n from ≡ take n result
  same-front n a b each =
      ext_get_or d (take n from) (take n result) (length-take-le n from b ∙ sym (length-take-le n result a))
      (λ k l.
      let inside : k < n = rw (length-take-le n from b) at l in
      get_or-take n from k d inside ∙ sym (each k inside) ∙ sym (get_or-take n result k d inside))

  -- the same entries behind, one place on
  pub same_rest : (n : ℕ) → length result ≡ length from + 1 → ((k : ℕ) → n ≤ k → k < length from → get_or result (suc k) d ≡ get_or from k d)
      → drop n from ≡ drop (n + 1) result
  same_rest n longer each =
      ext_get_or d (drop n from) (drop (n + 1) result) (rw (length-drop n from, length-drop (n + 1) result) (omega arith))
      (λ k l.
      let inside : k < length from - n = rw (length-drop n from) at l in
      let place : n + 1 + k ≡ suc (n + k) = omega arith in
      get_or-drop n from k d ∙ sym (each (n + k) (omega arith) (omega arith)) ∙ sym (get_or-drop (n + 1) result k d ∙ ap (λ (p : ℕ). get_or result p d) place))

-- the front of the result is copied over a lent list
pub front-copied : {A : Type 0} (result before part list : List A) (n : ℕ) → n ≤ length result → length result ≤ length before
    → part ≡ take n result → list ≡ over (take (length before) part) before → Stored result before list n
front-copied result before part list n inside room front copied =
    record {
      within = inside;
      room = room;
      holds =
          copied
          ∙ rw (
            front,
            take_all (length before) (take n result) (rw (length-take-le n result inside) (omega arith)),
            length-take-le n result inside,
          );
    }

module _ {A : Type 0} {result before list : List A} {n : ℕ} (s : Stored result before list n) where
  -- what is stored lies inside the list
  pub ends-inside : n ≤ length list
  ends-inside = omega (arith, stored-length s, s.within, s.room)

  -- what stands behind it is as before
  rest-as-before : drop n list ≡ drop n before
  rest-as-before = ap (drop n) s.holds ∙ drop_at (take n result) (drop n before) n (length-take-le n result s.within)

  later-as-before : (j : ℕ) → n ≤ j → drop j list ≡ drop j before
  later-as-before j later =
      let place : n + (j - n) ≡ j = omega arith in
      rw place at (sym (drop-drop (j - n) n list) ∙ ap (drop (j - n)) rest-as-before ∙ drop-drop (j - n) n before)

  -- the list as it now is, taken for the one before
  pub stored-anew : Stored result list list n
  stored-anew =
      record {
        within = s.within;
        room = omega (arith, stored-length s, s.room);
        holds = s.holds ∙ ap (λ (l : List A). take n result ++ l) (sym rest-as-before);
      }

  -- and back, when more is stored
  pub stored-since : {after : List A} {j : ℕ} → n ≤ j → Stored result list after j → Stored result before after j
  stored-since {j} later t =
      record {
        within = t.within;
        room = s.room;
        holds = t.holds ∙ ap (λ (l : List A). take j result ++ l) (later-as-before j later);
      }

-- the rest of the result is copied over the part from n on, and the part is put back
pub rest-copied : {A : Type 0} (result before part list last : List A) (n : ℕ) → Stored result before list n → part ≡ drop n result
    → last ≡ over (take (length (take (length list - n) (drop n list))) part) (take (length list - n) (drop n list))
    → take n list ++ (last ++ drop (length list - n) (drop n list)) ≡ over result before
rest-copied {A} result before part list last n s rest copied =
    let front : take n list ≡ take n result =
    ap (take n) s.holds ∙ take_at (take n result) (drop n before) n (length-take-le n result s.within) in
    let short : length (drop n list) ≤ length list - n = rw (length-drop n list) (omega arith) in
    let none : drop (length list - n) (drop n list) ≡ [] = drop_of_length-le (drop n list) short in
    let all : take (length (drop n before)) (drop n result) ≡ drop n result =
    take_all (length (drop n before)) (drop n result) (rw (length-drop n before, length-drop n result) (omega (arith, s.room))) in
    let given : last ≡ over (drop n result) (drop n before) = copied ∙ rw (rest, take_rest n list, rest-as-before s, all) in
    rw (none, front, given, append-nil (over (drop n result) (drop n before)))
    (sym over-split)
  where
    over-split : over result before ≡ take n result ++ over (drop n result) (drop n before)
    over-split =
        ap (λ (l : List A). over l before) (sym (take-append-drop n result))
        ∙ over-append (take n result) (drop n result) before
        ∙ rw (length-take-le n result s.within)
