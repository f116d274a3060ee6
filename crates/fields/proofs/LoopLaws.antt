-- The loops that read entries from a place on, and those that put entries from a place on, over any entry and its width:
-- what holds after i turns, one turn more, and all of them.
use mathlib.Core.Path.{◌≡◌, sym, ap, ◌∙◌}
use mathlib.Core.List.{List, [], ◌∷◌, ◌++◌, append-nil}
use Prim.Native.Nat.{ℕ, suc, ◌+◌, ◌*◌, ◌<◌, ◌≤◌}
use native.Mathlib.Nat.{mul-suc, mul-le-mul_left}
use native.Mathlib.Numerals.{add-one}
use native.Mathlib.Omega.{arith}
use lib.ListN.{length, get_or, take, drop, set, length-set}
use lib.Seq.{take-suc, take_all, length-take-le}
use Rattle.lent.specs.Lent.{over}
use Rattle.lent.proofs.OverLaws.{over-more, over-whole}
use Rattle.fields.specs.Bytes.{each}
use Rattle.fields.specs.Places.{entries_at, put_at}
use Rattle.fields.proofs.PlaceLaws.{put_at-join, length-put_at, length-entries_at, entries_at-more, length-each, each_append}

-- i entries are read: they stand at the front, and the rest is as before
pub record ReadSoFar {A : Type 0} (read : ℕ → A) (width at : ℕ) (before now : List A) (i : ℕ) : Type 0 where
  pub within : i ≤ length before
  pub holds : now ≡ over (entries_at read width at i) before
  pub kept : length now ≡ length before

module _ {A : Type 0} (read : ℕ → A) (width at : ℕ) (before : List A) where
  pub read_more : (now : List A) (i : ℕ) (v : A) → i < length before → v ≡ read (at + width * i)
      → ReadSoFar read width at before now i → ReadSoFar read width at before (set now i v) (i + 1)
  read_more now i v more e s =
      record {
        within = omega arith;
        holds =
            ap (λ (l : List A). set l i v) s.holds
            ∙ over-more (entries_at read width at i) before v v i (length-entries_at read width at i) more
            ∙ ap (λ (l : List A). over l before)
            (ap (λ (w : A). entries_at read width at i ++ (w ∷ [])) e
            ∙ sym (entries_at-more read width at i)
            ∙ ap (entries_at read width at) (sym (add-one i)));
        kept = simp length-set s.kept;
      }

  -- read into the front part of a list, which is given back
  pub read-front : (now : List A) (count i : ℕ) → count ≤ length before → length (take count before) ≤ i → ReadSoFar read width at (take count before) now i
      → now ++ drop count before ≡ over (entries_at read width at count) before
  read-front now count i room done s =
      let entries : List A = entries_at read width at count in
      let size : length (take count before) ≡ count = length-take-le count before room in
      let many : length entries ≡ count = length-entries_at read width at count in
      let all : i ≡ count = omega (arith, s.within) in
      let same : now ≡ entries = s.holds ∙ ap (λ (k : ℕ). over (entries_at read width at k) (take count before)) all ∙ over-whole entries (take count before) (omega arith) in
      ap (λ (l : List A). l ++ drop count before) same ∙ ap (λ (k : ℕ). entries ++ drop k before) (sym many)

-- the parts of i entries are put: they stand from `at` on, and all else is as before
pub record PutSoFar {A B : Type 0} (parts_of : A → List B) (width at : ℕ) (xs : List A) (before now : List B) (i : ℕ) : Type 0 where
  pub within : i ≤ length xs
  pub holds : now ≡ put_at before at (each parts_of (take i xs))
  pub kept : length now ≡ length before

module _ {A B : Type 0} (parts_of : A → List B) (width at : ℕ) (wide : (x : A) → length (parts_of x) ≡ width) (xs : List A) (before : List B) where
  pub put-more : (now then : List B) (i : ℕ) (z : A) → at + width * length xs ≤ length before → i < length xs
      → then ≡ put_at now (at + width * i) (parts_of (get_or xs i z))
      → PutSoFar parts_of width at xs before now i → PutSoFar parts_of width at xs before then (i + 1)
  put-more now then i z room more e s =
      let v : A = get_or xs i z in
      let written : List B = each parts_of (take i xs) in
      let size : length written ≡ width * i =
      length-each parts_of width wide (take i xs) ∙ ap (λ (l : ℕ). width * l) (length-take-le i xs s.within) in
      let step : width * suc i ≤ width * length xs = mul-le-mul_left width more in
      let fits : at + length written + length (parts_of v) ≤ length before = omega (arith, wide v, mul-suc width i) in
      let place : ℕ = at + width * i in
      let behind : place ≡ at + length written = ap (λ (l : ℕ). at + l) (sym size) in
      record {
        within = omega arith;
        holds =
            e
            ∙ ap (λ (l : List B). put_at l place (parts_of v)) s.holds
            ∙ ap (λ (l : ℕ). put_at (put_at before at written) l (parts_of v)) behind
            ∙ put_at-join before at written (parts_of v) fits
            ∙ ap (put_at before at)
            (ap (λ (l : List B). written ++ l) (sym (append-nil (parts_of v)))
            ∙ sym (each_append parts_of width wide (take i xs) (v ∷ []))
            ∙ ap (each parts_of) (sym (take-suc xs i z more) ∙ ap (λ (l : ℕ). take l xs) (sym (add-one i))));
        kept = ap length e ∙ length-put_at now place (parts_of v) (omega (arith, s.kept, behind)) ∙ s.kept;
      }

  pub put_all : (now : List B) (i : ℕ) → length xs ≤ i → PutSoFar parts_of width at xs before now i → now ≡ put_at before at (each parts_of xs)
  put_all now i done s = s.holds ∙ ap (λ (l : List A). put_at before at (each parts_of l)) (take_all i xs done)
