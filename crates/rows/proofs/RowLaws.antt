-- When four numbers hold a row, how the next row comes over it from its end, and the entry that is the answer.
use mathlib.Core.List.{List, [], ◌∷◌}
use mathlib.Core.Path.{◌≡◌, refl, sym, ◌∙◌, ap, subst}
use Prim.Native.Nat.{ℕ, zero, suc, ◌+◌, ◌-◌, ◌≤◌, ◌<◌, min}
use native.Mathlib.Decide.{dec_le}
use native.Mathlib.Omega.{arith}
use lib.Ieee.{Float, nan}
use lib.ListN.{length, get_or, set, length-set}
use lib.Seq.{get_or-set_same, get_or-set_other}
use lib.IntN.{ℤ}
use Rattle.triangle.specs.FloatTriangle.{cell_at, entry_of, coordinate_of}
use Rattle.triangle.proofs.FloatTriangleLaws.{entry_of-next}
use Rattle.rows.specs.Row.{HoldsRow}

-- four numbers hold a row, where each that is asked for is its entry
pub four-hold :
    (m : ℕ) (ts : List ℕ) (ps : List ℤ) (t i r : ℕ) (a b c d : Float) → m ≤ r + 3 → d ≡ entry_of m ts ps t r i
    → (r + 1 ≤ m → c ≡ entry_of m ts ps t r (i - 1)) → (r + 2 ≤ m → b ≡ entry_of m ts ps t r (i - 2)) → (r + 3 ≤ m → a ≡ entry_of m ts ps t r (i - 3))
    → HoldsRow m ts ps t i r (a ∷ b ∷ c ∷ d ∷ [])
four-hold m ts ps t i r a b c d most last third second first = record { places = refl; entry = from-right }
  where
    from-right : (k : ℕ) → r + k ≤ m → get_or (a ∷ b ∷ c ∷ d ∷ []) (3 - k) nan ≡ entry_of m ts ps t r (i - k)
    from-right zero h = last ∙ ap (entry_of m ts ps t r) (omega arith)
    from-right (suc zero) h = third h
    from-right (suc (suc zero)) h = second h
    from-right (suc (suc (suc zero))) h = first h
    from-right (suc (suc (suc (suc k)))) h = absurd (omega arith)

-- between two rows: the k places at the end hold entries of row r+1, those in front of them row r's still
pub record Overwritten (m : ℕ) (ts : List ℕ) (ps : List ℤ) (t i r k : ℕ) (row : List Float) : Type 0 where
  pub places : length row ≡ 4
  pub next : (j : ℕ) → j < k → r + 1 + j ≤ m → get_or row (3 - j) nan ≡ entry_of m ts ps t (r + 1) (i - j)
  pub kept : (j : ℕ) → k ≤ j → r + j ≤ m → get_or row (3 - j) nan ≡ entry_of m ts ps t r (i - j)

module _ {m : ℕ} {ts : List ℕ} {ps : List ℤ} {t i r : ℕ} {row : List Float} where
  -- at first no place is overwritten
  pub none-overwritten : HoldsRow m ts ps t i r row → Overwritten m ts ps t i r 0 row
  none-overwritten h = record { places = h.places; next = λ j under. absurd (omega arith); kept = λ j above. h.entry j }

  -- the cell of a place and the one in front of it, both of row r still, is row r+1's entry there
  cell-next :
      {k : ℕ} → Overwritten m ts ps t i r k row
      → {place j : ℕ} {v : Float} → v ≡ cell_at m ts t (r + 1) j (get_or row (place - 1) nan) (get_or row place nan)
      → place ≡ 3 - k → j ≡ i - k → r + k < m
      → v ≡ entry_of m ts ps t (r + 1) (i - k)
  cell-next {k} h {place} {j} {v} e at_place at_entry_lem inside =
      let in-front : place - 1 ≡ 3 - (k + 1) = omega arith in
      let before : i - (k + 1) ≡ j - 1 = omega arith in
      let left : get_or row (place - 1) nan ≡ entry_of m ts ps t r (j - 1) =
      ap (λ n. get_or row n nan) in-front ∙ h.kept (k + 1) (omega arith) (omega arith) ∙ ap (entry_of m ts ps t r) before in
      let right : get_or row place nan ≡ entry_of m ts ps t r j =
      ap (λ n. get_or row n nan) at_place ∙ h.kept k (omega arith) (omega arith) ∙ ap (entry_of m ts ps t r) (sym at_entry_lem) in
      e ∙ (λ n. cell_at m ts t (r + 1) j (left n) (right n)) ∙ sym (entry_of-next m ts ps t r j) ∙ ap (entry_of m ts ps t (r + 1)) at_entry_lem

  -- that cell goes over its place, and no other place moves
  pub one_more :
      {k : ℕ} → Overwritten m ts ps t i r k row
      → {place j : ℕ} {v : Float} → v ≡ cell_at m ts t (r + 1) j (get_or row (place - 1) nan) (get_or row place nan)
      → place ≡ 3 - k → j ≡ i - k → r + k < m → k < 3
      → Overwritten m ts ps t i r (k + 1) (set row place v)
  one_more {k} h {place} {j} {v} e at_place at_entry_lem inside few =
      record {
        places = length-set row place v ∙ h.places;
        next = written;
        kept = λ l above here. get_or-set_other row place (3 - l) v nan (λ same. absurd (omega (arith, same))) ∙ h.kept l (omega arith) here;
      }
    where
      written : (l : ℕ) → l < k + 1 → r + 1 + l ≤ m → get_or (set row place v) (3 - l) nan ≡ entry_of m ts ps t (r + 1) (i - l)
      written l under here = by (dec_le k l)
        where
          by : Dec (k ≤ l) → get_or (set row place v) (3 - l) nan ≡ entry_of m ts ps t (r + 1) (i - l)
          by (yes last) =
              let this : place ≡ 3 - l = omega arith in
              let one : i - k ≡ i - l = omega arith in
              ap (λ n. get_or (set row place v) n nan) (sym this)
              ∙ get_or-set_same row place v nan (omega (arith, h.places))
              ∙ cell-next h e at_place at_entry_lem inside
              ∙ ap (entry_of m ts ps t (r + 1)) one
          by (no before) = get_or-set_other row place (3 - l) v nan (λ same. absurd (omega (arith, same))) ∙ h.next l (omega arith) here

  -- a place that row r+1 has no entry for stays as it is
  pub none_more : {k : ℕ} → Overwritten m ts ps t i r k row → m ≤ r + k → Overwritten m ts ps t i r (k + 1) row
  none_more h past = record { places = h.places; next = λ j under here. h.next j (omega arith) here; kept = λ j above. h.kept j (omega arith) }

  -- where row r+1 has no further entry, it is there
  pub next-row-holds : {k : ℕ} → Overwritten m ts ps t i r k row → m ≤ r + k → HoldsRow m ts ps t i (r + 1) row
  next-row-holds h past = record { places = h.places; entry = λ j here. h.next j (omega arith) here }

module _ {m : ℕ} {ts : List ℕ} {ps : List ℤ} {t i : ℕ} {row : List Float} where
  -- n steps are done, or as many as there are: at first none is
  pub no_step : HoldsRow m ts ps t i 0 row → HoldsRow m ts ps t i (min m 0) row
  no_step h =
      let none : 0 ≡ min m 0 = omega arith in
      subst (λ r. HoldsRow m ts ps t i r row) none h

  -- where there is one more, a step does it
  pub step-more :
      {n : ℕ} {d : List Float} → n < m → (HoldsRow m ts ps t i n row → HoldsRow m ts ps t i (n + 1) d)
      → HoldsRow m ts ps t i (min m n) row → HoldsRow m ts ps t i (min m (n + 1)) d
  step-more {n} {d} more step h =
      let here : min m n ≡ n = omega arith in
      let there : n + 1 ≡ min m (n + 1) = omega arith in
      subst (λ r. HoldsRow m ts ps t i r d) there (step (subst (λ r. HoldsRow m ts ps t i r row) here h))

  -- where there is none, they are all done
  pub step-none : {n : ℕ} → m ≤ n → HoldsRow m ts ps t i (min m n) row → HoldsRow m ts ps t i (min m (n + 1)) row
  step-none {n} past h =
      let same : min m n ≡ min m (n + 1) = omega arith in
      subst (λ r. HoldsRow m ts ps t i r row) same h

-- the last row's one entry, at place 3, is the coordinate
pub last_entry :
    (m : ℕ) (ts : List ℕ) (ps : List ℤ) (t i r : ℕ) (row : List Float) → m ≡ r → HoldsRow m ts ps t i r row → get_or row 3 nan ≡ coordinate_of m ts ps i t
last_entry m ts ps t i r row e h =
    let place : i - 0 ≡ i = omega arith in
    h.entry 0 (omega arith) ∙ (λ k. entry_of m ts ps t (sym e k) (place k))
