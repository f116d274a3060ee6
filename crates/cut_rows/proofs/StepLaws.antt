-- A step of a row, place by place, whether it is whole, and its coordinates as code reads them.
use mathlib.Core.Bool.{Bool, true, false≢true}
use mathlib.Core.List.{List, [], ◌∷◌}
use mathlib.Core.Path.{◌≡◌, refl, sym, subst}
use native.Mathlib.Decide.{ℕ_discrete}
use Prim.Native.Nat.{ℕ, zero, suc, ◌+◌, ◌≤◌, ◌<◌}
use native.Mathlib.Omega.{arith}
use lib.IntN.{ℤ}
use lib.Signed.{quot_z}
use mir.Syntax.{w32}
use mir.Val.{to_z, of_z}
use mir.Facts.{to_z-of_z}
use Rattle.signed.specs.Division.{divides}
use Rattle.signed.proofs.FitLaws.{fits32-of-size}
use Rattle.insertion.specs.Insertion.{point_at}
use Rattle.cut_rows.specs.Row.{sum_at, width_at, RowStands, MeanOf, Stepped, NextOf}
use Rattle.std.specs.Prelude.{Option, Some, None}

module _ {m : ℕ} {ts : List ℕ} {at low v full : ℕ} {row : List ℤ} (s : RowStands m ts at low v full row) where
  -- a coordinate on the grid is read as it was lent
  pub row_read : (k : ℕ) → to_z w32 (of_z w32 (point_at row k)) ≡ point_at row k
  row_read k = to_z-of_z (fits32-of-size (point_at row k) (omega (arith, s.range k)))

  -- the places that are made lie from 2 to 3
  abbrev mean_of : ℕ → ℤ
  mean_of k = quot_z (sum_at ts at low v row k) (width_at ts at low k)

  -- the same place by another name
  pub mean-moves : (z : ℤ) (j k : ℕ) → j ≡ k → z ≡ mean_of j → z ≡ mean_of k
  mean-moves z j k e h = subst (λ i. z ≡ mean_of i) e h

  pub stepped-on : (a b : ℤ) → (full < 2 → a ≡ mean_of 2) → (2 ≤ full → a ≡ point_at row 2) → (m ≡ 3 → b ≡ mean_of 3) → (m < 3 → b ≡ point_at row 3)
      → Stepped m ts at low v full row (point_at row 0 ∷ point_at row 1 ∷ a ∷ b ∷ [])
  stepped-on a b second keeps third rests =
      record { places = refl; kept = kept; made = made; unused = unused }
    where
      next : List ℤ
      next = point_at row 0 ∷ point_at row 1 ∷ a ∷ b ∷ []

      kept : (k : ℕ) → k ≤ full → point_at next k ≡ point_at row k
      kept zero h = refl
      kept (suc zero) h = refl
      kept (suc (suc zero)) h = keeps (omega arith)
      kept (suc (suc (suc k))) h = absurd (omega (arith, s.less, s.degree))

      made : (k : ℕ) → full < k → k ≤ m → point_at next k ≡ mean_of k
      made zero h l = absurd (omega arith)
      made (suc zero) h l = absurd (omega (arith, s.least))
      made (suc (suc zero)) h l = second (omega arith)
      made (suc (suc (suc zero))) h l = third (omega (arith, s.degree))
      made (suc (suc (suc (suc k)))) h l = absurd (omega (arith, s.degree))

      unused : (k : ℕ) → m < k → k < 4 → point_at next k ≡ point_at row k
      unused zero h l = absurd (omega arith)
      unused (suc zero) h l = absurd (omega (arith, s.less))
      unused (suc (suc zero)) h l = absurd (omega (arith, s.less, s.least))
      unused (suc (suc (suc zero))) h l = rests (omega arith)
      unused (suc (suc (suc (suc k)))) h l = absurd (omega arith)

  -- whether place k would be whole
  abbrev Whole : ℕ → Bool
  Whole k = divides (width_at ts at low k) (sum_at ts at low v row k)

  abbrev pub MeanAt : ℕ → Option ℤ → Type 0
  MeanAt k r = MeanOf (sum_at ts at low v row k) (width_at ts at low k) r

  -- a mean is read as it was made
  pub mean-read : (k : ℕ) (value : ℤ) → MeanAt k (Some value) → to_z w32 (of_z w32 value) ≡ value
  mean-read k value w = to_z-of_z (fits32-of-size value (omega (arith, w.value.1)))

  -- a place that is made is not whole
  pub next-none : (k : ℕ) → full < k → k ≤ m → MeanAt k None → NextOf m ts at low v full row None
  next-none k h l w =
      record { whole = record { whole = λ x. absurd (false≢true x); broken = λ x. (k, h, l, sym w.whole) }; next = tt }

  -- one place is made
  pub next_one : (last : ℤ) → MeanAt m (Some last) → full + 1 ≡ m → (next : List ℤ) → Stepped m ts at low v full row next → NextOf m ts at low v full row (Some next)
  next_one last w one next steps =
      record { whole = record { whole = λ x k h l. all k h l; broken = λ x. absurd (false≢true (sym x)) }; next = steps }
    where
      all : (k : ℕ) → full < k → k ≤ m → Whole k ≡ true
      all k h l = let here : k ≡ m = omega arith in rw here (sym w.whole)

  -- two are made
  pub next-two : (third last : ℤ) → MeanAt 2 (Some third) → MeanAt m (Some last) → m ≡ 3 → (next : List ℤ) → Stepped m ts at low v full row next
      → NextOf m ts at low v full row (Some next)
  next-two third last w u three next steps =
      record { whole = record { whole = λ x k h l. all k h l; broken = λ x. absurd (false≢true (sym x)) }; next = steps }
    where
      all : (k : ℕ) → full < k → k ≤ m → Whole k ≡ true
      all k h l =
          elim (ℕ_discrete k m) [
            | yes here ↦ rw here (sym u.whole)
            | no other ↦ (let here : k ≡ 2 = omega (arith, other, s.least) in rw here (sym w.whole))
          ]
