-- One law over a chain of tests, each with its number and with the sentence that its failing says: the answer is that of the first row that applies.
use mathlib.Core.Bool.{Bool, true, false, not, ◌&&◌, true≢false}
use mathlib.Core.List.{List, [], ◌∷◌}
use mathlib.Core.Logic.{◌⊎◌, inl, inr, ⊎_elim, ◌↔◌}
use mathlib.Core.Path.{◌≡◌, refl, sym, ◌∙◌, ap}
use Prim.Native.Nat.{ℕ, zero, suc, ◌<◌}
use native.Mathlib.Omega.{arith}
use lib.Dec.{eqb}
use lib.ListN.{length}
use borrow.Author.Tests.{eqb-false, not-true}
use Rattle.refusal.specs.Judging.{unless}
use Rattle.refusal.specs.Chain.{Row, row, number_at, AppliesAt, AnswersFirst}
use Rattle.refusal.proofs.JudgingLaws.{both}

-- rows judged in turn: one applies and gives the answer, or it does not and the next are judged
pub data Judges : ℕ → List Row → Type 1 where
  accepts : Judges 0 []
  refuses : {n : ℕ} {S : Type 0} {rows : List Row} → S → Judges n (row n S ∷ rows)
  passes : {answer n : ℕ} {S : Type 0} {rows : List Row} → (S → ⊥) → Judges answer rows → Judges answer (row n S ∷ rows)

-- a test that fails exactly where its row applies; what comes next matters only where it passes
pub judged : {n next : ℕ} {ok : Bool} {S : Type 0} {rows : List Row} → (ok ≡ false) ↔ S → (ok ≡ true → Judges next rows) → Judges (unless ok n next) (row n S ∷ rows)
judged {ok = true} s rest = passes (λ x. true≢false (s.1 x)) (rest refl)
judged {ok = false} s rest = refuses (s.0 refl)

-- what the answer is, by cases: 0 and no row applies, or the number of the first that does
abbrev Found : ℕ → List Row → Type 0
Found answer rows =
    ((answer ≡ 0) × ((i : ℕ) → AppliesAt rows i → ⊥))
    ⊎ ((k : ℕ) × (k < length rows) × (answer ≡ number_at rows k) × AppliesAt rows k × ((i : ℕ) → i < k → AppliesAt rows i → ⊥))

-- a first row that does not apply changes nothing
passed_over : (r : Row) (rows : List Row) (answer : ℕ) → (r.applies → ⊥) → Found answer rows → Found answer (r ∷ rows)
passed_over r rows answer fine (inl (e, none)) = inl (e, here)
  where
    here : (i : ℕ) → AppliesAt (r ∷ rows) i → ⊥
    here zero = fine
    here (suc i) = none i
passed_over r rows answer fine (inr (k, l, e, holds, before)) = inr (suc k, omega arith, e, holds, here)
  where
    here : (i : ℕ) → i < suc k → AppliesAt (r ∷ rows) i → ⊥
    here zero j = fine
    here (suc i) j = before i (omega arith)

found : {answer : ℕ} {rows : List Row} → Judges answer rows → Found answer rows
found accepts = inl (refl, λ i x. x)
found (refuses s) = inr (zero, omega arith, refl, s, λ i j. absurd (omega arith))
found (passes {answer = answer} {n = n} {S = S} {rows = rows} s rest) = passed_over (row n S) rows answer s (found rest)

-- no row has the number n; and no two rows have the same
abbrev pub unlike : ℕ → List Row → Bool
unlike n [] = true
unlike n (r ∷ rows) = not (eqb r.number n) && unlike n rows

abbrev pub distinct : List Row → Bool
distinct [] = true
distinct (r ∷ rows) = unlike r.number rows && distinct rows

unlike-each : (n : ℕ) (rows : List Row) → unlike n rows ≡ true → (k : ℕ) → k < length rows → number_at rows k ≡ n → ⊥
unlike-each n [] h k l = absurd (omega arith)
unlike-each n (r ∷ rows) h zero l = eqb-false r.number n (not-true (eqb r.number n) (both (not (eqb r.number n)) (unlike n rows) h).0)
unlike-each n (r ∷ rows) h (suc k) l = unlike-each n rows (both (not (eqb r.number n)) (unlike n rows) h).1 k (omega arith)

same_row : (rows : List Row) → distinct rows ≡ true → (j k : ℕ) → j < length rows → k < length rows → number_at rows j ≡ number_at rows k → j ≡ k
same_row [] h j k i l e = absurd (omega arith)
same_row (r ∷ rows) h zero zero i l e = refl
same_row (r ∷ rows) h zero (suc k) i l e = absurd (unlike-each r.number rows (both (unlike r.number rows) (distinct rows) h).0 k (omega arith) (sym e))
same_row (r ∷ rows) h (suc j) zero i l e = absurd (unlike-each r.number rows (both (unlike r.number rows) (distinct rows) h).0 j (omega arith) e)
same_row (r ∷ rows) h (suc j) (suc k) i l e = ap suc (same_row rows (both (unlike r.number rows) (distinct rows) h).1 j k (omega arith) (omega arith) e)

-- the first of all rows is one row
first-once : (rows : List Row) (j k : ℕ) → AppliesAt rows j → ((i : ℕ) → i < j → AppliesAt rows i → ⊥) → AppliesAt rows k → ((i : ℕ) → i < k → AppliesAt rows i → ⊥) → j ≡ k
first-once rows j k a before b lower =
    ⊎_elim (λ l. absurd (lower j l a)) (λ g. ⊎_elim (λ l. absurd (before k l b)) (λ e. e) g) (compare j k)
  where
    compare : (j k : ℕ) → (j < k) ⊎ ((k < j) ⊎ (j ≡ k))
    compare zero zero = inr (inr refl)
    compare zero (suc k) = inl (omega arith)
    compare (suc j) zero = inr (inl (omega arith))
    compare (suc j) (suc k) = ⊎_elim (λ l. inl (omega arith)) (λ g. inr (⊎_elim (λ l. inl (omega arith)) (λ e. inr (ap suc e)) g)) (compare j k)

-- the law: rows judged in turn, whose numbers differ from each other and from 0, answer the first that applies
pub answers-first : (answer : ℕ) (rows : List Row) → distinct (row 0 ⊥ ∷ rows) ≡ true → Judges answer rows → AnswersFirst answer rows
answers-first answer rows d j = by_cases (found j)
  where
    parts : (unlike 0 rows ≡ true) × (distinct rows ≡ true)
    parts = both (unlike 0 rows) (distinct rows) d

    by_cases : Found answer rows → AnswersFirst answer rows
    by_cases (inl (e, none)) =
        record {
          first = λ k l. ((λ f. absurd (unlike-each 0 rows parts.0 k l (sym f ∙ e))), (λ p. absurd (none k p.0)));
          none = ((λ f. none), (λ f. e));
        }
    by_cases (inr (k, l, e, holds, before)) =
        record {
          first = λ i r. (
            (λ f. rw (same_row rows parts.1 i k r l (sym f ∙ e)) (holds, before)),
            (λ p. rw (first-once rows i k p.0 p.1 holds before) e),
          );
          none = ((λ f. absurd (unlike-each 0 rows parts.0 k l (sym e ∙ f))), (λ f. absurd (f k holds)));
        }
