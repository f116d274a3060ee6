-- Inserting v, told over all entries (headings "Inserting and removing a knot" and "Numbers of refusal"): what the new curve holds at every
-- index, and each row of refusal as a sentence that holds where the row applies.
use Rattle.std.specs.Prelude.{List, [], ◌∷◌, ◌⊎◌, ◌≡◌, ℕ, ◌+◌, ◌-◌, ◌≤◌, ◌<◌, ℤ, pos, ◌+ℤ◌, ◌-ℤ◌, ◌*ℤ◌, length, get_or}
use Rattle.refusal.specs.Chain.{Row, row, AnswersFirst}
use Rattle.curve.specs.Lists.{Lists}
use Rattle.grid.specs.Limits.{points_most}
use Rattle.grid.specs.Rows.{occurrences}
use Rattle.curve.specs.Sentences.{RoomWrong}
use Rattle.checked.specs.Sentences.{curve_rows}
use Rattle.insertion.specs.Insertion.{inserted}
use Rattle.insertion.specs.Judged.{insertion_number}

-- t_i ≤ v < t_{i+1}
pub record Between (ts : List ℕ) (v i : ℕ) : Type 0 where
  pub inside : i + 1 < length ts
  pub low : get_or ts i 0 ≤ v
  pub high : v < get_or ts (i + 1) 0

-- q is ((v - t_j)·P_j + (t_{j+m} - v)·P_{j-1}) / (t_{j+m} - t_j): times what stands below the line it is what stands above
abbrev pub Quotient : ℕ → List ℕ → List ℤ → ℕ → ℕ → ℤ → Type 0
Quotient m ts ps v j q =
    q *ℤ (pos (get_or ts (j + m) 0) -ℤ pos (get_or ts j 0))
    ≡ (pos v -ℤ pos (get_or ts j 0)) *ℤ get_or ps j (pos 0) +ℤ (pos (get_or ts (j + m) 0) -ℤ pos v) *ℤ get_or ps (j - 1) (pos 0)

-- one axis: Q_j = P_j up to j = i-m, the quotients for j = i-m+1 .. i, Q_{j+1} = P_j from j = i on; one more than before
pub record NewPoints (m : ℕ) (ts : List ℕ) (ps : List ℤ) (v i : ℕ) (qs : List ℤ) : Type 0 where
  pub count : length qs ≡ length ps + 1
  pub left : (j : ℕ) → j + m ≤ i → get_or qs j (pos 0) ≡ get_or ps j (pos 0)
  pub between : (j : ℕ) → i < j + m → j ≤ i → Quotient m ts ps v j (get_or qs j (pos 0))
  pub right : (j : ℕ) → i ≤ j → j < length ps → get_or qs (j + 1) (pos 0) ≡ get_or ps j (pos 0)

-- the knots: those up to i, then v, then the others
pub record NewKnots (ts : List ℕ) (v i : ℕ) (us : List ℕ) : Type 0 where
  pub count : length us ≡ length ts + 1
  pub left : (j : ℕ) → j ≤ i → get_or us j 0 ≡ get_or ts j 0
  pub here : get_or us (i + 1) 0 ≡ v
  pub right : (j : ℕ) → i < j → get_or us (j + 1) 0 ≡ get_or ts j 0

-- whenever inserting v is not refused, the new curve has these entries
abbrev pub InsertedByIndex : Type 0
InsertedByIndex =
    (m : ℕ) (c : Lists) (v : ℕ) (lent : Lists) (i : ℕ) → insertion_number m c v lent ≡ 0 → Between c.knots v i
    → NewKnots c.knots v i (inserted m c v).knots
    × NewPoints m c.knots c.xs v i (inserted m c v).xs
    × NewPoints m c.knots c.ys v i (inserted m c v).ys

-- row 9: v is at or left of t_m, or at or right of t_{n+1}, or stands among the knots m times already
abbrev pub ValueWrong : ℕ → Lists → ℕ → Type 0
ValueWrong m c v = (v ≤ get_or c.knots m 0) ⊎ (get_or c.knots (length c.xs) 0 ≤ v) ⊎ (m ≤ occurrences v c.knots)

-- row 10: there are 1,024 points already
abbrev pub Full : Lists → Type 0
Full c = points_most ≤ length c.xs

-- row 11, on one axis: some quotient with j from i-m+1 to i is no whole number
abbrev pub NotWholeOn : ℕ → List ℕ → List ℤ → ℕ → Type 0
NotWholeOn m ts ps v = (i : ℕ) × (j : ℕ) × Between ts v i × (i < j + m) × (j ≤ i) × ((q : ℤ) → Quotient m ts ps v j q → ⊥)

-- row 11: on either axis
abbrev pub NotWhole : ℕ → Lists → ℕ → Type 0
NotWhole m c v = NotWholeOn m c.knots c.xs v ⊎ NotWholeOn m c.knots c.ys v

-- the order of inserting: 1 to 7, 9, 10, 11, 15
abbrev pub insertion_rows : ℕ → Lists → ℕ → Lists → List Row
insertion_rows m c v lent =
    curve_rows m c.knots c.xs c.ys
    (row 9 (ValueWrong m c v) ∷ row 10 (Full c) ∷ row 11 (NotWhole m c v) ∷ row 15 (RoomWrong (inserted m c v) lent) ∷ [])

-- inserting answers the first of these rows that applies, and 0 exactly where none does
abbrev pub InsertionAnswersFirst : Type 0
InsertionAnswersFirst = (m : ℕ) (c : Lists) (v : ℕ) (lent : Lists) → AnswersFirst (insertion_number m c v lent) (insertion_rows m c v lent)
