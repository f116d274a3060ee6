-- Cutting a curve at its inner knots, told over whole curves (heading "Out to SVG"): what the cut curve is, what its pieces' knots are, and when
-- cutting is refused. `m` is the degree, `c` the curve. Where the ends of the domain come in, the curve's ends are clamped: its first m + 1 knots
-- are equal, and its last m + 1.
use Rattle.std.specs.Prelude.{List, ◌∷◌, ◌++◌, ◌⊎◌, ◌↔◌, ◌≡◌, ℕ, ◌+◌, ◌-◌, ◌*◌, ◌≤◌, ◌<◌, length, get_or}
use Rattle.refusal.specs.Numbers.{accepted, full_refused, not_whole_refused}
use Rattle.curve.specs.Lists.{Lists, NeverFall}
use Rattle.grid.specs.Limits.{points_most}
use Rattle.grid.specs.Rows.{occurrences}
use Rattle.grid.specs.Check.{Passes, check_number}
use Rattle.checked.specs.Checked.{Clamped}
use Rattle.insertion.specs.Insertion.{inserted}
use Rattle.insertion.specs.Judged.{insertion_number}
use Rattle.insertion.specs.Sentences.{Full, NotWhole}
use Rattle.span_walk.specs.SpansMet.{keep, spans_of, non_empty}
use Rattle.cutting.specs.Cutting.{cuts, inserted_each, cut, cut_number}
use Rattle.cutting.specs.Pieces.{piece_of, piece_count, pieces}
use Rattle.cutting.specs.declared.Piece.{Piece}

-- the number of inserting v into d alone, with lent lists of just the places that its result needs
abbrev pub own_number : ℕ → Lists → ℕ → ℕ
own_number m d v = insertion_number m d v (inserted m d v)

-- every value of the list is accepted: inserted into the curve that has all values before it
abbrev pub AcceptsEach : ℕ → List ℕ → Lists → Type 0
AcceptsEach m vs c = (before : List ℕ) (v : ℕ) (later : List ℕ) → vs ≡ before ++ (v ∷ later) → own_number m (inserted_each m before c) v ≡ accepted

-- whenever cutting is not refused: the curve passes the check, no insertion is refused, and the cut curve passes the check
pub record CutAccepted (m : ℕ) (c : Lists) : Type 0 where
  pub passes : Passes m c.knots c.xs c.ys
  pub accepts : AcceptsEach m (cuts m c) c
  pub cut-passes : Passes m (cut m c).knots (cut m c).xs (cut m c).ys

abbrev pub CutPasses : Type 0
CutPasses = (m : ℕ) (c : Lists) → cut_number m c ≡ accepted → CutAccepted m c

-- v is an inner knot: it stands among the knots, strictly inside the domain
pub record InnerKnot (m : ℕ) (c : Lists) (v : ℕ) : Type 0 where
  pub above : get_or c.knots m 0 < v
  pub below : v < get_or c.knots (length c.xs) 0
  pub stands : 0 < occurrences v c.knots

-- the values to insert: an inner knot as often as it lacks of m times, no other value; and they never fall, so they go from left to right
pub record CountedCuts (m : ℕ) (c : Lists) : Type 0 where
  pub inner : (v : ℕ) → InnerKnot m c v → occurrences v (cuts m c) ≡ m - occurrences v c.knots
  pub other : (v : ℕ) → (InnerKnot m c v → ⊥) → occurrences v (cuts m c) ≡ 0
  pub rising : NeverFall (cuts m c)

abbrev pub CutsCounted : Type 0
CutsCounted = (m : ℕ) (c : Lists) → Passes m c.knots c.xs c.ys → Clamped m c.knots (length c.xs) → CountedCuts m c

-- in the cut curve every inner knot stands m times, and any other value as often as before
pub record FullyCut (m : ℕ) (c : Lists) : Type 0 where
  pub inner : (v : ℕ) → InnerKnot m c v → occurrences v (cut m c).knots ≡ m
  pub other : (v : ℕ) → (InnerKnot m c v → ⊥) → occurrences v (cut m c).knots ≡ occurrences v c.knots

abbrev pub CutFull : Type 0
CutFull = (m : ℕ) (c : Lists) → cut_number m c ≡ accepted → Clamped m c.knots (length c.xs) → FullyCut m c

-- m points a piece and one more; m + 1 knots more than points
pub record SizesOfCut (m : ℕ) (c : Lists) : Type 0 where
  pub xs : length (cut m c).xs ≡ piece_count m c * m + 1
  pub ys : length (cut m c).ys ≡ piece_count m c * m + 1
  pub knots : length (cut m c).knots ≡ piece_count m c * m + 1 + m + 1

abbrev pub CutSizes : Type 0
CutSizes = (m : ℕ) (c : Lists) → cut_number m c ≡ accepted → Clamped m c.knots (length c.xs) → SizesOfCut m c

-- the k-th span of c that is not empty, counted from 0, and its two knots
abbrev pub span_at : ℕ → Lists → ℕ → ℕ
span_at m c k = get_or (keep (non_empty c.knots) (spans_of m (length c.xs))) k 0

abbrev pub low_at : ℕ → Lists → ℕ → ℕ
low_at m c k = get_or c.knots (span_at m c k) 0

abbrev pub high_at : ℕ → Lists → ℕ → ℕ
high_at m c k = get_or c.knots (span_at m c k + 1) 0

-- the knots of the cut curve by index: the left end m + 1 times; round piece k its low knot m times and then its high knot m times; the right end
-- m + 1 times
pub record KnotsOfCut (m : ℕ) (c : Lists) : Type 0 where
  pub left : (j : ℕ) → j ≤ m → get_or (cut m c).knots j 0 ≡ get_or c.knots m 0
  pub low : (k r : ℕ) → k < piece_count m c → r < m → get_or (cut m c).knots (k * m + 1 + r) 0 ≡ low_at m c k
  pub high : (k r : ℕ) → k < piece_count m c → r < m → get_or (cut m c).knots (k * m + m + 1 + r) 0 ≡ high_at m c k
  pub right : (j : ℕ) → piece_count m c * m < j → j < length (cut m c).knots → get_or (cut m c).knots j 0 ≡ get_or c.knots (length c.xs) 0

abbrev pub CutKnots : Type 0
CutKnots = (m : ℕ) (c : Lists) → cut_number m c ≡ accepted → Clamped m c.knots (length c.xs) → KnotsOfCut m c

-- the spans that are not empty follow one another from end to end of the domain, and there is one at least
pub record SpansInOrder (m : ℕ) (c : Lists) : Type 0 where
  pub some : 1 ≤ piece_count m c
  pub wide : (k : ℕ) → k < piece_count m c → low_at m c k < high_at m c k
  pub start : low_at m c 0 ≡ get_or c.knots m 0
  pub meet : (k : ℕ) → k + 1 < piece_count m c → high_at m c k ≡ low_at m c (k + 1)
  pub stop : high_at m c (piece_count m c - 1) ≡ get_or c.knots (length c.xs) 0

abbrev pub SpansFollow : Type 0
SpansFollow = (m : ℕ) (c : Lists) → Passes m c.knots c.xs c.ys → SpansInOrder m c

-- there are as many pieces as spans that are not empty, and the k-th piece stands between the knots of the k-th of them; `past` is what is read
-- past the end of the list, where nothing is said
pub record KnotsOfPieces (m : ℕ) (c : Lists) : Type 0 where
  pub count : length (pieces m c) ≡ piece_count m c
  pub entry : (k : ℕ) (past : Piece) → k < piece_count m c → get_or (pieces m c) k past ≡ piece_of m (cut m c) k
  pub low : (k : ℕ) (past : Piece) → k < piece_count m c → (get_or (pieces m c) k past).low ≡ low_at m c k
  pub high : (k : ℕ) (past : Piece) → k < piece_count m c → (get_or (pieces m c) k past).high ≡ high_at m c k

abbrev pub PieceKnots : Type 0
PieceKnots = (m : ℕ) (c : Lists) → cut_number m c ≡ accepted → Clamped m c.knots (length c.xs) → KnotsOfPieces m c

-- the first insertion of the values that fails: every value before is accepted, and `Fails` holds of this one and of the curve that has those
-- before it
pub record FirstFailing (m : ℕ) (vs : List ℕ) (c : Lists) (Fails : Lists → ℕ → Type 0) : Type 0 where
  pub before : List ℕ
  pub value : ℕ
  pub later : List ℕ
  pub parted : vs ≡ before ++ (value ∷ later)
  pub accepts : AcceptsEach m before c
  pub fails : Fails (inserted_each m before c) value

-- the number of cutting a curve that passes the check and has clamped ends: 0 exactly where no insertion is refused, and else the number of the first that is; that
-- is 10 where the curve has 1,024 points by then, 11 where it has fewer and a new coordinate is not whole, and never another
pub record NumberOfCut (m : ℕ) (c : Lists) : Type 0 where
  pub none : (cut_number m c ≡ accepted) ↔ AcceptsEach m (cuts m c) c
  pub first : (n : ℕ) → 0 < n → (cut_number m c ≡ n) ↔ FirstFailing m (cuts m c) c (λ d v. own_number m d v ≡ n)
  pub full : (cut_number m c ≡ full_refused) ↔ FirstFailing m (cuts m c) c (λ d v. Full d)
  pub not-whole : (cut_number m c ≡ not_whole_refused) ↔ FirstFailing m (cuts m c) c (λ d v. (length d.xs < points_most) × NotWhole m d v)
  pub no_other : (cut_number m c ≡ accepted) ⊎ (cut_number m c ≡ full_refused) ⊎ (cut_number m c ≡ not_whole_refused)

-- ... and a curve that the check refuses is refused by the check's number
abbrev pub CutNumberIs : Type 0
CutNumberIs =
    (m : ℕ) (c : Lists)
    → (Passes m c.knots c.xs c.ys → Clamped m c.knots (length c.xs) → NumberOfCut m c)
    × ((check_number m c.knots c.xs c.ys ≡ accepted → ⊥) → cut_number m c ≡ check_number m c.knots c.xs c.ys)
