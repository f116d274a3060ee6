-- A walk over the pieces of a curve c: at each span it has what the curve is where every knot to the left of that span stands m times.
use Rattle.std.specs.Prelude.{List, ◌≡◌, ℕ, suc, ◌+◌, ◌-◌, ◌<◌, ℤ, length, get_or, Result, Ok, Err}
use Rattle.refusal.specs.Answers.{number_of}
use Rattle.refusal.specs.declared.Refusal.{Refusal}
use Rattle.curve.specs.Lists.{Lists}
use Rattle.span_walk.specs.SpansMet.{up_from, keep, non_empty}
use Rattle.cutting.specs.Cutting.{ends_from, lacking, cuts, inserted_each, insertable_each_then, cut}
use Rattle.cutting.specs.Pieces.{piece_of, piece_count}
use Rattle.cut_window.specs.Window.{Window, Carried}
use Rattle.cut_steps.specs.declared.Cut.{Cut}
use Rattle.insertion.specs.Insertion.{point_at}
use Rattle.cut_rows.specs.Row.{Pushed}
use Rattle.pieces.specs.Loaded.{Loaded}
use Rattle.pieces.specs.declared.Walk.{Walk}
use Rattle.cutting.specs.declared.Piece.{Piece}

-- some knot is larger than the one behind the index i
pub record LargerBehind (ts : List ℕ) (i : ℕ) : Type 0 where
  pub place : ℕ
  pub inside : place < length ts
  pub larger : get_or ts (i + 1) 0 < get_or ts place 0

-- the values to insert left of where the span i ends, in their order; and the curve with them
abbrev pub cuts_up_to : ℕ → Lists → ℕ → List ℕ
cuts_up_to m c i = lacking m c.knots (ends_from c.knots m (i - m))

abbrev pub cut_up_to : ℕ → Lists → ℕ → Lists
cut_up_to m c i = inserted_each m (cuts_up_to m c i) c

-- the walk stands at a span: no insertion was refused so far, and its rows hold the points that carry the span
pub record AtSpan (m : ℕ) (c : Lists) (walk : Walk) : Type 0 where
  pub window : Window m c (cut_up_to m c walk.span) walk.span walk.index 0
  pub row_x : Carried m c.xs (cut_up_to m c walk.span).xs walk.span walk.index 0 walk.xs
  pub row_y : Carried m c.ys (cut_up_to m c walk.span).ys walk.span walk.index 0 walk.ys
  pub count : walk.points ≡ length (cut_up_to m c walk.span).xs
  pub passed : (next : ℕ) → insertable_each_then m (cuts_up_to m c walk.span) c next ≡ next
  pub counted : walk.index ≡ length (keep (non_empty c.knots) (up_from m (walk.span - m)))

-- an insertion is refused: that is the number of cutting, whatever else is to be judged
pub record Refuses (m : ℕ) (c : Lists) (refusal : Refusal) : Type 0 where
  pub number : (next : ℕ) → insertable_each_then m (cuts m c) c next ≡ number_of refusal

-- the piece of a span that is not the last one, and the walk at the next span; the pieces before it stay what they were
pub record Inner (m : ℕ) (c : Lists) (walk : Walk) (handed : Piece) (next : Walk) : Type 0 where
  pub piece : handed ≡ piece_of m (cut_up_to m c next.span) walk.index
  pub index : next.index ≡ suc walk.index
  pub rises : walk.span < next.span
  pub stands : AtSpan m c next
  pub same : (j : ℕ) → j < walk.index → piece_of m (cut_up_to m c next.span) j ≡ piece_of m (cut_up_to m c walk.span) j

-- the piece of the last span, with which all pieces are handed out and no insertion was refused
pub record Last (m : ℕ) (c : Lists) (walk : Walk) (handed : Piece) (next : Walk) : Type 0 where
  pub piece : handed ≡ piece_of m (cut m c) walk.index
  pub index : next.index ≡ suc walk.index
  pub ends : next.span ≡ length c.xs
  pub same : cut_up_to m c walk.span ≡ cut m c
  pub all : piece_count m c ≡ suc walk.index
  pub passed : (next : ℕ) → insertable_each_then m (cuts m c) c next ≡ next

-- one of the two
pub data Handed (m : ℕ) (c : Lists) (walk : Walk) (handed : Piece) (next : Walk) : Type 0 where
  inner : Inner m c walk handed next → Handed m c walk handed next
  last : Last m c walk handed next → Handed m c walk handed next

-- what a step answers: a piece and the walk behind it, or the refusal of an insertion
abbrev pub Hands : ℕ → Lists → Walk → Result (Piece × Walk) Refusal → Type 0
Hands m c walk (Ok handed) = Handed m c walk handed.0 handed.1
Hands m c walk (Err refusal) = Refuses m c refusal

-- the span as the walk has it, with s points behind it and nothing inserted
pub record Opened (xs ys : List ℤ) (walk : Walk) (s : ℕ) (cut : Cut) : Type 0 where
  pub count : cut.points ≡ walk.points
  pub row_x : cut.x.row ≡ walk.xs
  pub row_y : cut.y.row ≡ walk.ys
  pub behind_x : Loaded xs (walk.span + 1) s cut.x.behind
  pub behind_y : Loaded ys (walk.span + 1) s cut.y.behind

-- what is handed out of the span when its insertions are done
pub record Closed (walk : Walk) (m low high s : ℕ) (cut : Cut) (handed : Piece) (next : Walk) : Type 0 where
  pub piece : handed ≡ record { low = low; high = high; xs = cut.x.row; ys = cut.y.row }
  pub index : next.index ≡ walk.index + 1
  pub span : next.span ≡ walk.span + s
  pub count : next.points ≡ cut.points
  pub next_x : Pushed (point_at cut.x.row m) cut.x.behind next.xs
  pub next_y : Pushed (point_at cut.y.row m) cut.y.behind next.ys
