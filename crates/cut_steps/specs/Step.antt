-- One insertion into a curve that is being cut, and all of them at one span. A curve c is cut as far as the span i, behind k pieces; d is what it is then.
use Rattle.std.specs.Prelude.{List, ◌≡◌, ℕ, ◌+◌, ◌-◌, ℤ, length, get_or, replicate, Option, IfSome, is_some, Result, IfOk}
use Rattle.refusal.specs.Numbers.{accepted}
use Rattle.refusal.specs.Answers.{number_in}
use Rattle.refusal.specs.declared.Refusal.{Refusal}
use Rattle.curve.specs.Lists.{Lists, lists}
use Rattle.insertion.specs.Insertion.{point_at, inserted}
use Rattle.insertion.specs.Judged.{insertable_then}
use Rattle.cutting.specs.Cutting.{inserted_each, insertable_each_then}
use Rattle.cut_rows.specs.Row.{WholeOutcome, Stepped as RowStepped, Pushed}
use Rattle.cut_window.specs.Window.{Window, Carried, Behind, Run}
use Rattle.cut_steps.specs.declared.Axis.{Axis}
use Rattle.cut_steps.specs.declared.Cut.{Cut}

-- one axis, one insertion further
pub record AxisSteps (m : ℕ) (ts : List ℕ) (at low v full : ℕ) (axis next : Axis) : Type 0 where
  pub row : RowStepped m ts at low v full axis.row next.row
  pub behind : Pushed (point_at axis.row m) axis.behind next.behind

-- the same, unless a new point is not whole
pub record AxisOutcome (m : ℕ) (ts : List ℕ) (at low v full : ℕ) (axis : Axis) (r : Option Axis) : Type 0 where
  pub whole : WholeOutcome m ts at low v full axis.row (is_some r)
  pub steps : IfSome r (λ next. AxisSteps m ts at low v full axis next)

-- the span's high knot stood s times and was inserted r times; the rows and what is behind them are those of d
pub record CutStands (m : ℕ) (c d : Lists) (i k s r : ℕ) (cut : Cut) : Type 0 where
  pub window : Window m c d i k r
  pub run : Run c.knots i s
  pub count : cut.points ≡ length d.xs
  pub row_x : Carried m c.xs d.xs i k r cut.x.row
  pub row_y : Carried m c.ys d.ys i k r cut.y.row
  pub behind_x : Behind m d.xs k (s + r) cut.x.behind
  pub behind_y : Behind m d.ys k (s + r) cut.y.behind

-- there are such curves with the knots `ts`
abbrev pub Possible : ℕ → List ℕ → ℕ → ℕ → ℕ → Cut → Type 0
Possible m ts i s r cut = (cx : List ℤ) × (cy : List ℤ) × (d : Lists) × (k : ℕ) × CutStands m (lists ts cx cy) d i k s r cut

-- the high knot
abbrev pub high_of : Lists → ℕ → ℕ
high_of c i = get_or c.knots (i + 1) 0

-- it is inserted once more, or refused as an insertion into d is
pub record Steps (m : ℕ) (c d : Lists) (i k s r : ℕ) (next : Result Cut Refusal) : Type 0 where
  pub number : number_in next ≡ insertable_then m d (high_of c i) accepted
  pub goes : IfOk next (λ cut. CutStands m c (inserted m d (high_of c i)) i k s (r + 1) cut)

-- it is inserted until it stands m times, or as far as the first insertion that is refused
pub record Fills (m : ℕ) (c d : Lists) (i k s : ℕ) (next : Result Cut Refusal) : Type 0 where
  pub number : number_in next ≡ insertable_each_then m (replicate (m - s) (high_of c i)) d accepted
  pub goes : IfOk next (λ cut. CutStands m c (inserted_each m (replicate (m - s) (high_of c i)) d) i k s (m - s) cut)
