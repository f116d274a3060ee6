-- What writing path data answers and leaves in the lent list, in sentences (headings "Out to SVG" and "Numbers of refusal").
use Rattle.std.specs.Prelude.{List, [], ◌∷◌, ◌⊎◌, Result, Ok, ◌≡◌, ℕ, suc, ◌<◌, length}
use Rattle.refusal.specs.Answers.{number_in}
use Rattle.refusal.specs.Chain.{Row, row, AnswersFirst}
use Rattle.refusal.specs.declared.Refusal.{Refusal}
use Rattle.lent.specs.Sentences.{ResultThenRest}
use Rattle.curve.specs.Lists.{Lists}
use Rattle.grid.specs.Limits.{points_most}
use Rattle.checked.specs.Sentences.{curve_rows}
use Rattle.insertion.specs.Sentences.{Full, NotWhole}
use Rattle.clamping.specs.Clamping.{clamped}
use Rattle.clamping.specs.Sentences.{ClampNotWhole}
use Rattle.cutting.specs.Cutting.{cuts}
use Rattle.cut_whole.specs.Sentences.{FirstFailing}
use Rattle.svg_out.specs.Svg.{svg_text, svg_number, SvgOutcome}

-- the first insertion into the clamped copy that fails: the copy is full by then, or it is not and a new point is not whole
abbrev pub FullFirst : ℕ → Lists → Type 0
FullFirst m c = FirstFailing m (cuts m (clamped m c)) (clamped m c) (λ d v. Full d)

abbrev pub NotWholeFirst : ℕ → Lists → Type 0
NotWholeFirst m c = FirstFailing m (cuts m (clamped m c)) (clamped m c) (λ d v. (length d.xs < points_most) × NotWhole m d v)

-- 1 to 7 for the curve; then 11: a point of the clamped polygon is not whole, or it is and the first insertion that fails is not; then 10: the first that fails
-- finds the copy full, which excludes the other; then 15: the lent list is shorter than the text
abbrev pub svg_rows : ℕ → Lists → List ℕ → List Row
svg_rows m c out =
    curve_rows m c.knots c.xs c.ys
    (row 11 (ClampNotWhole m c ⊎ NotWholeFirst m c)
    ∷ row 10 (FullFirst m c)
    ∷ row 15 (length out < length (svg_text m c))
    ∷ [])

-- the call answers n exactly when row n applies and none before it does, and 0 exactly when none applies
abbrev pub SvgAnswersFirst : Type 0
SvgAnswersFirst = (m : ℕ) (c : Lists) (out : List ℕ) → AnswersFirst (svg_number m c out) (svg_rows m c out)

-- where nothing is refused the answer is how long the text is, and the list holds it in front and then what it held
abbrev pub SuccessWritesText : Type 0
SuccessWritesText =
    (m : ℕ) (c : Lists) (before : List ℕ) (answer : Result ℕ Refusal) (now : List ℕ) → SvgOutcome m c before answer now → svg_number m c before ≡ 0
    → (answer ≡ Ok (length (svg_text m c))) × ResultThenRest (svg_text m c) before now

-- a refusal answers its number and nothing else, and leaves the list as it was
abbrev pub RefusalWritesNothing : Type 0
RefusalWritesNothing =
    (m : ℕ) (c : Lists) (before : List ℕ) (answer : Result ℕ Refusal) (now : List ℕ) (n : ℕ) → SvgOutcome m c before answer now → svg_number m c before ≡ suc n
    → (number_in answer ≡ suc n) × (now ≡ before)
