-- Row 14 of the heading "Numbers of refusal" for a job, as a sentence over all clamps.
use Rattle.std.specs.Prelude.{List, ℕ, ◌<◌, length, get_or}
use Rattle.checked.specs.Sentences.{RectangleWrong}
use Rattle.clamps.specs.Clamp.{Clamp, no_clamp}

-- a clamp is a wrong rectangle
abbrev pub ClampWrong : Clamp → Type 0
ClampWrong c = RectangleWrong c.low_x c.high_x c.low_y c.high_y

-- row 14: some clamp is
abbrev pub SomeClampWrong : List Clamp → Type 0
SomeClampWrong cs = (k : ℕ) × (k < length cs) × ClampWrong (get_or cs k no_clamp)
