-- What is promised of the path data of a curve that is not refused (heading "Out to SVG"): its grammar, and how long it is at most.
use Rattle.std.specs.Prelude.{◌≡◌, ℕ, ◌≤◌, length}
use Rattle.refusal.specs.Numbers.{accepted}
use Rattle.curve.specs.Lists.{Lists}
use Rattle.grid.specs.Limits.{svg_most}
use Rattle.path_data.specs.Grammar.{svg_path}
use Rattle.svg_out.specs.Svg.{svg_text, draw_number}

-- it is of the grammar
abbrev pub SvgIsPathData : Type 0
SvgIsPathData = (m : ℕ) (c : Lists) → draw_number m c ≡ accepted → svg_path (svg_text m c)

-- no curve's is longer than the longest
abbrev pub SvgWithinMost : Type 0
SvgWithinMost = (m : ℕ) (c : Lists) → draw_number m c ≡ accepted → length (svg_text m c) ≤ svg_most

-- and some curve's is as long
abbrev pub SvgMostReached : Type 0
SvgMostReached = (m : ℕ) × (c : Lists) × (draw_number m c ≡ accepted) × (length (svg_text m c) ≡ svg_most)
