-- How long a part of the text can be.
use Rattle.std.specs.Prelude.{ℕ, ◌-◌, ◌*◌}
use Rattle.grid.specs.Limits.{points_most}

-- the most spans of a curve: at degree 1
abbrev pub spans_most : ℕ
spans_most = points_most - 1

-- bytes of "clamp 64 may meet 16382..16383" and its newline
abbrev pub clamp_line_most : ℕ
clamp_line_most = 31

-- bytes of the longest part: such a line for each span
abbrev pub text_most : ℕ
text_most = clamp_line_most * spans_most
