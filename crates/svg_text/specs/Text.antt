-- The text that `curvesvg` prints on some bytes (heading "Out to SVG"), by what the bytes are and with no word of a reader.
use Rattle.std.specs.Prelude.{cond, List, ◌++◌, ◌≡◌, ℕ, eqb}
use Rattle.refusal.specs.Numbers.{accepted}
use Rattle.curve.specs.Lists.{Lists}
use Rattle.format.specs.Format.{form1, IsRecord}
use Rattle.fault.specs.Fault.{Fault}
use Rattle.fault.specs.Kinds.{lone_records}
use Rattle.lines.specs.Lines.{line_end, refused_line, broken_line}
use Rattle.svg_out.specs.Svg.{svg_text, draw_number}

-- a curve's text: its path data and a newline, or the line on its refusal, by 1 to 7, 10 or 11
unfoldable pub drawn_text : ℕ → Lists → List ℕ
drawn_text m c = cond (eqb (draw_number m c) accepted) (svg_text m c ++ line_end) (refused_line (draw_number m c))

-- the text of some bytes: that of the curve whose record they are, or of their leftmost fault where they are nobody's
pub data SvgTextOf (bytes text : List ℕ) : Type 0 where
  is_record : (w : IsRecord form1 bytes) → text ≡ drawn_text w.m w.c → SvgTextOf bytes text
  is_broken : {number place : ℕ} → Fault lone_records bytes number place → text ≡ broken_line number place → SvgTextOf bytes text
