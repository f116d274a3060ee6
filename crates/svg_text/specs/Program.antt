-- What the program is proved to write (heading "Out to SVG"), and what is promised of the text.
use Rattle.std.specs.Prelude.{List, ◌≡◌, ℕ, ◌+◌, ◌≤◌, ◌<◌, length, take}
use Rattle.curve.specs.Lists.{Lists}
use Rattle.grid.specs.Limits.{points_most, knots_most, record_most, svg_most}
use Rattle.fields.specs.Bytes.{Octets}
use Rattle.fault.specs.Fault.{Fault}
use Rattle.fault.specs.Kinds.{lone_records}
use Rattle.lines.specs.Lines.{broken_line}
use Rattle.svg_text.specs.Text.{SvgTextOf}

-- lists with places for the longest curve, and for the longest path data and its newline
pub record Places (lent : Lists) (text : List ℕ) : Type 0 where
  pub on_knots : length lent.knots ≡ knots_most
  pub on_x : length lent.xs ≡ points_most
  pub on_y : length lent.ys ≡ points_most
  pub on_text : svg_most < length text

-- the first n bytes of a list are the text
pub record TextInFront (bytes list : List ℕ) (n : ℕ) : Type 0 where
  pub within : n ≤ length list
  pub front : SvgTextOf bytes (take n list)

-- bytes have a text
abbrev pub SomeSvgText : Type 0
SomeSvgText = (bytes : List ℕ) → Octets bytes → (text : List ℕ) × SvgTextOf bytes text

-- and no other
abbrev pub OneSvgText : Type 0
OneSvgText = (bytes a b : List ℕ) → SvgTextOf bytes a → SvgTextOf bytes b → a ≡ b

-- that of bytes that are no record is one line, with the number and the place of their leftmost fault
abbrev pub BrokenRecordIsOneLine : Type 0
BrokenRecordIsOneLine =
    (bytes text : List ℕ) (number place : ℕ) → Fault lone_records bytes number place → SvgTextOf bytes text → text ≡ broken_line number place

-- bytes longer than the longest record have the text that their first bytes have, one more than that record's: the program reads no further
abbrev pub FrontTellsText : Type 0
FrontTellsText = (bytes text : List ℕ) → record_most < length bytes → SvgTextOf (take (record_most + 1) bytes) text → SvgTextOf bytes text
