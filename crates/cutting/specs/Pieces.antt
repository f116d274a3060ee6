-- The pieces of a curve (heading "Out to SVG"): one for each span that is not empty, with its two knots and its m + 1 points.
use Rattle.std.specs.Prelude.{cond, List, ℕ, ◌+◌, ◌*◌, leb, ℤ, pos, length, get_or}
use Rattle.curve.specs.Lists.{Lists}
use Rattle.insertion.specs.Insertion.{point_at, entries}
use Rattle.span_walk.specs.SpansMet.{span_count}
use Rattle.cutting.specs.Cutting.{cut}
use Rattle.cutting.specs.declared.Piece.{Piece}

-- the m + 1 coordinates from `first` on, and zeros in what is left of four places
unfoldable pub four_from : ℕ → List ℤ → ℕ → List ℤ
four_from m ps first = entries (λ a. cond (leb a m) (point_at ps (first + a)) (pos 0)) 4

-- piece k of the curve d, whose inner knots stand m times each: it begins behind m + 1 knots of the left end and m of each value between
unfoldable pub piece_of : ℕ → Lists → ℕ → Piece
piece_of m d k =
    record {
      low = get_or d.knots (k * m + m) 0;
      high = get_or d.knots (k * m + m + 1) 0;
      xs = four_from m d.xs (k * m);
      ys = four_from m d.ys (k * m);
    }

abbrev pub piece_count : ℕ → Lists → ℕ  -- as many as there are spans that are not empty
piece_count m c = span_count m c.knots (length c.xs)

unfoldable pub pieces : ℕ → Lists → List Piece  -- all pieces of a curve, from left to right
pieces m c = entries (piece_of m (cut m c)) (piece_count m c)
