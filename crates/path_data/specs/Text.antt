-- The text of path data (heading "Out to SVG"): "M x y", then for each piece " L x y", " Q x y x y" or " C x y x y x y" by its degree.
use Rattle.std.specs.Prelude.{cond, List, [], ◌∷◌, ◌++◌, ℕ, zero, suc, eqb, ℤ, pos, negsuc}
use Rattle.digits.specs.Letters.{space}
use Rattle.digits.specs.Decimal.{decimal}
use Rattle.insertion.specs.Insertion.{point_at}
use Rattle.cutting.specs.declared.Piece.{Piece}
use Rattle.path_data.specs.Letters.{move_letter, line_letter, quadratic_letter, cubic_letter, minus_sign}

-- a whole number: its digits, behind a minus sign where it is below zero; no plus sign
abbrev pub number_text : ℤ → List ℕ
number_text (pos n) = decimal n
number_text (negsuc n) = minus_sign ∷ decimal (suc n)

abbrev pub spaced_text : ℤ → List ℕ  -- a single space and the number
spaced_text z = space ∷ number_text z

abbrev pub pair_text : ℤ → ℤ → List ℕ  -- " x y"
pair_text x y = spaced_text x ++ spaced_text y

unfoldable pub pairs_text : List ℤ → List ℤ → ℕ → ℕ → List ℕ  -- " x y" for each of `count` points from point a on
pairs_text xs ys a zero = []
pairs_text xs ys a (suc count) = pair_text (point_at xs a) (point_at ys a) ++ pairs_text xs ys (suc a) count

abbrev pub letter_of : ℕ → ℕ  -- the command of a degree: a line, a quadratic or a cubic
letter_of m = cond (eqb m 1) line_letter (cond (eqb m 2) quadratic_letter cubic_letter)

-- one piece: its command and the points behind its first
unfoldable pub segment_text : ℕ → Piece → List ℕ
segment_text m p = space ∷ letter_of m ∷ pairs_text p.xs p.ys 1 m

unfoldable pub segments_text : ℕ → List Piece → List ℕ  -- one piece after the other
segments_text m [] = []
segments_text m (p ∷ ps) = segment_text m p ++ segments_text m ps

unfoldable pub move_text : Piece → List ℕ  -- "M x y": to the first point of the first piece
move_text p = move_letter ∷ pair_text (point_at p.xs 0) (point_at p.ys 0)

unfoldable pub path_text : ℕ → List Piece → List ℕ  -- the whole; a curve has at least one piece
path_text m [] = []
path_text m (p ∷ ps) = move_text p ++ segments_text m (p ∷ ps)

-- what piece k adds to the text: the first has the move to its start before it
unfoldable pub part_text : ℕ → ℕ → Piece → List ℕ
part_text m k p = cond (eqb k 0) (move_text p ++ segment_text m p) (segment_text m p)
