-- The lines that the program prints (heading "`clampcheck`"); each ends in a newline.
use Rattle.std.specs.Prelude.{List, [], ◌∷◌, ◌++◌, ℕ}
use Rattle.digits.specs.Letters.{a, c, d, e, f, g, i, l, m, n, o, p, r, s, t, u, v, y, space, dot, newline}
use Rattle.digits.specs.Decimal.{decimal}

-- "curve degree "
abbrev pub curve_word : List ℕ
curve_word = c ∷ u ∷ r ∷ v ∷ e ∷ space ∷ d ∷ e ∷ g ∷ r ∷ e ∷ e ∷ space ∷ []

-- " points "
abbrev pub points_word : List ℕ
points_word = space ∷ p ∷ o ∷ i ∷ n ∷ t ∷ s ∷ space ∷ []

-- " spans "
abbrev pub spans_word : List ℕ
spans_word = space ∷ s ∷ p ∷ a ∷ n ∷ s ∷ space ∷ []

-- "clamp "
abbrev pub clamp_word : List ℕ
clamp_word = c ∷ l ∷ a ∷ m ∷ p ∷ space ∷ []

-- " may meet "
abbrev pub meet_word : List ℕ
meet_word = space ∷ m ∷ a ∷ y ∷ space ∷ m ∷ e ∷ e ∷ t ∷ space ∷ []

-- ".."
abbrev pub to_word : List ℕ
to_word = dot ∷ dot ∷ []

-- " clear" and the end of the line
abbrev pub clear_word : List ℕ
clear_word = space ∷ c ∷ l ∷ e ∷ a ∷ r ∷ newline ∷ []

-- "refused "
abbrev pub refused_word : List ℕ
refused_word = r ∷ e ∷ f ∷ u ∷ s ∷ e ∷ d ∷ space ∷ []

-- " at "
abbrev pub at_word : List ℕ
at_word = space ∷ a ∷ t ∷ space ∷ []

-- the end of a line
abbrev pub line_end : List ℕ
line_end = newline ∷ []

-- a word and the number behind it
abbrev pub labelled : List ℕ → ℕ → List ℕ
labelled word number = word ++ decimal number

-- a line of one number, and what stands behind it
unfoldable pub one_number : List ℕ → ℕ → List ℕ → List ℕ
one_number word number end = labelled word number ++ end

-- a line of two numbers, each behind its word, and what stands behind them
unfoldable pub two_numbers : List ℕ → ℕ → List ℕ → ℕ → List ℕ → List ℕ
two_numbers first x second y end = labelled first x ++ one_number second y end

-- a line of three numbers, each behind its word
unfoldable pub three_numbers : List ℕ → ℕ → List ℕ → ℕ → List ℕ → ℕ → List ℕ
three_numbers first x second y third z = labelled first x ++ labelled second y ++ labelled third z ++ line_end

-- "curve degree D points P spans S"
abbrev pub curve_line : ℕ → ℕ → ℕ → List ℕ
curve_line degree points spans = three_numbers curve_word degree points_word points spans_word spans

-- "clamp K may meet LOW..HIGH"
abbrev pub meet_line : ℕ → ℕ → ℕ → List ℕ
meet_line k low high = three_numbers clamp_word k meet_word low to_word high

-- "clamp K clear"
abbrev pub clear_line : ℕ → List ℕ
clear_line k = one_number clamp_word k clear_word

-- "refused N"
abbrev pub refused_line : ℕ → List ℕ
refused_line number = one_number refused_word number line_end

-- "refused N at P"
abbrev pub broken_line : ℕ → ℕ → List ℕ
broken_line number place = two_numbers refused_word number at_word place line_end

-- one line for each listed span, whose two knots stand at the same place of the two lists
unfoldable pub meet_lines : ℕ → List ℕ → List ℕ → List ℕ
meet_lines k [] highs = []
meet_lines k (low ∷ lows) [] = []
meet_lines k (low ∷ lows) (high ∷ highs) = meet_line k low high ++ meet_lines k lows highs

-- all that is printed of a clamp: its listed spans, or that it is clear
unfoldable pub clamp_text : ℕ → List ℕ → List ℕ → List ℕ
clamp_text k [] highs = clear_line k
clamp_text k (low ∷ lows) highs = meet_lines k (low ∷ lows) highs
