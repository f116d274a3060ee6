-- How long lines can be.
use mathlib.Core.List.{List, [], ◌∷◌, ◌++◌}
use mathlib.Core.Path.{◌≡◌}
use Prim.Native.Nat.{ℕ, suc, ◌+◌, ◌*◌, ◌^◌, ◌≤◌, ◌<◌}
use native.Mathlib.Omega.{arith}
use lib.ListN.{length, get_or, length-append}
use Rattle.digits.specs.Decimal.{decimal}
use Rattle.lines.specs.Lines.{labelled, one_number, two_numbers, three_numbers, curve_word, points_word, spans_word, clamp_word, meet_word, to_word, clear_word, refused_word, at_word, line_end, curve_line, meet_line, clear_line, refused_line, broken_line, meet_lines}
use Rattle.digits.proofs.DecimalLaws.{decimal-short}

-- a word and its number
labelled-length : (word : List ℕ) (number : ℕ) → length (labelled word number) ≡ length word + length (decimal number)
labelled-length word number = length-append word (decimal number)

-- four texts in a row
four-length : (x y z w : List ℕ) → length (x ++ y ++ z ++ w) ≡ length x + length y + length z + length w
four-length x y z w = simp length-append

-- lines of one number and of three
one_number-length : (word : List ℕ) (number : ℕ) (end : List ℕ) → length (one_number word number end) ≡ length word + length (decimal number) + length end
unfolding one_number
one_number-length word number end = omega (arith, length-append (labelled word number) end, labelled-length word number)

three_numbers-length : (first : List ℕ) (x : ℕ) (second : List ℕ) (y : ℕ) (third : List ℕ) (z : ℕ)
    → length (three_numbers first x second y third z) ≡ length first + length (decimal x) + length second + length (decimal y) + length third + length (decimal z) + 1
unfolding three_numbers
three_numbers-length first x second y third z =
    omega (arith, four-length (labelled first x) (labelled second y) (labelled third z) line_end, labelled-length first x, labelled-length second y, labelled-length third z)

-- "curve degree 4294967295 points 1024 spans 1024"
pub curve_line-most : (m points spans : ℕ) → m < 10 ^ 10 → points < 10 ^ 4 → spans < 10 ^ 4 → length (curve_line m points spans) ≤ 47
curve_line-most m points spans h j k =
    omega (arith, three_numbers-length curve_word m points_word points spans_word spans, decimal-short 9 m h, decimal-short 3 points j, decimal-short 3 spans k)

-- "clamp 64 may meet 16382..16383"
pub meet_line-most : (k low high : ℕ) → k < 10 ^ 2 → low < 10 ^ 5 → high < 10 ^ 5 → length (meet_line k low high) ≤ 31
meet_line-most k low high h i j =
    omega (arith, three_numbers-length clamp_word k meet_word low to_word high, decimal-short 1 k h, decimal-short 4 low i, decimal-short 4 high j)

-- "clamp 64 clear"
pub clear_line-most : (k : ℕ) → k < 10 ^ 2 → length (clear_line k) ≤ 31
clear_line-most k h = omega (arith, one_number-length clamp_word k clear_word, decimal-short 1 k h)

-- "refused 4294967295"
pub refused_line-most : (number : ℕ) → number < 10 ^ 10 → length (refused_line number) ≤ 19
refused_line-most number h = omega (arith, one_number-length refused_word number line_end, decimal-short 9 number h)

-- "refused 4294967295 at 4294967295"
pub broken_line-most : (number place : ℕ) → number < 10 ^ 10 → place < 10 ^ 10 → length (broken_line number place) ≤ 33
unfolding two_numbers
broken_line-most number place h k =
    omega (
      arith,
      length-append (labelled refused_word number) (one_number at_word place line_end),
      labelled-length refused_word number,
      one_number-length at_word place line_end,
      decimal-short 9 number h,
      decimal-short 9 place k,
    )

-- all lines on a clamp, 31 bytes each
pub meet_lines-most : (k : ℕ) (lows highs : List ℕ) → k < 10 ^ 2 → ((i : ℕ) → get_or lows i 0 < 10 ^ 5) → ((i : ℕ) → get_or highs i 0 < 10 ^ 5) → length (meet_lines k lows highs) ≤ 31 * length lows
unfolding meet_lines
meet_lines-most k [] highs h i j = omega arith
meet_lines-most k (low ∷ lows) [] h i j = omega arith
meet_lines-most k (low ∷ lows) (high ∷ highs) h i j =
    omega (arith, length-append (meet_line k low high) (meet_lines k lows highs), meet_line-most k low high h (i 0) (j 0), meet_lines-most k lows highs h (λ n. i (suc n)) (λ n. j (suc n)))
