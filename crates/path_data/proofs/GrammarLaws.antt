-- The text of path data is of the grammar: it is built up production by production.
use mathlib.Core.Bool.{Bool, true, false}
use mathlib.Core.List.{List, [], ◌∷◌, ◌++◌, append-nil}
use mathlib.Core.Logic.{inl, inr}
use mathlib.Core.Path.{◌≡◌, refl}
use Prim.Native.Nat.{ℕ, zero, suc, ◌/◌, ◌%◌, ◌≤◌, ◌<◌}
use native.Mathlib.Omega.{arith}
use lib.Dec.{ltb}
use lib.IntN.{ℤ, pos, negsuc}
use borrow.Author.Tests.{ltb-true, ltb-false}
use Rattle.digits.specs.Letters.{space, digit}
use Rattle.digits.specs.Decimal.{decimal}
use Rattle.digits.proofs.DecimalLaws.{decimal-one, decimal-more}
use Rattle.insertion.specs.Insertion.{point_at}
use Rattle.cutting.specs.declared.Piece.{Piece}
use Rattle.path_data.specs.Letters.{minus_sign, move_letter}
use Rattle.path_data.specs.Text.{number_text, pairs_text, letter_of, segment_text, segments_text, move_text, path_text}
use Rattle.path_data.specs.Language.{Language, range, ◌then◌, many, none, more}
use Rattle.path_data.specs.Grammar.{wsp, comma_wsp, number, coordinate, coordinate_pair, moveto, lineto, quadratic_bezier_curveto, curveto, drawto_command}
use Rattle.path_data.specs.Sentences.{TextIsPathData}
use Rattle.path_data.proofs.LanguageLaws.{joined, many-one, some_one, some-last}

-- a digit
digit-is-digit : (n : ℕ) → n < 10 → range "0" "9" (digit n ∷ [])
digit-is-digit n h = (digit n, refl, omega arith, omega arith)

-- the digits of n are a number; `most` only lets it end
digits-are-number : (most n : ℕ) → n < most → number (decimal n)
digits-are-number zero n h = absurd (omega arith)
digits-are-number (suc most) n h =
    by (λ (e : 10 ≤ n). digits-are-number most (n / 10) (omega arith)) (ltb n 10) refl
  where
    by : (10 ≤ n → number (decimal (n / 10))) → (t : Bool) → ltb n 10 ≡ t → number (decimal n)
    by tenth true e =
        let small = ltb-true n 10 e in
        rw (decimal-one n small) (some_one (digit n ∷ []) (digit-is-digit n small))
    by tenth false e =
        let large = ltb-false n 10 e in
        rw (decimal-more n large) (some-last (decimal (n / 10)) (digit (n % 10) ∷ []) (tenth large) (digit-is-digit (n % 10) (omega arith)))

pub decimal-is-number : (n : ℕ) → number (decimal n)
decimal-is-number n = digits-are-number (suc n) n (omega arith)

-- the text of a whole number is a coordinate
number_text-is-coordinate : (z : ℤ) → coordinate (number_text z)
number_text-is-coordinate (pos n) = joined [] (decimal n) (inl refl) (decimal-is-number n)
number_text-is-coordinate (negsuc n) = joined (minus_sign ∷ []) (decimal (suc n)) (inr (inr refl)) (decimal-is-number (suc n))

-- a space, as what may stand in front of a command and as what stands between two numbers
space-is-wsp : wsp (space ∷ [])
space-is-wsp = inr (inl refl)

space-in-front : many wsp (space ∷ [])
space-in-front = many-one (space ∷ []) space-is-wsp

space-between : comma_wsp (space ∷ [])
space-between = inl (joined (space ∷ []) [] (some_one (space ∷ []) space-is-wsp) (joined [] [] (inl refl) none))

-- a text, a space and a text
spaced : {A B : Language} (front back : List ℕ) → A front → B back → (A then comma_wsp then B) (front ++ (space ∷ back))
spaced front back a b = joined front (space ∷ back) a (joined (space ∷ []) back space-between b)

-- "x y"
abbrev pair : ℤ → ℤ → List ℕ
pair x y = number_text x ++ (space ∷ number_text y)

pair-is-pair : (x y : ℤ) → coordinate_pair (pair x y)
pair-is-pair x y = spaced (number_text x) (number_text y) (number_text-is-coordinate x) (number_text-is-coordinate y)

-- a letter, a space and what the letter takes
behind : {A B : Language} (letter : ℕ) (text : List ℕ) → A (letter ∷ []) → B text → (A then many wsp then B) (letter ∷ space ∷ text)
behind letter text a b = joined (letter ∷ []) (space ∷ text) a (joined (space ∷ []) text space-in-front b)

module _ (p : Piece) where
  abbrev point : ℕ → List ℕ
  point a = pair (point_at p.xs a) (point_at p.ys a)

  point-is-pair : (a : ℕ) → coordinate_pair (point a)
  point-is-pair a = pair-is-pair (point_at p.xs a) (point_at p.ys a)

  -- the command of a piece
  line-is-command : lineto (letter_of 1 ∷ pairs_text p.xs p.ys 1 1)
  unfolding pairs_text
  line-is-command = rw append-nil (behind (letter_of 1) (point 1) refl (point-is-pair 1))

  quadratic-is-command : quadratic_bezier_curveto (letter_of 2 ∷ pairs_text p.xs p.ys 1 2)
  unfolding pairs_text
  quadratic-is-command =
      rw append-nil (behind (letter_of 2) (point 1 ++ (space ∷ point 2)) refl (spaced (point 1) (point 2) (point-is-pair 1) (point-is-pair 2)))

  cubic-is-command : curveto (letter_of 3 ∷ pairs_text p.xs p.ys 1 3)
  unfolding pairs_text
  cubic-is-command =
      rw append-nil
      (behind (letter_of 3) (point 1 ++ (space ∷ (point 2 ++ (space ∷ point 3)))) refl
      (spaced (point 1) (point 2 ++ (space ∷ point 3)) (point-is-pair 1) (spaced (point 2) (point 3) (point-is-pair 2) (point-is-pair 3))))

  segment-is-command : (m : ℕ) → 1 ≤ m → m ≤ 3 → drawto_command (letter_of m ∷ pairs_text p.xs p.ys 1 m)
  segment-is-command zero h k = absurd (omega arith)
  segment-is-command (suc zero) h k = inl line-is-command
  segment-is-command (suc (suc zero)) h k = inr (inl quadratic-is-command)
  segment-is-command (suc (suc (suc zero))) h k = inr (inr cubic-is-command)
  segment-is-command (suc (suc (suc (suc m)))) h k = absurd (omega arith)

  move-is-command : moveto (move_text p)
  unfolding move_text
  move-is-command = behind move_letter (point 0) refl (point-is-pair 0)

module _ (m : ℕ) (h : 1 ≤ m) (k : m ≤ 3) where
  -- one piece, and one behind the other
  segment_text-is-command : (p : Piece) → (many wsp then drawto_command) (segment_text m p)
  unfolding segment_text
  segment_text-is-command p = joined (space ∷ []) (letter_of m ∷ pairs_text p.xs p.ys 1 m) space-in-front (segment-is-command p m h k)

  segments_text-are-commands : (ps : List Piece) → many (many wsp then drawto_command) (segments_text m ps)
  unfolding segments_text
  segments_text-are-commands [] = none
  segments_text-are-commands (p ∷ ps) = more (segment_text m p) (segments_text m ps) (segment_text-is-command p) (segments_text-are-commands ps)

pub text-is-path-data : TextIsPathData
unfolding path_text
text-is-path-data m p ps h k =
    joined [] (path_text m (p ∷ ps)) none
    (joined (move_text p) (segments_text m (p ∷ ps)) (move-is-command p) (segments_text-are-commands m h k (p ∷ ps)))
