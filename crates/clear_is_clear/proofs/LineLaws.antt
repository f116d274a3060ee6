-- The program's lines are lines, and "clamp K clear" is no other line than that.
use mathlib.Core.Bool.{Bool, true, false, not, cond}
use mathlib.Core.List.{List, [], ◌∷◌, ◌++◌, append_assoc}
use mathlib.Core.Path.{◌≡◌, refl, sym, ◌∙◌, ap}
use Prim.Native.Nat.{ℕ}
use native.Mathlib.Omega.{arith}
use lib.Dec.{eqb}
use lib.ListN.{get_or, drop}
use Rattle.refusal.proofs.JudgingLaws.{both}
use Rattle.digits.specs.Letters.{a, c, e, l, m, r, t, y, space, newline}
use Rattle.digits.specs.Decimal.{decimal}
use Rattle.digits.proofs.ValueLaws.{value_from, decimal-stands}
use Rattle.lines.specs.Lines.{clamp_word, curve_word, points_word, spans_word, meet_word, to_word, refused_word, clear_word, line_end, labelled, one_number, three_numbers, curve_line, meet_line, clear_line, refused_line}
use Rattle.clear_is_clear.specs.Clear.{lines_of}
use Rattle.clear_is_clear.proofs.SplitLaws.{without, without-both, decimal-without, line-alone, Whole, whole-line}

-- words and one newline, at the end
pub record IsLine (line : List ℕ) : Type 0 where
  pub words : List ℕ
  pub plain : without newline words ≡ true
  pub same : line ≡ words ++ line_end

pub line-whole : {line : List ℕ} → IsLine line → Whole line
line-whole w = rw w.same (whole-line w.words w.plain)

pub line-lines : {line : List ℕ} → IsLine line → lines_of line ≡ line ∷ []
line-lines w = rw w.same (line-alone w.words w.plain)

-- a word with its number
labelled_plain : (word : List ℕ) (number : ℕ) → without newline word ≡ true → without newline (labelled word number) ≡ true
labelled_plain word number h = without-both newline word (decimal number) h (decimal-without newline number (omega arith))

three-is-line : (first : List ℕ) (x : ℕ) (second : List ℕ) (y : ℕ) (third : List ℕ) (z : ℕ) → without newline first ≡ true → without newline second ≡ true → without newline third ≡ true
    → IsLine (three_numbers first x second y third z)
unfolding three_numbers
three-is-line first x second y third z f s t =
    record {
      words = labelled first x ++ labelled second y ++ labelled third z;
      plain =
          without-both newline (labelled first x ++ labelled second y) (labelled third z)
          (without-both newline (labelled first x) (labelled second y) (labelled_plain first x f) (labelled_plain second y s))
          (labelled_plain third z t);
      same = refl;
    }

pub curve-is-line : (degree points spans : ℕ) → IsLine (curve_line degree points spans)
unfolding without
curve-is-line degree points spans = three-is-line curve_word degree points_word points spans_word spans refl refl refl

pub meet-is-line : (k low high : ℕ) → IsLine (meet_line k low high)
unfolding without
meet-is-line k low high = three-is-line clamp_word k meet_word low to_word high refl refl refl

pub refused-is-line : (number : ℕ) → IsLine (refused_line number)
unfolding without one_number
refused-is-line number = record { words = labelled refused_word number; plain = labelled_plain refused_word number refl; same = refl }

pub clear-is-line : (k : ℕ) → IsLine (clear_line k)
unfolding without one_number
clear-is-line k =
    let rest = space ∷ c ∷ l ∷ e ∷ a ∷ r ∷ [] in
    record {
      words = labelled clamp_word k ++ rest;
      plain = without-both newline (labelled clamp_word k) rest (labelled_plain clamp_word k refl) refl;
      same = sym (append_assoc (labelled clamp_word k) rest line_end);
    }

-- what stands before the first space of a text, and what behind it
up_to_space : List ℕ → List ℕ
up_to_space [] = []
up_to_space (x ∷ xs) = cond (eqb x space) [] (x ∷ up_to_space xs)

behind_space : List ℕ → List ℕ
behind_space [] = []
behind_space (x ∷ xs) = cond (eqb x space) xs (behind_space xs)

other_sign : (b : Bool) → not b ≡ true → b ≡ false
other_sign true n = sym n
other_sign false n = refl

space-cut : (word rest : List ℕ) → without space word ≡ true → (up_to_space (word ++ (space ∷ rest)) ≡ word) × (behind_space (word ++ (space ∷ rest)) ≡ rest)
unfolding up_to_space behind_space without
space-cut [] rest h = (refl, refl)
space-cut (x ∷ word) rest h =
    let e = both (not (eqb x space)) (without space word) h in
    let next = space-cut word rest e.1 in
    let other = other_sign (eqb x space) e.0 in
    (rw (other, next.0), rw other next.1)

-- numbers with the same digits are the same
decimal-once : (j k : ℕ) → decimal j ≡ decimal k → j ≡ k
decimal-once j k h = sym (decimal-stands j).value ∙ ap (value_from 0) h ∙ (decimal-stands k).value

-- a clamp's number ends at a space, so texts that begin alike have the same number, and then go on alike
numbered-once : (j k : ℕ) (x y : List ℕ) → clamp_word ++ (decimal j ++ (space ∷ x)) ≡ clamp_word ++ (decimal k ++ (space ∷ y)) → (j ≡ k) × (x ≡ y)
numbered-once j k x y h =
    let behind : decimal j ++ (space ∷ x) ≡ decimal k ++ (space ∷ y) = ap (drop 6) h in
    let one = space-cut (decimal j) x (decimal-without space j (omega arith)) in
    let two = space-cut (decimal k) y (decimal-without space k (omega arith)) in
    (decimal-once j k (sym one.0 ∙ ap up_to_space behind ∙ two.0), sym one.1 ∙ ap behind_space behind ∙ two.1)

clear-shape : (k : ℕ) → clear_line k ≡ clamp_word ++ (decimal k ++ (space ∷ c ∷ l ∷ e ∷ a ∷ r ∷ newline ∷ []))
unfolding one_number
clear-shape k = append_assoc clamp_word (decimal k) clear_word

grouped : (f x s y t z end rest : List ℕ) → (f ++ x ++ (s ++ y) ++ (t ++ z) ++ end) ++ rest ≡ f ++ (x ++ (s ++ (y ++ (t ++ (z ++ (end ++ rest))))))
grouped f x s y t z end rest = simp append_assoc

meet_shape : (k low high : ℕ) (rest : List ℕ)
    → meet_line k low high ++ rest ≡ clamp_word ++ (decimal k ++ (space ∷ m ∷ a ∷ y ∷ space ∷ m ∷ e ∷ e ∷ t ∷ space ∷ (decimal low ++ (to_word ++ (decimal high ++ (line_end ++ rest))))))
unfolding three_numbers
meet_shape k low high rest = grouped clamp_word (decimal k) meet_word (decimal low) to_word (decimal high) line_end rest

-- the line that a clamp is clear has one number
pub clear-once : (j k : ℕ) → clear_line j ≡ clear_line k → j ≡ k
clear-once j k h = (numbered-once j k _ _ (sym (clear-shape j) ∙ h ∙ clear-shape k)).0

-- and begins no text that begins with a line on a span, on a curve or on a refusal
pub meet-not-clear : (j low high : ℕ) (rest : List ℕ) (k : ℕ) → meet_line j low high ++ rest ≡ clear_line k → ⊥
meet-not-clear j low high rest k h =
    let same = (numbered-once j k _ _ (sym (meet_shape j low high rest) ∙ h ∙ clear-shape k)).1 in
    let letter : m ≡ c = ap (λ (line : List ℕ). get_or line 0 0) same in
    omega (arith, letter)

pub curve-not-clear : (degree points spans k : ℕ) → curve_line degree points spans ≡ clear_line k → ⊥
unfolding one_number three_numbers
curve-not-clear degree points spans k h =
    let letter : get_or (curve_line degree points spans) 1 0 ≡ get_or (clear_line k) 1 0 = ap (λ (line : List ℕ). get_or line 1 0) h in
    omega (arith, letter)

pub refused-not-clear : (number k : ℕ) → refused_line number ≡ clear_line k → ⊥
unfolding one_number
refused-not-clear number k h =
    let letter : get_or (refused_line number) 0 0 ≡ get_or (clear_line k) 0 0 = ap (λ (line : List ℕ). get_or line 0 0) h in
    omega (arith, letter)
