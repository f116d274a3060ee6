-- Where a text is cut into lines: a line has one newline, at its end.
use mathlib.Core.Bool.{Bool, true, false, not, cond, ◌&&◌}
use mathlib.Core.List.{List, [], ◌∷◌, ◌++◌, append_assoc, append-nil}
use mathlib.Core.Path.{◌≡◌, refl, sym, ◌∙◌, ap}
use Prim.Native.Nat.{ℕ, zero, suc, ◌/◌, ◌%◌, ◌<◌}
use native.Mathlib.Omega.{arith}
use lib.Dec.{eqb, ltb}
use borrow.Author.Tests.{ne_eqb}
use Rattle.refusal.proofs.JudgingLaws.{both}
use Rattle.digits.specs.Letters.{newline, digit}
use Rattle.digits.specs.Decimal.{decimal, digits_of}
use Rattle.lines.specs.Lines.{line_end}
use Rattle.clear_is_clear.specs.Clear.{in_front, lines_of, Among, first, later}

-- a sign does not stand in a list
unfoldable pub without : ℕ → List ℕ → Bool
without sign [] = true
without sign (x ∷ xs) = not (eqb x sign) && without sign xs

pub without-both : (sign : ℕ) (a b : List ℕ) → without sign a ≡ true → without sign b ≡ true → without sign (a ++ b) ≡ true
unfolding without
without-both sign [] b h k = k
without-both sign (x ∷ a) b h k =
    let e = both (not (eqb x sign)) (without sign a) h in
    rw e.0 (without-both sign a b e.1 k)

-- no sign below the digits stands among the digits of a number
digits-without : (sign most n : ℕ) → sign < 48 → without sign (digits_of most n) ≡ true
unfolding without digits_of
digits-without sign zero n h = refl
digits-without sign (suc most) n h = by (digits-without sign most (n / 10) h) (ltb n 10)
  where
    by : without sign (digits_of most (n / 10)) ≡ true → (t : Bool) → without sign (cond t (digit n ∷ []) (digits_of most (n / 10) ++ (digit (n % 10) ∷ []))) ≡ true
    by tenth true = rw (ne_eqb (digit n) sign (λ e. omega arith))
    by tenth false = without-both sign (digits_of most (n / 10)) (digit (n % 10) ∷ []) tenth (rw (ne_eqb (digit (n % 10)) sign (λ e. omega arith)))

pub decimal-without : (sign n : ℕ) → sign < 48 → without sign (decimal n) ≡ true
unfolding decimal
decimal-without sign n h = digits-without sign (suc n) n h

-- a line in front of a text is its first line
pub line_first : (words rest : List ℕ) → without newline words ≡ true → lines_of ((words ++ line_end) ++ rest) ≡ (words ++ line_end) ∷ lines_of rest
unfolding lines_of in_front without
line_first [] rest h = refl
line_first (x ∷ words) rest h =
    let e = both (not (eqb x newline)) (without newline words) h in
    let other : eqb x newline ≡ false = by (eqb x newline) e.0 in
    rw (other, line_first words rest e.1)
  where
    by : (t : Bool) → not t ≡ true → t ≡ false
    by true n = sym n
    by false n = refl

-- a text of whole lines: what follows it begins a line of its own
abbrev pub Whole : List ℕ → Type 0
Whole text = (rest : List ℕ) → lines_of (text ++ rest) ≡ lines_of text ++ lines_of rest

pub whole-none : Whole []
unfolding lines_of
whole-none rest = refl

-- a line by itself is its only line
pub line-alone : (words : List ℕ) → without newline words ≡ true → lines_of (words ++ line_end) ≡ (words ++ line_end) ∷ []
unfolding lines_of
line-alone words h = sym (ap lines_of (append-nil (words ++ line_end))) ∙ line_first words [] h

pub whole-line : (words : List ℕ) → without newline words ≡ true → Whole (words ++ line_end)
whole-line words h rest = line_first words rest h ∙ rw (line-alone words h)

-- one text behind another
pub whole-both : (a b : List ℕ) → Whole a → Whole b → Whole (a ++ b)
whole-both a b h k rest =
    ap lines_of (append_assoc a b rest)
    ∙ h (b ++ rest)
    ∙ ap (λ (ls : List (List ℕ)). lines_of a ++ ls) (k rest)
    ∙ sym (append_assoc (lines_of a) (lines_of b) (lines_of rest))
    ∙ ap (λ (ls : List (List ℕ)). ls ++ lines_of rest) (sym (h b))

-- a line of one list behind another
pub data Either (A B : Type 0) : Type 0 where
  in_first : A → Either A B
  in_second : B → Either A B

pub among-either : (line : List ℕ) (a b : List (List ℕ)) → Among line (a ++ b) → Either (Among line a) (Among line b)
among-either line [] b h = in_second h
among-either line (x ∷ a) b (first rest) = in_first (first a)
among-either line (x ∷ a) b (later other rest h) = by (among-either line a b h)
  where
    by : Either (Among line a) (Among line b) → Either (Among line (x ∷ a)) (Among line b)
    by (in_first g) = in_first (later x a g)
    by (in_second g) = in_second g

pub among_first : (line : List ℕ) (a b : List (List ℕ)) → Among line a → Among line (a ++ b)
among_first line (x ∷ a) b (first rest) = first (a ++ b)
among_first line (x ∷ a) b (later other rest h) = later x (a ++ b) (among_first line a b h)
among_first line [] b x' = elim x' [ ]

pub among_second : (line : List ℕ) (a b : List (List ℕ)) → Among line b → Among line (a ++ b)
among_second line [] b h = h
among_second line (x ∷ a) b h = later x (a ++ b) (among_second line a b h)
