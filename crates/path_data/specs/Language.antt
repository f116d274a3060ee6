-- How a language of texts is written down: by symbols, choice, one part behind another, and repetition, as grammars are. A text is the list of its bytes.
use Rattle.std.specs.Prelude.{List, [], ◌∷◌, ◌++◌, ◌⊎◌, ◌≡◌, ℕ, ◌≤◌}
use Prim.Native.Char.{Char, code}

abbrev pub Language : Type 1  -- which texts belong to it
Language = List ℕ → Type 0

abbrev pub symbol : Char → Language  -- "c"
symbol c text = text ≡ code c ∷ []

abbrev pub range : Char → Char → Language  -- [a-b]
range a b text = (byte : ℕ) × (text ≡ byte ∷ []) × (code a ≤ byte) × (byte ≤ code b)

infixr 20 ◌or◌
infixr 25 ◌then◌
abbrev pub ◌or◌ : Language → Language → Language  -- A | B
(A or B) text = A text ⊎ B text

abbrev pub ◌then◌ : Language → Language → Language  -- A B
(A then B) text = (front : List ℕ) × (back : List ℕ) × (text ≡ front ++ back) × A front × B back

abbrev pub optional : Language → Language  -- A?
optional A text = (text ≡ []) ⊎ A text

pub data many (A : Language) : List ℕ → Type 0 where  -- A*
  none : many A []
  more : (front back : List ℕ) → A front → many A back → many A (front ++ back)

abbrev pub some : Language → Language  -- A+
some A = A then many A
