-- Texts put together from texts of a language.
use mathlib.Core.List.{List, [], ◌++◌, append_assoc, append-nil}
use mathlib.Core.Path.{refl, sym, ◌∙◌, ap}
use Prim.Native.Nat.{ℕ}
use Rattle.path_data.specs.Language.{Language, ◌then◌, many, none, more, some}

-- one text behind another
pub joined : {A B : Language} (front back : List ℕ) → A front → B back → (A then B) (front ++ back)
joined front back a b = (front, back, refl, a, b)

module _ {A : Language} where
  -- one alone
  pub many-one : (text : List ℕ) → A text → many A text
  many-one text a = let alone : many A (text ++ []) = more text [] a none in rw append-nil at alone

  pub some_one : (text : List ℕ) → A text → some A text
  some_one text a = (text, [], sym (append-nil text), a, none)

  -- one more at the end
  many-last : {texts : List ℕ} (text : List ℕ) → many A texts → A text → many A (texts ++ text)
  many-last text none a = many-one text a
  many-last text (more front back b rest) a = rw append_assoc (more front (back ++ text) b (many-last text rest a))

  pub some-last : (texts text : List ℕ) → some A texts → A text → some A (texts ++ text)
  some-last texts text s a =
      (s.0, s.1 ++ text, ap (λ (l : List ℕ). l ++ text) s.2 ∙ append_assoc s.0 s.1 text, s.3, many-last text s.4 a)
