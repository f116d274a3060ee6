-- Closed cases of path data, worked by hand and written in quotes.
use mathlib.Core.List.{List, [], ◌∷◌, ◌++◌}
use mathlib.Core.Path.{◌≡◌, refl, sym, ◌∙◌, ap}
use mathlib.Core.Logic.{inl, inr}
use Prim.Native.Char.{code}
use Prim.Native.Nat.{ℕ}
use native.Mathlib.Omega.{arith}
use lib.IntN.{ℤ, pos, negsuc}
use lib.ListN.{get_or}
use Rattle.digits.specs.Decimal.{digits_of, decimal}
use Rattle.digits.specs.Quoted.{quoted}
use Rattle.grid.specs.Limits.{svg_most}
use Rattle.path_data.specs.Text.{pairs_text, segment_text, segments_text, move_text, path_text}
use Rattle.path_data.specs.Language.{many, none, more}
use Rattle.path_data.specs.Grammar.{wsp, svg_path}

-- four places of a piece
abbrev four : ℤ → ℤ → ℤ → ℤ → List ℤ
four a b c d = a ∷ b ∷ c ∷ d ∷ []

-- points (0,0) (0,8) (8,8) (8,0) of degree 3
cubic-written :
    path_text 3 (record { low = 0; high = 4; xs = four (pos 0) (pos 0) (pos 8) (pos 8); ys = four (pos 0) (pos 8) (pos 8) (pos 0) } ∷ [])
    ≡ quoted "M 0 0 C 0 8 8 8 8 0"
unfolding path_text move_text segments_text segment_text pairs_text decimal digits_of
cubic-written = refl

-- points (0,0) (4,8) (8,8) (12,0) of degree 2, cut at 2
quadratics-written :
    path_text 2 (record { low = 0; high = 2; xs = four (pos 0) (pos 4) (pos 6) (pos 0); ys = four (pos 0) (pos 8) (pos 8) (pos 0) }
    ∷ record { low = 2; high = 4; xs = four (pos 6) (pos 8) (pos 12) (pos 0); ys = four (pos 8) (pos 8) (pos 0) (pos 0) } ∷ [])
    ≡ quoted "M 0 0 Q 4 8 6 8 Q 8 8 12 0"
unfolding path_text move_text segments_text segment_text pairs_text decimal digits_of
quadratics-written = refl

-- points (-5,0) (10,-262144) of degree 1
line-written :
    path_text 1 (record { low = 0; high = 1; xs = four (negsuc 4) (pos 10) (pos 0) (pos 0); ys = four (pos 0) (negsuc 262143) (pos 0) (pos 0) } ∷ [])
    ≡ quoted "M -5 0 L 10 -262144"
unfolding path_text move_text segments_text segment_text pairs_text decimal digits_of
line-written = refl

longest-counted : svg_most ≡ 18431
longest-counted = refl

-- "L 0 0" is not path data: it lacks the letter M in front
front-byte : (byte : ℕ) (w ws back : List ℕ) → w ≡ byte ∷ [] → get_or ((w ++ ws) ++ back) 0 0 ≡ byte
front-byte byte w ws back e = ap (λ (l : List ℕ). get_or ((l ++ ws) ++ back) 0 0) e

white-first : {front : List ℕ} (back : List ℕ) → many wsp front → get_or (front ++ back) 0 0 ≡ code "L" → front ≡ []
white-first back none e = refl
white-first back (more w ws (inl s) rest) e = absurd (omega (arith, e, front-byte (code "\t") w ws back s))
white-first back (more w ws (inr (inl s)) rest) e = absurd (omega (arith, e, front-byte (code " ") w ws back s))
white-first back (more w ws (inr (inr (inl s))) rest) e = absurd (omega (arith, e, front-byte (code "\n") w ws back s))
white-first back (more w ws (inr (inr (inr (inl s)))) rest) e = absurd (omega (arith, e, front-byte (code "\u{c}") w ws back s))
white-first back (more w ws (inr (inr (inr (inr s)))) rest) e = absurd (omega (arith, e, front-byte (code "\r") w ws back s))

move-asked : svg_path (quoted "L 0 0") → ⊥
move-asked (front, back, e, spaces, (move, rest, f, (letter, pair, g, m, _), _)) =
    let empty : front ≡ [] = white-first back spaces (ap (λ (l : List ℕ). get_or l 0 0) (sym e)) in
    let all : quoted "L 0 0" ≡ (letter ++ pair) ++ rest = e ∙ ap (λ (l : List ℕ). l ++ back) empty ∙ f ∙ ap (λ (l : List ℕ). l ++ rest) g in
    omega (arith, ap (λ (l : List ℕ). get_or l 0 0) all, front-byte (code "M") letter pair rest m)
