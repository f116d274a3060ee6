-- The lines on a clamp, one span more at a time.
use mathlib.Core.List.{List, [], ◌∷◌, ◌++◌, append_assoc, append-nil}
use mathlib.Core.Path.{◌≡◌, refl, sym, ◌∙◌, ap, ap₂}
use Prim.Native.Nat.{ℕ, zero, suc, ◌+◌, ◌≤◌, ◌<◌}
use native.Mathlib.Numerals.{add-one}
use native.Mathlib.Omega.{arith}
use lib.ListN.{length, get_or, take, drop, length-append}
use lib.Seq.{drop-cons}
use Rattle.lines.specs.Lines.{meet_line, meet_lines, clear_line, clamp_text}

-- no high knots, no lines
meet_lines-nil : (k : ℕ) (lows : List ℕ) → meet_lines k lows [] ≡ []
unfolding meet_lines
meet_lines-nil k [] = refl
meet_lines-nil k (low ∷ lows) = refl

-- the lines on the first i spans and those on the others
pub meet_lines-split : (k i : ℕ) (lows highs : List ℕ) → meet_lines k lows highs ≡ meet_lines k (take i lows) (take i highs) ++ meet_lines k (drop i lows) (drop i highs)
unfolding meet_lines
meet_lines-split k zero lows highs = refl
meet_lines-split k (suc i) [] highs = refl
meet_lines-split k (suc i) (low ∷ lows) [] = sym (meet_lines-nil k (drop i lows))
meet_lines-split k (suc i) (low ∷ lows) (high ∷ highs) =
    ap (λ (l : List ℕ). meet_line k low high ++ l) (meet_lines-split k i lows highs)
    ∙ sym (append_assoc (meet_line k low high) (meet_lines k (take i lows) (take i highs)) (meet_lines k (drop i lows) (drop i highs)))

-- the line on span i behind those on the spans before it
meet_lines-after : (k i : ℕ) (lows highs : List ℕ) → i < length lows → i < length highs → meet_lines k (take (suc i) lows) (take (suc i) highs) ≡ meet_lines k (take i lows) (take i highs) ++ meet_line k (get_or lows i 0) (get_or highs i 0)
unfolding meet_lines
meet_lines-after k i [] highs h j = absurd (omega arith)
meet_lines-after k i (low ∷ lows) [] h j = absurd (omega arith)
meet_lines-after k zero (low ∷ lows) (high ∷ highs) h j = append-nil (meet_line k low high)
meet_lines-after k (suc i) (low ∷ lows) (high ∷ highs) h j =
    ap (λ (l : List ℕ). meet_line k low high ++ l) (meet_lines-after k i lows highs (omega arith) (omega arith))
    ∙ sym (append_assoc (meet_line k low high) (meet_lines k (take i lows) (take i highs)) (meet_line k (get_or lows i 0) (get_or highs i 0)))

pub meet_lines-next : (k i : ℕ) (lows highs : List ℕ) → i < length lows → i < length highs → meet_lines k (take (i + 1) lows) (take (i + 1) highs) ≡ meet_lines k (take i lows) (take i highs) ++ meet_line k (get_or lows i 0) (get_or highs i 0)
meet_lines-next k i lows highs h j = rw (add-one i) (meet_lines-after k i lows highs h j)

-- there is room for it where there is room for all
pub meet_lines-room : (k i : ℕ) (lows highs : List ℕ) → i < length lows → i < length highs → length (meet_lines k (take i lows) (take i highs) ++ meet_line k (get_or lows i 0) (get_or highs i 0)) ≤ length (meet_lines k lows highs)
unfolding meet_lines
meet_lines-room k i lows highs h j =
    let rest : meet_lines k (drop i lows) (drop i highs) ≡ meet_line k (get_or lows i 0) (get_or highs i 0) ++ meet_lines k (drop (suc i) lows) (drop (suc i) highs) =
    ap₂ (meet_lines k) (drop-cons lows i 0 h) (drop-cons highs i 0 j) in
    omega (arith, ap length (meet_lines-split k i lows highs), length-append (meet_lines k (take i lows) (take i highs)) (meet_lines k (drop i lows) (drop i highs)), ap length rest, length-append (meet_line k (get_or lows i 0) (get_or highs i 0)) (meet_lines k (drop (suc i) lows) (drop (suc i) highs)), length-append (meet_lines k (take i lows) (take i highs)) (meet_line k (get_or lows i 0) (get_or highs i 0)))

-- all lines on a clamp: it is clear, or has a line for each span
pub clamp_text-clear : (k : ℕ) (lows highs : List ℕ) → length lows ≡ 0 → clamp_text k lows highs ≡ clear_line k
unfolding clamp_text
clamp_text-clear k [] highs h = refl
clamp_text-clear k (low ∷ lows) highs h = absurd (omega arith)

pub clamp_text-lines : (k : ℕ) (lows highs : List ℕ) → 0 < length lows → clamp_text k lows highs ≡ meet_lines k lows highs
unfolding clamp_text
clamp_text-lines k [] highs h = absurd (omega arith)
clamp_text-lines k (low ∷ lows) highs h = refl
