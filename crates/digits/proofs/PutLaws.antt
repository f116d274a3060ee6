-- Text that is put piece by piece.
use mathlib.Core.List.{List, [], ◌∷◌, ◌++◌}
use mathlib.Core.Path.{◌≡◌, refl, ◌∙◌, ap, ap₂}
use Prim.Native.Nat.{ℕ, ◌+◌, ◌≤◌, ◌<◌}
use native.Mathlib.Numerals.{add-one}
use native.Mathlib.Omega.{arith}
use lib.ListN.{length, take, drop, set, length-append}
use lib.Seq.{set_split, append_snoc, take_at}
use Rattle.fields.specs.Places.{put_at}
use Rattle.fields.proofs.PlaceLaws.{put_at-nil, put_at-join, length-put_at}
use Rattle.digits.specs.Put.{Put}

-- a list keeps its length
pub put-length : {before text after : List ℕ} {at next : ℕ} → Put before at text after next → at + length text ≤ length before → length after ≡ length before
put-length {before} {text} {after} {at} {next} w room = ap length w.holds ∙ length-put_at before at text room

-- a text at the front lies within the list, and is what its first bytes are
pub put_front : {before text after : List ℕ} {next : ℕ} → Put before 0 text after next → (next ≤ length after) × (take next after ≡ text)
put_front {before} {text} {after} {next} w =
    let rest = drop (0 + length text) before in (
      omega (arith, w.place, ap length w.holds, length-append text rest),
      rw w.holds (take_at text rest next (omega (arith, w.place))),
    )

-- no text
pub put-none : (before : List ℕ) (at : ℕ) → Put before at [] before at
put-none before at = record { holds = put_at-nil before at; place = omega arith }

-- one byte
pub put_one : (before : List ℕ) (at byte : ℕ) → at < length before → Put before at (byte ∷ []) (set before at byte) (at + 1)
put_one before at byte h =
    record { holds = set_split before at byte h ∙ rw (add-one at, append_snoc); place = refl }

-- two texts, the second from the place behind the first
module _ (before : List ℕ) (at : ℕ) (a b : List ℕ) (room : at + length (a ++ b) ≤ length before) where
  -- there is room for the first
  pub two-first : at + length a ≤ length before
  two-first = omega (arith, length-append a b, room)

  -- and behind it for the second
  pub two-second : {middle : List ℕ} {place : ℕ} → Put before at a middle place → place + length b ≤ length middle
  two-second v = omega (arith, length-append a b, room, v.place, put-length v two-first)

  -- they are their join
  pub two-joined : {middle after : List ℕ} {place next : ℕ} → Put before at a middle place → Put middle place b after next → Put before at (a ++ b) after next
  two-joined v w =
      record {
        holds = w.holds ∙ ap₂ (λ (l : List ℕ) (k : ℕ). put_at l k b) v.holds v.place ∙ put_at-join before at a b (omega (arith, length-append a b, room));
        place = rw (length-append a b) (omega (arith, v.place, w.place));
      }

-- four texts, each from the place behind the one before it
module _ (before : List ℕ) (at : ℕ) (a b c d : List ℕ) (room : at + length (a ++ b ++ c ++ d) ≤ length before) where
  abc : at + length (a ++ b ++ c) ≤ length before
  abc = two-first before at (a ++ b ++ c) d room

  ab : at + length (a ++ b) ≤ length before
  ab = two-first before at (a ++ b) c abc

  pub four-first : at + length a ≤ length before
  four-first = two-first before at a b ab

  pub four-second : {o : List ℕ} {p : ℕ} → Put before at a o p → p + length b ≤ length o
  four-second = two-second before at a b ab

  pub four-third : {o o' : List ℕ} {p p' : ℕ} → Put before at a o p → Put o p b o' p' → p' + length c ≤ length o'
  four-third v w = two-second before at (a ++ b) c abc (two-joined before at a b ab v w)

  -- the first three, joined
  three : {o o' o'' : List ℕ} {p p' p'' : ℕ} → Put before at a o p → Put o p b o' p' → Put o' p' c o'' p'' → Put before at (a ++ b ++ c) o'' p''
  three v w x = two-joined before at (a ++ b) c abc (two-joined before at a b ab v w) x

  pub four-last : {o o' o'' : List ℕ} {p p' p'' : ℕ} → Put before at a o p → Put o p b o' p' → Put o' p' c o'' p'' → p'' + length d ≤ length o''
  four-last v w x = two-second before at (a ++ b ++ c) d room (three v w x)

  pub four-joined : {o o' o'' after : List ℕ} {p p' p'' next : ℕ} → Put before at a o p → Put o p b o' p' → Put o' p' c o'' p'' → Put o'' p'' d after next → Put before at (a ++ b ++ c ++ d) after next
  four-joined v w x y = two-joined before at (a ++ b ++ c) d room (three v w x) y
