-- What stands in bytes has those bytes: entries read from a place on are, put down again, the bytes that they were read from.
use mathlib.Core.Path.{◌≡◌, refl, sym, ap, ap₂, ◌∙◌}
use mathlib.Core.List.{List, [], ◌∷◌, ◌++◌}
use Prim.Native.Nat.{ℕ, zero, suc, ◌+◌, ◌*◌, ◌/◌, ◌%◌, ◌<◌, ◌≤◌}
use native.Mathlib.Nat.{add_comm, mul-zero, mul-suc}
use native.Mathlib.Numerals.{add-one, add-two, add-three, add-four}
use native.Mathlib.Omega.{arith}
use lib.Dec.{lit<}
use lib.ListN.{length, get_or, take, drop}
use lib.Seq.{drop-cons, drop-drop, take-add}
use lib.IntN.{pos}
use mir.Syntax.{w32}
use mir.Val.{Fits, SFits}
use mir.Facts.{of_z-to_z, sfits_to_z, sfits_lit}
use Rattle.fields.specs.Bytes.{u16_bytes, u32_bytes, i32_bytes, each, knot_bytes, coordinate_bytes, Octets}
use Rattle.fields.specs.Places.{u16_at, u32_at, i32_at, entries_at, knots_at, coordinates_at}

-- two bytes are told apart again from the number that they make
pub pair-low : (low high n : ℕ) → low < 256 → low + 256 * high ≡ n → low ≡ n % 256
pair-low low high n h e = omega arith

pub pair-high : (low high n : ℕ) → low < 256 → high < 256 → low + 256 * high ≡ n → high ≡ n / 256 % 256
pair-high low high n h k e =
    let quotient : n / 256 ≡ high = omega arith in
    rw quotient (omega arith)

-- and so are four
quad-bytes : (a b c d : ℕ) → a < 256 → b < 256 → c < 256 → d < 256
    → u32_bytes (a + 256 * b + 65536 * c + 16777216 * d) ≡ a ∷ b ∷ c ∷ d ∷ []
quad-bytes a b c d ha hb hc hd =
    let v : ℕ = a + 256 * b + 65536 * c + 16777216 * d in
    let second : v / 256 ≡ b + 256 * c + 65536 * d = omega arith in
    let third : v / 65536 ≡ c + 256 * d = omega arith in
    let fourth : v / 16777216 ≡ d = omega arith in
    let is_a : v % 256 ≡ a = omega arith in
    let is_b : v / 256 % 256 ≡ b = rw second (omega arith) in
    let is_c : v / 65536 % 256 ≡ c = rw third (omega arith) in
    let is_d : v / 16777216 % 256 ≡ d = rw fourth (omega arith) in
    rw (is_a, is_b, is_c, is_d)

-- what holds of each entry that may be read holds of all that were
pub entries-all : {A : Type 0} (read : ℕ → A) (width : ℕ) (d : A) (P : A → Type 0) → ((at : ℕ) → P (read at)) → P d
    → (at count i : ℕ) → P (get_or (entries_at read width at count) i d)
entries-all read width d P each none at zero i = none
entries-all read width d P each none at (suc count) zero = each at
entries-all read width d P each none at (suc count) (suc i) = entries-all read width d P each none (at + width) count i

module _ {A : Type 0} (bytes : List ℕ) (bytes_of : A → List ℕ) (read : ℕ → A) (width : ℕ)
    (exact : (at : ℕ) → at + width ≤ length bytes → bytes_of (read at) ≡ take width (drop at bytes)) where
  -- entries that are exact one by one are exact together
  pub entries-exact : (at count : ℕ) → at + width * count ≤ length bytes → each bytes_of (entries_at read width at count) ≡ take (width * count) (drop at bytes)
  entries-exact at zero h = rw mul-zero
  entries-exact at (suc count) h =
      let step : width * suc count ≡ width + width * count = mul-suc width count ∙ add_comm (width * count) width in
      let first : bytes_of (read at) ≡ take width (drop at bytes) = exact at (omega arith) in
      let rest : each bytes_of (entries_at read width (at + width) count) ≡ take (width * count) (drop width (drop at bytes)) =
      entries-exact (at + width) count (omega arith) ∙ ap (take (width * count)) (sym (drop-drop width at bytes)) in
      ap₂ ◌++◌ first rest ∙ sym (take-add width (width * count) (drop at bytes)) ∙ ap (λ (n : ℕ). take n (drop at bytes)) (sym step)

module _ (bytes : List ℕ) (octets : Octets bytes) where
  -- a knot
  knot-exact : (at : ℕ) → at + 2 ≤ length bytes → u16_bytes (u16_at bytes at) ≡ take 2 (drop at bytes)
  knot-exact at h =
      let low : ℕ = get_or bytes at 0 in
      let high : ℕ = get_or bytes (at + 1) 0 in
      let ahead : drop at bytes ≡ low ∷ high ∷ drop (at + 2) bytes =
      rw (add-one at, add-two at) (drop-cons bytes at 0 (omega arith) ∙ ap (λ (l : List ℕ). get_or bytes at 0 ∷ l) (drop-cons bytes (suc at) 0 (omega arith))) in
      ap₂ (λ (a b : ℕ). a ∷ b ∷ []) (sym (pair-low low high _ (octets at) refl)) (sym (pair-high low high _ (octets at) (octets (at + 1)) refl))
      ∙ ap (take 2) (sym ahead)

  -- the bits of a coordinate fit
  pub bits_fit : (at : ℕ) → Fits w32 (u32_at bytes at)
  bits_fit at = record { fits = omega (arith, octets at, octets (at + 1), octets (at + 2), octets (at + 3)) }

  -- knots in bytes are 16-bit numbers
  pub knot-small : (at : ℕ) → u16_at bytes at < 65536
  knot-small at = omega (arith, octets at, octets (at + 1))

  -- a coordinate
  coordinate-exact : (at : ℕ) → at + 4 ≤ length bytes → i32_bytes (i32_at bytes at) ≡ take 4 (drop at bytes)
  coordinate-exact at h =
      let ahead : drop at bytes ≡ get_or bytes at 0 ∷ get_or bytes (at + 1) 0 ∷ get_or bytes (at + 2) 0 ∷ get_or bytes (at + 3) 0 ∷ drop (at + 4) bytes =
      rw (add-one at, add-two at, add-three at, add-four at)
      (drop-cons bytes at 0 (omega arith)
      ∙ ap (λ (l : List ℕ). get_or bytes at 0 ∷ l) (drop-cons bytes (suc at) 0 (omega arith))
      ∙ ap (λ (l : List ℕ). get_or bytes at 0 ∷ get_or bytes (suc at) 0 ∷ l) (drop-cons bytes (suc (suc at)) 0 (omega arith))
      ∙ ap (λ (l : List ℕ). get_or bytes at 0 ∷ get_or bytes (suc at) 0 ∷ get_or bytes (suc (suc at)) 0 ∷ l) (drop-cons bytes (suc (suc (suc at))) 0 (omega arith))) in
      ap u32_bytes (of_z-to_z (bits_fit at))
      ∙ quad-bytes (get_or bytes at 0) (get_or bytes (at + 1) 0) (get_or bytes (at + 2) 0) (get_or bytes (at + 3) 0)
      (octets at) (octets (at + 1)) (octets (at + 2)) (octets (at + 3))
      ∙ ap (take 4) (sym ahead)

  pub knots-exact : (at count : ℕ) → at + 2 * count ≤ length bytes → knot_bytes (knots_at bytes at count) ≡ take (2 * count) (drop at bytes)
  knots-exact = entries-exact bytes u16_bytes (u16_at bytes) 2 knot-exact

  pub coordinates-exact : (at count : ℕ) → at + 4 * count ≤ length bytes → coordinate_bytes (coordinates_at bytes at count) ≡ take (4 * count) (drop at bytes)
  coordinates-exact = entries-exact bytes i32_bytes (i32_at bytes) 4 coordinate-exact

  pub knots-small : (at count i : ℕ) → get_or (knots_at bytes at count) i 0 < 65536
  knots-small at count i = entries-all (u16_at bytes) 2 0 (λ v. v < 65536) knot-small (lit< tt) at count i

  pub coordinates-fit : (at count i : ℕ) → SFits w32 (get_or (coordinates_at bytes at count) i (pos 0))
  coordinates-fit at count i = entries-all (i32_at bytes) 4 (pos 0) (SFits w32) (λ k. sfits_to_z (bits_fit k)) (sfits_lit tt) at count i
