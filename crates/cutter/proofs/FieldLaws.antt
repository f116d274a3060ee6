-- A radius' field that was judged right is the field of the radius that stands there; a radius is told by its field; and a field by the rule is some radius'.
use mathlib.Core.Bool.{true}
use mathlib.Core.Path.{◌≡◌, refl, sym, ap, ◌∙◌}
use mathlib.Core.List.{List, ◌++◌}
use Prim.Native.Nat.{ℕ, ◌+◌, ◌<◌, ◌≤◌}
use native.Mathlib.Omega.{arith}
use lib.Dec.{lit<, lit≤}
use lib.ListN.{length, take, drop}
use lib.Seq.{take_all}
use borrow.Author.Tests.{eqb-false}
use Rattle.grid.specs.Limits.{head_bytes, radius_bytes}
use Rattle.fields.specs.Bytes.{u16_bytes, field_bytes, Octets}
use Rattle.fields.specs.Places.{u16_at}
use Rattle.format.proofs.EntryLaws.{knots-exact}
use Rattle.format.proofs.InjectiveLaws.{field-injective, knot-injective}
use Rattle.taken_field.specs.Taking.{length_ok, field_at}
use Rattle.std.specs.Prelude.{Ok}
use Rattle.layout.proofs.SplitLaws.{Whole, field-known, field-split, length-least, length_most, length-right}
use Rattle.cutter.specs.Radius.{radius_tag, radius_field, radius_field_bytes}
use Rattle.cutter.specs.Standing.{radius_rule, radius_at}

-- two bytes are the right length
pub radius-right : length_ok radius_rule radius_bytes ≡ true
radius-right = length-right radius_rule radius_bytes (lit≤ tt) (lit≤ tt) (eqb-false radius_bytes 0 refl) refl

right-size : (len : ℕ) → length_ok radius_rule len ≡ true → len ≡ radius_bytes
right-size len right = omega (arith, length-least radius_rule len right, length_most radius_rule len right)

-- the number in two bytes has these bytes
two_bytes : (bytes : List ℕ) → Octets bytes → (at : ℕ) → at + radius_bytes ≤ length bytes → u16_bytes (u16_at bytes at) ≡ take radius_bytes (drop at bytes)
two_bytes bytes octets at inside = knots-exact bytes octets at 1 inside

-- the contents of such a field are some radius'
pub contents-radius : (contents : List ℕ) → Octets contents → length_ok radius_rule (length contents) ≡ true → u16_bytes (u16_at contents 0) ≡ contents
contents-radius contents octets right =
    let size = right-size (length contents) right in
    two_bytes contents octets 0 (omega arith) ∙ take_all radius_bytes contents (omega arith)

-- what is known of a field that was taken
pub record RadiusThere (bytes : List ℕ) (at : ℕ) : Type 0 where
  pub inside : at + radius_field_bytes ≤ length bytes
  pub same : drop at bytes ≡ radius_field (radius_at bytes at) ++ drop (at + radius_field_bytes) bytes

pub radius-known : (bytes : List ℕ) → Octets bytes → (at len : ℕ) → field_at radius_rule bytes at ≡ Ok len → RadiusThere bytes at
radius-known bytes octets at len e =
    let whole : Whole radius_rule bytes at len = field-known radius_rule bytes at len e in
    let size : len ≡ radius_bytes = right-size len whole.right in
    let inside : at + radius_field_bytes ≤ length bytes = omega (arith, whole.inside) in
    let contents : take len (drop (at + head_bytes) bytes) ≡ u16_bytes (radius_at bytes at) =
    ap (λ (n : ℕ). take n (drop (at + head_bytes) bytes)) size ∙ sym (two_bytes bytes octets (at + head_bytes) (omega arith)) in
    let end : at + head_bytes + len ≡ at + radius_field_bytes = omega arith in
    record {
      inside = inside;
      same =
          field-split radius_rule bytes at len octets whole
          ∙ ap (λ (l : List ℕ). field_bytes radius_tag l ++ drop (at + head_bytes + len) bytes) contents
          ∙ ap (λ (k : ℕ). radius_field (radius_at bytes at) ++ drop k bytes) end;
    }

-- a radius, and what stands behind it, are told by their bytes
pub radius-injective : (r s : ℕ) (rest left : List ℕ) → r < 65536 → s < 65536 → radius_field r ++ rest ≡ radius_field s ++ left → (r ≡ s) × (rest ≡ left)
radius-injective r s rest left small less e =
    let both = field-injective radius_tag (u16_bytes r) (u16_bytes s) rest left (lit< tt) (lit< tt) e in
    (knot-injective r s small less both.0, both.1)
