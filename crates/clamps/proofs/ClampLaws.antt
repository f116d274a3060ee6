-- Where clamps' fields are judged sound, the bytes behind a record are some clamps' bytes, and these tell their clamps.
use Rattle.std.specs.Prelude.{Result, Ok, Err}
use mathlib.Core.Bool.{Bool, true, false, cond}
use mathlib.Core.Path.{◌≡◌, refl, sym, ap, ◌∙◌}
use mathlib.Core.List.{List, [], ◌++◌}
use Prim.Native.Nat.{ℕ, zero, suc, ◌+◌, ◌*◌, ◌≤◌, zero-le}
use native.Mathlib.Omega.{arith}
use lib.Dec.{leb, lit<}
use lib.IntN.{pos}
use lib.ListN.{length, get_or, take, drop, drop_of_length-le}
use mir.Syntax.{w32}
use mir.Val.{SFits}
use mir.Facts.{sfits_to_z, sfits_lit}
use borrow.Author.Tests.{leb-true}
use Rattle.grid.specs.Limits.{head_bytes, clamp_bytes}
use Rattle.fields.specs.Bytes.{field_bytes, coordinate_bytes, Octets}
use Rattle.fields.specs.Places.{i32_at}
use Rattle.format.proofs.EntryLaws.{coordinates-exact, bits_fit, entries-all}
use Rattle.format.proofs.InjectiveLaws.{field-injective, coordinates-injective, each-injective}
use Rattle.taken_field.specs.Taking.{left_over_at, field_at}
use Rattle.taken_field.specs.declared.Break.{Break}
use Rattle.layout.proofs.SplitLaws.{Whole, field-known, field-split, length-least, length_most}
use Rattle.clamps.specs.Clamp.{clamp_sides, side_bytes, clamp_field_bytes, Clamp, ClampFits, no_clamp, sides, clamp_tag, clamp_field, clamp_fields, clamp_at, clamps_at}
use Rattle.clamps.specs.Tail.{clamp_rule, then_clamps, clamps_from}
use Rattle.clamps.proofs.TailLaws.{clamp-inside}

pub broken-tail : (fault : Break) (n : ℕ) → Err fault ≡ Ok n → ⊥
broken-tail fault n e = let z : ◌≡◌ {A = ℕ} 0 1 = cc in omega arith

-- clamps from a place to the end of the bytes, `many` of them
pub record Run (bytes : List ℕ) (at many : ℕ) : Type 0 where
  pub ends : at + clamp_field_bytes * many ≡ length bytes
  pub same : drop at bytes ≡ clamp_fields (clamps_at bytes at many)

module _ (bytes : List ℕ) (octets : Octets bytes) where
  -- one field that was taken is the field of the clamp that stands there
  field-clamp : (at len : ℕ) → field_at clamp_rule bytes at ≡ Ok len → drop at bytes ≡ clamp_field (clamp_at bytes at) ++ drop (at + clamp_field_bytes) bytes
  field-clamp at len e =
      let whole : Whole clamp_rule bytes at len = field-known clamp_rule bytes at len e in
      let size : len ≡ clamp_bytes = omega (arith, length-least clamp_rule len whole.right, length_most clamp_rule len whole.right) in
      let inside : at + head_bytes + side_bytes * clamp_sides ≤ length bytes = omega (arith, whole.inside) in
      let contents : take len (drop (at + head_bytes) bytes) ≡ coordinate_bytes (sides (clamp_at bytes at)) =
      ap (λ (n : ℕ). take n (drop (at + head_bytes) bytes)) size ∙ sym (coordinates-exact bytes octets (at + head_bytes) clamp_sides inside) in
      let end : at + head_bytes + len ≡ at + clamp_field_bytes = omega arith in
      field-split clamp_rule bytes at len octets whole
      ∙ ap (λ (l : List ℕ). field_bytes clamp_tag l ++ drop (at + head_bytes + len) bytes) contents
      ∙ ap (λ (k : ℕ). clamp_field (clamp_at bytes at) ++ drop k bytes) end

  run_none : (at : ℕ) → at ≤ length bytes → length bytes ≤ at → Run bytes at 0
  run_none at h k = record { ends = omega arith; same = drop_of_length-le bytes k }

  run_more : (at len k : ℕ) → field_at clamp_rule bytes at ≡ Ok len → Run bytes (at + clamp_field_bytes) k → Run bytes at (suc k)
  run_more at len k e r =
      record {
        ends = omega (arith, r.ends);
        same = field-clamp at len e ∙ ap (λ (l : List ℕ). clamp_field (clamp_at bytes at) ++ l) r.same;
      }

  -- what a count of clamps says: so many more, and they stand there up to the end
  abbrev Counted : ℕ → ℕ → ℕ → ℕ → Type 0
  Counted left at count n = (k : ℕ) × (n ≡ count + k) × (k ≤ left) × Run bytes at k

  counted_none : (left at count n : ℕ) → at ≤ length bytes → leb (length bytes) at ≡ true → ◌≡◌ {A = Result ℕ Break} (Ok count) (Ok n) → Counted left at count n
  counted_none left at count n inside b e =
      let same : count ≡ n = cc in
      (0, omega arith, zero-le, run_none at inside (leb-true (length bytes) at b))

  counted-last : (at count n : ℕ) → at ≤ length bytes → (b : Bool) → leb (length bytes) at ≡ b → cond b (Ok count) (Err (left_over_at at)) ≡ Ok n
      → Counted 0 at count n
  counted-last at count n inside true b e = counted_none 0 at count n inside b e
  counted-last at count n inside false b e = absurd (broken-tail (left_over_at at) n e)

  counted-taken : (left at count n : ℕ) (next : Result ℕ Break) → (at + clamp_field_bytes ≤ length bytes → next ≡ Ok n → Counted left (at + clamp_field_bytes) (count + 1) n)
      → (t : Result ℕ Break) → field_at clamp_rule bytes at ≡ t → then_clamps t next ≡ Ok n → Counted (suc left) at count n
  counted-taken left at count n next others (Err fault) f e = absurd (broken-tail fault n e)
  counted-taken left at count n next others (Ok len) f e =
      let rest = others (clamp-inside bytes at len f) e in
      (suc rest.0, omega (arith, rest.1), omega (arith, rest.2), run_more at len rest.0 f rest.3)

  counted-more : (left at count n : ℕ) (next : Result ℕ Break) → at ≤ length bytes → (at + clamp_field_bytes ≤ length bytes → next ≡ Ok n → Counted left (at + clamp_field_bytes) (count + 1) n)
      → (b : Bool) → leb (length bytes) at ≡ b → cond b (Ok count) (then_clamps (field_at clamp_rule bytes at) next) ≡ Ok n → Counted (suc left) at count n
  counted-more left at count n next inside others true b e = counted_none (suc left) at count n inside b e
  counted-more left at count n next inside others false b e = counted-taken left at count n next others (field_at clamp_rule bytes at) refl e

  pub clamps-known : (left at count n : ℕ) → at ≤ length bytes → clamps_from left bytes at count ≡ Ok n
      → (k : ℕ) × (n ≡ count + k) × (k ≤ left) × Run bytes at k
  unfolding clamps_from
  clamps-known zero at count n inside e = counted-last at count n inside (leb (length bytes) at) refl e
  clamps-known (suc left) at count n inside e =
      counted-more left at count n (clamps_from left bytes (at + clamp_field_bytes) (count + 1)) inside (λ i f. clamps-known left (at + clamp_field_bytes) (count + 1) n i f)
      (leb (length bytes) at) refl e

-- the sides that stand in bytes are 32-bit numbers
pub clamps-fit : (bytes : List ℕ) → Octets bytes → (at count i : ℕ) → ClampFits (get_or (clamps_at bytes at count) i no_clamp)
clamps-fit bytes octets at count i =
    let side : (k : ℕ) → SFits w32 (i32_at bytes k) = λ k. sfits_to_z (bits_fit bytes octets k) in
    entries-all (clamp_at bytes) clamp_field_bytes no_clamp ClampFits
    (λ k. record { low_x = side _; high_x = side _; low_y = side _; high_y = side _ })
    (record { low_x = sfits_lit tt; high_x = sfits_lit tt; low_y = sfits_lit tt; high_y = sfits_lit tt }) at count i

-- a clamp's sides fit, side by side
sides-fit : (c : Clamp) → ClampFits c → (i : ℕ) → SFits w32 (get_or (sides c) i (pos 0))
sides-fit c f zero = f.low_x
sides-fit c f (suc zero) = f.high_x
sides-fit c f (suc (suc zero)) = f.low_y
sides-fit c f (suc (suc (suc zero))) = f.high_y
sides-fit c f (suc (suc (suc (suc i)))) = sfits_lit tt

-- a clamp is told by its field
clamp-injective : (c d : Clamp) → ClampFits c → ClampFits d → clamp_field c ≡ clamp_field d → c ≡ d
clamp-injective c d f g e =
    let contents = field-injective clamp_tag (coordinate_bytes (sides c)) (coordinate_bytes (sides d)) [] [] (lit< tt) (lit< tt) (ap (λ (l : List ℕ). l ++ []) e) in
    let same : sides c ≡ sides d = coordinates-injective (sides c) (sides d) (sides-fit c f) (sides-fit d g) contents.0 in
    λ i.
    record {
      low_x = get_or (same i) 0 (pos 0);
      high_x = get_or (same i) 1 (pos 0);
      low_y = get_or (same i) 2 (pos 0);
      high_y = get_or (same i) 3 (pos 0);
    }

-- clamps are told by their fields
pub clamps-injective : (cs ds : List Clamp) → ((i : ℕ) → ClampFits (get_or cs i no_clamp)) → ((i : ℕ) → ClampFits (get_or ds i no_clamp))
    → clamp_fields cs ≡ clamp_fields ds → cs ≡ ds
clamps-injective = each-injective clamp_field 18 (λ _. refl) no_clamp ClampFits clamp-injective
