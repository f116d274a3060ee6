-- Clamps' fields are a row of fields by one rule; where judging them finds a break, there is their leftmost fault.
use Rattle.std.specs.Prelude.{Result, Ok, Err}
use mathlib.Core.Bool.{Bool, true, false, cond}
use mathlib.Core.Path.{◌≡◌, refl, sym, ap, ◌∙◌, subst}
use mathlib.Core.List.{List, [], ◌∷◌, ◌++◌}
use Prim.Native.Nat.{ℕ, zero, suc, ◌+◌, ◌*◌, ◌<◌, ◌≤◌}
use native.Mathlib.Omega.{arith}
use lib.Dec.{leb, lit<, lit≤}
use lib.ListN.{length, get_or, drop}
use lib.Seq.{drop-cons, take_all}
use mir.Facts.{sfits_to_z, sfits_lit}
use borrow.Author.Tests.{leb-false, eqb-false}
use Rattle.refusal.specs.Numbers.{left_over_refused}
use Rattle.grid.specs.Limits.{clamp_bytes}
use Rattle.fields.specs.Bytes.{field_bytes, coordinate_bytes, Octets}
use Rattle.fields.specs.Places.{i32_at}
use Rattle.format.proofs.EntryLaws.{coordinates-exact, bits_fit}
use Rattle.fault.specs.Fault.{FileKind, Fault}
use Rattle.fault.proofs.FirstFieldLaws.{FirstField}
use Rattle.fault.proofs.ChainLaws.{Row, up_to, up_to-first, fault-left-over}
use Rattle.taken_field.specs.Taking.{left_over_at, length_ok, field_at}
use Rattle.taken_field.specs.declared.Break.{Break}
use Rattle.layout.proofs.SplitLaws.{Whole, field-known, length-least, length_most, length-right}
use Rattle.breaks.proofs.ChainLaws.{octets-coordinates}
use Rattle.breaks.proofs.FaultLaws.{BreaksFrom, field-breaks, break-behind}
use Rattle.clamps.specs.Clamp.{clamp_field_bytes, Clamp, ClampFits, no_clamp, sides, clamp_tag, clamp_field, clamp_fields}
use Rattle.clamps.specs.Tail.{clamp_rule, then_clamps, clamps_from}
use Rattle.clamps.proofs.ClampLaws.{broken-tail}

-- so many clamps' fields at most
abbrev pub clamps_up_to : ℕ → FileKind
clamps_up_to most = up_to clamp_tag (length_ok clamp_rule) most

clamp-right : length_ok clamp_rule clamp_bytes ≡ true
clamp-right = length-right clamp_rule clamp_bytes (lit≤ tt) (lit≤ tt) (eqb-false clamp_bytes 0 refl) refl

-- the fields of some clamps are such a row
pub clamps-row : (cs : List Clamp) → Row clamp_tag (length_ok clamp_rule) (length cs) (clamp_fields cs)
clamps-row [] = refl
clamps-row (c ∷ cs) =
    record {
      contents = coordinate_bytes (sides c);
      rest = clamp_fields cs;
      same = refl;
      short = lit< tt;
      right = clamp-right;
      octets = octets-coordinates (sides c);
      next = clamps-row cs;
    }

-- the clamp whose sides stand in sixteen bytes
abbrev clamp_in : List ℕ → Clamp
clamp_in contents = record { low_x = i32_at contents 0; high_x = i32_at contents 4; low_y = i32_at contents 8; high_y = i32_at contents 12 }

contents-clamp : (contents : List ℕ) → Octets contents → length contents ≡ clamp_bytes → coordinate_bytes (sides (clamp_in contents)) ≡ contents
contents-clamp contents octets size =
    let inside : 0 + 4 * 4 ≤ length contents = omega arith in
    let whole : length contents ≤ clamp_bytes = omega arith in
    coordinates-exact contents octets 0 4 inside ∙ take_all clamp_bytes contents whole

clamp-fits : (contents : List ℕ) → Octets contents → ClampFits (clamp_in contents)
clamp-fits contents octets =
    record {
      low_x = sfits_to_z (bits_fit contents octets 0);
      high_x = sfits_to_z (bits_fit contents octets 4);
      low_y = sfits_to_z (bits_fit contents octets 8);
      high_y = sfits_to_z (bits_fit contents octets 12);
    }

-- a row tells its clamps
pub record Clamped (k : ℕ) (bytes : List ℕ) : Type 0 where
  pub cs : List Clamp
  pub many : length cs ≡ k
  pub fit : (i : ℕ) → ClampFits (get_or cs i no_clamp)
  pub same : bytes ≡ clamp_fields cs

pub row-clamps : (k : ℕ) (bytes : List ℕ) → Row clamp_tag (length_ok clamp_rule) k bytes → Clamped k bytes
row-clamps zero bytes e =
    record { cs = []; many = refl; fit = λ i. record { low_x = sfits_lit tt; high_x = sfits_lit tt; low_y = sfits_lit tt; high_y = sfits_lit tt }; same = e }
row-clamps (suc k) bytes f =
    let others = row-clamps k f.rest f.next in
    let size : length f.contents ≡ clamp_bytes = omega (arith, length-least clamp_rule _ f.right, length_most clamp_rule _ f.right) in
    record {
      cs = clamp_in f.contents ∷ others.cs;
      many = ap suc others.many;
      fit = fits others;
      same =
          f.same
          ∙ ap (λ (l : List ℕ). field_bytes clamp_tag l ++ f.rest) (sym (contents-clamp f.contents f.octets size))
          ∙ ap (λ (l : List ℕ). clamp_field (clamp_in f.contents) ++ l) others.same;
    }
  where
    fits : (others : Clamped k f.rest) → (i : ℕ) → ClampFits (get_or (clamp_in f.contents ∷ others.cs) i no_clamp)
    fits others zero = clamp-fits f.contents f.octets
    fits others (suc i) = others.fit i

module _ (bytes : List ℕ) (octets : Octets bytes) (found : Break) where
  first-clamp : (left : ℕ) → FirstField clamp_tag (length_ok clamp_rule) (clamps_up_to (suc left)) (clamps_up_to left)
  first-clamp left = up_to-first clamp_tag (length_ok clamp_rule) clamp_bytes (lit< tt) clamp-right left

  none_left : (at count : ℕ) → (b : Bool) → leb (length bytes) at ≡ b → cond b (Ok count) (Err (left_over_at at)) ≡ Err found → BreaksFrom (clamps_up_to 0) bytes at found
  none_left at count true t e = absurd (broken-tail found count (sym e))
  none_left at count false t e =
      let is_found : left_over_at at ≡ found = cc in
      let more : drop at bytes ≡ get_or bytes at 0 ∷ drop (suc at) bytes = drop-cons bytes at 0 (leb-false (length bytes) at t) in
      subst (BreaksFrom (clamps_up_to 0) bytes at) is_found
      (record {
        place = 0;
        there = omega arith;
        fault = subst (λ (l : List ℕ). Fault (clamps_up_to 0) l left_over_refused 0) (sym more) (fault-left-over clamp_tag (length_ok clamp_rule) (get_or bytes at 0) (drop (suc at) bytes));
      })

  by_field : (left at : ℕ) (next : Result ℕ Break) → at < length bytes → (at + clamp_field_bytes ≤ length bytes → next ≡ Err found → BreaksFrom (clamps_up_to left) bytes (at + clamp_field_bytes) found)
      → (t : Result ℕ Break) → field_at clamp_rule bytes at ≡ t → then_clamps t next ≡ Err found → BreaksFrom (clamps_up_to (suc left)) bytes at found
  by_field left at next more others (Err fault) f e =
      field-breaks clamp_rule (clamps_up_to (suc left)) (clamps_up_to left) (first-clamp left) bytes octets at found (omega arith) (λ over. absurd (omega arith))
      (f ∙ (let same : fault ≡ found = cc in ap Err same))
  by_field left at next more others (Ok len) f e =
      let whole : Whole clamp_rule bytes at len = field-known clamp_rule bytes at len f in
      let size : len ≡ clamp_bytes = omega (arith, length-least clamp_rule len whole.right, length_most clamp_rule len whole.right) in
      break-behind clamp_rule (clamps_up_to (suc left)) (clamps_up_to left) (first-clamp left) bytes octets at found len (at + clamp_field_bytes) whole (omega arith)
      (others (omega (arith, whole.inside)) e)

  by_end : (left at count : ℕ) (next : Result ℕ Break) → (at + clamp_field_bytes ≤ length bytes → next ≡ Err found → BreaksFrom (clamps_up_to left) bytes (at + clamp_field_bytes) found)
      → (b : Bool) → leb (length bytes) at ≡ b → cond b (Ok count) (then_clamps (field_at clamp_rule bytes at) next) ≡ Err found → BreaksFrom (clamps_up_to (suc left)) bytes at found
  by_end left at count next others true t e = absurd (broken-tail found count (sym e))
  by_end left at count next others false t e = by_field left at next (leb-false (length bytes) at t) others (field_at clamp_rule bytes at) refl e

  -- clamps that break, from a place on
  pub clamps-break : (left at count : ℕ) → at ≤ length bytes → clamps_from left bytes at count ≡ Err found → BreaksFrom (clamps_up_to left) bytes at found
  unfolding clamps_from
  clamps-break zero at count inside e = none_left at count (leb (length bytes) at) refl e
  clamps-break (suc left) at count inside e =
      by_end left at count (clamps_from left bytes (at + clamp_field_bytes) (count + 1)) (λ i f. clamps-break left (at + clamp_field_bytes) (count + 1) i f)
      (leb (length bytes) at) refl e
