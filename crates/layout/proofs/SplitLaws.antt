-- Where a field is taken, the bytes from its place on are a field's bytes of a right length, and then anything.
use Rattle.std.specs.Prelude.{Result, Ok, Err}
use mathlib.Core.Bool.{Bool, true, false, cond, not, ◌&&◌}
use mathlib.Core.Path.{◌≡◌, refl, sym, ap, ◌∙◌, subst, subst₂, subst₃}
use mathlib.Core.List.{List, ◌∷◌, ◌++◌}
use Prim.Native.Nat.{ℕ, suc, ◌+◌, ◌*◌, ◌-◌, ◌/◌, ◌%◌, ◌≤◌}
use native.Mathlib.Numerals.{add-one, add-two, add-three}
use native.Mathlib.Omega.{arith}
use lib.Dec.{leb, ltb, eqb}
use lib.ListN.{length, get_or, take, drop, length-drop, take-append-drop}
use lib.Seq.{drop-cons, drop-drop, length-take-le}
use borrow.Author.Tests.{leb-true, ltb-false, eqb-true, eq-eqb, le-leb, ne_eqb, not-false}
use Rattle.fields.specs.Bytes.{field_bytes, Octets}
use Rattle.fields.specs.Places.{u16_at}
use Rattle.refusal.proofs.JudgingLaws.{both}
use Rattle.grid.specs.Limits.{knot_bytes_most, coordinate_bytes_most}
use Rattle.format.specs.RecordPlaces.{knots_field, x_field, y_field, record_end}
use Rattle.taken_field.specs.Taking.{ended_at, tag_at, length_at, length_ok, whole_entries, field_at}
use Rattle.layout.specs.Judging.{then_field, degree_rule, knots_rule, x_rule, y_rule, from_knots, from_x, from_y, sound, record_layout}
use Rattle.taken_field.specs.declared.Rule.{Rule}
use Rattle.taken_field.specs.declared.Break.{Break}
use Rattle.layout.specs.declared.Layout.{Layout}
use Rattle.format.proofs.EntryLaws.{pair-low, pair-high}

pub broken-field : (fault : Break) (len : ℕ) → Err fault ≡ Ok len → ⊥
broken-field fault len e = let z : ◌≡◌ {A = ℕ} 0 1 = cc in omega arith

-- a test that gives a fault has failed, where a field was taken
past : (b : Bool) (fault : Break) (next : Result ℕ Break) (len : ℕ) → cond b (Err fault) next ≡ Ok len → (b ≡ false) × (next ≡ Ok len)
past true fault next len e = absurd (broken-field fault len e)
past false fault next len e = (refl, e)

-- what is known where a field was taken
pub record Whole (rule : Rule) (bytes : List ℕ) (at len : ℕ) : Type 0 where
  pub tag : get_or bytes at 0 ≡ rule.tag
  pub size : u16_at bytes (at + 1) ≡ len
  pub right : length_ok rule len ≡ true
  pub inside : at + 3 + len ≤ length bytes

pub field-known : (rule : Rule) (bytes : List ℕ) (at len : ℕ) → field_at rule bytes at ≡ Ok len → Whole rule bytes at len
unfolding field_at
field-known rule bytes at len e =
    let n : ℕ = length bytes in
    let size : ℕ = u16_at bytes (at + 1) in
    let whole : Result ℕ Break = cond (ltb n (at + 3 + size)) (Err (ended_at n)) (Ok size) in
    let sized : Result ℕ Break = cond (not (length_ok rule size)) (Err (length_at (at + 1))) whole in
    let headed : Result ℕ Break = cond (ltb n (at + 3)) (Err (ended_at n)) sized in
    let tagged : Result ℕ Break = cond (not (eqb (get_or bytes at 0) rule.tag)) (Err (tag_at at)) headed in
    let a = past (leb n at) (ended_at n) tagged len e in
    let b = past (not (eqb (get_or bytes at 0) rule.tag)) (tag_at at) headed len a.1 in
    let c = past (ltb n (at + 3)) (ended_at n) sized len b.1 in
    let d = past (not (length_ok rule size)) (length_at (at + 1)) whole len c.1 in
    let f = past (ltb n (at + 3 + size)) (ended_at n) (Ok size) len d.1 in
    let is : size ≡ len = cc f.1 in
    record {
      tag = eqb-true (get_or bytes at 0) rule.tag (not-false _ b.0);
      size = is;
      right = ap (length_ok rule) (sym is) ∙ not-false (length_ok rule size) d.0;
      inside = omega (arith, ltb-false n (at + 3 + size) f.0, is);
    }

-- what a right length is
pub length-least : (rule : Rule) (len : ℕ) → length_ok rule len ≡ true → rule.least ≤ len
unfolding length_ok
length-least rule len e =
    leb-true rule.least len (both (leb rule.least len) (leb len rule.most) (both (leb rule.least len && leb len rule.most) (whole_entries rule.width len) e).0).0

pub length_most : (rule : Rule) (len : ℕ) → length_ok rule len ≡ true → len ≤ rule.most
unfolding length_ok
length_most rule len e =
    leb-true len rule.most (both (leb rule.least len) (leb len rule.most) (both (leb rule.least len && leb len rule.most) (whole_entries rule.width len) e).0).1

pub length_whole : (rule : Rule) (len : ℕ) → length_ok rule len ≡ true → len % rule.width ≡ 0
unfolding length_ok
length_whole rule len e =
    eqb-true (len % rule.width) 0 (both (not (eqb rule.width 0)) (eqb (len % rule.width) 0) (both (leb rule.least len && leb len rule.most) (whole_entries rule.width len) e).1).1

-- and what makes a length right
pub length-right : (rule : Rule) (len : ℕ) → rule.least ≤ len → len ≤ rule.most → (rule.width ≡ 0 → ⊥) → len % rule.width ≡ 0 → length_ok rule len ≡ true
unfolding length_ok
length-right rule len low high width whole =
    rw (le-leb rule.least len low, le-leb len rule.most high, ne_eqb rule.width 0 width, eq-eqb (len % rule.width) 0 whole)

-- the three bytes of a field's head, and what follows
pub three-ahead : (bytes : List ℕ) (at : ℕ) → at + 3 ≤ length bytes
    → drop at bytes ≡ get_or bytes at 0 ∷ get_or bytes (at + 1) 0 ∷ get_or bytes (at + 2) 0 ∷ drop (at + 3) bytes
three-ahead bytes at h =
    rw (add-one at, add-two at, add-three at)
    (drop-cons bytes at 0 (omega arith)
    ∙ ap (λ (l : List ℕ). get_or bytes at 0 ∷ l) (drop-cons bytes (suc at) 0 (omega arith))
    ∙ ap (λ (l : List ℕ). get_or bytes at 0 ∷ get_or bytes (suc at) 0 ∷ l) (drop-cons bytes (suc (suc at)) 0 (omega arith)))

-- a field that was taken: from its place on the bytes are a field's, and then what follows it
pub field-split : (rule : Rule) (bytes : List ℕ) (at len : ℕ) → Octets bytes → Whole rule bytes at len
    → drop at bytes ≡ field_bytes rule.tag (take len (drop (at + 3) bytes)) ++ drop (at + 3 + len) bytes
field-split rule bytes at len octets whole =
    let contents : List ℕ = take len (drop (at + 3) bytes) in
    let inside : at + 3 + len ≤ length bytes = whole.inside in
    let behind : length (drop (at + 3) bytes) ≡ length bytes - (at + 3) = length-drop (at + 3) bytes in
    let size : length contents ≡ len = length-take-le len (drop (at + 3) bytes) (omega arith) in
    let next : at + 1 + 1 ≡ at + 2 = omega arith in
    let low : ℕ = get_or bytes (at + 1) 0 in
    let high : ℕ = get_or bytes (at + 2) 0 in
    let sum : low + 256 * high ≡ len = ap (λ (k : ℕ). low + 256 * get_or bytes k 0) (sym next) ∙ whole.size in
    let is_low : low ≡ length contents % 256 = pair-low low high (length contents) (octets (at + 1)) (sum ∙ sym size) in
    let is_high : high ≡ length contents / 256 % 256 = pair-high low high (length contents) (octets (at + 1)) (octets (at + 2)) (sum ∙ sym size) in
    let rest : drop (at + 3) bytes ≡ contents ++ drop (at + 3 + len) bytes =
    sym (take-append-drop len (drop (at + 3) bytes)) ∙ ap (λ (l : List ℕ). contents ++ l) (drop-drop len (at + 3) bytes) in
    three-ahead bytes at (omega arith)
    ∙ ap (λ (l : List ℕ). get_or bytes at 0 ∷ low ∷ high ∷ l) rest
    ∙ ap (λ (b : ℕ). b ∷ low ∷ high ∷ (contents ++ drop (at + 3 + len) bytes)) whole.tag
    ∙ ap (λ (b : ℕ). rule.tag ∷ b ∷ high ∷ (contents ++ drop (at + 3 + len) bytes)) is_low
    ∙ ap (λ (b : ℕ). rule.tag ∷ length contents % 256 ∷ b ∷ (contents ++ drop (at + 3 + len) bytes)) is_high

-- a sound layout tells its lengths
pub lengths_one : (l k : Layout) → ◌≡◌ {A = Result Layout Break} (Ok l) (Ok k) → l ≡ k
lengths_one l k e = cc e

-- what is known where a record's fields were taken
pub record Laid (bytes : List ℕ) (k x y : ℕ) : Type 0 where
  pub degree : Whole degree_rule bytes 0 1
  pub knots : Whole knots_rule bytes knots_field k
  pub on_x : Whole x_rule bytes (x_field k) x
  pub on_y : Whole y_rule bytes (y_field k x) y

module _ (k x y : ℕ) where
  pub broken-layout : (fault : Break) → Err fault ≡ sound k x y → ⊥
  broken-layout fault e = let z : ◌≡◌ {A = ℕ} 0 1 = cc in omega arith

  -- a sound layout has taken the field that it begins with
  taken-first : (t : Result ℕ Break) (next : ℕ → Result Layout Break) → then_field t next ≡ sound k x y → (len : ℕ) × (t ≡ Ok len) × (next len ≡ sound k x y)
  taken-first (Ok len) next e = (len, refl, e)
  taken-first (Err fault) next e = absurd (broken-layout fault e)

  pub layout-known : (bytes : List ℕ) → record_layout bytes ≡ sound k x y → Laid bytes k x y
  unfolding record_layout
  layout-known bytes e =
      let a = taken-first (field_at degree_rule bytes 0) (λ d. from_knots bytes) e in
      let b = taken-first (field_at knots_rule bytes knots_field) (λ k. from_x bytes k) a.2 in
      let c = taken-first (field_at x_rule bytes (x_field b.0)) (λ x. from_y bytes b.0 x) b.2 in
      let d = taken-first (field_at y_rule bytes (y_field b.0 c.0)) (λ y. sound b.0 c.0 y) c.2 in
      let same = lengths_one (record { knots = b.0; xs = c.0; ys = d.0 }) (record { knots = k; xs = x; ys = y }) d.2 in
      let is_k : b.0 ≡ k = ap (λ (l : Layout). l.knots) same in
      let is_x : c.0 ≡ x = ap (λ (l : Layout). l.xs) same in
      let is_y : d.0 ≡ y = ap (λ (l : Layout). l.ys) same in
      let first : Whole degree_rule bytes 0 a.0 = field-known degree_rule bytes 0 a.0 a.1 in
      let one : a.0 ≡ 1 = omega (arith, length-least degree_rule a.0 first.right, length_most degree_rule a.0 first.right) in
      record {
        degree = subst (Whole degree_rule bytes 0) one first;
        knots = subst (Whole knots_rule bytes knots_field) is_k (field-known knots_rule bytes knots_field b.0 b.1);
        on_x = subst₂ (λ (k x : ℕ). Whole x_rule bytes (x_field k) x) is_k is_x (field-known x_rule bytes (x_field b.0) c.0 c.1);
        on_y =
            subst₃ (λ (k x y : ℕ). Whole y_rule bytes (y_field k x) y) is_k is_x is_y
            (field-known y_rule bytes (y_field b.0 c.0) d.0 d.1);
      }

-- no field of a sound layout is longer than its most
pub record Within (k x y : ℕ) : Type 0 where
  pub knots : k ≤ knot_bytes_most
  pub on_x : x ≤ coordinate_bytes_most
  pub on_y : y ≤ coordinate_bytes_most

pub layout-within : (bytes : List ℕ) (k x y : ℕ) → record_layout bytes ≡ sound k x y → Within k x y
layout-within bytes k x y e =
    let laid = layout-known k x y bytes e in
    record {
      knots = length_most knots_rule k laid.knots.right;
      on_x = length_most x_rule x laid.on_x.right;
      on_y = length_most y_rule y laid.on_y.right;
    }

-- a sound layout lies within the bytes
pub layout-inside : (bytes : List ℕ) (k x y : ℕ) → record_layout bytes ≡ sound k x y → record_end k x y ≤ length bytes
layout-inside bytes k x y e = omega (arith, (layout-known k x y bytes e).on_y.inside)
