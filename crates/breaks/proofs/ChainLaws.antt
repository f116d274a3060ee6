-- A record is a chain of four fields, each by its rule, whatever stands behind it.
use mathlib.Core.Path.{◌≡◌, refl, sym, ap, ◌∙◌}
use mathlib.Core.List.{List, [], ◌∷◌, ◌++◌}
use Prim.Native.Nat.{ℕ, zero, suc, ◌*◌, ◌/◌, ◌%◌, ◌<◌, zero-le}
use native.Mathlib.Omega.{arith}
use lib.Dec.{lit<, lit≤}
use lib.IntN.{ℤ}
use lib.ListN.{length, get_or, take}
use lib.Seq.{take-length}
use borrow.Author.Tests.{eqb-false}
use Rattle.fields.specs.Bytes.{u16_bytes, i32_bytes, field_bytes, knot_bytes, coordinate_bytes, Octets}
use Rattle.fields.specs.Places.{knots_at, coordinates_at}
use Rattle.curve.specs.Lists.{Lists, lists}
use Rattle.format.specs.Format.{form1, degree_tag, knots_tag, x_tag, y_tag, record_bytes, Storable}
use Rattle.format.proofs.EntryLaws.{knots-exact, coordinates-exact, knots-small, coordinates-fit}
use Rattle.format.proofs.InjectiveLaws.{record-grouped}
use Rattle.format.proofs.SizeLaws.{length-knots, length-coordinates}
use Rattle.fault.specs.Fault.{FileKind}
use Rattle.fault.proofs.FirstFieldLaws.{FieldThen, octets-each}
use Rattle.fault.proofs.ChainLaws.{needed}
use Rattle.taken_field.specs.Taking.{length_ok}
use Rattle.layout.specs.Judging.{degree_rule, knots_rule, x_rule, y_rule}
use Rattle.taken_field.specs.declared.Rule.{Rule}
use Rattle.layout.proofs.SplitLaws.{length-least, length_most, length_whole, length-right}

-- a field by its rule, and then a file of the next kind
abbrev pub ruled : Rule → FileKind → FileKind
ruled rule next = needed rule.tag (length_ok rule) next

-- a record, and then a file of the next kind
abbrev pub record_then : FileKind → FileKind
record_then next = ruled degree_rule (ruled knots_rule (ruled x_rule (ruled y_rule next)))

-- the record of some lists, and behind it bytes of which something holds
pub record RecordAhead (P : List ℕ → Type 0) (bytes : List ℕ) : Type 0 where
  pub m : ℕ
  pub c : Lists
  pub rest : List ℕ
  pub storable : Storable form1 m c
  pub same : bytes ≡ record_bytes form1 m c ++ rest
  pub behind : P rest

pub octets-pair : (v : ℕ) → Octets (u16_bytes v)
octets-pair v zero = omega arith
octets-pair v (suc zero) = omega arith
octets-pair v (suc (suc i)) = omega arith

octets-four : (z : ℤ) → Octets (i32_bytes z)
octets-four z zero = omega arith
octets-four z (suc zero) = omega arith
octets-four z (suc (suc zero)) = omega arith
octets-four z (suc (suc (suc zero))) = omega arith
octets-four z (suc (suc (suc (suc i)))) = omega arith

octets-one : (m : ℕ) → m < 256 → Octets (m ∷ [])
octets-one m h zero = h
octets-one m h (suc i) = omega arith

pub octets-coordinates : (zs : List ℤ) → Octets (coordinate_bytes zs)
octets-coordinates = octets-each i32_bytes octets-four

module _ (P : List ℕ → Type 0) where
  abbrev Fields : Rule → (List ℕ → Type 0) → List ℕ → Type 0
  Fields rule = FieldThen rule.tag (length_ok rule)

  abbrev pub InFields : List ℕ → Type 0
  InFields = Fields degree_rule (Fields knots_rule (Fields x_rule (Fields y_rule P)))

  pub record-fields : (bytes : List ℕ) → RecordAhead P bytes → InFields bytes
  record-fields bytes r =
      let ts = r.c.knots in
      let xs = r.c.xs in
      let ys = r.c.ys in
      let s = r.storable in
      record {
        contents = r.m ∷ [];
        rest = field_bytes knots_tag (knot_bytes ts) ++ (field_bytes x_tag (coordinate_bytes xs) ++ (field_bytes y_tag (coordinate_bytes ys) ++ r.rest));
        same = r.same ∙ record-grouped form1 r.m r.c r.rest;
        short = lit< tt;
        right = length-right degree_rule 1 (lit≤ tt) (lit≤ tt) (eqb-false 1 0 refl) refl;
        octets = octets-one r.m s.degree;
        next =
            record {
              contents = knot_bytes ts;
              rest = field_bytes x_tag (coordinate_bytes xs) ++ (field_bytes y_tag (coordinate_bytes ys) ++ r.rest);
              same = refl;
              short = omega (arith, s.knot_room);
              right = length-right knots_rule (length (knot_bytes ts)) zero-le s.knot_room (eqb-false 2 0 refl) (omega (arith, length-knots ts));
              octets = octets-each u16_bytes octets-pair ts;
              next =
                  record {
                    contents = coordinate_bytes xs;
                    rest = field_bytes y_tag (coordinate_bytes ys) ++ r.rest;
                    same = refl;
                    short = omega (arith, s.x_room);
                    right = length-right x_rule (length (coordinate_bytes xs)) zero-le s.x_room (eqb-false 4 0 refl) (omega (arith, length-coordinates xs));
                    octets = octets-coordinates xs;
                    next =
                        record {
                          contents = coordinate_bytes ys;
                          rest = r.rest;
                          same = refl;
                          short = omega (arith, s.y_room);
                          right = length-right y_rule (length (coordinate_bytes ys)) zero-le s.y_room (eqb-false 4 0 refl) (omega (arith, length-coordinates ys));
                          octets = octets-coordinates ys;
                          next = r.behind;
                        };
                  };
            };
      }

  -- one byte
  one_byte : (l : List ℕ) → length l ≡ 1 → l ≡ get_or l 0 0 ∷ []
  one_byte [] e = absurd (omega arith)
  one_byte (b ∷ []) e = refl
  one_byte (b ∷ d ∷ l) e = absurd (omega arith)

  -- contents of whole entries are the bytes of the entries in them
  knots-in : (contents : List ℕ) → Octets contents → length contents % 2 ≡ 0 → knot_bytes (knots_at contents 0 (length contents / 2)) ≡ contents
  knots-in contents octets whole =
      let count : 2 * (length contents / 2) ≡ length contents = omega arith in
      knots-exact contents octets 0 (length contents / 2) (omega arith) ∙ ap (λ (n : ℕ). take n contents) count ∙ take-length contents

  coordinates-in : (contents : List ℕ) → Octets contents → length contents % 4 ≡ 0 → coordinate_bytes (coordinates_at contents 0 (length contents / 4)) ≡ contents
  coordinates-in contents octets whole =
      let count : 4 * (length contents / 4) ≡ length contents = omega arith in
      coordinates-exact contents octets 0 (length contents / 4) (omega arith) ∙ ap (λ (n : ℕ). take n contents) count ∙ take-length contents

  pub fields-record : (bytes : List ℕ) → InFields bytes → RecordAhead P bytes
  fields-record bytes d =
      let k = d.next in
      let x = k.next in
      let y = x.next in
      let ts : List ℕ = knots_at k.contents 0 (length k.contents / 2) in
      let xs : List ℤ = coordinates_at x.contents 0 (length x.contents / 4) in
      let ys : List ℤ = coordinates_at y.contents 0 (length y.contents / 4) in
      let c : Lists = lists ts xs ys in
      let m : ℕ = get_or d.contents 0 0 in
      let single : length d.contents ≡ 1 = omega (arith, length-least degree_rule _ d.right, length_most degree_rule _ d.right) in
      let degree : d.contents ≡ m ∷ [] = one_byte d.contents single in
      let is_ts : knot_bytes ts ≡ k.contents = knots-in k.contents k.octets (length_whole knots_rule _ k.right) in
      let is_xs : coordinate_bytes xs ≡ x.contents = coordinates-in x.contents x.octets (length_whole x_rule _ x.right) in
      let is_ys : coordinate_bytes ys ≡ y.contents = coordinates-in y.contents y.octets (length_whole y_rule _ y.right) in
      record {
        m = m;
        c = c;
        rest = y.rest;
        storable =
            record {
              degree = d.octets 0;
              knots = knots-small k.contents k.octets 0 (length k.contents / 2);
              on_x = coordinates-fit x.contents x.octets 0 (length x.contents / 4);
              on_y = coordinates-fit y.contents y.octets 0 (length y.contents / 4);
              knot_room = omega (arith, ap length is_ts, length_most knots_rule _ k.right);
              x_room = omega (arith, ap length is_xs, length_most x_rule _ x.right);
              y_room = omega (arith, ap length is_ys, length_most y_rule _ y.right);
            };
        same =
            d.same
            ∙ ap (λ (l : List ℕ). field_bytes degree_tag l ++ d.rest) degree
            ∙ ap (λ (l : List ℕ). field_bytes degree_tag (m ∷ []) ++ l)
            (k.same
            ∙ ap (λ (l : List ℕ). field_bytes knots_tag l ++ k.rest) (sym is_ts)
            ∙ ap (λ (l : List ℕ). field_bytes knots_tag (knot_bytes ts) ++ l)
            (x.same
            ∙ ap (λ (l : List ℕ). field_bytes x_tag l ++ x.rest) (sym is_xs)
            ∙ ap (λ (l : List ℕ). field_bytes x_tag (coordinate_bytes xs) ++ l)
            (y.same ∙ ap (λ (l : List ℕ). field_bytes y_tag l ++ y.rest) (sym is_ys))))
            ∙ sym (record-grouped form1 m c y.rest);
        behind = y.next;
      }
