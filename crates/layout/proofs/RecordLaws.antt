-- Where a layout is sound, the bytes begin with the record of the lists that stand at its places.
use mathlib.Core.Path.{◌≡◌, refl, sym, ap, ◌∙◌}
use mathlib.Core.List.{List, [], ◌∷◌, ◌++◌}
use Prim.Native.Nat.{ℕ, ◌+◌, ◌*◌, ◌/◌, ◌%◌, ◌≤◌}
use native.Mathlib.Omega.{arith}
use lib.ListN.{length, take, drop}
use lib.Seq.{drop-cons}
use Rattle.fields.specs.Bytes.{field_bytes, knot_bytes, coordinate_bytes, Octets}
use Rattle.fields.specs.Places.{u16_at, i32_at, coordinates_at}
use Rattle.fields.proofs.PlaceLaws.{length-entries_at}
use Rattle.format.specs.Format.{form1, degree_tag, knots_tag, x_tag, y_tag, record_bytes, Storable}
use Rattle.format.specs.RecordPlaces.{degree_place, knots_field, before_knots, x_field, x_place, y_field, y_place, record_end}
use Rattle.format.proofs.EntryLaws.{knots-exact, coordinates-exact, knots-small, coordinates-fit}
use Rattle.format.proofs.InjectiveLaws.{record-grouped}
use Rattle.format.proofs.SizeLaws.{length-knots, length-coordinates}
use Rattle.layout.specs.StoredCurve.{degree_in, curve_in}
use Rattle.layout.specs.Judging.{degree_rule, knots_rule, x_rule, y_rule, sound, record_layout}
use Rattle.taken_field.specs.declared.Rule.{Rule}
use Rattle.layout.proofs.SplitLaws.{Whole, Laid, layout-known, layout-within, field-split, length_whole}

module _ (bytes : List ℕ) (octets : Octets bytes) (k x y : ℕ) (e : record_layout bytes ≡ sound k x y) where
  laid : Laid bytes k x y
  laid = layout-known k x y bytes e

  -- a field by its places: the tag's, the contents', the next field's
  split-to : (rule : Rule) (at here next len : ℕ) (contents : List ℕ) → at + 3 ≡ here → here + len ≡ next → Whole rule bytes at len
      → take len (drop here bytes) ≡ contents → drop at bytes ≡ field_bytes rule.tag contents ++ drop next bytes
  split-to rule at here next len contents h n whole c =
      field-split rule bytes at len octets whole
      ∙ ap (λ (p : ℕ). field_bytes rule.tag (take len (drop p bytes)) ++ drop (p + len) bytes) h
      ∙ ap (λ (p : ℕ). field_bytes rule.tag (take len (drop here bytes)) ++ drop p bytes) n
      ∙ ap (λ (l : List ℕ). field_bytes rule.tag l ++ drop next bytes) c

  knots-contents : take k (drop before_knots bytes) ≡ knot_bytes (curve_in bytes k x y).knots
  knots-contents =
      let whole : k % 2 ≡ 0 = length_whole knots_rule k laid.knots.right in
      let count : 2 * (k / 2) ≡ k = omega arith in
      let inside : before_knots + 2 * (k / 2) ≤ length bytes = omega (arith, laid.knots.inside) in
      sym (knots-exact bytes octets before_knots (k / 2) inside ∙ ap (λ (n : ℕ). take n (drop before_knots bytes)) count)

  coordinates-contents : (at z : ℕ) → z % 4 ≡ 0 → at + z ≤ length bytes → take z (drop at bytes) ≡ coordinate_bytes (coordinates_at bytes at (z / 4))
  coordinates-contents at z whole h =
      let count : 4 * (z / 4) ≡ z = omega arith in
      let inside : at + 4 * (z / 4) ≤ length bytes = omega arith in
      sym (coordinates-exact bytes octets at (z / 4) inside ∙ ap (λ (n : ℕ). take n (drop at bytes)) count)

  pub layout-storable : Storable form1 (degree_in bytes) (curve_in bytes k x y)
  layout-storable =
      let within = layout-within bytes k x y e in
      let long : (at z : ℕ) → length (coordinate_bytes (coordinates_at bytes at (z / 4))) ≡ 4 * (z / 4) =
      λ at z. length-coordinates (coordinates_at bytes at (z / 4)) ∙ ap (λ (n : ℕ). 4 * n) (length-entries_at (i32_at bytes) 4 at (z / 4)) in
      let knots : length (knot_bytes (curve_in bytes k x y).knots) ≡ 2 * (k / 2) =
      length-knots (curve_in bytes k x y).knots ∙ ap (λ (n : ℕ). 2 * n) (length-entries_at (u16_at bytes) 2 before_knots (k / 2)) in
      record {
        degree = octets degree_place;
        knots = knots-small bytes octets before_knots (k / 2);
        on_x = coordinates-fit bytes octets (x_place k) (x / 4);
        on_y = coordinates-fit bytes octets (y_place k x) (y / 4);
        knot_room = omega (arith, within.knots, knots);
        x_room = omega (arith, within.on_x, long (x_place k) x);
        y_room = omega (arith, within.on_y, long (y_place k x) y);
      }

  -- the front of the bytes is the record of these lists
  pub layout-record : bytes ≡ record_bytes form1 (degree_in bytes) (curve_in bytes k x y) ++ drop (record_end k x y) bytes
  layout-record =
      let ahead : take 1 (drop degree_place bytes) ≡ degree_in bytes ∷ [] = ap (take 1) (drop-cons bytes degree_place 0 (omega (arith, laid.degree.inside))) in
      let even_x : x % 4 ≡ 0 = length_whole x_rule x laid.on_x.right in
      let even_y : y % 4 ≡ 0 = length_whole y_rule y laid.on_y.right in
      let one : drop 0 bytes ≡ field_bytes degree_tag (degree_in bytes ∷ []) ++ drop knots_field bytes =
      split-to degree_rule 0 degree_place knots_field 1 (degree_in bytes ∷ []) refl refl laid.degree ahead in
      let two : drop knots_field bytes ≡ field_bytes knots_tag (knot_bytes (curve_in bytes k x y).knots) ++ drop (x_field k) bytes =
      split-to knots_rule knots_field before_knots (x_field k) k (knot_bytes (curve_in bytes k x y).knots) refl refl laid.knots knots-contents in
      let three : drop (x_field k) bytes ≡ field_bytes x_tag (coordinate_bytes (curve_in bytes k x y).xs) ++ drop (y_field k x) bytes =
      split-to x_rule (x_field k) (x_place k) (y_field k x) x (coordinate_bytes (curve_in bytes k x y).xs) (omega arith) refl laid.on_x
      (coordinates-contents (x_place k) x even_x (omega (arith, laid.on_x.inside))) in
      let four : drop (y_field k x) bytes ≡ field_bytes y_tag (coordinate_bytes (curve_in bytes k x y).ys) ++ drop (record_end k x y) bytes =
      split-to y_rule (y_field k x) (y_place k x) (record_end k x y) y (coordinate_bytes (curve_in bytes k x y).ys) (omega arith) refl laid.on_y
      (coordinates-contents (y_place k x) y even_y (omega (arith, laid.on_y.inside))) in
      one
      ∙ ap (λ (l : List ℕ). field_bytes degree_tag (degree_in bytes ∷ []) ++ l)
      (two
      ∙ ap (λ (l : List ℕ). field_bytes knots_tag (knot_bytes (curve_in bytes k x y).knots) ++ l)
      (three ∙ ap (λ (l : List ℕ). field_bytes x_tag (coordinate_bytes (curve_in bytes k x y).xs) ++ l) four))
      ∙ sym (record-grouped form1 (degree_in bytes) (curve_in bytes k x y) (drop (record_end k x y) bytes))
