-- One record and nothing else: bytes that are judged sound are the record of the lists that stand in them.
use Rattle.std.specs.Prelude.{Result, Ok, Err}
use mathlib.Core.Bool.{Bool, true, false, cond}
use mathlib.Core.Path.{◌≡◌, refl, ap, ◌∙◌}
use mathlib.Core.List.{List, ◌++◌, append-nil}
use Prim.Native.Nat.{ℕ, ◌≤◌}
use native.Mathlib.Omega.{arith}
use lib.Dec.{leb}
use lib.ListN.{length, drop_of_length-le}
use borrow.Author.Tests.{leb-true}
use Rattle.fields.specs.Bytes.{Octets}
use Rattle.format.specs.Format.{form1, record_bytes, Storable, IsRecord}
use Rattle.format.specs.RecordPlaces.{record_end}
use Rattle.layout.specs.StoredCurve.{degree_in, curve_in}
use Rattle.taken_field.specs.Taking.{left_over_at}
use Rattle.layout.specs.Judging.{sound, record_layout, alone, whole_record}
use Rattle.taken_field.specs.declared.Break.{Break}
use Rattle.layout.specs.declared.Layout.{Layout}
use Rattle.layout.proofs.SplitLaws.{broken-layout, lengths_one}
use Rattle.layout.proofs.RecordLaws.{layout-storable, layout-record}

-- what a sound layout of a lone record says
pub record Lone (bytes : List ℕ) (k x y : ℕ) : Type 0 where
  pub layout : record_layout bytes ≡ sound k x y
  pub ends : length bytes ≤ record_end k x y

lone-by : (bytes : List ℕ) (k x y : ℕ) (l : Result Layout Break) → record_layout bytes ≡ l → alone bytes l ≡ sound k x y → Lone bytes k x y
lone-by bytes k x y (Err fault) e a = absurd (broken-layout k x y fault a)
lone-by bytes k x y (Ok l) e a = ends (leb (length bytes) (record_end l.knots l.xs l.ys)) refl a
  where
    ends : (b : Bool) → leb (length bytes) (record_end l.knots l.xs l.ys) ≡ b → cond b (Ok l) (Err (left_over_at (record_end l.knots l.xs l.ys))) ≡ sound k x y → Lone bytes k x y
    ends false t a = absurd (broken-layout k x y (left_over_at (record_end l.knots l.xs l.ys)) a)
    ends true t a =
        let inside : length bytes ≤ record_end l.knots l.xs l.ys = leb-true (length bytes) (record_end l.knots l.xs l.ys) t in
        let same = lengths_one l (record { knots = k; xs = x; ys = y }) a in
        let is_k : l.knots ≡ k = ap (λ (o : Layout). o.knots) same in
        let is_x : l.xs ≡ x = ap (λ (o : Layout). o.xs) same in
        let is_y : l.ys ≡ y = ap (λ (o : Layout). o.ys) same in
        record { layout = e ∙ a; ends = omega arith }

pub whole-lone : (bytes : List ℕ) (k x y : ℕ) → whole_record bytes ≡ sound k x y → Lone bytes k x y
unfolding whole_record
whole-lone bytes k x y e = lone-by bytes k x y (record_layout bytes) refl e

-- bytes that are judged sound are the record of the lists that stand in them
pub whole-record : (bytes : List ℕ) → Octets bytes → (k x y : ℕ) → whole_record bytes ≡ sound k x y
    → bytes ≡ record_bytes form1 (degree_in bytes) (curve_in bytes k x y)
whole-record bytes octets k x y e =
    let lone = whole-lone bytes k x y e in
    layout-record bytes octets k x y lone.layout
    ∙ ap (λ (l : List ℕ). record_bytes form1 (degree_in bytes) (curve_in bytes k x y) ++ l)
    (drop_of_length-le bytes lone.ends)
    ∙ append-nil (record_bytes form1 (degree_in bytes) (curve_in bytes k x y))

pub whole-storable : (bytes : List ℕ) → Octets bytes → (k x y : ℕ) → whole_record bytes ≡ sound k x y
    → Storable form1 (degree_in bytes) (curve_in bytes k x y)
whole-storable bytes octets k x y e = layout-storable bytes octets k x y (whole-lone bytes k x y e).layout

-- so they are a record
abbrev pub record-of-sound : (bytes : List ℕ) → Octets bytes → (k x y : ℕ) → whole_record bytes ≡ sound k x y → IsRecord form1 bytes
record-of-sound bytes octets k x y e =
    record {
      m = degree_in bytes;
      c = curve_in bytes k x y;
      storable = whole-storable bytes octets k x y e;
      same = whole-record bytes octets k x y e;
    }
