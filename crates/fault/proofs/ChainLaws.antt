-- Kinds of file that are made field by field: fields that must stand there, and then so many of one rule at most.
use mathlib.Core.Bool.{Bool, true}
use mathlib.Core.Path.{◌≡◌, refl, sym, ap, ◌∙◌, subst}
use mathlib.Core.List.{List, [], ◌∷◌, ◌++◌}
use Prim.Native.Nat.{ℕ, zero, suc, ◌<◌, ◌≤◌, zero-le}
use native.Mathlib.Omega.{arith}
use lib.ListN.{length, take, replicate, length-replicate}
use Rattle.fields.specs.Bytes.{field_bytes}
use Rattle.refusal.specs.Numbers.{ended_refused, left_over_refused}
use Rattle.fault.specs.Fault.{FileKind, Begins, WholeFields, Stops, Fault, ends_early, ends_in_length, wrong_tag, wrong_length, left_over}
use Rattle.fault.proofs.FirstFieldLaws.{FieldThen, FirstField, then-long}
use Rattle.fault.proofs.FieldFaultLaws.{no_fields, fields-behind, zeros, begins-nothing}

-- some file of a kind
abbrev pub Some : FileKind → Type 0
Some kind = (file : List ℕ) × kind.Is file

-- the same kind by other words: the same files, and the same ones take no further field
pub record SameKind (kind other : FileKind) : Type 0 where
  pub into : (bytes : List ℕ) → kind.Is bytes → other.Is bytes
  pub from : (bytes : List ℕ) → other.Is bytes → kind.Is bytes
  pub full_into : (bytes : List ℕ) → kind.Full bytes → other.Full bytes
  pub full_from : (bytes : List ℕ) → other.Full bytes → kind.Full bytes

module _ {kind other : FileKind} (same : SameKind kind other) (bytes : List ℕ) where
  begins-same : (front : List ℕ) → Begins kind front → Begins other front
  begins-same front (rest, is) = (rest, same.into _ is)

  stops_same : {at near far : ℕ} → Stops kind bytes at near far → Stops other bytes at near far
  stops_same {near = near} stops =
      record {
        fields = stops.fields;
        begins = begins-same (take near bytes) stops.begins;
        never = λ begins. stops.never (begins.0, same.from _ begins.1);
        inside = stops.inside;
      }

  -- it has the same faults
  pub fault-same : {n p : ℕ} → Fault kind bytes n p → Fault other bytes n p
  fault-same (ends_early none begins) = ends_early (λ is. none (same.from bytes is)) (begins-same bytes begins)
  fault-same (ends_in_length at stops e) = ends_in_length at (stops_same stops) e
  fault-same (wrong_tag at stops more) = wrong_tag at (stops_same stops) (λ full. more (same.full_from _ full))
  fault-same (wrong_length at stops) = wrong_length at (stops_same stops)
  fault-same (left_over at stops full) = left_over at (stops_same stops) (same.full_into _ full)

module _ {tag : ℕ} {ok : ℕ → Bool} where
  -- the same field, with something else behind it
  pub then-with : {P Q : List ℕ → Type 0} {bytes : List ℕ} (f : FieldThen tag ok P bytes) → Q f.rest → FieldThen tag ok Q bytes
  then-with f next =
      record {
        contents = f.contents;
        rest = f.rest;
        same = f.same;
        short = f.short;
        right = f.right;
        octets = f.octets;
        next = next;
      }

  -- whole fields behind a field are whole fields with it
  pub then-fields : {P : List ℕ → Type 0} {bytes : List ℕ} (f : FieldThen tag ok P bytes) → WholeFields f.rest → WholeFields bytes
  then-fields f whole = subst WholeFields (sym f.same) (fields-behind tag f.contents f.short f.rest whole)

module _ (tag : ℕ) (ok : ℕ → Bool) where
  -- a field that must stand there, and then a file of the next kind
  abbrev pub needed : FileKind → FileKind
  needed next = record { Is = FieldThen tag ok next.Is; Full = FieldThen tag ok next.Full }

  -- so many fields and nothing else
  abbrev pub Row : ℕ → List ℕ → Type 0
  Row zero bytes = bytes ≡ []
  Row (suc k) bytes = FieldThen tag ok (Row k) bytes

  -- so many at most
  abbrev pub up_to : ℕ → FileKind
  up_to most = record { Is = λ bytes. (k : ℕ) × (k ≤ most) × Row k bytes; Full = Row most }

  pub row-fields : (k : ℕ) (bytes : List ℕ) → Row k bytes → WholeFields bytes
  row-fields zero bytes e = subst WholeFields (sym e) no_fields
  row-fields (suc k) bytes f = then-fields f (row-fields k f.rest f.next)

  pub up_to-some : (most : ℕ) → Some (up_to most)
  up_to-some most = ([], (0, zero-le, refl))

  -- a byte behind the last one that may stand there
  pub fault-left-over : (b : ℕ) (bytes : List ℕ) → Fault (up_to 0) (b ∷ bytes) left_over_refused 0
  fault-left-over b bytes =
      left_over 0 (record { fields = no_fields; begins = ([], (0, zero-le, refl)); never = never; inside = omega arith }) refl
    where
      never : Begins (up_to 0) (b ∷ []) → ⊥
      never (rest, (zero, h, e)) = omega (arith, ap length e)
      never (rest, (suc k, h, e)) = omega arith

  module _ (size : ℕ) (short : size < 65536) (right : ok size ≡ true) where
    pub needed-first : (next : FileKind) → Some next → FirstField tag ok (needed next) next
    needed-first next some =
        record {
          into = λ b bs f. f;
          from = λ bytes f. f;
          full_into = λ bytes f. f;
          full_from = λ bytes f. f;
          file = some.0;
          is_file = some.1;
          size = size;
          short = short;
          right = right;
        }

    pub needed-some : (next : FileKind) → Some next → Some (needed next)
    needed-some next some =
        let long : length (replicate {A = ℕ} size 0) ≡ size = length-replicate {A = ℕ} size 0 in (
          field_bytes tag (replicate {A = ℕ} size 0) ++ some.0,
          record {
            contents = replicate {A = ℕ} size 0;
            rest = some.0;
            same = refl;
            short = omega arith;
            right = ap ok long ∙ right;
            octets = zeros size;
            next = some.1;
          },
        )

    -- nothing at all, where a field must stand
    pub needed-none : (next : FileKind) → Some next → Fault (needed next) [] ended_refused 0
    needed-none next some = ends_early (λ f. omega (arith, then-long [] f)) (begins-nothing (needed-first next some))

    pub up_to-first : (most : ℕ) → FirstField tag ok (up_to (suc most)) (up_to most)
    up_to-first most =
        record {
          into = into;
          from = λ bytes f. (suc f.next.0, omega (arith, f.next.1), then-with f f.next.2);
          full_into = λ bytes f. f;
          full_from = λ bytes f. f;
          file = [];
          is_file = (0, zero-le, refl);
          size = size;
          short = short;
          right = right;
        }
      where
        into : (b : ℕ) (bs : List ℕ) → (up_to (suc most)).Is (b ∷ bs) → FieldThen tag ok (up_to most).Is (b ∷ bs)
        into b bs (zero, h, e) = absurd (omega (arith, ap length e))
        into b bs (suc k, h, f) = then-with f (k, omega arith, f.next)
