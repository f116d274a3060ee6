-- A lone record has its leftmost fault where judging finds its break, and none exactly where it is judged sound.
use Rattle.std.specs.Prelude.{Result, Ok, Err}
use Rattle.refusal.specs.Answers.{number_of}
use mathlib.Core.Bool.{Bool, true, false, cond}
use mathlib.Core.Logic.{◌⊎◌, inl, inr}
use mathlib.Core.Path.{◌≡◌, refl, sym, ap, ◌∙◌, subst}
use mathlib.Core.List.{List, [], ◌∷◌, ◌++◌, append-nil}
use Prim.Native.Nat.{ℕ, zero, suc, zero-le}
use native.Mathlib.Omega.{arith}
use lib.Dec.{leb}
use lib.ListN.{length, take, drop}
use lib.Seq.{drop-cons}
use borrow.Author.Tests.{leb-false}
use Rattle.refusal.specs.Numbers.{left_over_refused}
use Rattle.fields.specs.Bytes.{Octets}
use Rattle.format.specs.Format.{form1, record_bytes, IsRecord}
use Rattle.format.specs.RecordPlaces.{record_end}
use Rattle.format.proofs.InjectiveLaws.{Same, form1-injective}
use Rattle.fault.specs.Fault.{FileKind, WholeFields, Fault}
use Rattle.fault.specs.Told.{FaultsTold}
use Rattle.fault.specs.Kinds.{lone_records}
use Rattle.fault.proofs.OneFaultLaws.{one-fault, file-no-fault}
use Rattle.fault.proofs.LeftOverLaws.{left-over-there}
use Rattle.fault.proofs.ChainLaws.{SameKind, fault-same, then-fields, up_to, up_to-some, fault-left-over, row-fields}
use Rattle.taken_field.specs.Taking.{left_over_at, length_ok}
use Rattle.layout.specs.Judging.{y_rule, sound, record_layout, alone, whole_record}
use Rattle.taken_field.specs.declared.Break.{Break}
use Rattle.layout.specs.declared.Layout.{Layout}
use Rattle.layout.proofs.SplitLaws.{broken-layout}
use Rattle.layout.proofs.WholeLaws.{record-of-sound}
use Rattle.breaks.proofs.ChainLaws.{record_then, InFields, record-fields, fields-record}
use Rattle.breaks.proofs.FaultLaws.{BreaksFrom, record-breaks, break-behind-record, breaks-fault}

-- nothing may stand there: no field of any rule
abbrev nothing : FileKind
nothing = up_to y_rule.tag (length_ok y_rule) 0

nothing-none : (bytes : List ℕ) → nothing.Is bytes → bytes ≡ []
nothing-none bytes (zero, h, e) = e
nothing-none bytes (suc k, h, f) = absurd (omega arith)

-- four fields and nothing behind them are a record
lone : (P : List ℕ → Type 0) → ((bytes : List ℕ) → P bytes → bytes ≡ []) → (bytes : List ℕ) → InFields P bytes → IsRecord form1 bytes
lone P none bytes f =
    let r = fields-record P bytes f in
    record {
      m = r.m;
      c = r.c;
      storable = r.storable;
      same =
          r.same
          ∙ ap (λ (l : List ℕ). record_bytes form1 r.m r.c ++ l) (none r.rest r.behind)
          ∙ append-nil (record_bytes form1 r.m r.c);
    }

-- a record is four fields, and nothing behind them
in-fields : (P : List ℕ → Type 0) → P [] → (bytes : List ℕ) → IsRecord form1 bytes → InFields P bytes
in-fields P none bytes w =
    record-fields P bytes
    (record {
      m = w.m;
      c = w.c;
      rest = [];
      storable = w.storable;
      same = w.same ∙ sym (append-nil (record_bytes form1 w.m w.c));
      behind = none;
    })

lone-kind : SameKind (record_then nothing) lone_records
lone-kind =
    record {
      into = lone nothing.Is nothing-none;
      from = in-fields nothing.Is (0, zero-le, refl);
      full_into = lone nothing.Full (λ bytes e. e);
      full_from = in-fields nothing.Full refl;
    }

-- any kind's file that begins with a record's four fields is whole fields, where what stands behind them is
pub fields-whole : (P : List ℕ → Type 0) → ((rest : List ℕ) → P rest → WholeFields rest) → (bytes : List ℕ) → InFields P bytes → WholeFields bytes
fields-whole P whole bytes d =
    let y = d.next.next.next in
    then-fields d (then-fields d.next (then-fields d.next.next (then-fields y (whole y.rest y.next))))

pub record-whole : (bytes : List ℕ) → IsRecord form1 bytes → WholeFields bytes
record-whole bytes w = fields-whole nothing.Full (row-fields y_rule.tag (length_ok y_rule) 0) bytes (in-fields nothing.Full refl bytes w)

-- the lists that bytes are the record of are one
pub one-record : {bytes : List ℕ} (w v : IsRecord form1 bytes) → Same w.m w.c [] v.m v.c []
one-record w v =
    form1-injective w.m w.c [] v.m v.c [] w.storable v.storable (ap (λ (l : List ℕ). l ++ []) (sym w.same ∙ v.same))

module _ (bytes : List ℕ) (octets : Octets bytes) (found : Break) where
  behind-sound : (k x y : ℕ) → record_layout bytes ≡ sound k x y → (b : Bool) → leb (length bytes) (record_end k x y) ≡ b
      → cond b (sound k x y) (Err (left_over_at (record_end k x y))) ≡ Err found → BreaksFrom (record_then nothing) bytes 0 found
  behind-sound k x y e true t a = absurd (broken-layout k x y found (sym a))
  behind-sound k x y e false t a =
      let end : ℕ = record_end k x y in
      let is_found : left_over_at end ≡ found = cc in
      let more : drop end bytes ≡ _ = drop-cons bytes end 0 (leb-false (length bytes) end t) in
      break-behind-record nothing (up_to-some y_rule.tag (length_ok y_rule) 0) bytes octets found k x y e
      (subst (BreaksFrom nothing bytes end) is_found
      (record { place = 0; there = omega arith; fault = subst (λ (l : List ℕ). Fault nothing l left_over_refused 0) (sym more) (fault-left-over y_rule.tag (length_ok y_rule) _ _) }))

  by_layout : (l : Result Layout Break) → record_layout bytes ≡ l → alone bytes l ≡ Err found → BreaksFrom (record_then nothing) bytes 0 found
  by_layout (Ok l) e a = behind-sound l.knots l.xs l.ys e (leb (length bytes) (record_end l.knots l.xs l.ys)) refl a
  by_layout (Err fault) e a = record-breaks nothing (up_to-some y_rule.tag (length_ok y_rule) 0) bytes octets found (e ∙ a)

  -- bytes that are judged broken have their fault there
  pub record-fault : whole_record bytes ≡ Err found → Fault lone_records bytes (number_of found.refusal) found.place
  unfolding whole_record
  record-fault e = fault-same lone-kind bytes (breaks-fault (by_layout (record_layout bytes) refl e))

pub records-told : FaultsTold lone_records
records-told =
    record {
      told = λ bytes octets. by bytes octets (whole_record bytes) refl;
      never = λ bytes number place fault. file-no-fault lone_records bytes fault;
      one = λ bytes number place n p fault found. one-fault lone_records bytes fault found;
      over = λ bytes at inside full.
          left-over-there lone_records bytes at inside full full (record-whole (take at bytes) full) (longer (take at bytes) full);
    }
  where
    by : (bytes : List ℕ) → Octets bytes → (l : Result Layout Break) → whole_record bytes ≡ l → IsRecord form1 bytes ⊎ ((number : ℕ) × (place : ℕ) × Fault lone_records bytes number place)
    by bytes octets (Ok l) e = inl (record-of-sound bytes octets l.knots l.xs l.ys e)
    by bytes octets (Err found) e = inr (number_of found.refusal, found.place, record-fault bytes octets found e)

    longer : (front : List ℕ) → IsRecord form1 front → (b : ℕ) (rest : List ℕ) → IsRecord form1 (front ++ b ∷ rest) → ⊥
    longer front w b rest v =
        let same = form1-injective w.m w.c (b ∷ rest) v.m v.c [] w.storable v.storable
        (ap (λ (l : List ℕ). l ++ b ∷ rest) (sym w.same) ∙ v.same ∙ sym (append-nil (record_bytes form1 v.m v.c))) in
        omega (arith, ap length same.behind)
