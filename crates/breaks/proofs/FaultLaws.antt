-- Where judging finds a break, there is the leftmost fault: of a field, of a record with anything behind it, and of a lone record.
use mathlib.Core.Bool.{Bool, true, false, cond, not}
use mathlib.Core.Logic.{◌⊎◌, inl, inr, ⊎_elim}
use mathlib.Core.Path.{◌≡◌, refl, sym, ap, ◌∙◌, subst}
use mathlib.Core.List.{List, [], ◌∷◌, ◌++◌}
use Prim.Native.Nat.{ℕ, zero, suc, ◌+◌, ◌*◌, ◌-◌, ◌<◌, ◌≤◌, zero-le}
use native.Mathlib.Omega.{arith}
use lib.Dec.{leb, ltb, eqb, lit<, lit≤}
use lib.ListN.{length, get_or, take, drop, length-drop, drop_of_length-le}
use lib.Seq.{drop-cons, get_or-drop, length-take-le}
use borrow.Author.Tests.{leb-true, leb-false, ltb-true, ltb-false, eqb-true, eqb-false, not-true, not-false}
use Rattle.refusal.specs.Numbers.{ended_refused}
use Rattle.fields.specs.Bytes.{field_bytes, Octets}
use Rattle.fields.specs.Places.{u16_at}
use Rattle.format.proofs.EntryLaws.{knot-small}
use Rattle.format.specs.RecordPlaces.{knots_field, x_field, y_field, record_end}
use Rattle.fault.specs.Fault.{FileKind, Fault}
use Rattle.fault.proofs.FirstFieldLaws.{FirstField}
use Rattle.fault.proofs.FieldFaultLaws.{at_place, fault-tag, fault-tag-alone, fault-in-length, fault-length, fault-short, fault-behind}
use Rattle.fault.proofs.ChainLaws.{Some, needed-first, needed-some, needed-none}
use Rattle.taken_field.specs.Taking.{ended_at, tag_at, length_at, length_ok, field_at}
use Rattle.layout.specs.Judging.{then_field, degree_rule, knots_rule, x_rule, y_rule, from_knots, from_x, from_y, sound, record_layout}
use Rattle.taken_field.specs.declared.Rule.{Rule}
use Rattle.taken_field.specs.declared.Break.{Break}
use Rattle.refusal.specs.Answers.{number_of}
use Rattle.refusal.specs.declared.Refusal.{Refusal}
use Rattle.std.specs.Prelude.{Result, Ok, Err}
use Rattle.layout.specs.declared.Layout.{Layout}
use Rattle.layout.proofs.SplitLaws.{Whole, broken-field, three-ahead, field-known, field-split, broken-layout, layout-known, length-least, length_most, length-right}
use Rattle.breaks.proofs.ChainLaws.{ruled, record_then}

-- the break that was found is the leftmost fault of the bytes from a place on
pub record BreaksFrom (kind : FileKind) (bytes : List ℕ) (at : ℕ) (found : Break) : Type 0 where
  pub place : ℕ
  pub there : at + place ≡ found.place
  pub fault : Fault kind (drop at bytes) (number_of found.refusal) place

-- a test that gives a break: it holds and this is the break, or it does not and what is judged next breaks
broken-by : (b : Bool) (fault found : Break) (next : Result ℕ Break) → cond b (Err fault) next ≡ Err found
    → ((b ≡ true) × (fault ≡ found)) ⊎ ((b ≡ false) × (next ≡ Err found))
broken-by true fault found next e = inl (refl, cc)
broken-by false fault found next e = inr (refl, e)

octets-take : (n : ℕ) (bytes : List ℕ) → Octets bytes → Octets (take n bytes)
octets-take zero bytes octets i = omega arith
octets-take (suc n) [] octets i = octets i
octets-take (suc n) (b ∷ bytes) octets zero = octets 0
octets-take (suc n) (b ∷ bytes) octets (suc i) = octets-take n bytes (λ i. octets (suc i)) i

octets-drop : (bytes : List ℕ) → Octets bytes → (at : ℕ) → Octets (drop at bytes)
octets-drop bytes octets at i = rw (get_or-drop at bytes i 0) (octets (at + i))

module _ (rule : Rule) (kind next : FileKind) (first : FirstField rule.tag (length_ok rule) kind next) (bytes : List ℕ) (octets : Octets bytes) (at : ℕ) where
  -- a fault of the bytes from the place on, by what they are
  from-here : {refusal : Refusal} {p : ℕ} (w : List ℕ) (found : Break) → drop at bytes ≡ w → record { refusal = refusal; place = at + p } ≡ found → Fault kind w (number_of refusal) p → BreaksFrom kind bytes at found
  from-here {refusal} {p} w found e is_found fault =
      subst (BreaksFrom kind bytes at) is_found (record { place = p; there = refl; fault = subst (λ (l : List ℕ). Fault kind l (number_of refusal) p) (sym e) fault })

  module _ (more : at < length bytes) where
    one-ahead : drop at bytes ≡ get_or bytes at 0 ∷ drop (suc at) bytes
    one-ahead = drop-cons bytes at 0 more

    wrong-tag : (found : Break) → (get_or bytes at 0 ≡ rule.tag → ⊥) → tag_at at ≡ found → BreaksFrom kind bytes at found
    wrong-tag found other e =
        from-here (get_or bytes at 0 ∷ drop (suc at) bytes) found one-ahead (ap tag_at (omega arith) ∙ e) (fault-tag first (get_or bytes at 0) (drop (suc at) bytes) other)

    module _ (tag : get_or bytes at 0 ≡ rule.tag) where
      headless : (found : Break) → length bytes < at + 3 → ended_at (length bytes) ≡ found → BreaksFrom kind bytes at found
      headless found few e = by (leb (length bytes) (suc at)) refl
        where
          tagged : drop at bytes ≡ rule.tag ∷ drop (suc at) bytes
          tagged = one-ahead ∙ ap (λ (b : ℕ). b ∷ drop (suc at) bytes) tag

          by : (b : Bool) → leb (length bytes) (suc at) ≡ b → BreaksFrom kind bytes at found
          by true t =
              let last : length bytes ≤ suc at = leb-true (length bytes) (suc at) t in
              from-here (rule.tag ∷ []) found (tagged ∙ ap (λ (l : List ℕ). rule.tag ∷ l) (drop_of_length-le bytes last)) (ap ended_at (omega arith) ∙ e) (fault-tag-alone first)
          by false t =
              let another : suc at < length bytes = leb-false (length bytes) (suc at) t in
              let last : length bytes ≤ suc (suc at) = omega arith in
              let rest : drop (suc at) bytes ≡ get_or bytes (suc at) 0 ∷ [] =
              drop-cons bytes (suc at) 0 another ∙ ap (λ (l : List ℕ). get_or bytes (suc at) 0 ∷ l) (drop_of_length-le bytes last) in
              from-here (rule.tag ∷ get_or bytes (suc at) 0 ∷ []) found (tagged ∙ ap (λ (l : List ℕ). rule.tag ∷ l) rest) (ap ended_at (omega arith) ∙ e)
              (fault-in-length first (get_or bytes (suc at) 0) (octets (suc at)))

      module _ (head : at + 3 ≤ length bytes) where
        ahead : drop at bytes ≡ rule.tag ∷ get_or bytes (at + 1) 0 ∷ get_or bytes (at + 2) 0 ∷ drop (at + 3) bytes
        ahead = three-ahead bytes at head ∙ ap (λ (b : ℕ). b ∷ get_or bytes (at + 1) 0 ∷ get_or bytes (at + 2) 0 ∷ drop (at + 3) bytes) tag

        size : u16_at bytes (at + 1) ≡ get_or bytes (at + 1) 0 + 256 * get_or bytes (at + 2) 0
        size = let next : at + 1 + 1 ≡ at + 2 = omega arith in ap (λ (k : ℕ). get_or bytes (at + 1) 0 + 256 * get_or bytes k 0) next

        wrong-length : (found : Break) → length_ok rule (u16_at bytes (at + 1)) ≡ false → length_at (at + 1) ≡ found → BreaksFrom kind bytes at found
        wrong-length found wrong e =
            from-here (rule.tag ∷ get_or bytes (at + 1) 0 ∷ get_or bytes (at + 2) 0 ∷ drop (at + 3) bytes) found ahead e
            (fault-length first (get_or bytes (at + 1) 0) (get_or bytes (at + 2) 0) (drop (at + 3) bytes) (ap (length_ok rule) (sym size) ∙ wrong))

        cut_off : (found : Break) → length_ok rule (u16_at bytes (at + 1)) ≡ true → length bytes < at + 3 + u16_at bytes (at + 1) → ended_at (length bytes) ≡ found → BreaksFrom kind bytes at found
        cut_off found right cut e =
            let left : length (drop (at + 3) bytes) ≡ length bytes - (at + 3) = length-drop (at + 3) bytes in
            from-here (rule.tag ∷ get_or bytes (at + 1) 0 ∷ get_or bytes (at + 2) 0 ∷ drop (at + 3) bytes) found ahead (ap ended_at (omega arith) ∙ e)
            (fault-short first (get_or bytes (at + 1) 0) (get_or bytes (at + 2) 0) (drop (at + 3) bytes) (octets (at + 1)) (octets (at + 2)) (ap (length_ok rule) (sym size) ∙ right)
            (omega (arith, size)) (octets-drop bytes octets (at + 3)))

  -- the judging of a field, from each of its tests on
  abbrev contents_on : Result ℕ Break
  contents_on = cond (ltb (length bytes) (at + 3 + u16_at bytes (at + 1))) (Err (ended_at (length bytes))) (Ok (u16_at bytes (at + 1)))

  abbrev length_on : Result ℕ Break
  length_on = cond (not (length_ok rule (u16_at bytes (at + 1)))) (Err (length_at (at + 1))) contents_on

  abbrev head_on : Result ℕ Break
  head_on = cond (ltb (length bytes) (at + 3)) (Err (ended_at (length bytes))) length_on

  abbrev tag_on : Result ℕ Break
  tag_on = cond (not (eqb (get_or bytes at 0) rule.tag)) (Err (tag_at at)) head_on

  module _ (found : Break) where
    contents-break : at < length bytes → get_or bytes at 0 ≡ rule.tag → at + 3 ≤ length bytes → length_ok rule (u16_at bytes (at + 1)) ≡ true → contents_on ≡ Err found
        → BreaksFrom kind bytes at found
    contents-break more tag head right e =
        ⊎_elim (λ b. cut_off more tag head found right (ltb-true (length bytes) (at + 3 + u16_at bytes (at + 1)) b.0) b.1)
        (λ b. absurd (broken-field found (u16_at bytes (at + 1)) (sym b.1)))
        (broken-by _ (ended_at (length bytes)) found (Ok (u16_at bytes (at + 1))) e)

    length-breaks : at < length bytes → get_or bytes at 0 ≡ rule.tag → at + 3 ≤ length bytes → length_on ≡ Err found → BreaksFrom kind bytes at found
    length-breaks more tag head e =
        ⊎_elim (λ b. wrong-length more tag head found (not-true _ b.0) b.1) (λ b. contents-break more tag head (not-false _ b.0) b.1)
        (broken-by _ (length_at (at + 1)) found contents_on e)

    head-breaks : at < length bytes → get_or bytes at 0 ≡ rule.tag → head_on ≡ Err found → BreaksFrom kind bytes at found
    head-breaks more tag e =
        ⊎_elim (λ b. headless more tag found (ltb-true (length bytes) (at + 3) b.0) b.1) (λ b. length-breaks more tag (ltb-false (length bytes) (at + 3) b.0) b.1)
        (broken-by _ (ended_at (length bytes)) found length_on e)

    tag-breaks : at < length bytes → tag_on ≡ Err found → BreaksFrom kind bytes at found
    tag-breaks more e =
        ⊎_elim (λ b. wrong-tag more found (eqb-false (get_or bytes at 0) rule.tag (not-true _ b.0)) b.1)
        (λ b. head-breaks more (eqb-true (get_or bytes at 0) rule.tag (not-false _ b.0)) b.1)
        (broken-by _ (tag_at at) found head_on e)

    -- a field that is not taken breaks where it was said; `none` is for bytes that have ended in front of it
    pub field-breaks : at ≤ length bytes → (length bytes ≤ at → Fault kind [] ended_refused 0) → field_at rule bytes at ≡ Err found → BreaksFrom kind bytes at found
    unfolding field_at
    field-breaks inside none e =
        ⊎_elim (λ b. ended (leb-true (length bytes) at b.0) b.1) (λ b. tag-breaks (leb-false (length bytes) at b.0) b.1)
        (broken-by (leb (length bytes) at) (ended_at (length bytes)) found tag_on e)
      where
        ended : length bytes ≤ at → ended_at (length bytes) ≡ found → BreaksFrom kind bytes at found
        ended over f = from-here [] found (drop_of_length-le bytes over) (ap ended_at (omega arith) ∙ f) (none over)

    -- behind a field that was taken
    pub break-behind : (len after : ℕ) → Whole rule bytes at len → at + 3 + len ≡ after → BreaksFrom next bytes after found → BreaksFrom kind bytes at found
    break-behind len after whole is_after breaks =
        let contents : List ℕ = take len (drop (at + 3) bytes) in
        let split : drop at bytes ≡ field_bytes rule.tag contents ++ drop after bytes =
        field-split rule bytes at len octets whole ∙ ap (λ (k : ℕ). field_bytes rule.tag contents ++ drop k bytes) is_after in
        let size : length contents ≡ len = length-take-le len (drop (at + 3) bytes) (omega (arith, whole.inside, length-drop (at + 3) bytes)) in
        record {
          place = length (field_bytes rule.tag contents) + breaks.place;
          there = omega (arith, breaks.there);
          fault =
              subst (λ (l : List ℕ). Fault kind l (number_of found.refusal) (length (field_bytes rule.tag contents) + breaks.place)) (sym split)
              (fault-behind first contents (omega (arith, whole.size, knot-small bytes octets (at + 1))) (ap (length_ok rule) size ∙ whole.right) (octets-take len (drop (at + 3) bytes) (octets-drop bytes octets (at + 3)))
              (drop after bytes) breaks.fault);
        }

-- what follows a field that is broken, or is taken and then broken
taken-or-broken : (t : Result ℕ Break) (next : ℕ → Result Layout Break) (found : Break) → then_field t next ≡ Err found → (t ≡ Err found) ⊎ ((len : ℕ) × (t ≡ Ok len) × (next len ≡ Err found))
taken-or-broken (Ok len) next found e = inr (len, refl, e)
taken-or-broken (Err fault) next found e = inl (cc)

module _ (tail : FileKind) (some : Some tail) (bytes : List ℕ) (octets : Octets bytes) where
  abbrev at_y : FileKind
  at_y = ruled y_rule tail

  abbrev at_x : FileKind
  at_x = ruled x_rule at_y

  abbrev at_knots : FileKind
  at_knots = ruled knots_rule at_x

  y-right : length_ok y_rule 0 ≡ true
  y-right = length-right y_rule 0 zero-le zero-le (eqb-false 4 0 refl) refl

  x-right : length_ok x_rule 0 ≡ true
  x-right = length-right x_rule 0 zero-le zero-le (eqb-false 4 0 refl) refl

  knots-right : length_ok knots_rule 0 ≡ true
  knots-right = length-right knots_rule 0 zero-le zero-le (eqb-false 2 0 refl) refl

  degree-right : length_ok degree_rule 1 ≡ true
  degree-right = length-right degree_rule 1 (lit≤ tt) (lit≤ tt) (eqb-false 1 0 refl) refl

  some_y : Some at_y
  some_y = needed-some y_rule.tag (length_ok y_rule) 0 (lit< tt) y-right tail some

  some_x : Some at_x
  some_x = needed-some x_rule.tag (length_ok x_rule) 0 (lit< tt) x-right at_y some_y

  some_knots : Some at_knots
  some_knots = needed-some knots_rule.tag (length_ok knots_rule) 0 (lit< tt) knots-right at_x some_x

  first_y : FirstField y_rule.tag (length_ok y_rule) at_y tail
  first_y = needed-first y_rule.tag (length_ok y_rule) 0 (lit< tt) y-right tail some

  first_x : FirstField x_rule.tag (length_ok x_rule) at_x at_y
  first_x = needed-first x_rule.tag (length_ok x_rule) 0 (lit< tt) x-right at_y some_y

  first_knots : FirstField knots_rule.tag (length_ok knots_rule) at_knots at_x
  first_knots = needed-first knots_rule.tag (length_ok knots_rule) 0 (lit< tt) knots-right at_x some_x

  first_degree : FirstField degree_rule.tag (length_ok degree_rule) (record_then tail) at_knots
  first_degree = needed-first degree_rule.tag (length_ok degree_rule) 1 (lit< tt) degree-right at_knots some_knots

  module _ (found : Break) where
    y-breaks : (k x : ℕ) → y_field k x ≤ length bytes → from_y bytes k x ≡ Err found → BreaksFrom at_y bytes (y_field k x) found
    y-breaks k x inside e =
        ⊎_elim (field-breaks y_rule at_y tail first_y bytes octets (y_field k x) found inside (λ _. needed-none y_rule.tag (length_ok y_rule) 0 (lit< tt) y-right tail some))
        (λ t. absurd (broken-layout k x t.0 found (sym t.2)))
        (taken-or-broken (field_at y_rule bytes (y_field k x)) (λ y. sound k x y) found e)

    x-breaks : (k : ℕ) → x_field k ≤ length bytes → from_x bytes k ≡ Err found → BreaksFrom at_x bytes (x_field k) found
    x-breaks k inside e =
        ⊎_elim (field-breaks x_rule at_x at_y first_x bytes octets (x_field k) found inside (λ _. needed-none x_rule.tag (length_ok x_rule) 0 (lit< tt) x-right at_y some_y))
        (λ t.
        let whole : Whole x_rule bytes (x_field k) t.0 = field-known x_rule bytes (x_field k) t.0 t.1 in
        break-behind x_rule at_x at_y first_x bytes octets (x_field k) found t.0 (y_field k t.0) whole (omega arith) (y-breaks k t.0 (omega (arith, whole.inside)) t.2))
        (taken-or-broken (field_at x_rule bytes (x_field k)) (λ x. from_y bytes k x) found e)

    knots-break : knots_field ≤ length bytes → from_knots bytes ≡ Err found → BreaksFrom at_knots bytes knots_field found
    knots-break inside e =
        ⊎_elim (field-breaks knots_rule at_knots at_x first_knots bytes octets knots_field found inside (λ _. needed-none knots_rule.tag (length_ok knots_rule) 0 (lit< tt) knots-right at_x some_x))
        (λ t.
        let whole : Whole knots_rule bytes knots_field t.0 = field-known knots_rule bytes knots_field t.0 t.1 in
        break-behind knots_rule at_knots at_x first_knots bytes octets knots_field found t.0 (x_field t.0) whole (omega arith) (x-breaks t.0 (omega (arith, whole.inside)) t.2))
        (taken-or-broken (field_at knots_rule bytes knots_field) (λ k. from_x bytes k) found e)

    -- a record that is broken, whatever may stand behind it
    pub record-breaks : record_layout bytes ≡ Err found → BreaksFrom (record_then tail) bytes 0 found
    unfolding record_layout
    record-breaks e =
        ⊎_elim
        (field-breaks degree_rule (record_then tail) at_knots first_degree bytes octets 0 found zero-le
        (λ _. needed-none degree_rule.tag (length_ok degree_rule) 1 (lit< tt) degree-right at_knots some_knots))
        (λ t.
        let whole : Whole degree_rule bytes 0 t.0 = field-known degree_rule bytes 0 t.0 t.1 in
        let one : t.0 ≡ 1 = omega (arith, length-least degree_rule t.0 whole.right, length_most degree_rule t.0 whole.right) in
        break-behind degree_rule (record_then tail) at_knots first_degree bytes octets 0 found t.0 knots_field whole (omega arith) (knots-break (omega (arith, whole.inside)) t.2))
        (taken-or-broken (field_at degree_rule bytes 0) (λ d. from_knots bytes) found e)

    -- a record that is not, with something broken behind it
    pub break-behind-record : (k x y : ℕ) → record_layout bytes ≡ sound k x y → BreaksFrom tail bytes (record_end k x y) found → BreaksFrom (record_then tail) bytes 0 found
    break-behind-record k x y e breaks =
        let laid = layout-known k x y bytes e in
        break-behind degree_rule (record_then tail) at_knots first_degree bytes octets 0 found 1 knots_field laid.degree refl
        (break-behind knots_rule at_knots at_x first_knots bytes octets knots_field found k (x_field k) laid.knots (omega arith)
        (break-behind x_rule at_x at_y first_x bytes octets (x_field k) found x (y_field k x) laid.on_x (omega arith)
        (break-behind y_rule at_y tail first_y bytes octets (y_field k x) found y (record_end k x y) laid.on_y (omega arith) breaks)))

-- from the front on: the break is the fault
pub breaks-fault : {kind : FileKind} {bytes : List ℕ} {found : Break} → BreaksFrom kind bytes 0 found → Fault kind bytes (number_of found.refusal) found.place
breaks-fault {found = found} breaks = at_place found.place (omega (arith, breaks.there)) breaks.fault
