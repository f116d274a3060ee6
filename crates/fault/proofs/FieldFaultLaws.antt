-- The faults of bytes that should begin with a field: in its tag, in its length, in its contents, and behind it.
use mathlib.Core.Bool.{Bool, true, false, cond}
use mathlib.Core.Logic.{◌⊎◌, inl, inr}
use mathlib.Core.Path.{◌≡◌, refl, sym, ap, ◌∙◌, subst}
use mathlib.Core.List.{List, [], ◌∷◌, ◌++◌, append_assoc}
use Prim.Native.Nat.{ℕ, zero, suc, ◌+◌, ◌*◌, ◌-◌, ◌/◌, ◌%◌, ◌<◌, ◌≤◌}
use native.Mathlib.Omega.{arith}
use lib.Dec.{leb, eqb}
use lib.ListN.{length, take, replicate, length-append, length-replicate}
use lib.Seq.{take-append-add}
use borrow.Author.Tests.{leb-true, leb-false, eqb-true, eqb-false}
use Rattle.fields.specs.Bytes.{field_bytes, Octets}
use Rattle.refusal.specs.Numbers.{ended_refused, tag_refused, length_refused}
use Rattle.format.proofs.EntryLaws.{pair-low, pair-high}
use Rattle.format.proofs.InjectiveLaws.{field-injective}
use Rattle.fault.specs.Fault.{FileKind, Begins, WholeFields, Stops, Fault, ends_early, ends_in_length, wrong_tag, wrong_length, left_over}
use Rattle.fault.proofs.OneFaultLaws.{begins-shorter}
use Rattle.fault.proofs.FirstFieldLaws.{FieldThen, FirstField, then-long, then-tag, then-low, then-length, octets-append}

pub no_fields : WholeFields []
no_fields = record { fields = []; same = refl }

pub fields-behind : (tag : ℕ) (contents : List ℕ) → length contents < 65536 → (front : List ℕ) → WholeFields front → WholeFields (field_bytes tag contents ++ front)
fields-behind tag contents short front whole =
    record {
      fields = record { tag = tag; contents = contents; short = short } ∷ whole.fields;
      same = ap (λ (l : List ℕ). field_bytes tag contents ++ l) whole.same;
    }

pub zeros : (n : ℕ) → Octets (replicate n 0)
zeros zero i = omega arith
zeros (suc n) zero = omega arith
zeros (suc n) (suc i) = zeros n i

lt_of_le_of_ne : (k n : ℕ) → k < suc n → (k ≡ n → ⊥) → k < n
lt_of_le_of_ne k n h ne = by (leb n k) refl
  where
    by : (b : Bool) → leb n k ≡ b → k < n
    by true e = absurd (ne (omega (arith, leb-true n k e)))
    by false e = leb-false n k e

-- a test on the numbers below n: some passes, or none does
abbrev Passing : (ℕ → Bool) → ℕ → Type 0
Passing test n = (k : ℕ) × (k < n) × (test k ≡ true)

search-below : (test : ℕ → Bool) (n : ℕ) → Passing test n ⊎ (Passing test n → ⊥)
search-below test zero = inr (λ p. omega (arith, p.1))
search-below test (suc n) = by (test n) refl (search-below test n)
  where
    lower : test n ≡ false → Passing test (suc n) → Passing test n
    lower e (k, h, t) = differs (eqb k n) refl
      where
        differs : (b : Bool) → eqb k n ≡ b → Passing test n
        differs true q = absurd (let clash : ◌≡◌ {A = ℕ} 1 0 = ap (λ (b : Bool). cond b 1 0) (sym t ∙ ap test (eqb-true k n q) ∙ e) in omega arith)
        differs false q = (k, lt_of_le_of_ne k n h (eqb-false k n q), t)

    by : (b : Bool) → test n ≡ b → Passing test n ⊎ (Passing test n → ⊥) → Passing test (suc n) ⊎ (Passing test (suc n) → ⊥)
    by true e below = inl (n, omega arith, e)
    by false e (inl found) = inl (found.0, omega (arith, found.1), found.2)
    by false e (inr none) = inr (λ p. none (lower e p))

-- a fault told by an equal place
pub at_place : {kind : FileKind} {bytes : List ℕ} {n p : ℕ} (q : ℕ) → p ≡ q → Fault kind bytes n p → Fault kind bytes n q
at_place {kind} {bytes} {n} q e f = subst (Fault kind bytes n) e f

module _ {tag : ℕ} {ok : ℕ → Bool} {kind next : FileKind} (first : FirstField tag ok kind next) where
  -- a head of a right length, and contents as far as they go: the rest of the contents may be zeros
  begins-field : (low high : ℕ) (contents : List ℕ) → low < 256 → high < 256 → ok (low + 256 * high) ≡ true → length contents ≤ low + 256 * high
      → Octets contents → Begins kind (tag ∷ low ∷ high ∷ contents)
  begins-field low high contents is_low is_high right fits octets =
      let pad : List ℕ = replicate (low + 256 * high - length contents) 0 in
      let whole : List ℕ = contents ++ pad in
      let size : low + 256 * high ≡ length whole = omega (arith, length-append contents pad, length-replicate {A = ℕ} (low + 256 * high - length contents) 0) in
      let low_is : low ≡ length whole % 256 = pair-low low high (length whole) is_low size in
      let high_is : high ≡ length whole / 256 % 256 = pair-high low high (length whole) is_low is_high size in (
        pad ++ first.file,
        first.from _
            (record {
              contents = whole;
              rest = first.file;
              same =
                  ap (λ (l : List ℕ). tag ∷ low ∷ high ∷ l) (sym (append_assoc contents pad first.file))
                  ∙ ap (λ (b : ℕ). tag ∷ b ∷ high ∷ (whole ++ first.file)) low_is
                  ∙ ap (λ (b : ℕ). tag ∷ length whole % 256 ∷ b ∷ (whole ++ first.file)) high_is;
              short = omega arith;
              right = ap ok (sym size) ∙ right;
              octets = octets-append contents pad octets (zeros (low + 256 * high - length contents));
              next = first.is_file;
            }),
      )

  -- a head alone
  begins-head : (low high : ℕ) → low < 256 → high < 256 → ok (low + 256 * high) ≡ true → Begins kind (tag ∷ low ∷ high ∷ [])
  begins-head low high is_low is_high right = begins-field low high [] is_low is_high right (omega arith) (λ i. omega arith)

  some-head : Begins kind (tag ∷ first.size % 256 ∷ first.size / 256 % 256 ∷ [])
  some-head =
      let short : first.size < 65536 = first.short in
      let whole : first.size % 256 + 256 * (first.size / 256 % 256) ≡ first.size = omega arith in
      begins-head (first.size % 256) (first.size / 256 % 256) (omega arith) (omega arith) (ap ok whole ∙ first.right)

  begins-tag : Begins kind (tag ∷ [])
  begins-tag = begins-shorter kind (tag ∷ first.size % 256 ∷ first.size / 256 % 256 ∷ []) 1 3 (omega arith) some-head

  pub begins-nothing : Begins kind []
  begins-nothing = begins-shorter kind (tag ∷ first.size % 256 ∷ first.size / 256 % 256 ∷ []) 0 3 (omega arith) some-head

  -- 19: another tag
  pub fault-tag : (t : ℕ) (bytes : List ℕ) → (t ≡ tag → ⊥) → Fault kind (t ∷ bytes) tag_refused 0
  fault-tag t bytes other =
      wrong_tag 0
      (record { fields = no_fields; begins = begins-nothing; never = λ begins. other (then-tag t begins.0 (first.into t begins.0 begins.1)); inside = omega arith })
      (λ full. omega (arith, then-long [] (first.full_into [] full)))

  -- too few bytes for a field are no file, unless there is none at all
  too_few : (b : ℕ) (bs : List ℕ) → length (b ∷ bs) < 3 → kind.Is (b ∷ bs) → ⊥
  too_few b bs few is = omega (arith, then-long (b ∷ bs) (first.into b bs is))

  -- 16: a tag alone
  pub fault-tag-alone : Fault kind (tag ∷ []) ended_refused 1
  fault-tag-alone = ends_early (too_few tag [] (omega arith)) begins-tag

  -- 16: a tag and one byte of its length, whether or not a right length begins so
  pub fault-in-length : (low : ℕ) → low < 256 → Fault kind (tag ∷ low ∷ []) ended_refused 2
  fault-in-length low is_low = by (search-below (λ high. ok (low + 256 * high)) 256)
    where
      by : Passing (λ high. ok (low + 256 * high)) 256 ⊎ (Passing (λ high. ok (low + 256 * high)) 256 → ⊥) → Fault kind (tag ∷ low ∷ []) ended_refused 2
      by (inl (high, is_high, right)) =
          ends_early (too_few tag (low ∷ []) (omega arith)) (begins-shorter kind (tag ∷ low ∷ high ∷ []) 2 3 (omega arith) (begins-head low high is_low is_high right))
      by (inr none) = ends_in_length 0 (record { fields = no_fields; begins = begins-tag; never = never; inside = omega arith }) refl
        where
          never : Begins kind (tag ∷ low ∷ []) → ⊥
          never (rest, is) =
              let field : FieldThen tag ok next.Is (tag ∷ low ∷ rest) = first.into tag (low ∷ rest) is in
              let short : length field.contents < 65536 = field.short in
              let is_low : low ≡ length field.contents % 256 = then-low tag low rest field in
              let whole : low + 256 * (length field.contents / 256) ≡ length field.contents = omega arith in
              none (length field.contents / 256, omega arith, ap ok whole ∙ field.right)

  -- 20: a length that is not right
  pub fault-length : (low high : ℕ) (bytes : List ℕ) → ok (low + 256 * high) ≡ false → Fault kind (tag ∷ low ∷ high ∷ bytes) length_refused 1
  fault-length low high bytes wrong = wrong_length 0 (record { fields = no_fields; begins = begins-tag; never = never; inside = omega arith })
    where
      never : Begins kind (tag ∷ low ∷ high ∷ []) → ⊥
      never (rest, is) =
          let field : FieldThen tag ok next.Is (tag ∷ low ∷ high ∷ rest) = first.into tag (low ∷ high ∷ rest) is in
          let clash : ◌≡◌ {A = ℕ} 1 0 = ap (λ (b : Bool). cond b 1 0) (sym field.right ∙ ap ok (sym (then-length tag low high rest field)) ∙ wrong) in
          omega arith

  -- 16: contents that are cut off
  pub fault-short : (low high : ℕ) (bytes : List ℕ) → low < 256 → high < 256 → ok (low + 256 * high) ≡ true → length bytes < low + 256 * high → Octets bytes
      → Fault kind (tag ∷ low ∷ high ∷ bytes) ended_refused (3 + length bytes)
  fault-short low high bytes is_low is_high right cut octets =
      at_place (3 + length bytes) (omega arith) (ends_early none (begins-field low high bytes is_low is_high right (omega arith) octets))
    where
      none : kind.Is (tag ∷ low ∷ high ∷ bytes) → ⊥
      none is =
          let field : FieldThen tag ok next.Is (tag ∷ low ∷ high ∷ bytes) = first.into tag (low ∷ high ∷ bytes) is in
          omega (arith, then-length tag low high bytes field, then-long (tag ∷ low ∷ high ∷ bytes) field)

  -- behind a whole field: what is so of the next kind's files is so behind it
  module _ (contents : List ℕ) (short : length contents < 65536) (right : ok (length contents) ≡ true) (octets : Octets contents) where
    file-behind : (bytes : List ℕ) → next.Is bytes → kind.Is (field_bytes tag contents ++ bytes)
    file-behind bytes is = first.from _ (record { contents = contents; rest = bytes; same = refl; short = short; right = right; octets = octets; next = is })

    next_of : {P : List ℕ → Type 0} (bytes : List ℕ) → FieldThen tag ok P (field_bytes tag contents ++ bytes) → P bytes
    next_of {P} bytes field = subst P (sym (field-injective tag contents field.contents bytes field.rest short field.short field.same).1) field.next

    file-ahead : (bytes : List ℕ) → kind.Is (field_bytes tag contents ++ bytes) → next.Is bytes
    file-ahead bytes is = next_of bytes (first.into _ _ is)

    begins-behind : (front : List ℕ) → Begins next front → Begins kind (field_bytes tag contents ++ front)
    begins-behind front (rest, is) =
        (rest, subst kind.Is (sym (append_assoc (field_bytes tag contents) front rest)) (file-behind (front ++ rest) is))

    begins-ahead : (front : List ℕ) → Begins kind (field_bytes tag contents ++ front) → Begins next front
    begins-ahead front (rest, is) = (rest, file-ahead (front ++ rest) (subst kind.Is (append_assoc (field_bytes tag contents) front rest) is))

    module _ (bytes : List ℕ) where
      beyond : (k : ℕ) → take (length (field_bytes tag contents) + k) (field_bytes tag contents ++ bytes) ≡ field_bytes tag contents ++ take k bytes
      beyond k = take-append-add (field_bytes tag contents) bytes k

      stops-behind : {at near far : ℕ} (here nearer farther : ℕ) → length (field_bytes tag contents) + at ≡ here → length (field_bytes tag contents) + near ≡ nearer → length (field_bytes tag contents) + far ≡ farther
          → Stops next bytes at near far → Stops kind (field_bytes tag contents ++ bytes) here nearer farther
      stops-behind {at} {near} {far} here nearer farther is_here is_near is_far stops =
          let taken : (k there : ℕ) → length (field_bytes tag contents) + k ≡ there → take there (field_bytes tag contents ++ bytes) ≡ field_bytes tag contents ++ take k bytes =
          λ k there e. ap (λ (i : ℕ). take i (field_bytes tag contents ++ bytes)) (sym e) ∙ beyond k in
          record {
            fields = subst WholeFields (sym (taken at here is_here)) (fields-behind tag contents short (take at bytes) stops.fields);
            begins = subst (Begins kind) (sym (taken near nearer is_near)) (begins-behind (take near bytes) stops.begins);
            never = λ begins. stops.never (begins-ahead (take far bytes) (subst (Begins kind) (taken far farther is_far) begins));
            inside = omega (arith, stops.inside, length-append (field_bytes tag contents) bytes);
          }

      full-ahead : (at : ℕ) → kind.Full (take (length (field_bytes tag contents) + at) (field_bytes tag contents ++ bytes)) → next.Full (take at bytes)
      full-ahead at full = next_of (take at bytes) (first.full_into _ (subst kind.Full (beyond at) full))

      full-behind : (at : ℕ) → next.Full (take at bytes) → kind.Full (take (length (field_bytes tag contents) + at) (field_bytes tag contents ++ bytes))
      full-behind at full =
          subst kind.Full (sym (beyond at))
          (first.full_from _ (record { contents = contents; rest = take at bytes; same = refl; short = short; right = right; octets = octets; next = full }))

      pub fault-behind : {n p : ℕ} → Fault next bytes n p → Fault kind (field_bytes tag contents ++ bytes) n (length (field_bytes tag contents) + p)
      fault-behind (ends_early none begins) =
          at_place _ (length-append (field_bytes tag contents) bytes) (ends_early (λ is. none (file-ahead bytes is)) (begins-behind bytes begins))
      fault-behind (ends_in_length at stops e) =
          at_place _ (length-append (field_bytes tag contents) bytes)
          (ends_in_length (length (field_bytes tag contents) + at) (stops-behind _ _ _ refl (omega arith) (omega arith) stops) (omega (arith, length-append (field_bytes tag contents) bytes)))
      fault-behind (wrong_tag at stops more) =
          wrong_tag (length (field_bytes tag contents) + at) (stops-behind _ _ _ refl refl (omega arith) stops) (λ full. more (full-ahead at full))
      fault-behind (wrong_length at stops) =
          at_place _ (omega arith) (wrong_length (length (field_bytes tag contents) + at) (stops-behind _ _ _ refl (omega arith) (omega arith) stops))
      fault-behind (left_over at stops full) =
          left_over (length (field_bytes tag contents) + at) (stops-behind _ _ _ refl refl (omega arith) stops) (full-behind at full)
