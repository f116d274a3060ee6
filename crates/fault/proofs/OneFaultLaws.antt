-- The same bytes have one fault at most, and none where they are a file of their kind.
use mathlib.Core.Bool.{Bool, true, false}
use mathlib.Core.Path.{◌≡◌, refl, sym, ap, ◌∙◌, subst}
use mathlib.Core.List.{List, [], ◌∷◌, ◌++◌, append-nil, append_assoc}
use Prim.Native.Nat.{ℕ, ◌+◌, ◌<◌, ◌≤◌}
use native.Mathlib.Omega.{arith}
use lib.Dec.{leb}
use lib.ListN.{length, get_or, take, drop, length-append, take-append-drop}
use lib.Seq.{take-take, take_all, length-take-le}
use borrow.Author.Tests.{leb-true, leb-false}
use Rattle.fields.specs.Bytes.{each, field_bytes}
use Rattle.format.proofs.InjectiveLaws.{field-injective}
use Rattle.fault.specs.Fault.{FileKind, Begins, Field, bytes_of, WholeFields, Stops, Fault, ends_early, ends_in_length, wrong_tag, wrong_length, left_over}

-- whole fields at the front of the same bytes: as long, or longer by a field's head at least
ends-apart : (fs gs : List Field) (u v : List ℕ) → each bytes_of fs ++ u ≡ each bytes_of gs ++ v
    → length (each bytes_of fs) < length (each bytes_of gs) → length (each bytes_of fs) + 3 ≤ length (each bytes_of gs)
ends-apart [] [] u v e longer = absurd (omega arith)
ends-apart [] (g ∷ gs) u v e longer = omega (arith, length-append (bytes_of g) (each bytes_of gs))
ends-apart (f ∷ fs) [] u v e longer = absurd (omega arith)
ends-apart (f ∷ fs) (g ∷ gs) u v e longer =
    let behind_f : List ℕ = each bytes_of fs ++ u in
    let behind_g : List ℕ = each bytes_of gs ++ v in
    let front : bytes_of f ++ behind_f ≡ bytes_of g ++ behind_g = sym (append_assoc (bytes_of f) (each bytes_of fs) u) ∙ e ∙ append_assoc (bytes_of g) (each bytes_of gs) v in
    let tags : f.tag ≡ g.tag = ap (λ (l : List ℕ). get_or l 0 0) front in
    let apart = field-injective g.tag f.contents g.contents behind_f behind_g f.short g.short (ap (λ (t : ℕ). field_bytes t f.contents ++ behind_f) (sym tags) ∙ front) in
    let same : length f.contents ≡ length g.contents = ap length apart.0 in
    let long_f : length (bytes_of f ++ each bytes_of fs) ≡ length (bytes_of f) + length (each bytes_of fs) = length-append (bytes_of f) (each bytes_of fs) in
    let long_g : length (bytes_of g ++ each bytes_of gs) ≡ length (bytes_of g) + length (each bytes_of gs) = length-append (bytes_of g) (each bytes_of gs) in
    let rest = ends-apart fs gs u v apart.1 (omega arith) in
    omega arith

module _ (kind : FileKind) (bytes : List ℕ) where
  -- fewer bytes begin a file where more do
  pub begins-shorter : (i j : ℕ) → i ≤ j → Begins kind (take j bytes) → Begins kind (take i bytes)
  begins-shorter i j h begins =
      let more : List ℕ = drop i (take j bytes) in
      let split : take j bytes ≡ take i bytes ++ more = sym (take-append-drop i (take j bytes)) ∙ ap (λ (l : List ℕ). l ++ more) (take-take i j bytes h) in
      (more ++ begins.0, subst kind.Is (ap (λ (l : List ℕ). l ++ begins.0) split ∙ append_assoc (take i bytes) more begins.0) begins.1)

  begins-all : (i : ℕ) → Begins kind bytes → Begins kind (take i bytes)
  begins-all i begins = by (leb i (length bytes)) refl
    where
      whole : Begins kind (take (length bytes) bytes)
      whole = subst (Begins kind) (sym (take_all (length bytes) bytes (omega arith))) begins

      by : (b : Bool) → leb i (length bytes) ≡ b → Begins kind (take i bytes)
      by true t = begins-shorter i (length bytes) (leb-true i (length bytes) t) whole
      by false t = subst (Begins kind) (sym (take_all i bytes (omega (arith, leb-false i (length bytes) t)))) begins

  -- bytes that begin a file are fewer than bytes that begin none
  reaches : (near far : ℕ) → Begins kind (take near bytes) → (Begins kind (take far bytes) → ⊥) → near < far
  reaches near far begins never = by (leb far near) refl
    where
      by : (b : Bool) → leb far near ≡ b → near < far
      by true t = absurd (never (begins-shorter far near (leb-true far near t) begins))
      by false t = leb-false far near t

  -- of two ends of whole fields the later one is a field's head behind the other at least
  pub fields-apart : (a b : ℕ) → a < b → b ≤ length bytes → WholeFields (take a bytes) → WholeFields (take b bytes) → a + 3 ≤ b
  fields-apart a b h inside f g =
      let joined : each bytes_of f.fields ++ drop a bytes ≡ each bytes_of g.fields ++ drop b bytes =
      ap (λ (l : List ℕ). l ++ drop a bytes) (sym f.same) ∙ take-append-drop a bytes ∙ sym (take-append-drop b bytes) ∙ ap (λ (l : List ℕ). l ++ drop b bytes) g.same in
      let long_f : length (each bytes_of f.fields) ≡ a = ap length (sym f.same) ∙ length-take-le a bytes (omega arith) in
      let long_g : length (each bytes_of g.fields) ≡ b = ap length (sym g.same) ∙ length-take-le b bytes inside in
      omega (arith, ends-apart f.fields g.fields (drop a bytes) (drop b bytes) joined (omega arith))

  -- a place where the bytes stop: no field's head reaches past `far`
  record Seat (at near far : ℕ) : Type 0 where
    stops : Stops kind bytes at near far
    behind : at ≤ near
    close : far ≤ at + 3

  not-before : {a b near far nearer farther : ℕ} → Seat a near far → Seat b nearer farther → a < b → ⊥
  not-before {a} {b} {near} {far} {nearer} {farther} s t h =
      let first : nearer < far = reaches nearer far t.stops.begins s.stops.never in
      let apart : a + 3 ≤ b = fields-apart a b h (omega (arith, t.behind, s.stops.inside)) s.stops.fields t.stops.fields in
      omega (arith, s.close, t.behind)

  -- the same bytes stop at one place
  record Met (a b near far nearer farther : ℕ) : Type 0 where
    same : a ≡ b
    left : near < farther
    right : nearer < far

  meet : {a b near far nearer farther : ℕ} → Seat a near far → Seat b nearer farther → Met a b near far nearer farther
  meet {a} {b} {near} {far} {nearer} {farther} s t =
      record {
        same = by (leb a b) refl (leb b a) refl;
        left = reaches near farther s.stops.begins t.stops.never;
        right = reaches nearer far t.stops.begins s.stops.never;
      }
    where
      by : (c : Bool) → leb a b ≡ c → (d : Bool) → leb b a ≡ d → a ≡ b
      by true p true q = omega (arith, leb-true a b p, leb-true b a q)
      by false p d q = absurd (not-before t s (leb-false a b p))
      by true p false q = absurd (not-before s t (leb-false b a q))

  at_tag : {at : ℕ} → Stops kind bytes at at (at + 1) → Seat at at (at + 1)
  at_tag s = record { stops = s; behind = omega arith; close = omega arith }

  at_length : {at : ℕ} → Stops kind bytes at (at + 1) (at + 3) → Seat at (at + 1) (at + 3)
  at_length s = record { stops = s; behind = omega arith; close = omega arith }

  in-length : {at : ℕ} → Stops kind bytes at (at + 1) (at + 2) → Seat at (at + 1) (at + 2)
  in-length s = record { stops = s; behind = omega arith; close = omega arith }

  -- where they stop, they begin nothing as a whole
  stops-whole : {at near far : ℕ} → Stops kind bytes at near far → Begins kind bytes → ⊥
  stops-whole {far = far} s begins = s.never (begins-all far begins)

  -- a tag that breaks and a length that does: never both
  tag-or-length : {A : Type 0} {a b far : ℕ} → Seat a a (a + 1) → Seat b (b + 1) far → A
  tag-or-length s t = let met = meet s t in absurd (omega (arith, met.same, met.right))

  -- two faults are one
  pub one-fault : {n p k q : ℕ} → Fault kind bytes n p → Fault kind bytes k q → (n ≡ k) × (p ≡ q)
  one-fault (ends_early none begins) (ends_early nor goes) = (refl, refl)
  one-fault (ends_early none begins) (ends_in_length b t e) = (refl, refl)
  one-fault (ends_early none begins) (wrong_tag b t more) = absurd (stops-whole t begins)
  one-fault (ends_early none begins) (wrong_length b t) = absurd (stops-whole t begins)
  one-fault (ends_early none begins) (left_over b t full) = absurd (stops-whole t begins)
  one-fault (ends_in_length a s e) (ends_early none begins) = (refl, refl)
  one-fault (ends_in_length a s e) (ends_in_length b t f) = (refl, refl)
  one-fault (ends_in_length a s e) (wrong_tag b t more) = tag-or-length (at_tag t) (in-length s)
  one-fault (ends_in_length a s e) (wrong_length b t) = let met = meet (in-length s) (at_length t) in absurd (omega (arith, met.same, e, t.inside))
  one-fault (ends_in_length a s e) (left_over b t full) = tag-or-length (at_tag t) (in-length s)
  one-fault (wrong_tag a s more) (ends_early none begins) = absurd (stops-whole s begins)
  one-fault (wrong_tag a s more) (ends_in_length b t f) = tag-or-length (at_tag s) (in-length t)
  one-fault (wrong_tag a s more) (wrong_tag b t further) = (refl, (meet (at_tag s) (at_tag t)).same)
  one-fault (wrong_tag a s more) (wrong_length b t) = tag-or-length (at_tag s) (at_length t)
  one-fault (wrong_tag a s more) (left_over b t full) = absurd (more (subst (λ (i : ℕ). kind.Full (take i bytes)) (sym (meet (at_tag s) (at_tag t)).same) full))
  one-fault (wrong_length a s) (ends_early none begins) = absurd (stops-whole s begins)
  one-fault (wrong_length a s) (ends_in_length b t f) = let met = meet (at_length s) (in-length t) in absurd (omega (arith, met.same, f, s.inside))
  one-fault (wrong_length a s) (wrong_tag b t more) = tag-or-length (at_tag t) (at_length s)
  one-fault (wrong_length a s) (wrong_length b t) = (refl, ap (λ (i : ℕ). i + 1) (meet (at_length s) (at_length t)).same)
  one-fault (wrong_length a s) (left_over b t full) = tag-or-length (at_tag t) (at_length s)
  one-fault (left_over a s full) (ends_early none begins) = absurd (stops-whole s begins)
  one-fault (left_over a s full) (ends_in_length b t f) = tag-or-length (at_tag s) (in-length t)
  one-fault (left_over a s full) (wrong_tag b t more) = absurd (more (subst (λ (i : ℕ). kind.Full (take i bytes)) (meet (at_tag s) (at_tag t)).same full))
  one-fault (left_over a s full) (wrong_length b t) = tag-or-length (at_tag s) (at_length t)
  one-fault (left_over a s full) (left_over b t whole) = (refl, (meet (at_tag s) (at_tag t)).same)

  -- bytes that are a file have none
  pub file-no-fault : {n p : ℕ} → Fault kind bytes n p → kind.Is bytes → ⊥
  file-no-fault (ends_early none begins) is = none is
  file-no-fault (ends_in_length a s e) is = stops-whole s ([], subst kind.Is (sym (append-nil bytes)) is)
  file-no-fault (wrong_tag a s more) is = stops-whole s ([], subst kind.Is (sym (append-nil bytes)) is)
  file-no-fault (wrong_length a s) is = stops-whole s ([], subst kind.Is (sym (append-nil bytes)) is)
  file-no-fault (left_over a s full) is = stops-whole s ([], subst kind.Is (sym (append-nil bytes)) is)

  -- a fault is a refusal
  pub fault-above : {n p : ℕ} → Fault kind bytes n p → 0 < n
  fault-above (ends_early none begins) = omega arith
  fault-above (ends_in_length a s e) = omega arith
  fault-above (wrong_tag a s more) = omega arith
  fault-above (wrong_length a s) = omega arith
  fault-above (left_over a s full) = omega arith

  pub fault-refuses : {n p : ℕ} → Fault kind bytes n p → n ≡ 0 → ⊥
  fault-refuses fault e = omega (arith, fault-above fault)
