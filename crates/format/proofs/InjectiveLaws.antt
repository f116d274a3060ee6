-- Different lists have different bytes: entry by entry, list by list, field by field, record by record.
use mathlib.Core.Path.{◌≡◌, refl, sym, ap, ap₂, ◌∙◌}
use mathlib.Core.List.{List, [], ◌∷◌, ◌++◌, append_assoc}
use Prim.Native.Nat.{ℕ, suc, ◌+◌, ◌*◌, ◌/◌, ◌%◌, ◌<◌}
use native.Mathlib.Nat.{mod-add-div, mod-eq_of_lt}
use native.Mathlib.Omega.{arith}
use lib.Dec.{lit<}
use lib.IntN.{ℤ, pos}
use lib.ListN.{length, get_or, take, drop, length-append}
use lib.Seq.{take_at, drop_at}
use mir.Syntax.{w32}
use mir.Val.{SFits, of_z, to_z}
use mir.Facts.{to_z-of_z, Fits-of_z}
use Rattle.fields.specs.Bytes.{u16_bytes, u32_bytes, i32_bytes, each, field_bytes, knot_bytes, coordinate_bytes}
use Rattle.curve.specs.Lists.{Lists}
use Rattle.curve.proofs.ListLaws.{lists-same}
use Rattle.format.specs.Format.{KnotsForm, form1, degree_tag, x_tag, y_tag, record_bytes, Storable}

-- joins that are equal have equal parts, where the first parts are of one length
pub append-apart : {A : Type 0} (a b c d : List A) → length a ≡ length c → a ++ b ≡ c ++ d → (a ≡ c) × (b ≡ d)
append-apart {A} a b c d n e =
    let front : take (length c) (a ++ b) ≡ a = take_at a b (length c) n in
    let back : drop (length c) (a ++ b) ≡ b = drop_at a b (length c) n in
    (sym front ∙ ap (take (length c)) e ∙ take_at c d (length c) refl, sym back ∙ ap (drop (length c)) e ∙ drop_at c d (length c) refl)

-- the entry at a place of two equal lists
same_at : (a b : List ℕ) (i : ℕ) → a ≡ b → get_or a i 0 ≡ get_or b i 0
same_at a b i e = ap (λ (l : List ℕ). get_or l i 0) e

pub knot-injective : (v w : ℕ) → v < 65536 → w < 65536 → u16_bytes v ≡ u16_bytes w → v ≡ w
knot-injective v w hv hw e =
    let low : v % 256 ≡ w % 256 = same_at (u16_bytes v) (u16_bytes w) 0 e in
    let high : v / 256 % 256 ≡ w / 256 % 256 = same_at (u16_bytes v) (u16_bytes w) 1 e in
    omega arith

-- four bytes make their number again
joined : (v a b c r s t u : ℕ) → v ≡ r + 256 * a → a ≡ s + 256 * b → b ≡ t + 256 * c → c ≡ u → v ≡ r + 256 * s + 65536 * t + 16777216 * u
joined v a b c r s t u first second third fourth = omega arith

bits-whole : (v : ℕ) → v < 4294967296 → v ≡ v % 256 + 256 * (v / 256 % 256) + 65536 * (v / 65536 % 256) + 16777216 * (v / 16777216 % 256)
bits-whole v h =
    let second : v / 65536 ≡ v / 256 / 256 = omega arith in
    let third : v / 16777216 ≡ v / 256 / 256 / 256 = omega arith in
    let small : v / 16777216 < 256 = omega arith in
    let last : v / 256 / 256 / 256 < 256 = rw third at small in
    rw (second, third)
    (joined v (v / 256) (v / 256 / 256) (v / 256 / 256 / 256) (v % 256) (v / 256 % 256) (v / 256 / 256 % 256) (v / 256 / 256 / 256 % 256)
    (sym (mod-add-div v 256)) (sym (mod-add-div (v / 256) 256)) (sym (mod-add-div (v / 256 / 256) 256)) (sym (mod-eq_of_lt last)))

bits-injective : (v w : ℕ) → v < 4294967296 → w < 4294967296 → u32_bytes v ≡ u32_bytes w → v ≡ w
bits-injective v w hv hw e =
    let first : v % 256 ≡ w % 256 = same_at (u32_bytes v) (u32_bytes w) 0 e in
    let second : v / 256 % 256 ≡ w / 256 % 256 = same_at (u32_bytes v) (u32_bytes w) 1 e in
    let third : v / 65536 % 256 ≡ w / 65536 % 256 = same_at (u32_bytes v) (u32_bytes w) 2 e in
    let fourth : v / 16777216 % 256 ≡ w / 16777216 % 256 = same_at (u32_bytes v) (u32_bytes w) 3 e in
    bits-whole v hv ∙ (cc) ∙ sym (bits-whole w hw)

pub coordinate-injective : (v w : ℤ) → SFits w32 v → SFits w32 w → i32_bytes v ≡ i32_bytes w → v ≡ w
coordinate-injective v w fv fw e =
    let same : of_z w32 v ≡ of_z w32 w = bits-injective (of_z w32 v) (of_z w32 w) (Fits-of_z fv).fits (Fits-of_z fw).fits e in
    sym (to_z-of_z fv) ∙ ap (to_z w32) same ∙ to_z-of_z fw

module _ {A : Type 0} (bytes_of : A → List ℕ) (width : ℕ) (wide : (x : A) → length (bytes_of x) ≡ suc width) (d : A) (P : A → Type 0)
    (one : (v w : A) → P v → P w → bytes_of v ≡ bytes_of w → v ≡ w) where
  pub each-injective : (vs ws : List A) → ((i : ℕ) → P (get_or vs i d)) → ((i : ℕ) → P (get_or ws i d)) → each bytes_of vs ≡ each bytes_of ws → vs ≡ ws
  each-injective [] [] hv hw e = refl
  each-injective [] (w ∷ ws) hv hw e = absurd (omega (arith, ap length e, length-append (bytes_of w) (each bytes_of ws), wide w))
  each-injective (v ∷ vs) [] hv hw e = absurd (omega (arith, ap length e, length-append (bytes_of v) (each bytes_of vs), wide v))
  each-injective (v ∷ vs) (w ∷ ws) hv hw e =
      let apart = append-apart (bytes_of v) (each bytes_of vs) (bytes_of w) (each bytes_of ws) (wide v ∙ sym (wide w)) e in
      ap₂ (λ (y : A) (l : List A). y ∷ l) (one v w (hv 0) (hw 0) apart.0) (each-injective vs ws (λ i. hv (suc i)) (λ i. hw (suc i)) apart.1)

pub knots-injective : (ts us : List ℕ) → ((i : ℕ) → get_or ts i 0 < 65536) → ((i : ℕ) → get_or us i 0 < 65536) → knot_bytes ts ≡ knot_bytes us → ts ≡ us
knots-injective = each-injective u16_bytes 1 (λ _. refl) 0 (λ v. v < 65536) knot-injective

pub coordinates-injective : (xs ys : List ℤ) → ((i : ℕ) → SFits w32 (get_or xs i (pos 0))) → ((i : ℕ) → SFits w32 (get_or ys i (pos 0)))
    → coordinate_bytes xs ≡ coordinate_bytes ys → xs ≡ ys
coordinates-injective = each-injective i32_bytes 3 (λ _. refl) (pos 0) (SFits w32) coordinate-injective

-- a field tells its contents and what follows it
pub field-injective : (tag : ℕ) (a b rest left : List ℕ) → length a < 65536 → length b < 65536
    → field_bytes tag a ++ rest ≡ field_bytes tag b ++ left → (a ≡ b) × (rest ≡ left)
field-injective tag a b rest left ha hb e =
    let low : length a % 256 ≡ length b % 256 = same_at (field_bytes tag a ++ rest) (field_bytes tag b ++ left) 1 e in
    let high : length a / 256 % 256 ≡ length b / 256 % 256 = same_at (field_bytes tag a ++ rest) (field_bytes tag b ++ left) 2 e in
    append-apart a rest b left (omega arith) (ap (drop 3) e)

regrouped : (a b c d rest : List ℕ) → a ++ (b ++ (c ++ d)) ++ rest ≡ a ++ (b ++ (c ++ (d ++ rest)))
regrouped a b c d rest = simp append_assoc

-- a record and what follows it, field by field
pub record-grouped : (form : KnotsForm) (m : ℕ) (c : Lists) (rest : List ℕ)
    → record_bytes form m c ++ rest
    ≡ field_bytes degree_tag (m ∷ [])
    ++ (field_bytes form.tag (form.bytes_of c.knots) ++ (field_bytes x_tag (coordinate_bytes c.xs) ++ (field_bytes y_tag (coordinate_bytes c.ys) ++ rest)))
unfolding record_bytes
record-grouped form m c rest =
    regrouped (field_bytes degree_tag (m ∷ [])) (field_bytes form.tag (form.bytes_of c.knots)) (field_bytes x_tag (coordinate_bytes c.xs))
    (field_bytes y_tag (coordinate_bytes c.ys)) rest

-- the same degree and lists, and the same bytes behind them
pub record Same (m : ℕ) (c : Lists) (rest : List ℕ) (n : ℕ) (d : Lists) (left : List ℕ) : Type 0 where
  pub degree : m ≡ n
  pub curve : c ≡ d
  pub behind : rest ≡ left

-- lists and what follows them are told by their bytes, in any form of the knots' field that tells its knots
pub record-injective : (form : KnotsForm) → form.most < 65536
    → ((ts us : List ℕ) → ((i : ℕ) → get_or ts i 0 < 65536) → ((i : ℕ) → get_or us i 0 < 65536) → form.bytes_of ts ≡ form.bytes_of us → ts ≡ us)
    → (m : ℕ) (c : Lists) (rest : List ℕ) (n : ℕ) (d : Lists) (left : List ℕ) → Storable form m c → Storable form n d
    → record_bytes form m c ++ rest ≡ record_bytes form n d ++ left → Same m c rest n d left
record-injective form short injective m c rest n d left s t e =
    let from_y : Lists → List ℕ → List ℕ = λ l behind. field_bytes y_tag (coordinate_bytes l.ys) ++ behind in
    let from_x : Lists → List ℕ → List ℕ = λ l behind. field_bytes x_tag (coordinate_bytes l.xs) ++ from_y l behind in
    let from_k : Lists → List ℕ → List ℕ = λ l behind. field_bytes form.tag (form.bytes_of l.knots) ++ from_x l behind in
    let whole : field_bytes degree_tag (m ∷ []) ++ from_k c rest ≡ field_bytes degree_tag (n ∷ []) ++ from_k d left =
    sym (record-grouped form m c rest) ∙ e ∙ record-grouped form n d left in
    let one = field-injective degree_tag (m ∷ []) (n ∷ []) (from_k c rest) (from_k d left) (lit< tt) (lit< tt) whole in
    let two = field-injective form.tag (form.bytes_of c.knots) (form.bytes_of d.knots) (from_x c rest) (from_x d left)
    (omega (arith, s.knot_room, short)) (omega (arith, t.knot_room, short)) one.1 in
    let three = field-injective x_tag (coordinate_bytes c.xs) (coordinate_bytes d.xs) (from_y c rest) (from_y d left)
    (omega (arith, s.x_room)) (omega (arith, t.x_room)) two.1 in
    let four = field-injective y_tag (coordinate_bytes c.ys) (coordinate_bytes d.ys) rest left (omega (arith, s.y_room)) (omega (arith, t.y_room)) three.1 in
    record {
      degree = same_at (m ∷ []) (n ∷ []) 0 one.0;
      curve =
          lists-same (injective c.knots d.knots s.knots t.knots two.0) (coordinates-injective c.xs d.xs s.on_x t.on_x three.0)
          (coordinates-injective c.ys d.ys s.on_y t.on_y four.0);
      behind = four.1;
    }

-- form 1 tells its knots
pub form1-injective : (m : ℕ) (c : Lists) (rest : List ℕ) (n : ℕ) (d : Lists) (left : List ℕ) → Storable form1 m c → Storable form1 n d
    → record_bytes form1 m c ++ rest ≡ record_bytes form1 n d ++ left → Same m c rest n d left
form1-injective = record-injective form1 (lit< tt) knots-injective
