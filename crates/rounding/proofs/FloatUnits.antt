-- Product by a whole number, sum and quotient by a whole number, of floats that are known in units of the format's smallest
-- value: each is one rounding of a fraction of units. A float's size in units is `HasValue x s u (2 ^ low f)`.
use mathlib.Core.Path.{◌≡◌, refl, sym, ap, ◌∙◌, subst}
use mathlib.Core.Bool.{Bool, true, false, ◌&&◌, beq, cond}
use Prim.Native.Nat.{ℕ, ◌+◌, ◌-◌, ◌*◌, ◌^◌, ◌<◌}
use native.Mathlib.Nat.{lt_irrefl, mul_comm, mul_assoc, mul-one, one-mul, add-mul, mul-sub, mul-pos, mul-mul-mul_comm, mul_right_comm, mul-lt-mul_of_pos_right, lt_of_mul-lt-mul_right, zero-lt-suc}
use lib.Dec.{T, ltb, eqb, ltb→lt, lt→ltb, eqb→eq}
use lib.Pow.{pow_pos}
use lib.Ieee.{Float, nan, inf, fin, Format, low, unlike, up, down, round, sum, add, mul, div}
use lib.Ieee.Fits.{down_pos}
use lib.Ieee.Exact.{HasValue}
use lib.Ieee.Positive.{first_pos}
use lib.Ieee.Scale.{round_same}
use Rattle.rounding.proofs.RoundError.{round_units}

-- a float of s and u units
abbrev pub InUnits : Format → Float → Bool → ℕ → Type 0
InUnits f x s u = HasValue x s u (2 ^ low f)

-- a float that is the whole number a
abbrev pub IsWhole : Float → ℕ → Type 0
IsWhole x a = HasValue x false a 1

-- ---- the product by a whole number
unlike-false : (t : Bool) → unlike false t ≡ t
unlike-false true = refl
unlike-false false = refl

unlike-right : (s : Bool) → unlike s false ≡ s
unlike-right true = refl
unlike-right false = refl

pub mul-units : (f : Format) (x y : Float) (a : ℕ) (t : Bool) (v : ℕ) → IsWhole x a → InUnits f y t v → mul f x y ≡ round_units f t (a * v) 1
unfolding mul
mul-units f nan y a t v h k = absurd h
mul-units f (inf s) y a t v h k = absurd h
mul-units f (fin s m e) nan a t v h k = absurd k
mul-units f (fin s m e) (inf r) a t v h k = absurd k
mul-units f (fin s m e) (fin r n d) a t v h k =
    let U = 2 ^ low f in
    let same : m * up e * (n * up d) * (1 * U) ≡ a * v * (down e * down d) =
    mul-mul-mul_comm (m * up e) (n * up d) 1 U ∙ ap (λ (z : ℕ). z * (n * up d * U)) h.1 ∙ ap (λ (z : ℕ). a * down e * z) k.1 ∙ mul-mul-mul_comm a (down e) v (down d) in
    ap (λ (z : Bool). round f (unlike z r) (m * up e * (n * up d)) (down e * down d)) h.0
    ∙ ap (λ (z : Bool). round f z (m * up e * (n * up d)) (down e * down d)) (unlike-false r ∙ k.0)
    ∙ round_same f t (m * up e * (n * up d)) (down e * down d) (a * v) (1 * U) (mul-pos (down_pos e) (down_pos d)) (mul-pos (zero-lt-suc 0) (pow_pos (low f))) same

-- ---- the sum
-- the sign of ±u + ±v
abbrev pub sum_sign : (s : Bool) (u : ℕ) (t : Bool) (v : ℕ) → Bool
sum_sign s u t v = cond (beq s t) s (cond (ltb u v) t (s && ltb v u))

-- the size of ±u + ±v
abbrev pub sum_size : (s : Bool) (u : ℕ) (t : Bool) (v : ℕ) → ℕ
sum_size s u t v = cond (beq s t) (u + v) (cond (ltb u v) (v - u) (u - v))

same_test : (a b : Bool) → (T a → T b) → (T b → T a) → a ≡ b
same_test true true h k = refl
same_test true false h k = absurd (h tt)
same_test false true h k = absurd (k tt)
same_test false false h k = refl

-- a / c is u / U and b / c is v / U
lt-over : (a b u v c U : ℕ) → 0 < U → a * U ≡ u * c → b * U ≡ v * c → a < b → u < v
lt-over a b u v c U P h k l = lt_of_mul-lt-mul_right c (subst (λ (z : ℕ). z < v * c) h (subst (λ (z : ℕ). a * U < z) k (mul-lt-mul_of_pos_right l P)))

pub ltb-over : (a b u v c U : ℕ) → 0 < U → 0 < c → a * U ≡ u * c → b * U ≡ v * c → ltb a b ≡ ltb u v
ltb-over a b u v c U P C h k =
    same_test (ltb a b) (ltb u v)
    (λ (t : T (ltb a b)). lt→ltb u v (lt-over a b u v c U P h k (ltb→lt a b t)))
    (λ (t : T (ltb u v)). lt→ltb a b (lt-over u v a b U c C (sym h) (sym k) (ltb→lt u v t)))

add-over : (a b u v c U : ℕ) → a * U ≡ u * c → b * U ≡ v * c → (a + b) * (1 * U) ≡ (u + v) * c
add-over a b u v c U h k = ap (λ (z : ℕ). (a + b) * z) (one-mul U) ∙ add-mul a b U ∙ ap (λ (z : ℕ). z + b * U) h ∙ ap (λ (z : ℕ). u * c + z) k ∙ sym (add-mul u v c)

sub-over : (a b u v c U : ℕ) → a * U ≡ u * c → b * U ≡ v * c → (a - b) * (1 * U) ≡ (u - v) * c
sub-over a b u v c U h k =
    ap (λ (z : ℕ). (a - b) * z) (one-mul U)
    ∙ mul_comm (a - b) U
    ∙ mul-sub U a b
    ∙ ap (λ (z : ℕ). z - U * b) (mul_comm U a ∙ h ∙ mul_comm u c)
    ∙ ap (λ (z : ℕ). c * u - z) (mul_comm U b ∙ k ∙ mul_comm v c)
    ∙ sym (mul-sub c u v)
    ∙ mul_comm c (u - v)

cond_over : (b d : Bool) (p q r : Bool) (x y z : ℕ) (g : Bool → ℕ → Float) → cond b (g p x) (cond d (g q y) (g r z)) ≡ g (cond b p (cond d q r)) (cond b x (cond d y z))
cond_over true d p q r x y z g = refl
cond_over false true p q r x y z g = refl
cond_over false false p q r x y z g = refl

sum-units : (f : Format) (s t : Bool) (a b c u v : ℕ) → 0 < c → a * 2 ^ low f ≡ u * c → b * 2 ^ low f ≡ v * c
    → sum f s a t b c ≡ round_units f (sum_sign s u t v) (sum_size s u t v) 1
unfolding sum
sum-units f s t a b c u v C h k =
    let U = 2 ^ low f in
    let P : 0 < U = pow_pos (low f) in
    let O : 0 < 1 * U = mul-pos (zero-lt-suc 0) P in
    ap (λ (z : Bool). cond (beq s t) (round f s (a + b) c) (cond z (round f t (b - a) c) (round f (s && ltb b a) (a - b) c))) (ltb-over a b u v c U P C h k)
    ∙ ap (λ (z : Bool). cond (beq s t) (round f s (a + b) c) (cond (ltb u v) (round f t (b - a) c) (round f (s && z) (a - b) c))) (ltb-over b a v u c U P C k h)
    ∙ ap (λ (z : Float). cond (beq s t) z (cond (ltb u v) (round f t (b - a) c) (round f (s && ltb v u) (a - b) c))) (round_same f s (a + b) c (u + v) (1 * U) C O (add-over a b u v c U h k))
    ∙ ap (λ (z : Float). cond (beq s t) (round_units f s (u + v) 1) (cond (ltb u v) z (round f (s && ltb v u) (a - b) c))) (round_same f t (b - a) c (v - u) (1 * U) C O (sub-over b a v u c U k h))
    ∙ ap (λ (z : Float). cond (beq s t) (round_units f s (u + v) 1) (cond (ltb u v) (round_units f t (v - u) 1) z)) (round_same f (s && ltb v u) (a - b) c (u - v) (1 * U) C O (sub-over a b u v c U h k))
    ∙ cond_over (beq s t) (ltb u v) s t (s && ltb v u) (u + v) (v - u) (u - v) (λ (p : Bool) (n : ℕ). round_units f p n 1)

pub add-units : (f : Format) (x y : Float) (s : Bool) (u : ℕ) (t : Bool) (v : ℕ) → InUnits f x s u → InUnits f y t v
    → add f x y ≡ round_units f (sum_sign s u t v) (sum_size s u t v) 1
unfolding add
add-units f nan y s u t v h k = absurd h
add-units f (inf p) y s u t v h k = absurd h
add-units f (fin p m e) nan s u t v h k = absurd k
add-units f (fin p m e) (inf q) s u t v h k = absurd k
add-units f (fin p m e) (fin q n d) s u t v h k =
    let U = 2 ^ low f in
    let left : m * up e * down d * U ≡ u * (down e * down d) = mul_right_comm (m * up e) (down d) U ∙ ap (λ (z : ℕ). z * down d) h.1 ∙ mul_assoc u (down e) (down d) in
    let right : n * up d * down e * U ≡ v * (down e * down d) =
    mul_right_comm (n * up d) (down e) U ∙ ap (λ (z : ℕ). z * down e) k.1 ∙ mul_assoc v (down d) (down e) ∙ ap (λ (z : ℕ). v * z) (mul_comm (down d) (down e)) in
    ap (λ (z : Bool). sum f z (m * up e * down d) q (n * up d * down e) (down e * down d)) h.0
    ∙ ap (λ (z : Bool). sum f s (m * up e * down d) z (n * up d * down e) (down e * down d)) k.0
    ∙ sum-units f s t (m * up e * down d) (n * up d * down e) (down e * down d) u v (mul-pos (down_pos e) (down_pos d)) left right

-- ---- the quotient by a whole number
above : (n a b : ℕ) → 0 < b → n * 1 ≡ b * a → 0 < a → 0 < n
above n a b B h A = first_pos n 1 (subst (λ (z : ℕ). 0 < z) (sym h) (mul-pos B A))

pick-quotient : (b : Bool) (n : ℕ) (x y : Float) → (T b → n ≡ 0) → 0 < n → cond b x y ≡ y
pick-quotient true n x y h l = absurd (lt_irrefl 0 (subst (λ (z : ℕ). 0 < z) (h tt) l))
pick-quotient false n x y h l = refl

pub div-units : (f : Format) (x y : Float) (s : Bool) (u d : ℕ) → 0 < d → InUnits f x s u → IsWhole y d → div f x y ≡ round_units f s u d
unfolding div
div-units f nan y s u d D h k = absurd h
div-units f (inf p) y s u d D h k = absurd h
div-units f (fin p m e) nan s u d D h k = absurd k
div-units f (fin p m e) (inf q) s u d D h k = absurd k
div-units f (fin p m e) (fin q n g) s u d D h k =
    let U = 2 ^ low f in
    let P : 0 < n * up g = above (n * up g) (down g) d D k.1 (down_pos g) in
    let same : m * up e * down g * (d * U) ≡ u * (n * up g * down e) =
    ap (λ (z : ℕ). m * up e * down g * z) (mul_comm d U)
    ∙ mul-mul-mul_comm (m * up e) (down g) U d
    ∙ ap (λ (z : ℕ). z * (down g * d)) h.1
    ∙ ap (λ (z : ℕ). u * down e * z) (mul_comm (down g) d ∙ sym k.1 ∙ mul-one (n * up g))
    ∙ mul_assoc u (down e) (n * up g)
    ∙ ap (λ (z : ℕ). u * z) (mul_comm (down e) (n * up g)) in
    pick-quotient (eqb n 0) n (cond (eqb m 0) nan (inf (unlike p q))) (round f (unlike p q) (m * up e * down g) (n * up g * down e)) (eqb→eq n 0) (first_pos n (up g) P)
    ∙ ap (λ (z : Bool). round f (unlike p z) (m * up e * down g) (n * up g * down e)) k.0
    ∙ ap (λ (z : Bool). round f z (m * up e * down g) (n * up g * down e)) (unlike-right p ∙ h.0)
    ∙ round_same f s (m * up e * down g) (n * up g * down e) u (d * U) (mul-pos P (down_pos e)) (mul-pos D (pow_pos (low f))) same
