-- The integers are a commutative ring: the library has all of the laws but two, that the product is associative and that it
-- distributes over the sum. Both are carried from zero up and down by one.
use mathlib.Core.Path.{◌≡◌, sym, ◌∙◌, ap}
use Prim.Native.Nat.{zero, suc}
use lib.IntN.{ℤ, pos, negsuc, neg_ℤ, suc_ℤ, pred_ℤ, one, ◌+ℤ◌, ◌*ℤ◌, ◌-ℤ◌, suc_ℤ-+ℤ, pred_ℤ-+ℤ, +ℤ_idl, +ℤ_idr, +ℤ_assoc, +ℤ_comm, +ℤ_invr, +ℤ_invl, zero-*ℤ, *ℤ_comm, *ℤ-one, suc_ℤ-*ℤ, pred_ℤ-*ℤ}
use Rattle.algebra.specs.Operations.{Operations}
use Rattle.algebra.specs.Ring.{Ring}

-- what holds at zero and is carried up and down by one holds everywhere
pub integer-steps : (P : ℤ → Type 0) → P (pos zero) → ((k : ℤ) → P k → P (suc_ℤ k)) → ((k : ℤ) → P k → P (pred_ℤ k)) → (k : ℤ) → P k
integer-steps P z up down (pos zero) = z
integer-steps P z up down (pos (suc n)) = up (pos n) (integer-steps P z up down (pos n))
integer-steps P z up down (negsuc zero) = down (pos zero) z
integer-steps P z up down (negsuc (suc n)) = down (negsuc n) (integer-steps P z up down (negsuc n))

-- (x + y) + z = (x + z) + y
add-swap : (x y z : ℤ) → (x +ℤ y) +ℤ z ≡ (x +ℤ z) +ℤ y
add-swap x y z = +ℤ_assoc x y z ∙ ap (λ w. x +ℤ w) (+ℤ_comm y z) ∙ sym (+ℤ_assoc x z y)

-- (a + b)·c = a·c + b·c
pub add-mul : (a b c : ℤ) → (a +ℤ b) *ℤ c ≡ a *ℤ c +ℤ b *ℤ c
add-mul a b c =
    integer-steps (λ x. (x +ℤ b) *ℤ c ≡ x *ℤ c +ℤ b *ℤ c)
    (ap (λ x. x *ℤ c) (+ℤ_idl b) ∙ sym (ap (λ x. x +ℤ b *ℤ c) (zero-*ℤ c) ∙ +ℤ_idl (b *ℤ c)))
    (λ k h. ap (λ x. x *ℤ c) (suc_ℤ-+ℤ k b) ∙ suc_ℤ-*ℤ (k +ℤ b) c ∙ ap (λ x. x +ℤ c) h
    ∙ add-swap (k *ℤ c) (b *ℤ c) c ∙ ap (λ x. x +ℤ b *ℤ c) (sym (suc_ℤ-*ℤ k c)))
    (λ k h. ap (λ x. x *ℤ c) (pred_ℤ-+ℤ k b) ∙ pred_ℤ-*ℤ (k +ℤ b) c ∙ ap (λ x. x -ℤ c) h
    ∙ add-swap (k *ℤ c) (b *ℤ c) (neg_ℤ c) ∙ ap (λ x. x +ℤ b *ℤ c) (sym (pred_ℤ-*ℤ k c)))
    a

pub mul-add : (a b c : ℤ) → a *ℤ (b +ℤ c) ≡ a *ℤ b +ℤ a *ℤ c
mul-add a b c = *ℤ_comm a (b +ℤ c) ∙ add-mul b c a ∙ ap (λ x. x +ℤ c *ℤ a) (*ℤ_comm b a) ∙ ap (λ x. a *ℤ b +ℤ x) (*ℤ_comm c a)

-- (x - y)·c = x·c - y·c
sub-mul : (x y c : ℤ) → (x -ℤ y) *ℤ c ≡ x *ℤ c -ℤ y *ℤ c
sub-mul x y c =
    sym (+ℤ_idr ((x -ℤ y) *ℤ c)) ∙ ap (λ w. (x -ℤ y) *ℤ c +ℤ w) (sym (+ℤ_invr (y *ℤ c)))
    ∙ sym (+ℤ_assoc ((x -ℤ y) *ℤ c) (y *ℤ c) (neg_ℤ (y *ℤ c))) ∙ ap (λ w. w -ℤ y *ℤ c) (sym (add-mul (x -ℤ y) y c))
    ∙ ap (λ w. w *ℤ c -ℤ y *ℤ c) (+ℤ_assoc x (neg_ℤ y) y ∙ ap (λ w. x +ℤ w) (+ℤ_invl y) ∙ +ℤ_idr x)

-- (a·b)·c = a·(b·c)
pub mul_assoc : (a b c : ℤ) → (a *ℤ b) *ℤ c ≡ a *ℤ (b *ℤ c)
mul_assoc a b c =
    integer-steps (λ x. (x *ℤ b) *ℤ c ≡ x *ℤ (b *ℤ c))
    (ap (λ x. x *ℤ c) (zero-*ℤ b) ∙ zero-*ℤ c ∙ sym (zero-*ℤ (b *ℤ c)))
    (λ k h. ap (λ x. x *ℤ c) (suc_ℤ-*ℤ k b) ∙ add-mul (k *ℤ b) b c ∙ ap (λ x. x +ℤ b *ℤ c) h ∙ sym (suc_ℤ-*ℤ k (b *ℤ c)))
    (λ k h. ap (λ x. x *ℤ c) (pred_ℤ-*ℤ k b) ∙ sub-mul (k *ℤ b) b c ∙ ap (λ x. x -ℤ b *ℤ c) h ∙ sym (pred_ℤ-*ℤ k (b *ℤ c)))
    a

pub mul-one : (a : ℤ) → a *ℤ pos 1 ≡ a
unfolding one
mul-one a = *ℤ-one a

-- the integers' operations; no use is made of their reciprocal, which is zero
abbrev pub integers : Operations
integers =
    record {
      Number = ℤ;
      zero = pos 0;
      one = pos 1;
      add = ◌+ℤ◌;
      mul = ◌*ℤ◌;
      neg = neg_ℤ;
      inv = λ z. pos 0;
    }

abbrev pub integer_ring : Ring
integer_ring =
    record {
      operations = integers;
      laws =
          record {
            add_assoc = +ℤ_assoc;
            add_comm = +ℤ_comm;
            add-zero = +ℤ_idr;
            add-neg = +ℤ_invr;
            mul_assoc = mul_assoc;
            mul_comm = *ℤ_comm;
            mul-one = mul-one;
            mul-add = mul-add;
          };
    }
