-- The points of degree 3 at the end, as equations in whole numbers.
use mathlib.Core.Path.{◌≡◌, sym, ap, ◌∙◌}
use Prim.Native.Nat.{ℕ, ◌+◌, ◌-◌, ◌*◌, ◌≤◌, ◌<◌}
use native.Mathlib.Nat.{add-mul, mul-add, mul_right_comm}
use native.Mathlib.Omega.{arith}
use lib.IntN.{ℤ, pos, ◌+ℤ◌, ◌-ℤ◌, ◌*ℤ◌, *ℤ_comm}
use Rattle.signed.specs.Parts.{up, down}
use Rattle.signed.proofs.PartLaws.{sum-parts, difference-parts, times-up, times_down}
use Rattle.signed.proofs.OrderLaws.{parts-equal}
use Rattle.signed.proofs.DifferenceLaws.{pos-sub}
use Rattle.signed.proofs.ScaleLaws.{times-cancel}

-- the two sides of an equation of parts, n times
parts-times : (x a b c d y n : ℕ) → x + (a + b) ≡ (c + d) + y → x * n + (a * n + b * n) ≡ (c * n + d * n) + y * n
parts-times x a b c d y n e =
    let scaled : (x + (a + b)) * n ≡ ((c + d) + y) * n = ap (λ (k : ℕ). k * n) e in
    omega (arith, scaled, add-mul x (a + b) n, add-mul a b n, add-mul (c + d) y n, add-mul c d n)

-- a natural multiple of a difference, a multiple by a sum, and a multiple of a multiple
difference-times : (a b : ℤ) (n : ℕ) → (a -ℤ b) *ℤ pos n ≡ a *ℤ pos n -ℤ b *ℤ pos n
difference-times a b n =
    parts-equal ((a -ℤ b) *ℤ pos n) (a *ℤ pos n -ℤ b *ℤ pos n)
    (omega (
      arith,
      parts-times (up (a -ℤ b)) (down a) (up b) (up a) (down b) (down (a -ℤ b)) n (difference-parts a b),
      difference-parts (a *ℤ pos n) (b *ℤ pos n),
      times-up (a -ℤ b) n,
      times_down (a -ℤ b) n,
      times-up a n,
      times_down a n,
      times-up b n,
      times_down b n,
    ))

times-sum : (a : ℤ) (m n : ℕ) → a *ℤ pos (m + n) ≡ a *ℤ pos m +ℤ a *ℤ pos n
times-sum a m n =
    parts-equal (a *ℤ pos (m + n)) (a *ℤ pos m +ℤ a *ℤ pos n)
    (omega (
      arith,
      mul-add (up a) m n,
      mul-add (down a) m n,
      sum-parts (a *ℤ pos m) (a *ℤ pos n),
      times-up a (m + n),
      times_down a (m + n),
      times-up a m,
      times_down a m,
      times-up a n,
      times_down a n,
    ))

times-turned : (a : ℤ) (m n : ℕ) → a *ℤ pos m *ℤ pos n ≡ a *ℤ pos n *ℤ pos m
times-turned a m n =
    parts-equal (a *ℤ pos m *ℤ pos n) (a *ℤ pos n *ℤ pos m)
    (omega (
      arith,
      times-up (a *ℤ pos m) n ∙ ap (λ (k : ℕ). k * n) (times-up a m) ∙ mul_right_comm (up a) m n,
      times_down (a *ℤ pos m) n ∙ ap (λ (k : ℕ). k * n) (times_down a m) ∙ mul_right_comm (down a) m n,
      times-up (a *ℤ pos n) m ∙ ap (λ (k : ℕ). k * m) (times-up a n),
      times_down (a *ℤ pos n) m ∙ ap (λ (k : ℕ). k * m) (times_down a n),
    ))

-- what is added and taken away again
taken-away : (a b c : ℤ) → a +ℤ b -ℤ c -ℤ a ≡ b -ℤ c
taken-away a b c =
    parts-equal (a +ℤ b -ℤ c -ℤ a) (b -ℤ c)
    (omega (arith, sum-parts a b, difference-parts (a +ℤ b) c, difference-parts (a +ℤ b -ℤ c) a, difference-parts b c))

-- z·(c - a) = ((c - a) + (c - b))·p - (c - b)·q, for the knots a and b up to c
pub second-equation : (a b c : ℕ) (z p q : ℤ) → a ≤ c → b ≤ c → z *ℤ pos (c - a) ≡ pos ((c - a) + (c - b)) *ℤ p -ℤ pos (c - b) *ℤ q
    → (pos c -ℤ pos a) *ℤ (z -ℤ p) ≡ (pos c -ℤ pos b) *ℤ (p -ℤ q)
second-equation a b c z p q first second e =
    let f : z *ℤ pos (c - a) ≡ p *ℤ pos (c - a) +ℤ p *ℤ pos (c - b) -ℤ q *ℤ pos (c - b) =
    e ∙ rw (*ℤ_comm (pos ((c - a) + (c - b))) p, *ℤ_comm (pos (c - b)) q, times-sum p (c - a) (c - b)) in
    rw (pos-sub c a first, pos-sub c b second)
    (*ℤ_comm (pos (c - a)) (z -ℤ p)
    ∙ difference-times z p (c - a)
    ∙ ap (λ (w : ℤ). w -ℤ p *ℤ pos (c - a)) f
    ∙ taken-away (p *ℤ pos (c - a)) (p *ℤ pos (c - b)) (q *ℤ pos (c - b))
    ∙ sym (difference-times p q (c - b))
    ∙ *ℤ_comm (p -ℤ q) (pos (c - b)))

-- y·d = u and z·d = d·w - 2·u: then z = w - 2·y
pub last-equation : (d : ℕ) (y z u w : ℤ) → 0 < d → y *ℤ pos d ≡ u → z *ℤ pos d ≡ pos d *ℤ w -ℤ pos 2 *ℤ u → z ≡ w -ℤ pos 2 *ℤ y
last-equation d y z u w some e f =
    let twice : pos 2 *ℤ u ≡ pos 2 *ℤ y *ℤ pos d =
    *ℤ_comm (pos 2) u ∙ ap (λ (k : ℤ). k *ℤ pos 2) (sym e) ∙ times-turned y d 2 ∙ ap (λ (k : ℤ). k *ℤ pos d) (*ℤ_comm y (pos 2)) in
    times-cancel z (w -ℤ pos 2 *ℤ y) d some
    (f
    ∙ ap (λ (k : ℤ). k -ℤ pos 2 *ℤ u) (*ℤ_comm (pos d) w)
    ∙ ap (λ (k : ℤ). w *ℤ pos d -ℤ k) twice
    ∙ sym (difference-times w (pos 2 *ℤ y) d))
