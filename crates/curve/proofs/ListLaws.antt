-- Three lists are equal where each is, and back.
use mathlib.Core.List.{List}
use mathlib.Core.Path.{◌≡◌, ap}
use Prim.Native.Nat.{ℕ}
use lib.IntN.{ℤ}
use Rattle.curve.specs.Lists.{Lists, lists}

pub lists-same : {ts ss : List ℕ} {xs us ys ws : List ℤ} → ts ≡ ss → xs ≡ us → ys ≡ ws → lists ts xs ys ≡ lists ss us ws
lists-same {ts} {ss} {xs} {us} {ys} {ws} a b c = rw (a, b, c)

module _ {c d : Lists} (e : c ≡ d) where
  pub same-knots : c.knots ≡ d.knots
  same-knots = ap (λ (l : Lists). l.knots) e

  pub same-xs : c.xs ≡ d.xs
  same-xs = ap (λ (l : Lists). l.xs) e

  pub same-ys : c.ys ≡ d.ys
  same-ys = ap (λ (l : Lists). l.ys) e
