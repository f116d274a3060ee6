-- The order of whole numbers: from a test to the parts and back, and its laws as tests.
use mathlib.Core.Bool.{Bool, true, false, not, true≢false, false≢true}
use mathlib.Core.Path.{◌≡◌, refl, ap}
use Prim.Native.Nat.{◌+◌, ◌≤◌, ◌<◌}
use native.Mathlib.Omega.{arith}
use lib.IntN.{ℤ, pos, negsuc}
use lib.Signed.{le_z, lt_z}
use borrow.Author.Tests.{ltb-true, ltb-false, leb-true, leb-false}
use Rattle.signed.specs.Parts.{up, down}

-- a test that passed or failed, as a fact of the parts
pub le_z-true : (a b : ℤ) → le_z a b ≡ true → up a + down b ≤ up b + down a
le_z-true (pos a) (pos b) e = omega (arith, leb-true a b e)
le_z-true (pos a) (negsuc b) e = absurd (false≢true e)
le_z-true (negsuc a) (pos b) e = omega arith
le_z-true (negsuc a) (negsuc b) e = omega (arith, leb-true b a e)

pub le_z-false : (a b : ℤ) → le_z a b ≡ false → up b + down a < up a + down b
le_z-false (pos a) (pos b) e = omega (arith, leb-false a b e)
le_z-false (pos a) (negsuc b) e = omega arith
le_z-false (negsuc a) (pos b) e = absurd (true≢false e)
le_z-false (negsuc a) (negsuc b) e = omega (arith, leb-false b a e)

pub lt_z-true : (a b : ℤ) → lt_z a b ≡ true → up a + down b < up b + down a
lt_z-true (pos a) (pos b) e = omega (arith, ltb-true a b e)
lt_z-true (pos a) (negsuc b) e = absurd (false≢true e)
lt_z-true (negsuc a) (pos b) e = omega arith
lt_z-true (negsuc a) (negsuc b) e = omega (arith, ltb-true b a e)

pub lt_z-false : (a b : ℤ) → lt_z a b ≡ false → up b + down a ≤ up a + down b
lt_z-false (pos a) (pos b) e = omega (arith, ltb-false a b e)
lt_z-false (pos a) (negsuc b) e = omega arith
lt_z-false (negsuc a) (pos b) e = absurd (true≢false e)
lt_z-false (negsuc a) (negsuc b) e = omega (arith, ltb-false b a e)

-- a fact of the parts, as a test
pub le-le_z : (a b : ℤ) → up a + down b ≤ up b + down a → le_z a b ≡ true
le-le_z a b h = by-test (le_z a b) refl
  where
    by-test : (t : Bool) → le_z a b ≡ t → t ≡ true
    by-test true e = refl
    by-test false e = absurd (omega (arith, le_z-false a b e))

pub lt-lt_z : (a b : ℤ) → up a + down b < up b + down a → lt_z a b ≡ true
lt-lt_z a b h = by-test (lt_z a b) refl
  where
    by-test : (t : Bool) → lt_z a b ≡ t → t ≡ true
    by-test true e = refl
    by-test false e = absurd (omega (arith, lt_z-false a b e))

pub le-lt_z : (a b : ℤ) → up b + down a ≤ up a + down b → lt_z a b ≡ false
le-lt_z a b h = by-test (lt_z a b) refl
  where
    by-test : (t : Bool) → lt_z a b ≡ t → t ≡ false
    by-test false e = refl
    by-test true e = absurd (omega (arith, lt_z-true a b e))

-- equal parts, equal numbers
pub parts-equal : (a b : ℤ) → up a + down b ≡ up b + down a → a ≡ b
parts-equal (pos a) (pos b) h = ap pos (omega arith)
parts-equal (pos a) (negsuc b) h = absurd (omega arith)
parts-equal (negsuc a) (pos b) h = absurd (omega arith)
parts-equal (negsuc a) (negsuc b) h = ap negsuc (omega arith)

-- the laws of the order
pub le_z-refl : (a : ℤ) → le_z a a ≡ true
le_z-refl a = le-le_z a a (omega arith)

pub le_z-trans : (a b c : ℤ) → le_z a b ≡ true → le_z b c ≡ true → le_z a c ≡ true
le_z-trans a b c h k = le-le_z a c (omega (arith, le_z-true a b h, le_z-true b c k))

pub le_z-total : (a b : ℤ) → le_z a b ≡ false → le_z b a ≡ true
le_z-total a b h = le-le_z b a (omega (arith, le_z-false a b h))

-- the strict test is the other one, turned
pub lt_z_not_le_z : (a b : ℤ) → lt_z a b ≡ not (le_z b a)
lt_z_not_le_z a b = by-test (le_z b a) refl
  where
    by-test : (t : Bool) → le_z b a ≡ t → lt_z a b ≡ not t
    by-test true e = le-lt_z a b (omega (arith, le_z-true b a e))
    by-test false e = lt-lt_z a b (omega (arith, le_z-false b a e))
