-- The laws of the ring of integers in the integers' own words, and the set of them that brings two sums of products to one form.
use mathlib.Core.Path.{◌≡◌}
use lib.IntN.{ℤ, pos, neg_ℤ, ◌+ℤ◌, ◌*ℤ◌, +ℤ_assoc, +ℤ_comm, *ℤ_comm}
use Rattle.algebra.proofs.RingLaws as RingLaws
use Rattle.algebra.proofs.IntegerRing.{integer_ring, add-mul, mul-add, mul_assoc}

pub add_left_comm : (a b c : ℤ) → a +ℤ (b +ℤ c) ≡ b +ℤ (a +ℤ c)
add_left_comm = RingLaws.add_left_comm integer_ring

pub mul_left_comm : (a b c : ℤ) → a *ℤ (b *ℤ c) ≡ b *ℤ (a *ℤ c)
mul_left_comm = RingLaws.mul_left_comm integer_ring

pub neg-mul : (a b : ℤ) → neg_ℤ a *ℤ b ≡ neg_ℤ (a *ℤ b)
neg-mul = RingLaws.neg-mul integer_ring

pub mul-neg : (a b : ℤ) → a *ℤ neg_ℤ b ≡ neg_ℤ (a *ℤ b)
mul-neg = RingLaws.mul-neg integer_ring

pub one-mul : (a : ℤ) → pos 1 *ℤ a ≡ a
one-mul = RingLaws.one-mul integer_ring

pub ruleset integer-rules = (add-mul, mul-add, neg-mul, mul-neg, mul_assoc, *ℤ_comm, mul_left_comm, +ℤ_assoc, +ℤ_comm, add_left_comm)
