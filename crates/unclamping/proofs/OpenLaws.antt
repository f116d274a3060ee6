-- The knots of the unclamped curve: they never fall, the domain is the same, and no value stands more often.
use mathlib.Core.Bool.{Bool, true, false, cond, ◌&&◌, true≢false}
use mathlib.Core.List.{List}
use mathlib.Core.Path.{◌≡◌, refl, sym, ap, ◌∙◌}
use Prim.Native.Nat.{ℕ, ◌+◌, ◌-◌, ◌*◌, ◌≤◌, ◌<◌}
use native.Mathlib.Nat.{mul-lt-mul_of_pos_right}
use native.Mathlib.Omega.{arith}
use lib.Dec.{ltb, eqb}
use lib.ListN.{length, get_or}
use borrow.Author.Tests.{lt-ltb, ltb-true, eq-eqb, eqb-true}
use Rattle.refusal.proofs.JudgingLaws.{both}
use Rattle.grid.specs.Limits.{knot_most}
use Rattle.grid.specs.Rows.{rises_from, domain_start, domain_end, ends_ok, repeats_most, repeats_ok}
use Rattle.grid.proofs.FlagLaws.{fails}
use Rattle.grid.proofs.RepeatLaws.{equals_far, repeats-hold, repeats-fail}
use Rattle.curve.specs.Lists.{NeverFall}
use Rattle.insertion.proofs.OrderLaws.{either}
use Rattle.unclamping.specs.Unclamping.{open_knot}
use Rattle.unclamping.proofs.EntryLaws.{knot-old, knot-behind}

-- knots with a last span that is not empty, and those of the unclamped curve
pub record Opened (m : ℕ) (ts us : List ℕ) (count : ℕ) : Type 0 where
  pub some : 1 ≤ m
  pub enough : m + 1 ≤ count
  pub places : length ts ≡ count + m + 1
  pub same : length us ≡ length ts
  pub rising : NeverFall ts
  pub width : get_or ts (count - 1) 0 < get_or ts count 0
  pub at : (j : ℕ) → j < length ts → get_or us j 0 ≡ open_knot ts count j

module _ {m : ℕ} {ts us : List ℕ} {count : ℕ} (o : Opened m ts us count) where
  -- up to t_{n+1} as before, and then in steps of the last span's width
  pub opened-old : (j : ℕ) → j ≤ count → get_or us j 0 ≡ get_or ts j 0
  opened-old j h = o.at j (omega (arith, o.places)) ∙ knot-old ts count j h

  pub opened-new : (k : ℕ) → k ≤ m → get_or us (count + k) 0 ≡ get_or ts count 0 + k * (get_or ts count 0 - get_or ts (count - 1) 0)
  opened-new k h = o.at (count + k) (omega (arith, o.places)) ∙ knot-behind ts count k

  -- from t_{n+1} on they rise
  climbs : (a b : ℕ) → a < b → b ≤ m → get_or us (count + a) 0 < get_or us (count + b) 0
  climbs a b l h =
      let some : 0 < get_or ts count 0 - get_or ts (count - 1) 0 = omega (arith, o.width) in
      omega (arith, opened-new a (omega arith), opened-new b h, mul-lt-mul_of_pos_right l some)

  pub opened-climbs : (a b : ℕ) → count ≤ a → a < b → b < length us → get_or us a 0 < get_or us b 0
  opened-climbs a b from l inside =
      let first : count + (a - count) ≡ a = omega arith in
      let second : count + (b - count) ≡ b = omega arith in
      rw (first, second) at (climbs (a - count) (b - count) (omega arith) (omega (arith, o.places, o.same)))

  -- up to t_{n+1} they do not fall
  early : (a b : ℕ) → a ≤ b → b ≤ count → get_or us a 0 ≤ get_or us b 0
  early a b l h = rw (opened-old a (omega arith), opened-old b h) (o.rising a b l (omega (arith, o.places)))

  pub opened-rises : NeverFall us
  opened-rises a b l inside =
      either count b
      (λ late. either a count
      (λ before. omega (arith, early a count (omega arith) (omega arith), opened-climbs count b (omega arith) late inside))
      (λ behind. either a b
      (λ less. omega (arith, opened-climbs a b behind less inside))
      (λ equal. let e : a ≡ b = omega arith in rw e (omega arith))))
      (λ soon. early a b l soon)

  -- where the last one is within the limit, all are
  pub opened-most : get_or us (count + m) 0 ≤ knot_most → (a : ℕ) → a < length us → get_or us a 0 ≤ knot_most
  opened-most h a inside = omega (arith, opened-rises a (count + m) (omega (arith, o.places, o.same)) (omega (arith, o.places, o.same)))

  -- the domain
  pub start-same : domain_start m us ≡ domain_start m ts
  start-same = opened-old m (omega (arith, o.enough))

  pub end_same : domain_end m us ≡ domain_end m ts
  end_same =
      let new : length us - (m + 1) ≡ count = omega (arith, o.places, o.same) in
      let old : length ts - (m + 1) ≡ count = omega (arith, o.places) in
      rw (new, old) (opened-old count (omega arith))

  pub ends_same : ends_ok m us ≡ ends_ok m ts
  unfolding ends_ok
  ends_same = rw (start-same, end_same)

  most-same : (v : ℕ) → repeats_most m us v ≡ repeats_most m ts v
  unfolding repeats_most
  most-same v = rw (start-same, end_same)

  most-least : (v : ℕ) → m ≤ repeats_most m us v
  unfolding repeats_most
  most-least v = go (ltb (domain_start m us) v && ltb v (domain_end m us))
    where
      go : (b : Bool) → m ≤ cond b m (m + 1)
      go true = omega arith
      go false = omega arith

  module _ (rises : rises_from 0 ts ≡ true) (fine : repeats_ok m ts ≡ true) where
    -- up to t_{n+1} a knot that comes again too often does so among the old ones
    again-old : (j k : ℕ) → k ≡ repeats_most m us (get_or us j 0) → j + k ≤ count → get_or us (j + k) 0 ≡ get_or us j 0 → ⊥
    again-old j k often inside e =
        let here = opened-old j (omega arith) in
        let times : k ≡ repeats_most m ts (get_or ts j 0) = often ∙ most-same (get_or us j 0) ∙ ap (repeats_most m ts) here in
        let again : get_or ts (j + k) 0 ≡ get_or ts j 0 = sym (opened-old (j + k) inside) ∙ e ∙ here in
        let far : equals_far m ts j ≡ true =
        rw (← times, lt-ltb (j + k) (length ts) (omega (arith, o.places)), eq-eqb (get_or ts (j + k) 0) (get_or ts j 0) again) in
        true≢false (sym fine ∙ repeats-fail m ts rises j (omega (arith, o.places)) far)

    -- behind it no knot comes again
    again-new : (j k : ℕ) → 1 ≤ k → count < j + k → j + k < length us → get_or us (j + k) 0 ≡ get_or us j 0 → ⊥
    again-new j k some late inside e =
        either j count
        (λ before. omega (arith, early j count (omega arith) (omega arith), opened-climbs count (j + k) (omega arith) late inside))
        (λ behind. omega (arith, opened-climbs j (j + k) behind (omega arith) inside))

    pub opened-repeats : rises_from 0 us ≡ true → repeats_ok m us ≡ true
    opened-repeats up =
        repeats-hold m us up
        (λ j l. fails (equals_far m us j)
        (λ h.
        let k = repeats_most m us (get_or us j 0) in
        let p = both (ltb (j + k) (length us)) (eqb (get_or us (j + k) 0) (get_or us j 0)) h in
        let e = eqb-true (get_or us (j + k) 0) (get_or us j 0) p.1 in
        either count (j + k)
        (λ late. again-new j k (omega (arith, most-least (get_or us j 0), o.some)) late (ltb-true (j + k) (length us) p.0) e)
        (λ soon. again-old j k refl soon e)))
