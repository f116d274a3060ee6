-- What taking one field answers, way by way in the order of judging.
use Rattle.std.specs.Prelude.{Ok, Err}
use mathlib.Core.Bool.{true, false}
use mathlib.Core.Path.{◌≡◌}
use mathlib.Core.List.{List}
use Prim.Native.Nat.{ℕ, ◌+◌, ◌%◌, ◌<◌, ◌≤◌}
use lib.Dec.{eqb}
use lib.ListN.{length, get_or}
use borrow.Author.Tests.{lt-ltb, le-ltb, le-leb, lt-leb, eq-eqb, ne_eqb}
use Rattle.fields.specs.Places.{u16_at}
use Rattle.taken_field.specs.Taking.{ended_at, tag_at, length_at, length_ok, field_at}
use Rattle.taken_field.specs.declared.Rule.{Rule}

module _ (rule : Rule) (len : ℕ) where
  pub length-short : len < rule.least → length_ok rule len ≡ false
  unfolding length_ok
  length-short h = rw (lt-leb rule.least len h)

  pub length-long : rule.least ≤ len → rule.most < len → length_ok rule len ≡ false
  unfolding length_ok
  length-long h k = rw (le-leb rule.least len h, lt-leb len rule.most k)

  pub length_none : rule.least ≤ len → len ≤ rule.most → rule.width ≡ 0 → length_ok rule len ≡ false
  unfolding length_ok
  length_none h k e = rw (le-leb rule.least len h, le-leb len rule.most k, eq-eqb rule.width 0 e)

  pub length-entries : rule.least ≤ len → len ≤ rule.most → (rule.width ≡ 0 → ⊥) → length_ok rule len ≡ eqb (len % rule.width) 0
  unfolding length_ok
  length-entries h k e = rw (le-leb rule.least len h, le-leb len rule.most k, ne_eqb rule.width 0 e)

module _ (rule : Rule) (bytes : List ℕ) (at : ℕ) where
  pub field-none : length bytes ≤ at → field_at rule bytes at ≡ Err (ended_at (length bytes))
  unfolding field_at
  field-none h = rw (le-leb (length bytes) at h)

  module _ (more : at < length bytes) where
    pub field-tag : (get_or bytes at 0 ≡ rule.tag → ⊥) → field_at rule bytes at ≡ Err (tag_at at)
    unfolding field_at
    field-tag h = rw (lt-leb (length bytes) at more, ne_eqb (get_or bytes at 0) rule.tag h)

    module _ (tag : get_or bytes at 0 ≡ rule.tag) where
      pub field-headless : length bytes < at + 3 → field_at rule bytes at ≡ Err (ended_at (length bytes))
      unfolding field_at
      field-headless h = rw (lt-leb (length bytes) at more, eq-eqb (get_or bytes at 0) rule.tag tag, lt-ltb (length bytes) (at + 3) h)

      module _ (head : at + 3 ≤ length bytes) where
        pub field-length : length_ok rule (u16_at bytes (at + 1)) ≡ false → field_at rule bytes at ≡ Err (length_at (at + 1))
        unfolding field_at
        field-length h = rw (lt-leb (length bytes) at more, eq-eqb (get_or bytes at 0) rule.tag tag, le-ltb (length bytes) (at + 3) head, h)

        module _ (right : length_ok rule (u16_at bytes (at + 1)) ≡ true) where
          pub field-short : length bytes < at + 3 + u16_at bytes (at + 1) → field_at rule bytes at ≡ Err (ended_at (length bytes))
          unfolding field_at
          field-short h =
              rw (lt-leb (length bytes) at more, eq-eqb (get_or bytes at 0) rule.tag tag, le-ltb (length bytes) (at + 3) head, right, lt-ltb (length bytes) (at + 3 + u16_at bytes (at + 1)) h)

          pub field-whole : at + 3 + u16_at bytes (at + 1) ≤ length bytes → field_at rule bytes at ≡ Ok (u16_at bytes (at + 1))
          unfolding field_at
          field-whole h =
              rw (lt-leb (length bytes) at more, eq-eqb (get_or bytes at 0) rule.tag tag, le-ltb (length bytes) (at + 3) head, right, le-ltb (length bytes) (at + 3 + u16_at bytes (at + 1)) h)
