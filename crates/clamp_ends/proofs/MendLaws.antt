-- A list that is copied first and then mended at both ends, one entry of each end at a time: after k steps the entries between the ends and the first k of
-- each end are those of the result.
use mathlib.Core.List.{List}
use mathlib.Core.Path.{◌≡◌, refl, sym, ◌∙◌}
use Prim.Native.Nat.{ℕ, ◌+◌, ◌≤◌, ◌<◌}
use native.Mathlib.Decide.{ℕ_discrete}
use native.Mathlib.Omega.{arith}
use lib.ListN.{length, get_or, take, set, length-set}
use lib.Seq.{get_or-set_same, get_or-set_other, ext_get_or, take_all}
use Rattle.lent.specs.Lent.{over}
use Rattle.lent.specs.Sentences.{ResultThenRest}
use Rattle.lent.proofs.SentenceLaws.{over-holds}
use Rattle.insertion.proofs.OrderLaws.{either}

-- `width` entries at each end are to be mended; d is what an entry past a list counts as
pub record Mended {A : Type 0} (d : A) (result copy list : List A) (width k : ℕ) : Type 0 where
  pub within : k ≤ width
  pub fits : width ≤ length result
  pub room : length result ≤ length copy
  pub places : length list ≡ length copy
  pub start : (j : ℕ) → j < k → get_or list j d ≡ get_or result j d
  pub between : (j : ℕ) → width ≤ j → j + width < length result → get_or list j d ≡ get_or result j d
  pub finish : (j : ℕ) → length result ≤ j + width → j + width < length result + k → get_or list j d ≡ get_or result j d
  pub others : (j : ℕ) → length result ≤ j → get_or list j d ≡ get_or copy j d

module _ {A : Type 0} (d : A) (result : List A) where
  -- a store of what the result has there mends its entry and spoils no other
  store-mends : (list : List A) (i j : ℕ) (a : A) → i < length list → get_or result i d ≡ a → j ≡ i → get_or (set list i a) j d ≡ get_or result j d
  store-mends list i j a inside e here = rw here (get_or-set_same list i a d inside ∙ sym e)

  store_keeps : (list : List A) (i j : ℕ) (a : A) → i < length list → get_or result i d ≡ a → get_or list j d ≡ get_or result j d
      → get_or (set list i a) j d ≡ get_or result j d
  store_keeps list i j a inside e h =
      elim (ℕ_discrete j i) [
        | yes here ↦ store-mends list i j a inside e here
        | no other ↦ get_or-set_other list i j a d other ∙ h
      ]

  -- one entry more of each end; i is the place of the one at the end
  pub mended-more : {copy list : List A} {width k : ℕ} → Mended d result copy list width k → k < width → (i : ℕ) → i + width ≡ length result + k → (a b : A)
      → get_or result k d ≡ a → get_or result i d ≡ b → Mended d result copy (set (set list k a) i b) width (k + 1)
  mended-more {copy} {list} {width} {k} s more i at a b ea eb =
      record {
        within = omega (arith, more);
        fits = s.fits;
        room = s.room;
        places = length-set (set list k a) i b ∙ size ∙ s.places;
        start = λ j l. either j k (λ old. both j (s.start j old)) (λ new. second j (store-mends list k j a near ea (omega arith)));
        between = λ j l u. both j (s.between j l u);
        finish = λ j l u. either (j + width) (length result + k) (λ old. both j (s.finish j l old)) (λ new. store-mends (set list k a) i j b far eb (omega arith));
        others = λ j l.
            get_or-set_other (set list k a) i j b d (λ e. omega (arith, at, more)) ∙ get_or-set_other list k j a d (λ e. omega (arith, more, s.fits)) ∙ s.others j l;
      }
    where
      size : length (set list k a) ≡ length list
      size = length-set list k a

      near : k < length list
      near = omega (arith, more, s.fits, s.room, s.places)

      far : i < length (set list k a)
      far = omega (arith, size, more, at, s.room, s.places)

      second : (j : ℕ) → get_or (set list k a) j d ≡ get_or result j d → get_or (set (set list k a) i b) j d ≡ get_or result j d
      second j h = store_keeps (set list k a) i j b far eb h

      both : (j : ℕ) → get_or list j d ≡ get_or result j d → get_or (set (set list k a) i b) j d ≡ get_or result j d
      both j h = second j (store_keeps list k j a near ea h)

-- the copy was made of a list as long as the result
module _ {A : Type 0} (d : A) (result from before copy : List A) (long : length from ≡ length result) (room : length result ≤ length before)
    (copied : copy ≡ over (take (length before) from) before) where
  holds : ResultThenRest from before copy
  holds =
      let is : copy ≡ over from before = rw (take_all (length before) from (omega (arith, long, room))) at copied in
      rw is (over-holds from before (omega (arith, long, room)))

  -- nothing is mended yet: the list and the result differ at the ends alone
  pub mended-none : (width : ℕ) → width ≤ length result → ((j : ℕ) → width ≤ j → j + width < length result → get_or from j d ≡ get_or result j d)
      → Mended d result copy copy width 0
  mended-none width fits same =
      record {
        within = omega arith;
        fits = fits;
        room = omega (arith, room, holds.places);
        places = refl;
        start = λ j l. absurd (omega arith);
        between = λ j l u. holds.first j d (omega (arith, long)) ∙ same j l u;
        finish = λ j l u. absurd (omega arith);
        others = λ j l. refl;
      }

  -- all is mended
  pub mended-all : {list : List A} {width k : ℕ} → Mended d result copy list width k → width ≤ k → list ≡ over result before
  mended-all {list} {width} {k} s done = ext_get_or d list (over result before) (s.places ∙ holds.places ∙ sym (over-holds result before room).places) (λ j l. same j)
    where
      inside : (j : ℕ) → j < length result → get_or list j d ≡ get_or result j d
      inside j l =
          either j k (λ near. s.start j near)
          (λ far. either (j + width) (length result) (λ old. s.between j (omega arith) old) (λ last. s.finish j last (omega arith)))

      same : (j : ℕ) → get_or list j d ≡ get_or (over result before) j d
      same j =
          either j (length result)
          (λ l. inside j l ∙ sym ((over-holds result before room).first j d l))
          (λ l. s.others j l ∙ holds.others j d (omega (arith, long)) ∙ sym ((over-holds result before room).others j d l))
