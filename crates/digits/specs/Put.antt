-- Text that is put into a lent list from a place on.
use Rattle.std.specs.Prelude.{List, ◌≡◌, ℕ, ◌+◌, length}
use Rattle.fields.specs.Places.{put_at}

-- the list then holds the text from the place on and is else as before; `next` is the place behind the text
pub record Put (before : List ℕ) (at : ℕ) (text after : List ℕ) (next : ℕ) : Type 0 where
  pub holds : after ≡ put_at before at text
  pub place : next ≡ at + length text
