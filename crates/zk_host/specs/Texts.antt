-- Text that waits to be taken.
use Rattle.std.specs.Prelude.{◌≡◌, ◌≤◌, ◌<◌, ◌++◌, ℕ, Bool, List, [], length, take, drop, min}

-- the bytes that wait, and whether there was no memory for more
pub record Unread : Type 0 where
  pub bytes : List ℕ
  pub failed : Bool

-- so many bytes were taken from the front of a text into a buffer, of which the rest is as it was before
pub record IsTaken (old new : Unread) (before after : List ℕ) (count : ℕ) : Type 0 where
  pub few : count ≤ length after
  pub taken : old.bytes ≡ take count after ++ new.bytes
  pub rest : drop count after ≡ drop count before
  pub all : count ≡ 0 → 0 < length after → new.bytes ≡ []
  pub same : new.failed ≡ old.failed

-- bytes were put at the front of a buffer, as many as it has room for
pub record IsPutInFront (bytes before after : List ℕ) (count : ℕ) : Type 0 where
  pub few : count ≡ min (length bytes) (length before)
  pub put : after ≡ take count bytes ++ drop count before
