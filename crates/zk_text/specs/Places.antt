-- Places in a text, and what is still to come of it there (Standard, sections 3.2 and 3.3).
use Rattle.std.specs.Prelude.{◌≡◌, ◌≤◌, ◌<◌, ⊤, ℕ, ◌+◌, ◌*◌, ◌-◌, List, [], ◌++◌, ◌∷◌, length, drop, Bool, true, false}
use Rattle.std.specs.Prelude.{IfSome, Option, Some, None, Ok}
use Rattle.zk_mem.specs.Map.{MemoryMap}
use Rattle.zk_mem.specs.Results.{◌>>=◌}
use Rattle.zk_mem.specs.Words.{words_at}
use Rattle.zk_text.specs.declared.pieces.Pending.{Pending}
use Rattle.zk_text.specs.declared.pieces.Pending.TheVariants as held
use Rattle.zk_text.specs.declared.printing.After.{After}
use Rattle.zk_text.specs.declared.printing.Place.{Place}
use Rattle.zk_text.specs.declared.printing.Met.{Met}
use Rattle.zk_text.specs.declared.printing.Met.TheVariants.{Holds, Names}
use Rattle.zk_text.specs.declared.printing.Read.{Read}
use Rattle.zk_text.specs.declared.printing.Read.TheVariants.{Through, UpTo}
use Rattle.zk_text.specs.declared.unit.Unit.{Unit}
use Rattle.zk_text.specs.Meaning.{Units, abbreviation, joined, meaning, no_abbreviation, past_end}
use Rattle.zk_text.specs.Reading.{held_back}
use Rattle.zk_text.specs.Words.{z_characters}

-- what is still to come of a text from a word on, of which so many Z-characters were taken, with those that are held
-- back
abbrev pub left_from : MemoryMap → (ℕ → Units) → ℕ → ℕ → Pending → Units
left_from m expand at taken h =
    past_end (words_at m at) >>= λ ws. meaning m expand (held_back h ++ drop taken (z_characters ws))

-- the same, and where it is the text of an abbreviation, what comes after that
abbrev pub left_in : MemoryMap → Option After → ℕ → ℕ → Pending → Units
left_in m None at taken h = left_from m (abbreviation m) at taken h
left_in m (Some a) at taken h =
    joined (left_from m no_abbreviation at taken h) (left_from m (abbreviation m) a.at a.taken held.Nothing)

-- what is still to come of a text from a place on
unfoldable pub left : MemoryMap → Place → Units
left m p = left_in m p.after p.at p.taken p.held

-- where a text begins
abbrev pub first_place : ℕ → Place
first_place a = record { at = a; taken = 0; held = held.Nothing; after = None }

-- ---- how a walk goes on

-- a sink was given some units, and what is still to come is the rest
pub record Gives {S : Type 0} (gave : S → S → List Unit → Type 0) (a b : S) (whole rest : Units) : Type 0 where
  pub units : List Unit
  pub gives : gave a b units
  pub is : whole ≡ joined (Ok units) rest

-- a sink has refused one of the units that were to come, whatever would come after them
abbrev pub Refuses : {S : Type 0} → (S → S → List Unit → Type 0) → S → S → Units → Type 0
Refuses {S} refused a b whole = (us more : List Unit) → whole ≡ Ok us → refused a b (us ++ more)

-- what is to come after a Z-character
abbrev pub rest_met : MemoryMap → (ℕ → Units) → Met → List ℕ → Units
rest_met m expand (Holds next) zs = meaning m expand (held_back next ++ zs)
rest_met m expand (Names n) zs = joined (expand n) (meaning m expand zs)

-- and after a word, or a part of it
abbrev pub rest_read : MemoryMap → (ℕ → Units) → ℕ → Read → List ℕ → Units
rest_read m expand w (Through next) ws = meaning m expand (held_back next ++ z_characters ws)
rest_read m expand w (UpTo taken n) ws = joined (expand n) (meaning m expand (drop taken (z_characters (w ∷ ws))))

-- Z-characters of a word up to an abbreviation are one to three
abbrev pub IsUpTo : ℕ → Read → Type 0
IsUpTo taken (Through next) = ⊤
IsUpTo taken (UpTo t n) = (taken < t) × (t ≤ 3)

-- what is to come where a text goes on at a place, or has come to its end
abbrev pub rest_on : MemoryMap → Bool → Place → Units
rest_on m true p = left m p
rest_on m false p = Ok []

-- a place of which no more Z-characters are taken than words have
pub record IsPlace (p : Place) : Type 0 where
  pub taken : p.taken ≤ 3
  pub after : IfSome p.after (λ a. a.taken ≤ 3)

-- ---- how much is left to walk

-- the number of words, none where there is no text
abbrev pub count_of : Option (List ℕ) → ℕ
count_of None = 0
count_of (Some ws) = length ws

-- each of a text's Z-characters may name an abbreviation, whose text has no more words than the story has bytes
abbrev pub work_in : MemoryMap → Option After → ℕ → ℕ → ℕ
work_in m None at taken = (4 * count_of (words_at m at) - taken) * (length m.bytes + 1)
work_in m (Some a) at taken =
    (4 * count_of (words_at m a.at) - a.taken) * (length m.bytes + 1) + count_of (words_at m at)

unfoldable pub work_left : MemoryMap → Place → ℕ
work_left m p = work_in m p.after p.at p.taken

-- a place is at the start of what an abbreviation stands for, and after that so many Z-characters of the word that
-- names it were taken
pub record HasEntered (m : MemoryMap) (n taken : ℕ) (old new : Place) : Type 0 where
  pub there : abbreviation m n ≡ left_from m no_abbreviation new.at 0 held.Nothing
  pub taken_is : new.taken ≡ 0
  pub held_is : new.held ≡ held.Nothing
  pub after_is : new.after ≡ Some (record { at = old.at; taken = taken })

-- the last word was passed
abbrev pub HasEnded : Option After → Place → Bool → Type 0
HasEnded None new on = on ≡ false
HasEnded (Some a) new on =
    (on ≡ true) × (new ≡ record { at = a.at; taken = a.taken; held = held.Nothing; after = None })

-- a word was passed: the next one is at hand, or where the text goes on after an abbreviation that ends there; or the
-- text ends
abbrev pub HasPassed : ℕ → Pending → Place → Place → Bool → Type 0
HasPassed w h old new on =
    (w < 32768 → (on ≡ true) × (new ≡ record { at = old.at + 2; taken = 0; held = h; after = old.after }))
    × (32768 ≤ w → HasEnded old.after new on)
