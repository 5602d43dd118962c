-- The faults of texts, found from the story's end backwards.
use Rattle.std.specs.Prelude.{◌≡◌, ℕ, ◌+◌, ◌<◌, true, List, ◌++◌, Option, Some, None, Ok, Err, slice_get}
use Rattle.zk_mem.specs.declared.fault.Fault.{Fault}
use Rattle.zk_mem.specs.Map.{MemoryMap}
use Rattle.zk_mem.specs.Words.{words_at}
use Rattle.zk_text.specs.declared.pieces.Pending.{Pending}
use Rattle.zk_text.specs.declared.pieces.Pending.TheVariants as held
use Rattle.zk_text.specs.declared.pieces.Piece.{Piece}
use Rattle.zk_text.specs.declared.sweep.Rest.{Rest}
use Rattle.zk_text.specs.declared.sweep.Sweep.{Sweep}
use Rattle.zk_text.specs.Alphabets.{letter_of}
use Rattle.zk_text.specs.Meaning.{Units, abbreviation, meaning, value}
use Rattle.zk_text.specs.Reading.{held_back}
use Rattle.zk_text.specs.Words.{z_characters}

-- why a text has no meaning, where it has none
abbrev pub fault_of : Units → Option Fault
fault_of (Ok us) = None
fault_of (Err f) = Some f

-- the first of two faults
abbrev pub first_of : Option Fault → Option Fault → Option Fault
first_of None later = later
first_of (Some f) later = Some f

-- the faults of abbreviations, by their numbers
abbrev pub AreFaults : MemoryMap → List (Option Fault) → Type 0
AreFaults m faults = (n : ℕ) (f : Option Fault) → slice_get faults n ≡ Some f → f ≡ fault_of (abbreviation m n)

-- the faults that are known of abbreviations, by their numbers
abbrev pub AreKnown : MemoryMap → List (Option (Option Fault)) → Type 0
AreKnown m known =
    (n : ℕ) (f : Option Fault) → slice_get known n ≡ Some (Some f) → f ≡ fault_of (abbreviation m n)

-- no abbreviation has a fault
abbrev pub AreFaultless : MemoryMap → Type 0
AreFaultless m = (n : ℕ) → n < 96 → fault_of (abbreviation m n) ≡ None

-- the fault of what a piece stands for, where there is a piece, by what abbreviations stand for
abbrev pub piece_fault_by : (ℕ → Units) → MemoryMap → Option Piece → Option Fault
piece_fault_by expand m None = None
piece_fault_by expand m (Some p) = fault_of (value (letter_of m) expand p)

abbrev pub piece_fault : MemoryMap → Option Piece → Option Fault
piece_fault m o = piece_fault_by (abbreviation m) m o

-- the fault of the Z-characters that are held back and those that follow
abbrev pub fault_by : (ℕ → Units) → MemoryMap → Pending → List ℕ → Option Fault
fault_by expand m h zs = fault_of (meaning m expand (held_back h ++ zs))

abbrev pub fault_behind : MemoryMap → Pending → List ℕ → Option Fault
fault_behind m h zs = fault_by (abbreviation m) m h zs

-- what is kept of a rest, by what is held back before it
abbrev pub kept_for : Rest → Pending → Option Fault
kept_for r held.Nothing = r.nothing
kept_for r held.First = r.first
kept_for r held.Second = r.second
kept_for r held.Third = r.third
kept_for r held.ShiftToA1 = r.shift_to_a1
kept_for r held.ShiftToA2 = r.shift_to_a2
kept_for r held.Escape = r.escape
kept_for r (held.UpperHalf high) = r.upper_half

-- what is kept is of these Z-characters, by what abbreviations stand for
abbrev pub IsRestBy : (ℕ → Units) → MemoryMap → List ℕ → Rest → Type 0
IsRestBy expand m zs r = (h : Pending) → kept_for r h ≡ fault_by expand m h zs

abbrev pub IsRestOf : MemoryMap → List ℕ → Rest → Type 0
IsRestOf m zs r = IsRestBy (abbreviation m) m zs r

-- what is kept is of the text at an address, where it has an end, by what abbreviations stand for
abbrev pub IsTextRestBy : (ℕ → Units) → MemoryMap → ℕ → Option Rest → Type 0
IsTextRestBy expand m a None = words_at m a ≡ None
IsTextRestBy expand m a (Some r) =
    (ws : List ℕ) × (words_at m a ≡ Some ws) × IsRestBy expand m (z_characters ws) r

abbrev pub IsTextRest : MemoryMap → ℕ → Option Rest → Type 0
IsTextRest m a o = IsTextRestBy (abbreviation m) m a o

-- a sweep has come down to an address
pub record IsSweptTo (m : MemoryMap) (a : ℕ) (s : Sweep) : Type 0 where
  pub faults : AreFaults m s.faults.items
  pub faultless : s.faultless ≡ true → AreFaultless m
  pub here : IsTextRest m a s.here
  pub behind : IsTextRest m (a + 1) s.behind
