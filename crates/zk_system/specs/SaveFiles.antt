-- What is known of the file of a saved game, by whether one is named, and what decides where one is kept or found.
use Rattle.std.specs.Prelude.{◌≡◌, ◌≢◌, ◌/◌, ◌*◌, Bool, true, false, ℕ, List, Option, Some, None, Result, Ok, Err}
use Rattle.std.specs.Prelude.{bit_and, bit_or}
use Rattle.std.specs.Fs.{IsFile, file_type}
use Rattle.std.specs.IoError.{error_kind}
use Rattle.std.specs.declared.fs.attrs.Metadata.{Metadata}
use Rattle.std.specs.declared.io.Error.{Error}
use Rattle.std.specs.declared.io.ErrorKind.{ErrorKind}
use Rattle.std.specs.declared.io.ErrorKind.TheVariants as kind
use Rattle.zk_system.specs.declared.no_game.NoGame.{NoGame}
use Rattle.zk_system.specs.declared.no_game.NoGame.TheVariants.{NoFile, Failed}

-- where none is named there is no saved game; what stands in a file is not known
abbrev pub held_in : {P : Type 0} → Option P → Option (Option (List ℕ))
held_in {P} None = Some None
held_in {P} (Some path) = None

-- where none is named no game is kept; whether a file takes one is not known
abbrev pub keeps_in : {P : Type 0} → Option P → Option Bool
keeps_in {P} None = Some false
keeps_in {P} (Some path) = None

-- what stands at a path, by what the system tells of it: a file, nothing yet, or what is no file
abbrev pub IsStanding : Result Metadata Error → Result (Option Metadata) NoGame → Type 0
IsStanding (Ok found) (Ok (Some old)) = IsFile (file_type found) × (old ≡ found)
IsStanding (Ok found) (Err NoFile) = IsFile (file_type found) → ⊥
IsStanding (Err error) (Ok None) = error_kind error ≡ kind.NotFound
IsStanding (Err error) (Err (Failed why)) = (error_kind error ≢ kind.NotFound) × (why ≡ error)
IsStanding found answer = ⊥

abbrev is_memory : ErrorKind → Bool
is_memory kind.OutOfMemory = true
is_memory _ = false

-- there was no memory to look for a game
abbrev pub lacks_memory : NoGame → Bool
lacks_memory (Failed error) = is_memory (error_kind error)
lacks_memory why = false

-- what is answered where a saved game is asked for: none, whatever the reason, but for lack of memory
abbrev pub IsAnswer : {F A : Type 0} → Result F NoGame → Result (Option F) A → Type 0
IsAnswer {F} {A} (Ok found) (Ok (Some file)) = file ≡ found
IsAnswer {F} {A} (Err why) (Ok None) = lacks_memory why ≡ false
IsAnswer {F} {A} (Err why) (Err error) = lacks_memory why ≡ true
IsAnswer {F} {A} found answer = ⊥

-- The rights in a new file, by those in the old one (three bits each for its owner, its group and all others). Where
-- the group can't be kept, its members are among the others and some others in the group: both can do what both could.
abbrev pub rights_left : ℕ → Bool → ℕ
rights_left mode true = bit_and mode 0o777
rights_left mode false = let both = bit_and (bit_and (mode / 8) mode) 0o7 in bit_or (bit_and mode 0o700) (both * 9)
