-- What a listing of a file shows, and how it ends.
use Rattle.std.specs.Prelude.{◌≡◌, ◌≢◌, ◌⊎◌, ℕ, Bool, true, false, List, [], ◌∷◌, ◌++◌, map, Option, Some, None, Result}
use Rattle.std.specs.Prelude.{Ok, Err}
use Rattle.std.specs.Io.KnownBytes.{Appends}
use Rattle.zk_mem.specs.Fresh.{fresh, plain_setup}
use Rattle.zk_mem.specs.Map.{MemoryMap}
use Rattle.zk_mem.specs.Story.{refusal}
use Rattle.zk_term.specs.Devices.{Device}
use Rattle.zk_inspect.specs.CodeFacts.{AreReachedFacts, AreWholeFacts}
use Rattle.zk_inspect.specs.Findings.{AreFindings}
use Rattle.zk_inspect.specs.Lines.{AreLines}
use Rattle.zk_inspect.specs.SectionFacts.{AreOfSection}
use Rattle.zk_inspect.specs.declared.fact.Fact.{Fact}
use Rattle.zk_inspect.specs.declared.fact.Fact.TheVariants as fact
use Rattle.zk_inspect.specs.declared.section.Section.{Section}
use Rattle.zk_program.specs.declared.listing.ListError.{ListError}
use Rattle.zk_program.specs.declared.listing.ListError.TheVariants as error
use Rattle.zk_inspect.specs.declared.check.finding.Finding.{Finding}
use Rattle.zk_vm.specs.declared.stop.Stop.TheVariants.{Quit, Write, Memory}
use Rattle.zk_program.specs.Headings.{heading}
use Rattle.zk_program.specs.Playing.{AreRead, EndsBy}
use Rattle.zk_program.specs.declared.exit.Exit.{Exit}
use Rattle.zk_program.specs.declared.exit.Exit.TheVariants.{Stopped, Found}
use Rattle.zk_program.specs.declared.listing.Listing.{Listing}
use Rattle.zk_program.specs.declared.listing.Listing.TheVariants.{Info, Code, Findings}
use Rattle.zk_program.specs.declared.listing.CodeListing.{CodeListing}

-- facts are those of a section below its title
abbrev pub AreTitled : Section → MemoryMap → List Fact → Type 0
AreTitled s m facts = (below : List Fact) × AreOfSection s m below × (facts ≡ fact.Title s ∷ below)

-- facts are those of some sections, one after another
abbrev pub AreSections : List Section → MemoryMap → List Fact → Type 0
AreSections [] m facts = facts ≡ []
AreSections (s ∷ more) m facts = (first : List Fact) × (rest : List Fact) × AreTitled s m first
    × AreSections more m rest × (facts ≡ first ++ rest)

-- facts are those of what is reached where code is named, with the routines that lie beside or without them
abbrev pub AreCode : Bool → CodeListing → MemoryMap → List Fact → Type 0
AreCode false l m facts = AreReachedFacts m l.addresses.now l.routines.now facts
AreCode true l m facts = AreWholeFacts m l.addresses.now l.routines.now facts

-- facts are those of a listing
abbrev pub AreListed : Listing → MemoryMap → List Fact → Type 0
AreListed (Info sections) m facts = AreSections sections.now m facts
AreListed (Code l) m facts = AreCode l.all l m facts
AreListed Findings m facts = (fs : List Finding) × AreFindings m fs × (facts ≡ map fact.Finding fs)

-- facts are some, where there was no memory for a listing
abbrev pub AreAny : List Fact → Type 0
AreAny facts = Unit {0}

-- whether notes stand after instructions
abbrev pub has_notes : Listing → Bool
has_notes (Code l) = l.notes
has_notes _ = false

-- a text is that of a listing
abbrev pub IsListing : Listing → MemoryMap → List ℕ → Type 0
IsListing listing m text = AreLines (AreListed listing m) (has_notes listing) m text

-- whether a listing tells that something is wrong: a check does where a story has findings, and no other does
abbrev pub Tells : Listing → MemoryMap → Bool → Type 0
Tells Findings m true = (findings : List Finding) × AreFindings m findings × (findings ≢ [])
Tells Findings m false = AreFindings m []
Tells _ m found = found ≡ false

-- a screen took all of a text of which something holds
pub record TookAll (Is : List ℕ → Type 0) (old new : Device) : Type 0 where
  pub text : List ℕ
  pub is : Is text
  pub takes : Appends old.taken new.taken text
  pub failed : new.failed ≡ old.failed

-- a listing was written, by what a screen took: all of a text of which something holds; or a write has failed, or there
-- was no memory, and no write has failed by that
abbrev pub IsWritten : {A : Type 0} → (List ℕ → Type 0) → Result A ListError → Device → Device → Type 0
IsWritten {A} Is (Ok found) old new = TookAll Is old new
IsWritten {A} Is (Err error.Write) old new = new.failed ≡ true
IsWritten {A} Is (Err error.Memory) old new = new.failed ≡ old.failed

-- how a listing ends, by whether it tells that something is wrong
abbrev pub exit_by : Result Bool ListError → Exit
exit_by (Ok true) = Found
exit_by (Ok false) = Stopped Quit
exit_by (Err error.Memory) = Stopped Memory
exit_by (Err error.Write) = Stopped Write

-- a text is a listing, below the line with the story's path
pub record IsBelow (path : Option (List ℕ)) (Is : List ℕ → Type 0) (text : List ℕ) : Type 0 where
  pub below : List ℕ
  pub is : Is below
  pub whole : text ≡ heading path None ++ below

-- A listing of a story has ended, by what the screen took: with findings; or it was written to its end without one; or
-- a write has failed; or there was no memory.
abbrev pub IsListed : Listing → MemoryMap → Option (List ℕ) → Device → Device → Exit → Type 0
IsListed listing m path old new Found = Tells listing m true × TookAll (IsBelow path (IsListing listing m)) old new
IsListed listing m path old new (Stopped Quit) =
    Tells listing m false × TookAll (IsBelow path (IsListing listing m)) old new
IsListed listing m path old new (Stopped Write) = new.failed ≡ true
IsListed listing m path old new (Stopped Memory) = new.failed ≡ old.failed
IsListed listing m path old new exit = ⊥

-- the line before a listing says why there is none
abbrev pub SaysWhy : Option (List ℕ) → Device → Device → Exit → Type 0
SaysWhy path old new exit = TookAll (λ text. text ≡ heading path (Some exit)) old new

-- a path stands before the listing
abbrev pub HasPath : Option (List ℕ) → Type 0
HasPath None = ⊥
HasPath (Some path) = Unit {0}

-- a story is not listed, which ends so: as it was refused, with that said, unless the write of it has failed
abbrev pub IsLeftOut : Option (List ℕ) → Exit → Device → Device → Exit → Type 0
IsLeftOut path refused old new exit =
    ((exit ≡ refused) × SaysWhy path old new refused) ⊎ ((exit ≡ Stopped Write) × (new.failed ≡ true) × HasPath path)

-- a reader's bytes are a story, where no path stands before the listing
abbrev pub IsStoryAlone : Option (List ℕ) → Option (List ℕ) → Type 0
IsStoryAlone None file = (bytes : List ℕ) × AreRead file bytes × (refusal bytes ≡ None)
IsStoryAlone (Some path) file = Unit {0}

-- a reader's bytes end a listing, with 16 states to go back to; or a write has failed
abbrev pub EndsListing : Listing → Option (List ℕ) → Option (List ℕ) → Device → Device → Exit → Type 0
EndsListing listing path file old new (Stopped Write) = (new.failed ≡ true) × IsStoryAlone path file
EndsListing listing path file old new exit =
    EndsBy file (SaysWhy path old new exit) (λ story. IsListed listing (fresh story (plain_setup 16)) path old new) exit
