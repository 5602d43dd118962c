-- What is wrong with a story, and where.
use Rattle.std.specs.Prelude.{◌≡◌, ◌≢◌, ◌⊎◌, ℕ, ◌<◌, false, List, [], ◌∷◌, map, length, Err}
use Rattle.std.specs.List.{flat_map}
use Rattle.zk_mem.specs.declared.fault.Fault.TheVariants.{BadDictionary, TextPastEnd as PastEnd}
use Rattle.zk_mem.specs.declared.fault.Fault.TheVariants.{NestedAbbreviation as Nested}
use Rattle.zk_mem.specs.Checksum.{has_right_sum, stated_length}
use Rattle.zk_mem.specs.Header.{header_of}
use Rattle.zk_mem.specs.Map.{MemoryMap}
use Rattle.zk_tables.specs.Chain.{Repeats}
use Rattle.zk_tables.specs.Dictionaries.{dictionary_at}
use Rattle.zk_code.specs.declared.instr.Instr.{Instr}
use Rattle.zk_code.specs.Clean.{LeadsOut, IsLow}
use Rattle.zk_code.specs.Grammar.{IsInstruction}
use Rattle.zk_code.specs.Reach.{IsReached}
use Rattle.zk_inspect.specs.declared.check.finding.Finding.{Finding}
use Rattle.zk_inspect.specs.declared.check.finding.Number.{Number}
use Rattle.zk_inspect.specs.declared.check.finding.Number.TheVariants.{Checksum, Length, DictionaryOrder}
use Rattle.zk_inspect.specs.declared.check.finding.Number.TheVariants.{DictionaryExtent, ObjectLinks, ChainWithARepeat}
use Rattle.zk_inspect.specs.declared.check.finding.Number.TheVariants.{PropertyList, TextPastTheEnd, NestedAbbreviation}
use Rattle.zk_inspect.specs.declared.check.finding.Number.TheVariants.{UndecodableCode, TargetOutOfTheStory}
use Rattle.zk_inspect.specs.declared.check.finding.Number.TheVariants.{CodeBelowTheStaticBase}
use Rattle.zk_inspect.specs.Keys.{IsFirstFall}
use Rattle.zk_inspect.specs.Lists.{IsListOf}
use Rattle.zk_inspect.specs.Objects.{HasObject, LeadsPast, LacksList}
use Rattle.zk_inspect.specs.Texts.{HasFault, IsUnread}

-- an address that is reached has no instruction
pub record IsUndecodable (m : MemoryMap) (a : ℕ) : Type 0 where
  pub reached : IsReached m a
  pub none : (i : Instr) (b : ℕ) → IsInstruction m a i b → ⊥

-- an instruction that is reached leads out of the story
pub record IsLeadingOut (m : MemoryMap) (a : ℕ) : Type 0 where
  pub next : ℕ
  pub instr : Instr
  pub reached : IsReached m a
  pub stands : IsInstruction m a instr next
  pub leads : LeadsOut m instr

-- a run may rewrite what an instruction that is reached does
pub record IsLowCode (m : MemoryMap) (a : ℕ) : Type 0 where
  pub next : ℕ
  pub instr : Instr
  pub reached : IsReached m a
  pub stands : IsInstruction m a instr next
  pub low : IsLow m a instr

-- the dictionary that the header names is none that lies in readable data (section 13.2)
pub record IsBadDictionary (m : MemoryMap) (a : ℕ) : Type 0 where
  pub named : a ≢ 0
  pub address : a ≡ (header_of m.file).dictionary
  pub bad : dictionary_at m a ≡ Err BadDictionary

-- what is wrong at an address, by its number
unfoldable pub Finds : MemoryMap → Number → ℕ → Type 0
Finds m Checksum a = (a ≡ 0x1c) × (has_right_sum m.file ≡ false)
Finds m Length a = (a ≡ 0x1a) × (length m.file < stated_length m.file)
Finds m DictionaryOrder a = ((header_of m.file).dictionary ≢ 0) × IsFirstFall m a
Finds m DictionaryExtent a = IsBadDictionary m a
Finds m ObjectLinks a = HasObject m (LeadsPast m) a
Finds m ChainWithARepeat a = HasObject m (Repeats m) a
Finds m PropertyList a = HasObject m (LacksList m) a
Finds m TextPastTheEnd a = HasFault m PastEnd a ⊎ IsUnread m a
Finds m NestedAbbreviation a = HasFault m Nested a
Finds m UndecodableCode a = IsUndecodable m a
Finds m TargetOutOfTheStory a = IsLeadingOut m a
Finds m CodeBelowTheStaticBase a = IsLowCode m a

-- the numbers in their order
abbrev pub numbers : List Number
numbers = Checksum ∷ Length ∷ DictionaryOrder ∷ DictionaryExtent ∷ ObjectLinks ∷ ChainWithARepeat ∷ PropertyList
    ∷ TextPastTheEnd ∷ NestedAbbreviation ∷ UndecodableCode ∷ TargetOutOfTheStory ∷ CodeBelowTheStaticBase ∷ []

-- a finding
abbrev pub at_address : Number → ℕ → Finding
at_address n a = record { number = n; address = a }

-- all that is wrong: by number, then by address, each once
pub record AreFindings (m : MemoryMap) (fs : List Finding) : Type 0 where
  pub addresses : Number → List ℕ
  pub exact : (n : Number) → IsListOf (Finds m n) (addresses n)
  pub joined : fs ≡ flat_map (λ n. map (at_address n) (addresses n)) numbers
