-- The dictionary of a story, where nothing is written (Standard, sections 1.1 and 13).
use Rattle.std.specs.Prelude.{◌≡◌, ℕ, List, Ok, IfSome}
use Rattle.zk_mem.specs.declared.memory.Setup.{Setup}
use Rattle.zk_mem.specs.Map.{MemoryMap, IsOfFile}
use Rattle.zk_tables.specs.declared.dictionary.Dictionary.{Dictionary}
use Rattle.zk_tables.specs.Dictionaries.{dictionary_at}
use Rattle.zk_step.specs.declared.input.story_words.StoryWords.{StoryWords}
use Rattle.zk_step.specs.Laws.{fixed_parts}

-- in every memory of a story this dictionary stands at its address
abbrev pub IsAlwaysThere : (ℕ × ℕ) × (List ℕ × Setup) → Dictionary → Type 0
IsAlwaysThere parts d = (m : MemoryMap) → fixed_parts m ≡ parts → IsOfFile m → dictionary_at m d.address ≡ Ok d

-- what is kept is a dictionary of the story
unfoldable pub AreWordsOf : (ℕ × ℕ) × (List ℕ × Setup) → StoryWords → Type 0
AreWordsOf parts words = IfSome words.dictionary (IsAlwaysThere parts)
