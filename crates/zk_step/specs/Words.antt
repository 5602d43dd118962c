-- Words on demand (Standard, section 15, `tokenise` and `encode_text`).
use Rattle.std.specs.Prelude.{ℕ, ◌+◌, not, List, Result, ◌==◌, if◌then◌else◌}
use Rattle.zk_mem.specs.declared.fault.Fault.{Fault}
use Rattle.zk_mem.specs.Map.{MemoryMap}
use Rattle.zk_mem.specs.Results.{◌>>=◌}
use Rattle.zk_text.specs.Keys.{key_of}
use Rattle.zk_tables.specs.Parsing.{letters_counted}
use Rattle.zk_code.specs.declared.opcode.Words.{Words}
use Rattle.zk_code.specs.declared.opcode.Words.TheVariants.{Tokenise, EncodeText}
use Rattle.zk_tables.specs.Runs.{bytes_put}
use Rattle.zk_step.specs.TextBuffers.{divided_into_words, own_dictionary}
use Rattle.zk_step.specs.Values.{first, second, third, fourth}

-- the dictionary at an address, and the story's own at 0
abbrev pub dictionary_or_own : MemoryMap → ℕ → ℕ
dictionary_or_own m dictionary = if dictionary == 0 then own_dictionary m else dictionary

-- the memory after a text was divided into words, by a dictionary, with a flag to leave out unknown words; or after the
-- key of so many letters, from one on, was stored
unfoldable pub words_changed : Words → MemoryMap → List ℕ → Result MemoryMap Fault
words_changed Tokenise m vs =
    divided_into_words m (first vs) (second vs) (dictionary_or_own m (third vs)) (not (fourth vs == 0))
words_changed EncodeText m vs =
    letters_counted m (first vs + third vs) (second vs) >>= λ letters. bytes_put m (fourth vs) (key_of m letters)
