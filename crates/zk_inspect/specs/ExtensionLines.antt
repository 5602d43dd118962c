-- The header's extension (Standard, section 11.1.7). What a line looks like is zkit's choice.
use Rattle.std.specs.Prelude.{ℕ, ◌+◌, ◌*◌, ◌==◌, List, [], ◌++◌, map, Result, Ok, Err, codes, decimal, if◌then◌else◌}
use Rattle.std.specs.List.{range_with_len}
use Rattle.zk_mem.specs.declared.fault.Fault.{Fault}
use Rattle.zk_mem.specs.Header.{header_of}
use Rattle.zk_mem.specs.Map.{MemoryMap, word_at}
use Rattle.zk_term.specs.Numbers.{address_digits}
use Rattle.zk_inspect.specs.GlobalLines.{word_text}
use Rattle.zk_inspect.specs.declared.fact.Fact.{Fact}
use Rattle.zk_inspect.specs.declared.fact.Fact.TheVariants.{ExtensionWord}

-- where a word of the extension stands; word 0 is the count of the others
abbrev pub extension_place : MemoryMap → ℕ → ℕ
extension_place m n = (header_of m.file).extension + 2 * n

-- the line of a word: its number, its address, and its value
unfoldable pub extension_line : MemoryMap → ℕ → List ℕ
extension_line m n = decimal n ++ codes " " ++ address_digits (extension_place m n) ++ codes " "
    ++ word_text (word_at m (extension_place m n))

-- how many words there are after the first, where that can be read
abbrev pub words_stated : Result ℕ Fault → ℕ
words_stated (Ok count) = count
words_stated (Err f) = 0

-- each of them, where the header names an extension
unfoldable pub extension_facts : MemoryMap → List Fact
extension_facts m =
    if (header_of m.file).extension == 0 then []
    else map ExtensionWord (range_with_len 1 (words_stated (word_at m (header_of m.file).extension)))
