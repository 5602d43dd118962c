-- What the abbreviations of a story stand for (Standard, section 3.3). What a line looks like is zkit's choice.
use Rattle.std.specs.Prelude.{ℕ, ◌==◌, List, [], ◌++◌, map, codes, decimal, if◌then◌else◌}
use Rattle.std.specs.List.{range_with_len}
use Rattle.zk_mem.specs.Header.{header_of}
use Rattle.zk_mem.specs.Map.{MemoryMap}
use Rattle.zk_text.specs.Meaning.{abbreviation}
use Rattle.zk_inspect.specs.Listing.{units_text}
use Rattle.zk_inspect.specs.declared.fact.Fact.{Fact}
use Rattle.zk_inspect.specs.declared.fact.Fact.TheVariants.{Abbreviation}

-- the line of an abbreviation: its number, and what it stands for between quotes, or why it stands for nothing
unfoldable pub abbreviation_line : MemoryMap → ℕ → List ℕ
abbreviation_line m n = decimal n ++ codes " " ++ units_text m (abbreviation m n)

-- each of the 96, where the header names a table
unfoldable pub abbreviation_facts : MemoryMap → List Fact
abbreviation_facts m =
    if (header_of m.file).abbreviations == 0 then []
    else map Abbreviation (range_with_len 0 96)
