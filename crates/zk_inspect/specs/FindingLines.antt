-- The lines of findings. Their numbers and words are zkit's choice.
use Rattle.std.specs.Prelude.{ℕ, List, ◌++◌, codes, decimal}
use Rattle.zk_inspect.specs.declared.check.finding.Finding.{Finding}
use Rattle.zk_inspect.specs.declared.check.finding.Number.{Number}
use Rattle.zk_inspect.specs.declared.check.finding.Number.TheVariants.{Checksum, Length, DictionaryOrder}
use Rattle.zk_inspect.specs.declared.check.finding.Number.TheVariants.{DictionaryExtent, ObjectLinks, ChainWithARepeat}
use Rattle.zk_inspect.specs.declared.check.finding.Number.TheVariants.{PropertyList, TextPastTheEnd, NestedAbbreviation}
use Rattle.zk_inspect.specs.declared.check.finding.Number.TheVariants.{UndecodableCode, TargetOutOfTheStory}
use Rattle.zk_inspect.specs.declared.check.finding.Number.TheVariants.{CodeBelowTheStaticBase}
use Rattle.zk_term.specs.Numbers.{address_digits}

-- the number that a report shows
abbrev pub finding_number : Number → ℕ
finding_number Checksum = 1
finding_number Length = 2
finding_number DictionaryOrder = 3
finding_number DictionaryExtent = 4
finding_number ObjectLinks = 5
finding_number ChainWithARepeat = 6
finding_number PropertyList = 7
finding_number TextPastTheEnd = 8
finding_number NestedAbbreviation = 9
finding_number UndecodableCode = 10
finding_number TargetOutOfTheStory = 11
finding_number CodeBelowTheStaticBase = 12

-- what is wrong, in words
abbrev pub finding_words : Number → List ℕ
finding_words Checksum = codes "checksum"
finding_words Length = codes "length"
finding_words DictionaryOrder = codes "dictionary order"
finding_words DictionaryExtent = codes "dictionary extent"
finding_words ObjectLinks = codes "object links"
finding_words ChainWithARepeat = codes "chain with a repeat"
finding_words PropertyList = codes "property list"
finding_words TextPastTheEnd = codes "text past the end"
finding_words NestedAbbreviation = codes "nested abbreviation"
finding_words UndecodableCode = codes "undecodable code"
finding_words TargetOutOfTheStory = codes "target out of the story"
finding_words CodeBelowTheStaticBase = codes "code below the static base"

-- what it means, as a sentence
abbrev pub finding_meaning : Number → List ℕ
finding_meaning Checksum = codes "the sum of the file's bytes is not the checksum that its header states"
finding_meaning Length = codes "the header states more bytes than the file has"
finding_meaning DictionaryOrder =
    codes "the dictionary says that it is sorted, and the key of this entry is not above the one before it"
finding_meaning DictionaryExtent =
    codes "there is no dictionary at the address that the header names, or not all of it can be read"
finding_meaning ObjectLinks =
    codes "the parent, the sibling or the child of this object has a number past the last object"
finding_meaning ChainWithARepeat = codes "the child list of this object is circular"
finding_meaning PropertyList = codes "the properties of this object do not end in readable data"
finding_meaning TextPastTheEnd = codes "this text, or one of its abbreviations, has no end in the story"
finding_meaning NestedAbbreviation = codes "an abbreviation of this text uses an abbreviation"
finding_meaning UndecodableCode = codes "code leads to this address, and there is no instruction here"
finding_meaning TargetOutOfTheStory =
    codes "this instruction branches or jumps out of the story, or calls an address with no routine"
finding_meaning CodeBelowTheStaticBase =
    codes "this instruction has a byte below the static base, or calls an address that lies there"

-- the line of a finding: its number, its address, and what is wrong
unfoldable pub finding_line : Finding → List ℕ
finding_line f = codes "C" ++ decimal (finding_number f.number) ++ codes " " ++ address_digits f.address
    ++ codes " " ++ finding_words f.number
