-- Listings of a story.
use Rattle.std.specs.Prelude.{◌≡◌, ◌≤◌, ◌<◌, ◌+◌, ℕ, false, List, [], ◌∷◌, ◌++◌, map, Option, Some, None, ◌==◌}
use Rattle.std.specs.Prelude.{drop, length, min, take, if◌then◌else◌}
use Rattle.zk_mem.specs.Map.{MemoryMap}
use Rattle.zk_text.specs.Walked.{words_walked}
use Rattle.zk_inspect.specs.CodeFacts.{AreReachedFacts}
use Rattle.zk_inspect.specs.Facts.{AreNone}
use Rattle.zk_inspect.specs.Findings.{AreFindings}
use Rattle.zk_inspect.specs.Lines.{AreLines, lines_of}
use Rattle.zk_inspect.specs.LineTexts.{line_text}
use Rattle.zk_inspect.specs.SectionFacts.{AreOfSection, AreSomeOfSection}
use Rattle.zk_inspect.specs.declared.fact.Fact.{Fact}
use Rattle.zk_inspect.specs.declared.fact.Fact.TheVariants as fact
use Rattle.zk_inspect.specs.declared.section.Section.TheVariants as section
use Rattle.zk_inspect.specs.declared.check.finding.Finding.{Finding}
use Rattle.zk_host.specs.declared.listing.Listing.{Listing}
use Rattle.zk_host.specs.declared.listing.Listing.TheVariants as listing
use Rattle.zk_host.specs.declared.listing.LinesEnd.{LinesEnd}
use Rattle.zk_host.specs.declared.listing.LinesEnd.TheVariants as end
use Rattle.zk_host.specs.declared.listing.Part.{Part}
use Rattle.zk_host.specs.declared.play.Refusal.{Refusal}
use Rattle.zk_host.specs.declared.play.Refusal.TheVariants as refused

-- facts are those of a listing of a story
abbrev pub AreListed : Listing → MemoryMap → List Fact → Type 0
AreListed (listing.Section s) m facts = AreOfSection s m facts
AreListed listing.Code m facts = AreReachedFacts m [] [] facts
AreListed listing.Findings m facts = (fs : List Finding) × AreFindings m fs × (facts ≡ map fact.Finding fs)
AreListed (listing.Instruction a) m facts = facts ≡ fact.Instruction a ∷ []

-- facts are those that a listing has where there is no memory for more
abbrev pub AreSomeListed : Listing → MemoryMap → List Fact → Type 0
AreSomeListed (listing.Section s) m facts = AreSomeOfSection s m facts
AreSomeListed listing.Code m facts = AreNone facts
AreSomeListed listing.Findings m facts = AreNone facts
AreSomeListed (listing.Instruction a) m facts = AreNone facts

-- a text is a listing of a story: a line for each fact
abbrev pub IsListing : Listing → MemoryMap → List ℕ → Type 0
IsListing l m text = AreLines (AreListed l m) false m text

-- a listing of a story has more than so many bytes
pub record IsLonger (l : Listing) (m : MemoryMap) (most : ℕ) : Type 0 where
  pub text : List ℕ
  pub is : IsListing l m text
  pub longer : most < length text

-- why there is no listing of at most so many bytes: it has more, its texts have many words or it has many facts, or
-- there is no memory
abbrev pub IsUnlisted : Listing → MemoryMap → ℕ → Refusal → Type 0
IsUnlisted l m most refused.TooLong = IsLonger l m most
IsUnlisted l m most refused.TooManyWords = Unit {0}
IsUnlisted l m most refused.Memory = Unit {0}
IsUnlisted l m most refused.NotAwaited = ⊥
IsUnlisted l m most refused.NotALine = ⊥
IsUnlisted l m most refused.NoState = ⊥
IsUnlisted l m most refused.NotAKey = ⊥
IsUnlisted l m most refused.NotChanged = ⊥

-- ---- lines in parts

-- the words of the text that the line of a fact shows, those of an abbreviation with each use
abbrev pub text_words : MemoryMap → Option ℕ → ℕ
text_words m None = 0
text_words m (Some a) = words_walked m a

abbrev pub fact_words : MemoryMap → Fact → ℕ
fact_words m f = text_words m (line_text m f)

-- those of some facts
unfoldable pub all_words : MemoryMap → List Fact → ℕ
all_words m [] = 0
all_words m (f ∷ fs) = fact_words m f + all_words m fs

-- the lines of the first so many facts were put behind a text, and the words of their texts counted off
pub record AreWritten (m : MemoryMap) (facts : List Fact) (n words left : ℕ) (before after : List ℕ) : Type 0 where
  pub few : n ≤ length facts
  pub text : after ≡ before ++ lines_of false m (take n facts)
  pub counted : left + all_words m (take n facts) ≡ words

-- a first part of some bytes was put behind a text
pub record IsCut (before after bytes : List ℕ) : Type 0 where
  pub part : List ℕ
  pub rest : List ℕ
  pub whole : bytes ≡ part ++ rest
  pub text : after ≡ before ++ part

-- the next fact's text has more words than one may have, or than are left
pub record HasManyWords (m : MemoryMap) (rest : List Fact) (left : ℕ) : Type 0 where
  pub next : Fact
  pub others : List Fact
  pub is : rest ≡ next ∷ others
  pub many : min left 131072 < fact_words m next

-- how the writing of lines ends: all were written, or those for which there were steps, or those before a text of too
-- many words; or a line was cut off
abbrev pub IsPartBy : LinesEnd → MemoryMap → List Fact → (n words left : ℕ) → (before after : List ℕ) → Type 0
IsPartBy end.Over m facts n words left before after =
    AreWritten m facts n words left before after × (n ≡ length facts)
IsPartBy end.Paused m facts n words left before after = AreWritten m facts n words left before after
IsPartBy end.TooManyWords m facts n words left before after =
    AreWritten m facts n words left before after × HasManyWords m (drop n facts) left
IsPartBy end.Cut m facts n words left before after = IsCut before after (lines_of false m facts)

abbrev pub IsPart : MemoryMap → List Fact → ℕ → (before after : List ℕ) → Part → Type 0
IsPart m facts words before after p = IsPartBy p.end m facts p.lines words p.words before after

-- the listings by their numbers
abbrev pub listing_numbered : ℕ → Option Listing
listing_numbered n =
    if n == 0 then Some (listing.Section section.Header)
    else if n == 1 then Some (listing.Section section.Map)
    else if n == 2 then Some (listing.Section section.Abbreviations)
    else if n == 3 then Some (listing.Section section.Dictionary)
    else if n == 4 then Some (listing.Section section.Objects)
    else if n == 5 then Some (listing.Section section.Tree)
    else if n == 6 then Some (listing.Section section.Ifid)
    else if n == 7 then Some listing.Code
    else if n == 8 then Some listing.Findings
    else if n == 9 then Some (listing.Section section.Strings)
    else if n == 10 then Some (listing.Section section.Properties)
    else if n == 11 then Some (listing.Section section.Globals)
    else if n == 12 then Some (listing.Section section.Alphabets)
    else if n == 13 then Some (listing.Section section.Extension)
    else None
