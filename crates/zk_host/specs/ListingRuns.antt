-- Listings of a play's story, whole and in parts.
use Rattle.std.specs.Prelude.{◌≡◌, ◌≤◌, ◌<◌, ◌⊎◌, ◌++◌, ◌==◌, ℕ, Bool, true, false, List, [], length, drop}
use Rattle.std.specs.Prelude.{Option, Some, None, Result, Ok, Err}
use Rattle.std.specs.Global.{Box}
use Rattle.zk_mem.specs.Fresh.{fresh, plain_setup}
use Rattle.zk_mem.specs.Map.{MemoryMap}
use Rattle.zk_inspect.specs.declared.fact.Fact.{Fact}
use Rattle.zk_host.specs.declared.listing.LinesEnd.{LinesEnd}
use Rattle.zk_host.specs.declared.listing.LinesEnd.TheVariants as end
use Rattle.zk_host.specs.declared.listing.Listing.{Listing}
use Rattle.zk_host.specs.declared.listing_run.ListingRun.{ListingRun}
use Rattle.zk_host.specs.declared.play.Play.{Play}
use Rattle.zk_host.specs.declared.play.Refusal.{Refusal}
use Rattle.zk_host.specs.declared.play.Refusal.TheVariants as refused
use Rattle.zk_host.specs.Collecting.{no_text}
use Rattle.zk_host.specs.Listings.{AreListed, IsListing, IsPartBy, IsUnlisted, listing_numbered}

-- a story's file as it is before its first instruction, with 16 states to go back to
abbrev pub file_of : Play → MemoryMap
file_of p = fresh p.machine.state.game.memory.file (plain_setup 16)

-- a play without a listing, whole or in parts
abbrev pub with_none_listed : Play → Play
with_none_listed p = record p { listing = no_text; run = None }

-- the story's file is listed in at most so many bytes, in place of an earlier listing; or it is not, and there is none
abbrev pub IsListedBy : Listing → ℕ → Play → Play → Result (Unit {0}) Refusal → Type 0
IsListedBy l most old new (Ok u) = IsListing l (file_of old) new.listing.bytes × (length new.listing.bytes ≤ most)
    × (new ≡ record old { listing = new.listing; run = None })
IsListedBy l most old new (Err r) = IsUnlisted l (file_of old) most r × (new ≡ with_none_listed old)

-- memory as it stands is listed in the same way
abbrev pub IsListedNow : Listing → ℕ → Play → Play → Result (Unit {0}) Refusal → Type 0
IsListedNow l most old new (Ok u) = IsListing l old.machine.state.game.memory new.listing.bytes
    × (length new.listing.bytes ≤ most) × (new ≡ record old { listing = new.listing; run = None })
IsListedNow l most old new (Err r) = IsUnlisted l old.machine.state.game.memory most r × (new ≡ with_none_listed old)

-- ---- in parts

-- a listing of which no line is written
pub record IsBegun (l : Listing) (number : ℕ) (m : MemoryMap) (run : ListingRun) : Type 0 where
  pub numbered : run.number ≡ number
  pub memory : run.memory ≡ m
  pub facts : AreListed l m run.facts.items
  pub none : run.next ≡ 0
  pub words : run.words ≡ 1048576

-- the facts whose lines are still to be written
abbrev pub facts_left : ListingRun → List Fact
facts_left run = drop run.next run.facts.items

-- further lines were put behind a text
pub record IsGoneOn (old new : ListingRun) (before after : List ℕ) (e : LinesEnd) : Type 0 where
  pub lines : ℕ
  pub part : IsPartBy e old.memory (facts_left old) lines old.words new.words before after
  pub left : facts_left new ≡ drop lines (facts_left old)
  pub beside : new ≡ record old { next = new.next; words = new.words }

-- there is a listing in parts, of which something holds
abbrev pub IsOfRun : Option (Box ListingRun) → (ListingRun → Type 0) → Type 0
IsOfRun None P = ⊥
IsOfRun (Some run) P = P run.value

-- why a listing in parts is refused: it has many facts, a text has many words, too many bytes wait, or there is no
-- memory
abbrev pub IsRunRefused : Refusal → Type 0
IsRunRefused r = (r ≡ refused.Memory) ⊎ (r ≡ refused.TooManyWords) ⊎ (r ≡ refused.TooLong)

-- a listing in parts is begun in place of an earlier listing, and more is to come; or it is refused, and there is none
abbrev pub IsListedFirst : ℕ → Listing → Play → Play → Result Bool Refusal → Type 0
IsListedFirst number l old new (Ok more) = (more ≡ true) × IsOfRun new.run (IsBegun l number (file_of old))
    × (new ≡ record (with_none_listed old) { run = new.run })
IsListedFirst number l old new (Err r) = IsRunRefused r × (new ≡ with_none_listed old)

-- one goes on: at least one line further, with more to come; or to its end; or it is refused, and there is none
abbrev pub IsListedOn : ListingRun → Play → Play → Result Bool Refusal → Type 0
IsListedOn run old new (Ok true) =
    IsOfRun new.run (λ next. IsGoneOn run next old.listing.bytes new.listing.bytes end.Paused × (run.next < next.next))
    × (new ≡ record old { listing = new.listing; run = new.run })
IsListedOn run old new (Ok false) =
    ((next : ListingRun) × IsGoneOn run next old.listing.bytes new.listing.bytes end.Over)
    × (new ≡ record old { listing = new.listing; run = None })
IsListedOn run old new (Err r) = IsRunRefused r × (new ≡ with_none_listed old)

-- by whether it is the one that is asked for
abbrev pub IsListedIf : Bool → ℕ → Listing → ListingRun → Play → Play → Result Bool Refusal → Type 0
IsListedIf true number l run old new result = IsListedOn run (record old { run = None }) new result
IsListedIf false number l run old new result = IsListedFirst number l old new result

abbrev pub IsListedFrom : Option (Box ListingRun) → ℕ → Listing → Play → Play → Result Bool Refusal → Type 0
IsListedFrom None number l old new result = IsListedFirst number l old new result
IsListedFrom (Some run) number l old new result =
    IsListedIf (run.value.number == number) number l run.value old new result

-- by whether a number is that of a listing
abbrev pub IsListedNamed : Option Listing → ℕ → Play → Play → Result Bool Refusal → Type 0
IsListedNamed None number old new result = (result ≡ Err refused.NotAwaited) × (new ≡ with_none_listed old)
IsListedNamed (Some l) number old new result = IsListedFrom old.run number l old new result

abbrev pub IsListedFor : ℕ → Play → Play → Result Bool Refusal → Type 0
IsListedFor number old new result = IsListedNamed (listing_numbered number) number old new result

-- the texts of a listing's parts, each taken before the next one, one after another
pub data IsListedThrough : ListingRun → List ℕ → Type 0 where
  Last : (run next : ListingRun) (text : List ℕ) → IsGoneOn run next [] text end.Over → IsListedThrough run text
  Part : (run next : ListingRun) (text others : List ℕ) → IsGoneOn run next [] text end.Paused
      → IsListedThrough next others → IsListedThrough run (text ++ others)

-- the parts of a listing are the listing
abbrev pub PartsMakeTheListing : Type 0
PartsMakeTheListing = (l : Listing) (number : ℕ) (m : MemoryMap) (run : ListingRun) (text : List ℕ)
    → IsBegun l number m run → IsListedThrough run text → IsListing l m text
