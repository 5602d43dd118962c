-- What a screen took of a listing.
use Rattle.std.proofs.Common.{◌≡◌, ◌∙◌, ◌<◌, ◌+◌, inl, inr, ℕ, Bool, true, false, List, [], ◌∷◌, ◌++◌, Option, Some}
use Rattle.std.proofs.Common.{None, IfOk, Result, Ok, Err, append-nil, append_assoc, ap, get_or, length, refl, subst}
use Rattle.std.proofs.Common.{sym, take}
use Rattle.std.specs.Prelude.{option_map}
use Rattle.std.proofs.lemmas.List.{take_more}
use Rattle.std.proofs.KnownBytes.{Appends-trans}
use Rattle.std.specs.Io.KnownBytes.{Appends}
use Rattle.zk_mem.specs.Map.{MemoryMap}
use Rattle.zk_term.specs.Devices.{Device, device}
use Rattle.zk_mem.specs.Fresh.{fresh, plain_setup}
use Rattle.zk_mem.specs.Story.{refusal}
use Rattle.zk_vm.specs.declared.stop.Stop.TheVariants.{EndOfInput, Memory, Quit, Read, Write, Fault as FaultAt}
use Rattle.zk_vm.specs.declared.stop.Stop.TheVariants.{Limit as LimitAt}
use Rattle.zk_program.specs.declared.listing.ListError.{ListError}
use Rattle.zk_program.specs.declared.listing.ListError.TheVariants as error
use Rattle.zk_inspect.specs.Facts.{GaveBy, GaveSome}
use Rattle.zk_inspect.specs.Lines.{WroteLines}
use Rattle.zk_term.specs.LineWriters.{WroteSome}
use Rattle.zk_inspect.specs.SectionFacts.{AreOfSection}
use Rattle.zk_inspect.specs.declared.fact.Fact.{Fact}
use Rattle.zk_inspect.specs.declared.fact.Fact.TheVariants as fact
use Rattle.zk_inspect.specs.declared.section.Section.{Section}
use Rattle.zk_program.specs.Headings.{heading}
use Rattle.zk_program.specs.Listing.{AreAny, AreSections, AreTitled, EndsListing, IsBelow, IsLeftOut, IsListed}
use Rattle.zk_program.specs.Listing.{IsListing}
use Rattle.zk_program.specs.Listing.{HasPath, IsStoryAlone, IsWritten, SaysWhy, Tells, TookAll, exit_by}
use Rattle.zk_program.specs.Playing.{AreRead, EndsBy}
use Rattle.zk_program.specs.declared.exit.Exit.{Exit}
use Rattle.zk_program.specs.declared.exit.Exit.TheVariants.{Unread, Refused, Stopped, Found}
use Rattle.zk_program.specs.declared.listing.Listing.{Listing}

-- a file that was refused, or for which there was no memory, ends a listing, with that said
said : (listing : Listing) (path file : Option (List ℕ)) (old new : Device) (exit : Exit)
    → EndsBy file (Unit {0}) (λ story ended. ended ≡ Stopped Memory) exit → SaysWhy path old new exit
    → EndsListing listing path file old new exit
said listing path file old new (Unread e) h says = says
said listing path file old new (Refused e) h says = (h.0, h.1, h.2, says)
said listing path file old new (Stopped Memory) h says = (h.0, h.1, h.2, says.failed)
said listing path file old new (Stopped Quit) h says = let e = h.3 in absurd cc
said listing path file old new (Stopped Write) h says = let e = h.3 in absurd cc
said listing path file old new (Stopped EndOfInput) h says = let e = h.3 in absurd cc
said listing path file old new (Stopped Read) h says = let e = h.3 in absurd cc
said listing path file old new (Stopped (FaultAt a f)) h says = let e = h.3 in absurd cc
said listing path file old new (Stopped (LimitAt a l)) h says = let e = h.3 in absurd cc
said listing path file old new Found h says = let e = h.3 in absurd cc

not_alone : (path file : Option (List ℕ)) → HasPath path → IsStoryAlone path file
not_alone None file h = absurd h
not_alone (Some path) file h = tt

pub left_out : (listing : Listing) (path file : Option (List ℕ)) (old new : Device) (refused exit : Exit)
    → EndsBy file (Unit {0}) (λ story ended. ended ≡ Stopped Memory) refused → IsLeftOut path refused old new exit
    → EndsListing listing path file old new exit
left_out listing path file old new refused exit h (inl is) = rw is.0 (said listing path file old new refused h is.1)
left_out listing path file old new refused exit h (inr is) = rw is.0 (is.1, not_alone path file is.2)

alone : (path file : Option (List ℕ)) (story : List ℕ) → AreRead file story → refusal story ≡ None
    → IsStoryAlone path file
alone None file story read none = (story, read, none)
alone (Some path) file story read none = tt

-- a story has ended its listing
pub opened : (listing : Listing) (path file : Option (List ℕ)) (old new : Device) (story : List ℕ) (exit : Exit)
    → AreRead file story → refusal story ≡ None → IsListed listing (fresh story (plain_setup 16)) path old new exit
    → EndsListing listing path file old new exit
opened listing path file old new story (Unread e) read none h = absurd h
opened listing path file old new story (Refused e) read none h = absurd h
opened listing path file old new story Found read none h = (story, read, none, h)
opened listing path file old new story (Stopped Quit) read none h = (story, read, none, h)
opened listing path file old new story (Stopped Write) read none h = (h, alone path file story read none)
opened listing path file old new story (Stopped Memory) read none h = (story, read, none, h)
opened listing path file old new story (Stopped EndOfInput) read none h = absurd h
opened listing path file old new story (Stopped Read) read none h = absurd h
opened listing path file old new story (Stopped (FaultAt a f)) read none h = absurd h
opened listing path file old new story (Stopped (LimitAt a l)) read none h = absurd h

-- the line before a listing failed, so there is a path
pub has_path : {P : Type 0} (view : P → List ℕ) (path : Option P) (failed : Bool) → (path ≡ None → failed ≡ false)
    → failed ≡ true → HasPath (option_map view path)
has_path view None failed none e = let never = none refl in absurd cc
has_path view (Some path) failed none e = tt

one_more : (m : MemoryMap) (ss : List Section) (s : Section) (t u : List Fact)
    → AreSections ss m t → AreTitled s m u → AreSections (ss ++ s ∷ []) m (t ++ u)
one_more m [] s t u h k = (u, [], k, refl, ap (λ (v : List Fact). v ++ u) h ∙ sym (append-nil u))
one_more m (x ∷ ss) s t u h k =
    (h.0, h.1 ++ u, h.2, one_more m ss s h.1 u h.3 k, ap (λ (v : List Fact). v ++ u) h.4 ∙ append_assoc h.0 h.1 u)

module _ {S : Type 0} (wrote : S → S → List Fact → Type 0) where
  any_then : (twice : (x y z : S) (s t : List Fact) → wrote x y s → wrote y z t → wrote x z (s ++ t)) (x y z : S)
      → GaveSome AreAny wrote x y → GaveSome AreAny wrote y z → GaveSome AreAny wrote x z
  any_then twice x y z h k =
      record { facts = h.facts ++ k.facts; is = tt; given = twice x y z h.facts k.facts h.given k.given }

  -- a section below its title
  pub titled : (twice : (x y z : S) (s t : List Fact) → wrote x y s → wrote y z t → wrote x z (s ++ t))
      (s : Section) (m : MemoryMap) (P : List Fact → Type 0) (b : Bool) (x y z : S) → wrote x y (fact.Title s ∷ [])
      → GaveBy b (AreOfSection s m) P wrote y z
      → GaveBy b (AreTitled s m) AreAny wrote x z
  titled twice s m P false x y z first h =
      record {
        facts = fact.Title s ∷ h.facts;
        is = (h.facts, h.is, refl);
        given = twice x y z (fact.Title s ∷ []) h.facts first h.given;
      }
  titled twice s m P true x y z first h =
      record { facts = fact.Title s ∷ h.facts; is = tt; given = twice x y z (fact.Title s ∷ []) h.facts first h.given }

  -- one section more
  pub sections_more : (twice : (x y z : S) (s t : List Fact) → wrote x y s → wrote y z t → wrote x z (s ++ t))
      (m : MemoryMap) (ss : List Section) (i : ℕ) (d : Section) (x y z : S) → i < length ss
      → GaveSome (AreSections (take i ss) m) wrote x y
      → GaveSome (AreTitled (get_or ss i d) m) wrote y z
      → GaveSome (AreSections (take (i + 1) ss) m) wrote x z
  sections_more twice m ss i d x y z lt h k = record {
    facts = h.facts ++ k.facts;
    is = subst (λ (ts : List Section). AreSections ts m (h.facts ++ k.facts)) (sym (take_more ss i d lt))
        (one_more m (take i ss) (get_or ss i d) h.facts k.facts h.is k.is);
    given = twice x y z h.facts k.facts h.given k.given;
  }

  -- no memory for the next one
  pub sections_cut : (twice : (x y z : S) (s t : List Fact) → wrote x y s → wrote y z t → wrote x z (s ++ t))
      (P Q : List Fact → Type 0) (x y z : S) → GaveSome P wrote x y → GaveSome Q wrote y z → GaveSome AreAny wrote x z
  sections_cut twice P Q x y z h k = any_then twice x y z (record { facts = h.facts; is = tt; given = h.given })
      (record { facts = k.facts; is = tt; given = k.given })

-- nothing was given of a listing
pub no_sections : {S : Type 0} (wrote : S → S → List Fact → Type 0) (x : S) → wrote x x []
    → (m : MemoryMap) → GaveSome (AreSections [] m) wrote x x
no_sections {S} wrote x h m = record { facts = []; is = refl; given = h }

-- a text below its heading
below : (listing : Listing) (m : MemoryMap) (path : Option (List ℕ)) (old mid new : Device)
    → mid.failed ≡ old.failed → Appends old.taken mid.taken (heading path None)
    → TookAll (IsListing listing m) mid new → TookAll (IsBelow path (IsListing listing m)) old new
below listing m path old mid new same first h = record {
  text = heading path None ++ h.text;
  is = record { below = h.text; is = h.is; whole = refl };
  takes = Appends-trans old.taken mid.taken new.taken (heading path None) h.text first h.takes;
  failed = h.failed ∙ same;
}

-- a listing below its heading
pub listed : (listing : Listing) (m : MemoryMap) (path : Option (List ℕ)) (r : Result Bool ListError)
    (old mid new : Device) → mid.failed ≡ old.failed → Appends old.taken mid.taken (heading path None)
    → IfOk r (λ found. Tells listing m found) → IsWritten (IsListing listing m) r mid new
    → IsListed listing m path old new (exit_by r)
listed listing m path (Ok true) old mid new same first tells h = (tells, below listing m path old mid new same first h)
listed listing m path (Ok false) old mid new same first tells h = (tells, below listing m path old mid new same first h)
listed listing m path (Err error.Write) old mid new same first tells h = h
listed listing m path (Err error.Memory) old mid new same first tells h = h ∙ same

-- some lines were written
pub some_lines : {S : Type 0} (b : Bool) (P Q : List Fact → Type 0) (notes : Bool) (m : MemoryMap)
    (wrote : S → S → List ℕ → Type 0) (x y : S) → WroteLines b P Q notes m wrote x y
    → WroteSome (λ text. Unit {0}) wrote x y
some_lines {S} false P Q notes m wrote x y h = record { text = h.text; is = tt; given = h.given }
some_lines {S} true P Q notes m wrote x y h = record { text = h.text; is = tt; given = h.given }

-- a listing was written as lines, all of it
pub text_written : {S : Type 0} (taken : S → Option (List ℕ)) (failed : S → Bool) (listing : Listing)
    (m : MemoryMap) (x : Bool) (old new : S) (text : List ℕ) → IsListing listing m text
    → Appends (taken old) (taken new) text × (failed new ≡ failed old)
    → IsWritten (IsListing listing m) (Ok x) (device taken failed old) (device taken failed new)
text_written {S} taken failed listing m x old new text is h = record { text = text; is = is; takes = h.0; failed = h.1 }
