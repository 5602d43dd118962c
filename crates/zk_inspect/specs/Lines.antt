-- The line of each fact.
use Rattle.std.specs.Prelude.{◌≡◌, ℕ, Bool, true, false, List, [], ◌∷◌, ◌++◌, codes, if◌then◌else◌}
use Rattle.std.specs.List.{flat_map}
use Rattle.std.proofs.Common.{append-nil, refl, subst}
use Rattle.std.proofs.lemmas.Grind.{flat_map-append}
use Rattle.zk_mem.specs.Map.{MemoryMap}
use Rattle.zk_term.specs.LineWriters.{WroteSome}
use Rattle.zk_inspect.specs.AbbreviationLines.{abbreviation_line}
use Rattle.zk_inspect.specs.AlphabetLines.{alphabet_line, extra_line}
use Rattle.zk_inspect.specs.DictionaryLines.{fault_line, separators_line, size_line, word_line}
use Rattle.zk_inspect.specs.ExtensionLines.{extension_line}
use Rattle.zk_inspect.specs.Facts.{GaveBy}
use Rattle.zk_inspect.specs.FindingLines.{finding_line}
use Rattle.zk_inspect.specs.GlobalLines.{global_line}
use Rattle.zk_inspect.specs.HeaderLines.{field_line}
use Rattle.zk_inspect.specs.Ifid.{ifid_line}
use Rattle.zk_inspect.specs.Listing.{address_line, origin_line, routine_line}
use Rattle.zk_inspect.specs.LyingTexts.{text_line}
use Rattle.zk_inspect.specs.MapLines.{place_line}
use Rattle.zk_inspect.specs.Notes.{noted_line}
use Rattle.zk_inspect.specs.ObjectLines.{object_line}
use Rattle.zk_inspect.specs.PropertyBytes.{no_properties_line, property_line}
use Rattle.zk_inspect.specs.Sections.{section_name}
use Rattle.zk_inspect.specs.TreeLines.{row_line}
use Rattle.zk_inspect.specs.declared.fact.Fact.{Fact}
use Rattle.zk_inspect.specs.declared.fact.Fact.TheVariants as fact

-- an instruction with its notes or without them
abbrev pub instruction_line : Bool → MemoryMap → ℕ → List ℕ
instruction_line notes m a = if notes then noted_line m a else address_line m a

-- the line of a fact, up to its end
unfoldable pub fact_line : Bool → MemoryMap → Fact → List ℕ
fact_line notes m (fact.Title s) = codes "[" ++ section_name s ++ codes "]"
fact_line notes m (fact.Field f) = field_line m f
fact_line notes m (fact.Part p) = place_line p
fact_line notes m (fact.Abbreviation n) = abbreviation_line m n
fact_line notes m (fact.Separators d) = separators_line m d
fact_line notes m (fact.Entries d) = size_line d
fact_line notes m (fact.Word w) = word_line m w.index w.address
fact_line notes m (fact.NoDictionary f) = fault_line f
fact_line notes m (fact.Object o) = object_line m o
fact_line notes m (fact.Node row) = row_line m row
fact_line notes m fact.Ifid = ifid_line m
fact_line notes m (fact.Text a) = text_line m a
fact_line notes m (fact.Property o p) = property_line m o p
fact_line notes m (fact.NoProperties o f) = no_properties_line o f
fact_line notes m (fact.Global n) = global_line m n
fact_line notes m (fact.Alphabet row) = alphabet_line m row
fact_line notes m fact.ExtraCharacters = extra_line m
fact_line notes m (fact.ExtensionWord n) = extension_line m n
fact_line notes m (fact.Instruction a) = instruction_line notes m a
fact_line notes m (fact.Routine r) = routine_line m r
fact_line notes m (fact.LyingRoutine r reached) = origin_line m r reached
fact_line notes m (fact.Finding f) = finding_line f

-- the lines of facts
unfoldable pub lines_of : Bool → MemoryMap → List Fact → List ℕ
lines_of notes m = flat_map (λ f. fact_line notes m f ++ codes "\n")

pub lines_none : {S : Type 0} (wrote : S → S → List ℕ → Type 0) (x : S) (n : Bool) (m : MemoryMap) → wrote x x []
    → wrote x x (lines_of n m [])
unfolding lines_of
lines_none {S} wrote x n m h = h

-- a line was written, and its end
pub lines_one : {S : Type 0} (wrote : S → S → List ℕ → Type 0) (twice : (x y z : S) (s t : List ℕ) → wrote x y s
    → wrote y z t → wrote x z (s ++ t)) (x y z : S) (n : Bool) (m : MemoryMap) (f : Fact)
    → wrote x y (fact_line n m f) → wrote y z (codes "\n") → wrote x z (lines_of n m (f ∷ []))
unfolding lines_of
lines_one {S} wrote twice x y z n m f h g =
    rw (append-nil (fact_line n m f ++ codes "\n")) (twice x y z (fact_line n m f) (codes "\n") h g)

-- lines were written after others
pub lines_then : {S : Type 0} (wrote : S → S → List ℕ → Type 0) (twice : (x y z : S) (s t : List ℕ) → wrote x y s
    → wrote y z t → wrote x z (s ++ t)) (x y z : S) (n o : Bool) (m k : MemoryMap) (fs gs : List Fact) → o ≡ n → k ≡ m
    → wrote x y (lines_of n m fs) → wrote y z (lines_of o k gs) → wrote x z (lines_of n m (fs ++ gs))
unfolding lines_of
lines_then {S} wrote twice x y z n o m k fs gs notes memory h g =
    rw (flat_map-append (λ f. fact_line n m f ++ codes "\n") fs gs)
    (twice x y z (lines_of n m fs) (lines_of n m gs) h
    (subst (λ (b : Bool). wrote y z (lines_of b m gs)) notes
    (subst (λ (w : MemoryMap). wrote y z (lines_of o w gs)) memory g)))

-- a text is the lines of facts of which something holds
abbrev pub AreLines : (List Fact → Type 0) → Bool → MemoryMap → List ℕ → Type 0
AreLines P notes m text = (facts : List Fact) × P facts × (text ≡ lines_of notes m facts)

-- lines were written, by whether the listing was refused: those of all facts that are wanted, or of some
abbrev pub WroteLines : {S : Type 0} → Bool → (All Few : List Fact → Type 0) → Bool → MemoryMap
    → (S → S → List ℕ → Type 0) → S → S → Type 0
WroteLines {S} false All Few notes m wrote old new = WroteSome (AreLines All notes m) wrote old new
WroteLines {S} true All Few notes m wrote old new = WroteSome (AreLines Few notes m) wrote old new

-- where each fact was written as its line
pub lines_given : {S W : Type 0} (b : Bool) (All Few : List Fact → Type 0) (notes : Bool) (m : MemoryMap)
    (gave : S → S → List Fact → Type 0) (wrote : W → W → List ℕ → Type 0) (x y : S) (old new : W)
    → GaveBy b All Few gave x y
    → ((facts : List Fact) → gave x y facts → wrote old new (lines_of notes m facts))
    → WroteLines b All Few notes m wrote old new
lines_given {S} {W} false All Few notes m gave wrote x y old new h f =
    record { text = lines_of notes m h.facts; is = (h.facts, h.is, refl); given = f h.facts h.given }
lines_given {S} {W} true All Few notes m gave wrote x y old new h f =
    record { text = lines_of notes m h.facts; is = (h.facts, h.is, refl); given = f h.facts h.given }
