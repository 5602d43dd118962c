-- What a text of a story is, as a name: a short name (Standard, section 12.4), or the name of an identifier that
-- Inform 6 leaves in a story.
use Rattle.std.specs.Prelude.{◌≡◌, ℕ, ◌==◌, ◌&&◌, ◌||◌, Bool, true, false, List, [], ◌∷◌, ◌++◌, Option, Some, None}
use Rattle.std.specs.Prelude.{Result, Ok, Err, nat_le, nat_lt, if◌then◌else◌}
use Rattle.std.specs.List.{list_all}
use Rattle.std.proofs.Common.{refl, sym, ap, ◌∙◌}
use Rattle.std.proofs.lemmas.List.Folds.{list_all-append}
use Rattle.zk_mem.specs.declared.fault.Fault.{Fault}
use Rattle.zk_mem.specs.Header.{unpacked}
use Rattle.zk_mem.specs.Map.{MemoryMap}
use Rattle.zk_tables.specs.Properties.{name_of}
use Rattle.zk_text.specs.declared.unit.Unit.{Unit}
use Rattle.zk_text.specs.declared.unit.Unit.TheVariants.{Code, Character}
use Rattle.zk_text.specs.Meaning.{Units, text_units}
use Rattle.zk_text.specs.Walked.{words_walked}
use Rattle.zk_inform.specs.declared.naming.Naming.{Naming}
use Rattle.zk_inform.specs.declared.naming.Naming.TheVariants.{Unnamed, Named, Wrong}
use Rattle.zk_inform.specs.declared.naming.Spelling.{Spelling}

-- letters, digits and the underscore, and the stroke between two names of one thing
abbrev pub is_name_unit : Unit → Bool
is_name_unit (Code c) =
    (nat_le 97 c && nat_le c 122) || (nat_le 65 c && nat_le c 90) || (nat_le 47 c && nat_le c 57) || c == 95
is_name_unit (Character c) = false

-- the first of some units
abbrev pub first_unit : List Unit → Option Unit
first_unit [] = None
first_unit (u ∷ us) = Some u

-- the first of units, where some come behind those that were there
abbrev pub first_or : Option Unit → List Unit → Option Unit
first_or None us = first_unit us
first_or (Some u) us = Some u

-- how the units of a text are spelled
abbrev pub spelled : List Unit → Spelling
spelled us = record { first = first_unit us; is_name = list_all is_name_unit us }

abbrev pub spelled_if : Units → Option Spelling
spelled_if (Ok us) = Some (spelled us)
spelled_if (Err f) = None

-- how a text is spelled, that has a meaning, and at most as many words as a short name has
unfoldable pub spelling_of : MemoryMap → ℕ → Option Spelling
spelling_of m a = if nat_lt 255 (words_walked m a) then None else spelled_if (text_units m a)

-- ---- identifier names

-- `<`, with which no identifier begins
abbrev pub is_mark : Unit → Bool
is_mark (Code c) = c == 60
is_mark (Character c) = false

-- a text at an address by its first unit, and whether all its units are those of an identifier. Inform leaves
-- `<unknown attribute>` where there is none
abbrev pub naming_by_first : ℕ → Option Unit → Bool → Naming
naming_by_first a None is_name = Wrong
naming_by_first a (Some u) is_name = if is_mark u then Unnamed else if is_name then Named a else Wrong

abbrev pub naming_by : ℕ → Spelling → Naming
naming_by a s = naming_by_first a s.first s.is_name

abbrev pub naming_if : ℕ → Option Spelling → Naming
naming_if a None = Wrong
naming_if a (Some s) = naming_by a s

unfoldable pub naming_at : MemoryMap → ℕ → Naming
naming_at m a = naming_if a (spelling_of m a)

-- by a packed address, where 0 is none
unfoldable pub naming_of : MemoryMap → ℕ → Naming
naming_of m packed = if packed == 0 then Unnamed else naming_at m (unpacked m.version packed)

abbrev pub naming_of_word : MemoryMap → Result ℕ Fault → Naming
naming_of_word m (Ok packed) = naming_of m packed
naming_of_word m (Err f) = Wrong

-- ---- short names

-- a text at an address by its first unit: an empty one is no name
abbrev pub shown_by_first : ℕ → Option Unit → Naming
shown_by_first a None = Unnamed
shown_by_first a (Some u) = Named a

abbrev pub shown_by : ℕ → Spelling → Naming
shown_by a s = shown_by_first a s.first

abbrev pub shown_if : ℕ → Option Spelling → Naming
shown_if a None = Unnamed
shown_if a (Some s) = shown_by a s

unfoldable pub shown_naming : MemoryMap → ℕ → Naming
shown_naming m a = shown_if a (spelling_of m a)

abbrev pub naming_of_name : MemoryMap → Result (Option ℕ) Fault → Naming
naming_of_name m (Ok (Some a)) = shown_naming m a
naming_of_name m (Ok None) = Unnamed
naming_of_name m (Err f) = Unnamed

-- the short name of an object (section 12.4)
unfoldable pub object_naming : MemoryMap → ℕ → Naming
object_naming m o = naming_of_name m (name_of m o)

-- ---- units that are taken note of one after another

pub first_nothing : (first : Option Unit) → first ≡ first_or first []
first_nothing None = refl
first_nothing (Some u) = refl

pub all_nothing : (all : Bool) → all ≡ (all && true)
all_nothing true = refl
all_nothing false = refl

first_more : (first : Option Unit) (us vs : List Unit) → first_or (first_or first us) vs ≡ first_or first (us ++ vs)
first_more None [] vs = refl
first_more None (u ∷ us) vs = refl
first_more (Some u) us vs = refl

pub first_twice : (a b c : Option Unit) (us vs : List Unit) → b ≡ first_or a us → c ≡ first_or b vs
    → c ≡ first_or a (us ++ vs)
first_twice a b c us vs h k = k ∙ ap (λ (x : Option Unit). first_or x vs) h ∙ first_more a us vs

both_twice : (x y z : Bool) → ((x && y) && z) ≡ (x && (y && z))
both_twice true y z = refl
both_twice false y z = refl

pub all_twice : (a b c : Bool) (us vs : List Unit) → b ≡ (a && list_all is_name_unit us)
    → c ≡ (b && list_all is_name_unit vs) → c ≡ (a && list_all is_name_unit (us ++ vs))
all_twice a b c us vs h k =
    k ∙ ap (λ (x : Bool). x && list_all is_name_unit vs) h
    ∙ both_twice a (list_all is_name_unit us) (list_all is_name_unit vs)
    ∙ ap (λ (x : Bool). a && x) (sym (list_all-append is_name_unit us vs))
