-- Facts: their names, which are zkit's choice, and what a writer was given of them.
use Rattle.std.specs.Prelude.{◌≡◌, ℕ, Bool, true, false, List, [], ◌++◌, codes}
use Rattle.std.proofs.Common.{◌∙◌, ap, append_assoc, append-nil, refl, sym}
use Rattle.zk_inspect.specs.declared.fact.Fact.{Fact}
use Rattle.zk_inspect.specs.declared.fact.Field.{Field}
use Rattle.zk_inspect.specs.declared.fact.Field.TheVariants as field
use Rattle.zk_inspect.specs.declared.fact.Part.{Part}
use Rattle.zk_inspect.specs.declared.fact.Part.TheVariants as part

abbrev pub field_name : Field → List ℕ
field_name field.Version = codes "version"
field_name field.Release = codes "release"
field_name field.Serial = codes "serial"
field_name field.Length = codes "length"
field_name field.File = codes "file"
field_name field.Checksum = codes "checksum"
field_name field.Start = codes "start"
field_name field.High = codes "high"
field_name field.Static = codes "static"
field_name field.Dictionary = codes "dictionary"
field_name field.Objects = codes "objects"
field_name field.Globals = codes "globals"
field_name field.Abbreviations = codes "abbreviations"
field_name field.Flags1 = codes "flags1"
field_name field.Flags2 = codes "flags2"
field_name field.Alphabet = codes "alphabet"
field_name field.Extension = codes "extension"

abbrev pub part_name : Part → List ℕ
part_name part.Header = codes "header"
part_name part.Abbreviations = codes "abbreviations"
part_name part.Globals = codes "globals"
part_name part.Objects = codes "objects"
part_name part.Dictionary = codes "dictionary"
part_name part.Static = codes "static"
part_name part.High = codes "high"
part_name part.Start = codes "start"

-- a writer was given some facts of which something holds
pub record GaveSome {S : Type 0} (P : List Fact → Type 0) (wrote : S → S → List Fact → Type 0)
    (old new : S) : Type 0 where
  pub facts : List Fact
  pub is : P facts
  pub given : wrote old new facts

-- facts were given, by whether that was refused: all that are wanted, or some
abbrev pub GaveBy : {S : Type 0} → Bool → (All Some : List Fact → Type 0) → (S → S → List Fact → Type 0) → S
    → S → Type 0
GaveBy {S} false All Some wrote old new = GaveSome All wrote old new
GaveBy {S} true All Some wrote old new = GaveSome Some wrote old new

abbrev pub AreNone : List Fact → Type 0
AreNone facts = facts ≡ []

-- items were put behind others, by whether memory was short before and after that
abbrev pub Collected : {A : Type 0} → Bool → Bool → List A → List A → List A → Type 0
Collected {A} false false old new items = new ≡ old ++ items
Collected {A} false true old new items = Unit {0}
Collected {A} true short old new items = short ≡ true

pub collected_none : {A : Type 0} (short : Bool) (old : List A) → Collected short short old old []
collected_none {A} false old = sym (append-nil old)
collected_none {A} true old = refl

pub collected_then : {A : Type 0} (x y z : Bool) (a b c : List A) (s t : List A) → Collected x y a b s
    → Collected y z b c t → Collected x z a c (s ++ t)
collected_then {A} false false false a b c s t h k = k ∙ ap (λ (l : List A). l ++ t) h ∙ append_assoc a s t
collected_then {A} false false true a b c s t h k = tt
collected_then {A} false true true a b c s t h k = tt
collected_then {A} false true false a b c s t h k = let no = k in absurd cc
collected_then {A} true true z a b c s t h k = k
collected_then {A} true false z a b c s t h k = let no = h in absurd cc

pub collected_late : {A : Type 0} (short : Bool) (list : List A) (items : List A) → short ≡ true
    → Collected short short list list items
collected_late {A} true list items is = refl
collected_late {A} false list items is = absurd cc
