-- Coverage files: the story, and the addresses of the instructions that ran.
use Rattle.std.specs.Prelude.{◌≡◌, ◌⊎◌, ℕ, ◌+◌, Bool, true, false, List, [], ◌∷◌, ◌++◌, codes, nat_lt, Option, Some}
use Rattle.std.specs.Prelude.{None}
use Rattle.std.specs.Prelude.{◌-◌, length, slice_get}
use Rattle.std.specs.Prelude.{if◌then◌else◌}
use Rattle.std.specs.List.{flat_map, list_any}
use Rattle.std.specs.Str.{IsUtf8}
use Rattle.std.specs.Str.Lines.{lines}
use Rattle.zk_term.specs.Numbers.{address_digits}
use Rattle.zk_notes.specs.Union.{IsUnion, is_foreign, story_of}

-- the addresses of the marks that are set, the first of which is that of an address
unfoldable pub marked_from : ℕ → List Bool → List ℕ
marked_from a [] = []
marked_from a (m ∷ ms) = if m then a ∷ marked_from (a + 1) ms else marked_from (a + 1) ms

abbrev pub address_line : ℕ → List ℕ
address_line a = address_digits a ++ codes "\n"

-- the line of an address whose mark is set, or none
abbrev pub marked_line : ℕ → Bool → List ℕ
marked_line a m = if m then address_line a else []

-- what a file has: the line of the story, and then one for each address
abbrev pub text_of_cover : List ℕ → List Bool → List ℕ
text_of_cover story marks = story ++ codes "\n" ++ flat_map address_line (marked_from 0 marks)

-- what is read of a file: it begins with the line of the story, each other line is that once more, an address, or
-- spaces alone, and the addresses are those of its lines, each once, ascending
pub record HasCoverage (bytes story addresses : List ℕ) : Type 0 where
  pub told : story_of (lines bytes) ≡ Some story
  pub no_other : list_any (is_foreign story) (lines bytes) ≡ false
  pub union : IsUnion addresses (lines bytes)

-- nothing is read of a file that is no text, does not begin with the line of a story, or has a line of another kind
abbrev pub HasNoCoverage : List ℕ → Type 0
HasNoCoverage bytes =
    (IsUtf8 bytes → ⊥)
    ⊎ ((story_of (lines bytes) ≡ None)
    ⊎ ((story : List ℕ) × (story_of (lines bytes) ≡ Some story) × (list_any (is_foreign story) (lines bytes) ≡ true)))

-- the last of addresses lies below a bound, where there is one
abbrev pub last_within : Option ℕ → ℕ → Bool
last_within None bound = true
last_within (Some last) bound = nat_lt last bound

abbrev pub are_within : List ℕ → ℕ → Bool
are_within addresses bound = last_within (slice_get addresses (length addresses - 1)) bound
