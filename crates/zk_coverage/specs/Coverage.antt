-- What ran of a story.
use Rattle.std.specs.Prelude.{ℕ, ◌==◌, ◌&&◌, Bool, true, false, List, [], ◌∷◌, length, nat_lt, nat_le}
use Rattle.std.specs.Prelude.{count_by, filter, Option, Some, None, ◌+◌, is_some, not}
use Rattle.std.specs.List.{list_any}
use Rattle.std.specs.List.Sorted.{IsNonDecreasing, IsNonDecreasingBy}
use Rattle.zk_names.specs.Places.{place_at}
use Rattle.zk_names.specs.declared.names.Names.{Names}
use Rattle.zk_names.specs.declared.names.Place.{Place}
use Rattle.zk_names.specs.declared.names.Routine.{Routine}
use Rattle.zk_coverage.specs.declared.ran.Ran.{Ran}
use Rattle.zk_coverage.specs.declared.ran.Share.{Share}
use Rattle.zk_coverage.specs.declared.ran.Span.{Span}
use Rattle.zk_coverage.specs.declared.ran.Text.{Text}
use Rattle.zk_coverage.specs.declared.tally.PlacedText.{PlacedText}

-- the lists of what ran, and of what there is, ascend
pub record AreInOrder (ran : Ran) : Type 0 where
  pub covered : IsNonDecreasing ran.covered.now
  pub instructions : IsNonDecreasing ran.instructions.now
  pub texts : IsNonDecreasingBy (λ (t : Text). t.address) ran.texts.now

-- an instruction ran if its address is covered
abbrev pub has_run : List ℕ → ℕ → Bool
has_run covered address = list_any (λ a. a == address) covered

-- an address lies in a span
abbrev pub is_within : Span → ℕ → Bool
is_within s a = nat_le s.low a && nat_lt a s.high

-- those of addresses, and of texts, that lie in a span
abbrev pub addresses_in : Span → List ℕ → List ℕ
addresses_in s addresses = filter (is_within s) addresses

abbrev pub texts_in : Span → List Text → List Text
texts_in s texts = filter (λ t. is_within s t.address) texts

-- code was entered if the first of its instructions ran
abbrev pub first_ran : List ℕ → List ℕ → Bool
first_ran covered [] = false
first_ran covered (a ∷ rest) = has_run covered a

abbrev pub was_entered : Ran → Span → Bool
was_entered ran s = first_ran ran.covered.now (addresses_in s ran.instructions.now)

-- how many of addresses ran, and how many of texts were shown
abbrev pub addresses_share : List ℕ → List ℕ → Share
addresses_share covered addresses = record { ran = count_by (has_run covered) addresses; listed = length addresses }

abbrev pub texts_share : List ℕ → List Text → Share
texts_share covered texts = record { ran = count_by (λ t. has_run covered t.address) texts; listed = length texts }

-- the instructions of a routine: those above its address that it has
abbrev pub span_of : Routine → Span
span_of r = record { low = r.address + 1; high = r.address + r.length }

-- a place is in a file; or there is no place, where no file is asked for
abbrev pub is_of : Option ℕ → Option Place → Bool
is_of None None = true
is_of (Some file) (Some place) = place.file == file
is_of _ _ = false

-- how many of the routines of a file were entered, and how many of its texts were shown
abbrev pub routine_ran : Ran → Option ℕ → Routine → Bool
routine_ran ran file r = is_of file r.place && was_entered ran (span_of r)

abbrev pub routines_share : Ran → Option ℕ → List Routine → Share
routines_share ran file routines =
    record { ran = count_by (routine_ran ran file) routines; listed = count_by (λ r. is_of file r.place) routines }

abbrev pub text_ran : List ℕ → Option ℕ → PlacedText → Bool
text_ran covered file t = is_of file t.place && has_run covered t.text.address

abbrev pub placed_share : List ℕ → Option ℕ → List PlacedText → Share
placed_share covered file texts =
    record { ran = count_by (text_ran covered file) texts; listed = count_by (λ t. is_of file t.place) texts }

-- how many routines were entered
abbrev pub all_routines : Ran → List Routine → Share
all_routines ran routines =
    record { ran = count_by (λ r. was_entered ran (span_of r)) routines; listed = length routines }

-- a text with the place that names give it
abbrev pub placed : Names → Text → PlacedText
placed names t = record { text = t; place = place_at names t.address }

-- where the instructions of a routine end, by the addresses of the routines behind it
abbrev pub bound_of : List ℕ → ℕ
bound_of [] = 0x100000000
bound_of (r ∷ routines) = r

-- a routine of the source was not entered; those of the compiler's own have no place
abbrev pub never_ran : Ran → Routine → Bool
never_ran ran r = is_some r.place && not (was_entered ran (span_of r))

-- a text was not shown
abbrev pub never_shown : Ran → Text → Bool
never_shown ran t = not (has_run ran.covered.now t.address)
