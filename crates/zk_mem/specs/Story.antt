-- Which files are stories.
use Rattle.std.specs.Prelude.{ℕ, ◌<◌, ◌≤◌, ◌||◌, Bool, true, false, List, [], ◌∷◌, length, slice_index, Option, Some}
use Rattle.std.specs.Prelude.{None, nat_lt, nat_le, ◌==◌, if◌then◌else◌}
use Rattle.zk_mem.specs.declared.story.OpenError.{OpenError}
use Rattle.zk_mem.specs.declared.story.OpenError.TheVariants.{TooShort, Version, TooLong, StaticBase, FirstInstruction}
use Rattle.zk_mem.specs.declared.story.OpenError.TheVariants.{OutOfMemory}
use Rattle.zk_mem.specs.Header.{word_in}

-- the greatest length of a file of a version (Standard, section 1.1.4), of those that are played
abbrev pub greatest_length : ℕ → Option ℕ
greatest_length version =
    if version == 3 then Some 131072
    else if version == 4 || version == 5 then Some 262144
    else if version == 8 then Some 524288
    else None

-- a version without a greatest length is not played
abbrev pub is_unknown : Option ℕ → Bool
is_unknown None = true
is_unknown (Some most) = false

-- a file longer than its version allows
abbrev pub is_over : Option ℕ → ℕ → Bool
is_over None n = false
is_over (Some most) n = nat_lt most n

-- the refusals in their order, each with its reason
abbrev pub reasons : List ℕ → List (Bool × OpenError)
reasons file =
    (nat_lt (length file) 64, TooShort)
    ∷ (is_unknown (greatest_length (slice_index file 0)), Version (slice_index file 0))
    ∷ (is_over (greatest_length (slice_index file 0)) (length file), TooLong)
    ∷ (nat_lt (word_in file 0x0e) 64 || nat_lt (length file) (word_in file 0x0e), StaticBase)
    ∷ (nat_le (length file) (word_in file 0x06), FirstInstruction)
    ∷ []

-- the first refusal whose reason holds
abbrev pub first_of : List (Bool × OpenError) → Option OpenError
first_of [] = None
first_of (r ∷ rs) = if r.0 then Some r.1 else first_of rs

-- why a file is no story, where it is none
unfoldable pub refusal : List ℕ → Option OpenError
refusal file = first_of (reasons file)

-- the numbers that reports name refusals by
abbrev pub refusal_number : OpenError → ℕ
refusal_number TooShort = 1
refusal_number (Version v) = 2
refusal_number TooLong = 3
refusal_number StaticBase = 4
refusal_number FirstInstruction = 5
refusal_number OutOfMemory = 6

-- the bounds that a story keeps
pub record IsBounded (file : List ℕ) : Type 0 where
  pub header : 64 ≤ length file
  pub longest : length file ≤ 524288
  pub static_low : 64 ≤ word_in file 0x0e
  pub static_high : word_in file 0x0e ≤ length file
  pub start : word_in file 0x06 < length file
