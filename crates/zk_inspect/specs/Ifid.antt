-- What catalogues name a story by, its IFID (Treaty of Babel, the section on the Z-machine).
use Rattle.std.specs.Prelude.{◌==◌, ◌-◌, ℕ, Bool, ◌&&◌, ◌||◌, ◌+◌, List, [], ◌∷◌, ◌++◌, Option, Some, None, take, drop}
use Rattle.std.specs.Prelude.{map, not, option_map, nat_le, nat_lt, codes, decimal, slice_index, if◌then◌else◌}
use Rattle.std.specs.List.{starts_with}
use Rattle.std.specs.Str.{bytes_eq}
use Rattle.zk_mem.specs.Header.{header_of}
use Rattle.zk_mem.specs.Map.{MemoryMap}
use Rattle.zk_mem.specs.declared.header.Header.{Header}
use Rattle.zk_term.specs.Numbers.{word_digits}

abbrev pub is_digit : ℕ → Bool
is_digit b = nat_le 48 b && nat_le b 57

abbrev pub is_letter : ℕ → Bool
is_letter b = (nat_le 65 b && nat_le b 90) || (nat_le 97 b && nat_le b 122)

abbrev pub is_name_byte : ℕ → Bool
is_name_byte b = is_letter b || (is_digit b || (b == 45))

-- how many letters, digits and hyphens (45) bytes begin with
unfoldable pub name_length : List ℕ → ℕ
name_length [] = 0
name_length (b ∷ bs) = if is_name_byte b then name_length bs + 1 else 0

-- the name, of 8 to 63 letters, digits and hyphens, that bytes begin with, between `UUID://` and `//`
unfoldable pub name_in_front : List ℕ → Option (List ℕ)
name_in_front bytes =
    let after = drop 7 bytes in
    let n = name_length after in
    if starts_with ◌==◌ bytes (codes "UUID://") &&
    (nat_le 8 n && (nat_le n 63 && starts_with ◌==◌ (drop n after) (codes "//")))
    then Some (take n after)
    else None

abbrev pub first_or : Option (List ℕ) → Option (List ℕ) → Option (List ℕ)
first_or (Some name) other = Some name
first_or None other = other

-- the first such name in a file
unfoldable pub first_name : List ℕ → Option (List ℕ)
first_name [] = None
first_name (b ∷ bs) = first_or (name_in_front (b ∷ bs)) (first_name bs)

-- a serial number is of a year before 2006, when no story named itself: it begins with 8 or 9, or with 00 to 05
abbrev pub is_early : List ℕ → Bool
is_early serial =
    slice_index serial 0 == 56 || (slice_index serial 0 == 57 ||
    (slice_index serial 0 == 48 && (nat_le 48 (slice_index serial 1) && nat_le (slice_index serial 1) 53)))

-- a letter as a capital
abbrev pub capital_letter : ℕ → ℕ
capital_letter b = if nat_le 97 b && nat_le b 122 then b - 32 else b

-- the name by which a file names itself, with capitals
abbrev pub own_name : List ℕ → Option (List ℕ)
own_name file = if is_early (header_of file).serial then None else option_map (map capital_letter) (first_name file)

-- a serial number, with a hyphen in place of what is no letter and no digit
abbrev pub named_byte : ℕ → ℕ
named_byte b = if is_letter b || is_digit b then b else 45

abbrev pub serial_named : List ℕ → List ℕ
serial_named serial = map named_byte serial

-- the checksum is said where the serial number begins with a digit other than 8 (56), and is not all zeros
abbrev pub names_sum : List ℕ → Bool
names_sum serial =
    is_digit (slice_index serial 0) && (not (slice_index serial 0 == 56) && not (bytes_eq serial (codes "000000")))

-- a word by four digits, with capitals
abbrev pub capital_digits : ℕ → List ℕ
capital_digits n = map (λ b. if nat_lt b 97 then b else b - 32) (word_digits n)

abbrev pub sum_text : Header → List ℕ
sum_text h = if names_sum h.serial then codes "-" ++ capital_digits h.checksum else []

-- by the release, the serial number and the checksum
unfoldable pub header_name : Header → List ℕ
header_name h = codes "ZCODE-" ++ decimal h.release ++ codes "-" ++ serial_named h.serial ++ sum_text h

abbrev pub name_or : Option (List ℕ) → List ℕ → List ℕ
name_or (Some name) other = name
name_or None other = other

-- the name in the file, and where there is none, by its header
abbrev pub ifid : List ℕ → List ℕ
ifid file = name_or (own_name file) (header_name (header_of file))

-- the name by the file of a story
unfoldable pub ifid_line : MemoryMap → List ℕ
ifid_line m = ifid m.file
