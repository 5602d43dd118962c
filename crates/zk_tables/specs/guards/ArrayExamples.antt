-- Worked examples of this crate's definitions. Their values come from the Standard by hand, and no definition made
-- them. A size from 32768 on is negative: 65533 is -3 (Standard, section 2.2).
use Rattle.std.specs.Prelude.{◌≡◌, ℕ, List, [], ◌∷◌, length, slice_index, Some, None, Ok, Err}
use Rattle.zk_mem.specs.declared.fault.Fault.TheVariants.{BadAddress, ReadOnly}
use Rattle.zk_mem.specs.Fresh.{plain_setup}
use Rattle.zk_mem.specs.Map.{MemoryMap}
use Rattle.zk_text.specs.declared.unit.Unit.TheVariants.{Code}
use Rattle.zk_tables.specs.declared.arrays.rectangle.Rectangle.{Rectangle}
use Rattle.zk_tables.specs.Runs.{bytes_put, places}
use Rattle.zk_tables.specs.Copying.{table_copied}
use Rattle.zk_tables.specs.Scanning.{scanned}
use Rattle.zk_tables.specs.Rectangles.{row_at, rows_of, joined_rows}
use Rattle.zk_tables.specs.Signed.{magnitude}

-- ---- runs of bytes (section 1.1)

-- memory with these bytes, of which six are dynamic
abbrev pub six_dynamic : List ℕ → MemoryMap
six_dynamic bytes = record { version = 5; static_base = 6; bytes = bytes; file = []; setup = plain_setup 0 }

-- eight bytes: 10 at address 0 up to 17 at 7
abbrev pub eight : MemoryMap
eight = six_dynamic (10 ∷ 11 ∷ 12 ∷ 13 ∷ 14 ∷ 15 ∷ 16 ∷ 17 ∷ [])

-- bytes are stored one after the other, the first at the address (section 1.1)
abbrev pub RunsArePut : Type 0
RunsArePut =
    (bytes_put eight 4 (1 ∷ 2 ∷ []) ≡ Ok (six_dynamic (10 ∷ 11 ∷ 12 ∷ 13 ∷ 1 ∷ 2 ∷ 16 ∷ 17 ∷ [])))
    × (bytes_put eight 999 [] ≡ Ok eight)

-- the first that can't be stored decides: below the static base at 6 bytes are written, below 8 they are read, and the
-- address is no sum of 16 bits (section 1.1.1)
abbrev pub RunsEndAtTheStaticBase : Type 0
RunsEndAtTheStaticBase =
    (bytes_put eight 5 (1 ∷ 2 ∷ []) ≡ Err ReadOnly)
    × (bytes_put eight 7 (1 ∷ 2 ∷ []) ≡ Err ReadOnly)
    × (bytes_put eight 8 (1 ∷ 2 ∷ []) ≡ Err BadAddress)
    × (bytes_put eight 65536 (1 ∷ []) ≡ Err BadAddress)

-- after 65535 the bytes of a table go on at 0, a choice of zkit (section 1.1)
abbrev pub PlacesGoOnAtZero : Type 0
PlacesGoOnAtZero = places 65534 4 ≡ 65534 ∷ 65535 ∷ 0 ∷ 1 ∷ []

-- ---- tables are copied (section 15, `copy_table`)

-- 11, 12 and 13 at 1 are copied to 3, where the last of them stands: as if at once, it is copied as it was (section
-- 15, `copy_table`)
abbrev pub CopiesUpwards : Type 0
CopiesUpwards = table_copied eight 1 3 3 ≡ Ok (six_dynamic (10 ∷ 11 ∷ 12 ∷ 11 ∷ 12 ∷ 13 ∷ 16 ∷ 17 ∷ []))

-- 13, 14 and 15 at 3 are copied to 1, over the first of them (section 15, `copy_table`)
abbrev pub CopiesDownwards : Type 0
CopiesDownwards = table_copied eight 3 1 3 ≡ Ok (six_dynamic (10 ∷ 13 ∷ 14 ∷ 15 ∷ 14 ∷ 15 ∷ 16 ∷ 17 ∷ []))

-- from address 0, and to where it stands (section 15, `copy_table`)
abbrev pub CopiesFromZero : Type 0
CopiesFromZero =
    (table_copied eight 0 4 2 ≡ Ok (six_dynamic (10 ∷ 11 ∷ 12 ∷ 13 ∷ 10 ∷ 11 ∷ 16 ∷ 17 ∷ [])))
    × (table_copied eight 2 2 3 ≡ Ok eight)

-- a size of -3 copies forwards: what was stored is copied again (section 15, `copy_table`)
abbrev pub CopiesForwards : Type 0
CopiesForwards =
    (table_copied eight 1 3 65533 ≡ Ok (six_dynamic (10 ∷ 11 ∷ 12 ∷ 11 ∷ 12 ∷ 11 ∷ 16 ∷ 17 ∷ [])))
    × (table_copied eight 1 2 65533 ≡ Ok (six_dynamic (10 ∷ 11 ∷ 11 ∷ 11 ∷ 11 ∷ 15 ∷ 16 ∷ 17 ∷ [])))
    × (table_copied eight 3 1 65533 ≡ Ok (six_dynamic (10 ∷ 13 ∷ 14 ∷ 15 ∷ 14 ∷ 15 ∷ 16 ∷ 17 ∷ [])))

-- where the second table is 0 the first is cleared, by the size without its sign (section 15, `copy_table`)
abbrev pub TablesAreCleared : Type 0
TablesAreCleared =
    (table_copied eight 2 0 3 ≡ Ok (six_dynamic (10 ∷ 11 ∷ 0 ∷ 0 ∷ 0 ∷ 15 ∷ 16 ∷ 17 ∷ [])))
    × (table_copied eight 4 0 65534 ≡ Ok (six_dynamic (10 ∷ 11 ∷ 12 ∷ 13 ∷ 0 ∷ 0 ∷ 16 ∷ 17 ∷ [])))

-- of size 0 nothing is copied or cleared, and no address is looked at (section 15, `copy_table`)
abbrev pub NothingIsCopied : Type 0
NothingIsCopied =
    (table_copied eight 1 3 0 ≡ Ok eight) × (table_copied eight 99 98 0 ≡ Ok eight)
    × (table_copied eight 99 0 0 ≡ Ok eight)

-- the size without its sign: -32768 has 32768 bytes, and -1 has one (section 15, `copy_table`)
abbrev pub SizesHaveNoSign : Type 0
SizesHaveNoSign =
    (magnitude 0 ≡ 0) × (magnitude 32767 ≡ 32767) × (magnitude 32768 ≡ 32768) × (magnitude 32769 ≡ 32767)
    × (magnitude 65535 ≡ 1)

-- As if at once, a byte that can't be read decides before any is stored, be it the last; then the first byte that
-- can't be stored does: a choice of zkit (section 15, `copy_table`).
abbrev pub CopiesReadFirst : Type 0
CopiesReadFirst =
    (table_copied eight 6 6 3 ≡ Err BadAddress)
    × (table_copied eight 99 2 1 ≡ Err BadAddress)
    × (table_copied eight 0 6 2 ≡ Err ReadOnly)
    × (table_copied eight 0 5 2 ≡ Err ReadOnly)
    × (table_copied eight 0 7 2 ≡ Err ReadOnly)
    × (table_copied eight 0 8 2 ≡ Err BadAddress)

-- Forwards, and where a table is cleared, they are met one by one: at 6 the first byte of three can't be stored, before
-- the third can't be read; a choice of zkit (section 15, `copy_table`).
abbrev pub BytesInTheirOrder : Type 0
BytesInTheirOrder =
    (table_copied eight 6 6 65533 ≡ Err ReadOnly)
    × (table_copied eight 6 1 65533 ≡ Err BadAddress)
    × (table_copied eight 5 0 4 ≡ Err ReadOnly)
    × (table_copied eight 8 0 1 ≡ Err BadAddress)

-- ---- tables are searched (section 15, `scan_table`)

-- eight bytes from address 0 on
abbrev pub searched : MemoryMap
searched = six_dynamic (5 ∷ 7 ∷ 5 ∷ 9 ∷ 1 ∷ 5 ∷ 7 ∷ 200 ∷ [])

-- form 0x82 looks at every second word, high byte first; 0x81 and 0x83 at words every one and three bytes (section 15,
-- `scan_table`)
abbrev pub WordsAreFound : Type 0
WordsAreFound =
    (scanned searched 0x0105 0 0x82 4 ≡ Ok (Some 4))
    × (scanned searched 0x0507 1 0x82 3 ≡ Ok (Some 5))
    × (scanned searched 0x0507 1 0x81 5 ≡ Ok (Some 5))
    × (scanned searched 0x07c8 0 0x83 3 ≡ Ok (Some 6))
    × (scanned searched 0x0705 0 0x82 3 ≡ Ok None)

-- form 0x02 looks at every second byte (section 15, `scan_table`)
abbrev pub BytesAreFound : Type 0
BytesAreFound =
    (scanned searched 5 1 0x02 3 ≡ Ok (Some 5))
    × (scanned searched 9 0 0x01 8 ≡ Ok (Some 3))
    × (scanned searched 9 0 0x02 4 ≡ Ok None)
    × (scanned searched 5 1 0x0102 3 ≡ Ok (Some 5))

-- the first of two that match is found, also at address 0, and none of those past the length (section 15,
-- `scan_table`)
abbrev pub TheFirstIsFound : Type 0
TheFirstIsFound =
    (scanned searched 7 0 0x01 8 ≡ Ok (Some 1))
    × (scanned searched 7 2 0x01 6 ≡ Ok (Some 6))
    × (scanned searched 5 0 0x01 8 ≡ Ok (Some 0))
    × (scanned searched 9 0 0x01 3 ≡ Ok None)
    × (scanned searched 5 99 0x01 0 ≡ Ok None)

-- no byte is 0x0107, though its low byte is 7: a choice of zkit (section 15, `scan_table`)
abbrev pub ValuesAreWhole : Type 0
ValuesAreWhole = scanned searched 0x0107 0 0x01 8 ≡ Ok None

-- entries of no length are all at one place, a choice of zkit (section 15, `scan_table`)
abbrev pub EntriesOfNoLength : Type 0
EntriesOfNoLength =
    (scanned searched 0x0105 0 0x80 100 ≡ Ok None)
    × (scanned searched 0x0105 4 0x80 1 ≡ Ok (Some 4))
    × (scanned searched 7 0 0x00 100 ≡ Ok None)

-- An entry that can't be read is met where none before it was found; a word at 7 has its second byte past the end: a
-- choice of zkit (section 15, `scan_table`).
abbrev pub ScansEndAtTheMatch : Type 0
ScansEndAtTheMatch =
    (scanned searched 200 6 0x01 3 ≡ Ok (Some 7))
    × (scanned searched 200 0 0x01 65535 ≡ Ok (Some 7))
    × (scanned searched 1 6 0x01 3 ≡ Err BadAddress)
    × (scanned searched 5 8 0x01 1 ≡ Err BadAddress)
    × (scanned searched 0x07c8 6 0x81 2 ≡ Ok (Some 6))
    × (scanned searched 0xc800 6 0x81 2 ≡ Err BadAddress)

-- after 65535 a table goes on at 0, a choice of zkit (section 15, `scan_table`)
abbrev pub ScansGoOnAtZero : Type 0
ScansGoOnAtZero = (m : MemoryMap) → length m.bytes ≡ 65536 → slice_index m.bytes 65535 ≡ 5 → slice_index m.bytes 0 ≡ 9 →
    scanned m 9 65535 0x01 2 ≡ Ok (Some 0)

-- ---- rectangles (section 15, `print_table`)

-- twelve letters: A, 65, at address 0 up to L, 76, at 11
abbrev pub letters : MemoryMap
letters = six_dynamic (65 ∷ 66 ∷ 67 ∷ 68 ∷ 69 ∷ 70 ∷ 71 ∷ 72 ∷ 73 ∷ 74 ∷ 75 ∷ 76 ∷ [])

-- a rectangle at an address, by its width, its height and how many bytes are skipped
abbrev pub rectangle : ℕ → ℕ → ℕ → ℕ → Rectangle
rectangle text width height skip = record { text = text; width = width; height = height; skip = skip }

-- BC, EF and HI: of three letters one is skipped; with none skipped BC, DE and FG (section 15, `print_table`)
abbrev pub RowsAreRead : Type 0
RowsAreRead =
    (rows_of letters (rectangle 1 2 3 1) ≡ Ok ((66 ∷ 67 ∷ []) ∷ (69 ∷ 70 ∷ []) ∷ (72 ∷ 73 ∷ []) ∷ []))
    × (rows_of letters (rectangle 1 2 3 0) ≡ Ok ((66 ∷ 67 ∷ []) ∷ (68 ∷ 69 ∷ []) ∷ (70 ∷ 71 ∷ []) ∷ []))
    × (rows_of letters (rectangle 8 4 1 999) ≡ Ok ((73 ∷ 74 ∷ 75 ∷ 76 ∷ []) ∷ []))

-- a new line stands between two rows, and none after the last (section 15, `print_table`)
abbrev pub RowsAreJoined : Type 0
RowsAreJoined =
    (joined_rows ((66 ∷ 67 ∷ []) ∷ (69 ∷ 70 ∷ []) ∷ (72 ∷ []) ∷ [])
    ≡ Code 66 ∷ Code 67 ∷ Code 13 ∷ Code 69 ∷ Code 70 ∷ Code 13 ∷ Code 72 ∷ [])
    × (joined_rows ((66 ∷ 67 ∷ []) ∷ []) ≡ Code 66 ∷ Code 67 ∷ [])

-- of height 0 there is no row; rows of width 0 have no letter and are parted by new lines, wherever they stand: a
-- choice of zkit (section 15, `print_table`)
abbrev pub EmptyRectangles : Type 0
EmptyRectangles =
    (rows_of letters (rectangle 999 5 0 0) ≡ Ok [])
    × (joined_rows [] ≡ [])
    × (rows_of letters (rectangle 999 0 3 1) ≡ Ok ([] ∷ [] ∷ [] ∷ []))
    × (joined_rows ([] ∷ [] ∷ [] ∷ []) ≡ Code 13 ∷ Code 13 ∷ [])

-- each byte of a row has to be readable, but no skipped one (section 1.1)
abbrev pub RowsEndWithData : Type 0
RowsEndWithData =
    (rows_of letters (rectangle 8 2 2 0) ≡ Ok ((73 ∷ 74 ∷ []) ∷ (75 ∷ 76 ∷ []) ∷ []))
    × (rows_of letters (rectangle 8 2 2 1) ≡ Err BadAddress)
    × (rows_of letters (rectangle 12 1 1 0) ≡ Err BadAddress)

-- the address of a byte is one sum of 16 bits: 65532 and 2 times 4 give 4, a choice of zkit (section 15,
-- `print_table`)
abbrev pub RowsGoOnAtZero : Type 0
RowsGoOnAtZero = row_at letters (rectangle 65532 2 3 2) 2 ≡ Ok (69 ∷ 70 ∷ [])
