-- The memory at the start of a story (Standard, sections 8 and 11).
use Rattle.std.specs.Prelude.{ℕ, List, [], ◌∷◌, slice_index, slice_set, nat_lt, ◌==◌, if◌then◌else◌, bit_and, bit_or}
use Rattle.std.specs.Prelude.{false}
use Rattle.zk_mem.specs.declared.memory.Setup.{Setup}
use Rattle.zk_mem.specs.declared.memory.ScreenSetup.{ScreenSetup}
use Rattle.zk_mem.specs.Header.{header_of}
use Rattle.zk_mem.specs.Map.{MemoryMap}

-- a screen of 80 columns, with text of one width alone
abbrev pub plain_screen : ScreenSetup
plain_screen = record { columns = 80; styles = false }

-- so many undo states, and that screen
abbrev pub plain_setup : ℕ → Setup
plain_setup undo_states = record { undo_states = undo_states; screen = plain_screen }

-- the bytes with these values at these addresses
abbrev pub with_values : List (ℕ × ℕ) → List ℕ → List ℕ
with_values [] bytes = bytes
with_values (p ∷ ps) bytes = with_values ps (slice_set bytes p.0 p.1)

-- the standard that is kept, 1.1
abbrev pub standard_fields : List (ℕ × ℕ)
standard_fields = (0x32, 1) ∷ (0x33, 1) ∷ []

-- version 3: a status line, a screen that can be split, letters of one width
abbrev pub screen_fields_3 : List ℕ → List (ℕ × ℕ)
screen_fields_3 bytes = (0x01, bit_or (bit_and (slice_index bytes 0x01) 0b10101111) 0b00100000) ∷ []

-- the text styles that are there, in Flags 1: fixed width alone, or bold and italic too
abbrev pub style_flags : Setup → ℕ
style_flags setup = if setup.screen.styles then 0b00011100 else 0b00010000

-- from version 4: the interpreter, a screen of 255 lines and so many columns, and its text styles
abbrev pub screen_fields_4 : Setup → List ℕ → List (ℕ × ℕ)
screen_fields_4 setup bytes =
    (0x1e, 6) ∷ (0x1f, 65) ∷ (0x20, 255) ∷ (0x21, setup.screen.columns)
    ∷ (0x01, bit_or (bit_and (slice_index bytes 0x01) 0b01010000) (style_flags setup)) ∷ []

-- from version 5: the screen in units of a letter, colours that are not there, and of Flags 2 what
-- is wanted of pictures, mouse, colours, sound, menus, and of undo where no state is kept
abbrev pub screen_fields_5 : Setup → List ℕ → List (ℕ × ℕ)
screen_fields_5 setup bytes =
    (0x22, 0) ∷ (0x23, setup.screen.columns) ∷ (0x24, 0) ∷ (0x25, 255) ∷ (0x26, 1) ∷ (0x27, 1) ∷ (0x2c, 2) ∷ (0x2d, 9)
    ∷ (0x11, bit_and (slice_index bytes 0x11) (if setup.undo_states == 0 then 0b00000111 else 0b00010111))
    ∷ (0x10, bit_and (slice_index bytes 0x10) 0b11111110) ∷ []

-- the bytes with the fields of a group set, which may be made of what stands there
abbrev pub with_group : (List ℕ → List (ℕ × ℕ)) → List ℕ → List ℕ
with_group fields bytes = with_values (fields bytes) bytes

-- the bytes with the fields that an interpreter sets in a version
unfoldable pub with_fields : ℕ → Setup → List ℕ → List ℕ
with_fields version setup bytes =
    if nat_lt version 4 then with_group screen_fields_3 (with_values standard_fields bytes)
    else if nat_lt version 5 then with_group (screen_fields_4 setup) (with_values standard_fields bytes)
    else with_group (screen_fields_5 setup) (with_group (screen_fields_4 setup) (with_values standard_fields bytes))

-- the memory at the start of a story
unfoldable pub fresh : List ℕ → Setup → MemoryMap
fresh file setup = record {
  version = (header_of file).version;
  static_base = (header_of file).static_base;
  bytes = with_fields (header_of file).version setup file;
  file = file;
  setup = setup;
}
