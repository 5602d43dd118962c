-- The checksum of a story file (Standard, section 11.1.6, and section 15, `verify`).
use Rattle.std.specs.Prelude.{ℕ, Bool, ◌-◌, ◌*◌, ◌%◌, ◌&&◌, ◌==◌, List, take, drop, length, sum, nat_le, min}
use Rattle.std.specs.Prelude.{if◌then◌else◌}
use Rattle.zk_mem.specs.Header.{header_of, unit_length}

-- the file's length in bytes, as its header states it in units of 2, 4 or 8 bytes (section 11.1.6)
abbrev pub stated_length : List ℕ → ℕ
stated_length file = unit_length (header_of file).version * (header_of file).file_length

-- where the bytes end that are summed: at the stated length, and where none is stated, or more than there is, at the
-- file's end (a choice of zkit)
abbrev pub summed_end : List ℕ → ℕ
summed_end file = if stated_length file == 0 then length file else min (stated_length file) (length file)

-- the bytes after the header, up to there
abbrev pub summed_bytes : List ℕ → List ℕ
summed_bytes file = take (summed_end file - 0x40) (drop 0x40 file)

-- their sum, modulo 65,536 (section 15, `verify`)
unfoldable pub file_sum : List ℕ → ℕ
file_sum file = sum (summed_bytes file) % 65536

-- the stated length lies in the file, and the sum is the one that the header states (section 15, `verify`)
unfoldable pub has_right_sum : List ℕ → Bool
has_right_sum file = nat_le (stated_length file) (length file) && (file_sum file == (header_of file).checksum)
