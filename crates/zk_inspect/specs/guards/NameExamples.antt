-- Worked examples of what catalogues name a story by.
use Rattle.std.specs.Prelude.{◌≡◌, ℕ, List, [], ◌++◌, Some, None, codes, replicate}
use Rattle.zk_mem.specs.Header.{header_of}
use Rattle.zk_mem.specs.declared.header.Header.{Header}
use Rattle.zk_inspect.specs.guards.Examples.{file_of, memory_by}
use Rattle.zk_inspect.specs.Ifid.{first_name, header_name, ifid_line}

-- 8 to 63 letters, digits and hyphens, and two slashes after them; the first counts
abbrev pub NamesInFiles : Type 0
NamesInFiles =
    (first_name (codes "ab UUID://1974A053-7db0-4103//UUID://12345678//") ≡ Some (codes "1974A053-7db0-4103"))
    × (first_name (codes "UUID://1234567//UUID://12345678//") ≡ Some (codes "12345678"))
    × (first_name (codes "UUID://12345678/ UUID://1234_5678// UUID:/12345678//") ≡ None)
    × (first_name (codes "UUID://" ++ replicate 63 65 ++ codes "//") ≡ Some (replicate 63 65))
    × (first_name (codes "UUID://" ++ replicate 64 65 ++ codes "//") ≡ None)

abbrev pub header_with : ℕ → List ℕ → ℕ → Header
header_with release serial sum = record (header_of (file_of 5)) { release = release; serial = serial; checksum = sum }

-- the checksum is said of a serial number that begins with a digit, but for those of the 1980s and for one of zeros
abbrev pub NamesByHeaders : Type 0
NamesByHeaders =
    (header_name (header_with 88 (codes "840726") 0xa129) ≡ codes "ZCODE-88-840726")
    × (header_name (header_with 16 (codes "951024") 0x4de6) ≡ codes "ZCODE-16-951024-4DE6")
    × (header_name (header_with 1 (codes "000000") 0x1234) ≡ codes "ZCODE-1-000000")
    × (header_name (header_with 1 (codes "000001") 0xa) ≡ codes "ZCODE-1-000001-000A")
    × (header_name (header_with 2 (codes "A9/:01") 0x1234) ≡ codes "ZCODE-2-A9--01")
    × (ifid_line (memory_by 5 (file_of 5) []) ≡ codes "ZCODE-258-261-2--000F")
