-- The objects that findings are about (Standard, sections 12.2 and 12.3).
use Rattle.std.specs.Prelude.{ℕ, ◌+◌, ◌-◌, ◌/◌, ◌%◌, ◌==◌, Bool, true, false, Option, Some, None, nat_lt, if◌then◌else◌}
use Rattle.zk_mem.specs.Header.{header_of}
use Rattle.zk_mem.specs.Map.{MemoryMap}
use Rattle.zk_inspect.specs.declared.check.finding.Finding.{Finding}
use Rattle.zk_inspect.specs.declared.check.finding.Number.{Number}
use Rattle.zk_inspect.specs.declared.check.finding.Number.TheVariants.{ObjectLinks, ChainWithARepeat, PropertyList}

-- where entries begin in a table, and how many bytes one has, by whether the version is 3
abbrev pub first_entry : Bool → ℕ → ℕ
first_entry true table = table + 62
first_entry false table = table + 126

abbrev pub entry_size : Bool → ℕ
entry_size true = 9
entry_size false = 14

-- the object whose entry lies at an address, from the first on
abbrev pub object_from : ℕ → ℕ → ℕ → Option ℕ
object_from first size a =
    if nat_lt a first then None
    else if (a - first) % size == 0 then Some ((a - first) / size + 1)
    else None

abbrev pub object_at : ℕ → ℕ → ℕ → Option ℕ
object_at version table a = object_from (first_entry (version == 3) table) (entry_size (version == 3)) a

-- whether findings of a number are about objects
abbrev pub is_about_object : Number → Bool
is_about_object ObjectLinks = true
is_about_object ChainWithARepeat = true
is_about_object PropertyList = true
is_about_object _ = false

-- the object that a finding is about
abbrev pub object_of : MemoryMap → Finding → Option ℕ
object_of m f = if is_about_object f.number then object_at (header_of m.file).version (header_of m.file).objects
    f.address else None
