-- Accesses of arrays that go past their ends (Standard, section 15).
use Rattle.std.specs.Prelude.{ℕ, ◌+◌, Bool, ◌&&◌, nat_le, List, [], ◌∷◌, Option, Some, None, if◌then◌else◌}
use Rattle.zk_code.specs.declared.opcode.Array.{Array}
use Rattle.zk_code.specs.declared.opcode.Array.TheVariants.{Loadw, Loadb, Storew, Storeb}
use Rattle.zk_step.specs.Arrays.{byte_of, word_of}
use Rattle.zk_strict.specs.declared.misuse.Extent.{Extent}
use Rattle.zk_strict.specs.declared.misuse.Outside.{Outside}

-- the byte address of what is read or written of an array at an index, which is a sum of 16 bits
abbrev pub accessed : Array → ℕ → ℕ → ℕ
accessed Loadw array index = word_of array index
accessed Loadb array index = byte_of array index
accessed Storew array index = word_of array index
accessed Storeb array index = byte_of array index

-- how many bytes are read or written
abbrev pub size_of : Array → ℕ
size_of Loadw = 2
size_of Loadb = 1
size_of Storew = 2
size_of Storeb = 1

-- so many bytes from a byte address on lie in an array
abbrev pub has_bytes : Extent → ℕ → ℕ → Bool
has_bytes e a count = nat_le e.address a && nat_le (a + count) (e.address + e.length)

-- the first array that a byte address lies in, and its number, where the first of all has this number
unfoldable pub array_from : ℕ → List Extent → ℕ → Option (ℕ × Extent)
array_from n [] a = None
array_from n (e ∷ es) a = if has_bytes e a 1 then Some (n, e) else array_from (n + 1) es a

-- what does not lie in an array, where there is one
abbrev pub outside_of : Option (ℕ × Extent) → ℕ → ℕ → Option Outside
outside_of None a count = None
outside_of (Some r) a count = if has_bytes r.1 a count then None else Some (record { array = r.0; address = a })

-- what is read or written outside of the array that the first operand is in, by the first two operands
unfoldable pub outside : List Extent → Array → ℕ → ℕ → Option Outside
outside arrays operation array index =
    outside_of (array_from 0 arrays array) (accessed operation array index) (size_of operation)
