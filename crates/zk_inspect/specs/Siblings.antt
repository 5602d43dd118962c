-- Objects further on along siblings (Standard, section 12.3).
use Rattle.std.specs.Prelude.{◌≡◌, ◌≤◌, ℕ, zero, suc, ◌+◌, List, length, get_or, Result, Ok, Err}
use Rattle.zk_mem.specs.declared.fault.Fault.{Fault}
use Rattle.zk_mem.specs.Map.{MemoryMap}
use Rattle.zk_tables.specs.Links.{link_at, sibling_of}

-- the object that a link names, or 0 where the link is none
abbrev pub named_or_zero : Result ℕ Fault → ℕ
named_or_zero (Ok o) = o
named_or_zero (Err f) = 0

-- the sibling of an object, or 0 where it has none or no entry
unfoldable pub next_sibling : MemoryMap → ℕ → ℕ
next_sibling m o = named_or_zero (link_at m (sibling_of o))

-- the object so many siblings on, or 0
unfoldable pub sibling_after : MemoryMap → ℕ → ℕ → ℕ
sibling_after m zero o = o
sibling_after m (suc n) o = sibling_after m n (next_sibling m o)

-- a list has, at each object's number, the one so many siblings on
pub record IsAhead (m : MemoryMap) (n : ℕ) (xs : List ℕ) : Type 0 where
  pub each : (o : ℕ) → get_or xs o 0 ≡ sibling_after m n o

-- it has the sibling of each object up to one
pub record HasSiblings (m : MemoryMap) (last : ℕ) (xs : List ℕ) : Type 0 where
  pub size : length xs ≡ last + 1
  pub each : (o : ℕ) → o ≤ last → get_or xs o 0 ≡ next_sibling m o
