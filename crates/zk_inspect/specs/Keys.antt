-- The order of a dictionary's entries (Standard, section 13.5).
use Rattle.std.specs.Prelude.{◌≡◌, ℕ, ◌+◌, ◌<◌, Bool, true, false, ◌&&◌, ◌||◌, ◌==◌, List, [], ◌∷◌, take, drop, nat_lt}
use Rattle.std.specs.Prelude.{Ok}
use Rattle.zk_mem.specs.Map.{MemoryMap}
use Rattle.zk_mem.specs.Header.{header_of}
use Rattle.zk_tables.specs.declared.dictionary.Dictionary.{Dictionary}
use Rattle.zk_tables.specs.Dictionaries.{dictionary_at, entry_start, key_length}

-- bytes come before others: at the first place where they differ, theirs is the lower
unfoldable pub comes_before : List ℕ → List ℕ → Bool
comes_before xs [] = false
comes_before [] (y ∷ ys) = true
comes_before (x ∷ xs) (y ∷ ys) = nat_lt x y || (x == y && comes_before xs ys)

-- the key of an entry, counted from 0 (sections 13.3 and 13.4)
unfoldable pub key_in : MemoryMap → Dictionary → ℕ → List ℕ
key_in m d i = take (key_length m.version) (drop (entry_start d i) m.bytes)

-- the entry after one does not come after it
abbrev pub Falls : MemoryMap → Dictionary → ℕ → Type 0
Falls m d i = (i + 1 < d.entries) × (comes_before (key_in m d i) (key_in m d (i + 1)) ≡ false)

-- the first entry, at an address, that does not come after the one before it, in a dictionary that says that it is
-- sorted
pub record IsFirstFall (m : MemoryMap) (a : ℕ) : Type 0 where
  pub dictionary : Dictionary
  pub index : ℕ
  pub stands : dictionary_at m (header_of m.file).dictionary ≡ Ok dictionary
  pub sorted : dictionary.is_sorted ≡ true
  pub falls : Falls m dictionary index
  pub first : (i : ℕ) → i < index → Falls m dictionary i → ⊥
  pub address : a ≡ entry_start dictionary (index + 1)
