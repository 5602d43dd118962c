-- Search by halves in a dictionary whose keys do not fall (Standard, section 13.5).
use Rattle.std.specs.Prelude.{◌≡◌, ℕ, zero, suc, ◌+◌, ◌-◌, ◌/◌, ◌<◌, ◌≤◌, true, List, ◌∷◌, ◌++◌, length, nat_lt, ◌==◌}
use Rattle.std.specs.Prelude.{◌↔◌, if◌then◌else◌}
use Rattle.std.specs.List.{AllByRecursion}
use Rattle.zk_mem.specs.Map.{MemoryMap}
use Rattle.zk_tables.specs.declared.dictionary.Dictionary.{Dictionary}
use Rattle.zk_tables.specs.Dictionaries.{key_length, is_above, do_not_fall, bytes_from, Table, IsTable, described}
use Rattle.zk_tables.specs.Dictionaries.{entry_start, has_key, found_in}

-- the key of an entry, counted from 0
abbrev pub entry_key : MemoryMap → Dictionary → ℕ → List ℕ
entry_key m d i = bytes_from m (entry_start d i) (key_length m.version)

-- where a search by halves comes to: an entry, and how many keys were compared on the way
pub record LinkPlace : Type 0 where
  pub entry : ℕ
  pub compared : ℕ

-- at most so many more times, of the entries that are left, from one on, the one in the middle is compared with the
-- key: where it is below the key those after it are left, else those before it
unfoldable pub halved : MemoryMap → Dictionary → List ℕ → ℕ → ℕ → ℕ → ℕ → LinkPlace
halved m d key zero compared first left = record { entry = first; compared = compared }
halved m d key (suc more) compared first left =
    if nat_lt 0 left
    then (if is_above key (entry_key m d (first + left / 2))
    then halved m d key more (compared + 1) (first + left / 2 + 1) (left - (left / 2 + 1))
    else halved m d key more (compared + 1) first (left / 2))
    else record { entry = first; compared = compared }

-- fewer than 32,768 entries are used up after 15 times
unfoldable pub halved_whole : MemoryMap → Dictionary → List ℕ → LinkPlace
halved_whole m d key = halved m d key 15 0 0 d.entries

-- the address of the entry that the search comes to, where it begins with the key, else 0
abbrev pub found_at_end : MemoryMap → Dictionary → List ℕ → ℕ
found_at_end m d key =
    if nat_lt (halved_whole m d key).entry d.entries
    then (if has_key m d key (halved_whole m d key).entry then entry_start d (halved_whole m d key).entry else 0)
    else 0

-- the same, and 0 for a key of another length, which no entry has
unfoldable pub found_by_halves : MemoryMap → Dictionary → List ℕ → ℕ
found_by_halves m d key = if length key == key_length m.version then found_at_end m d key else 0

-- how many keys are compared: those on the way, and that of the entry that the search comes to
abbrev pub compared_to_end : MemoryMap → Dictionary → List ℕ → ℕ
compared_to_end m d key =
    if nat_lt (halved_whole m d key).entry d.entries then (halved_whole m d key).compared + 1
    else (halved_whole m d key).compared

-- the same, and none for a key of another length
unfoldable pub compared_by_halves : MemoryMap → Dictionary → List ℕ → ℕ
compared_by_halves m d key = if length key == key_length m.version then compared_to_end m d key else 0

-- ---- laws

-- a key is above another: after a front that both have, its byte is greater
pub record IsAbove (key other : List ℕ) : Type 0 where
  pub front : List ℕ
  pub high : ℕ
  pub low : ℕ
  pub rest : List ℕ
  pub other_rest : List ℕ
  pub is : key ≡ front ++ high ∷ rest
  pub other_is : other ≡ front ++ low ∷ other_rest
  pub greater : low < high

-- no key is above one that comes after it, next to it or later
abbrev pub NoneFalls : List (List ℕ) → Type 0
NoneFalls keys = (before between behind : List (List ℕ)) (key later : List ℕ) → keys ≡ before ++ key
    ∷ (between ++ later ∷ behind) → IsAbove key later → ⊥

-- keys of one length do not fall just where this is so
abbrev pub KeysAreInOrder : Type 0
KeysAreInOrder = (n : ℕ) (keys : List (List ℕ)) → AllByRecursion (λ key. length key ≡ n) keys
    → (do_not_fall keys ≡ true) ↔ NoneFalls keys

-- in a table whose keys do not fall, what is found by halves is the first entry that begins with the key, and it takes
-- at most 16 comparisons
pub record IsFoundByHalves (m : MemoryMap) (d : Dictionary) (key : List ℕ) : Type 0 where
  pub first : found_by_halves m d key ≡ found_in m d key
  pub few : compared_by_halves m d key ≤ 16

-- in each dictionary that can be searched so
abbrev pub HalvesFindTheFirst : Type 0
HalvesFindTheFirst = (m : MemoryMap) (a : ℕ) (t : Table) (key : List ℕ) → IsTable m a t
    → (described m a t).allows_halves ≡ true → IsFoundByHalves m (described m a t) key
