-- Dictionaries and their entries (Standard, sections 13.2 to 13.5).
use Rattle.std.specs.Prelude.{◌≡◌, ◌≢◌, ℕ, zero, suc, ◌+◌, ◌*◌, ◌-◌, ◌<◌, ◌≤◌, Bool, true, false, ◌&&◌, ◌||◌, List, []}
use Rattle.std.specs.Prelude.{◌∷◌, ◌++◌, length, map, take, drop, get_or, Result, Ok, Err, nat_lt, nat_le, ◌==◌, ◌↔◌}
use Rattle.std.specs.Prelude.{if◌then◌else◌}
use Rattle.std.specs.List.{concat, AllByRecursion}
use Rattle.zk_mem.specs.declared.fault.Fault.{Fault}
use Rattle.zk_mem.specs.declared.fault.Fault.TheVariants.{BadDictionary}
use Rattle.zk_mem.specs.Results.{◌>>=◌}
use Rattle.zk_mem.specs.Map.{MemoryMap, readable_end, byte_at, word_at, HasBytes}
use Rattle.zk_text.specs.Keys.{two_bytes}
use Rattle.zk_tables.specs.declared.dictionary.Dictionary.{Dictionary}
use Rattle.zk_tables.specs.PropertyList.{Stands}
use Rattle.zk_tables.specs.Signed.{magnitude}

-- the bytes of a key: 4 up to version 3, 6 from version 4 on (sections 13.3 and 13.4)
abbrev pub key_length : ℕ → ℕ
key_length version = if nat_lt version 4 then 4 else 6

-- a key is above another: where they first differ its byte is greater, as unsigned numbers
unfoldable pub is_above : List ℕ → List ℕ → Bool
is_above [] others = false
is_above (k ∷ ks) [] = false
is_above (k ∷ ks) (o ∷ os) = if k == o then is_above ks os else nat_lt o k

-- keys do not fall: none is above the one after it
unfoldable pub do_not_fall : List (List ℕ) → Bool
do_not_fall [] = true
do_not_fall (k ∷ []) = true
do_not_fall (k ∷ l ∷ ks) = if is_above k l then false else do_not_fall (l ∷ ks)

-- a table at an address can be searched by halves: all of it lies at or above the static base, where nothing is
-- written, its count says that it is sorted, and its keys are
abbrev pub can_be_halved : MemoryMap → ℕ → ℕ → List (List ℕ) → Bool
can_be_halved m a count keys = nat_le m.static_base a && nat_lt count 32768 && do_not_fall keys

-- a dictionary: its separators, the length of an entry, the count as it is written, and the entries
-- (section 13.2)
pub record Table : Type 0 where
  pub separators : List ℕ
  pub entry_length : ℕ
  pub count : ℕ
  pub entries : List (List ℕ)

-- how it is spelled: how many separators, the separators, the length of an entry, the count, the entries
-- (section 13.2)
abbrev pub table_bytes : Table → List ℕ
table_bytes t = (length t.separators ∷ t.separators) ++ (t.entry_length ∷ two_bytes t.count) ++ concat t.entries

-- a dictionary whose bytes stand in data from an address on, with room for a key in each entry
pub record IsTable (m : MemoryMap) (a : ℕ) (t : Table) : Type 0 where
  pub end : ℕ
  pub bytes : Stands m a (table_bytes t) end
  pub count : t.count < 65536
  pub entries : length t.entries ≡ magnitude t.count
  pub lengths : AllByRecursion (λ e. length e ≡ t.entry_length) t.entries
  pub room : key_length m.version ≤ t.entry_length

-- the keys of its entries, their first bytes (sections 13.3 and 13.4)
abbrev pub keys_of : MemoryMap → Table → List (List ℕ)
keys_of m t = map (λ entry. take (key_length m.version) entry) t.entries

-- where its parts stand, and how it can be searched
abbrev pub described : MemoryMap → ℕ → Table → Dictionary
described m a t = record {
  address = a;
  separators = length t.separators;
  entry_length = t.entry_length;
  entries = length t.entries;
  is_sorted = nat_lt t.count 32768;
  allows_halves = can_be_halved m a t.count (keys_of m t);
}

-- ---- the same, read from its front on

-- a byte of a dictionary
unfoldable pub dictionary_byte : MemoryMap → ℕ → Result ℕ Fault
dictionary_byte m a = if nat_lt a (readable_end m) then byte_at m a else Err BadDictionary

-- a word of a dictionary
unfoldable pub dictionary_word : MemoryMap → ℕ → Result ℕ Fault
dictionary_word m a = if nat_lt (a + 1) (readable_end m) then word_at m a else Err BadDictionary

-- n bytes from an address on
unfoldable pub bytes_from : MemoryMap → ℕ → ℕ → List ℕ
bytes_from m a zero = []
bytes_from m a (suc n) = get_or m.bytes a 0 ∷ bytes_from m (a + 1) n

-- four bytes from an index on as one number, the first the highest
abbrev pub front_at : List ℕ → ℕ → ℕ
front_at bytes i = get_or bytes i 0 * 16777216 + get_or bytes (i + 1) 0 * 65536 + get_or bytes (i + 2)
    0 * 256 + get_or bytes (i + 3) 0

-- the key from an index on as one number, by the version
unfoldable pub number_at : ℕ → List ℕ → ℕ → ℕ
number_at version bytes i =
    if nat_lt version 4
    then front_at bytes i
    else front_at bytes i * 65536 + (get_or bytes (i + 4) 0 * 256 + get_or bytes (i + 5) 0)

-- the keys of n entries of a length, from an address on
unfoldable pub keys_from : MemoryMap → ℕ → ℕ → ℕ → List (List ℕ)
keys_from m a entry_length zero = []
keys_from m a entry_length (suc n) =
    bytes_from m a (key_length m.version) ∷ keys_from m (a + entry_length) entry_length n

-- where the parts of a dictionary stand, by its separators, the length of an entry and its count, and how it can be
-- searched
abbrev pub parts_at : MemoryMap → ℕ → ℕ → ℕ → ℕ → Dictionary
parts_at m a separators entry_length count = record {
  address = a;
  separators = separators;
  entry_length = entry_length;
  entries = magnitude count;
  is_sorted = nat_lt count 32768;
  allows_halves = can_be_halved m a count (keys_from m (a + separators + 4) entry_length (magnitude count));
}

-- the dictionary of so many separators, with entries of a length, by its count
unfoldable pub dictionary_by : MemoryMap → ℕ → ℕ → ℕ → ℕ → Result Dictionary Fault
dictionary_by m a separators entry_length count =
    if nat_lt entry_length (key_length m.version) || nat_lt (readable_end m)
    (a + separators + 4 + entry_length * magnitude count)
    then Err BadDictionary
    else Ok (parts_at m a separators entry_length count)

-- the dictionary at an address
unfoldable pub dictionary_at : MemoryMap → ℕ → Result Dictionary Fault
dictionary_at m a = do
  separators ← dictionary_byte m a
  entry_length ← dictionary_byte m (a + separators + 1)
  count ← dictionary_word m (a + separators + 2)
  dictionary_by m a separators entry_length count

-- the dictionary was read from this version and these bytes; the static base may have been another
unfoldable pub IsDictionaryOf : MemoryMap → Dictionary → Type 0
IsDictionaryOf m d = (base : ℕ) × (dictionary_at (record m { static_base = base }) d.address ≡ Ok d)

-- ---- its separators and entries

-- the separators of a dictionary
unfoldable pub separators_of : MemoryMap → Dictionary → List ℕ
separators_of m d = bytes_from m (d.address + 1) d.separators

-- where an entry begins, counted from 0
abbrev pub entry_start : Dictionary → ℕ → ℕ
entry_start d i = d.address + d.separators + 4 + d.entry_length * i

-- bytes begin with a key
unfoldable pub begins_with : List ℕ → List ℕ → Bool
begins_with bytes [] = true
begins_with [] (k ∷ ks) = false
begins_with (b ∷ bs) (k ∷ ks) = (b == k) && begins_with bs ks

-- an entry begins with a key
unfoldable pub has_key : MemoryMap → Dictionary → List ℕ → ℕ → Bool
has_key m d key i = begins_with (drop (entry_start d i) m.bytes) key

-- the address of the first of n entries, from one on, that begins with a key, or 0
unfoldable pub found_from : MemoryMap → Dictionary → List ℕ → ℕ → ℕ → ℕ
found_from m d key zero i = 0
found_from m d key (suc n) i = if has_key m d key i then entry_start d i else found_from m d key n (i + 1)

-- the address of the first entry that has a key, or 0; none has a key of another length (section 13.5)
unfoldable pub found_in : MemoryMap → Dictionary → List ℕ → ℕ
found_in m d key = if length key == key_length m.version then found_from m d key d.entries 0 else 0

-- ---- laws

-- what is read at an address is the dictionary that the bytes spell there, and it is refused where they spell
-- none
pub record IsTableReading (m : MemoryMap) (a : ℕ) : Type 0 where
  pub found : (d : Dictionary) → (dictionary_at m a ≡ Ok d) ↔ ((t : Table) × IsTable m a t × (d ≡ described m a t))
  pub refused : (e : Fault) → (dictionary_at m a ≡ Err e) ↔ ((e ≡ BadDictionary) × ((t : Table) → IsTable m a t → ⊥))

-- at each address, where memory holds bytes
abbrev pub DictionariesAreTables : Type 0
DictionariesAreTables = (m : MemoryMap) (a : ℕ) → HasBytes m → IsTableReading m a

-- the bytes of a dictionary, from its address to its end (section 13.2)
abbrev pub bytes_of : MemoryMap → Dictionary → List ℕ
bytes_of m d = take (d.separators + 4 + d.entry_length * d.entries) (drop d.address m.bytes)

-- what is read is a dictionary of the memory
abbrev pub ReadDictionariesStand : Type 0
ReadDictionariesStand = (m : MemoryMap) (a : ℕ) (d : Dictionary) → dictionary_at m a ≡ Ok d → IsDictionaryOf m d

-- and of each other memory of the version that has the same bytes there, whatever its length and its static base
abbrev pub DictionariesAreTheirBytes : Type 0
DictionariesAreTheirBytes = (m n : MemoryMap) (d : Dictionary) → IsDictionaryOf m d → n.version ≡ m.version
    → bytes_of n d ≡ bytes_of m d → IsDictionaryOf n d

-- no entry begins with a key
abbrev pub NoneBegins : List (List ℕ) → List ℕ → Type 0
NoneBegins entries key = AllByRecursion (λ e. begins_with e key ≡ false) entries

-- a key is looked up: the first entry that begins with it is found, and 0 where there is none (section 13.5)
pub record IsLookUp (m : MemoryMap) (a : ℕ) (t : Table) (key : List ℕ) : Type 0 where
  pub first : (before behind : List (List ℕ)) (entry : List ℕ) → length key ≡ key_length m.version
      → t.entries ≡ before ++ entry ∷ behind → begins_with entry key ≡ true → NoneBegins before key
      → found_in m (described m a t) key ≡ entry_start (described m a t) (length before)
  pub none : NoneBegins t.entries key → found_in m (described m a t) key ≡ 0
  -- no entry has a key of another length
  pub other : length key ≢ key_length m.version → found_in m (described m a t) key ≡ 0

-- in each dictionary
abbrev pub LookUpsAreFirst : Type 0
LookUpsAreFirst = (m : MemoryMap) (a : ℕ) (t : Table) (key : List ℕ) → IsTable m a t → IsLookUp m a t key
