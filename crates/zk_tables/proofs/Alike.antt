-- Dictionaries of memories that are the same from an address on.
use Rattle.std.proofs.Common.{◌≡◌, ◌∙◌, ℕ, zero, suc, ◌+◌, ◌*◌, ◌≤◌, List, ◌∷◌, length, get_or, Result, Ok, Err, nat_lt}
use Rattle.std.proofs.Common.{nat_le, refl, ap, arith}
use Rattle.std.specs.Prelude.{◌&&◌, ◌||◌, if◌then◌else◌, min}
use Rattle.zk_mem.specs.declared.fault.Fault.{Fault}
use Rattle.zk_mem.specs.declared.fault.Fault.TheVariants.{BadDictionary}
use Rattle.zk_mem.specs.Results.{◌>>=◌}
use Rattle.zk_mem.specs.Map.{MemoryMap, byte_at, word_at}
use Rattle.zk_tables.specs.declared.dictionary.Dictionary.{Dictionary}
use Rattle.zk_tables.specs.Dictionaries.{key_length, do_not_fall, dictionary_byte, dictionary_word}
use Rattle.zk_tables.specs.Dictionaries.{bytes_from, keys_from, dictionary_by, dictionary_at}
use Rattle.zk_tables.specs.Signed.{magnitude}

same_after : {A B : Type 0} (r : Result A Fault) (f g : A → Result B Fault) → ((x : A) → f x ≡ g x)
    → (r >>= f) ≡ (r >>= g)
same_after (Ok x) f g h = h x
same_after (Err e) f g h = refl

same_then : {A B : Type 0} (r s : Result A Fault) (f g : A → Result B Fault) → r ≡ s → ((x : A) → f x ≡ g x)
    → (r >>= f) ≡ (s >>= g)
same_then r s f g e h = ap (λ (t : Result _ Fault). t >>= f) e ∙ same_after s f g h

-- a dictionary by what it depends on: the version, the static base, where data ends, and its keys
by_parts : ℕ → ℕ → ℕ → ℕ → ℕ → ℕ → ℕ → List (List ℕ) → Result Dictionary Fault
by_parts version base end a separators entry_length count keys =
    if nat_lt entry_length (key_length version) || nat_lt end (a + separators + 4 + entry_length * magnitude count)
    then Err BadDictionary
    else Ok (record {
      address = a;
      separators = separators;
      entry_length = entry_length;
      entries = magnitude count;
      is_sorted = nat_lt count 32768;
      allows_halves = nat_le base a && nat_lt count 32768 && do_not_fall keys;
    })

module _ (m n : MemoryMap) (from : ℕ) (version : n.version ≡ m.version) (base : n.static_base ≡ m.static_base)
    (size : length n.bytes ≡ length m.bytes) (item : (c : ℕ) → from ≤ c → get_or n.bytes c 0 ≡ get_or m.bytes c 0) where
  same_byte : (c : ℕ) → from ≤ c → dictionary_byte n c ≡ dictionary_byte m c
  unfolding dictionary_byte byte_at
  same_byte c le = rw (size, item c le) refl

  same_word : (c : ℕ) → from ≤ c → dictionary_word n c ≡ dictionary_word m c
  unfolding dictionary_word word_at
  same_word c le = rw (size, item c le, item (c + 1) (omega arith)) refl

  same_bytes : (c k : ℕ) → from ≤ c → bytes_from n c k ≡ bytes_from m c k
  unfolding bytes_from
  same_bytes c zero le = refl
  same_bytes c (suc k) le = ap (λ (x : ℕ). x ∷ bytes_from n (c + 1) k) (item c le)
      ∙ ap (λ (l : List ℕ). get_or m.bytes c 0 ∷ l) (same_bytes (c + 1) k (omega arith))

  same_keys : (c entry_length k : ℕ) → from ≤ c → keys_from n c entry_length k ≡ keys_from m c entry_length k
  unfolding keys_from
  same_keys c entry_length zero le = refl
  same_keys c entry_length (suc k) le =
      ap (λ (v : ℕ). bytes_from n c (key_length v) ∷ keys_from n (c + entry_length) entry_length k) version
      ∙ ap (λ (x : List ℕ). x ∷ keys_from n (c + entry_length) entry_length k) (same_bytes c (key_length m.version) le)
      ∙ ap (λ (l : List (List ℕ)). bytes_from m c (key_length m.version) ∷ l)
      (same_keys (c + entry_length) entry_length k (omega arith))

  same_parts : (a separators entry_length count : ℕ) → from ≤ a → dictionary_by n a separators entry_length
      count ≡ dictionary_by m a separators entry_length count
  unfolding dictionary_by by_parts
  same_parts a separators entry_length count le =
      let keys = keys_from n (a + separators + 4) entry_length (magnitude count) in
      ap (λ (v : ℕ). by_parts v n.static_base (min (length n.bytes) 65536) a separators entry_length count keys) version
      ∙ ap (λ (b : ℕ). by_parts m.version b (min (length n.bytes) 65536) a separators entry_length count keys) base
      ∙ ap (λ (s : ℕ). by_parts m.version m.static_base (min s 65536) a separators entry_length count keys) size
      ∙ ap (λ (ks : List (List ℕ)). by_parts m.version m.static_base (min (length m.bytes) 65536) a separators
      entry_length count ks) (same_keys (a + separators + 4) entry_length (magnitude count) (omega arith))

  pub same_dictionary : (a : ℕ) → from ≤ a → dictionary_at n a ≡ dictionary_at m a
  unfolding dictionary_at
  same_dictionary a le =
      same_then _ _ _ _ (same_byte a le) (λ separators.
      same_then _ _ _ _ (same_byte (a + separators + 1) (omega arith)) (λ entry_length.
      same_then _ _ _ _ (same_word (a + separators + 2) (omega arith))
      (λ count. same_parts a separators entry_length count le)))
