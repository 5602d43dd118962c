-- What dividing a text into words writes (Standard, section 15, `read` and `tokenise`).
use Rattle.std.specs.Prelude.{◌≡◌, ℕ, zero, suc, ◌+◌, ◌*◌, ◌%◌, Bool, ◌&&◌, List, [], ◌∷◌, length, take, drop, map}
use Rattle.std.specs.Prelude.{Option, Some, None, Result, Ok, Err, nat_lt, ◌==◌, if◌then◌else◌}
use Rattle.zk_mem.specs.declared.fault.Fault.{Fault}
use Rattle.zk_mem.specs.Results.{◌>>=◌}
use Rattle.zk_mem.specs.Map.{MemoryMap, byte_at, byte_put, word_put}
use Rattle.zk_mem.specs.Laws.{IsSameBut}
use Rattle.zk_text.specs.Keys.{key_of}
use Rattle.zk_tables.specs.declared.dictionary.Dictionary.{Dictionary}
use Rattle.zk_tables.specs.declared.tokens.Token.{Token}
use Rattle.zk_tables.specs.declared.words.Word.{Word}
use Rattle.zk_tables.specs.Dictionaries.{separators_of, found_in}
use Rattle.zk_tables.specs.Tokens.{tokens}

-- n bytes of data
unfoldable pub letters_counted : MemoryMap → ℕ → ℕ → Result (List ℕ) Fault
letters_counted m a zero = Ok []
letters_counted m a (suc n) = byte_at m a >>= λ c. letters_counted m (a + 1) n >>= λ cs. Ok (c ∷ cs)

-- bytes of data up to a zero, or n of them
unfoldable pub letters_to_zero : MemoryMap → ℕ → ℕ → Result (List ℕ) Fault
letters_to_zero m a zero = Ok []
letters_to_zero m a (suc n) =
    byte_at m a >>= λ c. if c == 0 then Ok [] else (letters_to_zero m (a + 1) n >>= λ cs. Ok (c ∷ cs))

-- where the letters of a text buffer begin
abbrev pub letters_start : ℕ → ℕ
letters_start version = if nat_lt version 5 then 1 else 2

-- the letters of a text buffer: up to version 4 they end before a zero or after 254 of them, from
-- version 5 on byte 1 says how many there are
unfoldable pub letters_of : MemoryMap → ℕ → Result (List ℕ) Fault
letters_of m text =
    if nat_lt m.version 5
    then letters_to_zero m (text + 1) 254
    else (byte_at m (text + 1) >>= λ n. letters_counted m (text + 2) n)

-- a word in the dictionary: the address of its entry or 0, how many letters it has, and where it begins in the
-- text buffer
unfoldable pub word_in : MemoryMap → Dictionary → List ℕ → Token → Word
word_in m d letters t =
    record {
      entry = found_in m d (key_of m (take t.length (drop t.position letters)));
      length = t.length;
      position = (t.position + letters_start m.version) % 256;
    }

-- the word of a token, where there is one
abbrev pub words_for : MemoryMap → Dictionary → List ℕ → Option Token → List Word
words_for m d letters None = []
words_for m d letters (Some t) = word_in m d letters t ∷ []

-- the words of a text, in the dictionary
unfoldable pub words_of : MemoryMap → Dictionary → List ℕ → List Word
words_of m d letters = map (word_in m d letters) (tokens (separators_of m d) letters)

-- the memory with a word in a block of four bytes; an unknown word may be left out
unfoldable pub block_put : MemoryMap → ℕ → Bool → Word → Result MemoryMap Fault
block_put m a leaves_unknown word =
    if leaves_unknown && (word.entry == 0)
    then Ok m
    else (word_put m a word.entry >>= λ n. byte_put n (a + 2) word.length >>= λ o. byte_put o (a + 3) word.position)

-- the memory with words in blocks, one after the other
unfoldable pub blocks_put : MemoryMap → ℕ → Bool → List Word → Result MemoryMap Fault
blocks_put m a leaves_unknown [] = Ok m
blocks_put m a leaves_unknown (word ∷ words) =
    block_put m a leaves_unknown word >>= λ n. blocks_put n (a + 4) leaves_unknown words

-- the memory with as many words in a parse buffer as its first byte allows, and how many they are in the second
unfoldable pub words_put : MemoryMap → ℕ → Bool → List Word → Result MemoryMap Fault
words_put m parse leaves_unknown words = do
  most ← byte_at m parse
  n ← byte_put m (parse + 1) (length (take most words))
  blocks_put n (parse + 2) leaves_unknown (take most words)

-- the memory after the text in a text buffer was divided into words
unfoldable pub tokenised : MemoryMap → ℕ → ℕ → Dictionary → Bool → Result MemoryMap Fault
tokenised m text parse d leaves_unknown =
    letters_of m text >>= λ letters. words_put m parse leaves_unknown (words_of m d letters)

-- ---- what may change

-- nothing but a parse buffer has changed, after its first byte, which says how many words it has room for
abbrev pub ChangesParseBuffer : MemoryMap → MemoryMap → ℕ → Type 0
ChangesParseBuffer m n parse =
    ((most : ℕ) → byte_at m parse ≡ Ok most → IsSameBut m n (parse + 1) (parse + 2 + 4 * most))
    × ((e : Fault) → byte_at m parse ≡ Err e → n ≡ m)
