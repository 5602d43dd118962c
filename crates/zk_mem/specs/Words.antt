-- The words of a text, and where it ends (Standard, section 3.2).
use Rattle.std.specs.Prelude.{ℕ, ◌+◌, ◌*◌, List, [], ◌∷◌, length, drop, Option, Some, None, option_map, nat_le}
use Rattle.std.specs.Prelude.{if◌then◌else◌}
use Rattle.zk_mem.specs.Map.{MemoryMap}

-- a word before others, where there are others
abbrev pub word_before : ℕ → Option (List ℕ) → Option (List ℕ)
word_before w None = None
word_before w (Some ws) = Some (w ∷ ws)

-- a word of a text: the last one if its top bit is set, else before others
abbrev pub word_and : ℕ → Option (List ℕ) → Option (List ℕ)
word_and w others = if nat_le 32768 w then Some (w ∷ []) else word_before w others

-- the words at the front of some bytes, up to the first with its top bit set
unfoldable pub words_in : List ℕ → Option (List ℕ)
words_in [] = None
words_in (high ∷ []) = None
words_in (high ∷ low ∷ rest) = word_and (256 * high + low) (words_in rest)

-- the words of the text at an address, anywhere in the story
unfoldable pub words_at : MemoryMap → ℕ → Option (List ℕ)
words_at m a = words_in (drop a m.bytes)

-- the address after the text at an address, where it ends inside the story
unfoldable pub text_end_at : MemoryMap → ℕ → Option ℕ
text_end_at m a = option_map (λ ws. a + 2 * length ws) (words_at m a)
