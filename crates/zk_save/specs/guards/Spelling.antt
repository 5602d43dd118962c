-- Which bytes spell which chunks, in the format's words (Quetzal 1.4, section 8).
use Rattle.std.specs.Prelude.{◌≡◌, ◌⊎◌, ℕ, ◌%◌, ◌<◌, List, [], ◌∷◌, ◌++◌, length, Some}
use Rattle.std.specs.List.{flat_map, All}
use Rattle.zk_save.specs.Quetzal.{Chunk, bytes_4, chunk_bytes}
use Rattle.zk_save.specs.Reading.{chunks_in}

-- a name of four letters
abbrev pub HasName : Chunk → Type 0
HasName c = length c.name ≡ 4

-- a byte below 256
abbrev pub IsByte : ℕ → Type 0
IsByte b = b < 256

-- after content of an odd length stands one byte, whatever it is, which may be missing at the very end
abbrev pub IsPad : ℕ → List ℕ → List ℕ → Type 0
IsPad n pad rest = (length pad ≡ n % 2) ⊎ ((pad ≡ []) × (rest ≡ []))

-- nothing spells no chunk; a chunk is spelled by its name, the length of its content, the content and its pad, and then
-- the other chunks
unfoldable pub Spells : List Chunk → List ℕ → Type 0
Spells [] bs = bs ≡ []
Spells (c ∷ cs) bs = (pad : List ℕ) × (rest : List ℕ) × HasName c
    × (bs ≡ c.name ++ bytes_4 (length c.content) ++ c.content ++ pad ++ rest) × IsPad (length c.content) pad rest
    × Spells cs rest

-- ---- laws

-- chunks that are read are spelled by the bytes
abbrev pub ReadsWhatIsSpelled : Type 0
ReadsWhatIsSpelled = (bs : List ℕ) (cs : List Chunk) → All IsByte bs → chunks_in bs ≡ Some cs → Spells cs bs

-- chunks that bytes spell are read
abbrev pub ReadsAllThatIsSpelled : Type 0
ReadsAllThatIsSpelled = (bs : List ℕ) (cs : List Chunk) → Spells cs bs → chunks_in bs ≡ Some cs

-- chunks that were written are read
abbrev pub ReadsWhatIsWritten : Type 0
ReadsWhatIsWritten = (cs : List Chunk) → All HasName cs → chunks_in (flat_map chunk_bytes cs) ≡ Some cs
