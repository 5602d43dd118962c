-- The story in a Blorb file (Blorb 2.0.4).
use Rattle.std.specs.Prelude.{ℕ, zero, suc, ◌+◌, ◌*◌, ◌/◌, ◌==◌, ◌&&◌, Bool, List, [], ◌∷◌, length, take, drop}
use Rattle.std.specs.Prelude.{slice_index, slice_range, codes, nat_lt, if◌then◌else◌, Option, Some, None, Result, Ok}
use Rattle.std.specs.Prelude.{Err}
use Rattle.std.specs.List.{find, starts_with}
use Rattle.std.specs.Str.{bytes_eq}
use Rattle.zk_blorb.specs.declared.story.BlorbError.{BlorbError}
use Rattle.zk_blorb.specs.declared.story.BlorbError.TheVariants.{NoBlorb, CutOff, NoIndex, NoStory, NotZcode}

-- what was read, or else why it can't be
abbrev pub then_read : {A B : Type 0} → Result A BlorbError → (A → Result B BlorbError) → Result B BlorbError
then_read {A} {B} (Ok x) f = f x
then_read {A} {B} (Err e) f = Err e

-- the number that four bytes spell, high byte first
abbrev pub number_of : List ℕ → ℕ
number_of bs = 16777216 * slice_index bs 0 + 65536 * slice_index bs 1 + 256 * slice_index bs 2 + slice_index bs 3

-- ---- the form

-- a file begins as a Blorb file: with `FORM`, four bytes for a length, and `IFRS`
abbrev pub begins_as_blorb : List ℕ → Bool
begins_as_blorb file = starts_with ◌==◌ file (codes "FORM") && starts_with ◌==◌ (drop 8 file) (codes "IFRS")

-- the form that a file begins with, from the file's beginning: 8 bytes and as many as the form's length says; what
-- stands after it does not count
unfoldable pub form_in : List ℕ → Result (List ℕ) BlorbError
form_in file =
    let end = 8 + number_of (slice_range file 4 8) in
    if begins_as_blorb file then (if nat_lt (length file) end then Err CutOff else Ok (take end file)) else Err NoBlorb

-- ---- chunks

-- a chunk: its type, which is four letters, and what it holds
pub record Chunk : Type 0 where
  pub kind : List ℕ
  pub content : List ℕ

-- a chunk with so many bytes of content, at an offset of a form
abbrev pub chunk_of : ℕ → ℕ → List ℕ → Option Chunk
chunk_of size start form =
    if nat_lt (length form) (start + 8 + size) then None
    else Some (record {
      kind = slice_range form start (start + 4);
      content = slice_range form (start + 8) (start + 8 + size);
    })

-- the chunk at an offset of a form: its type, its length and its content; none where it goes past the form's end
unfoldable pub chunk_at : List ℕ → ℕ → Option Chunk
chunk_at form start =
    if nat_lt (length form) (start + 8) then None
    else chunk_of (number_of (slice_range form (start + 4) (start + 8))) start form

-- ---- the index

-- an index begins with the count of its rows, and has 12 bytes for each
abbrev pub counts_rows : List ℕ → Bool
counts_rows content = length content == 4 + 12 * number_of (take 4 content)

-- the bytes of an index after its count
abbrev pub index_of : Option Chunk → Result (List ℕ) BlorbError
index_of None = Err CutOff
index_of (Some c) =
    if bytes_eq c.kind (codes "RIdx") && counts_rows c.content then Ok (drop 4 c.content) else Err NoIndex

-- the bytes of the rows of a form's index, which is its first chunk
unfoldable pub index_in : List ℕ → Result (List ℕ) BlorbError
index_in form = index_of (chunk_at form 12)

-- the first rows that bytes spell, 12 bytes for each
unfoldable pub first_rows : ℕ → List ℕ → List (List ℕ)
first_rows zero bytes = []
first_rows (suc n) bytes = take 12 bytes ∷ first_rows n (drop 12 bytes)

-- all rows that bytes spell
abbrev pub rows_of : List ℕ → List (List ℕ)
rows_of bytes = first_rows (length bytes / 12) bytes

-- a row is of an executable by its usage, which is its first four bytes
abbrev pub is_executable : List ℕ → Bool
is_executable row = starts_with ◌==◌ row (codes "Exec")

-- where the resource of a row starts, counted from the file's beginning
abbrev pub start_of : Option (List ℕ) → Result ℕ BlorbError
start_of None = Err NoStory
start_of (Some row) = Ok (number_of (slice_range row 8 12))

-- where the first executable starts, in the order of the rows
unfoldable pub executable_in : List ℕ → Result ℕ BlorbError
executable_in rows = start_of (find is_executable (rows_of rows))

-- ---- the story

-- the content of a chunk with a story for the Z-machine
abbrev pub zcode_of : Option Chunk → Result (List ℕ) BlorbError
zcode_of None = Err CutOff
zcode_of (Some c) = if bytes_eq c.kind (codes "ZCOD") then Ok c.content else Err NotZcode

-- the story at an offset of a form
unfoldable pub zcode_at : List ℕ → ℕ → Result (List ℕ) BlorbError
zcode_at form start = zcode_of (chunk_at form start)

-- the story of a Blorb file: its first executable, where that is one for the Z-machine
unfoldable pub story_of : List ℕ → Result (List ℕ) BlorbError
story_of file =
    then_read (form_in file) (λ form.
    then_read (index_in form) (λ rows.
    then_read (executable_in rows) (λ start.
    zcode_at form start)))
