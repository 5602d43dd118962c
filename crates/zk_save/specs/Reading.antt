-- What the bytes of a saved game spell (Quetzal 1.4, sections 1, 4 and 8).
use Rattle.std.specs.Prelude.{ℕ, zero, suc, ◌+◌, ◌*◌, ◌/◌, ◌%◌, ◌==◌, ◌||◌, List, [], ◌∷◌, length, take, drop}
use Rattle.std.specs.Prelude.{slice_index, nat_lt, if◌then◌else◌, Option, Some, None}
use Rattle.std.specs.Str.{bytes_eq}
use Rattle.zk_state.specs.Frames.{Frame, first_frame}
use Rattle.zk_save.specs.Quetzal.{Chunk}

-- what is found by what was found, if that was
abbrev pub found_then : {A B : Type 0} → Option A → (A → Option B) → Option B
found_then {A} {B} None f = None
found_then {A} {B} (Some x) f = f x

-- what was found first, before what is found after it, if that is found
abbrev pub then_rest : {A : Type 0} → A → Option (List A) → Option (List A)
then_rest {A} x None = None
then_rest {A} x (Some xs) = Some (x ∷ xs)

-- ---- numbers

-- the number that bytes spell after others, high byte first
unfoldable pub number_behind : ℕ → List ℕ → ℕ
number_behind n [] = n
number_behind n (b ∷ bs) = number_behind (256 * n + b) bs

-- the number that bytes spell, high byte first (Quetzal 1.4, section 1)
abbrev pub number_of : List ℕ → ℕ
number_of bs = number_behind 0 bs

-- so many bytes, after so many others
abbrev pub bytes_behind : ℕ → ℕ → List ℕ → List ℕ
bytes_behind start n bs = take n (drop start bs)

-- the words that bytes spell, two for each (Quetzal 1.4, section 1)
unfoldable pub words_of : List ℕ → List ℕ
words_of [] = []
words_of (b ∷ []) = []
words_of (b ∷ c ∷ bs) = (256 * b + c) ∷ words_of bs

-- ---- chunks (Quetzal 1.4, section 8)

-- the chunk that bytes begin with, where its content has a length, and what stands after it and the byte that makes an
-- odd length even; at the end that byte may be missing
abbrev pub chunk_of : ℕ → List ℕ → Option (Chunk × List ℕ)
chunk_of n bs =
    if nat_lt (length bs) (8 + n) then None
    else Some (record { name = take 4 bs; content = bytes_behind 8 n bs }, drop (8 + n + n % 2) bs)

-- the chunk that bytes begin with: a name, the length of its content, and its content; none where they end before it
unfoldable pub first_chunk : List ℕ → Option (Chunk × List ℕ)
first_chunk bs = if nat_lt (length bs) 8 then None else chunk_of (number_of (bytes_behind 4 4 bs)) bs

-- what bytes spell one after the other, at most so many, where each is cut off their front
unfoldable pub each_up_to : {A : Type 0} → (List ℕ → Option (A × List ℕ)) → ℕ → List ℕ → Option (List A)
each_up_to first n [] = Some []
each_up_to first zero (b ∷ bs) = None
each_up_to first (suc n) (b ∷ bs) = found_then (first (b ∷ bs)) (λ c. then_rest c.0 (each_up_to first n c.1))

-- all of them, none where one passes the end; there are fewer than bytes
abbrev pub each_of : {A : Type 0} → (List ℕ → Option (A × List ℕ)) → List ℕ → Option (List A)
each_of first bs = each_up_to first (length bs) bs

-- the chunks that bytes spell one after the other
unfoldable pub chunks_in : List ℕ → Option (List Chunk)
chunks_in bs = each_of first_chunk bs

-- the content of the first chunk of a name
unfoldable pub content_of : List ℕ → List Chunk → Option (List ℕ)
content_of name [] = None
content_of name (c ∷ cs) = if bytes_eq c.name name then Some c.content else content_of name cs

-- ---- frames (Quetzal 1.4, section 4)

-- how many arguments a byte has bits for: those that are set below the first that is clear (a choice of zkit)
unfoldable pub arguments_in : ℕ → ℕ → ℕ
arguments_in zero bits = 0
arguments_in (suc n) bits = if bits % 2 == 0 then 0 else 1 + arguments_in n (bits / 2)

-- the variable of a frame's result, by its flags: none where the result is dropped
abbrev pub result_in : ℕ → ℕ → Option ℕ
result_in flags variable = if flags / 16 % 2 == 0 then Some variable else None

-- the frame whose head bytes begin with, where it has so many local variables and so many words after these, and what
-- stands after it
abbrev pub frame_of : ℕ → ℕ → List ℕ → Option (Frame × List ℕ)
frame_of locals words bs =
    if nat_lt (length bs) (8 + 2 * locals + 2 * words) then None
    else Some (
      record {
        locals = words_of (bytes_behind 8 (2 * locals) bs);
        words = words_of (bytes_behind (8 + 2 * locals) (2 * words) bs);
        pc = number_of (take 3 bs);
        result = result_in (slice_index bs 3) (slice_index bs 4);
        supplied = arguments_in 7 (slice_index bs 5);
      },
      drop (8 + 2 * locals + 2 * words) bs,
    )

-- how many words the frame has whose head bytes begin with
abbrev pub word_count : List ℕ → ℕ
word_count bs = number_of (bytes_behind 6 2 bs)

-- the routine's frame that bytes begin with; none where they end before it, or where bits are set that have no meaning
unfoldable pub first_of_frames : List ℕ → Option (Frame × List ℕ)
first_of_frames bs =
    if nat_lt (length bs) 8 || nat_lt 31 (slice_index bs 3) || nat_lt 127 (slice_index bs 5) then None
    else frame_of (slice_index bs 3 % 16) (word_count bs) bs

-- the frame outside of all routines, of which only the words count
abbrev pub with_first : Option (Frame × List ℕ) → Option (List Frame)
with_first None = None
with_first (Some f) = then_rest (record first_frame { words = f.0.words }) (each_of first_of_frames f.1)

-- the frames that bytes spell, the oldest first: the first six bytes are zeros, since the first frame stands outside of
-- all routines
unfoldable pub frames_read : List ℕ → Option (List Frame)
frames_read bs = if bytes_eq (take 6 bs) (0 ∷ 0 ∷ 0 ∷ 0 ∷ 0 ∷ 0 ∷ []) then with_first (first_of_frames bs) else None
