-- What was saved is loaded.
use Rattle.std.specs.Prelude.{reverse, nat_le, codes, if◌then◌else◌, ◌==◌, ◌||◌}
use Rattle.std.specs.List.{flat_map, All}
use Rattle.std.specs.Str.{bytes_eq}
use Rattle.std.proofs.Common.{◌≡◌, ◌∙◌, ℕ, ◌+◌, ◌-◌, ◌*◌, ◌/◌, ◌%◌, ◌^◌, ◌≤◌, Bool, true, false, List, [], ◌∷◌, ◌++◌}
use Rattle.std.proofs.Common.{length, take, drop, Option, Some, None, Ok, refl, ap, sym, arith, append_assoc}
use Rattle.std.proofs.Common.{length-append}
use Rattle.std.proofs.lemmas.Bool.Decides.{nat_tests}
use Rattle.std.proofs.lemmas.Bool.{eq-eqb}
use Rattle.std.proofs.lemmas.Slice.Eq.{bytes_eq-Decides}
use Rattle.std.proofs.lemmas.List.Elements.{All-head, All-tail, All-cons, All-nil, All-push}
use Rattle.zk_save.specs.guards.Spelling.{HasName, ReadsWhatIsWritten}
use Rattle.std.proofs.lemmas.List.{take_at, drop_at, drop-drop, reverse-append, reverse-reverse}
use Rattle.zk_state.specs.Frames.{Frame, IsFrame, first_frame, oldest_of, BeginsFirst, FrameList, frames_of}
use Rattle.zk_save.specs.Quetzal.{Chunk, padding, chunk_bytes, bytes_2, bytes_3, bytes_4, words_bytes, drop_flag}
use Rattle.zk_save.specs.Quetzal.{variable_of, frame_bytes, first_bytes, stack_content, with_stack, form_bytes}
use Rattle.zk_save.specs.Quetzal.{story_checksum, story_content, difference_of, memory_part, saved_chunks, saved}
use Rattle.zk_save.specs.Reading.{number_behind, number_of, bytes_behind, words_of, then_rest, with_first, result_in}
use Rattle.zk_save.specs.Reading.{arguments_in, first_chunk, content_of, first_of_frames, frames_read}
use Rattle.zk_save.specs.Counted.{first_written, frames_rest}
use Rattle.zk_mem.specs.Map.{MemoryMap}
use Rattle.zk_mem.specs.Header.{header_of}
use Rattle.zk_save.specs.Packing.{packed}
use Rattle.zk_save.specs.Unpacking.{unpacked, xored}
use Rattle.zk_save.specs.Loading.{form_in, parts_of, memory_chunk, is_of_story, dynamic_in, loaded, IsLoadedAgain}
use Rattle.zk_save.proofs.Cuts.{not_below}
use Rattle.zk_save.proofs.Forms.{form_whole}
use Rattle.zk_save.proofs.Packs.{length-xored}
use Rattle.zk_save.proofs.RoundTrip.{comes_back}
use Rattle.zk_save.proofs.Wholes.{bytes_again}
use Rattle.zk_save.proofs.Saves.{three}
use Rattle.zk_save.proofs.Chunks.{chunks_none, chunks_step}
use Rattle.zk_save.proofs.FrameRuns.{frames_none, frames_step, read_is}
use Rattle.zk_mem.proofs.Below.{all_below, each_below}

-- ---- numbers

pub number_2 : (n : ℕ) → number_of (bytes_2 n) ≡ n
unfolding number_behind
number_2 n = omega arith

pub number_3 : (n : ℕ) → number_of (bytes_3 n) ≡ n
unfolding number_behind
number_3 n = omega arith

pub number_4 : (n : ℕ) → number_of (bytes_4 n) ≡ n
unfolding number_behind
number_4 n = omega arith

pub words_again : (ws : List ℕ) → words_of (words_bytes ws) ≡ ws
unfolding words_of
words_again [] = refl
words_again (w ∷ ws) = let one : 256 * (w / 256) + w % 256 ≡ w = omega arith in rw (one, words_again ws) refl

length_words : (ws : List ℕ) → length (words_bytes ws) ≡ 2 * length ws
length_words [] = refl
length_words (w ∷ ws) = omega (arith, length_words ws)

-- ---- chunks

first_of_four : (a b d e n : ℕ) (content tail rest : List ℕ) → length content ≡ n → drop (n % 2) tail ≡ rest
    → first_chunk (a ∷ b ∷ d ∷ e ∷ (bytes_4 n ++ (content ++ tail))) ≡ Some
    (record { name = a ∷ b ∷ d ∷ e ∷ []; content = content }, rest)
unfolding first_chunk
first_of_four a b d e n content tail rest long h =
    let bs : List ℕ = a ∷ b ∷ d ∷ e ∷ (bytes_4 n ++ (content ++ tail)) in
    let all : length bs ≡ 8 + (length content + length tail) = omega (arith, length-append content tail) in
    let behind : drop (8 + n + n % 2) bs ≡ rest =
    let sum : 8 + n + n % 2 ≡ 8 + (n + n % 2) = omega arith in
    ap (λ (k : ℕ). drop k bs) sum ∙ sym (drop-drop (n + n % 2) 8 bs) ∙ sym (drop-drop (n % 2) n (content ++ tail))
    ∙ ap (drop (n % 2)) (drop_at content tail n long) ∙ h
    in
    rw (
      not_below (length bs) 8 (omega (arith, all)),
      number_4 n,
      not_below (length bs) (8 + n)
          (omega (arith, all, long)),
      behind,
      take_at content tail n long,
    ) refl

-- a chunk and what stands after its content
pub cut_again : (c : Chunk) (tail rest : List ℕ) → length c.name ≡ 4 → drop (length c.content % 2) tail ≡ rest
    → first_chunk (c.name ++ (bytes_4 (length c.content) ++ (c.content ++ tail))) ≡ Some (c, rest)
cut_again c tail rest long h = by c.name c.content long h
  where
    by : (name content : List ℕ) → length name ≡ 4 → drop (length content % 2) tail ≡ rest
        → first_chunk (name ++ (bytes_4 (length content) ++ (content ++ tail))) ≡ Some
        (record { name = name; content = content }, rest)
    by (a ∷ b ∷ d ∷ e ∷ []) content l k = first_of_four a b d e (length content) content tail rest refl k
    by [] content l k = absurd (omega (arith, l))
    by (a ∷ []) content l k = absurd (omega (arith, l))
    by (a ∷ b ∷ []) content l k = absurd (omega (arith, l))
    by (a ∷ b ∷ d ∷ []) content l k = absurd (omega (arith, l))
    by (a ∷ b ∷ d ∷ e ∷ x ∷ xs) content l k = absurd (omega (arith, l))

pad_gone : (n : ℕ) (rest : List ℕ) → drop (n % 2) (padding n ++ rest) ≡ rest
pad_gone n rest = by (n % 2 == 0) refl
  where
    by : (b : Bool) → (n % 2 == 0) ≡ b → drop (n % 2) ((if b then [] else 0 ∷ []) ++ rest) ≡ rest
    by true e = let even : n % 2 ≡ 0 = grind (arith, nat_tests) in rw even refl
    by false e = let odd : n % 2 ≡ 1 = grind (arith, nat_tests) in rw odd refl

chunk_apart : (c : Chunk) (rest : List ℕ) → chunk_bytes c ++ rest ≡ c.name
    ++ (bytes_4 (length c.content) ++ (c.content ++ (padding (length c.content) ++ rest)))
unfolding chunk_bytes
chunk_apart c rest = simp append_assoc

pub chunks_again : ReadsWhatIsWritten
chunks_again [] h = chunks_none
chunks_again (c ∷ cs) h =
    let rest : List ℕ = flat_map chunk_bytes cs in
    let first : first_chunk (chunk_bytes c ++ rest) ≡ Some (c, rest) = ap first_chunk (chunk_apart c rest)
    ∙ cut_again c (padding (length c.content) ++ rest) rest (All-head HasName c cs h)
    (pad_gone (length c.content) rest) in
    chunks_step (chunk_bytes c ++ rest) (c, rest) first ∙ ap (then_rest c) (chunks_again cs (All-tail HasName c cs h))

-- ---- frames

flags_locals : (r : Option ℕ) (n : ℕ) → n ≤ 15 → (drop_flag r + n) % 16 ≡ n
flags_locals None n le = omega (arith, le)
flags_locals (Some v) n le = omega (arith, le)

flags_small : (r : Option ℕ) (n : ℕ) → n ≤ 15 → drop_flag r + n ≤ 31
flags_small None n le = omega (arith, le)
flags_small (Some v) n le = omega (arith, le)

flags_result : (r : Option ℕ) (n : ℕ) → n ≤ 15 → result_in (drop_flag r + n) (variable_of r) ≡ r
flags_result None n le = let set : (16 + n) / 16 % 2 ≡ 1 = omega (arith, le) in rw set refl
flags_result (Some v) n le = let clear : (0 + n) / 16 % 2 ≡ 0 = omega (arith, le) in rw clear refl

bits_again : (k : ℕ) → k ≤ 7 → arguments_in 7 (2 ^ k - 1) ≡ k
unfolding all_below arguments_in
bits_again k le =
    let test : (arguments_in 7 (2 ^ k - 1) == k) ≡ true = each_below (λ n. arguments_in 7 (2 ^ n - 1) == n) 8
    refl k (omega (arith, le)) in
    grind (arith, nat_tests)

bits_small : (k : ℕ) → k ≤ 7 → 2 ^ k - 1 ≤ 127
unfolding all_below
bits_small k le =
    let test : nat_le (2 ^ k - 1) 127 ≡ true = each_below (λ n. nat_le (2 ^ n - 1) 127) 8 refl k (omega (arith, le)) in
    grind (arith, nat_tests)

first_of_head : (p0 p1 p2 flags v args w0 w1 l w : ℕ) (lb wb rest : List ℕ) → flags ≤ 31 → args ≤ 127
    → flags % 16 ≡ l → number_of (w0 ∷ w1 ∷ []) ≡ w → length lb ≡ 2 * l → length wb ≡ 2 * w
    → first_of_frames (p0 ∷ p1 ∷ p2 ∷ flags ∷ v ∷ args ∷ w0 ∷ w1 ∷ (lb ++ (wb ++ rest)))
    ≡ Some (
      record {
        locals = words_of lb;
        words = words_of wb;
        pc = number_of (p0 ∷ p1 ∷ p2 ∷ []);
        result = result_in flags v;
        supplied = arguments_in 7 args;
      },
      rest,
    )
unfolding first_of_frames
first_of_head p0 p1 p2 flags v args w0 w1 l w lb wb rest f a le we ll lw =
    let bs : List ℕ = p0 ∷ p1 ∷ p2 ∷ flags ∷ v ∷ args ∷ w0 ∷ w1 ∷ (lb ++ (wb ++ rest)) in
    let all : length bs ≡ 8 + (2 * l + (2 * w + length rest)) = omega (
      arith,
      length-append lb (wb ++ rest),
      length-append wb rest,
      ll,
      lw,
    ) in
    let words : drop (8 + 2 * l) bs ≡ wb ++ rest = sym (drop-drop (2 * l) 8 bs) ∙ drop_at lb (wb ++ rest) (2 * l) ll in
    let behind : drop (8 + 2 * l + 2 * w) bs ≡ rest = sym (drop-drop (2 * w) (8 + 2 * l) bs)
    ∙ ap (drop (2 * w)) words ∙ drop_at wb rest (2 * w) lw in
    rw (
      not_below (length bs) 8 (omega (arith, all)),
      not_below 31 flags f,
      not_below 127 args a,
      le,
      we,
      not_below (length bs) (8 + 2 * l + 2 * w) (omega (arith, all)),
      words,
      behind,
      take_at lb (wb ++ rest) (2 * l) ll,
      take_at wb rest (2 * w) lw,
    ) refl

frame_apart : (head : List ℕ) (f : Frame) (rest : List ℕ) → with_stack head f ++ rest ≡ head
    ++ (bytes_2 (length f.words) ++ (words_bytes f.locals ++ (words_bytes f.words ++ rest)))
frame_apart head f rest = simp append_assoc

pub frame_again : (f : Frame) (rest : List ℕ) → IsFrame f → first_of_frames (frame_bytes f ++ rest) ≡ Some (f, rest)
unfolding frame_bytes
frame_again f rest is =
    let n : ℕ = length f.locals in
    let flags : ℕ = drop_flag f.result + n in
    let args : ℕ = 2 ^ f.supplied - 1 in
    ap first_of_frames (frame_apart (bytes_3 f.pc ++ flags ∷ variable_of f.result ∷ args ∷ []) f rest)
    ∙ first_of_head (f.pc / 65536) (f.pc / 256 % 256) (f.pc % 256) flags (variable_of f.result) args
    (length f.words / 256) (length f.words % 256) n (length f.words) (words_bytes f.locals) (words_bytes f.words) rest
    (flags_small f.result n is.locals) (bits_small f.supplied is.supplied) (flags_locals f.result n is.locals)
    (number_2 (length f.words)) (length_words f.locals) (length_words f.words)
    ∙ rw (
      words_again f.locals,
      words_again f.words,
      number_3 f.pc,
      flags_result f.result n is.locals,
      bits_again f.supplied is.supplied,
    ) refl

pub rest_again : (fs : List Frame) → All IsFrame fs → frames_rest (flat_map frame_bytes fs) ≡ Some fs
rest_again [] h = frames_none
rest_again (f ∷ fs) h =
    let rest : List ℕ = flat_map frame_bytes fs in
    frames_step (frame_bytes f ++ rest) (f, rest) (frame_again f rest (All-head IsFrame f fs h))
    ∙ ap (then_rest f) (rest_again fs (All-tail IsFrame f fs h))

first_again : (f : Frame) (rest : List ℕ) → f ≡ record first_frame { words = f.words }
    → first_written (first_bytes f ++ rest) ≡ Some (record first_frame { words = f.words; result = Some 0 }, rest)
unfolding first_bytes arguments_in number_behind words_of
first_again f rest e =
    let none : f.locals ≡ [] = ap (λ (g : Frame). g.locals) e in
    ap first_written (frame_apart (0 ∷ 0 ∷ 0 ∷ 0 ∷ 0 ∷ 0 ∷ []) f rest)
    ∙ ap (λ (ls : List ℕ). first_written ((0 ∷ 0 ∷ 0 ∷ 0 ∷ 0 ∷ 0 ∷ [])
    ++ (bytes_2 (length f.words) ++ (words_bytes ls ++ (words_bytes f.words ++ rest))))) none
    ∙ first_of_head 0 0 0 0 0 0 (length f.words / 256) (length f.words % 256) 0 (length f.words) []
    (words_bytes f.words) rest (omega arith) (omega arith) refl (number_2 (length f.words))
    refl (length_words f.words)
    ∙ rw (words_again f.words) refl

oldest_first : (f : Frame) (gs : List Frame) → (up : List Frame) × (reverse (f ∷ gs) ≡ oldest_of f gs ∷ up)
oldest_first f [] = ([], refl)
oldest_first f (g ∷ gs) =
    let p = oldest_first g gs in
    (p.0 ++ f ∷ [], reverse-append (f ∷ []) (g ∷ gs) ∙ ap (λ (l : List Frame). l ++ f ∷ []) p.1)

up_again : (f : Frame) (up : List Frame) → f ≡ record first_frame { words = f.words } → All IsFrame up
    → frames_read (stack_content (f ∷ up)) ≡ Some (f ∷ up)
unfolding stack_content
up_again f up e h =
    let rest : List ℕ = flat_map frame_bytes up in
    read_is (first_bytes f ++ rest) ∙ ap with_first (first_again f rest e)
    ∙ ap (then_rest (record first_frame { words = f.words })) (rest_again up h)
    ∙ ap (λ (g : Frame). Some (g ∷ up)) (sym e)

turned_each : (fs : List Frame) → All IsFrame fs → All IsFrame (reverse fs)
turned_each [] h = All-nil IsFrame
turned_each (f ∷ fs) h =
    rw (reverse-append (f ∷ []) fs) (All-push IsFrame (reverse fs) f (turned_each fs (All-tail IsFrame f fs h))
    (All-head IsFrame f fs h))

pub stack_again : (s : FrameList) → BeginsFirst s → All IsFrame (frames_of s)
    → frames_read (stack_content (reverse (frames_of s))) ≡ Some (reverse (frames_of s))
stack_again s begins each =
    let p = oldest_first s.current s.callers in
    let all = rw p.1 at (turned_each (frames_of s) each) in
    rw p.1 (up_again (oldest_of s.current s.callers) p.0 begins
    (All-tail IsFrame (oldest_of s.current s.callers) p.0 all))

-- ---- the form

same_bytes : (xs : List ℕ) → bytes_eq xs xs ≡ true
same_bytes xs = let d = bytes_eq-Decides xs xs in d.1 refl

pub form_again : (cs : List Chunk) → form_in (form_bytes cs) ≡ Ok (flat_map chunk_bytes cs)
unfolding form_bytes chunk_bytes
form_again cs =
    let inner : List ℕ = flat_map chunk_bytes cs in
    let n : ℕ = length (codes "IFZS" ++ inner) in
    let file : List ℕ = codes "FORM" ++ (bytes_4 n ++ (codes "IFZS" ++ (inner ++ padding n))) in
    let whole : codes "FORM" ++ bytes_4 n ++ (codes "IFZS" ++ inner) ++ padding n ≡ file = simp append_assoc in
    let long : length file ≡ 12 + (length inner + length (padding n)) = omega (
      arith,
      length-append inner (padding n),
    ) in
    let size : n ≡ 4 + length inner = omega arith in
    let number : n ≡ number_of (bytes_behind 4 4 file) = sym (number_4 n) in
    let rest : 8 + n - 12 ≡ length inner = omega (arith, size) in
    ap form_in whole
    ∙ form_whole file n (omega (arith, long)) refl number (omega (arith, size)) (omega (arith, long, size))
    ∙ ap (λ (l : List ℕ). Ok l) (ap (λ (k : ℕ). take k (inner ++ padding n)) rest
    ∙ take_at inner (padding n) (length inner) refl)

-- ---- the story

story_by : (r c pc : ℕ) (serial : List ℕ) → length serial ≡ 6
    → (length (bytes_2 r ++ serial ++ bytes_2 c ++ bytes_3 pc) ≡ 13)
    × (take 8 (bytes_2 r ++ serial ++ bytes_2 c ++ bytes_3 pc) ≡ bytes_2 r ++ serial)
    × (bytes_behind 8 2 (bytes_2 r ++ serial ++ bytes_2 c ++ bytes_3 pc) ≡ bytes_2 c)
    × (bytes_behind 10 3 (bytes_2 r ++ serial ++ bytes_2 c ++ bytes_3 pc) ≡ bytes_3 pc)
story_by r c pc (s1 ∷ s2 ∷ s3 ∷ s4 ∷ s5 ∷ s6 ∷ []) h = (refl, refl, refl, refl)
story_by r c pc [] h = absurd (omega (arith, h))
story_by r c pc (s1 ∷ []) h = absurd (omega (arith, h))
story_by r c pc (s1 ∷ s2 ∷ []) h = absurd (omega (arith, h))
story_by r c pc (s1 ∷ s2 ∷ s3 ∷ []) h = absurd (omega (arith, h))
story_by r c pc (s1 ∷ s2 ∷ s3 ∷ s4 ∷ []) h = absurd (omega (arith, h))
story_by r c pc (s1 ∷ s2 ∷ s3 ∷ s4 ∷ s5 ∷ []) h = absurd (omega (arith, h))
story_by r c pc (s1 ∷ s2 ∷ s3 ∷ s4 ∷ s5 ∷ s6 ∷ x ∷ xs) h = absurd (omega (arith, h))

module _ (file : List ℕ) (pc : ℕ) (six : length (header_of file).serial ≡ 6) where
  story_length : length (story_content file pc) ≡ 13
  unfolding story_content
  story_length = let p = story_by (header_of file).release (story_checksum file) pc (header_of file).serial six in p.0

  is_checksum : (n : ℕ) → (n == n) ≡ true
  is_checksum n = grind (arith, nat_tests)

  story_front : take 8 (story_content file pc) ≡ bytes_2 (header_of file).release ++ (header_of file).serial
  unfolding story_content
  story_front = let p = story_by (header_of file).release (story_checksum file) pc (header_of file).serial six in p.1

  story_sum : bytes_behind 8 2 (story_content file pc) ≡ bytes_2 (story_checksum file)
  unfolding story_content
  story_sum = let p = story_by (header_of file).release (story_checksum file) pc (header_of file).serial six in p.2

  story_again : is_of_story file (story_content file pc) ≡ true
  unfolding is_of_story
  story_again =
      let h = header_of file in
      rw (
        story_front,
        story_sum,
        number_2 (story_checksum file),
        same_bytes (bytes_2 h.release ++ h.serial),
        is_checksum (story_checksum file),
      ) refl

  place_again : number_of (bytes_behind 10 3 (story_content file pc)) ≡ pc
  unfolding story_content
  place_again = let p = story_by (header_of file).release (story_checksum file) pc (header_of file).serial six in
      ap number_of p.3 ∙ number_3 pc

-- ---- memory

-- a chunk that gives back dynamic memory
record IsPart (m : MemoryMap) (c : Chunk) : Type 0 where
  named : HasName c
  is_memory : (bytes_eq c.name (codes "CMem") || bytes_eq c.name (codes "UMem")) ≡ true
  no_stack : bytes_eq c.name (codes "Stks") ≡ false
  gives : dynamic_in m c ≡ Some (take m.static_base m.bytes)

packed_again : (m : MemoryMap) → m.static_base ≤ length m.file → length (take m.static_base m.bytes) ≡ m.static_base
    → dynamic_in m (record { name = codes "CMem"; content = difference_of m }) ≡ Some (take m.static_base m.bytes)
unfolding dynamic_in
packed_again m le long =
    let bytes : List ℕ = take m.static_base m.bytes in
    let ds : List ℕ = xored bytes m.file in
    let fits : length bytes ≤ length m.file = omega (arith, le, long) in
    let length_ds : length ds ≡ m.static_base = length-xored bytes m.file fits ∙ long in
    let back : unpacked m.static_base (packed ds) ≡ Some ds = ap (λ (k : ℕ). unpacked k (packed ds))
    (sym length_ds) ∙ comes_back ds in
    let turned : xored (take m.static_base m.file) ds ≡ bytes = ap (λ (k : ℕ). xored (take k m.file) ds)
    (sym length_ds) ∙ bytes_again bytes m.file fits in
    rw (back, turned) refl

plain_again : (m : MemoryMap) → length (take m.static_base m.bytes) ≡ m.static_base
    → dynamic_in m (record { name = codes "UMem"; content = take m.static_base m.bytes }) ≡ Some
    (take m.static_base m.bytes)
unfolding dynamic_in
plain_again m long =
    let same : (length (take m.static_base m.bytes) == m.static_base) ≡ true = eq-eqb _ _ long in rw same refl

part_again : (m : MemoryMap) → m.static_base ≤ length m.file → length (take m.static_base m.bytes) ≡ m.static_base
    → IsPart m (memory_part m)
unfolding memory_part
part_again m le long = by (nat_le (length (difference_of m)) m.static_base) refl
  where
    by : (b : Bool) → nat_le (length (difference_of m)) m.static_base ≡ b → IsPart m (memory_part m)
    by true e = rw e (record { named = refl; is_memory = refl; no_stack = refl; gives = packed_again m le long })
    by false e = rw e (record { named = refl; is_memory = refl; no_stack = refl; gives = plain_again m long })

module _ (a : List ℕ) (c : Chunk) (d : List ℕ) where
  have_names : HasName c → All HasName (three a c d)
  have_names named =
      let third : All HasName (record { name = codes "Stks"; content = d } ∷ []) = All-cons HasName
      (record { name = codes "Stks"; content = d }) [] refl (All-nil HasName) in
      let second : All HasName (c ∷ record { name = codes "Stks"; content = d } ∷ []) = All-cons HasName c
      (record { name = codes "Stks"; content = d } ∷ []) named third in
      All-cons HasName (record { name = codes "IFhd"; content = a })
      (c ∷ record { name = codes "Stks"; content = d } ∷ []) refl second

pub loaded_again : (m : MemoryMap) (s : FrameList) (pc : ℕ) → length (header_of m.file).serial ≡ 6
    → m.static_base ≤ length m.file → length (take m.static_base m.bytes) ≡ m.static_base → BeginsFirst s
    → All IsFrame (frames_of s)
    → IsLoadedAgain m s pc (saved m s pc)
unfolding saved loaded parts_of content_of memory_chunk
loaded_again m s pc six le long begins each =
    let part : IsPart m (memory_part m) = part_again m le long in
    let names : All HasName (saved_chunks m s pc) = have_names (story_content m.file pc) (memory_part m)
    (stack_content (reverse (frames_of s))) part.named in
    rw (
      form_again (saved_chunks m s pc),
      chunks_again (saved_chunks m s pc) names,
      not_below (length (story_content m.file pc)) 13 (omega (arith, story_length m.file pc six)),
      part.is_memory,
      part.no_stack,
      story_again m.file pc six,
      part.gives,
      stack_again s begins each,
      place_again m.file pc six,
      reverse-reverse (frames_of s),
    ) refl
