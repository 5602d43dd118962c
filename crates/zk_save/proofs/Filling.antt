-- Frames and memory that are put in the place of others.
use Rattle.std.specs.Prelude.{reverse, Result, MatchResult, nat_le, min, if◌then◌else◌, ◌==◌, is_some, option_map}
use Rattle.std.specs.Prelude.{replicate, codes, slice_index, slice_set}
use Rattle.std.specs.Str.{bytes_eq}
use Rattle.std.proofs.Common.{◌≡◌, ◌∙◌, ℕ, zero, suc, ◌+◌, ◌-◌, ◌*◌, ◌/◌, ◌<◌, ◌≤◌, Bool, true, false, List, [], ◌∷◌}
use Rattle.std.proofs.Common.{◌++◌, length, take, drop, get_or, Option, Some, None, Ok, Err, refl, ap, sym, arith}
use Rattle.std.proofs.Common.{append_assoc, length-append, length-drop}
use Rattle.std.proofs.lemmas.Bool.Decides.{nat_tests}
use Rattle.std.proofs.lemmas.List.{reverse-append, length-take-le, length-replicate, take_more_set, append-nil}
use Rattle.zk_mem.specs.declared.fault.Fault.{Fault}
use Rattle.zk_mem.specs.Map.{MemoryMap, byte_put, with_byte}
use Rattle.zk_mem.specs.Again.{with_bytes, settled, again}
use Rattle.zk_mem.proofs.Copies.{copy_step}
use Rattle.zk_state.specs.declared.refusal.Refusal.{Refusal}
use Rattle.zk_state.specs.Frames.{Frame, FrameList, first_frame, first_frames, frames_of, sizes_of, total_of, bounds_of}
use Rattle.zk_state.specs.Frames.{with_word, with_words, with_routine, with_frames, within_bounds, pushed, called}
use Rattle.zk_save.specs.Unpacking.{given, filled, unpacked, xored}
use Rattle.zk_save.specs.Reading.{words_of, then_rest, first_of_frames, frames_read, with_first}
use Rattle.zk_save.specs.Loading.{dynamic_in}
use Rattle.zk_save.specs.Counted.{chunk_seen, first_written, frames_rest, FindRoom, FindPlace}
use Rattle.zk_save.proofs.Cuts.{is_below, not_below}
use Rattle.zk_save.proofs.FrameRuns.{length_words_of, frames_none, frames_step, frames_stop, read_is}
use Rattle.zk_save.proofs.Wholes.{turned_again}

-- ---- words

pub words_more : (i : ℕ) (bs : List ℕ) → 2 * i + 1 < length bs → words_of (take (2 * (i + 1)) bs) ≡ words_of
    (take (2 * i) bs) ++ (256 * get_or bs (2 * i) 0 + get_or bs (2 * i + 1) 0) ∷ []
unfolding words_of
words_more i [] h = absurd (omega arith)
words_more i (b ∷ []) h = absurd (omega arith)
words_more zero (b ∷ c ∷ bs) h = refl
words_more (suc i) (b ∷ c ∷ bs) h =
    let two : 2 * suc i ≡ suc (suc (2 * i)) = omega arith in
    let three : 2 * suc i + 1 ≡ suc (suc (2 * i + 1)) = omega arith in
    let four : 2 * (suc i + 1) ≡ suc (suc (2 * (i + 1))) = omega arith in
    rw (four, three, two) (ap (λ (l : List ℕ). (256 * b + c) ∷ l) (words_more i bs (omega arith)))

pub words_all : (i : ℕ) (bs : List ℕ) → length bs / 2 ≤ i → words_of (take (2 * i) bs) ≡ words_of bs
unfolding words_of
words_all zero [] h = refl
words_all (suc i) [] h = let two : 2 * suc i ≡ suc (suc (2 * i)) = omega arith in rw two refl
words_all zero (b ∷ []) h = refl
words_all (suc i) (b ∷ []) h = let two : 2 * suc i ≡ suc (suc (2 * i)) = omega arith in rw two refl
words_all zero (b ∷ c ∷ bs) h = absurd (omega arith)
words_all (suc i) (b ∷ c ∷ bs) h =
    let two : 2 * suc i ≡ suc (suc (2 * i)) = omega arith in
    rw two (ap (λ (l : List ℕ). (256 * b + c) ∷ l) (words_all i bs (omega arith)))

-- ---- within the bounds

pub fits_is : (s : FrameList) → length (frames_of s) ≤ s.most_frames → total_of s ≤ s.most_words
    → within_bounds s ≡ Ok s
unfolding within_bounds
fits_is s f w = rw (not_below s.most_frames (length (frames_of s)) f, not_below s.most_words (total_of s) w) refl

pub total_with : (s : FrameList) (ws : List ℕ) → total_of (with_words s ws) ≡ length s.current.locals + length
    ws + sizes_of s.callers
unfolding sizes_of
total_with s ws = refl

done_by : (r : Result (Unit {0}) Refusal) (q : Result FrameList Refusal) (s t u : FrameList)
    → MatchResult r (λ _. q ≡ Ok t) (λ e. (q ≡ Err e) × (t ≡ s)) → q ≡ Ok u → t ≡ u
done_by (Ok x) q s t u h e = let same : ◌≡◌ {A = Result FrameList Refusal} (Ok t) (Ok u) = sym h ∙ e in cc
done_by (Err x) q s t u h e = let same : ◌≡◌ {A = Result FrameList Refusal} (Err x) (Ok u) = sym h.0 ∙ e in absurd cc

pub push_done : (r : Result (Unit {0}) Refusal) (s t : FrameList) (v : ℕ) → length (frames_of s) ≤ s.most_frames
    → total_of s + 1 ≤ s.most_words → MatchResult r (λ _. pushed s v ≡ Ok t) (λ e. (pushed s v ≡ Err e) × (t ≡ s))
    → t ≡ with_word s v
unfolding pushed sizes_of
push_done r s t v f w h =
    done_by r (pushed s v) s t (with_word s v) h
    (fits_is (with_word s v) f (omega (arith, w, length-append s.current.words (v ∷ []))))

pub call_done : (r : Result (Unit {0}) Refusal) (s t : FrameList) (ls : List ℕ) (p : ℕ) (v : Option ℕ) (n : ℕ)
    → length (frames_of s) + 1 ≤ s.most_frames → total_of s + length ls ≤ s.most_words
    → MatchResult r (λ _. called s ls p v n ≡ Ok t) (λ e. (called s ls p v n ≡ Err e) × (t ≡ s))
    → t ≡ with_routine s ls p v n
unfolding called sizes_of
call_done r s t ls p v n f w h = done_by r (called s ls p v n) s t (with_routine s ls p v n) h
    (fits_is (with_routine s ls p v n) (omega (arith, f)) (omega (arith, w)))

-- ---- one frame after another

-- what is left to put, which makes the whole
pub record Left (o : Option (List Frame)) (s : FrameList) (whole : List Frame) : Type 0 where
  pub frames : List Frame
  pub read : o ≡ Some frames
  pub makes : reverse frames ++ frames_of s ≡ whole

pub rest_of : (o : Option (List Frame)) (f : Frame) (fs : List Frame) → then_rest f o ≡ Some fs
    → (gs : List Frame) × (o ≡ Some gs) × (fs ≡ f ∷ gs)
rest_of None f fs h = absurd cc
rest_of (Some gs) f fs h = let e : fs ≡ f ∷ gs = cc in (gs, refl, e)

-- the frames after the first of those that were read
pub behind : (bs rest : List ℕ) (f : Frame) (fs : List Frame) → Some (f, rest) ≡ first_of_frames bs
    → frames_rest bs ≡ Some fs → (gs : List Frame) × (frames_rest rest ≡ Some gs) × (fs ≡ f ∷ gs)
behind bs rest f fs e h = rest_of (frames_rest rest) f fs (sym (frames_step bs (f, rest) (sym e)) ∙ h)

pub room_frames : (bs rest : List ℕ) (f : Frame) (s : FrameList) → Some (f, rest) ≡ first_of_frames bs
    → FindRoom (frames_rest bs) s → length (frames_of s) + 1 ≤ s.most_frames
room_frames bs rest f s e r = let p = behind bs rest f r.frames e r.read in omega (arith, r.few_frames, ap length p.2)

pub room_words : (bs rest : List ℕ) (f : Frame) (s : FrameList) → Some (f, rest) ≡ first_of_frames bs
    → FindRoom (frames_rest bs) s → total_of s + (length f.locals + length f.words) ≤ s.most_words
unfolding sizes_of
room_words bs rest f s e r = let p = behind bs rest f r.frames e r.read in omega (arith, r.few_words, ap sizes_of p.2)

-- a frame more above the others
abbrev pub with_frame : FrameList → Frame → FrameList
with_frame s f = record s { current = f; callers = frames_of s }

pub room_step : (bs rest : List ℕ) (f : Frame) (s t : FrameList) → Some (f, rest) ≡ first_of_frames bs
    → t ≡ with_frame s f → FindRoom (frames_rest bs) s → FindRoom (frames_rest rest) t
unfolding sizes_of
room_step bs rest f s t e h r =
    let p = behind bs rest f r.frames e r.read in
    rw h (record {
      frames = p.0;
      read = p.1;
      few_frames = omega (arith, r.few_frames, ap length p.2);
      few_words = omega (arith, r.few_words, ap sizes_of p.2);
    })

pub left_step : (bs rest : List ℕ) (f : Frame) (s t : FrameList) (whole : List Frame)
    → Some (f, rest) ≡ first_of_frames bs → t ≡ with_frame s f → Left (frames_rest bs) s whole
    → Left (frames_rest rest) t whole
left_step bs rest f s t whole e h l =
    let p = behind bs rest f l.frames e l.read in
    let turned : reverse l.frames ≡ reverse p.0 ++ f ∷ [] = ap (λ (fs : List Frame). reverse fs) p.2
    ∙ reverse-append (f ∷ []) p.0 in
    rw h (record {
      frames = p.0;
      read = p.1;
      makes = sym (append_assoc (reverse p.0) (f ∷ []) (frames_of s))
          ∙ ap (λ (fs : List Frame). fs ++ frames_of s) (sym turned) ∙ l.makes;
    })

pub left_end : (bs : List ℕ) (s : FrameList) (whole : List Frame) → length bs ≡ 0 → Left (frames_rest bs) s whole
    → frames_of s ≡ whole
left_end [] s whole e l =
    let none : l.frames ≡ [] = let same : Some l.frames ≡ Some [] = sym l.read ∙ frames_none in cc in
    ap (λ (fs : List Frame). reverse fs ++ frames_of s) (sym none) ∙ l.makes
left_end (b ∷ bs) s whole e l = absurd (omega arith)

pub all_put : (s t : FrameList) (whole : List Frame) → bounds_of t ≡ bounds_of s → frames_of t ≡ whole
    → t ≡ with_frames s whole
unfolding bounds_of
all_put s t whole b e =
    let frames = ap (λ (p : ℕ × ℕ). p.0) b in
    let words = ap (λ (p : ℕ × ℕ). p.1) b in
    rw (← e, ← frames, ← words) refl

pub no_frames : (bs : List ℕ) (s : FrameList) → 0 < length bs → None ≡ first_of_frames bs
    → FindRoom (frames_rest bs) s → ⊥
no_frames bs s lt e r = let none : None ≡ Some r.frames = sym (frames_stop bs lt (sym e)) ∙ r.read in absurd cc

-- ---- the first frame

-- the frame outside of all routines, of which only the words count
abbrev pub only_words : Frame → Frame
only_words f = record first_frame { words = f.words }

pub behind_first : (bs rest : List ℕ) (f : Frame) (fs : List Frame) → Some (f, rest) ≡ first_written bs
    → frames_read bs ≡ Some fs → (gs : List Frame) × (frames_rest rest ≡ Some gs) × (fs ≡ only_words f ∷ gs)
behind_first bs rest f fs e h = rest_of (frames_rest rest) (only_words f) fs (ap with_first e ∙ sym (read_is bs) ∙ h)

pub not_first : (bs : List ℕ) (fs : List Frame) → None ≡ first_written bs → frames_read bs ≡ Some fs → ⊥
not_first bs fs e h = let none : None ≡ Some fs = ap with_first e ∙ sym (read_is bs) ∙ h in absurd cc

pub place_words : (bs rest : List ℕ) (f : Frame) (s t : FrameList) → Some (f, rest) ≡ first_written bs
    → FindPlace (frames_read bs) s → t ≡ first_frames s.most_frames s.most_words
    → total_of t + length f.words ≤ t.most_words
unfolding sizes_of
place_words bs rest f s t e p h =
    let q = behind_first bs rest f p.frames e p.read in
    rw h (omega (arith, p.few_words, ap sizes_of q.2))

-- the first frame with its words
abbrev pub begun : FrameList → List ℕ → FrameList
begun s ws = with_words (first_frames s.most_frames s.most_words) ws

pub place_room : (bs rest : List ℕ) (f : Frame) (s t : FrameList) → Some (f, rest) ≡ first_written bs
    → FindPlace (frames_read bs) s → t ≡ begun s f.words → FindRoom (frames_rest rest) t
unfolding sizes_of
place_room bs rest f s t e p h =
    let q = behind_first bs rest f p.frames e p.read in
    rw h (record {
      frames = q.0;
      read = q.1;
      few_frames = omega (arith, p.few_frames, ap length q.2);
      few_words = omega (arith, p.few_words, ap sizes_of q.2);
    })

same_bounds : (s t : FrameList) (f : Frame) (fs : List Frame) → bounds_of t ≡ bounds_of s
    → with_frames t (fs ++ f ∷ []) ≡ with_frames s (fs ++ f ∷ [])
unfolding bounds_of
same_bounds s t f [] b =
    let frames = ap (λ (p : ℕ × ℕ). p.0) b in let words = ap (λ (p : ℕ × ℕ). p.1) b in rw (frames, words) refl
same_bounds s t f (g ∷ gs) b =
    let frames = ap (λ (p : ℕ × ℕ). p.0) b in let words = ap (λ (p : ℕ × ℕ). p.1) b in rw (frames, words) refl

pub stack_put : (bs rest : List ℕ) (f : Frame) (s t u : FrameList) (fs : List Frame)
    → Some (f, rest) ≡ first_written bs → t ≡ begun s f.words
    → ((gs : List Frame) → frames_rest rest ≡ Some gs → u ≡ with_frames t (reverse gs ++ frames_of t))
    → frames_read bs ≡ Some fs → u ≡ with_frames s (reverse fs)
unfolding bounds_of
stack_put bs rest f s t u fs e h put r =
    let q = behind_first bs rest f fs e r in
    let turned : reverse fs ≡ reverse q.0 ++ only_words f ∷ [] = ap (λ (gs : List Frame). reverse gs) q.2
    ∙ reverse-append (only_words f ∷ []) q.0 in
    put q.0 q.1 ∙ ap (λ (x : FrameList). with_frames x (reverse q.0 ++ frames_of x)) h
    ∙ same_bounds s (begun s f.words) (only_words f) (reverse q.0) refl ∙ ap (with_frames s) (sym turned)

-- ---- memory

put_by : (r : Result (Unit {0}) Fault) (q : Result MemoryMap Fault) (m n u : MemoryMap)
    → MatchResult r (λ _. q ≡ Ok n) (λ e. (q ≡ Err e) × (n ≡ m)) → q ≡ Ok u → n ≡ u
put_by (Ok x) q m n u h e = let same : ◌≡◌ {A = Result MemoryMap Fault} (Ok n) (Ok u) = sym h ∙ e in cc
put_by (Err x) q m n u h e = let same : ◌≡◌ {A = Result MemoryMap Fault} (Err x) (Ok u) = sym h.0 ∙ e in absurd cc

pub bytes_step : (r : Result (Unit {0}) Fault) (old m n : MemoryMap) (bs : List ℕ) (i : ℕ) → i < length bs
    → length bs ≡ old.static_base → old.static_base ≤ length old.bytes → old.static_base < 65536
    → m ≡ with_bytes old (take i bs ++ drop i old.bytes)
    → MatchResult r (λ _. byte_put m i (get_or bs i 0) ≡ Ok n)
    (λ e. (byte_put m i (get_or bs i 0) ≡ Err e) × (n ≡ m))
    → n ≡ with_bytes old (take (i + 1) bs ++ drop (i + 1) old.bytes)
unfolding byte_put
bytes_step r old m n bs i lt e high small h put =
    let base : m.static_base ≡ old.static_base = ap (λ (x : MemoryMap). x.static_base) h in
    let long : length m.bytes ≡ length old.bytes = omega (
      arith,
      ap (λ (x : MemoryMap). length x.bytes) h,
      length-append (take i bs) (drop i old.bytes),
      length-take-le i bs (omega arith),
      length-drop i old.bytes,
      e,
      high,
      lt,
    ) in
    let done : byte_put m i (get_or bs i 0) ≡ Ok (with_byte m i (get_or bs i 0)) =
    rw (
      is_below i (min (length m.bytes) 65536) (omega (arith, long, e, high, small, lt)),
      is_below i m.static_base (omega (arith, base, e, lt)),
    ) refl in
    put_by r (byte_put m i (get_or bs i 0)) m n (with_byte m i (get_or bs i 0)) put done
    ∙ ap (λ (x : MemoryMap). with_byte x i (get_or bs i 0)) h
    ∙ ap (with_bytes old) (copy_step (take i bs ++ drop i old.bytes) bs old.bytes i lt (omega (arith, e, high)) refl)

plain_by : (b : Bool) (content dynamic : List ℕ) → (if b then Some content else None) ≡ Some dynamic → content ≡ dynamic
plain_by true content dynamic h = cc
plain_by false content dynamic h = absurd cc

length_by : (b : Bool) (content : List ℕ) (n : ℕ) → (length content == n) ≡ b
    → is_some (if b then Some content else None) ≡ true → length content ≡ n
length_by true content n e h = grind (arith, nat_tests)
length_by false content n e h = absurd cc

pub plain_length : (m : MemoryMap) (name content : List ℕ) → bytes_eq name (codes "UMem") ≡ true
    → is_some (dynamic_in m (chunk_seen name content)) ≡ true → length content ≡ m.static_base
unfolding dynamic_in
plain_length m name content e h =
    let h' = rw e at h in length_by (length content == m.static_base) content m.static_base refl h'

pub plain_again : (m reset put n : MemoryMap) (flags : ℕ) (name content dynamic : List ℕ)
    → bytes_eq name (codes "UMem") ≡ true → flags ≡ slice_index m.bytes 0x11 → reset ≡ with_bytes m m.file
    → put ≡ with_bytes reset (content ++ drop (length content) reset.bytes)
    → n ≡ settled flags put → dynamic_in m (chunk_seen name content) ≡ Some dynamic
    → n ≡ again m (dynamic ++ drop (length dynamic) m.file)
unfolding dynamic_in again
plain_again m reset put n flags name content dynamic e f r p s h =
    let h' = rw e at h in
    let same : content ≡ dynamic = plain_by (length content == m.static_base) content dynamic h' in
    let bytes : put ≡ with_bytes m (content ++ drop (length content) m.file) = p
    ∙ ap (λ (x : MemoryMap). with_bytes x (content ++ drop (length content) x.bytes)) r in
    s ∙ ap (λ (k : ℕ). settled k put) f ∙ ap (settled (slice_index m.bytes 0x11))
    (bytes ∙ ap (λ (l : List ℕ). with_bytes m (l ++ drop (length l) m.file)) same)

map_by : (f : List ℕ → List ℕ) (o : Option (List ℕ)) (ys : List ℕ) → option_map f o ≡ Some ys
    → (xs : List ℕ) × (o ≡ Some xs) × (f xs ≡ ys)
map_by f None ys h = absurd cc
map_by f (Some xs) ys h = let e : f xs ≡ ys = cc in (xs, refl, e)

filled_by : (b : Bool) (n : ℕ) (xs ds : List ℕ) → nat_le (length xs) n ≡ b
    → (if b then Some (xs ++ replicate (n - length xs) 0) else None) ≡ Some ds → length ds ≡ n
filled_by true n xs ds e h =
    let le : length xs ≤ n = grind (arith, nat_tests) in
    let is : xs ++ replicate (n - length xs) 0 ≡ ds = cc in
    omega (
      arith,
      le,
      ap length is,
      length-append xs (replicate (n - length xs) 0),
      length-replicate {A = ℕ} (n - length xs) 0,
    )
filled_by false n xs ds e h = absurd cc

length_filled : (n : ℕ) (o : Option (List ℕ)) (ds : List ℕ) → filled n o ≡ Some ds → length ds ≡ n
length_filled n None ds h = absurd cc
length_filled n (Some xs) ds h = filled_by (nat_le (length xs) n) n xs ds refl h

length_unpacked : (n : ℕ) (cs ds : List ℕ) → unpacked n cs ≡ Some ds → length ds ≡ n
unfolding unpacked
length_unpacked n cs ds h = length_filled n (given cs) ds h

pub packed_again : (m reset turned n : MemoryMap) (flags : ℕ) (name content dynamic : List ℕ)
    → bytes_eq name (codes "UMem") ≡ false → m.static_base ≤ length m.file → flags ≡ slice_index m.bytes 0x11
    → reset ≡ with_bytes m m.file
    → ((ds : List ℕ) → unpacked (length ds) content ≡ Some ds → length ds ≡ reset.static_base
    → turned ≡ with_bytes reset (xored reset.bytes ds)) → n ≡ settled flags turned
    → dynamic_in m (chunk_seen name content) ≡ Some dynamic → n ≡ again m (dynamic ++ drop (length dynamic) m.file)
unfolding dynamic_in
packed_again m reset turned n flags name content dynamic e high f r t s h =
    let h' = rw e at h in
    let p = map_by (λ ds. xored (take m.static_base m.file) ds) (unpacked m.static_base content) dynamic h' in
    let ds : List ℕ = p.0 in
    let long : length ds ≡ m.static_base = length_unpacked m.static_base content ds p.1 in
    let given : unpacked (length ds) content ≡ Some ds = ap (λ (k : ℕ). unpacked k content) long ∙ p.1 in
    let le : length ds ≤ length m.file = omega (arith, long, high) in
    let is : xored (take (length ds) m.file) ds ≡ dynamic = ap (λ (k : ℕ). xored (take k m.file) ds) long ∙ p.2 in
    turned_again m reset turned n flags ds le f r (t ds given (long ∙ sym (ap (λ (x : MemoryMap). x.static_base) r))) s
    ∙ ap (λ (l : List ℕ). again m (l ++ drop (length l) m.file)) is

-- ---- words, one after another

pub word_step : (ws bs : List ℕ) (i : ℕ) → i < length ws → 2 * i + 1 < length bs
    → take i ws ≡ words_of (take (2 * i) bs)
    → take (i + 1) (slice_set ws i (256 * get_or bs (2 * i) 0 + get_or bs (2 * i + 1) 0)) ≡ words_of
    (take (2 * (i + 1)) bs)
word_step ws bs i lt in_bytes h =
    let v : ℕ = 256 * get_or bs (2 * i) 0 + get_or bs (2 * i + 1) 0 in
    take_more_set ws i v lt ∙ ap (λ (l : List ℕ). l ++ v ∷ []) h ∙ sym (words_more i bs in_bytes)

pub word_end : (ws bs : List ℕ) (i : ℕ) → length bs / 2 ≡ i → take i ws ≡ words_of (take (2 * i) bs)
    → take (length bs / 2) ws ≡ words_of bs
word_end ws bs i e h = ap (λ (k : ℕ). take k ws) e ∙ h ∙ words_all i bs (omega (arith, e))

pub push_start : (s : FrameList) → s ≡ with_words s (s.current.words ++ words_of [])
unfolding words_of
push_start s = rw (append-nil s.current.words) refl

pub push_step : (r : Result (Unit {0}) Refusal) (s t u : FrameList) (bs : List ℕ) (i : ℕ)
    → length (frames_of s) ≤ s.most_frames → total_of s + length bs / 2 ≤ s.most_words → i < length bs / 2
    → t ≡ with_words s (s.current.words ++ words_of (take (2 * i) bs))
    → MatchResult r (λ _. pushed t (256 * get_or bs (2 * i) 0 + get_or bs (2 * i + 1) 0) ≡ Ok u)
    (λ e. (pushed t (256 * get_or bs (2 * i) 0 + get_or bs (2 * i + 1) 0) ≡ Err e) × (u ≡ t))
    → u ≡ with_words s (s.current.words ++ words_of (take (2 * (i + 1)) bs))
unfolding sizes_of
push_step r s t u bs i f w lt h m =
    let v : ℕ = 256 * get_or bs (2 * i) 0 + get_or bs (2 * i + 1) 0 in
    let long : length (words_of (take (2 * i) bs)) ≡ i = omega (
      arith,
      length_words_of (take (2 * i) bs),
      length-take-le (2 * i) bs (omega (arith, lt)),
    ) in
    let frames : length (frames_of t) ≤ t.most_frames = rw h f in
    let words : total_of t + 1 ≤ t.most_words = rw h
    (omega (arith, w, lt, long, length-append s.current.words (words_of (take (2 * i) bs)))) in
    let more : words_of (take (2 * (i + 1)) bs) ≡ words_of (take (2 * i) bs) ++ v
    ∷ [] = words_more i bs (omega (arith, lt)) in
    push_done r t u v frames words m
    ∙ ap (λ (x : FrameList). with_word x v) h
    ∙ ap (with_words s) (append_assoc s.current.words (words_of (take (2 * i) bs)) (v ∷ [])
    ∙ ap (λ (l : List ℕ). s.current.words ++ l) (sym more))

pub push_end : (s t : FrameList) (bs : List ℕ) (i : ℕ) → length bs / 2 ≤ i
    → t ≡ with_words s (s.current.words ++ words_of (take (2 * i) bs))
    → t ≡ with_words s (s.current.words ++ words_of bs)
push_end s t bs i le h = h ∙ ap (λ (l : List ℕ). with_words s (s.current.words ++ l)) (words_all i bs le)

-- ---- a frame

pub frame_room : (s t : FrameList) (ls : List ℕ) (p : ℕ) (v : Option ℕ) (n l w : ℕ) → t ≡ with_routine s ls p v n
    → length ls ≡ l → total_of s + (l + w) ≤ s.most_words → total_of t + w ≤ t.most_words
unfolding sizes_of
frame_room s t ls p v n l w h e few = rw h (omega (arith, e, few))

pub frame_put : (s t u : FrameList) (ls ws : List ℕ) (p : ℕ) (v : Option ℕ) (n : ℕ) → t ≡ with_routine s ls p v n
    → u ≡ with_words t (t.current.words ++ ws) → u ≡ with_frame s
    (record { locals = ls; words = ws; pc = p; result = v; supplied = n })
frame_put s t u ls ws p v n h e = e ∙ ap (λ (x : FrameList). with_words x (x.current.words ++ ws)) h
