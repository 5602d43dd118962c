-- Frames one after the other, and how many there are.
use Rattle.std.specs.Prelude.{nat_lt, option_map, slice_index, if◌then◌else◌, ◌||◌}
use Rattle.std.specs.Str.{bytes_eq}
use Rattle.std.proofs.Common.{◌≡◌, ◌∙◌, ℕ, ◌+◌, ◌*◌, ◌/◌, ◌%◌, ◌<◌, ◌≤◌, Bool, true, false, List, [], ◌∷◌, length, take}
use Rattle.std.proofs.Common.{drop, Option, Some, None, refl, ap, sym, arith, length-drop}
use Rattle.std.proofs.lemmas.Bool.Decides.{nat_tests}
use Rattle.zk_state.specs.Frames.{Frame, first_frame, sizes_of}
use Rattle.zk_save.specs.Reading.{words_of, then_rest, frame_of, word_count, each_up_to, first_of_frames, frames_read}
use Rattle.zk_save.specs.Reading.{with_first}
use Rattle.zk_save.specs.Counted.{first_written, frames_rest, sizes_in}
use Rattle.zk_save.proofs.Cuts.{frame_short}
use Rattle.zk_save.proofs.Walks.{each_step, each_stop}

cut_by : (b : Bool) (l w : ℕ) (bs : List ℕ) (f : Frame) (p : Frame × List ℕ) → 8 ≤ length bs
    → (if b then None else Some (f, drop (8 + 2 * l + 2 * w) bs)) ≡ Some p → length p.1 < length bs
cut_by true l w bs f p le h = absurd cc
cut_by false l w bs f p le h = let e : (f, drop (8 + 2 * l + 2 * w) bs) ≡ p = cc in
    omega (arith, le, ap (λ (q : Frame × List ℕ). length q.1) e, length-drop (8 + 2 * l + 2 * w) bs)

head_by : (b flags bits : Bool) (bs : List ℕ) (p : Frame × List ℕ) → nat_lt (length bs) 8 ≡ b
    → (if b || flags || bits then None else frame_of (slice_index bs 3 % 16) (word_count bs) bs) ≡ Some p
    → length p.1 < length bs
head_by true flags bits bs p e h = absurd cc
head_by false true bits bs p e h = absurd cc
head_by false false true bs p e h = absurd cc
head_by false false false bs p e h =
    let l : ℕ = slice_index bs 3 % 16 in
    let w : ℕ = word_count bs in
    cut_by (nat_lt (length bs) (8 + 2 * l + 2 * w)) l w bs _ p (grind (arith, nat_tests)) h

pub frame_shorter : (bs : List ℕ) (p : Frame × List ℕ) → first_of_frames bs ≡ Some p → length p.1 < length bs
unfolding first_of_frames
frame_shorter bs p h =
    head_by (nat_lt (length bs) 8) (nat_lt 31 (slice_index bs 3)) (nat_lt 127 (slice_index bs 5)) bs p refl h

first_none : first_of_frames [] ≡ None
unfolding first_of_frames
first_none = refl

pub frames_none : frames_rest [] ≡ Some []
unfolding each_up_to
frames_none = refl

pub frames_step : (bs : List ℕ) (p : Frame × List ℕ) → first_of_frames bs ≡ Some p
    → frames_rest bs ≡ then_rest p.0 (frames_rest p.1)
frames_step bs p h = each_step first_of_frames first_none frame_shorter bs p h

pub frames_stop : (bs : List ℕ) → 0 < length bs → first_of_frames bs ≡ None → frames_rest bs ≡ None
frames_stop bs lt h = each_stop first_of_frames first_none frame_shorter bs lt h

-- ---- how many there are

-- so many frames and words, and those after them
abbrev pub sizes_after : ℕ → ℕ → List Frame → ℕ × ℕ
sizes_after n w fs = (n + length fs, w + sizes_of fs)

pub length_words_of : (bs : List ℕ) → length (words_of bs) ≡ length bs / 2
unfolding words_of
length_words_of [] = refl
length_words_of (b ∷ []) = refl
length_words_of (b ∷ c ∷ bs) = omega (arith, length_words_of bs)

count_by : (o : Option (List Frame)) (f : Frame) (n w l ws : ℕ) → length f.locals ≡ l → length f.words ≡ ws
    → option_map (sizes_after (n + 1) (w + (l + ws))) o ≡ option_map (sizes_after n w) (then_rest f o)
unfolding sizes_of
count_by None f n w l ws e h = refl
count_by (Some fs) f n w l ws e h =
    let frames : n + 1 + length fs ≡ n + length (f ∷ fs) = omega arith in
    let words : w + (l + ws) + sizes_of fs ≡ w + sizes_of (f ∷ fs) = omega (arith, e, h) in
    rw (frames, words) refl

pub count_step : (whole : Option (ℕ × ℕ)) (bs locals words : List ℕ) (f : Frame) (rest : List ℕ) (n w : ℕ)
    → Some (f, rest) ≡ first_of_frames bs → f.locals ≡ words_of locals → f.words ≡ words_of words
    → option_map (sizes_after n w) (frames_rest bs) ≡ whole
    → option_map (sizes_after (n + 1) (w + (length locals / 2 + length words / 2))) (frames_rest rest) ≡ whole
count_step whole bs locals words f rest n w e ls ws h =
    count_by (frames_rest rest) f n w (length locals / 2) (length words / 2)
    (ap length ls ∙ length_words_of locals) (ap length ws ∙ length_words_of words)
    ∙ ap (option_map (sizes_after n w)) (sym (frames_step bs (f, rest) (sym e))) ∙ h

pub count_none : (whole : Option (ℕ × ℕ)) (bs : List ℕ) (n w : ℕ) → 0 < length bs → None ≡ first_of_frames bs
    → option_map (sizes_after n w) (frames_rest bs) ≡ whole → None ≡ whole
count_none whole bs n w lt e h = ap (option_map (sizes_after n w)) (sym (frames_stop bs lt (sym e))) ∙ h

pub count_end : (whole : Option (ℕ × ℕ)) (bs : List ℕ) (n w : ℕ) → length bs ≡ 0
    → option_map (sizes_after n w) (frames_rest bs) ≡ whole → Some (n, w) ≡ whole
unfolding sizes_of
count_end whole [] n w e h =
    let frames : n ≡ n + 0 = omega arith in
    let words : w ≡ w + 0 = omega arith in
    ap (λ (k : ℕ). Some (k, w)) frames ∙ ap (λ (k : ℕ). Some (n + 0, k)) words
    ∙ ap (option_map (sizes_after n w)) (sym frames_none) ∙ h
count_end whole (b ∷ bs) n w e h = absurd (omega arith)

-- ---- the first frame

read_by : (b : Bool) (o : Option (Frame × List ℕ)) → (if b then with_first o else None) ≡ with_first
    (if b then o else None)
read_by true o = refl
read_by false o = refl

pub read_is : (bs : List ℕ) → frames_read bs ≡ with_first (first_written bs)
unfolding frames_read
read_is bs = read_by (bytes_eq (take 6 bs) (0 ∷ 0 ∷ 0 ∷ 0 ∷ 0 ∷ 0 ∷ [])) (first_of_frames bs)

first_by : (o : Option (List Frame)) (ws : List ℕ) (n : ℕ) → length ws ≡ n
    → option_map (sizes_after 1 n) o ≡ option_map sizes_in (then_rest (record first_frame { words = ws }) o)
unfolding sizes_of
first_by None ws n e = refl
first_by (Some fs) ws n e =
    let frames : 1 + length fs ≡ length (record first_frame { words = ws } ∷ fs) = omega arith in
    let words : n + sizes_of fs ≡ sizes_of (record first_frame { words = ws } ∷ fs) = omega (arith, e) in
    rw (frames, words) refl

pub count_start : (bs words rest : List ℕ) (f : Frame) → Some (f, rest) ≡ first_written bs
    → f.words ≡ words_of words → option_map (sizes_after 1 (length words / 2)) (frames_rest rest) ≡ option_map
    sizes_in (frames_read bs)
count_start bs words rest f e ws =
    first_by (frames_rest rest) f.words (length words / 2) (ap length ws ∙ length_words_of words)
    ∙ ap (option_map sizes_in) (ap with_first e ∙ sym (read_is bs))

pub count_refused : (bs : List ℕ) → None ≡ first_written bs → None ≡ option_map sizes_in (frames_read bs)
count_refused bs e = ap (option_map sizes_in) (ap with_first e ∙ sym (read_is bs))

if_none : (b : Bool) → ◌≡◌ {A = Option (Frame × List ℕ)} None (if b then None else None)
if_none true = refl
if_none false = refl

pub first_short : (bs : List ℕ) → length bs < 8 → None ≡ first_written bs
first_short bs h = if_none (bytes_eq (take 6 bs) (0 ∷ 0 ∷ 0 ∷ 0 ∷ 0 ∷ 0 ∷ []))
    ∙ ap (λ (o : Option (Frame × List ℕ)). if bytes_eq (take 6 bs) (0 ∷ 0 ∷ 0 ∷ 0 ∷ 0 ∷ 0 ∷ []) then o else None)
    (frame_short bs h)
