-- Frames that are written one after another, and how long that is.
use Rattle.std.specs.Prelude.{slice_get, reverse, codes, nat_le, if◌then◌else◌, ◌==◌}
use Rattle.std.proofs.lemmas.Bool.Decides.{nat_tests}
use Rattle.std.specs.List.{flat_map}
use Rattle.std.proofs.Common.{◌≡◌, ◌∙◌, ℕ, Bool, true, false, ◌+◌, ◌*◌, ◌%◌, ◌≤◌, List, [], ◌∷◌, ◌++◌, length, take}
use Rattle.std.proofs.Common.{get_or, Some, refl, ap, sym, arith, add-one, append_assoc, length-append}
use Rattle.std.proofs.lemmas.List.{append-nil, take_all, take_more, flat_map_more, reverse-append}
use Rattle.std.proofs.lemmas.Option.{slice_get_within, get_or_from_slice_get}
use Rattle.zk_state.specs.Frames.{Frame, sizes_of}
use Rattle.zk_mem.specs.Map.{MemoryMap}
use Rattle.zk_save.specs.Quetzal.{Chunk, padding, chunk_bytes, form_bytes, bytes_4, words_bytes, frame_bytes}
use Rattle.zk_save.specs.Quetzal.{first_bytes, stack_content, difference_of, memory_part}

pub stack_start : (up : List Frame) (f : Frame) → slice_get up 0 ≡ Some f → first_bytes f ≡ stack_content (take 1 up)
unfolding stack_content
stack_start [] f h = absurd cc
stack_start (g ∷ gs) f h = let e : g ≡ f = cc in rw e (sym (append-nil (first_bytes f)))

step_in : (g : Frame) (gs : List Frame) (i : ℕ) (f : Frame) → slice_get gs i ≡ Some f
    → stack_content (g ∷ take i gs) ++ frame_bytes f ≡ stack_content (g ∷ take (i + 1) gs)
unfolding stack_content
step_in g gs i f h =
    let here : get_or gs i f ≡ f = get_or_from_slice_get gs i f f h in
    let more : take (i + 1) gs ≡ take i gs ++ f ∷ [] = take_more gs i f (slice_get_within gs i f h)
    ∙ ap (λ (x : Frame). take i gs ++ x ∷ []) here in
    flat_map_more frame_bytes (first_bytes g) (take i gs) f ∙ ap (λ (l : List Frame). stack_content (g ∷ l)) (sym more)

pub stack_step : (up : List Frame) (i : ℕ) (f : Frame) → slice_get up (i + 1) ≡ Some f
    → stack_content (take (i + 1) up) ++ frame_bytes f ≡ stack_content (take (i + 1 + 1) up)
stack_step [] i f h = absurd cc
stack_step (g ∷ gs) i f h = let h' = rw (add-one i) at h in rw (add-one (i + 1), add-one i)
    (step_in g gs i f h' ∙ ap (λ (k : ℕ). stack_content (g ∷ take k gs)) (add-one i))

pub stack_end : (up : List Frame) (i : ℕ) → length up ≤ i + 1 → stack_content (take (i + 1) up) ≡ stack_content up
stack_end up i h = ap stack_content (take_all (i + 1) up h)

length_words : (ws : List ℕ) → length (words_bytes ws) ≡ 2 * length ws
length_words [] = refl
length_words (w ∷ ws) = omega (arith, length_words ws)

length_frame : (f : Frame) → length (frame_bytes f) ≡ 8 + 2 * (length f.locals + length f.words)
unfolding frame_bytes
length_frame f =
    omega (
      arith,
      length_words f.locals,
      length_words f.words,
      length-append (words_bytes f.locals)
          (words_bytes f.words),
    )

length_first : (f : Frame) → length (first_bytes f) ≡ 8 + 2 * (length f.locals + length f.words)
unfolding first_bytes
length_first f =
    omega (
      arith,
      length_words f.locals,
      length_words f.words,
      length-append (words_bytes f.locals)
          (words_bytes f.words),
    )

length_frames : (fs : List Frame) → length (flat_map frame_bytes fs) ≡ 8 * length fs + 2 * sizes_of fs
unfolding sizes_of
length_frames [] = refl
length_frames (f ∷ fs) =
    omega (arith, length_frames fs, length_frame f, length-append (frame_bytes f) (flat_map frame_bytes fs))

pub length_stack : (fs : List Frame) → length (stack_content fs) ≡ 8 * length fs + 2 * sizes_of fs
unfolding stack_content sizes_of
length_stack [] = refl
length_stack (f ∷ fs) =
    omega (arith, length_frames fs, length_first f, length-append (first_bytes f) (flat_map frame_bytes fs))

sizes_both : (fs gs : List Frame) → sizes_of (fs ++ gs) ≡ sizes_of fs + sizes_of gs
unfolding sizes_of
sizes_both [] gs = omega arith
sizes_both (f ∷ fs) gs = omega (arith, sizes_both fs gs)

pub sizes_reversed : (fs : List Frame) → sizes_of (reverse fs) ≡ sizes_of fs
unfolding sizes_of
sizes_reversed [] = refl
sizes_reversed (f ∷ fs) =
    ap sizes_of (reverse-append (f ∷ []) fs) ∙ sizes_both (reverse fs) (f ∷ []) ∙ omega (arith, sizes_reversed fs)

-- ---- chunks

length_padding : (n : ℕ) → length (padding n) ≡ n % 2
length_padding n = by (n % 2 == 0) refl
  where
    by : (b : Bool) → (n % 2 == 0) ≡ b → length {A = ℕ} (if b then [] else 0 ∷ []) ≡ n % 2
    by true e = grind (arith, nat_tests)
    by false e = grind (arith, nat_tests)

length_chunk : (c : Chunk) → length (chunk_bytes c) ≡ length c.name + 4 + length c.content + length c.content % 2
unfolding chunk_bytes
length_chunk c =
    omega (
      arith,
      length-append c.name (bytes_4 (length c.content) ++ c.content ++ padding (length c.content)),
      length-append (c.name ++ bytes_4 (length c.content) ++ c.content) (padding (length c.content)),
      length-append (c.name ++ bytes_4 (length c.content)) c.content,
      length-append c.name (bytes_4 (length c.content)),
      length_padding (length c.content),
    )

module _ (a : List ℕ) (c : Chunk) (d : List ℕ) where
  -- the three chunks of a saved game
  abbrev pub three : List Chunk
  three = record { name = codes "IFhd"; content = a } ∷ c ∷ record { name = codes "Stks"; content = d } ∷ []

  abbrev pub inner : List ℕ
  inner = codes "IFZS" ++ flat_map chunk_bytes three

  pub inner_is : codes "IFZS" ++ chunk_bytes (record { name = codes "IFhd"; content = a }) ++ chunk_bytes c
      ++ chunk_bytes (record { name = codes "Stks"; content = d }) ≡ inner
  inner_is = simp (append_assoc, append-nil)

  pub length_inner : length a ≡ 13 → length c.name ≡ 4
      → length inner ≡ 42 + (length c.content + length c.content % 2) + (length d + length d % 2)
  length_inner e f =
      omega (
        arith,
        e,
        f,
        ap length (sym inner_is),
        length_chunk (record { name = codes "IFhd"; content = a }),
        length_chunk c,
        length_chunk (record { name = codes "Stks"; content = d }),
        length-append (codes "IFZS" ++ chunk_bytes (record { name = codes "IFhd"; content = a }) ++ chunk_bytes c)
            (chunk_bytes (record { name = codes "Stks"; content = d })),
        length-append (codes "IFZS" ++ chunk_bytes (record { name = codes "IFhd"; content = a })) (chunk_bytes c),
      )

  -- a saved game is as long as its chunks say
  pub length_saved : (s : ℕ) → length a ≡ 13 → length c.name ≡ 4 → length d ≤ 2 * s
      → length (form_bytes three) ≤ 51 + length c.content + 2 * s
  unfolding form_bytes
  length_saved s e f h =
      omega (arith, h, length_inner e f, length_chunk (record { name = codes "FORM"; content = inner }))

-- the chunk of memory has a name of four letters
pub part_named : (m : MemoryMap) → length (memory_part m).name ≡ 4
unfolding memory_part
part_named m = by (nat_le (length (difference_of m)) m.static_base) refl
  where
    by : (b : Bool) → nat_le (length (difference_of m)) m.static_base ≡ b → length (memory_part m).name ≡ 4
    by true e = rw e refl
    by false e = rw e refl

pub ruleset of_stack_of = (stack_start, stack_step, stack_end)
