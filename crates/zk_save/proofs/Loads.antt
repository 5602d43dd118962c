-- What a saved game loads, step by step.
use Rattle.std.specs.Prelude.{reverse, not, is_some, option_map, if◌then◌else◌}
use Rattle.std.proofs.Common.{◌≡◌, ◌∙◌, ℕ, ◌<◌, ◌≤◌, true, false, List, [], ◌∷◌, length, Option, Some, None, Result, Ok}
use Rattle.std.proofs.Common.{Err, refl, ap, sym, arith}
use Rattle.std.proofs.lemmas.List.{length-reverse}
use Rattle.zk_mem.specs.Map.{MemoryMap}
use Rattle.zk_state.specs.Frames.{Frame, FrameList, first_frame, frames_of, sizes_of, total_of, with_frames}
use Rattle.zk_state.specs.Frames.{within_bounds}
use Rattle.zk_state.specs.declared.refusal.Limit.TheVariants.{Frames, Words}
use Rattle.zk_save.specs.declared.restore.RestoreError.{RestoreError}
use Rattle.zk_save.specs.declared.restore.RestoreError.TheVariants.{Truncated, OtherStory, BadMemory, BadStack, Limit}
use Rattle.zk_save.specs.Quetzal.{Chunk}
use Rattle.zk_save.specs.Reading.{number_of, bytes_behind, with_first, each_of, first_of_frames, chunks_in, frames_read}
use Rattle.zk_save.specs.Loading.{Parts, or_refuse, loaded_by, form_in, parts_of, is_of_story, dynamic_in, loaded}
use Rattle.zk_save.specs.Loading.{put_in_place, restored}
use Rattle.zk_save.specs.States.{WholeState}
use Rattle.zk_save.specs.Counted.{first_written, sizes_in, CanRestore}
use Rattle.zk_save.proofs.Cuts.{is_below, not_below}
use Rattle.zk_save.proofs.FrameRuns.{read_is}
use Rattle.zk_save.proofs.Filling.{rest_of, fits_is}
use Rattle.zk_save.proofs.Saves.{sizes_reversed}

by_some : {A : Type 0} (o : Option A) → is_some o ≡ true → (x : A) × (o ≡ Some x)
by_some {A} None h = absurd cc
by_some {A} (Some x) h = (x, refl)

by_none : {A : Type 0} (o : Option A) → is_some o ≡ false → o ≡ None
by_none {A} None h = refl
by_none {A} (Some x) h = absurd cc

map_none : {A B : Type 0} (f : A → B) (o : Option A) → None ≡ option_map f o → o ≡ None
map_none {A} {B} f None h = refl
map_none {A} {B} f (Some x) h = absurd cc

map_some : {A B : Type 0} (f : A → B) (o : Option A) (y : B) → Some y ≡ option_map f o
    → (x : A) × (o ≡ Some x) × (f x ≡ y)
map_some {A} {B} f None y h = absurd cc
map_some {A} {B} f (Some x) y h = let e : f x ≡ y = cc in (x, refl, e)

parts_by : {B C : Type 0} (r : Result Parts RestoreError) (f : Parts → Result B RestoreError)
    (g : B → Result C RestoreError) → loaded_by (loaded_by r f) g ≡ loaded_by r (λ p. loaded_by (f p) g)
parts_by {B} {C} (Ok p) f g = refl
parts_by {B} {C} (Err e) f g = refl

chunks_by : {B C : Type 0} (o : Option (List Chunk)) (f : Parts → Result B RestoreError)
    (g : B → Result C RestoreError) → loaded_by (loaded_by (or_refuse Truncated o)
    (λ cs. loaded_by (parts_of cs) f)) g ≡ loaded_by (loaded_by (or_refuse Truncated o) parts_of)
    (λ p. loaded_by (f p) g)
chunks_by {B} {C} None f g = refl
chunks_by {B} {C} (Some cs) f g = parts_by (parts_of cs) f g

form_by : {B C : Type 0} (r : Result (List ℕ) RestoreError) (f : Parts → Result B RestoreError)
    (g : B → Result C RestoreError)
    → loaded_by (loaded_by r (λ form. loaded_by (or_refuse Truncated (chunks_in form))
    (λ cs. loaded_by (parts_of cs) f))) g ≡ loaded_by r
    (λ form. loaded_by (loaded_by (or_refuse Truncated (chunks_in form)) parts_of) (λ p. loaded_by (f p) g))
form_by {B} {C} (Ok form) f g = chunks_by (chunks_in form) f g
form_by {B} {C} (Err e) f g = refl

-- the whole state that parts say
abbrev state_by : MemoryMap → Parts → Result WholeState RestoreError
state_by m parts =
    if not (is_of_story m.file parts.story) then Err OtherStory else
    loaded_by (or_refuse BadMemory (dynamic_in m parts.memory)) (λ dynamic.
    loaded_by (or_refuse BadStack (frames_read parts.stack)) (λ frames.
    Ok (record { dynamic = dynamic; frames = reverse frames; pc = number_of (bytes_behind 10 3 parts.story) })))

module _ (file : List ℕ) (m : MemoryMap) (s : FrameList) where
  in_steps : restored file m s ≡ loaded_by (form_in file)
      (λ form. loaded_by (loaded_by (or_refuse Truncated (chunks_in form)) parts_of)
      (λ p. loaded_by (state_by m p) (λ w. put_in_place w m s)))
  unfolding restored loaded
  in_steps = form_by (form_in file) (state_by m) (λ w. put_in_place w m s)

  pub no_form : (e : RestoreError) → form_in file ≡ Err e → restored file m s ≡ Err e
  no_form e h = in_steps ∙ rw h refl

  module _ (form : List ℕ) (is_form : form_in file ≡ Ok form) where
    pub no_parts : Err Truncated ≡ loaded_by (or_refuse Truncated (chunks_in form)) parts_of
        → restored file m s ≡ Err Truncated
    no_parts h = in_steps ∙ rw (is_form, ← h) refl

    module _ (p : Parts) (are_parts : Ok p ≡ loaded_by (or_refuse Truncated (chunks_in form)) parts_of) where
      by_parts : restored file m s ≡ loaded_by (state_by m p) (λ w. put_in_place w m s)
      by_parts = in_steps ∙ rw (is_form, ← are_parts) refl

      pub no_story : false ≡ is_of_story m.file p.story → restored file m s ≡ Err OtherStory
      no_story h = by_parts ∙ rw (← h) refl

      module _ (is_story : true ≡ is_of_story m.file p.story) where
        pub no_memory : false ≡ is_some (dynamic_in m p.memory) → restored file m s ≡ Err BadMemory
        no_memory h = by_parts ∙ rw (← is_story, by_none (dynamic_in m p.memory) (sym h)) refl

        module _ (is_memory : true ≡ is_some (dynamic_in m p.memory)) where
          pub no_stack : None ≡ option_map sizes_in (frames_read p.stack) → restored file m s ≡ Err BadStack
          no_stack h =
              let d = by_some (dynamic_in m p.memory) (sym is_memory) in
              by_parts ∙ rw (← is_story, d.1, map_none sizes_in (frames_read p.stack) h) refl

          module _ (f w : ℕ) (sizes : Some (f, w) ≡ option_map sizes_in (frames_read p.stack)) where
            frames : (fs : List Frame) × (frames_read p.stack ≡ Some fs) × (sizes_in fs ≡ (f, w))
            frames = map_some sizes_in (frames_read p.stack) (f, w) sizes

            dynamic : (ds : List ℕ) × (dynamic_in m p.memory ≡ Some ds)
            dynamic = by_some (dynamic_in m p.memory) (sym is_memory)

            long : length frames.0 ≡ f
            long = ap (λ (q : ℕ × ℕ). q.0) frames.2

            wide : sizes_of frames.0 ≡ w
            wide = ap (λ (q : ℕ × ℕ). q.1) frames.2

            state : WholeState
            state =
                record { dynamic = dynamic.0; frames = reverse frames.0; pc = number_of (bytes_behind 10 3 p.story) }

            by_state : restored file m s ≡ put_in_place state m s
            unfolding state
            by_state = by_parts ∙ rw (← is_story, dynamic.1, frames.1) refl

            some_frames : (bs : List ℕ) (o : Option (Frame × List ℕ)) (fs : List Frame) → with_first o ≡ Some fs
                → 0 < length fs
            some_frames bs None fs h = absurd cc
            some_frames bs (Some q) fs h =
                let r = rest_of (each_of first_of_frames q.1) (record first_frame { words = q.0.words }) fs h in
                omega (arith, ap length r.2)

            turned : (fs : List Frame) → 0 < length fs → frames_of (with_frames s fs) ≡ fs
            turned [] h = absurd (omega arith)
            turned (g ∷ gs) h = refl

            all_frames : frames_of (with_frames s (reverse frames.0)) ≡ reverse frames.0
            all_frames =
                let some : 0 < length frames.0 = some_frames p.stack (first_written p.stack) frames.0
                (sym (read_is p.stack) ∙ frames.1) in
                turned (reverse frames.0) (omega (arith, length-reverse frames.0, some))

            bounds_stay : (fs : List Frame) → ((with_frames s fs).most_frames ≡ s.most_frames)
                × ((with_frames s fs).most_words ≡ s.most_words)
            bounds_stay [] = (refl, refl)
            bounds_stay (g ∷ gs) = (refl, refl)

            count_is : length (frames_of (with_frames s (reverse frames.0))) ≡ f
            count_is = ap length all_frames ∙ length-reverse frames.0 ∙ long

            total_is : total_of (with_frames s (reverse frames.0)) ≡ w
            total_is = ap sizes_of all_frames ∙ sizes_reversed frames.0 ∙ wide

            pub many_frames : s.most_frames < f → restored file m s ≡ Err (Limit Frames)
            unfolding put_in_place within_bounds state
            many_frames h =
                let t = with_frames s (reverse frames.0) in
                let b = bounds_stay (reverse frames.0) in
                by_state ∙ rw (is_below t.most_frames (length (frames_of t)) (omega (arith, count_is, b.0, h))) refl

            pub many_words : f ≤ s.most_frames → s.most_words < w → restored file m s ≡ Err (Limit Words)
            unfolding put_in_place within_bounds state
            many_words few h =
                let t = with_frames s (reverse frames.0) in
                let b = bounds_stay (reverse frames.0) in
                by_state ∙ rw (
                  not_below t.most_frames (length (frames_of t)) (omega (arith, count_is, b.0, few)),
                  is_below t.most_words (total_of t) (omega (arith, total_is, b.1, h)),
                ) refl

            pub all_fit : f ≤ s.most_frames → w ≤ s.most_words → CanRestore file m s p
            unfolding put_in_place state
            all_fit few h =
                let t = with_frames s (reverse frames.0) in
                let b = bounds_stay (reverse frames.0) in
                record {
                  dynamic = dynamic.0;
                  frames = frames.0;
                  dynamic_is = dynamic.1;
                  frames_are = frames.1;
                  few_frames = omega (arith, long, few);
                  few_words = omega (arith, wide, h);
                  restored_is =
                      by_state ∙ rw (fits_is t (omega (arith, count_is, b.0, few))
                      (omega (arith, total_is, b.1, h))) refl;
                }
