-- Memory that a saved game restores keeps the story.
use Rattle.std.proofs.Common.{◌≡◌, ◌∙◌, ◌≤◌, ◌-◌, ℕ, Bool, true, false, not, List, ◌++◌, length, take, replicate}
use Rattle.std.proofs.Common.{reverse, Option, Some, None, Result, Ok, Err, refl, ap, sym, subst, arith, nat_le}
use Rattle.std.specs.Prelude.{◌==◌, if◌then◌else◌, option_map, codes}
use Rattle.std.specs.Str.{bytes_eq}
use Rattle.std.proofs.lemmas.Bool.Decides.{nat_tests}
use Rattle.std.proofs.lemmas.List.{length-append, length-replicate, length-take-le}
use Rattle.zk_mem.specs.Again.{again, settled}
use Rattle.zk_mem.specs.Map.{MemoryMap}
use Rattle.zk_state.specs.Frames.{Frame, FrameList, within_bounds}
use Rattle.zk_state.specs.Frames as frames
use Rattle.zk_save.specs.declared.restore.RestoreError.{RestoreError}
use Rattle.zk_save.specs.declared.restore.RestoreError.TheVariants.{Truncated, OtherStory, BadMemory, BadStack}
use Rattle.zk_save.specs.Reading.{bytes_behind, chunks_in, frames_read, number_of}
use Rattle.zk_save.specs.Loading.{Parts, dynamic_in, form_in, frames_fit, is_of_story, parts_of, loaded, loaded_by}
use Rattle.zk_save.specs.Loading.{or_refuse, put_in_place, restored}
use Rattle.zk_save.specs.Quetzal.{Chunk}
use Rattle.zk_save.specs.States.{WholeState, memory_back}
use Rattle.zk_save.specs.Unpacking.{filled, given, unpacked, xored}
use Rattle.zk_save.proofs.Packs.{length-xored}
use Rattle.zk_step.specs.Laws.{IsOneStory, KeepsStory}
use Rattle.zk_vm.proofs.Staying.{memory_keeps}

-- the value, where there is one, has a property
data Yields {A : Type 0} (P : A → Type 0) : Result A RestoreError → Type 0 where
  yields : {x : A} → P x → Yields P (Ok x)
  refuses : {e : RestoreError} → Yields P (Err e)

yields_by : {A B : Type 0} {P : B → Type 0} (r : Result A RestoreError) (f : A → Result B RestoreError)
    → ((x : A) → r ≡ Ok x → Yields P (f x)) → Yields P (loaded_by r f)
yields_by {A} {B} {P} (Ok x) f c = c x refl
yields_by {A} {B} {P} (Err e) f c = refuses

yields_unless : {A : Type 0} {P : A → Type 0} (b : Bool) (e : RestoreError) (r : Result A RestoreError)
    → Yields P r → Yields P (if b then Err e else r)
yields_unless {A} {P} true e r h = refuses
yields_unless {A} {P} false e r h = h

same_value : {A : Type 0} (x y : A) → ◌≡◌ {A = Result A RestoreError} (Ok x) (Ok y) → x ≡ y
same_value {A} x y h = cc

value_of : {A : Type 0} {P : A → Type 0} (r : Result A RestoreError) (x : A) → Yields P r → r ≡ Ok x → P x
value_of {A} {P} _ y (yields {x} p) h = subst P (same_value x y h) p
value_of {A} {P} _ x refuses h = absurd cc

there_of : {A : Type 0} (e : RestoreError) (o : Option A) (x : A) → or_refuse e o ≡ Ok x → o ≡ Some x
there_of {A} e None x h = absurd cc
there_of {A} e (Some y) x h = cc

-- ---- dynamic memory has its length

filled_by : (b : Bool) (n : ℕ) (xs ys : List ℕ) → nat_le (length xs) n ≡ b
    → (if b then Some (xs ++ replicate (n - length xs) 0) else None) ≡ Some ys → length ys ≡ n
filled_by true n xs ys test h =
    let same : xs ++ replicate (n - length xs) 0 ≡ ys = cc in
    let few : length xs ≤ n = grind (arith, nat_tests) in
    let more = length-replicate {A = ℕ} (n - length xs) 0 in
    sym (ap length same) ∙ length-append xs (replicate (n - length xs) 0) ∙ omega (arith, few, more)
filled_by false n xs ys test h = absurd cc

unpacked_length : (n : ℕ) (o : Option (List ℕ)) (ys : List ℕ) → filled n o ≡ Some ys → length ys ≡ n
unpacked_length n None ys h = absurd cc
unpacked_length n (Some xs) ys h = filled_by (nat_le (length xs) n) n xs ys refl h

turned_length : (file : List ℕ) (n : ℕ) (o : Option (List ℕ)) (ys : List ℕ) → n ≤ length file
    → ((xs : List ℕ) → o ≡ Some xs → length xs ≡ n) → option_map (λ ds. xored (take n file) ds) o ≡ Some ys
    → length ys ≡ n
turned_length file n None ys le size h = absurd cc
turned_length file n (Some xs) ys le size h =
    let same : xored (take n file) xs ≡ ys = cc in
    let front = length-take-le n file le in
    let back = size xs refl in
    sym (ap length same) ∙ length-xored (take n file) xs (omega (arith, front, back)) ∙ front

plain_length : (b : Bool) (n : ℕ) (content ys : List ℕ) → (length content == n) ≡ b
    → (if b then Some content else None) ≡ Some ys → length ys ≡ n
plain_length true n content ys test h = let same : content ≡ ys = cc in
    let long : length content ≡ n = grind (arith, nat_tests) in sym (ap length same) ∙ long
plain_length false n content ys test h = absurd cc

either_length : (b : Bool) (m : MemoryMap) (c : Chunk) (ys : List ℕ) → m.static_base ≤ length m.file
    → (if b then (if length c.content == m.static_base then Some c.content else None) else option_map
    (λ ds. xored (take m.static_base m.file) ds) (unpacked m.static_base c.content)) ≡ Some ys
    → length ys ≡ m.static_base
unfolding unpacked
either_length true m c ys le h = plain_length (length c.content == m.static_base) m.static_base c.content ys refl h
either_length false m c ys le h = turned_length m.file m.static_base (unpacked m.static_base c.content) ys le
    (λ xs e. unpacked_length m.static_base (given c.content) xs e) h

dynamic_length : (m : MemoryMap) (c : Chunk) (ys : List ℕ) → m.static_base ≤ length m.file
    → dynamic_in m c ≡ Some ys → length ys ≡ m.static_base
unfolding dynamic_in
dynamic_length m c ys le h = either_length (bytes_eq c.name (codes "UMem")) m c ys le h

abbrev HasLength : MemoryMap → WholeState → Type 0
HasLength m w = length w.dynamic ≡ m.static_base

-- the parts of loading, the last first
abbrev with_frames : Parts → List ℕ → List Frame → Result WholeState RestoreError
with_frames parts dynamic frames =
    Ok (record { dynamic = dynamic; frames = reverse frames; pc = number_of (bytes_behind 10 3 parts.story) })

abbrev with_dynamic : Parts → List ℕ → Result WholeState RestoreError
with_dynamic parts dynamic = loaded_by (or_refuse BadStack (frames_read parts.stack)) (with_frames parts dynamic)

abbrev with_memory : MemoryMap → Parts → Result WholeState RestoreError
with_memory m parts = loaded_by (or_refuse BadMemory (dynamic_in m parts.memory)) (with_dynamic parts)

abbrev with_parts : MemoryMap → Parts → Result WholeState RestoreError
with_parts m parts = if not (is_of_story m.file parts.story) then Err OtherStory else with_memory m parts

abbrev with_chunks : MemoryMap → List Chunk → Result WholeState RestoreError
with_chunks m chunks = loaded_by (parts_of chunks) (with_parts m)

abbrev with_form : MemoryMap → List ℕ → Result WholeState RestoreError
with_form m form = loaded_by (or_refuse Truncated (chunks_in form)) (with_chunks m)

loaded_length : (m : MemoryMap) (file : List ℕ) → m.static_base ≤ length m.file → Yields (HasLength m) (loaded m file)
unfolding loaded
loaded_length m file le =
    yields_by (form_in file) (with_form m) (λ form a. yields_by (or_refuse Truncated (chunks_in form))
    (with_chunks m) (λ chunks b. yields_by (parts_of chunks) (with_parts m)
    (λ parts c. yields_unless (not (is_of_story m.file parts.story)) OtherStory (with_memory m parts)
    (yields_by (or_refuse BadMemory (dynamic_in m parts.memory)) (with_dynamic parts)
    (λ dynamic d. yields_by (or_refuse BadStack (frames_read parts.stack)) (with_frames parts dynamic)
    (λ frames e. yields (dynamic_length m parts.memory dynamic le
    (there_of BadMemory (dynamic_in m parts.memory) dynamic d))))))))

-- ---- what is restored

back_story : (u : WholeState) (m : MemoryMap) → IsOneStory m (memory_back u m)
unfolding again settled
back_story u m = record { version = refl; base = refl; file = refl }

abbrev KeepsIt : MemoryMap → MemoryMap × FrameList × ℕ → Type 0
KeepsIt m r = KeepsStory r.0 × IsOneStory m r.0

restored_keeps : (file : List ℕ) (m : MemoryMap) (f : FrameList) → KeepsStory m → Yields (KeepsIt m) (restored file m f)
unfolding restored put_in_place
restored_keeps file m f h =
    yields_by (loaded m file) (λ w. put_in_place w m f)
    (λ w e. yields_by (frames_fit (within_bounds (frames.with_frames f w.frames)))
    (λ g. Ok (memory_back w m, g, w.pc))
    (λ g fit. yields (
      memory_keeps w m h (value_of (loaded m file) w (loaded_length m file h.inside) e),
      back_story w m,
    )))

pub loaded_keeps : (file : List ℕ) (m : MemoryMap) (f : FrameList) (n : MemoryMap) (g : FrameList) (pc : ℕ)
    → KeepsStory m → restored file m f ≡ Ok (n, g, pc) → KeepsStory n × IsOneStory m n
loaded_keeps file m f n g pc h e = value_of (restored file m f) (n, g, pc) (restored_keeps file m f h) e
