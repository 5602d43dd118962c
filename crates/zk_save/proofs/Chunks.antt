-- Chunks one after the other.
use Rattle.std.specs.Prelude.{nat_lt, option_map, if◌then◌else◌, ◌||◌, codes, option_copied}
use Rattle.std.specs.Option.{option_or}
use Rattle.std.specs.Str.{bytes_eq}
use Rattle.std.proofs.Common.{◌≡◌, ◌∙◌, ℕ, ◌+◌, ◌%◌, ◌<◌, ◌≤◌, Bool, true, false, List, [], ◌∷◌, length, take, drop}
use Rattle.std.proofs.Common.{Option, Some, None, Result, Ok, Err, refl, ap, sym, arith, length-drop, Bor}
use Rattle.std.proofs.lemmas.Bool.Decides.{nat_tests}
use Rattle.std.proofs.lemmas.Slice.Eq.{bytes_eq-Decides}
use Rattle.zk_save.specs.Quetzal.{Chunk}
use Rattle.zk_save.specs.Reading.{number_of, bytes_behind, then_rest, chunk_of, first_chunk, each_up_to, chunks_in}
use Rattle.zk_save.specs.Reading.{content_of}
use Rattle.zk_save.specs.Loading.{Parts, or_refuse, loaded_by, story_part, memory_chunk, parts_of}
use Rattle.zk_save.specs.declared.restore.RestoreError.{RestoreError}
use Rattle.zk_save.specs.declared.restore.RestoreError.TheVariants.{Truncated}
use Rattle.zk_save.proofs.Cuts.{is_below, not_below}
use Rattle.zk_save.proofs.Walks.{each_step, each_stop}
use Rattle.zk_save.specs.Counted.{Noted, first_of, noted, none_noted, chunk_seen, chunk_cut}
use Rattle.zk_save.specs.declared.reading.ChunkView.{ChunkView}

-- a first chunk, cut off its bytes
pub record IsCut (bs : List ℕ) (n : ℕ) (p : Chunk × List ℕ) : Type 0 where
  pub head : 8 ≤ length bs
  pub fits : 8 + n ≤ length bs
  pub parts : p ≡ (record { name = take 4 bs; content = bytes_behind 8 n bs }, drop (8 + n + n % 2) bs)

cut_by : (b : Bool) (n : ℕ) (bs : List ℕ) (p : Chunk × List ℕ) → 8 ≤ length bs → nat_lt (length bs) (8 + n) ≡ b
    → (if b then None else Some (
      record { name = take 4 bs; content = bytes_behind 8 n bs },
      drop (8 + n + n % 2) bs,
    )) ≡ Some p → IsCut bs n p
cut_by true n bs p le e h = absurd cc
cut_by false n bs p le e h = record { head = le; fits = grind (arith, nat_tests); parts = cc }

head_by : (b : Bool) (bs : List ℕ) (p : Chunk × List ℕ) → nat_lt (length bs) 8 ≡ b
    → (if b then None else chunk_of (number_of (bytes_behind 4 4 bs)) bs) ≡ Some p
    → IsCut bs (number_of (bytes_behind 4 4 bs)) p
head_by true bs p e h = absurd cc
head_by false bs p e h = let n : ℕ = number_of (bytes_behind 4 4 bs) in
    cut_by (nat_lt (length bs) (8 + n)) n bs p (grind (arith, nat_tests)) refl h

pub first_is : (bs : List ℕ) (p : Chunk × List ℕ) → first_chunk bs ≡ Some p
    → IsCut bs (number_of (bytes_behind 4 4 bs)) p
unfolding first_chunk
first_is bs p h = head_by (nat_lt (length bs) 8) bs p refl h

pub first_shorter : (bs : List ℕ) (p : Chunk × List ℕ) → first_chunk bs ≡ Some p → length p.1 < length bs
first_shorter bs p h =
    let is : IsCut bs (number_of (bytes_behind 4 4 bs)) p = first_is bs p h in
    let n : ℕ = number_of (bytes_behind 4 4 bs) in
    omega (arith, ap (λ (q : Chunk × List ℕ). length q.1) is.parts, length-drop (8 + n + n % 2) bs, is.head)

first_none : first_chunk [] ≡ None
unfolding first_chunk
first_none = refl

pub chunks_none : chunks_in [] ≡ Some []
unfolding chunks_in each_up_to
chunks_none = refl

pub chunks_step : (bs : List ℕ) (p : Chunk × List ℕ) → first_chunk bs ≡ Some p
    → chunks_in bs ≡ then_rest p.0 (chunks_in p.1)
unfolding chunks_in
chunks_step bs p h = each_step first_chunk first_none first_shorter bs p h

pub chunks_stop : (bs : List ℕ) → 0 < length bs → first_chunk bs ≡ None → chunks_in bs ≡ None
unfolding chunks_in
chunks_stop bs lt h = each_stop first_chunk first_none first_shorter bs lt h

-- ---- what is found on the way

noted_rest : (m n : Noted) (c : Chunk) (o : Option (List Chunk))
    → ((cs : List Chunk) → noted n cs ≡ noted m (c ∷ cs)) → option_map (noted n) o ≡ option_map (noted m)
    (then_rest c o)
noted_rest m n c None h = refl
noted_rest m n c (Some cs) h = ap (λ x. Some x) (h cs)

-- a chunk more is noted
pub find_step : (whole : Option Noted) (m n : Noted) (bs : List ℕ) (p : Chunk × List ℕ) → Some p ≡ first_chunk bs
    → ((cs : List Chunk) → noted n cs ≡ noted m (p.0 ∷ cs))
    → option_map (noted m) (chunks_in bs) ≡ whole → option_map (noted n) (chunks_in p.1) ≡ whole
find_step whole m n bs p e h all =
    noted_rest m n p.0 (chunks_in p.1) h ∙ ap (option_map (noted m)) (sym (chunks_step bs p (sym e))) ∙ all

pub find_none : (whole : Option Noted) (m : Noted) (bs : List ℕ) → 0 < length bs → None ≡ first_chunk bs
    → option_map (noted m) (chunks_in bs) ≡ whole → None ≡ whole
find_none whole m bs lt e all = ap (option_map (noted m)) (sym (chunks_stop bs lt (sym e))) ∙ all

first_alone : {A : Type 0} (o : Option A) → first_of o None ≡ o
first_alone {A} None = refl
first_alone {A} (Some x) = refl

pub noted_none : (m : Noted) → noted m [] ≡ m
unfolding noted content_of memory_chunk
noted_none m = rw (first_alone m.story, first_alone m.memory, first_alone m.stack) refl

pub find_end : (whole : Option Noted) (m : Noted) (bs : List ℕ) → length bs ≡ 0
    → option_map (noted m) (chunks_in bs) ≡ whole → Some m ≡ whole
find_end whole m [] e all = ap (λ x. Some x) (sym (noted_none m)) ∙ ap (option_map (noted m)) (sym chunks_none) ∙ all
find_end whole m (b ∷ bs) e all = absurd (omega arith)

-- ---- a chunk is noted

pub same_name : (a b : List ℕ) → bytes_eq a b ≡ true → a ≡ b
same_name a b h = let d = bytes_eq-Decides a b in d.0 h

first_stays : {A : Type 0} (o p : Option A) (x : A) → first_of (first_of o (Some x)) p ≡ first_of o (Some x)
first_stays {A} None p x = refl
first_stays {A} (Some y) p x = refl

pub story_noted : (a : Option (List ℕ)) (b : Option Chunk) (d : Option (List ℕ)) (name content : List ℕ)
    (cs : List Chunk) → bytes_eq name (codes "IFhd") ≡ true
    → noted (record { story = first_of a (Some content); memory = b; stack = d }) cs ≡ noted
    (record { story = a; memory = b; stack = d }) (chunk_seen name content ∷ cs)
unfolding noted content_of memory_chunk
story_noted a b d name content cs e =
    rw (same_name name (codes "IFhd") e, first_stays a (content_of (codes "IFhd") cs) content) refl

pub stack_noted : (a : Option (List ℕ)) (b : Option Chunk) (d : Option (List ℕ)) (name content : List ℕ)
    (cs : List Chunk) → bytes_eq name (codes "Stks") ≡ true
    → noted (record { story = a; memory = b; stack = first_of d (Some content) }) cs ≡ noted
    (record { story = a; memory = b; stack = d }) (chunk_seen name content ∷ cs)
unfolding noted content_of memory_chunk
stack_noted a b d name content cs e =
    rw (same_name name (codes "Stks") e, first_stays d (content_of (codes "Stks") cs) content) refl

memory_by : (packed plain : Bool) (a : Option (List ℕ)) (b : Option Chunk) (d : Option (List ℕ))
    (name content : List ℕ) (cs : List Chunk) → bytes_eq name (codes "CMem") ≡ packed
    → bytes_eq name (codes "UMem") ≡ plain → (packed || plain) ≡ true
    → noted (record { story = a; memory = first_of b (Some (chunk_seen name content)); stack = d }) cs ≡ noted
    (record { story = a; memory = b; stack = d }) (chunk_seen name content ∷ cs)
unfolding noted content_of memory_chunk
memory_by true plain a b d name content cs e f h =
    rw (same_name name (codes "CMem") e, first_stays b (memory_chunk cs) (chunk_seen (codes "CMem") content)) refl
memory_by false true a b d name content cs e f h =
    rw (same_name name (codes "UMem") f, first_stays b (memory_chunk cs) (chunk_seen (codes "UMem") content)) refl
memory_by false false a b d name content cs e f h = absurd cc

pub memory_noted : (a : Option (List ℕ)) (b : Option Chunk) (d : Option (List ℕ)) (name content : List ℕ)
    (cs : List Chunk) → (bytes_eq name (codes "CMem") || bytes_eq name (codes "UMem")) ≡ true
    → noted (record { story = a; memory = first_of b (Some (chunk_seen name content)); stack = d }) cs ≡ noted
    (record { story = a; memory = b; stack = d }) (chunk_seen name content ∷ cs)
memory_noted a b d name content cs e =
    memory_by (bytes_eq name (codes "CMem")) (bytes_eq name (codes "UMem")) a b d name content cs refl refl e

pub other_noted : (n : Noted) (name content : List ℕ) (cs : List Chunk) → bytes_eq name (codes "IFhd") ≡ false
    → (bytes_eq name (codes "CMem") || bytes_eq name (codes "UMem")) ≡ false → bytes_eq name (codes "Stks") ≡ false
    → noted n cs ≡ noted n (chunk_seen name content ∷ cs)
unfolding noted content_of memory_chunk
other_noted n name content cs e f g = rw (e, f, g) refl

pub copied_or : (o : Option (Bor (List ℕ))) (b : Bor (List ℕ)) → option_copied (option_or o (Some b)) ≡ first_of
    (option_copied o) (Some b.now)
copied_or None b = refl
copied_or (Some c) b = refl

pub cut_or : (o : Option ChunkView) (c : ChunkView) → option_map chunk_cut (option_or o (Some c)) ≡ first_of
    (option_map chunk_cut o) (Some (chunk_cut c))
cut_or None c = refl
cut_or (Some d) c = refl

-- ---- the parts

pub none_of_some : {A : Type 0} (o : Option A) → ((x : A) → o ≡ Some x → ⊥) → o ≡ None
none_of_some {A} None h = refl
none_of_some {A} (Some x) h = absurd (h x refl)

abbrev parts_from : Option (List ℕ) → Option Chunk → Option (List ℕ) → Result Parts RestoreError
parts_from a b d =
    loaded_by (or_refuse Truncated a) (λ content.
    loaded_by (or_refuse Truncated (story_part content)) (λ story.
    loaded_by (or_refuse Truncated b) (λ memory.
    loaded_by (or_refuse Truncated d) (λ stack.
    Ok (record { story = story; memory = memory; stack = stack })))))

parts_by : (n : Noted) (o : Option (List Chunk)) → Some n ≡ option_map (noted none_noted) o
    → loaded_by (or_refuse Truncated o) parts_of ≡ parts_from n.story n.memory n.stack
unfolding noted parts_of content_of memory_chunk
parts_by n None h = absurd cc
parts_by n (Some cs) h =
    let e : n ≡ noted none_noted cs = cc in
    rw e refl

no_chunks : (o : Option (List Chunk)) → None ≡ option_map (noted none_noted) o
    → Err Truncated ≡ loaded_by (or_refuse Truncated o) parts_of
no_chunks None h = refl
no_chunks (Some cs) h = absurd cc

module _ (form : List ℕ) where
  abbrev whole : Result Parts RestoreError
  whole = loaded_by (or_refuse Truncated (chunks_in form)) parts_of

  pub parts_none : None ≡ option_map (noted none_noted) (chunks_in form) → Err Truncated ≡ whole
  parts_none h = no_chunks (chunks_in form) h

  pub parts_no_story : (n : Noted) → Some n ≡ option_map (noted none_noted) (chunks_in form) → n.story ≡ None
      → Err Truncated ≡ whole
  parts_no_story n h e =
      sym (parts_by n (chunks_in form) h ∙ ap (λ (a : Option (List ℕ)). parts_from a n.memory n.stack) e)

  pub parts_short : (n : Noted) (a : List ℕ) → Some n ≡ option_map (noted none_noted) (chunks_in form)
      → n.story ≡ Some a → length a < 13 → Err Truncated ≡ whole
  parts_short n a h e short = sym (parts_by n (chunks_in form) h ∙ rw (e, is_below (length a) 13 short) refl)

  pub parts_no_memory : (n : Noted) (a : List ℕ) → Some n ≡ option_map (noted none_noted) (chunks_in form)
      → n.story ≡ Some a → 13 ≤ length a → n.memory ≡ None → Err Truncated ≡ whole
  parts_no_memory n a h e long f = sym (parts_by n (chunks_in form) h ∙ rw (e, not_below (length a) 13 long, f) refl)

  pub parts_no_stack : (n : Noted) (a : List ℕ) (b : Chunk) → Some n ≡ option_map (noted none_noted)
      (chunks_in form) → n.story ≡ Some a → 13 ≤ length a → n.memory ≡ Some b → n.stack ≡ None → Err Truncated ≡ whole
  parts_no_stack n a b h e long f g =
      sym (parts_by n (chunks_in form) h ∙ rw (e, not_below (length a) 13 long, f, g) refl)

  pub parts_all : (n : Noted) (a : List ℕ) (b : Chunk) (d : List ℕ)
      → Some n ≡ option_map (noted none_noted) (chunks_in form) → n.story ≡ Some a → 13 ≤ length a
      → n.memory ≡ Some b → n.stack ≡ Some d → Ok (record { story = a; memory = b; stack = d }) ≡ whole
  parts_all n a b d h e long f g = sym (parts_by n (chunks_in form) h ∙ rw (e, not_below (length a) 13 long, f, g) refl)

pub ruleset of_find = (find_none, find_step, find_end)
