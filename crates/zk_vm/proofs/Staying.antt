-- Runs stay inside a set of addresses: what is known of each instruction makes each step stay, and so each answer and
-- each move.
use Rattle.std.proofs.Common.{◌≡◌, ◌∙◌, ◌≤◌, ◌+◌, ℕ, Bool, true, false, List, [], ◌∷◌, ◌++◌, length, drop, Option, Some}
use Rattle.std.proofs.Common.{None, Result, Ok, Err, refl, ap, sym, subst, arith}
use Rattle.std.specs.Prelude.{All, if◌then◌else◌}
use Rattle.std.proofs.lemmas.List.{length-append, length-drop, length-take-le}
use Rattle.std.proofs.lemmas.List.Elements.{All-cons, All-head, All-tail, All-take}
use Rattle.zk_mem.specs.declared.fault.Fault.{Fault}
use Rattle.zk_mem.specs.Again.{again, settled}
use Rattle.zk_mem.specs.Map.{MemoryMap}
use Rattle.zk_state.specs.Frames.{Frame, FrameList, with_frames}
use Rattle.zk_code.specs.declared.instr.Instr.{Instr}
use Rattle.zk_code.specs.declared.opcode.Opcode.{Opcode}
use Rattle.zk_code.specs.declared.opcode.Opcode.TheVariants as opcode
use Rattle.zk_code.specs.declared.opcode.Saving.TheVariants.{SaveUndo, RestoreUndo}
use Rattle.zk_code.specs.Reach.{goes_on}
use Rattle.zk_code.specs.Reading.{instr_at}
use Rattle.zk_save.specs.declared.restore.RestoreError.{RestoreError}
use Rattle.zk_state.specs.declared.refusal.Limit.{Limit}
use Rattle.zk_save.specs.Loading.{restored}
use Rattle.zk_save.specs.States.{WholeState, gone_back, memory_back, state_of}
use Rattle.zk_step.specs.declared.state.ending.Ending.{Ending}
use Rattle.zk_step.specs.declared.state.ending.Next.{Next}
use Rattle.zk_step.specs.declared.state.ending.Event.{Event}
use Rattle.zk_step.specs.declared.state.ending.Event.TheVariants as event
use Rattle.zk_step.specs.declared.state.ending.Next.TheVariants as next
use Rattle.zk_step.specs.declared.state.ending.Request.{Request}
use Rattle.zk_step.specs.declared.state.ending.Request.TheVariants as request
use Rattle.zk_step.specs.declared.state.game_state.View.{View}
use Rattle.zk_step.specs.declared.state.game_state.View.TheVariants as view
use Rattle.zk_step.specs.declared.state.game_state.GameState.{GameState}
use Rattle.zk_step.specs.Inputs.{line_answered, character_answered, result_answered}
use Rattle.zk_step.specs.Instructions.{carried_out}
use Rattle.zk_step.specs.Laws.{AsksBy, EndsBy, GoesInto, IsOneStory, KeepsStory, ReturnInto, fixed_parts}
use Rattle.zk_step.specs.Restarts.{windows_closed}
use Rattle.zk_step.specs.Resuming.{resumed}
use Rattle.zk_step.specs.Routing.{Signals, no_signals}
use Rattle.zk_step.specs.Variables.{operands_read}
use Rattle.zk_step.proofs.FixedParts.{Leaves, gives, leaves_after, back_keeps, value_left}
use Rattle.zk_step.proofs.SameStory.{same_base, same_file, same_version}
use Rattle.zk_step.proofs.Sweep.{EndsInto, GoesOnInto, ResumesInto, StaysInside, back_inside, carried_inside}
use Rattle.zk_step.proofs.Sweep.{character_inside, line_inside, result_inside}
use Rattle.zk_step.proofs.Sweep as sweep
use Rattle.zk_vm.specs.declared.waiting.Waiting.{Waiting}
use Rattle.zk_vm.specs.Answers.{Answer, answer_settled, answered, answered_by, codes_of, end_of, file_of, first_code}
use Rattle.zk_vm.specs.Answers.{is_kept}
use Rattle.zk_vm.specs.Answers.{limit_of, none_restored, restored_from, restored_to, transcribed, truth_word}
use Rattle.zk_vm.specs.Inside.{FramesReturn, is_restore}
use Rattle.zk_vm.specs.Log.{Move}
use Rattle.zk_vm.specs.Log.Move.{Gets, Goes}
use Rattle.zk_vm.specs.Sessions.{Session}
use Rattle.zk_vm.specs.Step.{State, Step, asked, back_to, goes_to, is_read, kept_answer, led_to, saved_pc}
use Rattle.zk_vm.specs.Step.{settled as step_settled, step, view_before, waits_by, with_kept}
use Rattle.zk_vm.specs.Step.Step.{Goes as GoesTo, Waits}
use Rattle.zk_step.specs.View.{lines_shown, rows_shown, status_text, viewed, viewed_by}
use Rattle.zk_vm.proofs.Moves.{IsKeptBy}
use Rattle.zk_vm.proofs.OneStep.{step_all}
use Rattle.zk_vm.proofs.Asking.{asks}

-- ---- what the view leaves

-- memory and frames are the same
pub record IsShownIn (w v : GameState) : Type 0 where
  pub memory : v.memory ≡ w.memory
  pub frames : v.frames ≡ w.frames

abbrev ShownBeside : GameState → GameState × Signals → Type 0
ShownBeside w r = IsShownIn w r.0

shown_none : (w : GameState) → IsShownIn w w
shown_none w = record { memory = refl; frames = refl }

shown_lines : (w : GameState) (cs : List ℕ) → IsShownIn w (lines_shown w cs).0
unfolding lines_shown
shown_lines w [] = shown_none w
shown_lines w (c ∷ cs) = record { memory = refl; frames = refl }

shown_view : (v : View) (w : GameState) → Leaves (ShownBeside w) (viewed_by v w)
shown_view view.Plain w = gives (shown_none w)
shown_view view.Upper w =
    leaves_after (status_text w.memory) _
    (λ status. gives (shown_lines w (status ++ rows_shown w.windows 1 w.windows.height)))

shown_before : (event : Event) (w : GameState) → Leaves (ShownBeside w) (view_before event w)
unfolding viewed
shown_before event w = go (is_read event)
  where
    go : (b : Bool) → Leaves (ShownBeside w) (if b then viewed_by w.view w else Ok (w, no_signals))
    go true = shown_view w.view w
    go false = gives (shown_none w)

-- ---- memory that is put back

drop_front : (xs ys : List ℕ) → drop (length xs) (xs ++ ys) ≡ ys
drop_front [] ys = refl
drop_front (x ∷ xs) ys = drop_front xs ys

-- a whole state's memory keeps the story
pub memory_keeps : (u : WholeState) (m : MemoryMap) → KeepsStory m → length u.dynamic ≡ m.static_base
    → KeepsStory (memory_back u m)
memory_keeps u m h size =
    let rest = length-drop (length u.dynamic) m.file in
    let long : length (u.dynamic ++ drop (length u.dynamic) m.file) ≡ length m.file = length-append u.dynamic
    (drop (length u.dynamic) m.file) ∙ omega (arith, rest, size, h.inside) in
    let back : drop (length u.dynamic) (u.dynamic ++ drop (length u.dynamic) m.file) ≡ drop (length u.dynamic)
    m.file = drop_front u.dynamic (drop (length u.dynamic) m.file) in
    back_keeps m (u.dynamic ++ drop (length u.dynamic) m.file) h long
    (subst (λ (n : ℕ). drop n (u.dynamic ++ drop (length u.dynamic) m.file) ≡ drop n m.file) size back)

module _ (m : MemoryMap) (P : ℕ → Type 0) where
  -- a state that is kept is the story's, and goes on inside
  pub record KeptIn (u : WholeState) : Type 0 where
    pub dynamic : length u.dynamic ≡ m.static_base
    pub frames : FramesReturn P u.frames
    pub resumes : ResumesInto P m.version u.pc
    pub after : P (u.pc + 1)

  -- memory keeps the story, and all addresses are inside
  pub record Inside (s : State) : Type 0 where
    pub memory : KeepsStory s.game.memory
    pub story : IsOneStory m s.game.memory
    pub pc : P s.pc
    pub returns : ReturnInto P s.game.frames.current.pc s.game.frames.callers
    pub undo : All KeptIn s.undo

  -- where a step leads is inside, and an instruction that waits goes on inside
  abbrev StepsInto : Step → Type 0
  StepsInto (GoesTo t text) = Inside t
  StepsInto (Waits t w text) = Inside t × GoesOnInto P w.instruction
  StepsInto _ = Unit {0}

  -- what is known of the instruction at a state's program counter: where it may lead, and where a state that it keeps
  -- goes on
  pub record Knows (s : State) (i : Instr) : Type 0 where
    pub ends : (u v : GameState) (vs : List ℕ) (e : Ending) → operands_read s.game i.operands ≡ Ok (u, vs)
        → EndsBy i.opcode vs e → KeepsStory v.memory → IsOneStory m v.memory → EndsInto P v.memory i e
    pub on : goes_on i.opcode ≡ true → GoesOnInto P i
    pub kept : i.opcode ≡ opcode.Saving SaveUndo → ResumesInto P m.version (saved_pc s i) × P (saved_pc s i + 1)

  -- of the same story
  story_after : (a b : MemoryMap) → IsOneStory m a → fixed_parts b ≡ fixed_parts a → IsOneStory m b
  story_after a b h e =
      record {
        version = same_version a b e ∙ h.version;
        base = same_base a b e ∙ h.base;
        file = same_file a b e ∙ h.file;
      }

  made : (v : GameState) (t : State) → IsOneStory m v.memory → StaysInside P v t.game → P t.pc
      → All KeptIn t.undo → Inside t
  made v t story k pc undo =
      record {
        memory = k.inside.memory;
        story = story_after v.memory t.game.memory story k.parts;
        pc = pc;
        returns = k.inside.returns;
        undo = undo;
      }

  abbrev PcInto : GameState → GameState × ℕ → Type 0
  PcInto v x = StaysInside P v x.0 × P x.1

  goes_to_inside : (s : State) (us : List WholeState) (v : GameState) (r : Result (GameState × ℕ) Fault)
      → IsOneStory m v.memory → All KeptIn us → ((x : GameState × ℕ) → r ≡ Ok x → PcInto v x)
      → StepsInto (goes_to s us r)
  goes_to_inside s us v r story all f =
      step_all StepsInto _ r (λ x e. let k = f x e in
      made v (record s { game = x.0; pc = x.1; steps = s.steps + 1; undo = us }) story k.0 k.1 all) (λ g e. tt)

  in_game : (s : State) → Inside s → sweep.IsInside P s.game
  in_game s h = record { memory = h.memory; returns = h.returns }

  -- ---- what an instruction leads to

  waits_inside : (s : State) (i : Instr) (x : Event) (w : GameState) → Inside s → StaysInside P s.game w
      → GoesOnInto P i → StepsInto (waits_by s i x (view_before x w))
  waits_inside s i x w h k on =
      step_all StepsInto _ (view_before x w)
      (λ v e. (shown v (value_left (view_before x w) v (shown_before x w) e), on)) (λ f e. tt)
    where
      shown : (v : GameState × Signals) → ShownBeside w v → Inside (record s { game = v.0 })
      shown v same =
          let stays : StaysInside P s.game v.0 = record {
            inside = record {
              memory = subst KeepsStory (sym same.memory) k.inside.memory;
              returns =
                  subst (λ (f : FrameList). ReturnInto P f.current.pc f.callers) (sym same.frames) k.inside.returns;
            };
            parts = ap fixed_parts same.memory ∙ k.parts;
          } in
          made s.game (record s { game = v.0 }) h.story stays h.pc h.undo

  kept_inside : (s : State) (i : Instr) (w : GameState) → Inside s → Knows s i → StaysInside P s.game w
      → i.opcode ≡ opcode.Saving SaveUndo → All KeptIn (with_kept s i w)
  kept_inside s i w h knows k by =
      let story = story_after s.game.memory w.memory h.story k.parts in
      let base = story.base in
      let keeps = k.inside.memory in
      let long : w.memory.static_base ≤ length w.memory.bytes = omega (arith, keeps.inside, keeps.size) in
      let kept : KeptIn (state_of w.memory w.frames (saved_pc s i)) = record {
        dynamic = length-take-le w.memory.static_base w.memory.bytes long ∙ base;
        frames = k.inside.returns;
        resumes = (knows.kept by).0;
        after = (knows.kept by).1;
      } in
      All-take KeptIn w.memory.setup.undo_states (state_of w.memory w.frames (saved_pc s i) ∷ s.undo)
      (All-cons KeptIn (state_of w.memory w.frames (saved_pc s i)) s.undo kept h.undo)

  frames_put : (f : FrameList) (fs : List Frame) → ReturnInto P f.current.pc f.callers → FramesReturn P fs
      → ReturnInto P (with_frames f fs).current.pc (with_frames f fs).callers
  frames_put f [] h k = h
  frames_put f (x ∷ xs) h k = k

  back_story : (u : WholeState) (n : MemoryMap) → IsOneStory m n → IsOneStory m (memory_back u n)
  unfolding again settled
  back_story u n h = record { version = h.version; base = h.base; file = h.file }

  -- what was put back goes on
  put_back : (s : State) (us : List WholeState) (n : MemoryMap) (f : FrameList) (w : GameState) (pc : ℕ)
      → KeepsStory n → IsOneStory m n → ReturnInto P f.current.pc f.callers → ResumesInto P m.version pc
      → w.memory ≡ n → w.frames ≡ f → All KeptIn us → StepsInto (goes_to s us (resumed w pc))
  put_back s us n f w pc keeps story returns into same frames all =
      let inside : sweep.IsInside P w = record {
        memory = subst KeepsStory (sym same) keeps;
        returns = subst (λ (g : FrameList). ReturnInto P g.current.pc g.callers) (sym frames) returns;
      } in
      let here : IsOneStory m w.memory = subst (IsOneStory m) (sym same) story in
      let version = here.version in
      goes_to_inside s us w (resumed w pc) here all
      (λ x e. back_inside P w inside pc x (subst (λ (v : ℕ). ResumesInto P v pc) (sym version) into) e)

  back_to_inside : (s : State) (i : Instr) (w : GameState) (us : List WholeState) → Inside s
      → StaysInside P s.game w → GoesOnInto P i → All KeptIn us
      → StepsInto (back_to s i w (gone_back us w.memory w.frames))
  unfolding gone_back
  back_to_inside s i w [] h k on all =
      goes_to_inside s s.undo w (result_answered w i 0 false) (story_after s.game.memory w.memory h.story k.parts)
      h.undo (λ x e. result_inside P w k.inside i 0 false x on e)
  back_to_inside s i w (u ∷ us) h k on all =
      let kept = All-head KeptIn u us all in
      let story = story_after s.game.memory w.memory h.story k.parts in
      let base = story.base in
      put_back s us (memory_back u w.memory) (with_frames w.frames u.frames)
      (record w { memory = memory_back u w.memory; frames = with_frames w.frames u.frames }) u.pc
      (memory_keeps u w.memory k.inside.memory (kept.dynamic ∙ sym base)) (back_story u w.memory story)
      (frames_put w.frames u.frames k.inside.returns kept.frames) kept.resumes refl refl (All-tail KeptIn u us all)

  by_opcode : (o q : Opcode) → goes_on q ≡ true → o ≡ q → goes_on o ≡ true
  by_opcode o q on e = ap goes_on e ∙ on

  asked_inside : (s : State) (i : Instr) (w : GameState) (x : Request) → Inside s → Knows s i
      → StaysInside P s.game w → AsksBy i.opcode x → StepsInto (asked s i w x)
  unfolding goes_on
  asked_inside s i w (request.Answer event) h knows k by = waits_inside s i event w h k (knows.on by)
  asked_inside s i w request.SaveUndo h knows k by =
      goes_to_inside s (with_kept s i w) w (result_answered w i (kept_answer w.memory.setup.undo_states) true)
      (story_after s.game.memory w.memory h.story k.parts) (kept_inside s i w h knows k by)
      (λ x e. result_inside P w k.inside i (kept_answer w.memory.setup.undo_states) true x
      (knows.on (by_opcode i.opcode (opcode.Saving SaveUndo) refl by)) e)
  asked_inside s i w request.RestoreUndo h knows k by =
      back_to_inside s i w s.undo h k (knows.on (by_opcode i.opcode (opcode.Saving RestoreUndo) refl by)) h.undo
  asked_inside s i w request.Quit h knows k by = tt

  led_inside : (s : State) (i : Instr) (w : GameState) (n : Next) (text : Signals) → Inside s → Knows s i
      → carried_out s.game i ≡ Ok (w, (n, text)) → StaysInside P s.game w → GoesInto P n
      → StepsInto (led_to s i w text n)
  led_inside s i w (next.At pc) text h knows e k into =
      made s.game (record s { game = w; pc = pc; steps = s.steps + 1 }) h.story k into h.undo
  led_inside s i w (next.Asks x) text h knows e k into = asked_inside s i w x h knows k (asks s.game i w x text e).by

  settled_inside : (s : State) (i : Instr) → Inside s → Knows s i → StepsInto (step_settled s i (carried_out s.game i))
  settled_inside s i h knows = step_all StepsInto _ (carried_out s.game i) (λ r e.
      let k = carried_inside P s.game (in_game s h) i r
      (λ u v vs x taken by l. knows.ends u v vs x taken by l.inside.memory
      (story_after s.game.memory v.memory h.story l.parts)) e in
      led_inside s i r.0 r.1.0 r.1.1 h knows e k.0 k.1) (λ f e. tt)

  step_inside : (s : State) → Inside s → ((i : Instr) → instr_at s.game.memory s.pc ≡ Ok i → Knows s i)
      → StepsInto (step s)
  unfolding step
  step_inside s h knows =
      step_all StepsInto _ (instr_at s.game.memory s.pc) (λ i e. settled_inside s i h (knows i e)) (λ f e. tt)

  -- ---- what an answer leads to

  -- a saved game that is restored is the story's, and goes on inside
  pub record BackIn (n : MemoryMap) (f : FrameList) (pc : ℕ) : Type 0 where
    pub memory : KeepsStory n
    pub story : IsOneStory m n
    pub returns : ReturnInto P f.current.pc f.callers
    pub resumes : ResumesInto P m.version pc

  -- so it is where an answer restores one
  abbrev pub FilesInto : State → Waiting → Answer → Type 0
  FilesInto s w a = (file : List ℕ) (n : MemoryMap) (f : FrameList) (pc : ℕ) → is_restore w.wait ≡ true
      → file_of a ≡ Some file → restored file s.game.memory s.game.frames ≡ Ok (n, f, pc) → BackIn n f pc

  answer_inside : (s : State) (due : List ℕ) (r : Result (GameState × ℕ) Fault) → Inside s
      → ((x : GameState × ℕ) → r ≡ Ok x → PcInto s.game x) → StepsInto (answer_settled s due r)
  answer_inside s due r h f =
      step_all StepsInto _ r (λ x e. let k = f x e in
      made s.game (record s { game = x.0; pc = x.1; steps = 0; reads = s.reads + 1; due = due }) h.story k.0 k.1
      h.undo) (λ g e. tt)

  result_to : (s : State) (i : Instr) (x : ℕ) (truth : Bool) → Inside s → GoesOnInto P i
      → StepsInto (goes_to s s.undo (result_answered s.game i x truth))
  result_to s i x truth h on = goes_to_inside s s.undo s.game (result_answered s.game i x truth) h.story h.undo
      (λ r e. result_inside P s.game (in_game s h) i x truth r on e)

  none_inside : (s : State) (i : Instr) (l : Option Limit) → Inside s → GoesOnInto P i → StepsInto (none_restored s i l)
  none_inside s i None h on = result_to s i 0 false h on
  none_inside s i (Some l) h on = tt

  restored_inside : (s : State) (i : Instr) (r : Result (MemoryMap × FrameList × ℕ) RestoreError) → Inside s
      → GoesOnInto P i → ((n : MemoryMap) (f : FrameList) (pc : ℕ) → r ≡ Ok (n, f, pc) → BackIn n f pc)
      → StepsInto (restored_to s i r)
  unfolding windows_closed
  restored_inside s i (Ok (n, f, pc)) h on back =
      let b = back n f pc refl in
      put_back s s.undo n f (windows_closed (record s.game { memory = n; frames = f })) pc b.memory b.story
      b.returns b.resumes refl refl h.undo
  restored_inside s i (Err e) h on back = none_inside s i (limit_of e) h on

  from_inside : (s : State) (i : Instr) (o : Option (List ℕ)) → Inside s → GoesOnInto P i
      → ((file : List ℕ) (n : MemoryMap) (f : FrameList) (pc : ℕ) → o ≡ Some file
      → restored file s.game.memory s.game.frames ≡ Ok (n, f, pc) → BackIn n f pc) → StepsInto (restored_from s i o)
  from_inside s i None h on back = none_inside s i None h on
  from_inside s i (Some file) h on back =
      restored_inside s i (restored file s.game.memory s.game.frames) h on (λ n f pc e. back file n f pc refl e)

  by_inside : (s : State) (i : Instr) (x : Event) (a : Answer) → Inside s → GoesOnInto P i
      → FilesInto s (record { wait = x; instruction = i }) a → StepsInto (answered_by s i x a)
  by_inside s i (event.Line text parse) a h on files =
      answer_inside s (transcribed s.game (event.Line text parse) (codes_of a) (end_of a))
      (line_answered s.game i text parse (codes_of a) (end_of a)) h
      (λ r e. line_inside P s.game (in_game s h) i text parse (codes_of a) (end_of a) r on e)
  by_inside s i event.Char a h on files =
      answer_inside s [] (character_answered s.game i (first_code (codes_of a))) h
      (λ r e. character_inside P s.game (in_game s h) i (first_code (codes_of a)) r on e)
  by_inside s i event.Save a h on files = result_to s i (truth_word (is_kept a)) (is_kept a) h on
  by_inside s i event.Restore a h on files =
      from_inside s i (file_of a) h on (λ file n f pc there e. files file n f pc refl there e)

  answered_inside : (s : State) (w : Waiting) (a : Answer) → Inside s → GoesOnInto P w.instruction
      → FilesInto s w a → StepsInto (answered s w a)
  unfolding answered
  answered_inside s w a h on files = by_inside s w.instruction w.wait a h on files

  -- ---- each move

  -- an instruction that waits goes on inside
  abbrev WaitsInto : Option Waiting → Type 0
  WaitsInto None = Unit {0}
  WaitsInto (Some w) = GoesOnInto P w.instruction

  -- so is a machine
  pub record RunsInside (s : Session) : Type 0 where
    pub state : Inside s.state
    pub waits : WaitsInto s.waiting

  -- where it is known of each instruction that a move carries out, and of each saved game that one restores, a move
  -- stays inside
  pub each_inside : (s : Session) (n : Move) → ((i : Instr) → s.stopped ≡ None → s.waiting ≡ None
      → s.state.due ≡ [] → n ≡ Goes → instr_at s.state.game.memory s.state.pc ≡ Ok i → Knows s.state i)
      → ((w : Waiting) (a : Answer) → s.stopped ≡ None → s.waiting ≡ Some w → n ≡ Gets a → FilesInto s.state w a)
      → RunsInside s → IsKeptBy RunsInside s n
  each_inside s n knows files h = record {
    silent =
        λ free. record {
          state = record {
            memory = h.state.memory;
            story = h.state.story;
            pc = h.state.pc;
            returns = h.state.returns;
            undo = h.state.undo;
          };
          waits = h.waits;
        };
    part = λ left. record { state = h.state; waits = h.waits };
    goes =
        λ t text u runs free silent is few e inside. record {
          state = subst StepsInto e
              (step_inside s.state h.state (λ i d. knows i runs free silent is d));
          waits = h.waits;
        };
    waits = λ t w text runs free silent is few e fits.
        let there = subst StepsInto e (step_inside s.state h.state (λ i d. knows i runs free silent is d)) in
        record { state = there.0; waits = there.1 };
    gets =
        λ w a t text u runs there is e inside. record {
          state = subst StepsInto e
              (answered_inside s.state w a h.state (subst WaitsInto there h.waits) (files w a runs there is));
          waits = tt;
        };
  }
