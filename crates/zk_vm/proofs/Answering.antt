-- A machine that waits is answered.
use Rattle.std.proofs.Common.{◌≡◌, ◌∙◌, ◌≤◌, ◌<◌, ℕ, ◌+◌, List, [], ◌∷◌, Bool, true, false, Option, Some, None, Result}
use Rattle.std.proofs.Common.{Ok, Err, refl, ap, sym, subst, arith, nat_le}
use Rattle.std.proofs.lemmas.Bool.Decides.{nat_tests}
use Rattle.zk_mem.specs.Map.{MemoryMap}
use Rattle.zk_code.specs.declared.instr.Instr.{Instr}
use Rattle.zk_state.specs.Frames.{FrameList, bounds_of, with_frames, within_bounds}
use Rattle.zk_save.specs.declared.restore.RestoreError.{RestoreError}
use Rattle.zk_save.specs.Loading.{frames_fit, loaded, loaded_by, put_in_place, restored}
use Rattle.zk_state.specs.declared.refusal.Refusal.{Refusal}
use Rattle.zk_state.specs.declared.refusal.Refusal.TheVariants as refusal
use Rattle.zk_state.specs.declared.refusal.Limit.{Limit}
use Rattle.zk_save.specs.States.{AreOf, UndoStates, WholeState, gone_back, memory_back, states_in}
use Rattle.zk_term.specs.Windows.{Windows}
use Rattle.zk_step.specs.declared.state.ending.Event.{Event}
use Rattle.zk_step.specs.declared.state.ending.Event.TheVariants as event
use Rattle.zk_step.specs.declared.state.random.Generators.{Generators}
use Rattle.zk_step.specs.declared.state.game_state.GameState.{GameState}
use Rattle.zk_step.specs.Inputs.{character_answered, line_answered, result_answered}
use Rattle.zk_step.specs.Restarts.{windows_closed}
use Rattle.zk_step.specs.Resuming.{resumed}
use Rattle.zk_step.specs.Laws.{fixed_parts}
use Rattle.zk_step.specs.Limited.{limited_pc}
use Rattle.zk_step.proofs.Sweep.{answers_leave_stories}
use Rattle.zk_vm.specs.Bounds.{setup_of}
use Rattle.zk_vm.specs.declared.limits.Limits.{Limits}
use Rattle.zk_fast.specs.declared.cache.Cache.{Cache}
use Rattle.zk_fast.specs.Caches.{IsCacheOf}
use Rattle.zk_vm.specs.declared.machine.Machine.TheInside.{Inside}
use Rattle.zk_vm.specs.declared.stop.Stop.{Stop}
use Rattle.zk_vm.specs.declared.waiting.Waiting.{Waiting}
use Rattle.zk_vm.specs.Answers.{Answer, answered, answer_settled, limit_of, none_restored, restored_from, restored_to}
use Rattle.zk_vm.specs.Answers.{transcribed, truth_word, undone, undone_to}
use Rattle.zk_vm.specs.Answers.Answer.{Typed, GameKept, File}
use Rattle.zk_vm.specs.Going.{IsPut, verdict_by, pc_by, steps_by, stopped_by, restored_by, restored_on, unrestored_by}
use Rattle.zk_vm.specs.Halts.{CanAnswer, Halt, IsAnswerable, IsLeftAs, IsUndone, WhileRunning, event_waited, halt_by}
use Rattle.zk_vm.specs.Sessions.{Session, given, resumed as resumed_as}
use Rattle.zk_vm.specs.Plays.{AsksForLine}
use Rattle.zk_vm.specs.Sound.{state_seen, IsOfStory, IsSound}
use Rattle.zk_mem.specs.declared.fault.Fault.{Fault}
use Rattle.zk_vm.specs.Step.{State, Step, Verdict, back_to, verdict_within, goes_to, is_read, is_past_reads, most_reads}
use Rattle.zk_vm.specs.Step.{state_after, verdict_of}
use Rattle.zk_vm.specs.Step.Verdict.{GoesOn, WaitsFor, StopsBy}
use Rattle.zk_vm.proofs.Going.{Told, told_on, file_answered, limit_answered, read_answered, reading}
use Rattle.zk_vm.proofs.Keeping.{seen, behind, same_states, went_back}
use Rattle.zk_vm.proofs.Sounds.{back_fixed, running, sound_now, sound_after, story_stays, going_led}

answerable_by : (s : State) (l : Limits) (stopped : Option Stop) (x : Option Waiting) (w : Waiting) → x ≡ Some w
    → CanAnswer s l stopped x → IsAnswerable s l stopped w
answerable_by s l stopped None w e can = absurd cc
answerable_by s l stopped (Some v) w e can = let same : v ≡ w = cc in rw (← same) can

pub answerable : (m : Inside) (w : Waiting) → IsSound m → m.waiting ≡ Some w
    → IsAnswerable (state_seen m) m.limits m.stopped w
answerable m w is e = answerable_by (state_seen m) m.limits m.stopped m.waiting w e is.waits

-- what is waited for
pub awaits : (x : Option Waiting) (w : Waiting) (e : Event) → x ≡ Some w → event_waited x ≡ Some e → w.wait ≡ e
awaits x w e h k = let same : event_waited x ≡ Some w.wait = ap event_waited h in cc

-- ---- saved games

saves : (s : State) (w : Waiting) (k : Bool) → w.wait ≡ event.Save → answered s w (GameKept k) ≡ goes_to s s.undo
    (result_answered s.game w.instruction (truth_word k) k)
unfolding answered
saves s w k e = rw e refl

-- a machine that was answered, and waits no more
answered_sound : (m : Inside) (v : GameState) (pc steps : ℕ) (stopped : Option Stop) (led : Result ℕ Refusal)
    → IsSound m → m.stopped ≡ None → m.steps < m.limits.steps → IsOfStory m
    → bounds_of v.frames ≡ bounds_of m.game.frames
    → steps ≡ steps_by m.steps led → stopped ≡ stopped_by m.stopped (verdict_by m.pc led)
    → ((n : ℕ) → led ≡ Ok n → fixed_parts v.memory ≡ fixed_parts m.game.memory)
    → IsSound (behind (record m { waiting = None }) v pc steps stopped m.undo)
answered_sound m v pc steps stopped led is runs room has bounds counts stops fixed =
    sound_after m (behind (record m { waiting = None }) v pc steps stopped m.undo) m.pc led is room
    refl refl counts refl refl bounds stops
    (λ n e. story_stays (behind (record m { waiting = None }) v pc steps stopped m.undo) m.game has.are_of
    has.memory has.cache (fixed n e) bounds)

pub save_answered : (m : Inside) (w : Waiting) (k : Bool) (word : ℕ) (led : Result ℕ Refusal) (v : GameState)
    (pc steps : ℕ) (stopped : Option Stop) → IsSound m → m.waiting ≡ Some w
    → event_waited m.waiting ≡ Some event.Save → word ≡ truth_word k
    → Told led (limited_pc (result_answered m.game w.instruction word k)) v
    → bounds_of v.frames ≡ bounds_of m.game.frames
    → pc ≡ pc_by m.pc led → steps ≡ steps_by m.steps led → stopped ≡ stopped_by m.stopped (verdict_by m.pc led)
    → IsSound (behind (record m { waiting = None }) v pc steps stopped m.undo)
    × IsLeftAs (seen (behind (record m { waiting = None }) v pc steps stopped m.undo))
    (given (seen m) (GameKept k)) (given (seen m) (GameKept k)).stopped
save_answered m w k word led v pc steps stopped is waits saving value told bounds at counts stops =
    let can = answerable m w is waits in
    let has = running m.stopped (IsOfStory m) can.runs is.story in
    let fixed : (n : ℕ) → result_answered m.game w.instruction word k ≡ Ok (v, n)
    → fixed_parts v.memory ≡ fixed_parts m.game.memory
    = (λ n e. answers_leave_stories.result m.game w.instruction word k (v, n) e) in
    let here = saves (state_seen m) w k (awaits m.waiting w event.Save waits saving) in
    let word_is = rw (← value) at here in (
      answered_sound m v pc steps stopped led is can.runs can.steps has bounds counts stops
          (told_on led (result_answered m.game w.instruction word k) v told fixed),
      file_answered (seen m) w (GameKept k) (states_in v.memory.file m.undo)
          (result_answered m.game w.instruction word k) led v pc steps stopped waits can.runs word_is told at counts
          stops (λ n e. same_states m.game.memory v.memory m.undo (fixed n e)),
    )

-- ---- a saved game that is restored

restores : (s : State) (w : Waiting) (file : Option (List ℕ)) → w.wait ≡ event.Restore
    → answered s w (File file) ≡ restored_from s w.instruction file
unfolding answered
restores s w file e = rw e refl

-- what is restored has the story's parts
fit_fixed : (q : Result FrameList RestoreError) (w : WholeState) (m n : MemoryMap) (g : FrameList) (p : ℕ)
    → loaded_by {B = MemoryMap × FrameList × ℕ} q (λ frames. Ok (memory_back w m, frames, w.pc)) ≡ Ok (n, g, p)
    → fixed_parts n ≡ fixed_parts m
fit_fixed (Ok f) w m n g p h =
    let same : ◌≡◌ {A = MemoryMap × FrameList × ℕ} (memory_back w m, f, w.pc) (n, g, p) = cc in
    sym (ap (λ (q : MemoryMap × FrameList × ℕ). fixed_parts q.0) same) ∙ back_fixed w m
fit_fixed (Err e) w m n g p h = absurd cc

loaded_fixed : (q : Result WholeState RestoreError) (m n : MemoryMap) (s g : FrameList) (p : ℕ)
    → loaded_by q (λ w. put_in_place w m s) ≡ Ok (n, g, p) → fixed_parts n ≡ fixed_parts m
unfolding put_in_place
loaded_fixed (Ok w) m n s g p h = fit_fixed (frames_fit (within_bounds (with_frames s w.frames))) w m n g p h
loaded_fixed (Err e) m n s g p h = absurd cc

pub restored_fixed : (file : List ℕ) (m n : MemoryMap) (s g : FrameList) (p : ℕ)
    → restored file m s ≡ Ok (n, g, p) → fixed_parts n ≡ fixed_parts m
unfolding restored
restored_fixed file m n s g p h = loaded_fixed (loaded m file) m n s g p h

renewed_memory : (w : GameState) → (windows_closed w).memory ≡ w.memory
unfolding windows_closed
renewed_memory w = refl

-- where a machine goes on that restores nothing, the story's parts stay
none_stays : (w : GameState) (i : Instr) (l : Option Limit) (led : Result ℕ Refusal) (v : GameState)
    → Told led (unrestored_by w i l) v → (n : ℕ) → led ≡ Ok n → fixed_parts v.memory ≡ fixed_parts w.memory
none_stays w i None led v told =
    told_on led (result_answered w i 0 false) v told (λ n e. answers_leave_stories.result w i 0 false (v, n) e)
none_stays w i (Some l) (Ok x) v told = absurd cc
none_stays w i (Some l) (Err e) v told = λ n h. absurd cc

-- and where a restored one does
restored_stays : (w : GameState) (i : Instr) (q : Result (MemoryMap × FrameList × ℕ) RestoreError)
    (led : Result ℕ Refusal) (v : GameState) → ((n : MemoryMap) (g : FrameList) (p : ℕ) → q ≡ Ok (n, g, p)
    → fixed_parts n ≡ fixed_parts w.memory)
    → Told led (restored_by w i q) v → (n : ℕ) → led ≡ Ok n → fixed_parts v.memory ≡ fixed_parts w.memory
restored_stays w i (Ok (m, f, p)) led v same told =
    told_on led (resumed (windows_closed (record w { memory = m; frames = f })) p) v told
    (λ n e. answers_leave_stories.back (windows_closed (record w { memory = m; frames = f })) p (v, n) e
    ∙ ap fixed_parts (renewed_memory (record w { memory = m; frames = f })) ∙ same m f p refl)
restored_stays w i (Err e) led v same told = none_stays w i (limit_of e) led v told

none_left : (m : Inside) (w : Waiting) (a : Answer) (l : Option Limit) (led : Result ℕ Refusal) (v : GameState)
    (pc steps : ℕ) (stopped : Option Stop) → m.waiting ≡ Some w → m.stopped ≡ None
    → answered (state_seen m) w a ≡ none_restored (state_seen m) w.instruction l
    → Told led (unrestored_by m.game w.instruction l) v → pc ≡ pc_by m.pc led → steps ≡ steps_by m.steps led
    → stopped ≡ stopped_by m.stopped (verdict_by m.pc led)
    → IsLeftAs (seen (behind (record m { waiting = None }) v pc steps stopped m.undo)) (given (seen m) a)
    (given (seen m) a).stopped
none_left m w a None led v pc steps stopped waits runs is told at counts stops =
    file_answered (seen m) w a (states_in v.memory.file m.undo) (result_answered m.game w.instruction 0 false) led
    v pc steps stopped waits runs is told at counts stops
    (λ x e. same_states m.game.memory v.memory m.undo (answers_leave_stories.result m.game w.instruction 0
    false (v, x) e))
none_left m w a (Some l) led v pc steps stopped waits runs is told at counts stops =
    limit_answered (seen m) w a l (states_in v.memory.file m.undo) led v pc steps stopped waits runs is told at
    counts stops

restored_left : (m : Inside) (w : Waiting) (a : Answer) (q : Result (MemoryMap × FrameList × ℕ) RestoreError)
    (led : Result ℕ Refusal) (v : GameState) (pc steps : ℕ) (stopped : Option Stop) → m.waiting ≡ Some w
    → m.stopped ≡ None
    → answered (state_seen m) w a ≡ restored_to (state_seen m) w.instruction q
    → Told led (restored_by m.game w.instruction q) v → pc ≡ pc_by m.pc led → steps ≡ steps_by m.steps led
    → stopped ≡ stopped_by m.stopped (verdict_by m.pc led)
    → ((n : MemoryMap) (g : FrameList) (p : ℕ) → q ≡ Ok (n, g, p) → fixed_parts n ≡ fixed_parts m.game.memory)
    → IsLeftAs (seen (behind (record m { waiting = None }) v pc steps stopped m.undo)) (given (seen m) a)
    (given (seen m) a).stopped
restored_left m w a (Ok (n, f, p)) led v pc steps stopped waits runs is told at counts stops fixed =
    file_answered (seen m) w a (states_in v.memory.file m.undo)
    (resumed (windows_closed (record m.game { memory = n; frames = f })) p) led v pc steps stopped waits runs is
    told at counts stops (λ x e. same_states m.game.memory v.memory m.undo
    (answers_leave_stories.back (windows_closed (record m.game { memory = n; frames = f })) p (v, x) e
    ∙ ap fixed_parts (renewed_memory (record m.game { memory = n; frames = f })) ∙ fixed n f p refl))
restored_left m w a (Err e) led v pc steps stopped waits runs is told at counts stops fixed =
    none_left m w a (limit_of e) led v pc steps stopped waits runs is told at counts stops

pub file_restored : (m : Inside) (w : Waiting) (file : List ℕ) (led : Result ℕ Refusal) (v : GameState)
    (pc steps : ℕ) (stopped : Option Stop) → IsSound m → m.waiting ≡ Some w
    → event_waited m.waiting ≡ Some event.Restore
    → Told led (restored_on m.game w.instruction file) v → bounds_of v.frames ≡ bounds_of m.game.frames
    → pc ≡ pc_by m.pc led → steps ≡ steps_by m.steps led → stopped ≡ stopped_by m.stopped (verdict_by m.pc led)
    → IsSound (behind (record m { waiting = None }) v pc steps stopped m.undo)
    × IsLeftAs (seen (behind (record m { waiting = None }) v pc steps stopped m.undo))
    (given (seen m) (File (Some file))) (given (seen m) (File (Some file))).stopped
file_restored m w file led v pc steps stopped is waits restoring told bounds at counts stops =
    let can = answerable m w is waits in
    let has = running m.stopped (IsOfStory m) can.runs is.story in
    let same : (n : MemoryMap) (g : FrameList) (p : ℕ) → restored file m.game.memory m.game.frames ≡ Ok (n, g, p)
    → fixed_parts n ≡ fixed_parts m.game.memory
    = (λ n g p e. restored_fixed file m.game.memory n m.game.frames g p e) in
    let fixed = restored_stays m.game w.instruction (restored file m.game.memory m.game.frames) led v same told in
    let here = restores (state_seen m) w (Some file) (awaits m.waiting w event.Restore waits restoring) in (
      answered_sound m v pc steps stopped led is can.runs can.steps has bounds counts stops fixed,
      restored_left m w (File (Some file)) (restored file m.game.memory m.game.frames) led v pc steps stopped
          waits can.runs here told at counts stops same,
    )

pub no_file_restored : (m : Inside) (w : Waiting) (led : Result ℕ Refusal) (v : GameState) (pc steps : ℕ)
    (stopped : Option Stop) → IsSound m → m.waiting ≡ Some w → event_waited m.waiting ≡ Some event.Restore
    → Told led (limited_pc (result_answered m.game w.instruction 0 false)) v
    → bounds_of v.frames ≡ bounds_of m.game.frames
    → pc ≡ pc_by m.pc led → steps ≡ steps_by m.steps led → stopped ≡ stopped_by m.stopped (verdict_by m.pc led)
    → IsSound (behind (record m { waiting = None }) v pc steps stopped m.undo)
    × IsLeftAs (seen (behind (record m { waiting = None }) v pc steps stopped m.undo))
    (given (seen m) (File None)) (given (seen m) (File None)).stopped
no_file_restored m w led v pc steps stopped is waits restoring told bounds at counts stops =
    let can = answerable m w is waits in
    let has = running m.stopped (IsOfStory m) can.runs is.story in
    let here = restores (state_seen m) w None (awaits m.waiting w event.Restore waits restoring) in (
      answered_sound m v pc steps stopped led is can.runs can.steps has bounds counts stops
          (none_stays m.game w.instruction None led v told),
      none_left m w (File None) None led v pc steps stopped waits can.runs here told at counts stops,
    )

-- ---- reads

few_reads : (n : ℕ) (x : Event) → is_read x ≡ true → is_past_reads n x ≡ false → n + 1 ≤ 16777216
few_reads n x read past =
    let here : nat_le most_reads n ≡ false = rw read at past in
    grind (arith, nat_tests, here)

pub read_sound : (m n : Inside) (w : Waiting) (led : Result ℕ Refusal) → IsSound m → m.waiting ≡ Some w
    → is_read w.wait ≡ true → n.limits ≡ m.limits → n.waiting ≡ None → n.steps ≡ 0 → n.reads ≡ m.reads + 1
    → n.undo ≡ m.undo → n.cache ≡ m.cache
    → bounds_of n.game.frames ≡ bounds_of m.game.frames → n.stopped ≡ stopped_by m.stopped (verdict_by m.pc led)
    → ((x : ℕ) → led ≡ Ok x → fixed_parts n.game.memory ≡ fixed_parts m.game.memory) → IsSound n
read_sound m n w led is waits read limits free steps reads undo same bounds stops fixed =
    let can = answerable m w is waits in
    let has = running m.stopped (IsOfStory m) can.runs is.story in
    let few = few_reads m.reads w.wait read can.reads in
    let are = subst (λ (u : UndoStates). AreOf m.game.memory m.game.frames u) (sym undo) has.are_of in
    let cache = subst (λ (k : Cache). IsCacheOf (fixed_parts m.game.memory) k) (sym same) has.cache in
    sound_now m n is limits free (omega (arith, steps)) (omega (arith, reads, few))
    (ap (λ (u : UndoStates). u.most) undo) bounds
    (going_led n.stopped m.stopped m.pc led (IsOfStory n) stops
    (λ x e. story_stays n m.game are (has.memory ∙ ap (λ (l : Limits). setup_of l) (sym limits)) cache
    (fixed x e) bounds))

reads_char : (s : State) (w : Waiting) (code : ℕ) → w.wait ≡ event.Char
    → answered s w (Typed (code ∷ []) 13) ≡ answer_settled s [] (character_answered s.game w.instruction code)
unfolding answered
reads_char s w code e = rw e refl

reads_line : (s : State) (w : Waiting) (text parse : ℕ) (codes : List ℕ) (ended : ℕ) → w.wait ≡ event.Line text parse
    → answered s w (Typed codes ended) ≡ answer_settled s (transcribed s.game (event.Line text parse) codes ended)
    (line_answered s.game w.instruction text parse codes ended)
unfolding answered
reads_line s w text parse codes ended e = rw e refl

pub char_fixed : (m : Inside) (w : Waiting) (code : ℕ) (led : Result ℕ Refusal) (v : GameState)
    → Told led (limited_pc (character_answered m.game w.instruction code)) v → (n : ℕ) → led ≡ Ok n
    → fixed_parts v.memory ≡ fixed_parts m.game.memory
char_fixed m w code led v told = told_on led (character_answered m.game w.instruction code) v told
    (λ n e. answers_leave_stories.character m.game w.instruction code (v, n) e)

pub line_fixed : (m : Inside) (w : Waiting) (text parse : ℕ) (codes : List ℕ) (ended : ℕ) (led : Result ℕ Refusal)
    (v : GameState) → Told led (limited_pc (line_answered m.game w.instruction text parse codes ended)) v
    → (n : ℕ) → led ≡ Ok n → fixed_parts v.memory ≡ fixed_parts m.game.memory
line_fixed m w text parse codes ended led v told =
    told_on led (line_answered m.game w.instruction text parse codes ended) v told
    (λ n e. answers_leave_stories.line m.game w.instruction text parse codes ended (v, n) e)

pub char_answered : (m : Inside) (w : Waiting) (code : ℕ) (due : List ℕ) (led : Result ℕ Refusal) (v : GameState)
    (pc : ℕ) (stopped : Option Stop) → IsSound m → m.waiting ≡ Some w
    → event_waited m.waiting ≡ Some event.Char → due ≡ []
    → Told led (limited_pc (character_answered m.game w.instruction code)) v → pc ≡ pc_by m.pc led
    → stopped ≡ stopped_by m.stopped (verdict_by m.pc led)
    → IsLeftAs (reading (seen m) v pc due (states_in v.memory.file m.undo) stopped)
    (given (seen m) (Typed (code ∷ []) 13)) (given (seen m) (Typed (code ∷ []) 13)).stopped
char_answered m w code due led v pc stopped is waits reading_char none told at stops =
    let can = answerable m w is waits in
    let here = reads_char (state_seen m) w code (awaits m.waiting w event.Char waits reading_char) in
    let done : answered (state_seen m) w (Typed (code ∷ []) 13) ≡ answer_settled (state_seen m) due
    (character_answered m.game w.instruction code) = rw none here in
    read_answered (seen m) w (Typed (code ∷ []) 13) due (states_in v.memory.file m.undo)
    (character_answered m.game w.instruction code) led v pc stopped waits can.runs done told at stops
    (λ n e. same_states m.game.memory v.memory m.undo (answers_leave_stories.character m.game w.instruction
    code (v, n) e))

pub line_typed : (m : Inside) (w : Waiting) (text parse : ℕ) (codes : List ℕ) (ended : ℕ) (due : List ℕ)
    (led : Result ℕ Refusal) (v : GameState) (pc : ℕ) (stopped : Option Stop) → IsSound m → m.waiting ≡ Some w
    → w.wait ≡ event.Line text parse
    → due ≡ transcribed m.game (event.Line text parse) codes ended
    → Told led (limited_pc (line_answered m.game w.instruction text parse codes ended)) v → pc ≡ pc_by m.pc led
    → stopped ≡ stopped_by m.stopped (verdict_by m.pc led)
    → IsLeftAs (reading (seen m) v pc due (states_in v.memory.file m.undo) stopped)
    (given (seen m) (Typed codes ended)) (given (seen m) (Typed codes ended)).stopped
line_typed m w text parse codes ended due led v pc stopped is waits line transcript told at stops =
    let can = answerable m w is waits in
    let here = reads_line (state_seen m) w text parse codes ended line in
    let done : answered (state_seen m) w (Typed codes ended) ≡ answer_settled (state_seen m) due
    (line_answered m.game w.instruction text parse codes ended) = rw transcript here in
    read_answered (seen m) w (Typed codes ended) due (states_in v.memory.file m.undo)
    (line_answered m.game w.instruction text parse codes ended) led v pc stopped waits can.runs done told at stops
    (λ n e. same_states m.game.memory v.memory m.undo (answers_leave_stories.line m.game w.instruction text parse
    codes ended (v, n) e))

-- a file that is refused, but for a limit, is none
pub refused_on : (w : GameState) (i : Instr) (file : List ℕ) (e : RestoreError)
    → restored file w.memory w.frames ≡ Err e → limit_of e ≡ None → restored_on w i file ≡ limited_pc
    (result_answered w i 0 false)
refused_on w i file e h none = ap (restored_by w i) h ∙ ap (unrestored_by w i) none

pub refused_told : (w : GameState) (i : Instr) (file : List ℕ) (e : RestoreError) (n : MemoryMap) (g : FrameList)
    (led : Result ℕ Refusal) (v : GameState) → restored file w.memory w.frames ≡ Err e → n ≡ w.memory → g ≡ w.frames
    → limit_of e ≡ None
    → Told led (limited_pc (result_answered (record w { memory = n; frames = g }) i 0 false)) v
    → Told led (restored_on w i file) v
refused_told w i file e n g led v h memory frames none told =
    let both : ◌≡◌ {A = MemoryMap × FrameList} (n, g) (w.memory, w.frames) = cc in
    let here : Told led (limited_pc (result_answered w i 0 false))
    v =
    subst (λ (p : MemoryMap × FrameList). Told led
    (limited_pc (result_answered (record w { memory = p.0; frames = p.1 }) i 0 false)) v) both told in
    subst (λ (r : Result (GameState × ℕ) Refusal). Told led r v) (sym (refused_on w i file e h none)) here

-- ---- a host that goes back, or forgets a grid

-- what a machine waits for that asks for a line
waits_some : (x : Option Waiting) (e : Event) → event_waited x ≡ Some e → (w : Waiting) × (x ≡ Some w)
waits_some None e h = absurd cc
waits_some (Some w) e h = (w, refl)

abbrev is_waiting_verdict : Verdict → Bool
is_waiting_verdict (WaitsFor w) = true
is_waiting_verdict _ = false

-- a machine as a step has put it is left as an answer leaves it
put_left : (old new : Session) (v : Verdict) (s : State) → IsPut (record old { waiting = None }) new v s
    → old.stopped ≡ None → is_waiting_verdict v ≡ false → IsLeftAs new (resumed_as old v s) (resumed_as old v s).stopped
put_left old new GoesOn s put runs never =
    subst (λ (x : Option Stop). IsLeftAs new (record old { state = s; waiting = None }) x) (sym runs) put
put_left old new (WaitsFor w) s put runs never = absurd cc
put_left old new (StopsBy stop) s put runs never = put

-- what goes to a place does not wait
goes_never_waits : (s : State) (undo : List WholeState) (r : Result (GameState × ℕ) Fault)
    → is_waiting_verdict (verdict_of s (goes_to s undo r)) ≡ false
goes_never_waits s undo (Ok found) = by_frames (within_bounds found.0.frames)
  where
    by_frames : (r : Result FrameList Refusal) → is_waiting_verdict (verdict_within s.pc r) ≡ false
    by_frames (Ok f) = refl
    by_frames (Err (refusal.Limit l)) = refl
    by_frames (Err (refusal.Fault f)) = refl
goes_never_waits s undo (Err f) = refl

undone_is : (s : State) (n : MemoryMap) (g : FrameList) (saved : ℕ) (others : List WholeState)
    → gone_back s.undo s.game.memory s.game.frames ≡ Some (n, g, saved, others)
    → undone s ≡ Some (goes_to s others (resumed (record s.game { memory = n; frames = g }) saved))
undone_is s n g saved others h = ap (undone_to s) h

-- what is of a story does not rest on what is waited for
free_story : (m : Inside) (x : Option Stop) → WhileRunning x (IsOfStory m)
    → WhileRunning x (IsOfStory (record m { waiting = None }))
free_story m None has = record { are_of = has.are_of; memory = has.memory; cache = has.cache }
free_story m (Some stop) has = tt

pub went_back_by_host : (m : Inside) (n : MemoryMap) (g : FrameList) (saved : ℕ) (undo : UndoStates)
    (led : Result ℕ Refusal) (w : GameState) (pc steps : ℕ) (stopped : Option Stop)
    (answer : Result (Unit {0}) Halt) → IsSound m → AsksForLine (seen m)
    → gone_back (states_in m.game.memory.file m.undo) m.game.memory m.game.frames ≡ Some
    (n, g, saved, states_in m.game.memory.file undo) → undo.most ≡ m.undo.most → AreOf n g undo
    → Told led (limited_pc (resumed (record m.game { memory = n; frames = g }) saved)) w
    → bounds_of w.frames ≡ bounds_of g
    → answer ≡ halt_by (verdict_by m.pc led) → pc ≡ pc_by m.pc led → steps ≡ steps_by m.steps led
    → stopped ≡ stopped_by m.stopped (verdict_by m.pc led)
    → IsSound (behind (record m { waiting = None }) w pc steps stopped undo)
    × IsUndone (seen m) (seen (behind (record m { waiting = None }) w pc steps stopped undo)) true
    (undone (state_seen m))
went_back_by_host m n g saved undo led w pc steps stopped answer is asks gone most are told bounds tells at
    counts stops =
    let some = waits_some m.waiting asks.0 asks.1.0 in
    let can = answerable m some.0 is some.1 in
    let x : Step = goes_to (state_seen m) (states_in m.game.memory.file undo)
    (resumed (record m.game { memory = n; frames = g }) saved) in
    let free : Inside = record m { waiting = None } in
    let sound : IsSound free = record {
      steps = is.steps;
      bounds = is.bounds;
      reads = is.reads;
      most = is.most;
      story = free_story m m.stopped is.story;
      waits = tt;
    } in
    let both = went_back free some.0.instruction n g saved undo led w pc steps stopped answer sound can.runs
    refl can.steps gone most are told bounds tells at counts stops in
    let same = ap (back_to (state_seen m) some.0.instruction m.game) gone in
    let put : IsPut (seen free) (seen (behind free w pc steps stopped undo)) (verdict_of (state_seen m) x)
    (state_after (state_seen m) x)
    =
    subst (λ (y : Step). IsPut (seen free) (seen (behind free w pc steps stopped undo))
    (verdict_of (state_seen m) y) (state_after (state_seen m) y)) same both.1.put in
    let left = put_left (seen m) (seen (behind free w pc steps stopped undo)) (verdict_of (state_seen m) x)
    (state_after (state_seen m) x) put can.runs
    (goes_never_waits (state_seen m) (states_in m.game.memory.file undo)
    (resumed (record m.game { memory = n; frames = g }) saved)) in (
      both.0,
      subst (IsUndone (seen m) (seen (behind free w pc steps stopped undo)) true)
          (sym (undone_is (state_seen m) n g saved (states_in m.game.memory.file undo) gone)) (refl, left),
    )

can_still : (s : State) (v : Windows) (x : Generators) (l : Limits) (stopped : Option Stop) (waits : Option Waiting)
    → CanAnswer s l stopped waits
    → CanAnswer (record s { game = record s.game { windows = v; generators = x } }) l stopped waits
can_still s v x l stopped None can = tt
can_still s v x l stopped (Some w) can =
    record {
      reads = can.reads;
      steps = can.steps;
      next = can.next;
      some = can.some;
      pc = can.pc;
      runs = can.runs;
      shown = can.shown;
      fetched = can.fetched;
    }

-- whatever its windows and its random numbers are
pub changed : (m : Inside) (windows : Windows) (generators : Generators) → IsSound m
    → IsSound (record m { game = record m.game { windows = windows; generators = generators } })
changed m windows generators is = record {
  steps = is.steps;
  bounds = is.bounds;
  reads = is.reads;
  most = is.most;
  story = story_same m.stopped is.story;
  waits = can_still (state_seen m) windows generators m.limits m.stopped m.waiting is.waits;
}
  where
    story_same : (x : Option Stop) → WhileRunning x (IsOfStory m)
        → WhileRunning x (IsOfStory (record m { game = record m.game { windows = windows; generators = generators } }))
    story_same None has = record { are_of = has.are_of; memory = has.memory; cache = has.cache }
    story_same (Some stop) has = tt

pub windows_changed : (m : Inside) (windows : Windows) → IsSound m
    → IsSound (record m { game = record m.game { windows = windows } })
windows_changed m windows is = changed m windows m.game.generators is
