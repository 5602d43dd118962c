-- A machine whose memory its host has changed.
use Rattle.std.proofs.Common.{◌≡◌, ◌≤◌, ◌^◌, ℕ, false, Option, Some, None, Result, Ok, Err, MatchResult, refl, ap}
use Rattle.zk_mem.specs.declared.fault.Fault.{Fault}
use Rattle.zk_mem.specs.Map.{MemoryMap, IsOfFile, word_put}
use Rattle.zk_tables.specs.Tree.{inserted, removed}
use Rattle.zk_code.specs.declared.instr.Instr.{Instr}
use Rattle.zk_code.specs.declared.opcode.ObjectChange.TheVariants.{InsertObj, RemoveObj}
use Rattle.zk_code.specs.Reading.{instr_at}
use Rattle.zk_code.proofs.Longer.{ends_inside}
use Rattle.zk_code.proofs.Whole.{found_at}
use Rattle.zk_step.specs.Laws.{fixed_parts}
use Rattle.zk_step.specs.Objects.{object_changed}
use Rattle.zk_step.proofs.FixedParts.{kept_left, objects_keep, value_left, word_keeps}
use Rattle.zk_fast.proofs.Always.{always_there}
use Rattle.zk_vm.specs.declared.machine.Machine.TheInside.{Inside}
use Rattle.zk_vm.specs.declared.machine.changing.Change.{Change}
use Rattle.zk_vm.specs.declared.machine.changing.Change.TheVariants as change
use Rattle.zk_vm.specs.declared.stop.Stop.{Stop}
use Rattle.zk_vm.specs.declared.waiting.Waiting.{Waiting}
use Rattle.zk_vm.specs.Changes.{changed_by, IsChanged}
use Rattle.zk_vm.specs.Halts.{CanAnswer, WhileRunning}
use Rattle.zk_vm.specs.Sound.{state_seen, IsOfStory, IsSound}
use Rattle.zk_vm.proofs.Keeping.{same_states, seen}
use Rattle.zk_vm.proofs.Sounds.{story_stays}

-- a change leaves what of memory never changes
change_fixed : (c : Change) (m n : MemoryMap) → changed_by c m ≡ Ok n → fixed_parts n ≡ fixed_parts m
unfolding object_changed
change_fixed (change.Word a v) m n e = (value_left (word_put m a v) n
    (kept_left _ (word_keeps (fixed_parts m) false m a v (refl, λ all. absurd cc))) e).0
change_fixed (change.Insertion o d) m n e = (value_left (inserted m o d) n
    (kept_left _ (objects_keep (fixed_parts m) false InsertObj m o d 0 (refl, λ all. absurd cc))) e).0
change_fixed (change.Removal o) m n e = (value_left (removed m o) n
    (kept_left _ (objects_keep (fixed_parts m) false RemoveObj m o 0 0 (refl, λ all. absurd cc))) e).0

-- and so does one that is refused
pub left_fixed : (r : Result (Unit {0}) Fault) (c : Change) (m n : MemoryMap)
    → MatchResult r (λ _. changed_by c m ≡ Ok n) (λ e. (changed_by c m ≡ Err e) × (n ≡ m))
    → fixed_parts n ≡ fixed_parts m
left_fixed (Ok u) c m n h = change_fixed c m n h
left_fixed (Err e) c m n h = ap fixed_parts h.1

-- an instruction at or above the static base stays
same_instr : (m n : MemoryMap) (a : ℕ) (i : Instr) → IsOfFile m → IsOfFile n → fixed_parts n ≡ fixed_parts m
    → m.static_base ≤ a → instr_at m a ≡ Ok i → i.next ≤ 2 ^ 20 → instr_at n a ≡ Ok i
same_instr m n a i hm hn e le h near =
    let ends = ends_inside m a i i.next (found_at m a i hm.bytes h) in
    (always_there m a i hm le h near ends.0 ends.1).there n e hn

-- a machine with another memory of its story, at an instruction that stays
pub memory_sound : (m : Inside) (n : MemoryMap) → IsSound m → IsOfFile m.game.memory → IsOfFile n
    → fixed_parts n ≡ fixed_parts m.game.memory → m.game.memory.static_base ≤ m.pc
    → IsSound (record m { game = record m.game { memory = n } })
memory_sound m n is hm hn e le = record {
  steps = is.steps;
  bounds = is.bounds;
  reads = is.reads;
  most = is.most;
  story = story_same m.stopped is.story;
  waits = can_still m.waiting is.waits;
}
  where
    story_same : (x : Option Stop) → WhileRunning x (IsOfStory m)
        → WhileRunning x (IsOfStory (record m { game = record m.game { memory = n } }))
    story_same None has =
        story_stays (record m { game = record m.game { memory = n } }) m.game has.are_of has.memory has.cache e refl
    story_same (Some stop) has = tt

    can_still : (x : Option Waiting) → CanAnswer (state_seen m) m.limits m.stopped x
        → CanAnswer (state_seen (record m { game = record m.game { memory = n } })) m.limits m.stopped x
    can_still None can = tt
    can_still (Some w) can =
        record {
          reads = can.reads;
          steps = can.steps;
          next = can.next;
          some = can.some;
          pc = can.pc;
          runs = can.runs;
          shown = can.shown;
          fetched = same_instr m.game.memory n m.pc w.instruction hm hn e le can.fetched can.next;
        }

-- what is told of a change
pub change_told : (r : Result (Unit {0}) Fault) (c : Change) (m : Inside) (n : MemoryMap)
    → MatchResult r (λ _. changed_by c m.game.memory ≡ Ok n)
    (λ e. (changed_by c m.game.memory ≡ Err e) × (n ≡ m.game.memory))
    → MatchResult r (λ _. IsChanged c (seen m) (seen (record m { game = record m.game { memory = n } })))
    (λ e. (changed_by c m.game.memory ≡ Err e) × (seen (record m { game = record m.game { memory = n } }) ≡ seen m))
change_told (Ok u) c m n h = record {
  memory = h;
  beside = rw (same_states m.game.memory n m.undo (change_fixed c m.game.memory n h)) refl;
}
change_told (Err e) c m n h = (h.0, rw h.1 refl)
