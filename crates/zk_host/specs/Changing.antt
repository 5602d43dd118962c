-- Changes that a host makes in the memory of a story.
use Rattle.std.specs.Prelude.{◌≡◌, ◌⊎◌, ◌≤◌, ◌<◌, ◌||◌, ℕ, Option, Some, None, Result, Ok, Err, if◌then◌else◌, nat_lt}
use Rattle.std.specs.Prelude.{◌==◌}
use Rattle.zk_mem.specs.declared.fault.Fault.{Fault}
use Rattle.zk_snapshot.specs.Snapshots.{HasSnapshot}
use Rattle.zk_vm.specs.Changes.{changed_by, IsChanged}
use Rattle.zk_vm.specs.Sessions.{Session}
use Rattle.zk_vm.specs.declared.machine.changing.Change.{Change}
use Rattle.zk_vm.specs.declared.machine.changing.Change.TheVariants as change
use Rattle.zk_host.specs.declared.play.Play.{Play}
use Rattle.zk_host.specs.declared.play.Refusal.{Refusal}
use Rattle.zk_host.specs.declared.play.Refusal.TheVariants as refused

-- the word at a byte address gets a value
abbrev pub word_of : ℕ → ℕ → Option Change
word_of a value = if nat_lt 65535 value then None else Some (change.Word a value)

-- an object goes into another, or with 0 out of its parent
abbrev pub move_of : ℕ → ℕ → Option Change
move_of object parent =
    if nat_lt 65535 object || nat_lt 65535 parent then None
    else if parent == 0 then Some (change.Removal object)
    else Some (change.Insertion object parent)

-- a machine can't make a change: there is none, its instruction lies in dynamic memory, or its story could not
pub data IsUnchangeable (s : Session) : Option Change → Type 0 where
  NoChange : IsUnchangeable s None
  Low : (c : Change) → s.state.pc < s.state.game.memory.static_base → IsUnchangeable s (Some c)
  Refused : (c : Change) (e : Fault) → changed_by c s.state.game.memory ≡ Err e → IsUnchangeable s (Some c)

-- a change was made
abbrev pub IsMade : Option Change → Session → Session → Type 0
IsMade None old new = ⊥
IsMade (Some c) old new = (old.state.game.memory.static_base ≤ old.state.pc) × IsChanged c old new

-- a play that waits for a line or a character was changed, and nothing else of it; or that is refused
abbrev pub IsChangedBy : Option Change → Play → Play → Result (Unit {0}) Refusal → Type 0
IsChangedBy c old new (Ok u) =
    HasSnapshot old.machine × IsMade c old.machine new.machine × (new ≡ record old { machine = new.machine })
IsChangedBy c old new (Err r) =
    (((r ≡ refused.NotAwaited) × (HasSnapshot old.machine → ⊥))
    ⊎ ((r ≡ refused.NotChanged) × (HasSnapshot old.machine × IsUnchangeable old.machine c)))
    × (new ≡ old)
