-- What a host sees of a play, which stays as it is.
use Rattle.std.specs.Prelude.{◌≡◌, ◌<◌, ◌≤◌, ◌↔◌, ◌⊎◌, ℕ, List, [], length, take, drop, reverse, slice_get, unwrap_or}
use Rattle.std.specs.Prelude.{IfSome, nat_lt, Option, Some, None, Result, Ok, Err, if◌then◌else◌}
use Rattle.zk_mem.specs.declared.fault.Fault.{Fault}
use Rattle.zk_mem.specs.declared.fault.Fault.TheVariants.{BadObject, BadProperty}
use Rattle.zk_mem.specs.Map.{MemoryMap}
use Rattle.zk_mem.specs.Results.{◌>>=◌}
use Rattle.zk_state.specs.Frames.{Frame, frames_of, total_of}
use Rattle.zk_tables.specs.Layout.{entry_of}
use Rattle.zk_tables.specs.Links.{link_at, parent_of, sibling_of, child_of}
use Rattle.zk_tables.specs.Properties.{table_of, next_property_of, property_address_of, property_length_of}
use Rattle.zk_inspect.specs.Objects.{IsListed}
use Rattle.zk_vm.specs.Calls.{IsRoutineWith, StandsCallTo}
use Rattle.zk_vm.specs.Sessions.{Session}
use Rattle.zk_host.specs.declared.looking.FrameFigures.{FrameFigures}
use Rattle.zk_host.specs.declared.looking.ObjectFigures.{ObjectFigures}
use Rattle.zk_host.specs.declared.looking.PlaceFigures.{PlaceFigures}
use Rattle.zk_host.specs.declared.looking.PropertyFigures.{PropertyFigures}
use Rattle.zk_host.specs.Hashes.{hash_of}

-- ---- where it stands

-- the address of the instruction that waits or comes next, how many routines that were called are open and how many
-- words they hold, how many states there are to go back to, and the steps and reads that the limits count
abbrev pub place_figures : Session → PlaceFigures
place_figures s = record {
  address = s.state.pc;
  depth = length s.state.game.frames.callers;
  words = total_of s.state.game.frames;
  states = length s.state.undo;
  steps = s.state.steps;
  reads = s.state.reads;
}

-- the frame of a number: the first has 0
abbrev pub frame_numbered : Session → ℕ → Option Frame
frame_numbered s n = slice_get (reverse (frames_of s.state.game.frames)) n

abbrev pub locals_of : Option Frame → List ℕ
locals_of None = []
locals_of (Some f) = f.locals

abbrev pub words_of : Option Frame → List ℕ
words_of None = []
words_of (Some f) = f.words

-- a frame is told: where its caller goes on, how many local variables and words of its evaluation stack it has, and how
-- many arguments it was given (Standard, section 6.1); the routine and the call that began it, or 0 where they are not
-- known
pub record IsShown (m : MemoryMap) (f : Frame) (t : FrameFigures) : Type 0 where
  pub goes_on : t.goes_on ≡ f.pc
  pub locals : t.locals ≡ length f.locals
  pub words : t.words ≡ length f.words
  pub supplied : t.supplied ≡ f.supplied
  pub routine : Option ℕ
  pub routine_is : t.routine ≡ unwrap_or routine 0
  pub begins : IfSome routine (IsRoutineWith m (length f.locals))
  pub call : Option ℕ
  pub call_is : t.call ≡ unwrap_or call 0
  pub calls : IfSome call (StandsCallTo m routine f.pc)

-- the frame of a number is told, if there is one
abbrev pub IsFrame : Session → ℕ → Option FrameFigures → Type 0
IsFrame s n None = length s.state.game.frames.callers < n
IsFrame s n (Some t) = (f : Frame) × (frame_numbered s n ≡ Some f) × IsShown s.state.game.memory f t

-- ---- objects (Standard, section 12)

-- an object as it stands: where its entry and its property table begin, and its place in the tree
unfoldable pub object_of : MemoryMap → ℕ → Result ObjectFigures Fault
object_of m o = do
  entry ← entry_of m o
  parent ← link_at m (parent_of o)
  sibling ← link_at m (sibling_of o)
  child ← link_at m (child_of o)
  properties ← table_of m o
  Ok (record { entry = entry; parent = parent; sibling = sibling; child = child; properties = properties })

-- a property of an object: the number of the next one, where its data begins and how many bytes it has; of number 0 the
-- next one is the first
unfoldable pub property_of : MemoryMap → ℕ → ℕ → Result PropertyFigures Fault
property_of m o n = do
  next ← next_property_of m o n
  address ← property_address_of m o n
  size ← property_length_of m address
  Ok (record { next = next; address = address; length = size })

-- so many objects a story has: those that are listed
unfoldable pub AreListed : MemoryMap → ℕ → Type 0
AreListed m n = (o entry : ℕ) → IsListed m o entry ↔ ((o ≤ n) × (entry_of m o ≡ Ok entry))

abbrev pub AreObjects : Session → ℕ → Type 0
AreObjects s n = AreListed s.state.game.memory n

-- numbers have 16 bits
abbrev pub object_numbered : MemoryMap → ℕ → Result ObjectFigures Fault
object_numbered m o = if nat_lt o 65536 then object_of m o else Err BadObject

abbrev pub property_numbered : MemoryMap → ℕ → ℕ → Result PropertyFigures Fault
property_numbered m o n =
    if nat_lt o 65536 then (if nat_lt n 65536 then property_of m o n else Err BadProperty) else Err BadObject

-- ---- what a call answers

-- figures were told, or there are none
abbrev pub IsTold : {X : Type 0} → Result X Fault → X → X → ℕ → Type 0
IsTold {X} (Ok x) before after n = (n ≡ 0) × (after ≡ x)
IsTold {X} (Err e) before after n = (n ≡ 11) × (after ≡ before)

abbrev pub IsFrameTold : Session → ℕ → FrameFigures → FrameFigures → ℕ → Type 0
IsFrameTold s number before after n =
    ((n ≡ 0) × IsFrame s number (Some after)) ⊎ ((n ≡ 11) × IsFrame s number None × (after ≡ before))

-- the hash of so many bytes of memory from an address on, as they are now
abbrev pub hash_at : MemoryMap → ℕ → ℕ → ℕ
hash_at m address count = hash_of (take count (drop address m.bytes))
