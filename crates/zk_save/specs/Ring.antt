-- How states are kept: in a ring, with the newest last, each with its difference packed.
use Rattle.std.specs.Prelude.{◌≡◌, ℕ, ◌≤◌, List, [], length, reverse, unwrap_or, Option, Some, None}
use Rattle.circular_buffer.specs.Buffer.{Buffer}
use Rattle.zk_save.specs.Packing.{packed}
use Rattle.zk_save.specs.Unpacking.{unpacked}
use Rattle.zk_save.specs.States.{KeptState, UndoStates}
use Rattle.zk_save.specs.declared.packed_state.PackedState.TheInside as PackedState
use Rattle.zk_save.specs.declared.undo.Undo.TheInside as Undo

-- the bytes that packed bytes are of
unfoldable pub bytes_in : List ℕ → ℕ → List ℕ
bytes_in cs n = unwrap_or (unpacked n cs) []

-- a kept state that contracts speak of
abbrev pub kept_seen : PackedState.Inside → KeptState
kept_seen k = record { difference = bytes_in k.packed.items k.length; frames = k.frames; pc = k.pc }

-- the memory of a kept state is packed
pub record IsPacked (k : PackedState.Inside) : Type 0 where
  pub packing : packed (bytes_in k.packed.items k.length) ≡ k.packed.items
  pub long : length (bytes_in k.packed.items k.length) ≡ k.length

-- the states of a ring, newest first; without a ring there are none
abbrev pub ring_states : Option (Buffer KeptState) → List KeptState
ring_states None = []
ring_states (Some b) = reverse b.items

abbrev pub undo_seen : Undo.Inside → UndoStates
undo_seen u = record { states = ring_states u.ring; most = u.most }

-- there is a ring for as many states as there may be, unless there may be none
abbrev pub RingFits : Option (Buffer KeptState) → ℕ → Type 0
RingFits None n = n ≡ 0
RingFits (Some b) n = (b.capacity ≡ n) × (length b.items ≤ n) × (1 ≤ n)

-- at most as many states as there may be, which are at most 64
pub record IsRing (u : Undo.Inside) : Type 0 where
  pub fits : RingFits u.ring u.most
  pub few : u.most ≤ 64
