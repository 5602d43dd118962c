-- What the exported functions do to the play that a handle has.
use Rattle.std.specs.Prelude.{◌≡◌, ◌≤◌, ◌<◌, ℕ, List, length, drop, not, ◌++◌, ◌==◌, if◌then◌else◌, Option, Some, None}
use Rattle.std.specs.Prelude.{Result, Ok, Err, Bool}
use Rattle.zk_mem.specs.declared.story.OpenError.{OpenError}
use Rattle.zk_mem.specs.Story.{refusal, refusal_number}
use Rattle.zk_step.specs.declared.state.game_state.View.{View}
use Rattle.zk_step.specs.declared.state.game_state.View.TheVariants.{Plain, Upper}
use Rattle.zk_vm.specs.declared.limits.Limits.{Limits}
use Rattle.zk_vm.specs.declared.stop.Stop.{Stop}
use Rattle.zk_vm.specs.Answers.{Answer}
use Rattle.zk_vm.specs.Bounds.{AreInRange}
use Rattle.zk_vm.specs.declared.machine.changing.Change.{Change}
use Rattle.zk_vm.specs.Plays.{image_of}
use Rattle.zk_host.specs.declared.play.Asked.{Asked}
use Rattle.zk_host.specs.declared.play.Play.{Play}
use Rattle.std.specs.Global.{Box, Vec}
use Rattle.zk_host.specs.declared.play.SnapshotRefusal.{SnapshotRefusal}
use Rattle.zk_host.specs.declared.play.Refusal.{Refusal}
use Rattle.zk_mem.specs.declared.header.Header.{Header}
use Rattle.zk_vm.specs.Sessions.{Session}
use Rattle.zk_host.specs.declared.facts.Facts.{Facts}
use Rattle.zk_host.specs.declared.listing.Listing.{Listing}
use Rattle.zk_host.specs.declared.listing.Listing.TheVariants as listing
use Rattle.zk_host.specs.Calls.{awaited, begun_play, read_refused, IsGiven, IsGoneBack, IsOpenedFrom, IsRestored}
use Rattle.zk_host.specs.Calls.{IsBegunBeside, IsClone, IsNoting, IsPlayOpenedBeside, IsReseeded}
use Rattle.zk_host.specs.Calls.{IsSnapshot, IsTurned}
use Rattle.zk_host.specs.ListingRuns.{IsListedBy, IsListedFor, IsListedNow, with_none_listed}
use Rattle.zk_host.specs.Changing.{IsChangedBy}
use Rattle.zk_host.specs.Numbers.{answer_number, part_number, snapshot_number, turn_number, refused_number}

-- a handle has a play before and after, of which something holds; or it is closed and stays so, and something else
-- holds
abbrev pub OnPlay : Option Play → Option Play → (Play → Play → Type 0) → Type 0 → Type 0
OnPlay (Some old) (Some new) Does Closed = Does old new
OnPlay None None Does Closed = Closed
OnPlay None (Some new) Does Closed = ⊥
OnPlay (Some old) None Does Closed = ⊥

-- ---- opening

-- what is shown of the upper window, by whether it is
abbrev pub view_if : ℕ → View
view_if upper = if upper == 0 then Plain else Upper

-- the limits that numbers say; a screen has styles unless the last is 0
abbrev pub limits_said : ℕ → ℕ → ℕ → ℕ → ℕ → ℕ → Limits
limits_said frames words undo steps columns styles = record {
  frames = frames;
  words = words;
  undo = undo;
  steps = steps;
  screen = record { columns = columns; styles = not (styles == 0) };
}

-- numbers say limits in their ranges
pub record AreLimits (l : Limits) : Type 0 where
  pub in_range : AreInRange l
  pub frames_fit : l.frames ≤ 65535
  pub words_fit : l.words ≤ 65535
  pub columns_fit : l.screen.columns ≤ 255

-- a handle has a play of a story at its start, or is as it was, and a number says why
pub data IsOpened (old new : Option Play) (story : List ℕ) (seed : ℕ) (limits : Limits) (view : View) : ℕ → Type 0 where
  Opened : AreLimits limits → refusal story ≡ None → new ≡ Some (begun_play story seed limits view)
      → IsOpened old new story seed limits view 0
  NoStory : (e : OpenError) → refusal story ≡ Some e → new ≡ old → IsOpened old new story seed limits view
      (refusal_number e)
  NoMemory : AreLimits limits → refusal story ≡ None → new ≡ old → IsOpened old new story seed limits view 6
  NoLimits : (AreLimits limits → ⊥) → new ≡ old → IsOpened old new story seed limits view 7

-- ---- turns and answers

-- a turn and what is told of it
abbrev pub IsTurn : Play → Play → (steps room : ℕ) → ℕ → Type 0
IsTurn old new steps room n =
    (answer : Result Asked Stop) × (n ≡ turn_number answer) × IsTurned old new steps room answer

-- an answer and what is told of it, by why it is refused, if it is
abbrev pub IsAnswered : Option Refusal → Session → Play → Play → Answer → ℕ → Type 0
IsAnswered None before old new a n = (n ≡ 0) × IsGiven before old new a
IsAnswered (Some r) before old new a n = (n ≡ refused_number r) × (new ≡ old)

-- the same of an answer by a saved game
abbrev pub IsRestoring : Option Refusal → Play → Play → Answer → ℕ → Type 0
IsRestoring None old new a n = (n ≡ 0) × IsRestored old new a
IsRestoring (Some r) old new a n = (n ≡ refused_number r) × (new ≡ old)

-- a host has gone back, and what is told of it
abbrev pub IsUndo : Play → Play → ℕ → Type 0
IsUndo old new n = (result : Result (Unit {0}) Refusal) × (n ≡ answer_number result)
    × IsGoneBack (read_refused (awaited old)) old new result

-- ---- saved games

-- a file was put at the front of a buffer, and its length told; or there is no room for it, or no memory, and then the
-- buffer is as it was
pub data IsPut (file before after : List ℕ) (length_before length_after : ℕ) : ℕ → Type 0 where
  Whole : length_after ≡ length file → after ≡ file ++ drop (length file) before
      → IsPut file before after length_before length_after 0
  NoRoom : length_after ≡ length file → length before < length file → after ≡ before
      → IsPut file before after length_before length_after 3
  NoMemory : length_after ≡ length_before → after ≡ before → IsPut file before after length_before length_after 4

-- the saved game of a play that waits for it to be kept, by why it is refused, if it is; the play stays
abbrev pub IsImaged : Option Refusal → Play → Play → List ℕ → List ℕ → ℕ → ℕ → ℕ → Type 0
IsImaged None old new before after length_before length_after n =
    (new ≡ old) × IsPut (image_of old.machine) before after length_before length_after n
IsImaged (Some r) old new before after length_before length_after n =
    (new ≡ old) × (n ≡ refused_number r) × (after ≡ before) × (length_after ≡ length_before)

-- ---- snapshots

-- bytes were put at the front of a buffer, and their length told; or they are refused, and the buffer is as it was
abbrev pub IsPutUnless : Result (Vec ℕ) Refusal → List ℕ → List ℕ → ℕ → ℕ → ℕ → Type 0
IsPutUnless (Ok bytes) before after length_before length_after n =
    IsPut bytes.items before after length_before length_after n
IsPutUnless (Err r) before after length_before length_after n =
    (n ≡ refused_number r) × (after ≡ before) × (length_after ≡ length_before)

-- the snapshot of a play was put there, or it is refused; the play stays
abbrev pub IsSnapshotPut : Play → Play → (most : ℕ) → List ℕ → List ℕ → ℕ → ℕ → ℕ → Type 0
IsSnapshotPut old new most before after length_before length_after n =
    (result : Result (Vec ℕ) Refusal) × IsSnapshot old most result × IsPutUnless result before after length_before
    length_after n × (new ≡ old)

-- a handle has a play that goes on from a snapshot, or is as it was, and a number says why
abbrev pub IsHeld : Option Play → Option Play → Result (Box Play) SnapshotRefusal → ℕ → Type 0
IsHeld old new (Ok p) n = (n ≡ 0) × (new ≡ Some p.value)
IsHeld old new (Err r) n = (n ≡ snapshot_number r) × (new ≡ old)

-- the same, where the limits that the snapshot may have lie in their ranges; or they do not
pub data IsOpenedAgain (old new : Option Play) (story bytes : List ℕ) (most : Limits) : ℕ → Type 0 where
  InRange : (n : ℕ) (result : Result (Box Play) SnapshotRefusal) → AreLimits most
      → IsOpenedFrom story bytes most result → IsHeld old new result n → IsOpenedAgain old new story bytes most n
  NoLimits : (AreLimits most → ⊥) → new ≡ old → IsOpenedAgain old new story bytes most 7

-- ---- about a story

abbrev pub facts_of : Header → Facts
facts_of h = record { version = h.version; release = h.release; checksum = h.checksum }

-- a story is listed in at most so many bytes, by which listing is asked for, if there is one
abbrev pub IsListed : Option Listing → ℕ → Play → Play → ℕ → Type 0
IsListed None most old new n = (n ≡ 1) × (new ≡ with_none_listed old)
IsListed (Some listing) most old new n =
    (result : Result (Unit {0}) Refusal) × (n ≡ answer_number result) × IsListedBy listing most old new result

-- a part of a listing, and what is told of it: 13 where more is to come
abbrev pub IsListedPart : ℕ → Play → Play → ℕ → Type 0
IsListedPart number old new n =
    (result : Result Bool Refusal) × (n ≡ part_number result) × IsListedFor number old new result

-- an instruction of memory as it stands is listed
abbrev pub IsListedAt : ℕ → ℕ → Play → Play → ℕ → Type 0
IsListedAt a most old new n =
    (result : Result (Unit {0}) Refusal) × (n ≡ answer_number result)
    × IsListedNow (listing.Instruction a) most old new result

-- ---- plays of one story

-- limits are those that numbers say, if these lie in their ranges
abbrev pub AreSaid : Limits → Option Limits → Type 0
AreSaid limits None = AreLimits limits → ⊥
AreSaid limits (Some said) = (said ≡ limits) × AreLimits limits

-- a second handle has a play at the start of the story of another one, or is as it was, and a number says why
abbrev pub IsOpenedBeside : Play → Play → Option Play → Option Play → ℕ → Limits → View → ℕ → Type 0
IsOpenedBeside old new before after seed limits view n = (new ≡ old)
    × ((said : Option Limits) × (result : Result (Box Play) SnapshotRefusal) × AreSaid limits said
    × IsBegunBeside old.story seed said view result × IsHeld before after result n)

-- it has one that goes on from a snapshot of that story, or is as it was
abbrev pub IsResumedBeside : Play → Play → Option Play → Option Play → List ℕ → Limits → ℕ → Type 0
IsResumedBeside old new before after bytes most n = (new ≡ old)
    × ((said : Option Limits) × (result : Result (Box Play) SnapshotRefusal) × AreSaid most said
    × IsPlayOpenedBeside old.story bytes said result × IsHeld before after result n)

-- ---- clones

-- a second handle has a play that goes on from another one, or is as it was, and a number says why
abbrev pub IsHeldClone : Option Play → Option Play → Result (Box Play) Refusal → ℕ → Type 0
IsHeldClone before after (Ok p) n = (n ≡ 0) × (after ≡ Some p.value)
IsHeldClone before after (Err r) n = (n ≡ refused_number r) × (after ≡ before)

abbrev pub IsCloned : Play → Play → Option Play → Option Play → ℕ → Type 0
IsCloned old new before after n = (new ≡ old)
    × ((result : Result (Box Play) Refusal) × IsClone old result × IsHeldClone before after result n)

abbrev pub IsSeeded : ℕ → Play → Play → ℕ → Type 0
IsSeeded seed old new n =
    (result : Result (Unit {0}) Refusal) × (n ≡ answer_number result) × IsReseeded seed old new result

-- memory was changed, and what is told of it
abbrev pub IsChanging : Option Change → Play → Play → ℕ → Type 0
IsChanging c old new n =
    (result : Result (Unit {0}) Refusal) × (n ≡ answer_number result) × IsChangedBy c old new result

-- instructions are noted, and what is told of it
abbrev pub IsCovering : Play → Play → ℕ → Type 0
IsCovering old new n = (result : Result (Unit {0}) Refusal) × (n ≡ answer_number result) × IsNoting old new result
