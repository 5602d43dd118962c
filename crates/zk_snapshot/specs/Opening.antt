-- How a snapshot is refused.
use Rattle.std.specs.Prelude.{◌≡◌, ◌⊎◌, not, ℕ, List, [], ◌∷◌, take, drop, Option, Some, None, if◌then◌else◌}
use Rattle.std.specs.Str.{bytes_eq}
use Rattle.zk_snapshot.specs.declared.opening.SnapshotError.{SnapshotError}
use Rattle.zk_snapshot.specs.declared.opening.SnapshotError.TheVariants.{NotASnapshot, OtherVersion, OtherStory}
use Rattle.zk_snapshot.specs.declared.opening.SnapshotError.TheVariants.{Damaged, OutOfMemory}
use Rattle.zk_snapshot.specs.Snapshots.{name_bytes, version_byte, story_bytes, snapshot_with, HasSnapshot}
use Rattle.zk_term.specs.Grid.{no_cells}
use Rattle.zk_term.specs.Windows.{Windows}
use Rattle.zk_vm.specs.Sessions.{Session}

-- what the first 23 bytes are refused for, in this order: the name, the version, the story
unfoldable pub head_refusal : List ℕ → List ℕ → Option SnapshotError
head_refusal story bytes =
    if not (bytes_eq (take 4 bytes) name_bytes) then Some NotASnapshot
    else if not (bytes_eq (take 1 (drop 4 bytes)) (version_byte ∷ [])) then Some OtherVersion
    else if not (bytes_eq (take 18 (drop 5 bytes)) (story_bytes story)) then Some OtherStory
    else None

-- the refusal of a snapshot, where it is not for lack of memory: what its first bytes are refused for, or it is damaged
abbrev pub refusal_by : Option SnapshotError → SnapshotError
refusal_by None = Damaged
refusal_by (Some e) = e

abbrev pub IsRefused : List ℕ → List ℕ → SnapshotError → Type 0
IsRefused story bytes e = (e ≡ OutOfMemory) ⊎ (e ≡ refusal_by (head_refusal story bytes))

-- no grid is gone
abbrev pub NothingGone : Windows → Type 0
NothingGone w = (w.gone ≡ no_cells) × (w.gone_height ≡ 0)

-- a machine of a story has a snapshot, and no grid that is gone
pub record IsMade (story : List ℕ) (s : Session) : Type 0 where
  pub waits : HasSnapshot s
  pub story_is : s.state.game.memory.file ≡ story
  pub gone : NothingGone s.state.game.windows

-- such a machine has these bytes as its snapshot with all states that it can go back to
pub record IsOpened (story bytes : List ℕ) (s : Session) : Type 0 where
  pub head : head_refusal story bytes ≡ None
  pub made : IsMade story s
  pub same : snapshot_with s.state.undo s ≡ bytes
