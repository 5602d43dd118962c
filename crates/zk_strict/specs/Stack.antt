-- What stands on the evaluation stack (Standard, section 6.3).
use Rattle.std.specs.Prelude.{ℕ, ◌-◌, nat_lt, length, slice_index, Option, Some, None, if◌then◌else◌}
use Rattle.zk_state.specs.Frames.{FrameList}

-- the word under the newest one of the evaluation stack
unfoldable pub word_under : FrameList → Option ℕ
word_under s =
    let ws = s.current.words in if nat_lt 1 (length ws) then Some (slice_index ws (length ws - 2)) else None
