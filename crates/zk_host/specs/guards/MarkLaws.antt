-- What always holds of marks and of runs.
use Rattle.std.specs.Prelude.{◌≡◌, ◌+◌, List, length, encode_utf8_all}
use Rattle.zk_term.specs.Signals.{Signal, screen_text}
use Rattle.zk_host.specs.declared.collected.Collected.{Collected}
use Rattle.zk_host.specs.Marks.{Marks, marked, run_of, run_told}

-- each byte of the screen's text gets a mark
abbrev pub BytesHaveMarks : Type 0
BytesHaveMarks = (l : List Signal) (m : Marks) →
    length (marked l m).bytes ≡ length m.bytes + length (encode_utf8_all (screen_text l))

-- once a run was told, what came before it is not told again
abbrev pub BeforeIsToldOnce : Type 0
BeforeIsToldOnce = (c : Collected) → (run_of (run_told c)).before ≡ 0
