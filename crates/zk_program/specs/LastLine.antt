-- The last line on standard error.
use Rattle.std.specs.Prelude.{◌⊎◌, Bool, ℕ, List, [], ◌∷◌, ◌++◌, codes, decimal, if◌then◌else◌}
use Rattle.std.specs.IoError.{error_kind}
use Rattle.std.specs.declared.io.ErrorKind.{ErrorKind}
use Rattle.std.specs.declared.io.ErrorKind.TheVariants as kind
use Rattle.zk_mem.specs.declared.story.OpenError.{OpenError}
use Rattle.zk_mem.specs.declared.story.OpenError.TheVariants.{OutOfMemory}
use Rattle.zk_mem.specs.Faults.{fault_number}
use Rattle.zk_mem.specs.Story.{refusal_number}
use Rattle.zk_state.specs.Limits.{limit_number}
use Rattle.zk_term.specs.Devices.{Device, Took}
use Rattle.zk_term.specs.Numbers.{address_digits}
use Rattle.zk_vm.specs.declared.stop.Stop.{Stop}
use Rattle.zk_vm.specs.declared.stop.Stop.TheVariants.{Quit, Fault, Limit, EndOfInput, Read, Write, Memory}
use Rattle.zk_program.specs.declared.exit.Exit.{Exit}
use Rattle.zk_program.specs.declared.exit.Exit.TheVariants.{Unread, Refused, Stopped, Found}

-- a line of the program, which ends with a new line (10)
abbrev pub line : List ℕ → List ℕ
line text = codes "zkit: " ++ text ++ 10 ∷ []

-- a numbered cause at an address, as `fault 8 at 04f2a`
abbrev pub cause_at : List ℕ → ℕ → ℕ → List ℕ
cause_at cause number a = cause ++ decimal number ++ codes " at " ++ address_digits a

-- after a run: nothing where the story or its input has ended
abbrev pub stop_line : Stop → List ℕ
stop_line Quit = []
stop_line EndOfInput = []
stop_line (Fault a f) = line (cause_at (codes "fault ") (fault_number f) a)
stop_line (Limit a l) = line (cause_at (codes "limit ") (limit_number l) a)
stop_line Read = line (codes "read failed")
stop_line Write = line (codes "write failed")
stop_line Memory = line (codes "out of memory")

-- after a file that is no story
abbrev pub refused_words : OpenError → List ℕ
refused_words OutOfMemory = codes "out of memory"
refused_words e = codes "refused " ++ decimal (refusal_number e)

-- after a file that can't be read
abbrev pub unread_words : ErrorKind → List ℕ
unread_words kind.OutOfMemory = codes "out of memory"
unread_words _ = codes "read failed"

-- after a play, a listing or a check; what was found stands on the screen
abbrev pub last_line : Exit → List ℕ
last_line (Unread e) = line (unread_words (error_kind e))
last_line (Refused e) = line (refused_words e)
last_line (Stopped stop) = stop_line stop
last_line Found = []

-- more can be said of an ending than its last line says
abbrev pub IsExplained : Exit → Type 0
IsExplained (Unread e) = Unit {0}
IsExplained (Refused e) = Unit {0}
IsExplained (Stopped (Fault a f)) = Unit {0}
IsExplained (Stopped (Limit a l)) = Unit {0}
IsExplained (Stopped Read) = Unit {0}
IsExplained (Stopped Write) = Unit {0}
IsExplained _ = ⊥

-- a line in words, perhaps after a new line, since the screen may stand in the middle of one
abbrev pub words_line : Bool → List ℕ → List ℕ
words_line apart words = if apart then 10 ∷ line words else line words

-- a device was given a line in words on an ending, after a new line or not, or nothing
abbrev pub TookWords : Bool → Exit → Device → Device → Type 0
TookWords apart exit old new =
    Took old new [] ⊎ (IsExplained exit × (words : List ℕ) × Took old new (words_line apart words))

-- a device was given a line in words on an ending and then some text, or that text alone
abbrev pub TookExplained : Exit → List ℕ → Device → Device → Type 0
TookExplained exit text old new =
    Took old new text
    ⊎ (IsExplained exit × ((apart : Bool) × ((words : List ℕ) × Took old new (words_line apart words ++ text))))
