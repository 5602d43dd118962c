-- The status that the program ends with.
use Rattle.std.specs.Prelude.{ℕ}
use Rattle.std.specs.IoError.{error_kind}
use Rattle.std.specs.declared.io.ErrorKind.{ErrorKind}
use Rattle.std.specs.declared.io.ErrorKind.TheVariants as kind
use Rattle.zk_mem.specs.declared.story.OpenError.{OpenError}
use Rattle.zk_mem.specs.declared.story.OpenError.TheVariants.{OutOfMemory}
use Rattle.zk_vm.specs.declared.stop.Stop.{Stop}
use Rattle.zk_vm.specs.declared.stop.Stop.TheVariants.{Quit, Fault, Limit, EndOfInput, Read, Write, Memory}
use Rattle.zk_program.specs.declared.exit.Exit.{Exit}
use Rattle.zk_program.specs.declared.exit.Exit.TheVariants.{Unread, Refused, Stopped, Found}

-- after a run
abbrev pub status_of : Stop → ℕ
status_of Quit = 0
status_of EndOfInput = 0
status_of (Fault a f) = 2
status_of (Limit a l) = 3
status_of Read = 4
status_of Write = 4
status_of Memory = 5

-- after a file that is no story
abbrev pub refused_status : OpenError → ℕ
refused_status OutOfMemory = 5
refused_status _ = 1

-- after a file that can't be read
abbrev pub unread_status : ErrorKind → ℕ
unread_status kind.OutOfMemory = 5
unread_status _ = 4

-- after a play, a listing or a check
abbrev pub exit_status : Exit → ℕ
exit_status (Unread e) = unread_status (error_kind e)
exit_status (Refused e) = refused_status e
exit_status (Stopped stop) = status_of stop
exit_status Found = 6
