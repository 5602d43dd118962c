-- What contracts see of what is cut off bytes.
use Rattle.zk_suite.specs.declared.walkthrough.Check.{Check}
use Rattle.zk_suite.specs.declared.walkthrough.Command.{Command as Typed}
use Rattle.zk_suite.specs.Scripts.{Asked, Command}

-- a check of the code as the definitions have it
abbrev pub check_seen : Check → Asked
check_seen c = record { commands = c.commands; line = c.line; wanted = c.wanted; text = c.text.now }

-- so with a command
abbrev pub command_seen : Typed → Command
command_seen c = record { line = c.line; text = c.text.now }
