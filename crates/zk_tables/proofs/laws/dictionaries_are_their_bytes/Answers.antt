use Rattle.zk_tables.proofs.Finding.{read_stands}
use Rattle.zk_tables.proofs.guards.Lasting.{dictionaries_are_their_bytes}
use Rattle.zk_tables.proofs.laws.dictionaries_are_their_bytes.Goals as goal

pub returns-clause-read : goal.returns-clause-read
returns-clause-read c = read_stands

pub returns-clause-same : goal.returns-clause-same
returns-clause-same c = dictionaries_are_their_bytes
