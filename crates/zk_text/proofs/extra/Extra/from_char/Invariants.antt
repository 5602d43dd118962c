use Rattle.std.proofs.Common.{◌≡◌, ◌+◌, drop}
use Rattle.zk_text.specs.Extra.{characters, code_from}
use Rattle.zk_text.proofs.extra.Extra.from_char.Given as goal

abbrev pub invariant-loop-i : goal.invariant-loop-i
invariant-loop-i l =
    code_from (drop l.i (characters l.self)) (155 + l.i) l.character ≡ code_from (characters l.self) 155 l.character
