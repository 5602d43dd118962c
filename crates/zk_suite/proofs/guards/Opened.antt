use Rattle.std.specs.Prelude.{⊤}
use Rattle.zk_suite.specs.Scripts.{comments, script, setting_in, typed, checks_after, commands_after}

-- the definitions that are opened in examples
unfoldable pub examples : ⊤
unfolding comments script setting_in typed checks_after commands_after
examples = tt
