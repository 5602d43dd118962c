use Rattle.std.specs.Prelude.{⊤}
use Rattle.zk_names.specs.Nodes.{child, number_in, number_of, text_in}
use Rattle.zk_names.specs.Said.{kind_of}

-- the definitions that are opened in examples
unfoldable pub examples : ⊤
unfolding child number_in number_of text_in kind_of
examples = tt
