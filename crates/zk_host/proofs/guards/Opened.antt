use Rattle.std.specs.Prelude.{⊤}
use Rattle.zk_text.specs.Extra.{code_from, code_of}
use Rattle.zk_text.specs.Standard.{standard_characters}
use Rattle.zk_host.specs.Hashes.{hash_from}
use Rattle.zk_host.specs.Looking.{object_of, property_of}
use Rattle.zk_host.specs.Marks.{marked, so_marked, style_mark}

-- the definitions that are opened in examples
unfoldable pub examples : ⊤
unfolding hash_from object_of property_of marked so_marked style_mark code_from code_of standard_characters
examples = tt
