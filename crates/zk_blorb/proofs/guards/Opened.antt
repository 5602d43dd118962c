use Rattle.std.specs.Prelude.{⊤}
use Rattle.zk_blorb.specs.Blorb.{form_in, chunk_at, index_in, first_rows, executable_in, zcode_at, story_of}

-- the definitions that are opened in examples
unfoldable pub examples : ⊤
unfolding form_in chunk_at index_in first_rows executable_in zcode_at story_of
examples = tt
