use Rattle.std.specs.Prelude.{⊤}
use Rattle.zk_mem.specs.Map.{byte_at, word_at, byte_put, word_put, cell_at, code_word_at}
use Rattle.zk_mem.specs.Words.{words_in, words_at, text_end_at}
use Rattle.zk_mem.specs.Fresh.{with_fields, fresh}
use Rattle.zk_mem.specs.Header.{header_of, unit_length}
use Rattle.zk_mem.specs.Checksum.{file_sum, has_right_sum}
use Rattle.zk_mem.specs.Again.{settled, again, restarted}

-- the definitions that are opened in examples
unfoldable pub examples : ⊤
unfolding byte_at word_at byte_put word_put cell_at code_word_at words_in words_at text_end_at with_fields fresh
    header_of unit_length file_sum has_right_sum settled again restarted
examples = tt
