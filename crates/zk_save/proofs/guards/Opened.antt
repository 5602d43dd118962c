use Rattle.std.specs.Prelude.{⊤}
use Rattle.zk_save.specs.Packing.{runs_of, without_last_zeros, pairs, spelled, packed}
use Rattle.zk_save.specs.Unpacking.{given, unpacked, xored}
use Rattle.zk_save.specs.States.{states_in, gone_back}
use Rattle.zk_save.specs.Quetzal.{chunk_bytes, form_bytes, story_checksum, story_content, frame_bytes, first_bytes}
use Rattle.zk_save.specs.Quetzal.{stack_content, memory_part, saved}
use Rattle.zk_mem.specs.Header.{header_of, unit_length}
use Rattle.zk_mem.specs.Checksum.{file_sum}
use Rattle.zk_save.specs.Reading.{number_behind, words_of, first_chunk, each_up_to, chunks_in, content_of, arguments_in}
use Rattle.zk_save.specs.Reading.{first_of_frames, frames_read}
use Rattle.zk_save.specs.Loading.{memory_chunk, parts_of, form_in, is_of_story, dynamic_in, loaded, put_in_place}
use Rattle.zk_state.specs.Frames.{sizes_of, within_bounds}

-- the definitions that are opened in examples
unfoldable pub examples : ⊤
unfolding runs_of without_last_zeros pairs spelled packed given unpacked xored states_in gone_back chunk_bytes
    form_bytes story_checksum story_content frame_bytes first_bytes stack_content memory_part saved header_of
    unit_length file_sum number_behind words_of first_chunk each_up_to chunks_in content_of arguments_in
    first_of_frames frames_read memory_chunk parts_of form_in is_of_story dynamic_in loaded put_in_place sizes_of
    within_bounds
examples = tt
