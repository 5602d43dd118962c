use Rattle.std.specs.Prelude.{⊤}
use Rattle.zk_tables.specs.Copying.{table_copied, copied_forwards}
use Rattle.zk_tables.specs.Runs.{places, bytes_read, bytes_stored}
use Rattle.zk_mem.specs.Map.{byte_at, byte_put, word_at, word_put, cell_at, code_word_at}
use Rattle.zk_tables.specs.Rectangles.{row_at, rows_from, rows_of, more_rows, joined_rows}
use Rattle.zk_tables.specs.Layout.{layout_of, is_entry_in, is_entry, entry_of, entries_in, entries}
use Rattle.zk_mem.specs.Header.{header_of, unit_length}
use Rattle.zk_tables.specs.Attributes.{attribute_at, attribute_put}
use Rattle.zk_tables.specs.Links.{address_of, object_number_at, number_put, link_at, link_put, write_test}
use Rattle.zk_tables.specs.Tree.{naming_among, naming_of, unlinked, unlinked_where, removed, linked, inserted}
use Rattle.zk_tables.specs.Chain.{chain_from, children_of}
use Rattle.zk_tables.specs.Properties.{table_of, list_of, property_of, default_of, property_value, property_address_of}
use Rattle.zk_tables.specs.Properties.{next_property_of, property_put, property_length_of, name_of}
use Rattle.zk_tables.specs.PropertyList.{list_byte, property_by, property_at, properties_from, properties_at, found_at}
use Rattle.zk_tables.specs.PropertyList.{first_number_from, first_number_at, number_after_at}
use Rattle.zk_tables.specs.Dictionaries.{dictionary_byte, dictionary_word, dictionary_by, dictionary_at, bytes_from}
use Rattle.zk_tables.specs.Dictionaries.{separators_of, begins_with, has_key, found_from, found_in, is_above}
use Rattle.zk_tables.specs.Dictionaries.{do_not_fall, keys_from}
use Rattle.zk_tables.specs.Halves.{halved, halved_whole, found_by_halves, compared_by_halves}
use Rattle.zk_tables.specs.Tokens.{is_separator, is_letter, run, token_here, tokens_from, tokens}
use Rattle.zk_tables.specs.Parsing.{letters_counted, letters_to_zero, letters_of, block_put, blocks_put, words_put}

-- the definitions that are opened in examples
unfoldable pub examples : ⊤
unfolding table_copied copied_forwards places bytes_read bytes_stored byte_at byte_put row_at rows_from rows_of
    more_rows joined_rows layout_of is_entry_in is_entry entry_of entries_in entries header_of unit_length word_at
    word_put cell_at code_word_at attribute_at attribute_put address_of object_number_at number_put link_at link_put
    write_test naming_among naming_of unlinked unlinked_where removed linked inserted chain_from children_of
    table_of list_of property_of default_of property_value property_address_of next_property_of property_put
    property_length_of name_of list_byte property_by property_at properties_from properties_at found_at
    first_number_from first_number_at number_after_at dictionary_byte dictionary_word dictionary_by dictionary_at
    bytes_from separators_of begins_with has_key found_from found_in is_above do_not_fall keys_from halved
    halved_whole found_by_halves compared_by_halves is_separator is_letter run token_here tokens_from tokens
    letters_counted letters_to_zero letters_of block_put blocks_put words_put
examples = tt

-- the definitions that are opened in first not below
unfoldable pub in_first_not_below : ⊤
unfolding halved_whole
in_first_not_below = tt

-- the definitions that are opened in entry in
unfoldable pub in_entry_in : ⊤
unfolding entry_of is_entry is_entry_in
in_entry_in = tt

-- the definitions that are opened in next property
unfoldable pub in_next_property : ⊤
unfolding next_property_of
in_next_property = tt

-- the definitions that are opened in read separators
unfoldable pub in_read_separators : ⊤
unfolding separators_of
in_read_separators = tt
