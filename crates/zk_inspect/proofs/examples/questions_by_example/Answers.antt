-- Links, chains and lists are computed.
use Rattle.std.proofs.Common.{refl}
use Rattle.zk_mem.specs.Map.{byte_at, word_at}
use Rattle.zk_mem.specs.Header.{header_of}
use Rattle.zk_tables.specs.Layout.{layout_of, is_entry_in, is_entry, entry_of, entries_in, entries}
use Rattle.zk_tables.specs.Links.{address_of, object_number_at, link_at}
use Rattle.zk_tables.specs.Chain.{chain_from, children_of}
use Rattle.zk_tables.specs.PropertyList.{list_byte, property_by, property_at, properties_from, properties_at}
use Rattle.zk_tables.specs.Properties.{table_of, list_of, properties_of}
use Rattle.zk_inspect.proofs.examples.questions_by_example.Goals as goal

pub returns-clause-links_past_the_last : goal.returns-clause-links_past_the_last
unfolding byte_at word_at header_of layout_of is_entry_in is_entry entry_of address_of object_number_at link_at
returns-clause-links_past_the_last c = (refl, refl, refl, refl, refl, refl)

pub returns-clause-questions_on_objects : goal.returns-clause-questions_on_objects
unfolding byte_at word_at header_of layout_of is_entry_in is_entry entry_of entries_in entries address_of
    object_number_at link_at chain_from children_of list_byte property_by property_at properties_from properties_at
    table_of list_of properties_of
returns-clause-questions_on_objects c = (refl, refl, refl, refl, refl, refl, refl, refl)
