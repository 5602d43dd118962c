use Rattle.std.specs.Prelude.{⊤}
use Rattle.zk_term.specs.Numbers.{hex_digits, address_digits, word_digits, byte_digits}
use Rattle.zk_inspect.specs.Ifid.{first_name, name_in_front, name_length, header_name, ifid_line}

-- the definitions that are opened in examples
unfoldable pub examples : ⊤
unfolding hex_digits address_digits word_digits byte_digits first_name name_in_front name_length header_name
    ifid_line
examples = tt
