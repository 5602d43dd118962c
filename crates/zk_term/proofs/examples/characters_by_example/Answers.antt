use Rattle.std.proofs.Common.{refl}
use Rattle.std.specs.Char.{encode_utf8}
use Rattle.std.specs.Str.{chars, is_utf8}
use Rattle.zk_term.specs.Characters.{begins_with_characters, character_length, characters_past, characters_of}
use Rattle.zk_term.proofs.examples.characters_by_example.Goals as goal

pub returns-clause-characters_of_each_length : goal.returns-clause-characters_of_each_length
unfolding begins_with_characters character_length characters_past characters_of chars is_utf8 encode_utf8
returns-clause-characters_of_each_length c = (refl, refl, refl, refl, refl)

pub returns-clause-stray_bytes : goal.returns-clause-stray_bytes
unfolding begins_with_characters character_length characters_past characters_of chars is_utf8 encode_utf8
returns-clause-stray_bytes c = (refl, refl, refl, refl, refl, refl, refl, refl, refl)
