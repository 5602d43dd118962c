-- Worked examples of fields, by hand.
use Rattle.std.specs.Prelude.{◌≡◌, codes}
use Rattle.std.specs.List.{flat_map}
use Rattle.zk_facts.specs.Rows.{escaped}

-- a tab, a new line and a backslash are two signs each, and nothing else is changed
abbrev pub FieldsAreEscaped : Type 0
FieldsAreEscaped =
    flat_map escaped (codes "a\tb\\n\nc^~") ≡ codes "a\\tb\\\\n\\nc^~"
