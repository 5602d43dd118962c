-- What a debugging file says of global variables, objects, properties, attributes and arrays.
use Rattle.std.specs.Prelude.{ℕ, ◌+◌, ◌&&◌, ◌==◌, Bool, true, false, List, Option, is_some, nat_lt, nat_le}
use Rattle.std.specs.List.{find}
use Rattle.std.specs.Option.{option_or}
use Rattle.zk_names.specs.declared.named.Array.{Array}
use Rattle.zk_names.specs.declared.named.Kind.{Kind}
use Rattle.zk_names.specs.declared.named.Kind.TheVariants.{Attribute, Global, Object, Property}
use Rattle.zk_names.specs.declared.named.Named.{Named}

-- two kinds are the same
abbrev pub is_kind : Kind → Kind → Bool
is_kind Global Global = true
is_kind Object Object = true
is_kind Property Property = true
is_kind Attribute Attribute = true
is_kind _ _ = false

-- a name is of a thing of a kind, and stands for a value
abbrev pub is_thing : Kind → ℕ → Named → Bool
is_thing kind value n = is_kind n.kind kind && (n.value == value)

-- the same, and the source gives it: it has a place there
abbrev pub is_given : Kind → ℕ → Named → Bool
is_given kind value n = is_thing kind value n && is_some n.place

-- the name of a value of a kind: the first that the source gives, or else the first of all
abbrev pub named_of : List Named → Kind → ℕ → Option Named
named_of named kind value = option_or (find (is_given kind value) named) (find (is_thing kind value) named)

-- an array has a byte at an address
abbrev pub has_byte : Array → ℕ → Bool
has_byte a address = nat_le a.address address && nat_lt address (a.address + a.length)

-- the first array that has a byte at an address, and the first one that begins there
abbrev pub array_at : List Array → ℕ → Option Array
array_at arrays address = find (λ a. has_byte a address) arrays

abbrev pub array_from : List Array → ℕ → Option Array
array_from arrays address = find (λ a. a.address == address) arrays
