-- Worked examples of what a debugging file says of addresses, lines and names, by hand.
use Rattle.std.specs.Prelude.{◌≡◌, ℕ, List, Option, true, false, [], ◌∷◌, Some, None, codes}
use Rattle.zk_names.specs.Documents.{Element}
use Rattle.zk_names.specs.Nodes.{Node, is_child, nodes, number_in, number_of, text_in}
use Rattle.zk_names.specs.Places.{address_on, is_in, last_before, routine_from, routine_named}
use Rattle.zk_names.specs.Said.{kept, kind_of, thing_kind}
use Rattle.zk_names.specs.Things.{array_at, array_from, has_byte, named_of}
use Rattle.zk_names.specs.declared.named.Array.{Array}
use Rattle.zk_names.specs.declared.named.Kind.{Kind}
use Rattle.zk_names.specs.declared.named.Kind.TheVariants.{Attribute, Global, Object, Property}
use Rattle.zk_names.specs.declared.named.Named.{Named}
use Rattle.zk_names.specs.declared.names.Place.{Place}
use Rattle.zk_names.specs.declared.names.Point.{Point}
use Rattle.zk_names.specs.declared.names.Routine.{Routine}

-- a routine at 100 of 20 bytes has the addresses from 100 to 119
abbrev pub RoutinesHaveRanges : Type 0
RoutinesHaveRanges = (r : Routine) → r.address ≡ 100 → r.length ≡ 20
    → (is_in r 99 ≡ false) × (is_in r 100 ≡ true) × (is_in r 119 ≡ true) × (is_in r 120 ≡ false)

-- a sequence point at an address, on the line of a number
abbrev pub at : ℕ → ℕ → Point
at address line = record { address = address; place = record { file = 0; line = line } }

-- the last one at or before an address is taken, and of two at one address the second one
abbrev pub LastPointsAreTaken : Type 0
LastPointsAreTaken =
    (last_before 100 (at 101 7 ∷ at 110 9 ∷ []) ≡ None)
    × (last_before 101 (at 101 7 ∷ at 110 9 ∷ []) ≡ Some (at 101 7))
    × (last_before 109 (at 101 7 ∷ at 110 9 ∷ []) ≡ Some (at 101 7))
    × (last_before 110 (at 101 7 ∷ at 110 8 ∷ at 110 9 ∷ []) ≡ Some (at 110 9))
    × (last_before 200 (at 101 7 ∷ at 110 9 ∷ []) ≡ Some (at 110 9))
    × (last_before 100 [] ≡ None)

-- of a line the first sequence point counts, and no other file's
abbrev pub FirstPointsOfLines : Type 0
FirstPointsOfLines =
    (address_on (at 101 7 ∷ at 110 9 ∷ at 120 9 ∷ []) 0 9 ≡ Some 110)
    × (address_on (at 101 7 ∷ at 110 9 ∷ at 120 9 ∷ []) 1 9 ≡ None)
    × (address_on (at 101 7 ∷ at 110 9 ∷ at 120 9 ∷ []) 0 8 ≡ None)

-- a routine of 20 bytes with a name, at an address
abbrev pub called : List ℕ → ℕ → Routine
called name address =
    record {
      name = record { ref_ptr = (0, 0); now = name };
      address = address;
      length = 20;
      place = None;
      first_point = 0;
      points = 0;
      first_local = 0;
      locals = 0;
    }

-- a routine is found by its first byte alone, and by its whole name
abbrev pub RoutinesAreFound : Type 0
RoutinesAreFound =
    let all : List Routine = called (codes "Go") 100 ∷ called (codes "G") 120 ∷ called (codes "G") 140 ∷ [] in
    (routine_from all 100 ≡ Some (called (codes "Go") 100)) × (routine_from all 101 ≡ None)
    × (routine_from all 120 ≡ Some (called (codes "G") 120))
    × (routine_named all (codes "G") ≡ Some (called (codes "G") 120)) × (routine_named all (codes "g") ≡ None)

-- an array of 10 bytes at 200 has those from 200 to 209
abbrev pub ArraysHaveRanges : Type 0
ArraysHaveRanges = (a : Array) → a.address ≡ 200 → a.length ≡ 10
    → (has_byte a 199 ≡ false) × (has_byte a 200 ≡ true) × (has_byte a 209 ≡ true) × (has_byte a 210 ≡ false)

-- an array of 10 bytes at an address
abbrev pub array : ℕ → ℕ → Array
array address element =
    record {
      name = record { ref_ptr = (0, 0); now = codes "a" };
      address = address;
      length = 10;
      element = element;
      place = None;
    }

-- of arrays with an address the first one counts
abbrev pub FirstArraysAreTaken : Type 0
FirstArraysAreTaken =
    (array_at (array 200 1 ∷ array 205 2 ∷ []) 206 ≡ Some (array 200 1))
    × (array_from (array 200 1 ∷ array 205 2 ∷ []) 205 ≡ Some (array 205 2))
    × (array_from (array 200 1 ∷ array 205 2 ∷ []) 206 ≡ None)
    × (array_at (array 200 1 ∷ array 205 2 ∷ []) 215 ≡ None)

-- a thing of a kind with a value, and its place
abbrev pub thing : Kind → List ℕ → ℕ → Option Place → Named
thing kind name value place =
    record { kind = kind; name = record { ref_ptr = (0, 0); now = name }; value = value; place = place }

-- the first name that the source gives comes before the compiler's own ones, of one kind
abbrev pub NamesOfTheSourceAreFirst : Type 0
NamesOfTheSourceAreFirst =
    let line : ℕ → Option Place = λ n. Some (record { file = 0; line = n }) in
    let all : List Named = thing Object (codes "hat") 5 (line 3) ∷ thing Global (codes "sys") 5 None
    ∷ thing Global (codes "here") 5 (line 9) ∷ thing Global (codes "there") 5 (line 7)
    ∷ thing Global (codes "sw") 6 None ∷ thing Global (codes "sx") 6 None ∷ [] in
    (named_of all Global 5 ≡ Some (thing Global (codes "here") 5 (line 9)))
    × (named_of all Global 6 ≡ Some (thing Global (codes "sw") 6 None))
    × (named_of all Object 5 ≡ Some (thing Object (codes "hat") 5 (line 3)))
    × (named_of all Property 5 ≡ None) × (named_of all Attribute 5 ≡ None)

-- numbers are decimal digits, with spaces around them
abbrev pub NumbersAreDigits : Type 0
NumbersAreDigits =
    (number_of (codes "  42 ") ≡ Some 42) × (number_of (codes "007") ≡ Some 7) × (number_of (codes " ") ≡ None)
    × (number_of (codes "-1") ≡ None) × (number_of (codes "+1") ≡ None) × (number_of (codes "7 7") ≡ None)
    × (number_of (codes "0x7") ≡ None) × (number_of (codes "4294967295") ≡ Some 4294967295)
    × (number_of (codes "4294967296") ≡ None)

-- an element in so many others
abbrev pub element : ℕ → List ℕ → List ℕ → Element
element depth tag text = record { depth = depth; tag = tag; text = text }

-- two elements in the outermost one: in the first lie two, and in one of these another one
abbrev pub document : List Element
document =
    element 0 (codes "all") [] ∷ element 1 (codes "routine") []
    ∷ element 2 (codes "part") [] ∷ element 3 (codes "address") (codes "8")
    ∷ element 2 (codes "address") (codes " 0") ∷ element 2 (codes "address") (codes "9")
    ∷ element 1 (codes "routine") [] ∷ element 2 (codes "address a=\"b\"") (codes "6") ∷ []

-- the nodes of the routines
abbrev pub left_out : Node
left_out =
    record {
      element = element 1 (codes "routine") [];
      inside = element 2 (codes "part") [] ∷ element 3 (codes "address") (codes "8")
          ∷ element 2 (codes "address") (codes " 0") ∷ element 2 (codes "address") (codes "9") ∷ [];
    }

abbrev pub put_in : Node
put_in =
    record {
      element = element 1 (codes "routine") [];
      inside = element 2 (codes "address a=\"b\"") (codes "6") ∷ [];
    }

-- what lies in an element ends with the next one beside it; the first child of a name counts, and no deeper one
abbrev pub ElementsHaveParts : Type 0
ElementsHaveParts =
    (nodes (is_child 0 (codes "routine")) document ≡ left_out ∷ put_in ∷ [])
    × (nodes (is_child 0 (codes "address")) document ≡ []) × (nodes (is_child 0 (codes "all")) document ≡ [])
    × (text_in (codes "address") left_out ≡ Some (codes " 0")) × (text_in (codes "add") left_out ≡ None)
    × (number_in (codes "address") put_in ≡ Some 6) × (number_in (codes "part") left_out ≡ None)

-- a routine at the address 0 is not in the story
abbrev pub RoutinesAreLeftOut : Type 0
RoutinesAreLeftOut = kept (nodes (is_child 0 (codes "routine")) document) ≡ put_in ∷ []

-- classes are objects, and constants nothing that is named here
abbrev pub KindsHaveNames : Type 0
KindsHaveNames =
    (kind_of (codes "global-variable") ≡ Some Global) × (kind_of (codes "object") ≡ Some Object)
    × (kind_of (codes "class") ≡ Some Object) × (kind_of (codes "property") ≡ Some Property)
    × (kind_of (codes "attribute") ≡ Some Attribute) × (kind_of (codes "constant") ≡ None)
    × (thing_kind (element 1 (codes "class") []) ≡ Some Object)
    × (thing_kind (element 2 (codes "class") []) ≡ None)
