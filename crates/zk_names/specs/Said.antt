-- What the nodes of a debugging file say (Inform Technical Manual, "Debugging files").
use Rattle.std.specs.Prelude.{◌≡◌, ◌⊎◌, ℕ, ◌++◌, ◌==◌, Bool, List, [], ◌∷◌, Option, None, Some, Ok, codes}
use Rattle.std.specs.Prelude.{if◌then◌else◌, cond, drop, false, is_some, length, option_copied, take}
use Rattle.std.specs.List.{slice_get}
use Rattle.std.specs.Str.{bytes_eq}
use Rattle.base64.specs.Engines.{standard}
use Rattle.base64.specs.GeneralPurpose.{decode_of}
use Rattle.zk_names.specs.Documents.{Element, name_of}
use Rattle.zk_names.specs.Nodes.{Node, child, children, is_child, nodes, number_in, number_of, text_in}
use Rattle.zk_names.specs.declared.named.Array.{Array}
use Rattle.zk_names.specs.declared.named.Kind.{Kind}
use Rattle.zk_names.specs.declared.named.Kind.TheVariants.{Attribute, Global, Object, Property}
use Rattle.zk_names.specs.declared.named.Named.{Named}
use Rattle.zk_names.specs.declared.names.Local.{Local}
use Rattle.zk_names.specs.declared.names.Names.{Names}
use Rattle.zk_names.specs.declared.names.Place.{Place}
use Rattle.zk_names.specs.declared.names.Point.{Point}
use Rattle.zk_names.specs.declared.names.Routine.{Routine}
use Rattle.zk_names.specs.declared.names.Source.{Source}
use Rattle.zk_names.specs.declared.routines.Routines.{Routines}

-- each of nodes says one of things, in their order
abbrev pub SayEach : {T : Type 0} → (Node → T → Type 0) → List Node → List T → Type 0
SayEach Says [] [] = Unit {0}
SayEach Says [] (t ∷ ts) = ⊥
SayEach Says (n ∷ ns) [] = ⊥
SayEach Says (n ∷ ns) (t ∷ ts) = Says n t × SayEach Says ns ts

-- the tag of a file of the source, with its number
pub record IsSourceTag (tag : List ℕ) (index : ℕ) : Type 0 where
  pub digits : List ℕ
  pub whole : tag ≡ codes "source index=\"" ++ (digits ++ codes "\"")
  pub number : number_of digits ≡ Some index

-- a file of the source
pub record SaysSource (n : Node) (s : Source) : Type 0 where
  pub index : IsSourceTag n.element.tag s.index
  pub given : text_in (codes "given-path") n ≡ Some s.given.now
  pub resolved : text_in (codes "resolved-path") n ≡ option_copied s.resolved

-- the place that a node is
pub record IsPlace (n : Node) (p : Place) : Type 0 where
  pub file : number_in (codes "file-index") n ≡ Some p.file
  pub line : number_in (codes "line") n ≡ Some p.line

-- what is said of a place, by the node that gives it: none where there is no such node
abbrev pub SaysPlaceBy : Option Node → Option Place → Type 0
SaysPlaceBy None None = Unit {0}
SaysPlaceBy None (Some p) = ⊥
SaysPlaceBy (Some c) None = ⊥
SaysPlaceBy (Some c) (Some p) = IsPlace c p

unfoldable pub SaysPlace : Node → Option Place → Type 0
SaysPlace n place = SaysPlaceBy (child (codes "source-code-location") n) place

-- the kind of thing that an element of a name is
unfoldable pub kind_of : List ℕ → Option Kind
kind_of name =
    if bytes_eq name (codes "global-variable") then Some Global
    else if bytes_eq name (codes "object") then Some Object
    else if bytes_eq name (codes "class") then Some Object
    else if bytes_eq name (codes "property") then Some Property
    else if bytes_eq name (codes "attribute") then Some Attribute
    else None

-- the kind of thing that an element is, directly in the outermost one
abbrev pub thing_kind : Element → Option Kind
thing_kind e = if e.depth == 1 then kind_of (name_of e.tag) else None

-- where a thing of a kind has its address or its number
abbrev pub value_name : Kind → List ℕ
value_name Global = codes "address"
value_name _ = codes "value"

-- a global variable, an object, a class, a property or an attribute
pub record SaysThing (n : Node) (t : Named) : Type 0 where
  pub kind : thing_kind n.element ≡ Some t.kind
  pub name : text_in (codes "identifier") n ≡ Some t.name.now
  pub value : number_in (value_name t.kind) n ≡ Some t.value
  pub place : SaysPlace n t.place

-- an array
pub record SaysArray (n : Node) (a : Array) : Type 0 where
  pub name : text_in (codes "identifier") n ≡ Some a.name.now
  pub address : number_in (codes "value") n ≡ Some a.address
  pub length : number_in (codes "byte-count") n ≡ Some a.length
  pub element : number_in (codes "bytes-per-element") n ≡ Some a.element
  pub sized : (a.element ≡ 1) ⊎ (a.element ≡ 2)
  pub place : SaysPlace n a.place

-- a list goes on with what nodes say
pub record GoesOn {T : Type 0} (Says : Node → T → Type 0) (ns : List Node) (before after : List T) : Type 0 where
  pub more : List T
  pub whole : after ≡ before ++ more
  pub said : SayEach Says ns more

-- a sequence point
pub record SaysPoint (n : Node) (p : Point) : Type 0 where
  pub address : number_in (codes "address") n ≡ Some p.address
  pub place : SaysPlace n (Some p.place)

-- a local variable
pub record SaysLocal (n : Node) (l : Local) : Type 0 where
  pub number : number_in (codes "index") n ≡ Some l.number
  pub name : text_in (codes "identifier") n ≡ Some l.name.now

-- a routine, but for its sequence points and its local variables
pub record SaysHead (n : Node) (r : Routine) : Type 0 where
  pub name : text_in (codes "identifier") n ≡ Some r.name.now
  pub address : number_in (codes "address") n ≡ Some r.address
  pub length : number_in (codes "byte-count") n ≡ Some r.length
  pub place : SaysPlace n r.place

-- a routine with them, among those of all routines
pub record SaysRoutine (all : List Point) (names : List Local) (n : Node) (r : Routine) : Type 0 where
  pub head : SaysHead n r
  pub points : SayEach SaysPoint (children (codes "sequence-point") n) (take r.points (drop r.first_point all))
  pub locals : SayEach SaysLocal (children (codes "local-variable") n) (take r.locals (drop r.first_local names))

-- a routine is put behind others, with its sequence points and its local variables
pub record IsTaken (n : Node) (before after : Routines) : Type 0 where
  pub routine : Routine
  pub head : SaysHead n routine
  pub routines : after.routines.items ≡ before.routines.items ++ (routine ∷ [])
  pub points : GoesOn SaysPoint (children (codes "sequence-point") n) before.points.items after.points.items
  pub first_point : routine.first_point ≡ length before.points.items
  pub point_count : routine.points ≡ length points.more
  pub locals : GoesOn SaysLocal (children (codes "local-variable") n) before.locals.items after.locals.items
  pub first_local : routine.first_local ≡ length before.locals.items
  pub local_count : routine.locals ≡ length locals.more

-- the compiler left a routine out of the story: its address is 0
abbrev pub is_zero : Option ℕ → Bool
is_zero None = false
is_zero (Some a) = a == 0

-- the nodes of routines that are in the story
abbrev pub kept : List Node → List Node
kept [] = []
kept (n ∷ ns) = cond (is_zero (number_in (codes "address") n)) (kept ns) (n ∷ kept ns)

abbrev pub routine_nodes : List Element → List Node
routine_nodes elements = kept (nodes (is_child 0 (codes "routine")) elements)

-- the first bytes of the story: those that the first node of that name has in base 64
pub record SaysPrefix (elements : List Element) (prefix : List ℕ) : Type 0 where
  pub node : Node
  pub first : slice_get (nodes (is_child 0 (codes "story-file-prefix")) elements) 0 ≡ Some node
  pub decoded : decode_of standard node.element.text ≡ Ok prefix

-- elements say what there are of names
pub record Says (elements : List Element) (n : Names) : Type 0 where
  pub sources : SayEach SaysSource (nodes (is_child 0 (codes "source")) elements) n.sources.items
  pub named : SayEach SaysThing (nodes (λ e. is_some (thing_kind e)) elements) n.named.items
  pub arrays : SayEach SaysArray (nodes (is_child 0 (codes "array")) elements) n.arrays.items
  pub routines : SayEach (SaysRoutine n.points.items n.locals.items) (routine_nodes elements) n.routines.items
  pub prefix : SaysPrefix elements n.prefix.items
