-- Debugging files as XML (XML 1.0, sections 2.1 and 3.1): a declaration, and then tags, each with a text behind it.
use Rattle.std.specs.Prelude.{◌≡◌, ◌⊎◌, ℕ, ◌==◌, Bool, true, false, List, [], ◌∷◌, ◌++◌, codes, length, take, map}
use Rattle.std.specs.List.{list_all, position_or_len, slice_split, starts_with}
use Rattle.std.specs.Char.{is_ascii_whitespace}
use Rattle.zk_names.specs.declared.document.Element.{Element as Found}
use Rattle.zk_names.specs.declared.document.Reading.{Reading}

-- what a document begins with, up to the tag of its outermost element
abbrev pub declaration : List ℕ
declaration = codes "<?xml version=\"1.0\" encoding=\"UTF-8\"?><"

-- the pieces between one `<` (60) and the next one
abbrev pub pieces : List ℕ → List (List ℕ)
pieces body = slice_split (λ b. b == 60) body

-- how many bytes stand before the first of a kind
abbrev pub length_before : ℕ → List ℕ → ℕ
length_before stop bytes = position_or_len (λ b. b == stop) bytes

-- the name that a tag begins with, up to a space (32)
abbrev pub name_of : List ℕ → List ℕ
name_of tag = take (length_before 32 tag) tag

-- a piece is a tag, the first `>` (62) and a text
pub record IsPiece (piece tag text : List ℕ) : Type 0 where
  pub whole : piece ≡ tag ++ (62 ∷ text)
  pub first : length_before 62 piece ≡ length tag

abbrev pub is_blank : List ℕ → Bool
is_blank text = list_all is_ascii_whitespace text

-- an element: how many others it lies in, its tag, and the text behind that
pub record Element : Type 0 where
  pub depth : ℕ
  pub tag : List ℕ
  pub text : List ℕ

-- what was read: the names of the elements that are open, the outermost first, and all elements, each before those
-- in it
pub record Progress : Type 0 where
  pub names : List (List ℕ)
  pub elements : List Element

-- an element begins, in those that are open
pub record Begins (before : Progress) (tag text : List ℕ) (after : Progress) : Type 0 where
  pub no_end : starts_with ◌==◌ tag (codes "/") ≡ false
  pub names : after.names ≡ before.names ++ (name_of tag ∷ [])
  pub elements : after.elements ≡ before.elements
      ++ (record { depth = length before.names; tag = tag; text = text } ∷ [])

-- the innermost element that is open ends, and no text stands behind it
pub record Ends (before : Progress) (tag text : List ℕ) (after : Progress) : Type 0 where
  pub name : List ℕ
  pub tag_is : tag ≡ codes "/" ++ name
  pub names : before.names ≡ after.names ++ (name ∷ [])
  pub elements : after.elements ≡ before.elements
  pub blank : is_blank text ≡ true

-- a piece is read
pub record Reads (before : Progress) (piece : List ℕ) (after : Progress) : Type 0 where
  pub tag : List ℕ
  pub text : List ℕ
  pub cut : IsPiece piece tag text
  pub goes : Begins before tag text after ⊎ Ends before tag text after

-- pieces are read, one after another
abbrev pub ReadsAll : Progress → List (List ℕ) → Progress → Type 0
ReadsAll before [] after = before ≡ after
ReadsAll before (p ∷ ps) after = (next : Progress) × Reads before p next × ReadsAll next ps after

-- nothing is read
abbrev pub nothing : Progress
nothing = record { names = []; elements = [] }

-- bytes are a document with elements: behind the declaration all pieces are read, and no element is open then
pub record IsDocument (bytes : List ℕ) (elements : List Element) : Type 0 where
  pub body : List ℕ
  pub whole : bytes ≡ declaration ++ body
  pub read : ReadsAll nothing (pieces body) (record { names = []; elements = elements })

-- bytes are a document
abbrev pub IsSomeDocument : List ℕ → Type 0
IsSomeDocument bytes = (elements : List Element) × IsDocument bytes elements

-- what the code has, as the definitions have it
abbrev pub element_of : Found → Element
element_of e = record { depth = e.depth; tag = e.tag.now; text = e.text.now }

abbrev pub progress_of : Reading → Progress
progress_of r = record { names = map (λ s. s.now) r.names.items; elements = map element_of r.elements.items }
