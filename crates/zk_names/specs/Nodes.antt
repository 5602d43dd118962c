-- The elements of a document as nodes, each with what lies in it, and the texts and numbers of those in a node.
use Rattle.std.specs.Prelude.{ℕ, ◌+◌, ◌-◌, ◌*◌, ◌^◌, ◌&&◌, ◌==◌, Bool, List, [], ◌∷◌, Option, None, Some, cond}
use Rattle.std.specs.Prelude.{length, map, nat_lt, option_map, take, drop}
use Rattle.std.specs.Char.{is_ascii_digit, is_ascii_whitespace}
use Rattle.std.specs.List.{prefix_len, slice_get, suffix_len, take_while}
use Rattle.std.specs.Option.{option_and_then}
use Rattle.std.specs.Str.{bytes_eq}
use Rattle.zk_names.specs.Documents.{Element, element_of, name_of}
use Rattle.zk_names.specs.declared.section.Section.{Section}

-- an element, and those that lie in it, each before those in that
pub record Node : Type 0 where
  pub element : Element
  pub inside : List Element

-- in an element lie those behind it up to the next one that lies no deeper
abbrev pub node_of : Element → List Element → Node
node_of e behind = record { element = e; inside = take_while (λ x. nat_lt e.depth x.depth) behind }

-- the nodes of those elements that pass a test
abbrev pub nodes : (Element → Bool) → List Element → List Node
nodes test [] = []
nodes test (e ∷ es) = cond (test e) (node_of e es ∷ nodes test es) (nodes test es)

-- an element has a name, and lies directly in one that lies in so many
abbrev pub is_child : ℕ → List ℕ → Element → Bool
is_child depth name e = (e.depth - depth == 1) && bytes_eq (name_of e.tag) name

-- the nodes of a name directly in another one, and the first of them
abbrev pub children : List ℕ → Node → List Node
children name n = nodes (is_child n.element.depth name) n.inside

unfoldable pub child : List ℕ → Node → Option Node
child name n = slice_get (children name n) 0

-- its text
unfoldable pub text_in : List ℕ → Node → Option (List ℕ)
text_in name n = option_map (λ c. c.element.text) (child name n)

-- a text without the white space before and behind it
abbrev pub without_end : List ℕ → List ℕ
without_end text = take (length text - suffix_len is_ascii_whitespace text) text

abbrev pub trimmed : List ℕ → List ℕ
trimmed text = without_end (drop (prefix_len is_ascii_whitespace text) text)

-- what decimal digits make of a number before them: nothing above 2 ^ 32 - 1
abbrev pub read_on : ℕ → List ℕ → Option ℕ
read_on n [] = Some n
read_on n (d ∷ ds) =
    cond (is_ascii_digit d && nat_lt (10 * n + (d - 48)) (2 ^ 32)) (read_on (10 * n + (d - 48)) ds) None

abbrev pub digits : List ℕ → Option ℕ
digits [] = None
digits (d ∷ ds) = read_on 0 (d ∷ ds)

-- the number that a text is
unfoldable pub number_of : List ℕ → Option ℕ
number_of text = digits (trimmed text)

-- the number that is the text of the first node of a name
unfoldable pub number_in : List ℕ → Node → Option ℕ
number_in name n = option_and_then number_of (text_in name n)

-- what the code has, as a node
abbrev pub as_node : Section → Node
as_node s = record { element = element_of s.element; inside = map element_of s.inside.now }
