-- The three links of an object, to its parent, its sibling and its child (Standard, section 12.3).
use Rattle.std.specs.Prelude.{◌≡◌, ◌≢◌, ℕ, Bool, List, [], ◌∷◌, ◌+◌, ◌*◌, ◌%◌, ◌<◌, ◌≤◌, Result, Ok, Err, nat_le, ◌==◌}
use Rattle.std.specs.Prelude.{if◌then◌else◌}
use Rattle.zk_mem.specs.declared.fault.Fault.{Fault}
use Rattle.zk_mem.specs.declared.fault.Fault.TheVariants.{ReadOnly}
use Rattle.zk_mem.specs.Results.{◌>>=◌}
use Rattle.zk_mem.specs.Map.{MemoryMap, byte_at, word_at, byte_put, word_put}
use Rattle.zk_tables.specs.declared.links.Link.{Link}
use Rattle.zk_tables.specs.declared.links.Link.TheVariants.{Parent, Sibling, Child}
use Rattle.zk_tables.specs.declared.links.LinkPlace.{LinkPlace}
use Rattle.zk_tables.specs.Layout.{layout_of, entry_of}

-- the parent of an object
abbrev pub parent_of : ℕ → LinkPlace
parent_of o = record { link = Parent; object = o }

-- its sibling
abbrev pub sibling_of : ℕ → LinkPlace
sibling_of o = record { link = Sibling; object = o }

-- its child
abbrev pub child_of : ℕ → LinkPlace
child_of o = record { link = Child; object = o }

-- the link of an object that a walk along children reads: its child where the walk begins, else its sibling
abbrev pub walked_link : ℕ → Bool → LinkPlace
walked_link o first = if first then child_of o else sibling_of o

-- they follow the attributes in this order
abbrev pub order_of : Link → ℕ
order_of Parent = 0
order_of Sibling = 1
order_of Child = 2

-- of links that are counted, so many at most were read
abbrev pub CountsUpTo : ℕ → ℕ → ℕ → Type 0
CountsUpTo old new most = (old ≤ new) × (new ≤ old + most)

-- where a link stands
unfoldable pub address_of : MemoryMap → LinkPlace → Result ℕ Fault
address_of m place = do
  entry ← entry_of m place.object
  Ok (entry + (layout_of m.version).attribute_bytes + (layout_of m.version).link_bytes * order_of place.link)

-- the number of an object at an address, a byte or a word
unfoldable pub object_number_at : MemoryMap → ℕ → Result ℕ Fault
object_number_at m a = if (layout_of m.version).link_bytes == 1 then byte_at m a else word_at m a

-- the memory with the number of an object put there
unfoldable pub number_put : MemoryMap → ℕ → ℕ → Result MemoryMap Fault
number_put m a o = if (layout_of m.version).link_bytes == 1 then byte_put m a (o % 256) else word_put m a o

-- the object that a link names, or 0; object 0 has no links (section 12.3)
unfoldable pub link_at : MemoryMap → LinkPlace → Result ℕ Fault
link_at m place = if place.object == 0 then Ok 0 else (address_of m place >>= object_number_at m)

-- the memory with one link changed
unfoldable pub link_put : MemoryMap → LinkPlace → ℕ → Result MemoryMap Fault
link_put m place o = address_of m place >>= λ a. number_put m a o

-- whether a link may be written
unfoldable pub write_test : MemoryMap → LinkPlace → Result (Unit {0}) Fault
write_test m place = address_of m place >>= λ a. if nat_le (a + (layout_of m.version).link_bytes) m.static_base
    then Ok tt else Err ReadOnly

-- whether links may be written: the first that may not decides
abbrev pub write_tests : MemoryMap → LinkPlace → List LinkPlace → Result (Unit {0}) Fault
write_tests m place [] = write_test m place
write_tests m place (p ∷ ps) = write_test m place >>= λ _. write_tests m p ps

-- the link names the object, and all others name what they named
pub record WritesLink (m n : MemoryMap) (place : LinkPlace) (o : ℕ) : Type 0 where
  pub names : link_at n place ≡ Ok o
  pub others : (q : LinkPlace) → q ≢ place → link_at n q ≡ link_at m q

-- a link that is written, where it has room for the object's number
abbrev pub LinksAreWritten : Type 0
LinksAreWritten = (m n : MemoryMap) (place : LinkPlace) (o : ℕ) → ((layout_of m.version).link_bytes ≡ 1 → o < 256)
    → link_put m place o ≡ Ok n → WritesLink m n place o
