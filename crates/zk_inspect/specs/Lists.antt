-- Lists of addresses, and marks on them.
use Rattle.std.specs.Prelude.{◌≡◌, ◌↔◌, ℕ, ◌+◌, ◌<◌, ◌≤◌, Bool, true, false, List, [], ◌∷◌, ◌++◌, length, get_or}
use Rattle.std.specs.Prelude.{reverse, if◌then◌else◌}
use Rattle.std.specs.List.{Contains}
use Rattle.std.specs.List.Sorted.{IsStrictlyIncreasing}

-- the numbers that something holds of, ascending, each once
pub record IsListOf (P : ℕ → Type 0) (xs : List ℕ) : Type 0 where
  pub listed : (a : ℕ) → Contains xs a → P a
  pub whole : (a : ℕ) → P a → Contains xs a
  pub ascending : IsStrictlyIncreasing xs

-- a number is marked
abbrev pub IsMarked : List Bool → ℕ → Type 0
IsMarked marks a = get_or marks a false ≡ true

-- marks on the numbers that something holds of, of the last so many below an end and of those after it
pub record AreLastMarks (P : ℕ → Type 0) (size end behind : ℕ) (marks : List Bool) : Type 0 where
  pub size_is : length marks ≡ size
  pub known : (a : ℕ) → end ≤ a + behind → IsMarked marks a ↔ P a
  pub free : (a : ℕ) → a + behind < end → IsMarked marks a → ⊥

-- a number after others, where a test says so
abbrev pub listed_if : Bool → List ℕ → ℕ → List ℕ
listed_if test xs a = if test then xs ++ a ∷ [] else xs

-- the numbers that something holds of, of the last so many below an end and of those after it, the last one first
abbrev pub IsLastList : (ℕ → Type 0) → ℕ → ℕ → List ℕ → Type 0
IsLastList P end behind xs = IsListOf (λ a. (end ≤ a + behind) × P a) (reverse xs)

-- the least set that has some numbers and, with each of its numbers, what is next to that one
pub data IsAmong (P : ℕ → Type 0) (next : ℕ → ℕ → Type 0) : ℕ → Type 0 where
  Some : (a : ℕ) → P a → IsAmong P next a
  Next : (a b : ℕ) → IsAmong P next a → next a b → IsAmong P next b
