-- Texts that occur in others, and texts that differ.
use Rattle.std.specs.Prelude.{◌≡◌, ◌≢◌, ℕ, ◌-◌, ◌≤◌, List, ◌++◌, take, slice_get}

-- a text occurs in bytes, with some before it and some after it
abbrev pub Occurs : List ℕ → List ℕ → Type 0
Occurs text bytes = (front : List ℕ) × ((back : List ℕ) × (bytes ≡ front ++ text ++ back))

-- two lists of lines are the same before the line of a number, counted from 1, and there they differ, or one of them
-- has ended
pub record DifferFirstAt (wanted played : List (List ℕ)) (number : ℕ) : Type 0 where
  pub counted : 1 ≤ number
  pub same : take (number - 1) wanted ≡ take (number - 1) played
  pub other : slice_get wanted (number - 1) ≢ slice_get played (number - 1)
