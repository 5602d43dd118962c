-- Names in place of words.
use Rattle.std.specs.Prelude.{ℕ, Bool, false, List, [], ◌∷◌, ◌==◌, ◌||◌, not}
use Rattle.std.specs.List.{list_any}

-- a name without a space (32) in it
abbrev pub is_one_word : List ℕ → Bool
is_one_word name = not (list_any (λ b. b == 32) name)

-- a name that the story has itself begins with a quotation mark (34), which no name of a source does
abbrev pub is_own : List ℕ → Bool
is_own [] = false
is_own (b ∷ name) = b == 34

-- a name stands in place of a word if it is one, or in quotation marks
abbrev pub stands_as_word : List ℕ → Bool
stands_as_word name = is_own name || is_one_word name
