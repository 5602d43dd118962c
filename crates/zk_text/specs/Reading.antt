-- What the code holds of a text and of a table.
use Rattle.std.specs.Prelude.{◌≤◌, ℕ, ◌+◌, ◌*◌, length, List, [], ◌∷◌, Option, Some, None}
use Rattle.zk_text.specs.declared.extra.Table.{Table}
use Rattle.zk_text.specs.Extra.{ExtraTable, words_from}
use Rattle.zk_text.specs.declared.pieces.Pending.{Pending}
use Rattle.zk_text.specs.declared.pieces.Pending.TheVariants as held

-- the Z-characters that a reader holds back
abbrev pub held_back : Pending → List ℕ
held_back held.Nothing = []
held_back held.First = 1 ∷ []
held_back held.Second = 2 ∷ []
held_back held.Third = 3 ∷ []
held_back held.ShiftToA1 = 4 ∷ []
held_back held.ShiftToA2 = 5 ∷ []
held_back held.Escape = 5 ∷ 6 ∷ []
held_back (held.UpperHalf high) = 5 ∷ 6 ∷ high ∷ []

-- the words of a Unicode table in memory, which begins with their count
abbrev pub words_of : List ℕ → Option Table → ExtraTable
words_of bytes None = None
words_of bytes (Some t) = Some (words_from bytes (t.at + 1) t.count)

-- a table that lies whole in memory
abbrev pub IsInside : List ℕ → Option Table → Type 0
IsInside bytes None = Unit {0}
IsInside bytes (Some t) = t.at + 1 + 2 * t.count ≤ length bytes
