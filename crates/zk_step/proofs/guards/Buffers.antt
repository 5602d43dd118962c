-- What storing a line leaves as it was.
use Rattle.std.proofs.Common.{◌≡◌, ◌≤◌, ℕ, ◌+◌, ◌-◌, Bool, true, false, cond, ◌&&◌, List, [], ◌∷◌, length, take, Ok}
use Rattle.std.proofs.Common.{nat_lt, nat_le, refl, arith}
use Rattle.std.proofs.lemmas.Bool.Decides.{nat_tests}
use Rattle.std.proofs.lemmas.List.{length-map, length-take}
use Rattle.zk_mem.specs.Laws.{IsSameBut}
use Rattle.zk_mem.specs.Map.{MemoryMap, byte_at, byte_put}
use Rattle.zk_text.specs.Extra.{own_characters, lower_code}
use Rattle.zk_tables.proofs.Steps.{bind_ok}
use Rattle.zk_tables.proofs.Storing.{same_here, same_on, same_by_byte}
use Rattle.zk_step.specs.Laws.{LinesChangeTextBuffers}
use Rattle.zk_tables.specs.Runs.{bytes_put}
use Rattle.zk_step.specs.TextBuffers.{taken_letters, ended_by_zero, early_line_put, counted_letters, later_line_put}

-- bytes that were stored
pub bytes_same : (m n : MemoryMap) (a : ℕ) (bs : List ℕ) (low high : ℕ) → bytes_put m a bs ≡ Ok n → low ≤ a
    → a + length bs ≤ high → IsSameBut m n low high
unfolding bytes_put
bytes_same m n a [] low high put from to = let same : m ≡ n = cc in rw same (same_here n low high)
bytes_same m n a (b ∷ bs) low high put from to =
    let step = bind_ok (byte_put m a b) (λ o. bytes_put o (a + 1) bs) n put in
    same_on m step.0 n low high (same_by_byte m step.0 a b low high step.1 from (omega arith))
    (bytes_same step.0 n (a + 1) bs low high step.2 (omega arith) (omega arith))

few_taken : (m : MemoryMap) (room : ℕ) (line : List ℕ) → length (taken_letters m room line) ≤ room
few_taken m room line =
    omega (arith, length-map (take room line) (lower_code (own_characters m)), length-take room line)

ended_same : (m n : MemoryMap) (text room : ℕ) (letters : List ℕ) → length letters ≤ room
    → ended_by_zero m (text + 1) letters ≡ Ok n → IsSameBut m n (text + 1) (text + 2 + room)
ended_same m n text room letters few put =
    let step = bind_ok (bytes_put m (text + 1) letters) (λ o. byte_put o (text + 1 + length letters) 0) n put in
    same_on m step.0 n (text + 1) (text + 2 + room)
    (bytes_same m step.0 (text + 1) letters (text + 1) (text + 2 + room) step.1 (omega arith) (omega arith))
    (same_by_byte step.0 n (text + 1 + length letters) 0 (text + 1) (text + 2 + room) step.2 (omega arith)
    (omega arith))

counted_same : (m n : MemoryMap) (text size count : ℕ) (letters : List ℕ) → length letters ≤ size - count
    → nat_lt 0 count && nat_le size count ≡ false → counted_letters m text count letters ≡ Ok n
    → IsSameBut m n (text + 1) (text + 2 + size)
counted_same m n text size count letters few test put =
    let step = bind_ok (bytes_put m (text + 2 + count) letters)
    (λ o. byte_put o (text + 1) (count + length letters)) n put in
    let room : count + length letters ≤ size = grind (arith, nat_tests) in
    same_on m step.0 n (text + 1) (text + 2 + size)
    (bytes_same m step.0 (text + 2 + count) letters (text + 1) (text + 2 + size) step.1 (omega arith) (omega arith))
    (same_by_byte step.0 n (text + 1) (count + length letters) (text + 1) (text + 2 + size) step.2 (omega arith)
    (omega arith))

early : (m n : MemoryMap) (text size : ℕ) (line : List ℕ) → byte_at m text ≡ Ok size
    → early_line_put m text line ≡ Ok n → IsSameBut m n (text + 1) (text + 2 + (size - 1))
unfolding early_line_put
early m n text size line has put =
    ended_same m n text (size - 1) (taken_letters m (size - 1) line) (few_taken m (size - 1) line) (rw has at put)

by_test : (b : Bool) (m n : MemoryMap) (text size count : ℕ) (line : List ℕ)
    → nat_lt 0 count && nat_le size count ≡ b
    → cond b (Ok m) (counted_letters m text count (taken_letters m (size - count) line)) ≡ Ok n
    → IsSameBut m n (text + 1) (text + 2 + size)
by_test true m n text size count line test put =
    let same : m ≡ n = cc in rw same (same_here n (text + 1) (text + 2 + size))
by_test false m n text size count line test put =
    counted_same m n text size count (taken_letters m (size - count) line) (few_taken m (size - count) line) test put

later : (m n : MemoryMap) (text size : ℕ) (line : List ℕ) → byte_at m text ≡ Ok size
    → later_line_put m text line ≡ Ok n → IsSameBut m n (text + 1) (text + 2 + size)
unfolding later_line_put
later m n text size line has put =
    let known = rw has at put in
    let step = bind_ok (byte_at m (text + 1)) _ n known in
    by_test (nat_lt 0 step.0 && nat_le size step.0) m n text size step.0 line refl step.2

pub lines_change_text_buffers : LinesChangeTextBuffers
lines_change_text_buffers = record { early = early; later = later }
