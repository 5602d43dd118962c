-- Tables that lie inside memory, copied at once.
use Rattle.std.proofs.Common.{◌≡◌, ◌≤◌, ◌⊎◌, ℕ, zero, suc, ◌+◌, ◌%◌, List, ◌++◌, length, take, drop, get_or, min, Ok}
use Rattle.std.proofs.Common.{refl, sym, ap, ◌∙◌, arith, inl, inr}
use Rattle.std.proofs.lemmas.List.{drop_more, take_all, length-take, length-drop}
use Rattle.std.proofs.lemmas.List.Edits.{paste_more, paste_none, length-paste}
use lib.Seq.{paste}
use Rattle.zk_mem.specs.Map.{MemoryMap, readable_end, with_copy}
use Rattle.zk_tables.specs.Runs.{places, bytes_read, bytes_stored}
use Rattle.zk_tables.specs.Copying.{copied_at_once, copied_forwards}
use Rattle.zk_tables.proofs.Places.{byte_inside}
use Rattle.zk_tables.proofs.Puts.{put_inside}
use Rattle.zk_tables.proofs.Copies.{IsReadFirst, forwards_at_once}

-- the bytes of a table that lies inside
reads : (m : MemoryMap) (a n : ℕ) → a + n ≤ readable_end m → bytes_read m (places a n) ≡ Ok (take n (drop a m.bytes))
unfolding places bytes_read
reads m a zero inside = refl
reads m a (suc n) inside =
    let here : a % 65536 ≡ a = omega arith in
    rw (here, byte_inside m a (omega arith), reads m (a + 1) n (omega arith), drop_more m.bytes a 0 (omega arith)) refl

-- memory with the first bytes of a list stored
abbrev pasted : MemoryMap → ℕ → List ℕ → ℕ → MemoryMap
pasted m b s i = record m { bytes = paste m.bytes b s i }

-- the rest of a list is stored after its first bytes
stores : (m : MemoryMap) (b i n : ℕ) (s : List ℕ) → length s ≡ i + n → b + (i + n) ≤ readable_end m
    → b + (i + n) ≤ m.static_base
    → bytes_stored (pasted m b s i) (places (b + i) n) (drop i s) ≡ Ok (pasted m b s (i + n))
unfolding places bytes_stored
stores m b i zero s size inside dynamic = let all : i + 0 ≡ i = omega arith in rw all refl
stores m b i (suc n) s size inside dynamic =
    let here : (b + i) % 65536 ≡ b + i = omega arith in
    let next : b + i + 1 ≡ b + (i + 1) = omega arith in
    let more : i + suc n ≡ i + 1 + n = omega arith in
    let long : length (paste m.bytes b s i) ≡ length m.bytes = length-paste m.bytes b s i (omega arith) (omega arith) in
    let end : readable_end (pasted m b s i) ≡ readable_end m = ap (λ (k : ℕ). min k 65536) long in
    let put = put_inside (pasted m b s i) (b + i) (get_or s i 0) (rw end (omega arith)) (omega arith) in
    rw (here, drop_more s i 0 (omega arith), put, paste_more m.bytes b s i 0 (omega arith) (omega arith), next, more)
    (stores m b (i + 1) n s (omega arith) (omega arith) (omega arith))

-- a list stored in a table that lies inside
stores_all : (m : MemoryMap) (b n : ℕ) (s : List ℕ) → length s ≡ n → b + n ≤ readable_end m
    → b + n ≤ m.static_base → bytes_stored m (places b n) s ≡ Ok (pasted m b s n)
stores_all m b n s size inside dynamic =
    let none : m ≡ pasted m b s 0 = ap (λ (bytes : List ℕ). record m { bytes = bytes }) (paste_none m.bytes b s) in
    let same : b + 0 ≡ b = omega arith in
    let count : 0 + n ≡ n = omega arith in
    let all = stores m b 0 n s (omega arith) (omega arith) (omega arith) in
    ap (λ (k : MemoryMap). bytes_stored k (places b n) s) none
    ∙ ap (λ (a : ℕ). bytes_stored (pasted m b s 0) (places a n) s) (sym same)
    ∙ all
    ∙ ap (λ (i : ℕ). Ok (pasted m b s i)) count

pub moved : (m : MemoryMap) (a b n : ℕ) → a + n ≤ readable_end m → b + n ≤ min m.static_base (readable_end m)
    → copied_at_once m (places a n) (places b n) ≡ Ok (with_copy m a b n)
moved m a b n inside dynamic =
    let s = take n (drop a m.bytes) in
    let rest : n ≤ length (drop a m.bytes) = omega (arith, length-drop a m.bytes) in
    let size : length s ≡ n = omega (arith, length-take n (drop a m.bytes)) in
    let whole : take n s ≡ s = take_all n s (omega arith) in
    let stored = stores_all m b n s size (omega arith) (omega arith) in
    rw (reads m a n inside)
    (stored ∙ ap (λ (l : List ℕ). Ok (record m { bytes = take b m.bytes ++ l ++ drop (b + n) m.bytes })) whole)

-- no byte is stored over before it is read, where the second table does not begin inside of the first
read_first : (a b n : ℕ) → a + n ≤ 65536 → b + n ≤ 65536 → (b ≤ a) ⊎ (a + n ≤ b) → IsReadFirst a b n
read_first a b n one two (inl below) i j lower within e = omega arith
read_first a b n one two (inr above) i j lower within e = omega arith

pub moved_forwards : (m : MemoryMap) (a b n : ℕ) → (b ≤ a) ⊎ (a + n ≤ b) → a + n ≤ readable_end m
    → b + n ≤ min m.static_base (readable_end m) → copied_forwards m (places a n) (places b n) ≡ Ok (with_copy m a b n)
moved_forwards m a b n apart inside dynamic =
    let at_once = moved m a b n inside dynamic in
    forwards_at_once m a b n (read_first a b n (omega arith) (omega arith) apart) (rw at_once refl) ∙ at_once
