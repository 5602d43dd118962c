-- The chunks that are read are those that the bytes spell.
use Rattle.std.specs.List.{All}
use Rattle.std.proofs.Common.{◌≡◌, ◌∙◌, ◌⊎◌, inl, inr, ℕ, zero, suc, ◌+◌, ◌/◌, ◌%◌, ◌<◌, ◌≤◌, List, [], ◌∷◌, ◌++◌}
use Rattle.std.proofs.Common.{length, take, drop, Option, Some, None, refl, ap, sym, arith, append_assoc, length-drop}
use Rattle.std.proofs.lemmas.List.{take-append-drop, drop-drop, length-take-le, drop_at, drop_all}
use Rattle.std.proofs.lemmas.List.Elements.{All-head, All-tail, All-take, All-drop}
use Rattle.zk_save.specs.Quetzal.{Chunk, bytes_4}
use Rattle.zk_save.specs.Reading.{number_behind, number_of, bytes_behind, then_rest, first_chunk, chunks_in}
use Rattle.zk_save.specs.guards.Spelling.{IsByte, IsPad, Spells, ReadsWhatIsSpelled, ReadsAllThatIsSpelled}
use Rattle.zk_save.proofs.Chunks.{IsCut, first_is, chunks_none, chunks_step, chunks_stop}
use Rattle.zk_save.proofs.guards.SavedLoads.{cut_again}

-- ---- what is spelled is read

pad_gone : (n : ℕ) (pad rest : List ℕ) → IsPad n pad rest → drop (n % 2) (pad ++ rest) ≡ rest
pad_gone n pad rest (inl e) = drop_at pad rest (n % 2) e
pad_gone n pad rest (inr p) = rw (p.0, p.1) (drop_all (n % 2) [] (omega arith))

pub reads_all : ReadsAllThatIsSpelled
unfolding Spells
reads_all bs [] h = rw h chunks_none
reads_all bs (c ∷ cs) h =
    let pad : List ℕ = h.0 in
    let rest : List ℕ = h.1 in
    let first : first_chunk (c.name ++ (bytes_4 (length c.content) ++ (c.content ++ (pad ++ rest)))) ≡ Some
    (c, rest) = cut_again c (pad ++ rest) rest h.2 (pad_gone (length c.content) pad rest h.4) in
    let whole : c.name ++ bytes_4 (length c.content) ++ c.content ++ pad ++ rest ≡ c.name
    ++ (bytes_4 (length c.content) ++ (c.content ++ (pad ++ rest))) = simp append_assoc in
    let first_bs : first_chunk bs ≡ Some (c, rest) = ap first_chunk (h.3 ∙ whole) ∙ first in
    chunks_step bs (c, rest) first_bs ∙ ap (then_rest c) (reads_all rest cs h.5)

-- ---- what is read is spelled

four_bytes : (x y z w : ℕ) → x < 256 → y < 256 → z < 256 → w < 256 → bytes_4 (number_of (x ∷ y ∷ z ∷ w ∷ [])) ≡ x
    ∷ y ∷ z ∷ w ∷ []
unfolding number_behind
four_bytes x y z w hx hy hz hw =
    let n : ℕ = number_of (x ∷ y ∷ z ∷ w ∷ []) in
    let a : n / 16777216 ≡ x = omega (arith, hx, hy, hz, hw) in
    let b : n / 65536 % 256 ≡ y = omega (arith, hx, hy, hz, hw) in
    let d : n / 256 % 256 ≡ z = omega (arith, hx, hy, hz, hw) in
    let e : n % 256 ≡ w = omega (arith, hx, hy, hz, hw) in
    rw (a, b, d, e) refl

four_again : (xs : List ℕ) → length xs ≡ 4 → All IsByte xs → bytes_4 (number_of xs) ≡ xs
four_again (x ∷ y ∷ z ∷ w ∷ []) e h =
    let h1 = All-tail IsByte x (y ∷ z ∷ w ∷ []) h in
    let h2 = All-tail IsByte y (z ∷ w ∷ []) h1 in
    let h3 = All-tail IsByte z (w ∷ []) h2 in
    four_bytes x y z w (All-head IsByte x (y ∷ z ∷ w ∷ []) h) (All-head IsByte y (z ∷ w ∷ []) h1)
    (All-head IsByte z (w ∷ []) h2) (All-head IsByte w [] h3)
four_again [] e h = absurd (omega (arith, e))
four_again (x ∷ []) e h = absurd (omega (arith, e))
four_again (x ∷ y ∷ []) e h = absurd (omega (arith, e))
four_again (x ∷ y ∷ z ∷ []) e h = absurd (omega (arith, e))
four_again (x ∷ y ∷ z ∷ w ∷ v ∷ xs) e h = absurd (omega (arith, e))

-- bytes, cut at some places
cut_at : (bs : List ℕ) (k n : ℕ) → drop k bs ≡ take n (drop k bs) ++ drop (k + n) bs
cut_at bs k n = sym (take-append-drop n (drop k bs)) ∙ ap (λ (l : List ℕ). take n (drop k bs) ++ l) (drop-drop n k bs)

in_parts : (bs : List ℕ) (n k : ℕ) → bs ≡ take 4 bs
    ++ (take 4 (drop 4 bs) ++ (take n (drop 8 bs) ++ (take k (drop (8 + n) bs) ++ drop (8 + n + k) bs)))
in_parts bs n k =
    sym (take-append-drop 4 bs)
    ∙ ap (λ (l : List ℕ). take 4 bs ++ l) (cut_at bs 4 4
    ∙ ap (λ (l : List ℕ). take 4 (drop 4 bs) ++ l) (cut_at bs 8 n
    ∙ ap (λ (l : List ℕ). take n (drop 8 bs) ++ l) (cut_at bs (8 + n) k)))

pad_by : (xs : List ℕ) (k : ℕ) → k ≤ 1 → (length (take k xs) ≡ k) ⊎ ((take k xs ≡ []) × (drop k xs ≡ []))
pad_by xs zero le = inl refl
pad_by [] (suc k) le = inr (refl, refl)
pad_by (x ∷ xs) (suc zero) le = inl refl
pad_by (x ∷ xs) (suc (suc k)) le = absurd (omega arith)

pad_is : (bs : List ℕ) (n : ℕ) → IsPad n (take (n % 2) (drop (8 + n) bs)) (drop (8 + n + n % 2) bs)
pad_is bs n = rw (← drop-drop (n % 2) (8 + n) bs) (pad_by (drop (8 + n) bs) (n % 2) (omega arith))

spelled_step : (bs : List ℕ) (cs : List Chunk) (p : Chunk × List ℕ) → All IsByte bs
    → IsCut bs (number_of (bytes_behind 4 4 bs)) p → Spells cs p.1 → Spells (p.0 ∷ cs) bs
unfolding Spells
spelled_step bs cs p h is s =
    let n : ℕ = number_of (bytes_behind 4 4 bs) in
    let content : List ℕ = bytes_behind 8 n bs in
    let rest : List ℕ = drop (8 + n + n % 2) bs in
    let pad : List ℕ = take (n % 2) (drop (8 + n) bs) in
    let long : length content ≡ n = length-take-le n (drop 8 bs) (omega (arith, is.fits, length-drop 8 bs)) in
    let four : length (bytes_behind 4 4 bs) ≡ 4 = length-take-le 4 (drop 4 bs)
    (omega (arith, is.head, length-drop 4 bs)) in
    let size : bytes_4 (length content) ≡ bytes_behind 4 4 bs = ap bytes_4 long
    ∙ four_again (bytes_behind 4 4 bs) four (All-take IsByte 4 (drop 4 bs) (All-drop IsByte 4 bs h)) in
    let whole : bs ≡ take 4 bs ++ bytes_4 (length content) ++ content ++ pad ++ rest = in_parts bs n (n % 2)
    ∙ sym (ap (λ (l : List ℕ). take 4 bs ++ (l ++ (content ++ (pad ++ rest)))) size) ∙ simp append_assoc in
    let pads : IsPad (length content) pad rest = rw long (pad_is bs n) in
    rw is.parts (pad, rest, length-take-le 4 bs (omega (arith, is.head)), whole, pads, rw is.parts at s)

not_none : (o : Option (List Chunk)) (c : Chunk) → then_rest c o ≡ Some [] → ⊥
not_none None c h = absurd cc
not_none (Some cs) c h = absurd cc

some_of : (o : Option (List Chunk)) (c d : Chunk) (cs : List Chunk) → then_rest d o ≡ Some (c ∷ cs)
    → (d ≡ c) × (o ≡ Some cs)
some_of None c d cs h = absurd cc
some_of (Some ds) c d cs h =
    let lists : d ∷ ds ≡ c ∷ cs = cc in
    let tails : ds ≡ cs = cc in
    (cc, ap (λ (l : List Chunk). Some l) tails)

none_by : (o : Option (Chunk × List ℕ)) (b : ℕ) (bs : List ℕ) → first_chunk (b ∷ bs) ≡ o
    → chunks_in (b ∷ bs) ≡ Some [] → ⊥
none_by None b bs e h = let none : None ≡ Some [] = sym (chunks_stop (b ∷ bs) (omega arith) e) ∙ h in absurd cc
none_by (Some p) b bs e h = not_none (chunks_in p.1) p.0 (sym (chunks_step (b ∷ bs) p e) ∙ h)

some_by : (o : Option (Chunk × List ℕ)) (b : ℕ) (bs : List ℕ) (c : Chunk) (cs : List Chunk) → All IsByte (b ∷ bs)
    → first_chunk (b ∷ bs) ≡ o → chunks_in (b ∷ bs) ≡ Some (c ∷ cs)
    → ((rest : List ℕ) → All IsByte rest → chunks_in rest ≡ Some cs → Spells cs rest) → Spells (c ∷ cs) (b ∷ bs)
some_by None b bs c cs are e h again =
    let none : None ≡ Some (c ∷ cs) = sym (chunks_stop (b ∷ bs) (omega arith) e) ∙ h in absurd cc
some_by (Some p) b bs c cs are e h again =
    let q = some_of (chunks_in p.1) c p.0 cs (sym (chunks_step (b ∷ bs) p e) ∙ h) in
    let is : IsCut (b ∷ bs) (number_of (bytes_behind 4 4 (b ∷ bs))) p = first_is (b ∷ bs) p e in
    let n : ℕ = number_of (bytes_behind 4 4 (b ∷ bs)) in
    let bytes : All IsByte p.1 = rw is.parts (All-drop IsByte (8 + n + n % 2) (b ∷ bs) are) in
    rw (← q.0) (spelled_step (b ∷ bs) cs p are is (again p.1 bytes q.1))

spells_none : Spells [] []
unfolding Spells
spells_none = refl

pub reads_spelled : ReadsWhatIsSpelled
reads_spelled [] [] are h = spells_none
reads_spelled [] (c ∷ cs) are h = let none : Some [] ≡ Some (c ∷ cs) = sym chunks_none ∙ h in absurd cc
reads_spelled (b ∷ bs) [] are h = absurd (none_by (first_chunk (b ∷ bs)) b bs refl h)
reads_spelled (b ∷ bs) (c ∷ cs) are h =
    some_by (first_chunk (b ∷ bs)) b bs c cs are refl h (λ rest more k. reads_spelled rest cs more k)
