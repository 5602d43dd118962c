-- Pieces of a document, and what is read of several of them.
use Rattle.std.specs.Prelude.{not}
use Rattle.std.proofs.Common.{◌≡◌, ◌∙◌, ℕ, suc, ◌+◌, ◌-◌, ◌<◌, ◌≤◌, ◌==◌, Bool, true, false, List, []}
use Rattle.std.proofs.Common.{◌∷◌, ◌++◌, length, take, drop, get_or}
use Rattle.std.proofs.Common.{refl, ap, sym, arith, add-one, drop-cons}
use Rattle.std.proofs.lemmas.Bool.Decides.{nat_tests}
use Rattle.std.proofs.lemmas.List.{take-append-drop, take_rest}
use Rattle.std.proofs.lemmas.List.Elements.{All-from_get_or}
use Rattle.std.proofs.lemmas.List.Splits.{slice_split_first, slice_split_none}
use Rattle.std.proofs.lemmas.List.Sums.{prefix_len_passes, prefix_len_stops}
use Rattle.zk_names.specs.Documents.{Progress, Reads, ReadsAll, length_before, pieces}

stop_is : (b s : ℕ) → not (b == s) ≡ false → b ≡ s
stop_is b s h = grind (arith, nat_tests)

-- bytes with one of a kind are those before the first one, that one, and those behind it
pub piece_is : (stop : ℕ) (bytes : List ℕ) (n : ℕ) → n ≡ length_before stop bytes → n < length bytes
    → bytes ≡ take n bytes ++ (stop ∷ take (length bytes - (n + 1)) (drop (n + 1) bytes))
piece_is stop bytes n e h =
    let there : not (get_or bytes n 0 == stop) ≡ false =
    rw e (prefix_len_stops (λ b. not (b == stop)) bytes 0 (rw e at h)) in
    sym (take-append-drop n bytes)
    ∙ ap (λ r. take n bytes ++ r) (drop-cons bytes n 0 h
    ∙ rw (add-one n, stop_is (get_or bytes n 0) stop there) (ap (λ r. stop ∷ r) (sym (take_rest bytes (suc n)))))

no_test : (b : Bool) → not b ≡ true → b ≡ false
no_test true h = absurd cc
no_test false h = refl

-- bytes without a `<` are the last piece
pub last_piece : (bytes : List ℕ) → length bytes ≤ length_before 60 bytes → pieces bytes ≡ bytes ∷ []
last_piece bytes e =
    slice_split_none (λ b. b == 60) bytes (All-from_get_or (λ b. (b == 60) ≡ false) bytes 0
    (λ i h. no_test _ (prefix_len_passes (λ b. not (b == 60)) bytes i 0 (omega (arith, e, h)))))

-- a piece before others
next_piece : (bytes : List ℕ) (n : ℕ) → n ≡ length_before 60 bytes → n < length bytes
    → pieces bytes ≡ take n bytes ∷ pieces (take (length bytes - (n + 1)) (drop (n + 1) bytes))
next_piece bytes n e h =
    rw (take_rest bytes (n + 1), e) (slice_split_first (λ b. b == 60) bytes 0 (rw e at h))

-- a piece is read before others
pub one_more : (bytes : List ℕ) (n : ℕ) (before next after : Progress) → n ≡ length_before 60 bytes → n < length bytes
    → Reads before (take n bytes) next
    → ReadsAll next (pieces (take (length bytes - (n + 1)) (drop (n + 1) bytes))) after
    → ReadsAll before (pieces bytes) after
one_more bytes n before next after e l h more = rw (next_piece bytes n e l) (next, h, more)

-- the last piece is read
pub last_one : (bytes : List ℕ) (before after : Progress) → pieces bytes ≡ bytes ∷ [] → Reads before bytes after
    → ReadsAll before (pieces bytes) after
last_one bytes before after e h = rw e (after, h, refl)
