-- How many words are walked where a text is printed.
use Rattle.std.proofs.Common.{◌≡◌, ◌∙◌, ◌≤◌, ◌<◌, ℕ, ◌+◌, ◌-◌, List, [], ◌∷◌, ◌++◌, length, drop, Option, Some, None}
use Rattle.std.proofs.Common.{Bool, true, false, nat_le, nat_lt, refl, sym, ap, arith, if◌then◌else◌}
use Rattle.std.proofs.lemmas.Bool.Decides.{nat_tests}
use Rattle.std.proofs.lemmas.List.{length-drop}
use Rattle.zk_mem.specs.Header.{word_in}
use Rattle.zk_mem.specs.Map.{MemoryMap, code_word_at}
use Rattle.zk_mem.proofs.TextWords.{by_room, two_bytes}
use Rattle.zk_text.specs.declared.pieces.Pending.{Pending}
use Rattle.zk_text.specs.declared.pieces.Pending.TheVariants as held
use Rattle.zk_text.specs.declared.pieces.Piece.{Piece}
use Rattle.zk_text.specs.Pieces.{piece_before, pieces, pieces_past}
use Rattle.zk_text.specs.Reading.{held_back}
use Rattle.zk_text.specs.Walked.{named_length, pieces_length, run_at, run_in, some_length, words_walked}
use Rattle.zk_text.specs.Words.{z_characters}

-- ---- the words from an address on

after : MemoryMap → ℕ → ℕ → List ℕ
after m a w = if nat_le 32768 w then [] else run_at m (a + 2)

run_there : (m : MemoryMap) (a w : ℕ) → code_word_at m a ≡ Some w → run_at m a ≡ w ∷ after m a w
unfolding run_at run_in code_word_at after
run_there m a w h = go (nat_lt (a + 1) (length m.bytes)) refl
  where
    go : (b : Bool) → nat_lt (a + 1) (length m.bytes) ≡ b → run_in (drop a m.bytes) ≡ w
        ∷ (if nat_le 32768 w then [] else run_in (drop (a + 2) m.bytes))
    go true e =
        let room : a + 1 < length m.bytes = grind (arith, nat_tests) in
        let word : word_in m.bytes a ≡ w = (let some = sym (by_room m a true e) ∙ h in cc) in
        rw (two_bytes m.bytes a room, ← word) refl
    go false e = let none = sym (by_room m a false e) ∙ h in absurd cc

short_run : (xs : List ℕ) → length xs < 2 → run_in xs ≡ []
unfolding run_in
short_run [] h = refl
short_run (x ∷ []) h = refl
short_run (x ∷ y ∷ xs) h = absurd (omega arith)

pub run_gone : (m : MemoryMap) (a : ℕ) → code_word_at m a ≡ None → run_at m a ≡ []
unfolding run_at
run_gone m a h = go (nat_lt (a + 1) (length m.bytes)) refl
  where
    go : (b : Bool) → nat_lt (a + 1) (length m.bytes) ≡ b → run_in (drop a m.bytes) ≡ []
    go true e = let some = sym (by_room m a true e) ∙ h in absurd cc
    go false e =
        let room : length m.bytes ≤ a + 1 = grind (arith, nat_tests) in
        short_run (drop a m.bytes) (omega (arith, length-drop a m.bytes))

pub run_last : (m : MemoryMap) (a w : ℕ) → code_word_at m a ≡ Some w → 32768 ≤ w → run_at m a ≡ w ∷ []
unfolding after
run_last m a w e high = let test : nat_le 32768 w ≡ true = grind (arith, nat_tests) in run_there m a w e ∙ rw test refl

pub run_next : (m : MemoryMap) (a w : ℕ) → code_word_at m a ≡ Some w → w < 32768 → run_at m a ≡ w ∷ run_at m (a + 2)
unfolding after
run_next m a w e low = let test : nat_le 32768 w ≡ false = grind (arith, nat_tests) in run_there m a w e ∙ rw test refl

-- ---- pieces

pub before_length : (m : MemoryMap) (o : Option Piece) (ps : List Piece)
    → pieces_length m (piece_before o ps) ≡ some_length m o + pieces_length m ps
unfolding pieces_length
before_length m None ps = omega arith
before_length m (Some p) ps = refl

pub passed : (m : MemoryMap) (left rest : ℕ) (h next : Pending) (c : ℕ) (o : Option Piece) (zs : List ℕ)
    → pieces (held_back h ++ c ∷ zs) ≡ piece_before o (pieces (held_back next ++ zs))
    → rest ≡ left - some_length m o → left - named_length m (held_back h ++ c ∷ zs) ≡ rest - named_length m
    (held_back next ++ zs)
passed m left rest h next c o zs e is =
    let both = ap (pieces_length m) e ∙ before_length m o (pieces (held_back next ++ zs)) in
    omega (arith, both, is)

-- ---- a text

-- what is left after what is still to come
abbrev pub left_from : MemoryMap → Pending → List ℕ → ℕ → ℕ
left_from m h ws left = left - (length ws + named_length m (held_back h ++ z_characters ws))

pub from_start : (m : MemoryMap) (a most : ℕ) → most - words_walked m a ≡ left_from m held.Nothing (run_at m a) most
unfolding words_walked
from_start m a most = refl

nothing_named : (m : MemoryMap) (h : Pending) → named_length m (held_back h) ≡ 0
unfolding pieces_past pieces_length
nothing_named m held.Nothing = refl
nothing_named m held.First = refl
nothing_named m held.Second = refl
nothing_named m held.Third = refl
nothing_named m held.ShiftToA1 = refl
nothing_named m held.ShiftToA2 = refl
nothing_named m held.Escape = refl
nothing_named m (held.UpperHalf high) = refl

append_none : (h : Pending) → held_back h ++ z_characters [] ≡ held_back h
unfolding z_characters
append_none held.Nothing = refl
append_none held.First = refl
append_none held.Second = refl
append_none held.Third = refl
append_none held.ShiftToA1 = refl
append_none held.ShiftToA2 = refl
append_none held.Escape = refl
append_none (held.UpperHalf high) = refl

-- no word is left
pub from_nothing : (m : MemoryMap) (h : Pending) (left : ℕ) → left_from m h [] left ≡ left
from_nothing m h left = let none = ap (named_length m) (append_none h) ∙ nothing_named m h in omega (arith, none)

pub from_word : (m : MemoryMap) (h next : Pending) (w : ℕ) (ws us : List ℕ) (left less rest : ℕ) → us ≡ w ∷ ws
    → less ≡ left - 1 → less - named_length m (held_back h ++ z_characters (w ∷ ws)) ≡ rest - named_length m
    (held_back next ++ z_characters ws) → left_from m h us left ≡ left_from m next ws rest
from_word m h next w ws us left less rest are one same =
    ap (λ (vs : List ℕ). left_from m h vs left) are ∙ omega (arith, one, same)

-- a word more
pub run_some : (m : MemoryMap) (a w : ℕ) → code_word_at m a ≡ Some w → (ws : List ℕ) × (run_at m a ≡ w ∷ ws)
run_some m a w e = (after m a w, run_there m a w e)
