-- The faults of texts, from their ends on.
use Rattle.std.proofs.Common.{◌≡◌, ◌∙◌, ◌⊎◌, inl, inr, ℕ, zero, suc, ◌+◌, ◌*◌, ◌≤◌, ◌<◌, List, [], ◌∷◌, ◌++◌, length}
use Rattle.std.proofs.Common.{Option, Some, None, Ok, Err, true, false, nat_le, refl, sym, ap, subst, arith}
use Rattle.std.specs.Prelude.{replicate, slice_get, slice_set, unwrap_or}
use Rattle.zk_mem.specs.declared.fault.Fault.{Fault}
use Rattle.zk_mem.specs.declared.fault.Fault.TheVariants.{TextPastEnd}
use Rattle.zk_mem.specs.Map.{MemoryMap, code_word_at}
use Rattle.zk_mem.specs.Words.{words_at, words_in}
use Rattle.std.proofs.lemmas.Bool.Decides.{nat_tests}
use Rattle.std.proofs.lemmas.List.{drop_all}
use Rattle.zk_mem.proofs.TextWords.{word_there}
use Rattle.zk_text.specs.declared.pieces.Pending.{Pending}
use Rattle.zk_text.specs.declared.pieces.Pending.TheVariants as held
use Rattle.zk_text.specs.declared.alphabet.Row.TheVariants.{A0}
use Rattle.zk_text.specs.declared.pieces.Piece.{Piece}
use Rattle.zk_text.specs.declared.pieces.Piece.TheVariants.{Letter}
use Rattle.zk_text.specs.declared.unit.Unit.TheVariants as unit
use Rattle.zk_text.specs.declared.sweep.Rest.{Rest}
use Rattle.zk_text.specs.Alphabets.{letter_of}
use Rattle.zk_text.specs.Meaning.{Units, abbreviation, joined, meaning_at, value, values}
use Rattle.zk_text.specs.Pieces.{piece_before, pieces, pieces_past}
use Rattle.zk_text.specs.Reading.{held_back}
use Rattle.zk_text.specs.Words.{z_characters}
use Rattle.zk_text.specs.Sweeps.{AreFaults, AreKnown, IsRestBy, IsTextRestBy, fault_behind, fault_by, fault_of}
use Rattle.zk_text.specs.Sweeps.{first_of, piece_fault_by}
use Rattle.zk_text.proofs.Giving.{values_first}
use Rattle.zk_text.proofs.TextWords.{held_ends}

-- ---- the table of faults

push_cases : {A : Type 0} (xs : List A) (x y : A) (n : ℕ) → slice_get (xs ++ x ∷ []) n ≡ Some y
    → (slice_get xs n ≡ Some y) ⊎ ((n ≡ length xs) × (x ≡ y))
push_cases {A} [] x y zero h = inr (refl, cc)
push_cases {A} [] x y (suc n) h = absurd cc
push_cases {A} (z ∷ xs) x y zero h = inl h
push_cases {A} (z ∷ xs) x y (suc n) h = more_cases xs x y n (push_cases xs x y n h)
  where
    more_cases : (xs : List A) (x y : A) (n : ℕ) → (slice_get xs n ≡ Some y) ⊎ ((n ≡ length xs) × (x ≡ y))
        → (slice_get xs n ≡ Some y) ⊎ ((suc n ≡ suc (length xs)) × (x ≡ y))
    more_cases xs x y n (inl h) = inl h
    more_cases xs x y n (inr h) = inr (ap suc h.0, h.1)

pub no_faults : (m : MemoryMap) → AreFaults m []
no_faults m n f h = absurd cc

-- a fault more
pub more_faults : (m : MemoryMap) (fs : List (Option Fault)) (f : Option Fault) (n : ℕ) → AreFaults m fs
    → length fs ≡ n → f ≡ fault_of (abbreviation m n) → AreFaults m (fs ++ f ∷ [])
more_faults m fs f n h size is k g e = elim (push_cases fs f g k e) [
  | inl old ↦ h k g old
  | inr now ↦ sym now.1 ∙ is ∙ ap (λ (i : ℕ). fault_of (abbreviation m i)) (sym size ∙ sym now.0)
]

-- ---- the abbreviations that are noted as good

all_unknown : {A : Type 0} (k n : ℕ) (x : A) → slice_get (replicate k None) n ≡ Some (Some x) → ⊥
all_unknown {A} zero n x h = absurd cc
all_unknown {A} (suc k) zero x h = absurd cc
all_unknown {A} (suc k) (suc n) x h = all_unknown k n x h

pub none_known : (m : MemoryMap) (k : ℕ) → AreKnown m (replicate k None)
none_known m k n f h = let none = all_unknown k n f h in elim none [ ]

pub known_there : (m : MemoryMap) (known : List (Option (Option Fault))) (n : ℕ) (f : Option Fault)
    → AreKnown m known → Some f ≡ unwrap_or (slice_get known n) None → f ≡ fault_of (abbreviation m n)
known_there m known n f h e = go (slice_get known n) refl e
  where
    go : (o : Option (Option (Option Fault))) → slice_get known n ≡ o → Some f ≡ unwrap_or o None
        → f ≡ fault_of (abbreviation m n)
    go None is k = absurd cc
    go (Some x) is k = h n f (is ∙ ap Some (sym k))

set_cases : {A : Type 0} (xs : List A) (i n : ℕ) (x y : A) → slice_get (slice_set xs i x) n ≡ Some y
    → (slice_get xs n ≡ Some y) ⊎ ((n ≡ i) × (x ≡ y))
set_cases {A} [] i n x y h = inl h
set_cases {A} (z ∷ zs) zero zero x y h = inr (refl, cc)
set_cases {A} (z ∷ zs) zero (suc n) x y h = inl h
set_cases {A} (z ∷ zs) (suc i) zero x y h = inl h
set_cases {A} (z ∷ zs) (suc i) (suc n) x y h = elim (set_cases zs i n x y h) [
  | inl old ↦ inl old
  | inr now ↦ inr (ap suc now.0, now.1)
]

-- one that is noted
pub one_known : (m : MemoryMap) (known : List (Option (Option Fault))) (i : ℕ) (f : Option Fault) → AreKnown m known
    → f ≡ fault_of (abbreviation m i) → AreKnown m (slice_set known i (Some f))
one_known m known i f h is n g e = elim (set_cases known i n (Some f) (Some g) e) [
  | inl old ↦ h n g old
  | inr now ↦ let same : f ≡ g = let k = now.1 in cc in
      sym same ∙ is ∙ ap (λ (k : ℕ). fault_of (abbreviation m k)) (sym now.0)
]

-- ---- Z-characters

joined_fault : (a b : Units) → fault_of (joined a b) ≡ first_of (fault_of a) (fault_of b)
joined_fault (Err f) b = refl
joined_fault (Ok us) (Err f) = refl
joined_fault (Ok us) (Ok vs) = refl

pub before_fault : (expand : ℕ → Units) (m : MemoryMap) (o : Option Piece) (ps : List Piece)
    → fault_of (values (letter_of m) expand (piece_before o ps)) ≡ first_of (piece_fault_by expand m o)
    (fault_of (values (letter_of m) expand ps))
before_fault expand m None ps = refl
before_fault expand m (Some p) ps =
    rw (values_first (letter_of m) expand p ps) (joined_fault (value (letter_of m) expand p)
    (values (letter_of m) expand ps))

-- one Z-character
pub pass_by : (expand : ℕ → Units) (m : MemoryMap) (h next : Pending) (c : ℕ) (o : Option Piece)
    (f : Option Fault) (zs : List ℕ) → pieces (held_back h ++ c ∷ zs) ≡ piece_before o
    (pieces (held_back next ++ zs)) → f ≡ piece_fault_by expand m o → fault_by expand m h (c ∷ zs) ≡ first_of f
    (fault_by expand m next zs)
pass_by expand m h next c o f zs e k = rw (e, k) (before_fault expand m o (pieces (held_back next ++ zs)))

-- three letters
pub letters_by : (expand : ℕ → Units) (m : MemoryMap) (h next : Pending) (a b c : ℕ) (ys zs : List ℕ)
    → pieces (held_back h ++ ys) ≡ Letter A0 a ∷ Letter A0 b ∷ Letter A0 c ∷ pieces (held_back next ++ zs)
    → fault_by expand m h ys ≡ fault_by expand m next zs
letters_by expand m h next a b c ys zs e =
    let ps = pieces (held_back next ++ zs) in
    rw e (before_fault expand m (Some (Letter A0 a)) (Letter A0 b ∷ Letter A0 c ∷ ps)
    ∙ before_fault expand m (Some (Letter A0 b)) (Letter A0 c ∷ ps) ∙ before_fault expand m (Some (Letter A0 c)) ps)

-- what is kept for each that may be held back
pub rest_of : (expand : ℕ → Units) (m : MemoryMap) (zs : List ℕ) (r : Rest)
    → r.nothing ≡ fault_by expand m held.Nothing zs
    → r.first ≡ fault_by expand m held.First zs → r.second ≡ fault_by expand m held.Second zs
    → r.third ≡ fault_by expand m held.Third zs → r.shift_to_a1 ≡ fault_by expand m held.ShiftToA1 zs
    → r.shift_to_a2 ≡ fault_by expand m held.ShiftToA2 zs → r.escape ≡ fault_by expand m held.Escape zs
    → ((high : ℕ) → r.upper_half ≡ fault_by expand m (held.UpperHalf high) zs) → IsRestBy expand m zs r
rest_of expand m zs r a b c d e f g u held.Nothing = a
rest_of expand m zs r a b c d e f g u held.First = b
rest_of expand m zs r a b c d e f g u held.Second = c
rest_of expand m zs r a b c d e f g u held.Third = d
rest_of expand m zs r a b c d e f g u held.ShiftToA1 = e
rest_of expand m zs r a b c d e f g u held.ShiftToA2 = f
rest_of expand m zs r a b c d e f g u held.Escape = g
rest_of expand m zs r a b c d e f g u (held.UpperHalf high) = u high

-- after the last word
pub nothing_by : (expand : ℕ → Units) (m : MemoryMap) (h : Pending) → None ≡ fault_by expand m h []
unfolding z_characters
nothing_by expand m h = sym (ap fault_of (held_ends m expand h))

pub nothing_behind : (m : MemoryMap) (h : Pending) → None ≡ fault_behind m h []
nothing_behind m = nothing_by (abbreviation m) m

pub same_by : (expand : ℕ → Units) (m : MemoryMap) (h : Pending) (vs us : List ℕ) → vs ≡ us
    → fault_by expand m h (z_characters vs) ≡ fault_by expand m h (z_characters us)
same_by expand m h vs us e = ap (λ (ws : List ℕ). fault_by expand m h (z_characters ws)) e

-- which upper half is held back shows in no fault
pub half_fault : (expand : ℕ → Units) (m : MemoryMap) (a b c : ℕ) (zs : List ℕ) → fault_by expand m (held.UpperHalf a)
    (c ∷ zs) ≡ fault_by expand m (held.UpperHalf b) (c ∷ zs)
unfolding pieces_past values
half_fault expand m a b c zs = go (values (letter_of m) expand (pieces zs))
  where
    go : (r : Units) → fault_of (joined (Ok (unit.Code (32 * a + c) ∷ [])) r) ≡ fault_of
        (joined (Ok (unit.Code (32 * b + c) ∷ [])) r)
    go (Ok us) = refl
    go (Err f) = refl

-- no text begins past the end
pub none_past : (m : MemoryMap) (a : ℕ) → length m.bytes ≤ a → words_at m a ≡ None
unfolding words_at words_in
none_past m a h = rw (drop_all a m.bytes h) refl

-- ---- texts

pub last_rest : (expand : ℕ → Units) (m : MemoryMap) (a w : ℕ) (none r : Rest) → code_word_at m a ≡ Some w → 32768 ≤ w
    → ((ws : List ℕ) → IsRestBy expand m (z_characters ws) none → IsRestBy expand m (z_characters (w ∷ ws)) r)
    → IsRestBy expand m [] none → IsTextRestBy expand m a (Some r)
unfolding z_characters
last_rest expand m a w none r e high before ends =
    let test : nat_le 32768 w ≡ true = grind (arith, nat_tests) in
    (w ∷ [], rw test at (word_there m a w e), before [] ends)

pub further_rest : (expand : ℕ → Units) (m : MemoryMap) (a w : ℕ) (o : Option Rest) (rest r : Rest)
    → code_word_at m a ≡ Some w → w < 32768 → o ≡ Some rest → IsTextRestBy expand m (a + 2) o
    → ((ws : List ℕ) → IsRestBy expand m (z_characters ws) rest
    → IsRestBy expand m (z_characters (w ∷ ws)) r) → IsTextRestBy expand m a (Some r)
further_rest expand m a w o rest r e low is h before =
    let test : nat_le 32768 w ≡ false = grind (arith, nat_tests) in
    let k = subst (IsTextRestBy expand m (a + 2)) is h in
    (w ∷ k.0, word_there m a w e ∙ rw (test, k.1) refl, before k.0 k.2)

pub no_rest : (expand : ℕ → Units) (m : MemoryMap) (a w : ℕ) (o : Option Rest) → code_word_at m a ≡ Some w
    → w < 32768 → o ≡ None
    → IsTextRestBy expand m (a + 2) o → words_at m a ≡ None
no_rest expand m a w o e low is h =
    let test : nat_le 32768 w ≡ false = grind (arith, nat_tests) in
    let k = subst (IsTextRestBy expand m (a + 2)) is h in
    word_there m a w e ∙ rw (test, k) refl

pub rest_fault : (expand : ℕ → Units) (m : MemoryMap) (a : ℕ) (o : Option Rest) (rest : Rest) → o ≡ Some rest
    → IsTextRestBy expand m a o
    → rest.nothing ≡ fault_of (meaning_at expand m a)
rest_fault expand m a o rest is h =
    let k = subst (IsTextRestBy expand m a) is h in
    rw k.1 (k.2 held.Nothing)

pub rest_gone : (expand : ℕ → Units) (m : MemoryMap) (a : ℕ) (o : Option Rest) → o ≡ None → IsTextRestBy expand m a o
    → Some TextPastEnd ≡ fault_of (meaning_at expand m a)
rest_gone expand m a o is h =
    let k = subst (IsTextRestBy expand m a) is h in
    rw k refl
