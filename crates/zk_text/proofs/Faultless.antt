-- Texts where no abbreviation has a fault, and places past the last word.
use Rattle.std.proofs.Common.{◌≡◌, ◌∙◌, ℕ, zero, suc, ◌+◌, ◌*◌, ◌-◌, ◌<◌, ◌≤◌, List, [], ◌∷◌, length, Bool, true, false}
use Rattle.std.proofs.Common.{nat_lt, ◌==◌, Option, Some, None, refl, sym, arith, if◌then◌else◌}
use Rattle.std.specs.Prelude.{is_none, slice_get}
use Rattle.std.specs.List.{list_all}
use Rattle.std.proofs.lemmas.Bool.Decides.{nat_tests}
use Rattle.zk_mem.specs.declared.fault.Fault.{Fault}
use Rattle.zk_mem.specs.Header.{word_in}
use Rattle.zk_mem.specs.Map.{MemoryMap, code_word_at}
use Rattle.zk_mem.specs.Words.{words_at}
use Rattle.zk_mem.proofs.TextWords.{word_gone}
use Rattle.zk_text.specs.declared.pieces.Pending.{Pending}
use Rattle.zk_text.specs.declared.pieces.Pending.TheVariants as held
use Rattle.zk_text.specs.declared.sweep.Rest.{Rest}
use Rattle.zk_text.specs.declared.sweep.Sweep.{Sweep}
use Rattle.zk_text.specs.Alphabets.{letter_of}
use Rattle.zk_text.specs.Meaning.{abbreviation, values}
use Rattle.zk_text.specs.Pieces.{Cut, a1_cut, a2_cut, abbreviation_cut, code_cut, cut, pieces_past}
use Rattle.zk_text.specs.Words.{z_characters}
use Rattle.zk_text.specs.Sweeps.{AreFaultless, AreFaults, IsRestOf, IsSweptTo, IsTextRest, fault_behind, fault_of}
use Rattle.zk_text.specs.Sweeps.{piece_fault}
use Rattle.zk_text.proofs.Sweeping.{before_fault, further_rest, half_fault, last_rest, no_rest, none_past}
use Rattle.zk_text.proofs.Sweeping.{nothing_behind}

-- ---- no fault is listed

each_none : (fs : List (Option Fault)) (n : ℕ) → list_all is_none fs ≡ true → n < length fs → slice_get fs n ≡ Some None
each_none [] n h lt = absurd (omega arith)
each_none (Some f ∷ fs) n h lt = absurd cc
each_none (None ∷ fs) zero h lt = refl
each_none (None ∷ fs) (suc n) h lt = each_none fs n h (omega arith)

pub none_listed : (m : MemoryMap) (fs : List (Option Fault)) → AreFaults m fs → length fs ≡ 96
    → list_all is_none fs ≡ true → AreFaultless m
none_listed m fs h size none n lt = sym (h n None (each_none fs n none (omega arith)))

-- ---- Z-characters

-- five bits each
AreSmall : List ℕ → Type 0
AreSmall [] = Unit {0}
AreSmall (z ∷ zs) = (z < 32) × AreSmall zs

small : (ws : List ℕ) → AreSmall (z_characters ws)
unfolding z_characters AreSmall
small [] = tt
small (w ∷ ws) = (omega arith, (omega arith, (omega arith, small ws)))

either_faultless : (m : MemoryMap) (b : Bool) (p q : Cut) → (b ≡ true → piece_fault m p.0 ≡ None)
    → (b ≡ false → piece_fault m q.0 ≡ None) → piece_fault m (if b then p else q).0 ≡ None
either_faultless m true p q h k = h refl
either_faultless m false p q h k = k refl

abbreviation_faultless : (m : MemoryMap) (z : ℕ) (zs : List ℕ) → AreFaultless m → AreSmall zs → z < 4
    → piece_fault m (abbreviation_cut z zs).0 ≡ None
unfolding AreSmall
abbreviation_faultless m z [] faultless few lt = refl
abbreviation_faultless m z (x ∷ zs) faultless few lt = faultless (32 * (z - 1) + x) (let x_lt = few.0 in omega arith)

code_faultless : (m : MemoryMap) (zs : List ℕ) → piece_fault m (code_cut zs).0 ≡ None
code_faultless m [] = refl
code_faultless m (high ∷ []) = refl
code_faultless m (high ∷ low ∷ zs) = refl

a1_faultless : (m : MemoryMap) (zs : List ℕ) → piece_fault m (a1_cut zs).0 ≡ None
a1_faultless m [] = refl
a1_faultless m (x ∷ zs) = either_faultless m (nat_lt x 6) _ _ (λ e. refl) (λ e. refl)

a2_faultless : (m : MemoryMap) (zs : List ℕ) → piece_fault m (a2_cut zs).0 ≡ None
a2_faultless m [] = refl
a2_faultless m (x ∷ zs) = either_faultless m (nat_lt x 6) _ _ (λ e. refl)
    (λ e. either_faultless m (x == 6) _ _ (λ f. code_faultless m zs) (λ f. refl))

cut_faultless : (m : MemoryMap) (z : ℕ) (zs : List ℕ) → AreFaultless m → AreSmall zs → piece_fault m (cut z zs).0 ≡ None
cut_faultless m z zs faultless few =
    either_faultless m (z == 0) _ _ (λ a. refl)
    (λ a. either_faultless m (nat_lt z 4) _ _ (λ b. abbreviation_faultless m z zs faultless few
    (grind (arith, nat_tests)))
    (λ b. either_faultless m (z == 4) _ _ (λ c. a1_faultless m zs)
    (λ c. either_faultless m (z == 5) _ _ (λ d. a2_faultless m zs) (λ d. refl))))

pieces_faultless : (m : MemoryMap) (zs : List ℕ) (n : ℕ) → AreFaultless m → AreSmall zs
    → fault_of (values (letter_of m) (abbreviation m) (pieces_past zs n)) ≡ None
unfolding pieces_past values AreSmall
pieces_faultless m [] n faultless few = refl
pieces_faultless m (z ∷ zs) zero faultless few =
    before_fault (abbreviation m) m (cut z zs).0 (pieces_past zs (cut z zs).1)
    ∙ rw (cut_faultless m z zs faultless few.1) (pieces_faultless m zs (cut z zs).1 faultless few.1)
pieces_faultless m (z ∷ zs) (suc n) faultless few = pieces_faultless m zs n faultless few.1

faultless_behind : (m : MemoryMap) (h : Pending) (zs : List ℕ) → AreFaultless m → AreSmall zs
    → fault_behind m h zs ≡ None
unfolding AreSmall
faultless_behind m held.Nothing zs faultless few = pieces_faultless m zs 0 faultless few
faultless_behind m held.First zs faultless few = pieces_faultless m (1 ∷ zs) 0 faultless (omega arith, few)
faultless_behind m held.Second zs faultless few = pieces_faultless m (2 ∷ zs) 0 faultless (omega arith, few)
faultless_behind m held.Third zs faultless few = pieces_faultless m (3 ∷ zs) 0 faultless (omega arith, few)
faultless_behind m held.ShiftToA1 zs faultless few = pieces_faultless m (4 ∷ zs) 0 faultless (omega arith, few)
faultless_behind m held.ShiftToA2 zs faultless few = pieces_faultless m (5 ∷ zs) 0 faultless (omega arith, few)
faultless_behind m held.Escape zs faultless few =
    pieces_faultless m (5 ∷ 6 ∷ zs) 0 faultless (omega arith, (omega arith, few))
faultless_behind m (held.UpperHalf high) [] faultless few = sym (nothing_behind m (held.UpperHalf high))
faultless_behind m (held.UpperHalf high) (z ∷ zs) faultless few =
    half_fault (abbreviation m) m high 0 z zs ∙ pieces_faultless m (5 ∷ 6 ∷ 0 ∷ z ∷ zs) 0 faultless
    (omega arith, (omega arith, (omega arith, few)))

-- ---- texts

-- a word more or less changes nothing
faultless_more : (m : MemoryMap) (w : ℕ) (ws : List ℕ) (r : Rest) → AreFaultless m
    → IsRestOf m (z_characters ws) r → IsRestOf m (z_characters (w ∷ ws)) r
faultless_more m w ws r faultless is h = is h ∙ faultless_behind m h (z_characters ws) faultless (small ws)
    ∙ sym (faultless_behind m h (z_characters (w ∷ ws)) faultless (small (w ∷ ws)))

pub faultless_last : (m : MemoryMap) (a w : ℕ) (r : Rest) → AreFaultless m → code_word_at m a ≡ Some w → 32768 ≤ w
    → IsRestOf m [] r → IsTextRest m a (Some r)
faultless_last m a w r faultless e high ends =
    last_rest (abbreviation m) m a w r r e high (λ ws is. faultless_more m w ws r faultless is) ends

pub faultless_further : (m : MemoryMap) (a w : ℕ) (o : Option Rest) → AreFaultless m → code_word_at m a ≡ Some w
    → w < 32768 → IsTextRest m (a + 2) o → IsTextRest m a o
faultless_further m a w None faultless e low h = no_rest (abbreviation m) m a w None e low refl h
faultless_further m a w (Some r) faultless e low h =
    further_rest (abbreviation m) m a w (Some r) r r e low refl h (λ ws is. faultless_more m w ws r faultless is)

-- ---- past the last word

past_word : (m : MemoryMap) (a : ℕ) → code_word_at m a ≡ None → length m.bytes ≤ a + 1
unfolding code_word_at
past_word m a h = go (nat_lt (a + 1) (length m.bytes)) refl h
  where
    go : (b : Bool) → nat_lt (a + 1) (length m.bytes) ≡ b → (if b then Some (word_in m.bytes a) else None) ≡ None
        → length m.bytes ≤ a + 1
    go true e k = absurd cc
    go false e k = grind (arith, nat_tests)

still_none : (m : MemoryMap) (a b : ℕ) (o : Option Rest) → words_at m a ≡ None → words_at m b ≡ None
    → IsTextRest m a o → IsTextRest m b o
still_none m a b None e k h = k
still_none m a b (Some r) e k h = absurd (let is = h.1 in cc)

pub swept_past : (m : MemoryMap) (a : ℕ) (s : Sweep) → code_word_at m a ≡ None → IsSweptTo m (a + 1) s → IsSweptTo m a s
swept_past m a s none h =
    let past = past_word m a none in
    record {
      faults = h.faults;
      faultless = h.faultless;
      here = still_none m (a + 1) a s.here (none_past m (a + 1) past) (word_gone m a none) h.here;
      behind = still_none m (a + 1 + 1) (a + 1) s.behind (none_past m (a + 1 + 1) (omega arith))
          (none_past m (a + 1) past) h.behind;
    }
