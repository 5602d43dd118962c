use Rattle.zk_text.proofs.ShortTexts.{short_texts}
-- Where texts end that have a meaning, found word by word.
use Rattle.std.proofs.Common.{◌≡◌, ◌∙◌, ◌≤◌, ◌<◌, ℕ, ◌+◌, ◌*◌, List, [], ◌∷◌, length, Option, Some, None, option_map}
use Rattle.std.proofs.Common.{Result, Ok, Err, IsOk, Bool, true, false, nat_le, refl, sym, ap, arith}
use Rattle.std.proofs.lemmas.Bool.Decides.{nat_tests}
use Rattle.zk_mem.specs.declared.fault.Fault.{Fault}
use Rattle.zk_mem.specs.declared.fault.Fault.TheVariants.{TextPastEnd}
use Rattle.zk_mem.specs.Map.{MemoryMap, code_word_at}
use Rattle.zk_mem.specs.Results.{◌>>=◌}
use Rattle.zk_mem.specs.Words.{word_before, words_at, text_end_at}
use Rattle.zk_mem.proofs.TextWords.{end_inside, word_gone, word_there}
use Rattle.zk_text.specs.declared.pieces.Pending.{Pending}
use Rattle.zk_text.specs.declared.pieces.Pending.TheVariants as held
use Rattle.zk_text.specs.Meaning.{Units, end_by, meaning, meaning_at, past_end, refused_by}
use Rattle.zk_text.specs.Sweeps.{fault_by, fault_of}
use Rattle.zk_text.specs.Words.{z_characters}
use Rattle.zk_text.proofs.Sweeping.{none_past, nothing_by}

-- an address, where there is no fault
abbrev pub unless : Option Fault → ℕ → Result ℕ Fault
unless None end = Ok end
unless (Some f) end = Err f

abbrev end_of : (ℕ → Units) → MemoryMap → Pending → ℕ → Option (List ℕ) → Result ℕ Fault
end_of expand m h a o = past_end o >>= λ ws. unless (fault_by expand m h (z_characters ws)) (a + 2 * length ws)

-- where the text at an address ends that goes on after what is held back
abbrev pub end_from : (ℕ → Units) → MemoryMap → Pending → ℕ → Result ℕ Fault
end_from expand m h a = end_of expand m h a (words_at m a)

-- ---- the whole text

unless_means : (us : Units) (end : ℕ) → (us >>= λ x. Ok end) ≡ unless (fault_of us) end
unless_means (Ok us) end = refl
unless_means (Err f) end = refl

whole : (expand : ℕ → Units) (m : MemoryMap) (a : ℕ) (o : Option (List ℕ)) → words_at m a ≡ o
    → end_by expand m a ≡ end_of expand m held.Nothing a o
unfolding text_end_at
whole expand m a None e = rw e refl
whole expand m a (Some ws) e = rw e (unless_means (meaning m expand (z_characters ws)) (a + 2 * length ws))

pub from_start : (expand : ℕ → Units) (m : MemoryMap) (a : ℕ) → end_by expand m a ≡ end_from expand m held.Nothing a
from_start expand m a = whole expand m a (words_at m a) refl

-- ---- a word

pub from_nowhere : (expand : ℕ → Units) (m : MemoryMap) (h : Pending) (a : ℕ) → code_word_at m a ≡ None
    → end_from expand m h a ≡ Err TextPastEnd
from_nowhere expand m h a none = rw (word_gone m a none) refl

pub from_past : (expand : ℕ → Units) (m : MemoryMap) (h : Pending) (a : ℕ) → length m.bytes ≤ a
    → end_from expand m h a ≡ Err TextPastEnd
from_past expand m h a past = rw (none_past m a past) refl

on_of : (expand : ℕ → Units) (m : MemoryMap) (h next : Pending) (a w : ℕ) (o : Option (List ℕ))
    → ((ws : List ℕ) → fault_by expand m h (z_characters (w ∷ ws)) ≡ fault_by expand m next (z_characters ws))
    → end_of expand m h a (word_before w o) ≡ end_of expand m next (a + 2) o
on_of expand m h next a w None same = refl
on_of expand m h next a w (Some ws) same =
    let end : a + 2 * length (w ∷ ws) ≡ a + 2 + 2 * length ws = omega arith in
    ap (λ (f : Option Fault). unless f (a + 2 * length (w ∷ ws))) (same ws)
    ∙ ap (unless (fault_by expand m next (z_characters ws))) end

-- the text goes on
pub from_next : (expand : ℕ → Units) (m : MemoryMap) (h next : Pending) (a w : ℕ) → code_word_at m a ≡ Some w
    → w < 32768 → ((ws : List ℕ) → fault_by expand m h (z_characters (w ∷ ws)) ≡ fault_by expand m next
    (z_characters ws)) → end_from expand m h a ≡ end_from expand m next (a + 2)
from_next expand m h next a w e low same =
    let test : nat_le 32768 w ≡ false = grind (arith, nat_tests) in
    rw (word_there m a w e, test) (on_of expand m h next a w (words_at m (a + 2)) same)

-- its last word
pub from_last : (expand : ℕ → Units) (m : MemoryMap) (h next : Pending) (a w : ℕ) → code_word_at m a ≡ Some w
    → 32768 ≤ w → ((ws : List ℕ) → fault_by expand m h (z_characters (w ∷ ws)) ≡ fault_by expand m next
    (z_characters ws)) → end_from expand m h a ≡ Ok (a + 2)
unfolding z_characters
from_last expand m h next a w e high same =
    let test : nat_le 32768 w ≡ true = grind (arith, nat_tests) in
    let none : fault_by expand m h (z_characters (w ∷ [])) ≡ None = same [] ∙ sym (nothing_by expand m next) in
    rw (word_there m a w e, test, none) refl

-- a word with a fault
abbrev err_of : Fault → Option (List ℕ) → Result ℕ Fault
err_of f o = past_end o >>= λ ws. Err f

fault_there : (expand : ℕ → Units) (m : MemoryMap) (h : Pending) (a w : ℕ) (f : Fault) (o : Option (List ℕ))
    → ((ws : List ℕ) → fault_by expand m h (z_characters (w ∷ ws)) ≡ Some f)
    → end_of expand m h a (word_before w o) ≡ err_of f (word_before w o)
fault_there expand m h a w f None fails = refl
fault_there expand m h a w f (Some ws) fails = rw (fails ws) refl

abbrev err_at : Fault → Option ℕ → Result ℕ Fault
err_at f o = past_end o >>= λ end. Err f

end_err : (f : Fault) (a : ℕ) (o : Option (List ℕ)) → err_of f o ≡ err_at f
    (option_map (λ (ws : List ℕ). a + 2 * length ws) o)
end_err f a None = refl
end_err f a (Some ws) = refl

pub from_fault : (expand : ℕ → Units) (m : MemoryMap) (h : Pending) (a w : ℕ) (f : Fault)
    → code_word_at m a ≡ Some w → ((ws : List ℕ) → fault_by expand m h (z_characters (w ∷ ws)) ≡ Some f)
    → end_from expand m h a ≡ refused_by m a f
unfolding text_end_at
from_fault expand m h a w f e fails = go (nat_le 32768 w) refl
  where
    go : (b : Bool) → nat_le 32768 w ≡ b → end_from expand m h a ≡ refused_by m a f
    go true test = rw (word_there m a w e, test, fails []) refl
    go false test =
        rw (word_there m a w e, test) (fault_there expand m h a w f (words_at m (a + 2)) fails
        ∙ end_err f a (word_before w (words_at m (a + 2))))

-- ---- a text that was checked

then_ok : (us : Units) (end n : ℕ) → (us >>= λ x. Ok end) ≡ Ok n → IsOk us
then_ok (Ok us) end n h = refl
then_ok (Err f) end n h = absurd cc

pub means_by : (expand : ℕ → Units) (m : MemoryMap) (a end : ℕ) → end_by expand m a ≡ Ok end
    → IsOk (meaning_at expand m a)
means_by expand m a end h = go (text_end_at m a) refl
  where
    go : (o : Option ℕ) → text_end_at m a ≡ o → IsOk (meaning_at expand m a)
    go None e = let none = rw e at h in absurd cc
    go (Some n) e = then_ok (meaning_at expand m a) n end (rw e at h)

abbrev refusal : Fault → Units
refusal f = Err f

same_err : (f g : Fault) → unless (Some g) 0 ≡ Err f → refusal g ≡ refusal f
same_err f g h = let same : g ≡ f = cc in ap refusal same

not_by : (expand : ℕ → Units) (m : MemoryMap) (a : ℕ) (f : Fault) (o : Option (List ℕ))
    → end_of expand m held.Nothing a o ≡ Err f → (past_end o >>= λ ws. meaning m expand (z_characters ws)) ≡ Err f
not_by expand m a f None h = same_err f TextPastEnd h
not_by expand m a f (Some ws) h = go (meaning m expand (z_characters ws)) h
  where
    go : (us : Units) → unless (fault_of us) (a + 2 * length ws) ≡ Err f → us ≡ Err f
    go (Ok us) k = absurd cc
    go (Err g) k = same_err f g k

pub means_not_by : (expand : ℕ → Units) (m : MemoryMap) (a : ℕ) (f : Fault) → end_by expand m a ≡ Err f
    → meaning_at expand m a ≡ Err f
means_not_by expand m a f h = not_by expand m a f (words_at m a) (sym (from_start expand m a) ∙ h)

pub end_inside_by : (expand : ℕ → Units) (m : MemoryMap) (a end : ℕ) → end_by expand m a ≡ Ok end → end ≤ length m.bytes
end_inside_by expand m a end h = go (text_end_at m a) refl
  where
    same : (us : Units) (n : ℕ) → (us >>= λ x. Ok n) ≡ Ok end → n ≡ end
    same (Ok us) n k = cc
    same (Err f) n k = absurd cc

    go : (o : Option ℕ) → text_end_at m a ≡ o → end ≤ length m.bytes
    go None e = let none = rw e at h in absurd cc
    go (Some n) e =
        let is : n ≡ end = same (meaning_at expand m a) n (rw e at h) in
        let fits = end_inside m a n e in
        omega (arith, is, fits)

pub ruleset of_check_text = (short_texts, end_inside_by, means_by)

pub ruleset of_check_abbreviation = (means_by, means_not_by)
