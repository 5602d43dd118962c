-- The first characters of a text.
use Rattle.std.proofs.Common.{◌≡◌, ◌∙◌, ◌<◌, ◌≤◌, ℕ, zero, suc, List, [], ◌∷◌, ◌++◌, arith, length, take, refl, sym, ap}
use Rattle.std.proofs.Math.Dec.{leb-suc-suc, leb-suc-zero}
use Rattle.zk_text.specs.declared.unit.Unit.{Unit}
use Rattle.std.specs.Prelude.{Bool, decimal, Ok, Err, IsOk, codes, nat_le, if◌then◌else◌}
use Rattle.zk_mem.specs.declared.fault.Fault.{Fault}
use Rattle.zk_mem.specs.Faults.{fault_number}
use Rattle.zk_mem.specs.Map.{MemoryMap}
use Rattle.zk_text.specs.Extra.{ExtraTable, own_characters}
use Rattle.zk_text.specs.Meaning.{Units}
use Rattle.zk_inspect.specs.Listing.{quoted_bytes}
use Rattle.zk_inspect.specs.Notes.{short_text, shortened}
use Rattle.zk_inspect.specs.Quoted.{units_or_none}
use Rattle.zk_text.specs.Shown.{shown, shown_all}
use Rattle.zk_text.proofs.ShownLemmas.{shown_all-one}

pub has_units : (r : Units) → IsOk r → r ≡ Ok (units_or_none r)
has_units (Ok us) h = refl
has_units (Err f) h = absurd cc

-- a unit's characters are kept
pub kept_unit : (t : ExtraTable) (all : List ℕ) (u : Unit) (cs xs : List ℕ) → cs ≡ shown t u
    → xs ≡ take 61 (all ++ cs) → xs ≡ take 61 (all ++ shown_all t (u ∷ []))
kept_unit t all u cs xs is h = h ∙ ap (λ (l : List ℕ). take 61 (all ++ l)) (is ∙ sym (shown_all-one t u))

-- where fewer were taken than might be, all were
pub short_is_all : (n : ℕ) (all : List ℕ) → length (take n all) < n → take n all ≡ all
short_is_all zero all lt = absurd (omega (arith, lt))
short_is_all (suc n) [] lt = refl
short_is_all (suc n) (x ∷ xs) lt = ap (λ (l : List ℕ). x ∷ l) (short_is_all n xs (omega (arith, lt)))

pub one_more : (n : ℕ) (all : List ℕ) (c : ℕ) → length (take n all) < n → take n all ++ c ∷ [] ≡ take n (all ++ c ∷ [])
one_more zero all c lt = absurd (omega (arith, lt))
one_more (suc zero) [] c lt = refl
one_more (suc (suc n)) [] c lt = refl
one_more (suc n) (x ∷ xs) c lt = ap (λ (l : List ℕ). x ∷ l) (one_more n xs c (omega (arith, lt)))

pub full_stays : (n : ℕ) (all : List ℕ) (c : ℕ) → n ≤ length (take n all) → take n all ≡ take n (all ++ c ∷ [])
full_stays zero all c le = refl
full_stays (suc n) [] c le = absurd (omega (arith, le))
full_stays (suc n) (x ∷ xs) c le = ap (λ (l : List ℕ). x ∷ l) (full_stays n xs c (omega (arith, le)))

pub take_less : (n k : ℕ) (cs : List ℕ) → n ≤ k → take n (take k cs) ≡ take n cs
take_less zero k cs le = refl
take_less (suc n) zero cs le = absurd (omega (arith, le))
take_less (suc n) (suc k) [] le = refl
take_less (suc n) (suc k) (x ∷ xs) le = ap (λ (l : List ℕ). x ∷ l) (take_less n k xs (omega (arith, le)))

-- where more were taken, there are more
pub more_there : (n k : ℕ) (cs : List ℕ) → n < length (take k cs) → n < length cs
more_there n zero cs lt = absurd (omega (arith, lt))
more_there n (suc k) [] lt = absurd (omega (arith, lt))
more_there zero (suc k) (x ∷ xs) lt = omega arith
more_there (suc n) (suc k) (x ∷ xs) lt = omega (arith, more_there n k xs (omega (arith, lt)))

same_test : (n : ℕ) (cs : List ℕ) → nat_le (length (take (suc n) cs)) n ≡ nat_le (length cs) n
same_test zero [] = refl
same_test zero (x ∷ xs) = leb-suc-zero zero ∙ sym (leb-suc-zero (length xs))
same_test (suc n) [] = refl
same_test (suc n) (x ∷ xs) = leb-suc-suc (length (take (suc n) xs)) n ∙ same_test n xs ∙ sym (leb-suc-suc (length xs) n)

-- a text by its first characters
pub by_beginning : (b cs : List ℕ) → b ≡ take 61 cs → shortened cs ≡ codes "\"" ++ quoted_bytes (take 60 b)
    ++ (if nat_le (length b) 60 then codes "\"" else codes "\"...")
unfolding shortened
by_beginning b cs h =
    ap (λ (t : List ℕ). codes "\"" ++ quoted_bytes t
    ++ (if nat_le (length cs) 60 then codes "\"" else codes "\"..."))
    (sym (take_less 60 61 cs (omega arith)) ∙ ap (take 60) (sym h))
    ∙ ap (λ (k : Bool). codes "\"" ++ quoted_bytes (take 60 b) ++ (if k then codes "\"" else codes "\"..."))
    (sym (same_test 60 cs) ∙ ap (λ (l : List ℕ). nat_le (length l) 60) (sym h))

pub short_of : (m : MemoryMap) (r : Units) → IsOk r → short_text m r ≡ shortened
    (shown_all (own_characters m) (units_or_none r))
unfolding short_text
short_of m (Ok us) h = refl
short_of m (Err f) h = absurd cc

pub short_fault : (m : MemoryMap) (r : Units) (f : Fault) → r ≡ Err f → short_text m r ≡ codes "! F"
    ++ decimal (fault_number f)
unfolding short_text
short_fault m r f e = rw e refl
