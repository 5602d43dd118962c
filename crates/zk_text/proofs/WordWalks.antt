-- A walk over a text, word by word.
use Rattle.std.proofs.Common.{◌≡◌, ◌∙◌, ◌≤◌, ◌<◌, ◌⊎◌, inl, inr, Bool, true, false, nat_le, ℕ, suc, ◌+◌, ◌*◌, ◌-◌, List}
use Rattle.std.proofs.Common.{[], ◌∷◌, ◌++◌, length, drop, Option, Some, None, Ok, Err, IsOk, refl, sym, ap, subst}
use Rattle.std.proofs.Common.{arith}
use Rattle.std.proofs.lemmas.Bool.Decides.{nat_tests}
use Rattle.std.proofs.lemmas.Nat.{mul-le}
use Rattle.std.proofs.Math.Nat.{mul_comm, mul-add, mul-one}
use Rattle.zk_mem.specs.declared.fault.Fault.{Fault}
use Rattle.zk_mem.specs.Header.{header_of}
use Rattle.zk_mem.specs.Map.{MemoryMap, code_word_at, word_at}
use Rattle.zk_mem.specs.Words.{words_at}
use Rattle.zk_mem.proofs.TextWords.{text_lies_inside, word_gone}
use Rattle.zk_text.specs.declared.pieces.Pending.{Pending}
use Rattle.zk_text.specs.declared.pieces.Pending.TheVariants as held
use Rattle.zk_text.specs.declared.printing.After.{After}
use Rattle.zk_text.specs.declared.printing.Place.{Place}
use Rattle.zk_text.specs.declared.printing.Read.TheVariants.{Through, UpTo}
use Rattle.zk_text.specs.declared.unit.Unit.{Unit}
use Rattle.zk_text.specs.Meaning.{Units, abbreviation, joined, meaning, no_abbreviation, text_units}
use Rattle.zk_text.specs.Reading.{held_back}
use Rattle.zk_text.specs.Words.{z_characters}
use Rattle.zk_text.specs.Places.{Gives, HasEnded, HasEntered, HasPassed, IsPlace, Refuses, count_of, first_place, left}
use Rattle.zk_text.specs.Places.{left_from, rest_on, rest_read, work_left}
use Rattle.zk_text.proofs.Giving.{gives_before, joined_none, refuses_before}
use Rattle.zk_text.proofs.TextWords.{held_ends, word_first, word_last, word_on}

-- what is still to come, by the words
pub left_by : (m : MemoryMap) (expand : ℕ → Units) (at taken : ℕ) (h : Pending) (ws : List ℕ)
    → words_at m at ≡ Some ws → left_from m expand at taken h ≡ meaning m expand
    (held_back h ++ drop taken (z_characters ws))
left_by m expand at taken h ws e = rw e refl

words_by : (m : MemoryMap) (expand : ℕ → Units) (at taken : ℕ) (h : Pending) (o : Option (List ℕ))
    → words_at m at ≡ o → IsOk (left_from m expand at taken h) → (ws : List ℕ) × (words_at m at ≡ Some ws)
words_by m expand at taken h None e k = let fault = rw e at k in absurd cc
words_by m expand at taken h (Some ws) e k = (ws, e)

-- what has a meaning has words
pub has_words : (m : MemoryMap) (expand : ℕ → Units) (at taken : ℕ) (h : Pending)
    → IsOk (left_from m expand at taken h) → (ws : List ℕ) × (words_at m at ≡ Some ws)
has_words m expand at taken h k = words_by m expand at taken h (words_at m at) refl k

-- ---- what a word gives

-- before another word
pub gives_on : {S : Type 0} (gave : S → S → List Unit → Type 0) (a b : S) (m : MemoryMap) (expand : ℕ → Units)
    (at taken w : ℕ) (h next : Pending) → code_word_at m at ≡ Some w → w < 32768
    → IsOk (left_from m expand at taken h)
    → ((ws : List ℕ) → Gives gave a b (meaning m expand (held_back h ++ drop taken (z_characters (w ∷ ws))))
    (rest_read m expand w (Through next) ws)) → Gives gave a b (left_from m expand at taken h)
    (left_from m expand (at + 2) 0 next)
gives_on gave a b m expand at taken w h next e low k word =
    let ws = has_words m expand at taken h k in
    let on = word_on m at w ws.0 e low ws.1 in
    let here = left_by m expand at taken h (w ∷ on.0) (ws.1 ∙ ap Some on.2) in
    let there = left_by m expand (at + 2) 0 next on.0 on.1 in
    rw (here, there) (word on.0)

-- the last word
pub gives_last : {S : Type 0} (gave : S → S → List Unit → Type 0) (a b : S) (m : MemoryMap) (expand : ℕ → Units)
    (at taken w : ℕ) (h next : Pending) → code_word_at m at ≡ Some w → 32768 ≤ w
    → IsOk (left_from m expand at taken h)
    → ((ws : List ℕ) → Gives gave a b (meaning m expand (held_back h ++ drop taken (z_characters (w ∷ ws))))
    (rest_read m expand w (Through next) ws)) → Gives gave a b (left_from m expand at taken h) (Ok [])
gives_last gave a b m expand at taken w h next e high k word =
    let ws = has_words m expand at taken h k in
    let last = word_last m at w ws.0 e high ws.1 in
    let here = left_by m expand at taken h (w ∷ []) (ws.1 ∙ ap Some last) in
    rw here (subst (Gives gave a b _) (held_ends m expand next) (word []))

-- up to an abbreviation
pub gives_up_to : {S : Type 0} (gave : S → S → List Unit → Type 0) (a b : S) (m : MemoryMap) (expand : ℕ → Units)
    (at taken w t n : ℕ) (h : Pending) → code_word_at m at ≡ Some w → IsOk (left_from m expand at taken h)
    → ((ws : List ℕ) → Gives gave a b (meaning m expand (held_back h ++ drop taken (z_characters (w ∷ ws))))
    (rest_read m expand w (UpTo t n) ws)) → Gives gave a b (left_from m expand at taken h)
    (joined (expand n) (left_from m expand at t held.Nothing))
gives_up_to gave a b m expand at taken w t n h e k word =
    let ws = has_words m expand at taken h k in
    let first = word_first m at w ws.0 e ws.1 in
    let here = left_by m expand at taken h (w ∷ first.0) (ws.1 ∙ ap Some first.1) in
    let there = left_by m expand at t held.Nothing (w ∷ first.0) (ws.1 ∙ ap Some first.1) in
    rw (here, there) (word first.0)

-- or a sink refuses one of its units
pub refuses_word : {S : Type 0} (refused : S → S → List Unit → Type 0) (a b : S) (m : MemoryMap)
    (expand : ℕ → Units) (at taken w : ℕ) (h : Pending) → code_word_at m at ≡ Some w
    → IsOk (left_from m expand at taken h)
    → ((ws : List ℕ) → Refuses refused a b (meaning m expand (held_back h ++ drop taken (z_characters (w ∷ ws)))))
    → Refuses refused a b (left_from m expand at taken h)
refuses_word refused a b m expand at taken w h e k word =
    let ws = has_words m expand at taken h k in
    let first = word_first m at w ws.0 e ws.1 in
    let here = left_by m expand at taken h (w ∷ first.0) (ws.1 ∙ ap Some first.1) in
    rw here (word first.0)

-- ---- how much is left

pub count_on : (m : MemoryMap) (expand : ℕ → Units) (at taken w : ℕ) (h : Pending) → code_word_at m at ≡ Some w
    → w < 32768 → IsOk (left_from m expand at taken h) → count_of (words_at m at) ≡ suc (count_of (words_at m (at + 2)))
count_on m expand at taken w h e low k =
    let ws = has_words m expand at taken h k in
    let on = word_on m at w ws.0 e low ws.1 in
    ap count_of (ws.1 ∙ ap Some on.2) ∙ sym (ap (λ (o : Option (List ℕ)). suc (count_of o)) on.1)

pub count_some : (m : MemoryMap) (expand : ℕ → Units) (at taken w : ℕ) (h : Pending) → code_word_at m at ≡ Some w
    → IsOk (left_from m expand at taken h) → 1 ≤ count_of (words_at m at)
count_some m expand at taken w h e k =
    let ws = has_words m expand at taken h k in
    let first = word_first m at w ws.0 e ws.1 in
    rw (ws.1 ∙ ap Some first.1) (omega arith)

few_by : (m : MemoryMap) (at : ℕ) (o : Option (List ℕ)) → words_at m at ≡ o → count_of o ≤ length m.bytes
few_by m at None e = omega arith
few_by m at (Some ws) e = let fits = text_lies_inside m at ws e in omega (arith, fits.1)

pub count_few : (m : MemoryMap) (at : ℕ) → count_of (words_at m at) ≤ length m.bytes
count_few m at = few_by m at (words_at m at) refl

-- fewer Z-characters, and as many words as there may be
pub less_work : (a b c d : ℕ) → a < b → d ≤ c → a * (c + 1) + d < b * (c + 1)
less_work a b c d less few =
    let more : (a + 1) * (c + 1) ≤ b * (c + 1) = mul-le (a + 1) (c + 1) b (c + 1) (omega (arith, less)) (omega arith) in
    further (a * (c + 1)) (b * (c + 1)) (subst (λ (x : ℕ). x ≤ b * (c + 1)) (times a (c + 1)) more)
  where
    further : (x y : ℕ) → x + (c + 1) ≤ y → x + d < y
    further x y h = omega (arith, h, few)

    times : (a n : ℕ) → (a + 1) * n ≡ a * n + n
    times a n = mul_comm (a + 1) n ∙ mul-add n a 1 ∙ ap (λ (k : ℕ). k + n * 1) (mul_comm n a)
        ∙ ap (λ (k : ℕ). a * n + k) (mul-one n)

-- ---- abbreviations

pub entered : (m : MemoryMap) (n w : ℕ) → word_at m ((header_of m.file).abbreviations + 2 * n) ≡ Ok w
    → abbreviation m n ≡ left_from m no_abbreviation (2 * w) 0 held.Nothing
unfolding abbreviation
entered m n w e = rw e refl

pub no_entry : (m : MemoryMap) (n : ℕ) (f : Fault) → word_at m ((header_of m.file).abbreviations + 2 * n) ≡ Err f
    → IsOk (abbreviation m n) → ⊥
unfolding abbreviation
no_entry m n f e h = let fault = rw e at h in absurd cc

-- ---- places

low_or_high : (w : ℕ) → (w < 32768) ⊎ (32768 ≤ w)
low_or_high w = go (nat_le 32768 w) refl
  where
    go : (b : Bool) → nat_le 32768 w ≡ b → (w < 32768) ⊎ (32768 ≤ w)
    go true e = inr (grind (arith, nat_tests))
    go false e = inl (grind (arith, nat_tests))

outside : (m : MemoryMap) (p : Place) → p.after ≡ None → left m p ≡ left_from m (abbreviation m) p.at p.taken p.held
unfolding left
outside m p e = rw e refl

inside : (m : MemoryMap) (p : Place) (a : After) → p.after ≡ Some a
    → left m p ≡ joined (left_from m no_abbreviation p.at p.taken p.held)
    (left_from m (abbreviation m) a.at a.taken held.Nothing)
unfolding left
inside m p a e = rw e refl

first_ok : (x y : Units) → IsOk (joined x y) → IsOk x
first_ok (Ok us) y h = refl
first_ok (Err f) y h = absurd cc

pub outside_ok : (m : MemoryMap) (p : Place) → p.after ≡ None → IsOk (left m p)
    → IsOk (left_from m (abbreviation m) p.at p.taken p.held)
outside_ok m p e h = rw (outside m p e) at h

pub inside_ok : (m : MemoryMap) (p : Place) (a : After) → p.after ≡ Some a → IsOk (left m p)
    → IsOk (left_from m no_abbreviation p.at p.taken p.held)
inside_ok m p a e h = first_ok _ _ (rw (inside m p a e) at h)

-- what has a meaning has a word there
pub word_is_there : (m : MemoryMap) (expand : ℕ → Units) (at taken : ℕ) (h : Pending) → code_word_at m at ≡ None
    → IsOk (left_from m expand at taken h) → ⊥
word_is_there m expand at taken h none k =
    let ws = has_words m expand at taken h k in
    let gone = word_gone m at none in
    cc

-- ---- what a word gives at a place

-- a word of a text was passed
pub text_passed : {S : Type 0} (gave : S → S → List Unit → Type 0) (a b : S) (m : MemoryMap) (p q : Place) (w : ℕ)
    (next : Pending) (on : Bool) → p.after ≡ None → code_word_at m p.at ≡ Some w → IsOk (left m p)
    → ((expand : ℕ → Units) (ws : List ℕ)
    → Gives gave a b (meaning m expand (held_back p.held ++ drop p.taken (z_characters (w ∷ ws))))
    (rest_read m expand w (Through next) ws)) → HasPassed w next p q on → Gives gave a b (left m p) (rest_on m on q)
text_passed {S} gave a b m p q w next on e word k gives passed = elim (low_or_high w) [
  | inl low ↦
      let to = passed.0 low in
      let there = ap (left m) to.1 ∙ outside m (record { at = p.at + 2; taken = 0; held = next; after = p.after }) e in
      subst (λ (o : Bool). Gives gave a b (left m p) (rest_on m o q)) (sym to.0)
      (rw (outside m p e, there) (gives_on gave a b m (abbreviation m) p.at p.taken w p.held next word low
      (outside_ok m p e k) (gives (abbreviation m))))
  | inr high ↦
      let end : on ≡ false = ended p.after e (passed.1 high) in
      subst (λ (o : Bool). Gives gave a b (left m p) (rest_on m o q)) (sym end)
      (rw (outside m p e) (gives_last gave a b m (abbreviation m) p.at p.taken w p.held next word high
      (outside_ok m p e k) (gives (abbreviation m))))
]
  where
    ended : (o : Option After) → o ≡ None → HasEnded o q on → on ≡ false
    ended None is h = h
    ended (Some x) is h = absurd cc

-- a word of the text of an abbreviation was passed
pub abbreviation_passed : {S : Type 0} (gave : S → S → List Unit → Type 0) (a b : S) (m : MemoryMap) (p q : Place)
    (x : After) (w : ℕ) (next : Pending) (on : Bool) → p.after ≡ Some x → code_word_at m p.at ≡ Some w
    → IsOk (left m p) → ((expand : ℕ → Units) (ws : List ℕ)
    → Gives gave a b (meaning m expand (held_back p.held ++ drop p.taken (z_characters (w ∷ ws))))
    (rest_read m expand w (Through next) ws)) → HasPassed w next p q on → Gives gave a b (left m p) (rest_on m on q)
abbreviation_passed {S} gave a b m p q x w next on e word k gives passed = elim (low_or_high w) [
  | inl low ↦
      let to = passed.0 low in
      let there = ap (left m) to.1 ∙ inside m (record { at = p.at + 2; taken = 0; held = next; after = p.after }) x e in
      subst (λ (o : Bool). Gives gave a b (left m p) (rest_on m o q)) (sym to.0)
      (rw (inside m p x e, there) (gives_before gave a b _ _ _
      (gives_on gave a b m no_abbreviation p.at p.taken w p.held next word low (inside_ok m p x e k)
      (gives no_abbreviation))))
  | inr high ↦
      let to = ended p.after e (passed.1 high) in
      let there = ap (left m) to.1 ∙ outside m
      (record { at = x.at; taken = x.taken; held = held.Nothing; after = None }) refl in
      let tail = left_from m (abbreviation m) x.at x.taken held.Nothing in
      let inner = gives_before gave a b _ _ tail (gives_last gave a b m no_abbreviation p.at p.taken w p.held next
      word high (inside_ok m p x e k) (gives no_abbreviation)) in
      subst (λ (o : Bool). Gives gave a b (left m p) (rest_on m o q)) (sym to.0)
      (rw (inside m p x e, there) (subst (Gives gave a b _) (joined_none tail) inner))
]
  where
    ended : (o : Option After) → o ≡ Some x → HasEnded o q on → (on ≡ true)
        × (q ≡ record { at = x.at; taken = x.taken; held = held.Nothing; after = None })
    ended None is h = absurd cc
    ended (Some y) is h =
        let same : y ≡ x = cc in
        subst (λ (z : After). (on ≡ true)
        × (q ≡ record { at = z.at; taken = z.taken; held = held.Nothing; after = None })) same h

-- a word of a text has named an abbreviation
pub text_up_to : {S : Type 0} (gave : S → S → List Unit → Type 0) (a b : S) (m : MemoryMap) (p : Place)
    (w t n : ℕ) → p.after ≡ None → code_word_at m p.at ≡ Some w → IsOk (left m p)
    → ((expand : ℕ → Units) (ws : List ℕ)
    → Gives gave a b (meaning m expand (held_back p.held ++ drop p.taken (z_characters (w ∷ ws))))
    (rest_read m expand w (UpTo t n) ws)) → Gives gave a b (left m p)
    (joined (abbreviation m n) (left_from m (abbreviation m) p.at t held.Nothing))
text_up_to gave a b m p w t n e word k gives =
    rw (outside m p e) (gives_up_to gave a b m (abbreviation m) p.at p.taken w t n p.held word (outside_ok m p e k)
    (gives (abbreviation m)))

pub named_ok : {S : Type 0} (gave : S → S → List Unit → Type 0) (a b : S) (x y z : Units)
    → Gives gave a b x (joined y z) → IsOk x → IsOk y
named_ok gave a b x (Ok us) z h k = refl
named_ok gave a b x (Err f) z h k = let whole = h.is in absurd cc

-- and its text is at hand
pub has_entered : {S : Type 0} (gave : S → S → List Unit → Type 0) (a b : S) (m : MemoryMap) (p q : Place)
    (t n : ℕ) → HasEntered m n t p q → Gives gave a b (left m p)
    (joined (abbreviation m n) (left_from m (abbreviation m) p.at t held.Nothing))
    → Gives gave a b (left m p) (left m q)
has_entered gave a b m p q t n there gives =
    let is : left m q ≡ joined (abbreviation m n) (left_from m (abbreviation m) p.at t held.Nothing) = inside m q
    (record { at = p.at; taken = t }) there.after_is ∙ rw (there.taken_is, there.held_is, ← there.there) refl in
    rw is gives

-- none is named in the text of an abbreviation
pub none_named : {S : Type 0} (gave : S → S → List Unit → Type 0) (a b : S) (m : MemoryMap) (p : Place)
    (x : After) (w t n : ℕ) → p.after ≡ Some x → code_word_at m p.at ≡ Some w → IsOk (left m p)
    → ((expand : ℕ → Units) (ws : List ℕ)
    → Gives gave a b (meaning m expand (held_back p.held ++ drop p.taken (z_characters (w ∷ ws))))
    (rest_read m expand w (UpTo t n) ws)) → ⊥
none_named gave a b m p x w t n e word k gives =
    let up = gives_up_to gave a b m no_abbreviation p.at p.taken w t n p.held word (inside_ok m p x e k)
    (gives no_abbreviation) in
    none_ok up.units (left_from m no_abbreviation p.at p.taken p.held)
    (left_from m no_abbreviation p.at t held.Nothing) up.is (inside_ok m p x e k)
  where
    none_ok : (us : List Unit) (whole rest : Units) → whole ≡ joined (Ok us) (joined (no_abbreviation n) rest)
        → IsOk whole → ⊥
    none_ok us whole rest e h = cc

-- ---- refusals at a place

pub text_refused : {S : Type 0} (refused : S → S → List Unit → Type 0) (a b : S) (m : MemoryMap) (p : Place)
    (w : ℕ) → p.after ≡ None → code_word_at m p.at ≡ Some w → IsOk (left m p)
    → ((expand : ℕ → Units) (ws : List ℕ) → Refuses refused a b
    (meaning m expand (held_back p.held ++ drop p.taken (z_characters (w ∷ ws))))) → Refuses refused a b (left m p)
text_refused refused a b m p w e word k h =
    rw (outside m p e) (refuses_word refused a b m (abbreviation m) p.at p.taken w p.held word (outside_ok m p e k)
    (h (abbreviation m)))

pub abbreviation_refused : {S : Type 0} (refused : S → S → List Unit → Type 0) (a b : S) (m : MemoryMap)
    (p : Place) (x : After) (w : ℕ) → p.after ≡ Some x → code_word_at m p.at ≡ Some w → IsOk (left m p)
    → ((expand : ℕ → Units) (ws : List ℕ) → Refuses refused a b
    (meaning m expand (held_back p.held ++ drop p.taken (z_characters (w ∷ ws))))) → Refuses refused a b (left m p)
abbreviation_refused refused a b m p x w e word k h =
    rw (inside m p x e) (refuses_before refused a b _ _ (refuses_word refused a b m no_abbreviation p.at p.taken w
    p.held word (inside_ok m p x e k) (h no_abbreviation)))

-- ---- how much is left at a place

work_outside : (m : MemoryMap) (p : Place) → p.after ≡ None
    → work_left m p ≡ (4 * count_of (words_at m p.at) - p.taken) * (length m.bytes + 1)
unfolding work_left
work_outside m p e = rw e refl

work_inside : (m : MemoryMap) (p : Place) (a : After) → p.after ≡ Some a
    → work_left m p ≡ (4 * count_of (words_at m a.at) - a.taken) * (length m.bytes + 1) + count_of (words_at m p.at)
unfolding work_left
work_inside m p a e = rw e refl

no_more : (a b c : ℕ) → a < b → a * (c + 1) < b * (c + 1)
no_more a b c less = let h = less_work a b c 0 less (omega arith) in omega (arith, h)

pub text_less : (m : MemoryMap) (p q : Place) (w : ℕ) (next : Pending) (on : Bool) → p.after ≡ None → IsPlace p
    → code_word_at m p.at ≡ Some w → IsOk (left m p) → HasPassed w next p q on → on ≡ true
    → work_left m q < work_left m p
text_less m p q w next on e stands word k passed goes = elim (low_or_high w) [
  | inl low ↦
      let to = passed.0 low in
      let there = ap (work_left m) to.1 ∙ work_outside m
      (record { at = p.at + 2; taken = 0; held = next; after = p.after }) e in
      let count = count_on m (abbreviation m) p.at p.taken w p.held word low (outside_ok m p e k) in
      rw (work_outside m p e, there) (no_more _ _ (length m.bytes) (omega (arith, count, stands.taken)))
  | inr high ↦ absurd (let end = ended p.after e (passed.1 high) in cc)
]
  where
    ended : (o : Option After) → o ≡ None → HasEnded o q on → on ≡ false
    ended None is h = h
    ended (Some x) is h = absurd cc

pub abbreviation_less : (m : MemoryMap) (p q : Place) (x : After) (w : ℕ) (next : Pending) (on : Bool)
    → p.after ≡ Some x → code_word_at m p.at ≡ Some w → IsOk (left m p) → HasPassed w next p q on
    → work_left m q < work_left m p
abbreviation_less m p q x w next on e word k passed = elim (low_or_high w) [
  | inl low ↦
      let to = passed.0 low in
      let there = ap (work_left m) to.1 ∙ work_inside m
      (record { at = p.at + 2; taken = 0; held = next; after = p.after }) x e in
      let count = count_on m no_abbreviation p.at p.taken w p.held word low (inside_ok m p x e k) in
      rw (work_inside m p x e, there) (fewer _ _ _ (omega (arith, count)))
  | inr high ↦
      let to = ended p.after e (passed.1 high) in
      let there = ap (work_left m) to ∙ work_outside m
      (record { at = x.at; taken = x.taken; held = held.Nothing; after = None }) refl in
      let some = count_some m no_abbreviation p.at p.taken w p.held word (inside_ok m p x e k) in
      rw (work_inside m p x e, there) (more _ _ some)
]
  where
    fewer : (a b c : ℕ) → b < c → a + b < a + c
    fewer a b c h = omega (arith, h)

    more : (a b : ℕ) → 1 ≤ b → a < a + b
    more a b h = omega (arith, h)

    ended : (o : Option After) → o ≡ Some x → HasEnded o q on
        → q ≡ record { at = x.at; taken = x.taken; held = held.Nothing; after = None }
    ended None is h = absurd cc
    ended (Some y) is h =
        let same : y ≡ x = cc in subst (λ (z : After). q ≡ record {
          at = z.at;
          taken = z.taken;
          held = held.Nothing;
          after = None;
        }) same h.1

pub enter_less : (m : MemoryMap) (p q : Place) (w t n : ℕ) → p.after ≡ None → code_word_at m p.at ≡ Some w
    → IsOk (left m p) → p.taken < t → t ≤ 3 → HasEntered m n t p q → work_left m q < work_left m p
enter_less m p q w t n e word k later three there =
    let some = count_some m (abbreviation m) p.at p.taken w p.held word (outside_ok m p e k) in
    rw (work_outside m p e, work_inside m q (record { at = p.at; taken = t }) there.after_is)
    (less_work _ _ (length m.bytes) _ (omega (arith, some, later, three)) (count_few m q.at))

-- ---- a whole text

pub first_left : (m : MemoryMap) (a : ℕ) → left m (first_place a) ≡ text_units m a
unfolding left text_units
first_left m a = refl
