-- Codes for a table of stream 3.
use Rattle.std.proofs.Common.{◌≡◌, ◌∙◌, ◌≤◌, ◌<◌, ◌⊎◌, inl, inr, ℕ, ◌+◌, ◌-◌, Bool, true, false, List, [], ◌∷◌, ◌++◌}
use Rattle.std.proofs.Common.{length, Some, None, Result, Ok, Err, refl, ap, sym, arith, append_assoc, nat_lt, nat_le}
use Rattle.std.specs.Prelude.{◌==◌, if◌then◌else◌}
use Rattle.std.proofs.lemmas.Bool.Decides.{nat_tests}
use Rattle.std.proofs.lemmas.List.{length-take}
use Rattle.std.proofs.lemmas.Option.{slice_get_past}
use Rattle.zk_mem.specs.declared.fault.Fault.{Fault}
use Rattle.zk_mem.specs.declared.fault.Fault.TheVariants.{BadAddress, ReadOnly}
use Rattle.zk_mem.specs.Map.{MemoryMap, readable_end, byte_put, with_byte}
use Rattle.zk_mem.specs.Results.{◌>>=◌}
use Rattle.zk_text.specs.declared.unit.Unit.{Unit}
use Rattle.zk_text.specs.Extra.{ExtraTable, character, characters}
use Rattle.zk_text.specs.Standard.{standard_characters}
use Rattle.zk_tables.specs.Runs.{bytes_put}
use Rattle.zk_step.specs.Routing.{code_stored, stored_all}
use Rattle.zk_step.specs.Printed.{FirstPart, Collected, stored_all-append}

-- there are no more than 97 extra characters
few_characters : (e : ExtraTable) → length (characters e) ≤ 97
unfolding standard_characters
few_characters None = omega arith
few_characters (Some words) = omega (arith, length-take 97 words)

far_character : (e : ExtraTable) (code : ℕ) → 252 ≤ code → character e code ≡ None
unfolding character
far_character e code h =
    let high : nat_lt code 127 ≡ false = grind (arith, nat_tests) in
    let extra : nat_lt code 155 ≡ false = grind (arith, nat_tests) in
    let above : nat_le 32 code ≡ true = grind (arith, nat_tests) in
    rw (above, high, extra) (slice_get_past (characters e) (code - 155) (omega (arith, few_characters e)))

pub far_code : (e : ExtraTable) (code : ℕ) → 252 ≤ code → code_stored e code ≡ 63 ∷ []
far_code e code h =
    let zero : (code == 0) ≡ false = grind (arith, nat_tests) in
    let nine : (code == 9) ≡ false = grind (arith, nat_tests) in
    let eleven : (code == 11) ≡ false = grind (arith, nat_tests) in
    let thirteen : (code == 13) ≡ false = grind (arith, nat_tests) in
    rw (zero, nine, eleven, thirteen, far_character e code h) refl

pub plain_code : (e : ExtraTable) (code : ℕ) → 31 < code → code < 127 → code_stored e code ≡ code ∷ []
unfolding character
plain_code e code low high =
    let zero : (code == 0) ≡ false = grind (arith, nat_tests) in
    let from : nat_le 32 code ≡ true = grind (arith, nat_tests) in
    let to : nat_lt code 127 ≡ true = grind (arith, nat_tests) in
    let nine : (code == 9) ≡ false = grind (arith, nat_tests) in
    let eleven : (code == 11) ≡ false = grind (arith, nat_tests) in
    let thirteen : (code == 13) ≡ false = grind (arith, nat_tests) in
    rw (zero, nine, eleven, thirteen, from, to) refl

-- where there was no room for a text, there is none for a longer one
pub longer : (e : ExtraTable) (a b : List ℕ) (us more : List Unit) → FirstPart b (a ++ stored_all e us)
    → FirstPart b (a ++ stored_all e (us ++ more))
longer e a b us more h = (
  h.0,
  (
    h.1.0 ++ stored_all e more,
    ap (λ (cs : List ℕ). a ++ cs) (stored_all-append e us more)
        ∙ sym (append_assoc a (stored_all e us) (stored_all e more))
        ∙ ap (λ (cs : List ℕ). cs ++ stored_all e more) h.1.1 ∙ append_assoc b h.1.0 (stored_all e more),
  ),
)

-- bytes are stored below 65,536
byte_low : (m n : MemoryMap) (a v : ℕ) → byte_put m a v ≡ Ok n → a < 65536
unfolding byte_put
byte_low m n a v h = go (nat_lt a (readable_end m)) refl h
  where
    go : (b : Bool) → nat_lt a (readable_end m) ≡ b
        → (if b then (if nat_lt a m.static_base then Ok (with_byte m a v) else Err ReadOnly) else Err BadAddress)
        ≡ Ok n → a < 65536
    go true e k = grind (arith, nat_tests, e)
    go false e k = absurd cc

stored_parts : {A B : Type 0} (r : Result A Fault) (k : A → Result B Fault) (y : B) → (r >>= k) ≡ Ok y
    → (x : A) × (r ≡ Ok x) × (k x ≡ Ok y)
stored_parts {A} {B} (Ok x) k y h = (x, refl, h)
stored_parts {A} {B} (Err f) k y h = absurd cc

pub bytes_low : (m n : MemoryMap) (a : ℕ) (bs : List ℕ) → bytes_put m a bs ≡ Ok n
    → (length bs ≡ 0) ⊎ (a + length bs ≤ 65536)
unfolding bytes_put
bytes_low m n a [] h = inl refl
bytes_low m n a (b ∷ bs) h =
    let p = stored_parts (byte_put m a b) (λ o. bytes_put o (a + 1) bs) n h in
    let low = byte_low m p.0 a b p.1 in
    inr (go (bytes_low p.0 n (a + 1) bs p.2) low)
  where
    go : ((length bs ≡ 0) ⊎ (a + 1 + length bs ≤ 65536)) → a < 65536 → a + length (b ∷ bs) ≤ 65536
    go (inl none) low = omega (arith, none)
    go (inr rest) low = omega (arith, rest)

-- what refuses a first part refuses the whole
fault_later : {A B : Type 0} (r : Result A Fault) (k l : A → Result B Fault) (f : Fault)
    → ((x : A) → k x ≡ Err f → l x ≡ Err f) → (r >>= k) ≡ Err f → (r >>= l) ≡ Err f
fault_later {A} {B} (Ok x) k l f on h = on x h
fault_later {A} {B} (Err g) k l f on h = cc

part_refused : (m : MemoryMap) (a : ℕ) (bs more : List ℕ) (f : Fault) → bytes_put m a bs ≡ Err f
    → bytes_put m a (bs ++ more) ≡ Err f
unfolding bytes_put
part_refused m a [] more f h = absurd cc
part_refused m a (b ∷ bs) more f h = fault_later (byte_put m a b) (λ o. bytes_put o (a + 1) bs)
    (λ o. bytes_put o (a + 1) (bs ++ more)) f (λ o k. part_refused o (a + 1) bs more f k) h

pub all_refused : (m : MemoryMap) (a : ℕ) (got all : List ℕ) (f : Fault) → Collected got all
    → bytes_put m a got ≡ Err f → bytes_put m a all ≡ Err f
all_refused m a got all f (inl same) h = rw (← same) h
all_refused m a got all f (inr part) h = rw part.1.1 (part_refused m a got part.1.0 f h)

-- what was stored is all of it, since a list that is full finds no place
pub all_stored : (m n : MemoryMap) (a : ℕ) (got all : List ℕ) → Collected got all → 1 ≤ a
    → bytes_put m a got ≡ Ok n → got ≡ all
all_stored m n a got all (inl same) low h = same
all_stored m n a got all (inr part) low h = go (bytes_low m n a got h)
  where
    go : ((length got ≡ 0) ⊎ (a + length got ≤ 65536)) → got ≡ all
    go (inl none) = absurd (omega (arith, none, part.0))
    go (inr few) = absurd (omega (arith, few, part.0))

-- the newest table's count goes on to fit
pub few_stored : (m n : MemoryMap) (address count : ℕ) (got : List ℕ) → count < 65536
    → bytes_put m (address + 2 + count) got ≡ Ok n → count + length got < 65536
few_stored m n address count got low h = go (bytes_low m n (address + 2 + count) got h)
  where
    go : ((length got ≡ 0) ⊎ (address + 2 + count + length got ≤ 65536)) → count + length got < 65536
    go (inl none) = omega (arith, none, low)
    go (inr few) = omega (arith, few)
