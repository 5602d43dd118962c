-- Dividing a text into words.
use Rattle.std.proofs.Common.{◌≡◌, ◌≢◌, ◌≤◌, ◌<◌, ℕ, zero, suc, ◌+◌, ◌-◌, Bool, true, false, List, [], ◌∷◌, ◌++◌}
use Rattle.std.proofs.Common.{length, drop, get_or, Option, Some, None, Result, Ok, Err, ◌==◌, drop-cons, add-one}
use Rattle.std.proofs.Common.{append_assoc, refl, sym, ◌∙◌, ap, arith}
use Rattle.std.proofs.lemmas.Bool.{ne_eqb, eq-eqb}
use Rattle.std.proofs.lemmas.List.{drop_all, append-nil}
use Rattle.std.specs.Prelude.{slice_get, map}
use Rattle.std.proofs.lemmas.Option.{slice_get-get_or}
use Rattle.zk_mem.specs.declared.fault.Fault.{Fault}
use Rattle.zk_mem.specs.Results.{◌>>=◌}
use Rattle.zk_mem.specs.Map.{MemoryMap, byte_at, cell_at}
use Rattle.zk_tables.specs.declared.dictionary.Dictionary.{Dictionary}
use Rattle.zk_tables.specs.declared.tokens.Token.{Token}
use Rattle.zk_tables.specs.declared.words.Word.{Word}
use Rattle.zk_tables.specs.Dictionaries.{bytes_from, IsDictionaryOf, separators_of}
use Rattle.zk_tables.specs.Tokens.{is_letter, run, token_here, tokens_from, tokens}
use Rattle.zk_tables.specs.Parsing.{letters_counted, letters_to_zero, word_in, words_for, words_of}
use Rattle.zk_tables.proofs.Finding.{dictionary_inside}

-- ---- a run of letters

pub run_on : (separators text : List ℕ) (i : ℕ) → i < length text → is_letter separators (get_or text i 0) ≡ true
    → run separators (drop i text) ≡ suc (run separators (drop (i + 1) text))
unfolding run
run_on separators text i h letter =
    rw (drop-cons text i 0, add-one i, letter) (add-one (run separators (drop (suc i) text)))

pub run_stops : (separators text : List ℕ) (i : ℕ) → i < length text
    → is_letter separators (get_or text i 0) ≡ false → run separators (drop i text) ≡ 0
unfolding run
run_stops separators text i h other = rw (drop-cons text i 0, other) refl

pub run_ends : (separators text : List ℕ) (i : ℕ) → length text ≤ i → run separators (drop i text) ≡ 0
unfolding run
run_ends separators text i h = rw (drop_all i text h) refl

-- ---- the letters of a text buffer

-- letters before others, where these can be read
unfoldable pub after : List ℕ → Result (List ℕ) Fault → Result (List ℕ) Fault
after xs r = r >>= λ ys. Ok (xs ++ ys)

one_more : (xs : List ℕ) (c : ℕ) (r : Result (List ℕ) Fault) → after xs (r >>= λ cs. Ok (c ∷ cs)) ≡ after
    (xs ++ c ∷ []) r
unfolding after
one_more xs c (Ok ys) = ap (λ (zs : List ℕ). Ok zs) (sym (append_assoc xs (c ∷ []) ys))
one_more xs c (Err e) = refl

pub after_none : (r : Result (List ℕ) Fault) → r ≡ after [] r
unfolding after
after_none (Ok xs) = refl
after_none (Err e) = refl

pub counted_on : (m : MemoryMap) (a n i c : ℕ) (xs : List ℕ) → i < n → byte_at m (a + i) ≡ Ok c
    → after xs (letters_counted m (a + i) (n - i)) ≡ after (xs ++ c ∷ [])
    (letters_counted m (a + (i + 1)) (n - (i + 1)))
unfolding letters_counted
counted_on m a n i c xs h there =
    let e : n - i ≡ suc (n - (i + 1)) = omega arith in
    let next : a + (i + 1) ≡ (a + i) + 1 = omega arith in
    rw (e, there, next) (one_more xs c (letters_counted m ((a + i) + 1) (n - (i + 1))))

pub counted_faults : (m : MemoryMap) (a n i : ℕ) (xs : List ℕ) (e : Fault) → i < n → byte_at m (a + i) ≡ Err e
    → after xs (letters_counted m (a + i) (n - i)) ≡ Err e
unfolding letters_counted after
counted_faults m a n i xs d h there = let e : n - i ≡ suc (n - (i + 1)) = omega arith in rw (e, there) refl

pub counted_ends : (m : MemoryMap) (a n i : ℕ) (xs : List ℕ) → n ≤ i
    → after xs (letters_counted m (a + i) (n - i)) ≡ Ok xs
unfolding letters_counted after
counted_ends m a n i xs h = let e : n - i ≡ zero = omega arith in rw (e, append-nil xs) refl

pub zero_on : (m : MemoryMap) (a n i c : ℕ) (xs : List ℕ) → i < n → byte_at m (a + i) ≡ Ok c → c ≢ 0
    → after xs (letters_to_zero m (a + i) (n - i)) ≡ after (xs ++ c ∷ [])
    (letters_to_zero m (a + (i + 1)) (n - (i + 1)))
unfolding letters_to_zero
zero_on m a n i c xs h there some =
    let e : n - i ≡ suc (n - (i + 1)) = omega arith in
    let next : a + (i + 1) ≡ (a + i) + 1 = omega arith in
    let test : (c == 0) ≡ false = ne_eqb c 0 some in
    rw (e, there, test, next) (one_more xs c (letters_to_zero m ((a + i) + 1) (n - (i + 1))))

pub zero_here : (m : MemoryMap) (a n i c : ℕ) (xs : List ℕ) → i < n → byte_at m (a + i) ≡ Ok c → c ≡ 0
    → after xs (letters_to_zero m (a + i) (n - i)) ≡ Ok xs
unfolding letters_to_zero after
zero_here m a n i c xs h there none =
    let e : n - i ≡ suc (n - (i + 1)) = omega arith in
    let test : (c == 0) ≡ true = eq-eqb c 0 none in
    rw (e, there, test, append-nil xs) refl

pub zero_faults : (m : MemoryMap) (a n i : ℕ) (xs : List ℕ) (e : Fault) → i < n → byte_at m (a + i) ≡ Err e
    → after xs (letters_to_zero m (a + i) (n - i)) ≡ Err e
unfolding letters_to_zero after
zero_faults m a n i xs d h there = let e : n - i ≡ suc (n - (i + 1)) = omega arith in rw (e, there) refl

pub zero_ends : (m : MemoryMap) (a n i : ℕ) (xs : List ℕ) → n ≤ i → after xs (letters_to_zero m (a + i) (n - i)) ≡ Ok xs
unfolding letters_to_zero after
zero_ends m a n i xs h = let e : n - i ≡ zero = omega arith in rw (e, append-nil xs) refl

-- ---- the separators

read_at : (xs : List ℕ) (i x : ℕ) → slice_get xs i ≡ Some x → get_or xs i 0 ≡ x
read_at [] zero x h = absurd cc
read_at [] (suc i) x h = absurd cc
read_at (y ∷ ys) zero x h = cc
read_at (y ∷ ys) (suc i) x h = read_at ys i x h

separators_step : (m : MemoryMap) (a n i x : ℕ) → i < n → cell_at m (a + i) ≡ Some x
    → bytes_from m (a + i) (n - i) ≡ x ∷ bytes_from m (a + (i + 1)) (n - (i + 1))
unfolding bytes_from cell_at
separators_step m a n i x h there =
    let e : n - i ≡ suc (n - (i + 1)) = omega arith in
    let next : a + (i + 1) ≡ (a + i) + 1 = omega arith in
    let same : get_or m.bytes (a + i) 0 ≡ x = read_at m.bytes (a + i) x there in
    rw (e, same, next) refl

pub separators_on : (m : MemoryMap) (a n i x : ℕ) (xs ys : List ℕ) → i < n → cell_at m (a + i) ≡ Some x
    → xs ++ bytes_from m (a + i) (n - i) ≡ ys → (xs ++ x ∷ []) ++ bytes_from m (a + (i + 1)) (n - (i + 1)) ≡ ys
separators_on m a n i x xs ys h there so_far =
    append_assoc xs (x ∷ []) (bytes_from m (a + (i + 1)) (n - (i + 1))) ∙ ap (λ (zs : List ℕ). xs ++ zs)
    (sym (separators_step m a n i x h there)) ∙ so_far

pub separators_end : (m : MemoryMap) (a n i : ℕ) (xs ys : List ℕ) → n ≤ i
    → xs ++ bytes_from m (a + i) (n - i) ≡ ys → xs ≡ ys
unfolding bytes_from
separators_end m a n i xs ys h so_far =
    let e : n - i ≡ zero = omega arith in
    let all = rw e at so_far in
    sym (append-nil xs) ∙ all

pub separator_there : (m : MemoryMap) (d : Dictionary) (i : ℕ) (r : Option ℕ) → IsDictionaryOf m d
    → i < d.separators → r ≡ cell_at m (d.address + 1 + i) → ((x : ℕ) → r ≡ Some x → ⊥) → ⊥
unfolding cell_at
separator_there m d i r stands below e none =
    let inside = dictionary_inside m d stands in
    let long : d.address + 1 + i < length m.bytes = omega (arith, inside.end, below) in
    none (get_or m.bytes (d.address + 1 + i) 0) (e ∙ slice_get-get_or m.bytes (d.address + 1 + i) 0 long)

-- ---- the words so far, and those of what is left

unfoldable pub words_from : MemoryMap → Dictionary → List ℕ → ℕ → Bool → List Word
words_from m d letters p inside = map (word_in m d letters) (tokens_from (separators_of m d) p inside (drop p letters))

pub words_all : (m : MemoryMap) (d : Dictionary) (letters : List ℕ)
    → words_from m d letters 0 false ≡ words_of m d letters
unfolding words_from words_of tokens
words_all m d letters = refl

abbrev rest_from : MemoryMap → Dictionary → List ℕ → ℕ → List Word
rest_from m d letters p = words_from m d letters (p + 1) (is_letter (separators_of m d) (get_or letters p 0))

words_step : (m : MemoryMap) (d : Dictionary) (letters : List ℕ) (p : ℕ) (inside : Bool) (r : Option Token)
    → p < length letters → r ≡ token_here (separators_of m d) p inside (drop p letters)
    → words_from m d letters p inside ≡ words_for m d letters r ++ rest_from m d letters p
unfolding words_from tokens_from
words_step m d letters p inside None h here =
    let cons = drop-cons letters p 0 in
    let at_front = rw cons at (sym here) in
    rw (cons, at_front, add-one p) refl
words_step m d letters p inside (Some t) h here =
    let cons = drop-cons letters p 0 in
    let at_front = rw cons at (sym here) in
    rw (cons, at_front, add-one p) refl

pub words_on : (m : MemoryMap) (d : Dictionary) (letters : List ℕ) (p : ℕ) (inside : Bool) (separators : List ℕ)
    (r : Option Token) (next : Bool) (xs ys zs : List Word) → separators ≡ separators_of m d → p < length letters
    → r ≡ token_here separators p inside (drop p letters) → next ≡ is_letter separators (get_or letters p 0)
    → zs ≡ xs ++ words_for m d letters r → xs ++ words_from m d letters p inside ≡ ys
    → zs ++ words_from m d letters (p + 1) next ≡ ys
words_on m d letters p inside separators r next xs ys zs same h here letter put so_far =
    let there = rw same at here in
    let is = rw same at letter in
    rw (put, is) (append_assoc xs (words_for m d letters r) (rest_from m d letters p)
    ∙ ap (λ (us : List Word). xs ++ us) (sym (words_step m d letters p inside r h there)) ∙ so_far)

pub words_end : (m : MemoryMap) (d : Dictionary) (letters : List ℕ) (p : ℕ) (inside : Bool) (xs ys : List Word)
    → length letters ≤ p → xs ++ words_from m d letters p inside ≡ ys → xs ≡ ys
unfolding words_from tokens_from
words_end m d letters p inside xs ys h so_far =
    let none = drop_all p letters h in
    let all = rw none at so_far in
    sym (append-nil xs) ∙ all

pub ruleset of_run_length = (run_on, run_stops, run_ends)

pub ruleset of_read_counted = (after_none, counted_on, counted_faults, counted_ends)

pub ruleset of_read_to_zero = (after_none, zero_on, zero_here, zero_faults, zero_ends)

pub ruleset separators_read = (dictionary_inside, separators_on, separators_end, separator_there)

pub ruleset of_find_words = (words_all, words_on, words_end)
