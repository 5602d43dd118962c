-- One link more of a chain.
use Rattle.std.proofs.Common.{◌≡◌, ◌≢◌, ℕ, zero, suc, ◌+◌, ◌-◌, ◌<◌, ◌≤◌, true, false, List, [], ◌∷◌, length, Result}
use Rattle.std.proofs.Common.{Ok, Err, refl, sym, ◌∙◌, ap, arith, eqb}
use Rattle.std.specs.Prelude.{IsOk}
use Rattle.std.proofs.lemmas.Bool.{ne_eqb, eq-eqb}
use Rattle.zk_mem.specs.declared.fault.Fault.{Fault}
use Rattle.zk_mem.specs.declared.fault.Fault.TheVariants.{BadTree}
use Rattle.zk_mem.specs.Results.{◌>>=◌}
use Rattle.zk_mem.specs.Map.{MemoryMap}
use Rattle.zk_tables.specs.declared.links.LinkPlace.{LinkPlace}
use Rattle.zk_tables.specs.Layout.{entry_of, entries}
use Rattle.zk_tables.specs.Links.{link_at, sibling_of, child_of}
use Rattle.zk_tables.specs.Chain.{chain_from, children_of, how_many}
use Rattle.zk_tables.specs.Tree.{naming_in, naming_among}

abbrev kept : ℕ → Result ℕ Fault
kept n = Ok n

pub zero_test : (x : ℕ) → x ≢ 0 → eqb x 0 ≡ false
zero_test x h = ne_eqb x 0 h

sub_suc : (n i : ℕ) → i < n → n - i ≡ suc (n - (i + 1))
sub_suc n i h = omega arith

-- at 0 a chain has ended
pub chain_end : (m : MemoryMap) (n x : ℕ) → x ≡ 0 → chain_from m n x ≡ Ok []
unfolding chain_from
chain_end m zero x h = rw h refl
chain_end m (suc n) x h = rw h refl

-- one object of a chain
pub chain_next : (m : MemoryMap) (n i x z : ℕ) → i < n → x ≢ 0 → link_at m (sibling_of x) ≡ Ok z
    → chain_from m (n - i) x ≡ (chain_from m (n - (i + 1)) z >>= λ xs. Ok (x ∷ xs))
unfolding chain_from
chain_next m n i x z lt ne h = rw (sub_suc n i lt, zero_test x ne, h) refl

pub chain_stops : (m : MemoryMap) (n i x : ℕ) (e : Fault) → i < n → x ≢ 0 → link_at m (sibling_of x) ≡ Err e
    → chain_from m (n - i) x ≡ Err e
unfolding chain_from
chain_stops m n i x e lt ne h = rw (sub_suc n i lt, zero_test x ne, h) refl

-- where no further object has room
pub chain_full : (m : MemoryMap) (n i x a : ℕ) → n ≤ i → x ≢ 0 → entry_of m x ≡ Ok a
    → chain_from m (n - i) x ≡ Err BadTree
unfolding chain_from
chain_full m n i x a le ne h = let none : n - i ≡ zero = omega arith in rw (none, zero_test x ne, h) refl

pub chain_full_bad : (m : MemoryMap) (n i x : ℕ) (e : Fault) → n ≤ i → x ≢ 0 → entry_of m x ≡ Err e
    → chain_from m (n - i) x ≡ Err e
unfolding chain_from
chain_full_bad m n i x e le ne h = let none : n - i ≡ zero = omega arith in rw (none, zero_test x ne, h) refl

-- how many objects a chain has, after so many that were met
abbrev pub after_them : ℕ → Result (List ℕ) Fault → Result ℕ Fault
after_them n (Ok xs) = Ok (n + length xs)
after_them n (Err e) = Err e

one_more : (r : Result (List ℕ) Fault) (n x : ℕ) → after_them n (r >>= λ xs. Ok (x ∷ xs)) ≡ after_them (n + 1) r
one_more (Ok xs) n x = let e : n + suc (length xs) ≡ n + 1 + length xs = omega arith in ap (λ (k : ℕ). kept k) e
one_more (Err e) n x = refl

none_yet : (r : Result (List ℕ) Fault) → after_them 0 r ≡ how_many r
none_yet (Ok xs) = let e : 0 + length xs ≡ length xs = omega arith in ap (λ (k : ℕ). kept k) e
none_yet (Err e) = refl

-- the whole chain, met from its front on
pub count_start : (m : MemoryMap) (n x : ℕ) → after_them 0 (chain_from m (n - 0) x) ≡ how_many (chain_from m n x)
count_start m n x = let e : n - 0 ≡ n = omega arith in rw e (none_yet (chain_from m n x))

pub count_next : (m : MemoryMap) (n i x z : ℕ) → i < n → x ≢ 0 → link_at m (sibling_of x) ≡ Ok z
    → after_them i (chain_from m (n - i) x) ≡ after_them (i + 1) (chain_from m (n - (i + 1)) z)
count_next m n i x z lt ne h = ap (λ (r : Result (List ℕ) Fault). after_them i r) (chain_next m n i x z lt ne h)
    ∙ one_more (chain_from m (n - (i + 1)) z) i x

-- what is left decides
pub count_done : (m : MemoryMap) (most first n i x : ℕ) → after_them i (chain_from m n x) ≡ how_many
    (chain_from m most first) → x ≡ 0 → Ok i ≡ how_many (chain_from m most first)
count_done m most first n i x whole h =
    let e : i + 0 ≡ i = omega arith in
    sym (ap (λ (r : Result (List ℕ) Fault). after_them i r) (chain_end m n x h) ∙ ap (λ (k : ℕ). kept k) e) ∙ whole

pub count_failed : (m : MemoryMap) (most first n i x : ℕ) (e : Fault)
    → after_them i (chain_from m n x) ≡ how_many (chain_from m most first) → chain_from m n x ≡ Err e
    → Err e ≡ how_many (chain_from m most first)
count_failed m most first n i x e whole h = sym (ap (λ (r : Result (List ℕ) Fault). after_them i r) h) ∙ whole

-- a chain that is counted is one
pub counted_chain : (r : Result (List ℕ) Fault) (n : ℕ) → Ok n ≡ how_many r → IsOk r
counted_chain (Ok xs) n e = refl
counted_chain (Err d) n e = absurd cc

pub uncounted_chain : (r : Result (List ℕ) Fault) (e : Fault) → Err e ≡ how_many r → r ≡ Err e
uncounted_chain (Ok xs) e h = absurd cc
uncounted_chain (Err d) e h = cc

-- ---- the link that names an object

-- among the objects from x on, where a link at a place names x
unfoldable pub naming_from : MemoryMap → ℕ → ℕ → LinkPlace → ℕ → Result LinkPlace Fault
naming_from m n x place o = chain_from m n x >>= λ xs. naming_in place xs o

pub naming_start : (m : MemoryMap) (p o x : ℕ) → link_at m (child_of p) ≡ Ok x
    → naming_from m (entries m - 0) x (child_of p) o ≡ naming_among m p o
unfolding naming_from naming_among children_of
naming_start m p o x h = let all : entries m - 0 ≡ entries m = omega arith in rw (all, h) refl

pub naming_start_bad : (m : MemoryMap) (p o : ℕ) (e : Fault) → link_at m (child_of p) ≡ Err e
    → naming_among m p o ≡ Err e
unfolding naming_among children_of
naming_start_bad m p o e h = rw h refl

pub naming_end : (m : MemoryMap) (n x o : ℕ) (place : LinkPlace) → x ≡ 0 → naming_from m n x place o ≡ Err BadTree
unfolding naming_from
naming_end m n x o place h = rw (chain_end m n x h) refl

skip : (r : Result (List ℕ) Fault) (place : LinkPlace) (x o : ℕ) → eqb x o ≡ false
    → (r >>= (λ xs. Ok (x ∷ xs)) >>= λ xs. naming_in place xs o) ≡ (r >>= λ xs. naming_in (sibling_of x) xs o)
skip (Ok xs) place x o h = rw h refl
skip (Err e) place x o h = refl

pub naming_next : (m : MemoryMap) (n i x z o : ℕ) (place : LinkPlace) → i < n → x ≢ 0 → x ≢ o
    → link_at m (sibling_of x) ≡ Ok z → naming_from m (n - i) x place o ≡ naming_from m (n - (i + 1)) z (sibling_of x) o
unfolding naming_from
naming_next m n i x z o place lt ne other h =
    rw (chain_next m n i x z lt ne h) (skip (chain_from m (n - (i + 1)) z) place x o (ne_eqb x o other))

pub naming_fault : (m : MemoryMap) (n x o : ℕ) (place : LinkPlace) (e : Fault) → chain_from m n x ≡ Err e
    → naming_from m n x place o ≡ Err e
unfolding naming_from
naming_fault m n x o place e h = rw h refl

here : (r : Result (List ℕ) Fault) (place : LinkPlace) (x o : ℕ) → eqb x o ≡ true → IsOk (r >>= λ xs. Ok (x ∷ xs))
    → (r >>= (λ xs. Ok (x ∷ xs)) >>= λ xs. naming_in place xs o) ≡ Ok place
here (Ok xs) place x o h ok = rw h refl
here (Err e) place x o h ok = absurd cc

link_here : (m : MemoryMap) (n x o : ℕ) (place : LinkPlace) (r : Result ℕ Fault) → eqb x o ≡ true
    → IsOk (r >>= λ z. chain_from m n z >>= λ xs. Ok (x ∷ xs))
    → (r >>= (λ z. chain_from m n z >>= λ xs. Ok (x ∷ xs)) >>= λ xs. naming_in place xs o) ≡ Ok place
link_here m n x o place (Ok z) h ok = here (chain_from m n z) place x o h ok
link_here m n x o place (Err e) h ok = absurd cc

pub naming_here : (m : MemoryMap) (n i x o : ℕ) (place : LinkPlace) → i < n → x ≢ 0 → x ≡ o
    → IsOk (chain_from m (n - i) x) → naming_from m (n - i) x place o ≡ Ok place
unfolding naming_from chain_from
naming_here m n i x o place lt ne same ok =
    let open_test = zero_test x ne in
    let step : chain_from m (n - i) x ≡ (link_at m (sibling_of x) >>= λ z. chain_from m (n - (i + 1)) z >>=
    λ xs. Ok (x ∷ xs)) = rw (sub_suc n i lt, open_test) refl in
    rw step (link_here m (n - (i + 1)) x o place (link_at m (sibling_of x)) (eq-eqb x o same) (rw step at ok))
