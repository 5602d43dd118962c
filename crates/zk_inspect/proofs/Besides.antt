-- The routines that lie beside others, step by step.
use Rattle.std.proofs.Common.{◌≡◌, ◌∙◌, ℕ, ◌+◌, ◌*◌, ◌/◌, ◌-◌, ◌<◌, ◌≤◌, ◌⊎◌, ◌↔◌, Bool, true, false, List, length}
use Rattle.std.proofs.Common.{Option, Some, None, Result, Ok, Err, IfOk, nat_lt, refl, sym, subst, arith, inl, inr}
use Rattle.std.proofs.Common.{if◌then◌else◌}
use Rattle.std.specs.Prelude.{get_or, slice_set, option_map}
use Rattle.std.proofs.lemmas.Bool.{cases_eq}
use Rattle.zk_mem.specs.Header.{header_of, unit_length}
use Rattle.zk_mem.specs.Map.{MemoryMap}
use Rattle.zk_code.specs.Extent.{IsExtent, IsNeighbour, FollowsCode, IsRoutine, next_packed}
use Rattle.zk_code.specs.Extent.IsNeighbour.{Next, Past}
use Rattle.zk_code.specs.Routines.{code_start, count_at, values_length}
use Rattle.zk_code.specs.declared.instr.Instr.{Instr}
use Rattle.zk_code.specs.Extent.{IsStraight}
use Rattle.zk_code.specs.Extent.IsStraight.{Nothing, Then}
use Rattle.zk_code.proofs.Longer.{ends_inside}
use Rattle.zk_inspect.specs.Beside.{IsNextRoutine, LiesBeside}
use Rattle.zk_inspect.specs.Lists.{IsAmong, IsListOf, IsMarked}
use Rattle.zk_inspect.specs.Lists.IsAmong.{Some as Among, Next as NextAmong}
use Rattle.zk_inspect.proofs.Inside.{routine_inside}
use Rattle.zk_inspect.proofs.Marking.{marked_cases, marked_now, marked_still, marked_inside, some_same}
use Rattle.zk_inspect.proofs.Searching.{AlsoMarked}

-- ---- a neighbour lies later, in the story

next_by : (a : ℕ) (b c : Bool) → a ≤ (a + (if b then 2 else if c then 4 else 8) - 1)
    / (if b then 2 else if c then 4 else 8) * (if b then 2 else if c then 4 else 8)
next_by a true c = omega arith
next_by a false true = omega arith
next_by a false false = omega arith

pub next_from : (m : MemoryMap) (a : ℕ) → a ≤ next_packed m a
unfolding next_packed unit_length
next_from m a = next_by a (nat_lt m.version 4) (nat_lt m.version 6)

forward : (m : MemoryMap) (a b : ℕ) (is : List Instr) → IsStraight m a is b → a ≤ b
forward m a _ _ (Nothing _) = omega arith
forward m a b _ (Then _ c _ i is s h) = let le = forward m c b is h in let lt = (ends_inside m a i c s).0 in omega arith

pub extent_later : (m : MemoryMap) (a e : ℕ) → IsExtent m a e → a < e
extent_later m a e h =
    let le = forward m a h.ends.at h.ends.code h.ends.straight in
    let lt = (ends_inside m h.ends.at h.ends.last e h.ends.stands).0 in
    omega arith

following_later : (m : MemoryMap) (a n : ℕ) → FollowsCode m a n → a < n
following_later m a n h =
    let lt = extent_later m a h.end h.extent in
    let le = next_from m h.end in
    let e = h.next in
    omega arith

neighbour_later : (m : MemoryMap) (a n : ℕ) → IsNeighbour m a n → a < n
neighbour_later m a n (Next h) = following_later m a n h
neighbour_later m a n (Past e x none h) =
    let lt = extent_later m a e x in let also = following_later m e n h in omega arith

neighbour_routine : (m : MemoryMap) (a n : ℕ) → IsNeighbour m a n → IsRoutine m n
neighbour_routine m a n (Next h) = h.routine
neighbour_routine m a n (Past e x none h) = h.routine

pub neighbour_inside : (m : MemoryMap) (a n : ℕ) → IsNeighbour m a n → n < length m.bytes
neighbour_inside m a n h = let r = neighbour_routine m a n h in (routine_inside m n r.start r.begins).0

start_by : (m : MemoryMap) (r c : ℕ) (o : Option ℕ) → count_at m r ≡ o
    → option_map (λ n. r + 1 + values_length m n) o ≡ Some c → r < c
start_by m r c (Some n) e h = let same = some_same _ c h in omega arith
start_by m r c None e h = absurd cc

start_later : (m : MemoryMap) (r c : ℕ) → code_start m r ≡ Some c → r < c
unfolding code_start
start_later m r c h = start_by m r c (count_at m r) refl h

pub next_later : (m : MemoryMap) (r n : ℕ) → IsNextRoutine m r n → r < n
next_later m r n h = let lt = start_later m r h.0 h.1 in let also = neighbour_later m h.0 n h.2 in omega arith

-- ---- marks on what is next

-- a mark on the neighbour
pub neighbour_marked : (m : MemoryMap) (a n : ℕ) (old new : List Bool) → IsNeighbour m a n
    → ((k : ℕ) → IsNeighbour m a k → Some n ≡ Some k) → n < length old → new ≡ slice_set old n true
    → (r : ℕ) → IsMarked new r ↔ (IsMarked old r ⊎ IsNeighbour m a r)
neighbour_marked m a n old new h only lt e r = (
  λ k. elim (marked_cases old n r (subst (λ (bs : List Bool). IsMarked bs r) e k))
      [ inl same ↦ inr (subst (IsNeighbour m a) (sym same) h) | inr before ↦ inl before ],
  λ k. subst (λ (bs : List Bool). IsMarked bs r) (sym e) (elim k [
    | inl before ↦ marked_still old n r lt before
    | inr j ↦ subst (IsMarked (slice_set old n true)) (some_same n r (only r j)) (marked_now old n lt)
  ]),
)

-- where it has none
pub none_marked_more : (Q : ℕ → Type 0) (old : List Bool) → ((k : ℕ) → Q k → ⊥) → (r : ℕ)
    → IsMarked old r ↔ (IsMarked old r ⊎ Q r)
none_marked_more Q old none r = (λ k. inl k, λ k. elim k [ inl before ↦ before | inr j ↦ absurd (none r j) ])

-- of the routine at an address
pub next_marked : (m : MemoryMap) (a c : ℕ) (old new : List Bool) → code_start m a ≡ Some c
    → ((r : ℕ) → IsMarked new r ↔ (IsMarked old r ⊎ IsNeighbour m c r)) → (r : ℕ)
    → IsMarked new r ↔ (IsMarked old r ⊎ IsNextRoutine m a r)
next_marked m a c old new e h r = (
  λ k. elim ((h r).0 k) [ inl before ↦ inl before | inr j ↦ inr (c, e, j) ],
  λ k. elim k [
    | inl before ↦ (h r).1 (inl before)
    | inr j ↦ (h r).1
        (inr (subst (λ (x : ℕ). IsNeighbour m x r) (some_same j.0 c (sym j.1 ∙ e)) j.2))
  ],
)

pub no_next : (m : MemoryMap) (a k : ℕ) → code_start m a ≡ None → IsNextRoutine m a k → ⊥
no_next m a k e h = let j = h.1 in let l = rw e at j in absurd cc

-- ---- all of them, where what is next to a number lies after it

abbrev pub IsLater : (ℕ → ℕ → Type 0) → Type 0
IsLater next = (a b : ℕ) → next a b → a < b

-- marks that have some, and up to an address what is next to each
pub record IsClosing (next : ℕ → ℕ → Type 0) (old : List Bool) (end : ℕ) (marks : List Bool) : Type 0 where
  pub size : length marks ≡ length old
  pub sound : (r : ℕ) → IsMarked marks r → IsAmong (IsMarked old) next r
  pub kept : (r : ℕ) → IsMarked old r → IsMarked marks r
  pub closed : (r n : ℕ) → r < end → IsMarked marks r → next r n → IsMarked marks n

pub closing_begins : (next : ℕ → ℕ → Type 0) (old : List Bool) → IsClosing next old 0 old
closing_begins next old =
    record { size = refl; sound = λ r k. Among r k; kept = λ r k. k; closed = λ r n lt. absurd (omega arith) }

-- what is next to a marked one is marked
pub closing_marked : (next : ℕ → ℕ → Type 0) (old marks new : List Bool) (a : ℕ) → IsLater next
    → IsClosing next old a marks → IsMarked marks a → length new ≡ length marks
    → ((r : ℕ) → IsMarked new r ↔ (IsMarked marks r ⊎ next a r)) → IsClosing next old (a + 1) new
closing_marked next old marks new a later h at size e = record {
  size = size ∙ h.size;
  sound = λ r k. elim ((e r).0 k) [ inl before ↦ h.sound r before | inr j ↦ NextAmong a r (h.sound a at) j ];
  kept = λ r k. (e r).1 (inl (h.kept r k));
  closed = λ r n lt k j. elim ((e r).0 k) [
    | inl before ↦ elim (cases_eq r a) [
      | inl same ↦ (e n).1 (inr (subst (λ (x : ℕ). next x n) same j))
      | inr ne ↦ (e n).1 (inl (h.closed r n (omega arith) before j))
    ]
    | inr new_one ↦ absurd (let lies = later a r new_one in omega arith)
  ];
}

-- nothing is next to one that is not
pub closing_on : (next : ℕ → ℕ → Type 0) (old marks : List Bool) (a : ℕ) → IsClosing next old a marks
    → get_or marks a false ≡ false → IsClosing next old (a + 1) marks
closing_on next old marks a h none = record {
  size = h.size;
  sound = h.sound;
  kept = h.kept;
  closed = λ r n lt k j. elim (cases_eq r a) [
    | inl same ↦ absurd (let at : IsMarked marks a = subst (IsMarked marks) same k in let e = sym at ∙ none in cc)
    | inr ne ↦ h.closed r n (omega arith) k j
  ];
}

among_marked : (next : ℕ → ℕ → Type 0) (old marks : List Bool) (end : ℕ) → IsClosing next old end marks
    → length marks ≤ end → (r : ℕ) → IsAmong (IsMarked old) next r → IsMarked marks r
among_marked next old marks end h le r (Among _ k) = h.kept r k
among_marked next old marks end h le r (NextAmong a _ k j) =
    let at = among_marked next old marks end h le a k in
    let lt = marked_inside marks a at in
    h.closed a r (omega arith) at j

pub closing_ends : (next : ℕ → ℕ → Type 0) (old marks : List Bool) (end : ℕ) → IsClosing next old end marks
    → length marks ≤ end → (r : ℕ) → IsMarked marks r ↔ IsAmong (IsMarked old) next r
closing_ends next old marks end h le r = (h.sound r, among_marked next old marks end h le r)

-- ---- from a set to an equal one

pub among_same : (P Q : ℕ → Type 0) (next : ℕ → ℕ → Type 0) → ((a : ℕ) → P a → Q a) → (a : ℕ) → IsAmong P next a
    → IsAmong Q next a
among_same P Q next f a (Among _ p) = Among a (f a p)
among_same P Q next f a (NextAmong b _ k j) = NextAmong b a (among_same P Q next f b k) j

-- marks on routines, then on the neighbour of the first code, then on all that is next
pub beside_is : (m : MemoryMap) (routines : List ℕ) (none some first all : List Bool) (xs : List ℕ)
    → ((a : ℕ) → IsMarked none a → ⊥) → AlsoMarked m routines none some
    → ((r : ℕ) → IsMarked first r ↔ (IsMarked some r ⊎ IsNeighbour m (header_of m.file).first_instruction r))
    → ((r : ℕ) → IsMarked all r ↔ IsAmong (IsMarked first) (IsNextRoutine m) r) → IsListOf (IsMarked all) xs
    → IsListOf (LiesBeside m routines) xs
beside_is m routines none some first all xs nothing s f c h = record {
  listed = λ r k. among_same (IsMarked first) _ (IsNextRoutine m) (λ a at. elim ((f a).0 at) [
    | inl before ↦ elim ((s a).0 before) [ inl x ↦ absurd (nothing a x) | inr x ↦ inl x ]
    | inr j ↦ inr j
  ]) r ((c r).0 (h.listed r k));
  whole = λ r k. h.whole r ((c r).1 (among_same _ (IsMarked first) (IsNextRoutine m) (λ a at. elim at [
    | inl x ↦ (f a).1 (inl ((s a).1 (inr x)))
    | inr j ↦ (f a).1 (inr j)
  ]) r k));
  ascending = h.ascending;
}

pub if_beside : {E : Type 0} (m : MemoryMap) (routines : List ℕ) (at : ℕ) (none some first all : List Bool)
    (r : Result (List ℕ) E) → at ≡ (header_of m.file).first_instruction → ((a : ℕ) → IsMarked none a → ⊥)
    → AlsoMarked m routines none some
    → ((r : ℕ) → IsMarked first r ↔ (IsMarked some r ⊎ IsNeighbour m at r))
    → ((r : ℕ) → IsMarked all r ↔ IsAmong (IsMarked first) (IsNextRoutine m) r) → IfOk r (IsListOf (IsMarked all))
    → IfOk r (IsListOf (LiesBeside m routines))
if_beside m routines at none some first all (Ok xs) same nothing s f c h =
    beside_is m routines none some first all xs nothing s
    (subst (λ (a : ℕ). (r : ℕ) → IsMarked first r ↔ (IsMarked some r ⊎ IsNeighbour m a r)) same f) c h
if_beside m routines at none some first all (Err e) same nothing s f c h = h
