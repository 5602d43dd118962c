-- What a search for reachable code has found, step by step.
use Rattle.std.proofs.Common.{◌≡◌, ℕ, ◌+◌, ◌<◌, ◌≤◌, ◌⊎◌, ◌↔◌, Bool, true, false, List, [], ◌∷◌, ◌++◌, length, get_or}
use Rattle.std.proofs.Common.{Option, Some, None, Result, Ok, Err, IfOk, refl, sym, ap, ◌∙◌, subst, arith, inl, inr}
use Rattle.std.proofs.Common.{append_assoc, length-append}
use Rattle.std.specs.Prelude.{replicate, slice_set}
use Rattle.std.specs.List.{Contains}
use Rattle.std.proofs.lemmas.Bool.{cases_eq, cases_lt}
use Rattle.std.proofs.lemmas.Grind.{get_or_default_zero}
use Rattle.std.proofs.lemmas.List.{append-nil, length-set, length-replicate, get_or_append_left}
use Rattle.std.proofs.lemmas.List.Folds.{sum_by-replicate}
use Rattle.std.specs.Prelude.{slice_get, is_some}
use Rattle.std.proofs.lemmas.Option.{get_or_from_slice_get, slice_get-get_or, slice_get_within}
use Rattle.std.proofs.lemmas.List.Elements.{Contains-get_or, Contains-push, Contains-append_left, Contains-append_right}
use Rattle.std.proofs.lemmas.List.Elements.{Contains-push_cases}
use Rattle.zk_mem.specs.Map.{MemoryMap}
use Rattle.zk_code.specs.declared.instr.Instr.{Instr}
use Rattle.zk_code.specs.Grammar.{IsInstruction}
use Rattle.zk_code.specs.Reach.{IsReachedFrom, IsCalledFrom, goes_on, branch_address, jump_address, constant_call}
use Rattle.zk_code.specs.Routines.{code_start}
use Rattle.zk_code.proofs.Whole.{at_most_one}
use Rattle.zk_inspect.specs.declared.reach.Search.{Search}
use Rattle.zk_inspect.specs.Lists.{IsListOf, IsMarked}
use Rattle.zk_code.specs.Reach.{IsClosed}
use Rattle.zk_code.proofs.Reached.{has_one, in_closed, only_one}
use Rattle.zk_inspect.specs.declared.reach.code.Code.{Code}
use Rattle.zk_inspect.specs.Codes.{IsCodeFrom, IsCodeOf, IsRoutineAt, IsRoutineFrom}
use Rattle.zk_inspect.specs.Codes.IsRoutineFrom.{Named, Called}
use Rattle.zk_mem.specs.Header.{header_of}
use Rattle.zk_inspect.specs.Search.{one, IsSearch, Grows, IsExpanded, IsOnItsWay}
use Rattle.zk_inspect.proofs.Marking.{counted_within, none_marked, marked_cases, marked_now, marked_still}
use Rattle.zk_inspect.proofs.Marking.{marked_counts}

-- an address that was not found yet
pub found_new : (m : MemoryMap) (roots : List ℕ) (s t : Search) (a : ℕ) → IsSearch m roots s
    → IsReachedFrom m roots a → a < length s.marks → get_or s.marks a false ≡ false
    → t.marks ≡ slice_set s.marks a true → t.routines ≡ s.routines → t.found ≡ s.found ++ a ∷ [] → IsSearch m roots t
found_new m roots s t a h r lt new marks routines found = record {
  size = let e : length t.marks ≡ length s.marks = ap length marks ∙ length-set s.marks a true in
      let k = h.size in omega arith;
  routine_size =
      let e : length t.routines ≡ length s.routines = ap length routines in let k = h.routine_size in omega arith;
  reached = λ b k. elim (Contains-push_cases s.found a b (subst (λ (xs : List ℕ). Contains xs b) found k))
      [ inl old ↦ h.reached b old | inr e ↦ subst (IsReachedFrom m roots) e r ];
  called = λ b k. h.called b (subst (λ (bs : List Bool). IsMarked bs b) routines k);
  found = λ b k. subst (λ (xs : List ℕ). Contains xs b) (sym found)
      (elim (marked_cases s.marks a b (subst (λ (bs : List Bool). IsMarked bs b) marks k)) [
        | inl e ↦ subst (λ (x : ℕ). Contains (s.found ++ a ∷ []) x) (sym e) (Contains-push s.found a)
        | inr old ↦ Contains-append_left s.found (a ∷ []) b (h.found b old)
      ]);
  count = let n = marked_counts s.marks a lt new in rw (found, marks) (let l = length-append s.found (a ∷ []) in
      let k = h.count in omega arith);
}

pub grows_by : (s t : Search) (a : ℕ) → a < length s.marks → t.marks ≡ slice_set s.marks a true
    → t.routines ≡ s.routines → t.found ≡ s.found ++ a ∷ [] → Grows s t
grows_by s t a lt marks routines found = record {
  size = ap length marks ∙ length-set s.marks a true;
  routine_size = ap length routines;
  marks = λ b k. subst (λ (bs : List Bool). IsMarked bs b) (sym marks) (marked_still s.marks a b lt k);
  routines = λ b k. subst (λ (bs : List Bool). IsMarked bs b) (sym routines) k;
  more = a ∷ [];
  found = found;
}

pub grows_same : (s : Search) → Grows s s
grows_same s = record {
  size = refl;
  routine_size = refl;
  marks = λ b k. k;
  routines = λ b k. k;
  more = [];
  found = sym (append-nil s.found);
}

pub grows_twice : (s t u : Search) → Grows s t → Grows t u → Grows s u
grows_twice s t u g h = record {
  size = h.size ∙ g.size;
  routine_size = h.routine_size ∙ g.routine_size;
  marks = λ b k. h.marks b (g.marks b k);
  routines = λ b k. h.routines b (g.routines b k);
  more = g.more ++ h.more;
  found = h.found ∙ ap (λ (xs : List ℕ). xs ++ h.more) g.found ∙ append_assoc s.found g.more h.more;
}

-- a routine that is called
pub called_new : (m : MemoryMap) (roots : List ℕ) (s t : Search) (r : ℕ) → IsSearch m roots s
    → IsCalledFrom m roots r → t.marks ≡ s.marks → t.routines ≡ slice_set s.routines r true → t.found ≡ s.found
    → IsSearch m roots t
called_new m roots s t r h called marks routines found = record {
  size = let e : length t.marks ≡ length s.marks = ap length marks in let k = h.size in omega arith;
  routine_size = let e : length t.routines ≡ length s.routines = ap length routines
      ∙ length-set s.routines r true in let k = h.routine_size in omega arith;
  reached = λ b k. h.reached b (subst (λ (xs : List ℕ). Contains xs b) found k);
  called = λ b k. elim (marked_cases s.routines r b (subst (λ (bs : List Bool). IsMarked bs b) routines k))
      [ inl e ↦ subst (IsCalledFrom m roots) (sym e) called | inr old ↦ h.called b old ];
  found = λ b k. subst (λ (xs : List ℕ). Contains xs b) (sym found)
      (h.found b (subst (λ (bs : List Bool). IsMarked bs b) marks k));
  count = rw (found, marks) h.count;
}

pub grows_called : (s t : Search) (r : ℕ) → r < length s.routines → t.marks ≡ s.marks
    → t.routines ≡ slice_set s.routines r true → t.found ≡ s.found → Grows s t
grows_called s t r lt marks routines found = record {
  size = ap length marks;
  routine_size = ap length routines ∙ length-set s.routines r true;
  marks = λ b k. subst (λ (bs : List Bool). IsMarked bs b) (sym marks) k;
  routines = λ b k. subst (λ (bs : List Bool). IsMarked bs b) (sym routines) (marked_still s.routines r b lt k);
  more = [];
  found = found ∙ sym (append-nil s.found);
}

-- no address has two instructions
pub expanded_by : (m : MemoryMap) (s : Search) (a : ℕ) (i : Instr) → IsInstruction m a i i.next
    → (goes_on i.opcode ≡ true → IsMarked s.marks i.next)
    → ((c : ℕ) → branch_address i ≡ Some c → IsMarked s.marks c)
    → ((c : ℕ) → jump_address m i ≡ Some c → IsMarked s.marks c)
    → ((r c : ℕ) → constant_call m i ≡ Some r → code_start m r ≡ Some c → IsMarked s.routines r × IsMarked s.marks c)
    → IsExpanded m s a
expanded_by m s a i st behind branch jump call = record {
  behind = λ b j at g. let same = at_most_one m a j i b i.next at st in
      subst (λ (x : ℕ). IsMarked s.marks x) (sym same.1)
      (behind (subst (λ (x : Instr). goes_on x.opcode ≡ true) same.0 g));
  branches = λ b c j at g. let same = at_most_one m a j i b i.next at st in
      branch c (subst (λ (x : Instr). branch_address x ≡ Some c) same.0 g);
  jumps = λ b c j at g. let same = at_most_one m a j i b i.next at st in
      jump c (subst (λ (x : Instr). jump_address m x ≡ Some c) same.0 g);
  calls = λ b r c j at g k. let same = at_most_one m a j i b i.next at st in
      call r c (subst (λ (x : Instr). constant_call m x ≡ Some r) same.0 g) k;
}

-- where there is no instruction nothing leads on
pub expanded_none : (m : MemoryMap) (s : Search) (a : ℕ) → ((i : Instr) (b : ℕ) → IsInstruction m a i b → ⊥)
    → IsExpanded m s a
expanded_none m s a none = record {
  behind = λ b i at g. absurd (none i b at);
  branches = λ b c i at g. absurd (none i b at);
  jumps = λ b c i at g. absurd (none i b at);
  calls = λ b r c i at g k. absurd (none i b at);
}

-- what was expanded stays so
pub expanded_still : (m : MemoryMap) (s t : Search) (a : ℕ) → Grows s t → IsExpanded m s a → IsExpanded m t a
expanded_still m s t a g h = record {
  behind = λ b i at k. g.marks b (h.behind b i at k);
  branches = λ b c i at k. g.marks c (h.branches b c i at k);
  jumps = λ b c i at k. g.marks c (h.jumps b c i at k);
  calls = λ b r c i at k l. (g.routines r (h.calls b r c i at k l).0, g.marks c (h.calls b r c i at k l).1);
}

-- nothing stands in an empty list
pub nothing_in : (a : ℕ) → Contains {X = ℕ} [] a → ⊥
nothing_in a h = let lt = h.1 in absurd (omega arith)

-- nothing was found yet
pub begun : (m : MemoryMap) (roots : List ℕ) (n : ℕ) (s : Search) → length m.bytes < n
    → s.marks ≡ replicate n false → s.routines ≡ replicate n false → s.found ≡ [] → IsSearch m roots s
begun m roots n s lt marks routines found = record {
  size = let e : length s.marks ≡ n = ap length marks ∙ length-replicate n false in omega arith;
  routine_size = let e : length s.routines ≡ n = ap length routines ∙ length-replicate n false in omega arith;
  reached = λ a h. absurd (nothing_in a (subst (λ (xs : List ℕ). Contains xs a) found h));
  called = λ r h. absurd (none_marked n r (subst (λ (bs : List Bool). IsMarked bs r) routines h));
  found = λ a h. absurd (none_marked n a (subst (λ (bs : List Bool). IsMarked bs a) marks h));
  count = rw (found, marks) (let e = sum_by-replicate one n false in omega arith);
}

-- a list that grows keeps what it has
kept : (xs more ys : List ℕ) (k : ℕ) → ys ≡ xs ++ more → k < length xs → get_or ys k 0 ≡ get_or xs k 0
kept xs more ys k e lt = ap (λ (zs : List ℕ). get_or zs k 0) e ∙ get_or_append_left xs more 0 k lt

-- an address that is marked was expanded
expanded_at : (m : MemoryMap) (roots : List ℕ) (s : Search) → IsOnItsWay m roots s (length s.found) → (a : ℕ)
    → IsMarked s.marks a → IsExpanded m s a
expanded_at m roots s h a k =
    let at = h.search.found a k in
    let same : get_or s.found at.0 0 ≡ a = sym (get_or_default_zero s.found at.0 a at.1) ∙ at.2 in
    subst (λ (x : ℕ). IsExpanded m s x) same (h.expanded at.0 at.1)

-- the next address was expanded
pub on_its_way : (m : MemoryMap) (roots : List ℕ) (s t : Search) (done : ℕ) → IsOnItsWay m roots s done
    → done < length s.found → IsSearch m roots t → Grows s t → IsExpanded m t (get_or s.found done 0)
    → IsOnItsWay m roots t (done + 1)
on_its_way m roots s t done h lt search g now = record {
  search = search;
  roots = λ a k. g.marks a (h.roots a k);
  expanded = λ k le. elim (cases_eq k done) [
    | inl e ↦ subst (λ (x : ℕ). IsExpanded m t x) (sym (ap (λ (j : ℕ). get_or s.found j 0) e)
        ∙ sym (kept s.found g.more t.found k g.found (omega arith))) now
    | inr ne ↦ subst (λ (x : ℕ). IsExpanded m t x)
        (sym (kept s.found g.more t.found k g.found (let w = h.within in omega arith)))
        (expanded_still m s t _ g (h.expanded k (omega arith)))
  ];
  within = let l : length t.found ≡ length (s.found ++ g.more) = ap length g.found in
      let n = length-append s.found g.more in omega arith;
}

-- all was expanded
pub all_done : (m : MemoryMap) (roots : List ℕ) (s : Search) (done : ℕ) → IsOnItsWay m roots s done
    → length s.found ≤ done → IsOnItsWay m roots s (length s.found)
all_done m roots s done h le = subst (λ (n : ℕ). IsOnItsWay m roots s n) (let w = h.within in omega arith) h

-- no more was found than there are marks
pub few_found : (m : MemoryMap) (roots : List ℕ) (s : Search) → IsSearch m roots s → length s.found ≤ length s.marks
few_found m roots s h = let a = h.count in let c = counted_within s.marks in omega arith

-- what is marked is reached
pub marked_reached : (m : MemoryMap) (roots : List ℕ) (s : Search) → IsSearch m roots s → (a : ℕ)
    → IsMarked s.marks a → IsReachedFrom m roots a
marked_reached m roots s h a k = h.reached a (h.found a k)

-- the marks are closed
marks_closed : (m : MemoryMap) (roots : List ℕ) (s : Search) → IsOnItsWay m roots s (length s.found)
    → IsClosed m roots (IsMarked s.marks)
marks_closed m roots s h = record {
  roots = h.roots;
  behind = λ a b i k st g. (expanded_at m roots s h a k).behind b i st g;
  branches = λ a b c i k st g. (expanded_at m roots s h a k).branches b c i st g;
  jumps = λ a b c i k st g. (expanded_at m roots s h a k).jumps b c i st g;
  calls = λ a b r c i k st g l. ((expanded_at m roots s h a k).calls b r c i st g l).1;
}

-- what is reached is marked
pub reached_marked : (m : MemoryMap) (roots : List ℕ) (s : Search) → IsOnItsWay m roots s (length s.found)
    → (a : ℕ) → IsReachedFrom m roots a → IsMarked s.marks a
reached_marked m roots s h a r = in_closed m roots (IsMarked s.marks) (marks_closed m roots s h) a r

-- a routine that is called is marked
pub called_marked : (m : MemoryMap) (roots : List ℕ) (s : Search) → IsOnItsWay m roots s (length s.found)
    → (r : ℕ) → IsCalledFrom m roots r → IsMarked s.routines r
called_marked m roots s h r k =
    ((expanded_at m roots s h k.address (reached_marked m roots s h k.address k.reached)).calls k.next r k.start
    k.instr k.stands k.call k.routine).0

-- marks on routines, and on those that are named
abbrev pub AlsoMarked : MemoryMap → List ℕ → List Bool → List Bool → Type 0
AlsoMarked m named old new = (r : ℕ) → IsMarked new r ↔ (IsMarked old r ⊎ IsRoutineAt m named r)

-- none was named yet
pub also_none : (m : MemoryMap) (marks : List Bool) → AlsoMarked m [] marks marks
also_none m marks r = (λ k. inl k, λ h. elim h [ inl k ↦ k | inr n ↦ absurd (nothing_in r n.1) ])

-- and one more
pub also_one : (m : MemoryMap) (xs : List ℕ) (x : ℕ) (old mid new : List Bool) → AlsoMarked m xs old mid
    → AlsoMarked m (x ∷ []) mid new → AlsoMarked m (xs ++ x ∷ []) old new
also_one m xs x old mid new h k r = (
  λ now. elim ((k r).0 now) [
    | inl before ↦ elim ((h r).0 before) [
      | inl o ↦ inl o
      | inr n ↦ inr (n.0, Contains-append_left xs (x ∷ []) r n.1, n.2)
    ]
    | inr n ↦ inr (n.0, Contains-append_right xs (x ∷ []) r n.1, n.2)
  ],
  λ one. elim one [
    | inl o ↦ (k r).1 (inl ((h r).1 (inl o)))
    | inr n ↦ elim (Contains-push_cases xs x r n.1) [
      | inl before ↦ (k r).1 (inl ((h r).1 (inr (n.0, before, n.2))))
      | inr same ↦ (k r).1 (inr (n.0, subst (λ (y : ℕ). Contains (x ∷ []) y) same (has_one x), n.2))
    ]
  ],
)

routine_marked : (m : MemoryMap) (roots named : List ℕ) (s : Search) (new : List Bool)
    → IsOnItsWay m roots s (length s.found) → AlsoMarked m named s.routines new → (r : ℕ)
    → IsRoutineFrom m roots named r → IsMarked new r
routine_marked m roots named s new h also r (Named k) = (also r).1 (inr k)
routine_marked m roots named s new h also r (Called k) = (also r).1 (inl (called_marked m roots s h r k))

-- the lists of the marks are the code
pub is_code : (m : MemoryMap) (roots named : List ℕ) (s : Search) (new : List Bool) (code : Code)
    → IsOnItsWay m roots s (length s.found) → AlsoMarked m named s.routines new
    → IsListOf (IsMarked s.marks) code.addresses → IsListOf (IsMarked new) code.routines → IsCodeFrom m roots named code
is_code m roots named s new code h also addresses routines = record {
  addresses = record {
    listed = λ a k. marked_reached m roots s h.search a (addresses.listed a k);
    whole = λ a k. addresses.whole a (reached_marked m roots s h a k);
    ascending = addresses.ascending;
  };
  routines = record {
    listed =
        λ r k. elim ((also r).0 (routines.listed r k)) [ inl old ↦ Called (h.search.called r old) | inr n ↦ Named n ];
    whole = λ r k. routines.whole r (routine_marked m roots named s new h also r k);
    ascending = routines.ascending;
  };
}

-- where none is named
pub is_reachable : (m : MemoryMap) (code : Code) (first : ℕ) → first ≡ (header_of m.file).first_instruction
    → IsCodeFrom m (first ∷ []) [] code → IsCodeOf m code
is_reachable m code first same h = record {
  addresses = subst (λ (a : ℕ). IsListOf (IsReachedFrom m (a ∷ [])) code.addresses) same h.addresses;
  routines = record {
    listed =
        λ r k. subst (λ (a : ℕ). IsCalledFrom m (a ∷ []) r) same
        (elim (h.routines.listed r k) [ Named n ↦ absurd (nothing_in r n.1) | Called called ↦ called ]);
    whole = λ r k. h.routines.whole r (Called (subst (λ (a : ℕ). IsCalledFrom m (a ∷ []) r) (sym same) k));
    ascending = h.routines.ascending;
  };
}

-- the address at an index
pub taken : (m : MemoryMap) (roots : List ℕ) (s : Search) (i a : ℕ) → IsSearch m roots s
    → slice_get s.found i ≡ Some a → (i < length s.found) × (get_or s.found i 0 ≡ a) × IsReachedFrom m roots a
taken m roots s i a h e =
    let lt = slice_get_within s.found i a e in
    let same = get_or_from_slice_get s.found i a 0 e in
    (lt, same, subst (IsReachedFrom m roots) same (h.reached (get_or s.found i 0) (Contains-get_or s.found i 0 lt)))

-- past the last
pub none_left : (xs : List ℕ) (i : ℕ) → slice_get xs i ≡ None → length xs ≤ i
none_left xs i e =
    elim (cases_lt i (length xs)) [ inl lt ↦ absurd (let f = slice_get-get_or xs i 0 lt in cc) | inr ge ↦ ge ]

-- ---- routines

has_value : (o : Option ℕ) → is_some o ≡ true → (c : ℕ) × (o ≡ Some c)
has_value (Some c) e = (c, refl)
has_value None e = absurd cc

pub start_of : (m : MemoryMap) (r : ℕ) (b : Bool) → b ≡ is_some (code_start m r) → b ≡ true
    → (c : ℕ) × (code_start m r ≡ Some c)
start_of m r b e h = has_value (code_start m r) (sym e ∙ h)

pub no_start_of : (m : MemoryMap) (r c : ℕ) (b : Bool) → b ≡ is_some (code_start m r) → b ≡ false
    → code_start m r ≡ Some c → ⊥
no_start_of m r c b e h k = let j : is_some (code_start m r) ≡ false = sym e ∙ h in let l = rw k at j in absurd cc

-- a mark on a routine
pub one_marked : (m : MemoryMap) (r : ℕ) (old new : List Bool) → (c : ℕ) × (code_start m r ≡ Some c)
    → r < length old → new ≡ slice_set old r true → AlsoMarked m (r ∷ []) old new
one_marked m r old new start lt e x = (
  λ k. elim (marked_cases old r x (subst (λ (bs : List Bool). IsMarked bs x) e k)) [
    | inl same ↦ inr (subst (λ (y : ℕ). IsRoutineAt m (r ∷ []) y) (sym same) (start.0, has_one r, start.1))
    | inr before ↦ inl before
  ],
  λ h. subst (λ (bs : List Bool). IsMarked bs x) (sym e) (elim h [
    | inl before ↦ marked_still old r x lt before
    | inr n ↦ only_one (λ y. IsMarked (slice_set old r true) y) r (marked_now old r lt) x n.1
  ]),
)

-- and none where there is no routine
pub none_more : (m : MemoryMap) (r : ℕ) (old : List Bool) → ((c : ℕ) → code_start m r ≡ Some c → ⊥)
    → AlsoMarked m (r ∷ []) old old
none_more m r old none x = (
  λ k. inl k,
  λ h. elim h [
    | inl before ↦ before
    | inr n ↦ absurd (only_one (λ y. code_start m y ≡ Some n.0 → ⊥) r (none n.0) x n.1 n.2)
  ],
)

pub if_reachable : {E : Type 0} (m : MemoryMap) (r : Result Code E) (first : ℕ)
    → first ≡ (header_of m.file).first_instruction → IfOk r (IsCodeFrom m (first ∷ []) []) → IfOk r (IsCodeOf m)
if_reachable m (Ok code) first same h = is_reachable m code first same h
if_reachable m (Err e) first same h = h
