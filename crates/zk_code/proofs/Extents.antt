-- Where code ends, step by step.
use Rattle.std.proofs.Common.{◌≡◌, ◌∙◌, ℕ, ◌+◌, ◌<◌, ◌≤◌, ◌⊎◌, ◌↔◌, Bool, true, false, List, [], ◌∷◌, ◌++◌, length}
use Rattle.std.proofs.Common.{Option, Some, None, IfSome, is_some, refl, sym, subst, ap, arith, inl, inr}
use Rattle.zk_mem.specs.Map.{MemoryMap}
use Rattle.zk_code.specs.declared.instr.Instr.{Instr}
use Rattle.zk_code.specs.Grammar.{IsInstruction}
use Rattle.zk_code.specs.Reach.{goes_on, branch_address, jump_address}
use Rattle.zk_code.specs.Extent.{IsStraight, LeadsTo, LeadsBelow, LeadBelow, MayEnd, IsExtent, FollowsCode, IsRoutine}
use Rattle.zk_code.specs.Extent.{IsNeighbour, next_packed}
use Rattle.zk_code.specs.Extent.IsStraight.{Nothing, Then}
use Rattle.zk_code.specs.Extent.IsNeighbour.{Next, Past}
use Rattle.zk_code.proofs.Whole.{at_most_one}
use Rattle.zk_code.specs.Routines.{code_start}
use Rattle.zk_code.proofs.Standing.{some_is}
use Rattle.zk_code.proofs.Longer.{ends_inside}

-- straight code from an address on that was come to, and where none of it leads past
pub record IsWalked (m : MemoryMap) (start at past : ℕ) : Type 0 where
  pub code : List Instr
  pub straight : IsStraight m start code at
  pub below : (e : ℕ) → past ≤ e → LeadBelow m e code

-- an end that code from an address on may have, where what was walked leads below it
pub record EndsLater (m : MemoryMap) (at from e : ℕ) : Type 0 where
  pub ends : MayEnd m at e
  pub past : from ≤ e

-- a walk has come to an address, and each end lies after it
pub record IsWalk (m : MemoryMap) (start at past : ℕ) : Type 0 where
  pub walked : IsWalked m start at past
  pub later : (e : ℕ) → MayEnd m start e → EndsLater m at past e

pub walk_begins : (m : MemoryMap) (start : ℕ) → IsWalk m start start 0
walk_begins m start = record {
  walked = record { code = []; straight = Nothing start; below = λ e le. cc };
  later = λ e h. record { ends = h; past = omega arith };
}

-- an instruction more
longer : (m : MemoryMap) (a b c : ℕ) (is : List Instr) (i : Instr) → IsStraight m a is b → IsInstruction m b i c
    → IsStraight m a (is ++ (i ∷ [])) c
longer m a _ c _ i (Nothing _) s = Then a c c i [] s (Nothing c)
longer m a b c _ i (Then _ d _ j js t h) s = Then a d c j (js ++ (i ∷ [])) t (longer m d b c js i h s)

all_below : (m : MemoryMap) (e : ℕ) (is : List Instr) (i : Instr) → LeadBelow m e is → LeadsBelow m e i
    → LeadBelow m e (is ++ (i ∷ []))
all_below m e [] i h k = (k, cc)
all_below m e (j ∷ js) i h k = (h.0, all_below m e js i h.1 k)

-- straight code does not lead back
forward : (m : MemoryMap) (a b : ℕ) (is : List Instr) → IsStraight m a is b → a ≤ b
forward m a _ _ (Nothing _) = omega arith
forward m a b _ (Then _ c _ i is s h) = let le = forward m c b is h in let lt = (ends_inside m a i c s).0 in omega arith

-- where the least end is
abbrev pub PastBy : MemoryMap → ℕ → ℕ → Instr → Type 0
PastBy m new past i = (e : ℕ) → (new ≤ e) ↔ ((past ≤ e) × LeadsBelow m e i)

-- code that may end: with this instruction, or later
ends_by : (m : MemoryMap) (at b past new e : ℕ) (i : Instr) → IsInstruction m at i b → PastBy m new past i
    → EndsLater m at past e
    → ((e ≡ b) × (goes_on i.opcode ≡ false) × (new ≤ e)) ⊎ EndsLater m b new e
ends_by m at b past new e i s by h = by_code h.ends.code h.ends.at h.ends.straight h.ends.stands h.ends.below
  where
    by_code : (code : List Instr) (x : ℕ) → IsStraight m at code x → IsInstruction m x h.ends.last e
        → LeadBelow m e code → ((e ≡ b) × (goes_on i.opcode ≡ false) × (new ≤ e)) ⊎ EndsLater m b new e
    by_code _ _ (Nothing _) t below =
        let same = at_most_one m at h.ends.last i e b t s in
        inl (
          same.1,
          subst (λ (j : Instr). goes_on j.opcode ≡ false) same.0 h.ends.stops,
          (by e).1 (h.past, subst (λ (j : Instr). LeadsBelow m e j) same.0 h.ends.last_below),
        )
    by_code _ x (Then _ c _ j js u k) t below =
        let same = at_most_one m at j i c b u s in
        inr (record {
          ends = record {
            code = js;
            at = x;
            last = h.ends.last;
            straight = subst (λ (y : ℕ). IsStraight m y js x) same.1 k;
            stands = t;
            stops = h.ends.stops;
            below = below.1;
            last_below = h.ends.last_below;
          };
          past = (by e).1 (h.past, subst (λ (j : Instr). LeadsBelow m e j) same.0 below.0);
        })

-- the code ends with an instruction
pub walk_stops : (m : MemoryMap) (start at past new b : ℕ) (i : Instr) → IsWalk m start at past
    → IsInstruction m at i b → PastBy m new past i → goes_on i.opcode ≡ false → new ≤ b → IsExtent m start b
walk_stops m start at past new b i h s by stop le =
    let own = (by b).0 le in
    record {
      ends = record {
        code = h.walked.code;
        at = at;
        last = i;
        straight = h.walked.straight;
        stands = s;
        stops = stop;
        below = h.walked.below b own.0;
        last_below = own.1;
      };
      least = λ e ends. elim (ends_by m at b past new e i s by (h.later e ends)) [
        | inl same ↦ let eq = same.0 in omega arith
        | inr later ↦ let le = forward m b later.ends.at later.ends.code later.ends.straight in
            let lt = (ends_inside m later.ends.at later.ends.last e later.ends.stands).0 in omega arith
      ];
    }

-- it does not end with that one
pub walk_on : (m : MemoryMap) (start at past new b : ℕ) (i : Instr) → IsWalk m start at past
    → IsInstruction m at i b → PastBy m new past i → (goes_on i.opcode ≡ false → new ≤ b → ⊥) → IsWalk m start b new
walk_on m start at past new b i h s by goes = record {
  walked = record {
    code = h.walked.code ++ (i ∷ []);
    straight = longer m start at b h.walked.code i h.walked.straight s;
    below = λ e le. all_below m e h.walked.code i (h.walked.below e ((by e).0 le).0) ((by e).0 le).1;
  };
  later = λ e ends. elim (ends_by m at b past new e i s by (h.later e ends)) [
    | inl same ↦ absurd (goes same.1 (let eq = same.0 in let le = same.2 in omega arith))
    | inr later ↦ later
  ];
}

-- no end lies after an address where no instruction stands
some_stands : (m : MemoryMap) (a x e : ℕ) (is : List Instr) (i : Instr) → IsStraight m a is x
    → IsInstruction m x i e → (j : Instr) × (b : ℕ) × IsInstruction m a j b
some_stands m a _ e _ i (Nothing _) s = (i, e, s)
some_stands m a x e _ i (Then _ b _ j is t h) s = (j, b, t)

pub walk_fails : (m : MemoryMap) (start at past : ℕ) → IsWalk m start at past
    → ((i : Instr) (b : ℕ) → IsInstruction m at i b → ⊥) → (e : ℕ) → IsExtent m start e → ⊥
walk_fails m start at past h none e x =
    let ends = (h.later e x.ends).ends in
    let some = some_stands m at ends.at e ends.code ends.last ends.straight ends.stands in
    none some.0 some.1 some.2

pub walk_leaves : (m : MemoryMap) (start at past : ℕ) → IsWalk m start at past → length m.bytes ≤ at → (e : ℕ)
    → IsExtent m start e → ⊥
walk_leaves m start at past h lt =
    walk_fails m start at past h (λ i b s. let within = ends_inside m at i b s in let a = within.0 in
    let k = within.1 in absurd (omega arith))

-- ---- one extent, one neighbour

pub one_extent : (m : MemoryMap) (a e f : ℕ) → IsExtent m a e → IsExtent m a f → e ≡ f
one_extent m a e f h k = let x = h.least f k.ends in let y = k.least e h.ends in omega arith

pub not_routine : (m : MemoryMap) (r start : ℕ) → code_start m r ≡ Some start → ((e : ℕ) → IsExtent m start e → ⊥)
    → IsRoutine m r → ⊥
not_routine m r start c none h =
    none h.end (subst (λ (s : ℕ). IsExtent m s h.end) (some_is _ _ (sym h.begins ∙ c)) h.extent)

pub no_start : (m : MemoryMap) (r : ℕ) → code_start m r ≡ None → IsRoutine m r → ⊥
no_start m r none h = let e = h.begins in let k = rw none at e in absurd cc

pub not_following : (m : MemoryMap) (a e : ℕ) → IsExtent m a e → (IsRoutine m (next_packed m e) → ⊥) → (n : ℕ)
    → FollowsCode m a n → ⊥
not_following m a e x none n h =
    none (subst (IsRoutine m) (h.next ∙ ap (next_packed m) (one_extent m a h.end e h.extent x)) h.routine)

one_following : (m : MemoryMap) (a n k : ℕ) → FollowsCode m a n → FollowsCode m a k → n ≡ k
one_following m a n k h j = h.next ∙ ap (next_packed m) (one_extent m a h.end j.end h.extent j.extent) ∙ sym j.next

pub one_neighbour : (m : MemoryMap) (a n k : ℕ) → IsNeighbour m a n → IsNeighbour m a k → n ≡ k
one_neighbour m a n k (Next h) (Next j) = one_following m a n k h j
one_neighbour m a n k (Next h) (Past e x none j) = absurd (none n h)
one_neighbour m a n k (Past e x none h) (Next j) = absurd (none k j)
one_neighbour m a n k (Past e x none h) (Past f y also j) =
    one_following m f n k (subst (λ (b : ℕ). FollowsCode m b n) (one_extent m a e f x y) h) j

-- nothing follows, and there is no end
pub no_neighbour : (m : MemoryMap) (a n : ℕ) → ((k : ℕ) → FollowsCode m a k → ⊥) → ((e : ℕ) → IsExtent m a e → ⊥)
    → IsNeighbour m a n → ⊥
no_neighbour m a n none ends (Next h) = none n h
no_neighbour m a n none ends (Past e x _ h) = ends e x

-- and nothing follows what stands there
pub none_past : (m : MemoryMap) (a e n : ℕ) → ((k : ℕ) → FollowsCode m a k → ⊥) → IsExtent m a e
    → ((k : ℕ) → FollowsCode m e k → ⊥) → IsNeighbour m a n → ⊥
none_past m a e n none x also (Next h) = none n h
none_past m a e n none x also (Past f y _ h) = also n (subst (λ (b : ℕ). FollowsCode m b n) (one_extent m a f e y x) h)

-- ---- what is answered

pub routine_by : (m : MemoryMap) (r start : ℕ) (o : Option ℕ) → code_start m r ≡ Some start
    → IfSome o (IsExtent m start) → (o ≡ None → (e : ℕ) → IsExtent m start e → ⊥) → (is_some o ≡ true) ↔ IsRoutine m r
routine_by m r start (Some e) c found none =
    (λ _. record { start = start; end = e; begins = c; extent = found }, λ _. refl)
routine_by m r start None c found none = (λ k. absurd cc, λ h. absurd (not_routine m r start c (none refl) h))

pub neighbour_by : (m : MemoryMap) (a e : ℕ) (o : Option ℕ) → ((k : ℕ) → FollowsCode m a k → ⊥) → IsExtent m a e
    → IfSome o (FollowsCode m e) → IfSome o (IsNeighbour m a)
neighbour_by m a e (Some n) none x h = Past e x none h
neighbour_by m a e None none x h = h

pub only_neighbour : (m : MemoryMap) (a e : ℕ) (o : Option ℕ) → ((k : ℕ) → FollowsCode m a k → ⊥) → IsExtent m a e
    → IfSome o (FollowsCode m e) → (o ≡ None → (k : ℕ) → FollowsCode m e k → ⊥) → (n : ℕ) → IsNeighbour m a n
    → o ≡ Some n
only_neighbour m a e (Some k) none x h no_more n j = ap Some (one_neighbour m a k n (Past e x none h) j)
only_neighbour m a e None none x h no_more n j = absurd (none_past m a e n none x (no_more refl) j)
