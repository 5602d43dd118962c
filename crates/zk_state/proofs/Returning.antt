-- What a return makes of the frames: the caller takes the value, or can't.
use Rattle.std.proofs.Common.{◌≡◌, ◌∙◌, ℕ, ◌+◌, ◌-◌, ◌<◌, ◌≤◌, true, false, List, [], ◌∷◌, ◌++◌, length, take, get_or}
use Rattle.std.proofs.Common.{Option, Some, None, Ok, Err, refl, ap, sym, arith, length-append}
use Rattle.std.specs.Prelude.{reverse, nat_lt, ◌==◌}
use Rattle.std.proofs.lemmas.List.{length-take-le, take_more, take_all, nil_from_length}
use Rattle.std.proofs.lemmas.Bool.Decides.{nat_tests}
use Rattle.std.proofs.Math.ListN.{set, length-set}
use Rattle.zk_mem.specs.declared.fault.Fault.{Fault}
use Rattle.zk_mem.specs.declared.fault.Fault.TheVariants.{NoSuchLocal, ReturnFromMain}
use Rattle.zk_state.specs.declared.records.FrameRecord.{FrameRecord}
use Rattle.zk_state.specs.declared.refusal.Limit.TheVariants.{Words}
use Rattle.zk_state.specs.declared.refusal.Refusal.TheVariants.{Limit}
use Rattle.zk_state.specs.declared.refusal.Refusal.TheVariants as refusal
use Rattle.zk_state.specs.Frames.{FrameList, within_bounds, with_word, pushed, taken, given_back, GivesBack}
use Rattle.zk_state.specs.Frames.{RefusesBack}
use Rattle.zk_state.specs.declared.frames.Frames.TheInside.{Inside}
use Rattle.zk_state.specs.Flat.{list_of, seen, Chain, IsKept}
use Rattle.zk_state.proofs.Calls.{within_bounds_ok, depth_is, total_is, push_full, push_list, set_local_ok}
use Rattle.zk_state.proofs.Calls.{set_local_past, leave_ok, leave_first, chain_pop}

-- a list up to its last item
pub last_cut : (rs : List FrameRecord) (n : ℕ) (r : FrameRecord) → n ≡ length rs → 0 < n → r ≡ get_or rs (n - 1) r
    → rs ≡ take (n - 1) rs ++ r ∷ []
last_cut rs n r e some is =
    let all : take (n - 1 + 1) rs ≡ rs = take_all (n - 1 + 1) rs (omega arith) in
    sym all ∙ (take_more rs (n - 1) r (omega arith)) ∙ ap (λ (x : FrameRecord). take (n - 1) rs ++ x ∷ []) (sym is)

module _ (current caller : FrameRecord) (callers : List FrameRecord) (xs : List ℕ) (f m : ℕ)
    (high : current.base ≤ length xs) (below : Chain (reverse (callers ++ caller ∷ [])) current.base)
    (few : length callers + 2 ≤ f) (short : current.base ≤ m) where
  rest : List ℕ
  rest = take current.base xs

  long : length rest ≡ current.base
  unfolding rest
  long = length-take-le current.base xs high

  under : (caller.base ≤ caller.stack_base) × (caller.stack_base ≤ current.base) × Chain (reverse callers) caller.base
  under = chain_pop callers caller current.base below

  stack_base : caller.stack_base ≤ length rest
  stack_base = let h = under.1 in omega (arith, long)

  -- what is left when the routine is
  plain : FrameList
  plain = list_of caller callers rest f m

  given : (x : ℕ) (t : FrameList) → taken plain current.result x ≡ Ok t
      → given_back (list_of current (callers ++ caller ∷ []) xs f m) x ≡ Ok
      (t, record { pc = current.pc; result = current.result })
  unfolding given_back plain rest
  given x t h = rw (leave_ok current caller callers xs f m, h) refl

  fails : (x : ℕ) (e : Fault) → taken plain current.result x ≡ Err e
      → given_back (list_of current (callers ++ caller ∷ []) xs f m) x ≡ Err e
  unfolding given_back plain rest
  fails x e h = rw (leave_ok current caller callers xs f m, h) refl

  -- frames with as many words are within the bounds
  within : (ys : List ℕ) → length ys ≤ m → caller.stack_base ≤ length ys
      → within_bounds (list_of caller callers ys f m) ≡ Ok (list_of caller callers ys f m)
  within ys fits low =
      let h = under in
      within_bounds_ok (list_of caller callers ys f m) (omega (arith, depth_is callers (take caller.base ys)))
      (omega (arith, total_is caller callers ys f m (length ys) refl h.0 low h.2))

  gives : (x : ℕ) (v : Option ℕ) (ys : List ℕ) → current.result ≡ v
      → taken plain current.result x ≡ Ok (list_of caller callers ys f m) → length ys ≤ m
      → caller.stack_base ≤ length ys → GivesBack (list_of current (callers ++ caller ∷ []) xs f m) x v
  gives x v ys e h fits low = record {
    frames = list_of caller callers ys f m;
    back = record { pc = current.pc; result = current.result };
    given = given x (list_of caller callers ys f m) h;
    within = within ys fits low;
    result = e;
  }

  pub back_none : (x : ℕ) → current.result ≡ None → GivesBack (list_of current (callers ++ caller ∷ []) xs f m) x None
  unfolding taken plain rest
  back_none x e = gives x None rest e (rw e refl) (omega (arith, long)) stack_base

  pub back_global : (x v : ℕ) → current.result ≡ Some v → 16 ≤ v
      → GivesBack (list_of current (callers ++ caller ∷ []) xs f m) x (Some v)
  unfolding taken plain rest
  back_global x v e h =
      let none : (v == 0) ≡ false = grind (arith, nat_tests) in
      let past : nat_lt v 16 ≡ false = grind (arith, nat_tests) in
      gives x (Some v) rest e (rw (e, none, past) refl) (omega (arith, long)) stack_base

  pub back_word : (x v : ℕ) → current.result ≡ Some v → v ≡ 0 → current.base < m
      → GivesBack (list_of current (callers ++ caller ∷ []) xs f m) x (Some v)
  unfolding taken plain rest
  back_word x v e zero lt =
      let more : length (rest ++ x ∷ []) ≡ length rest + 1 = length-append rest (x ∷ []) in
      gives x (Some v) (rest ++ x ∷ []) e
      (rw (e, zero) (ap (λ (s : FrameList). Ok s) (push_list caller callers rest f m under.0 stack_base x)))
      (omega (arith, more, long)) (omega (arith, more, stack_base))

  pub back_full : (x v : ℕ) → current.result ≡ Some v → v ≡ 0 → m ≤ current.base
      → RefusesBack (list_of current (callers ++ caller ∷ []) xs f m) x (refusal.Limit Words)
  unfolding taken plain rest pushed
  back_full x v e zero le = (
    with_word plain x,
    record { pc = current.pc; result = current.result },
    given x (with_word plain x) (rw (e, zero) refl),
    e ∙ ap (λ (n : ℕ). Some n) zero,
    push_full caller callers rest f m under.0 stack_base x under.2 (omega arith) (omega (arith, long)),
  )

  pub back_local : (x v : ℕ) → current.result ≡ Some v → 0 < v → v < 16 → caller.base + v ≤ caller.stack_base
      → GivesBack (list_of current (callers ++ caller ∷ []) xs f m) x (Some v)
  unfolding taken plain rest
  back_local x v e some early le =
      let none : (v == 0) ≡ false = grind (arith, nat_tests) in
      let local : nat_lt v 16 ≡ true = grind (arith, nat_tests) in
      let same : length (set rest (caller.base + v - 1) x) ≡ length rest = length-set rest (caller.base + v - 1) x in
      gives x (Some v) (set rest (caller.base + v - 1) x) e
      (rw (e, none, local) (set_local_ok caller callers rest f m under.0 stack_base v x some le))
      (omega (arith, same, long)) (omega (arith, same, stack_base))

  pub back_past : (x v : ℕ) → current.result ≡ Some v → 0 < v → v < 16 → caller.stack_base < caller.base + v
      → given_back (list_of current (callers ++ caller ∷ []) xs f m) x ≡ Err NoSuchLocal
  unfolding taken plain rest
  back_past x v e some early lt =
      let none : (v == 0) ≡ false = grind (arith, nat_tests) in
      let local : nat_lt v 16 ≡ true = grind (arith, nat_tests) in
      fails x NoSuchLocal (rw (e, none, local) (set_local_past caller callers rest f m under.0 stack_base v x lt))

-- the same of frames as they are kept, whose last caller is this
module _ (s : Inside) (i : IsKept s) (caller : FrameRecord) (n : ℕ) (count : n ≡ length s.records.callers)
    (some : 0 < n) (is : caller ≡ get_or s.records.callers (n - 1) caller) where
  cut : s.records.callers ≡ take (n - 1) s.records.callers ++ caller ∷ []
  cut = last_cut s.records.callers n caller count some is

  room : s.records.current.base ≤ length (take s.top s.words.items)
  room = omega (arith, length-take-le s.top s.words.items (omega (arith, i.size, i.top)), i.base, i.stack_base)

  chain : Chain (reverse (take (n - 1) s.records.callers ++ caller ∷ [])) s.records.current.base
  chain = rw cut at i.below

  many : length (take (n - 1) s.records.callers) + 2 ≤ s.most_frames
  many = omega (arith, length-take-le (n - 1) s.records.callers (omega arith), i.frames)

  bound : s.records.current.base ≤ s.most_words
  bound = omega (arith, i.base, i.stack_base, i.top)

  pub kept_base : caller.base ≤ 65535
  kept_base = let h = chain_pop (take (n - 1) s.records.callers) caller s.records.current.base chain in
      omega (arith, h.0, h.1, bound, i.few_words)

  pub kept_none : (x : ℕ) → s.records.current.result ≡ None → GivesBack (seen s) x None
  kept_none x e =
      rw cut (back_none s.records.current caller (take (n - 1) s.records.callers) (take s.top s.words.items)
      s.most_frames s.most_words room chain many bound x e)

  pub kept_global : (x : ℕ) (v : ℕ) → s.records.current.result ≡ Some v → 16 ≤ v → GivesBack (seen s) x (Some v)
  kept_global x v e h =
      rw cut (back_global s.records.current caller (take (n - 1) s.records.callers) (take s.top s.words.items)
      s.most_frames s.most_words room chain many bound x v e h)

  pub kept_word : (x : ℕ) (v : ℕ) → s.records.current.result ≡ Some v → v ≡ 0
      → s.records.current.base < s.most_words → GivesBack (seen s) x (Some v)
  kept_word x v e h k =
      rw cut (back_word s.records.current caller (take (n - 1) s.records.callers) (take s.top s.words.items)
      s.most_frames s.most_words room chain many bound x v e h k)

  pub kept_full : (x : ℕ) (v : ℕ) → s.records.current.result ≡ Some v → v ≡ 0
      → s.most_words ≤ s.records.current.base → RefusesBack (seen s) x (refusal.Limit Words)
  kept_full x v e h k =
      rw cut (back_full s.records.current caller (take (n - 1) s.records.callers) (take s.top s.words.items)
      s.most_frames s.most_words room chain many bound x v e h k)

  pub kept_local : (x : ℕ) (v : ℕ) → s.records.current.result ≡ Some v → 0 < v → v < 16
      → caller.base + v ≤ caller.stack_base → GivesBack (seen s) x (Some v)
  kept_local x v e h k l =
      rw cut (back_local s.records.current caller (take (n - 1) s.records.callers) (take s.top s.words.items)
      s.most_frames s.most_words room chain many bound x v e h k l)

  pub kept_past : (x : ℕ) (v : ℕ) → s.records.current.result ≡ Some v → 0 < v → v < 16
      → caller.stack_base < caller.base + v → given_back (seen s) x ≡ Err NoSuchLocal
  kept_past x v e h k l =
      rw cut (back_past s.records.current caller (take (n - 1) s.records.callers) (take s.top s.words.items)
      s.most_frames s.most_words room chain many bound x v e h k l)

-- the first frame has no caller
pub first_back : (s : Inside) (x : ℕ) → length s.records.callers ≡ 0 → given_back (seen s) x ≡ Err ReturnFromMain
unfolding given_back
first_back s x none =
    rw (
      nil_from_length s.records.callers none,
      leave_first s.records.current (take s.top s.words.items)
          s.most_frames s.most_words,
    ) refl
