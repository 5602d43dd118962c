-- Returns that can be made, and those that can't.
use Rattle.std.proofs.Common.{◌≡◌, ◌∙◌, ℕ, ◌<◌, ◌≤◌, Bool, true, false, Option, Some, None, Result, Ok, Err, IsOk, refl}
use Rattle.std.proofs.Common.{ap, subst, arith, nat_lt, rules}
use Rattle.std.specs.Prelude.{◌==◌}
use Rattle.std.proofs.lemmas.Bool.Decides.{nat_tests}
use Rattle.zk_mem.specs.declared.fault.Fault.{Fault}
use Rattle.zk_mem.specs.Results.{◌>>=◌}
use Rattle.zk_mem.specs.Map.{MemoryMap, word_put}
use Rattle.zk_state.specs.declared.frames.Return.{Return}
use Rattle.zk_state.specs.declared.refusal.Refusal.{Refusal}
use Rattle.zk_state.specs.declared.refusal.Refusal.TheVariants as refusal
use Rattle.zk_state.specs.Frames.{FrameList, left, within_bounds, taken, given_back, GivesBack, RefusesBack}
use Rattle.zk_step.specs.declared.state.game_state.GameState.{GameState}
use Rattle.zk_step.specs.Limited.{kept, limited_pc}
use Rattle.zk_step.specs.Routines.{stored, returned}
use Rattle.zk_step.specs.Variables.{with_frames, with_memory, global_address, variable_written, named_written}

-- the variable is one of the frame's own
IsOwn : Option ℕ → Type 0
IsOwn None = Unit {0}
IsOwn (Some v) = v < 16

own_by : (w : GameState) (v x : ℕ) (b : Bool) → (v == 0) ≡ b → v < 16
    → stored w (Some v) (Some x) ≡ (taken w.frames (Some v) x >>= λ s. Ok (with_frames w s))
unfolding stored variable_written named_written taken
own_by w v x true e h = rw e refl
own_by w v x false e h = let local : nat_lt v 16 ≡ true = grind (arith, nat_tests) in rw (e, local) refl

own_stored : (w : GameState) (v : Option ℕ) (x : ℕ) → IsOwn v
    → stored w v (Some x) ≡ (taken w.frames v x >>= λ s. Ok (with_frames w s))
unfolding IsOwn stored taken
own_stored w None x h = refl
own_stored w (Some v) x h = own_by w v x (v == 0) refl h

global_taken : (s : FrameList) (v x : ℕ) → 16 ≤ v → taken s (Some v) x ≡ Ok s
unfolding taken
global_taken s v x h =
    let none : (v == 0) ≡ false = grind (arith, nat_tests) in
    let past : nat_lt v 16 ≡ false = grind (arith, nat_tests) in
    rw (none, past) refl

global_stored : (w : GameState) (v x : ℕ) → 16 ≤ v
    → stored w (Some v) (Some x) ≡ (word_put w.memory (global_address w.memory v) x >>= λ m. Ok (with_memory w m))
unfolding stored variable_written named_written
global_stored w v x h =
    let none : (v == 0) ≡ false = grind (arith, nat_tests) in
    let past : nat_lt v 16 ≡ false = grind (arith, nat_tests) in
    rw (none, past) refl

-- frames with where the routine returns to, and a game state with the next address
abbrev with_back : Return → FrameList → FrameList × Return
with_back b u = (u, b)

abbrev goes_at : ℕ → GameState → GameState × ℕ
goes_at pc w = (w, pc)

-- the caller takes the value
taken_is : (s t : FrameList) (b back : Return) (x : ℕ) → (taken s b.result x >>= λ u. Ok (with_back b u)) ≡ Ok
    (t, back) → (taken s b.result x ≡ Ok t) × (b ≡ back)
taken_is s t b back x h = go (taken s b.result x) refl h
  where
    go : (r : Result FrameList Fault) → taken s b.result x ≡ r → (r >>= λ u. Ok (with_back b u)) ≡ Ok (t, back)
        → (taken s b.result x ≡ Ok t) × (b ≡ back)
    go (Ok u) e k =
        let pair : ◌≡◌ {A = FrameList × Return} (u, b) (t, back) = cc in
        (e ∙ ap (λ (p : FrameList × Return). Ok p.0) pair, ap (λ (p : FrameList × Return). p.1) pair)
    go (Err f) e k = absurd cc

-- the frames that are left, and the variable that waits
left_is : (s t : FrameList) (back : Return) (x : ℕ) → given_back s x ≡ Ok (t, back)
    → (u : FrameList) × (left s ≡ Ok (u, back)) × (taken u back.result x ≡ Ok t)
unfolding given_back
left_is s t back x h = go (left s) refl h
  where
    go : (r : Result (FrameList × Return) Fault) → left s ≡ r
        → (r >>= λ p. taken p.0 p.1.result x >>= λ u. Ok (with_back p.1 u)) ≡ Ok (t, back)
        → (u : FrameList) × (left s ≡ Ok (u, back)) × (taken u back.result x ≡ Ok t)
    go (Ok p) e k =
        let parts = taken_is p.0 t p.1 back x k in (
          p.0,
          e ∙ ap (λ (b : Return). let both : FrameList × Return = (p.0, b) in Ok both) parts.1,
          subst (λ (b : Return). taken p.0 b.result x ≡ Ok t) parts.1 parts.0,
        )
    go (Err f) e k = absurd cc

returned_own : (w : GameState) (x : ℕ) (t : FrameList) (back : Return) → given_back w.frames x ≡ Ok (t, back)
    → IsOwn back.result → returned w x ≡ Ok (with_frames w t, back.pc)
unfolding returned
returned_own w x t back h own =
    let parts = left_is w.frames t back x h in
    rw (parts.1, own_stored (with_frames w parts.0) back.result x own, parts.2) refl

global_same : (u t : FrameList) (o : Option ℕ) (v x : ℕ) → o ≡ Some v → 16 ≤ v → taken u o x ≡ Ok t → u ≡ t
global_same u t o v x e high h =
    let at : taken u (Some v) x ≡ Ok t = subst (λ (p : Option ℕ). taken u p x ≡ Ok t) e h in
    let same = global_taken u v x high in
    cc

put_back : (w : GameState) (u : FrameList) (pc : ℕ) (r : Result MemoryMap Fault)
    → ((r >>= λ m. Ok (with_memory (with_frames w u) m)) >>= λ x. Ok (goes_at pc x))
    ≡ (r >>= λ m. Ok (goes_at pc (with_memory (with_frames w u) m)))
put_back w u pc (Ok m) = refl
put_back w u pc (Err f) = refl

by_left : (w : GameState) (x v : ℕ) (back : Return) (u : FrameList) → left w.frames ≡ Ok (u, back)
    → back.result ≡ Some v → 16 ≤ v
    → returned w x ≡ (word_put w.memory (global_address w.memory v) x >>=
    λ m. Ok (goes_at back.pc (with_memory (with_frames w u) m)))
unfolding returned
by_left w x v back u e result high =
    rw (e, result, global_stored (with_frames w u) v x high)
    (put_back w u back.pc (word_put w.memory (global_address w.memory v) x))

returned_global : (w : GameState) (x v : ℕ) (t : FrameList) (back : Return) → given_back w.frames x ≡ Ok (t, back)
    → back.result ≡ Some v → 16 ≤ v
    → returned w x ≡ (word_put w.memory (global_address w.memory v) x >>=
    λ m. Ok (goes_at back.pc (with_memory (with_frames w t) m)))
returned_global w x v t back h result high =
    let parts = left_is w.frames t back x h in
    let same : parts.0 ≡ t = global_same parts.0 t back.result v x result high parts.2 in
    by_left w x v back parts.0 parts.1 result high
    ∙ ap (λ (u : FrameList). word_put w.memory (global_address w.memory v) x >>=
    λ m. Ok (goes_at back.pc (with_memory (with_frames w u) m))) same

kept_is_ok : {B : Type 0} (s t : FrameList) (y : B) → within_bounds s ≡ Ok t → IsOk (kept (within_bounds s) y)
kept_is_ok s t y h = rw h refl

pub own_returns : (w : GameState) (x : ℕ) (v : Option ℕ) → GivesBack w.frames x v
    → ((n : ℕ) → v ≡ Some n → n < 16) → IsOk (limited_pc (returned w x))
unfolding IsOwn
own_returns w x v g own = rw (returned_own w x g.frames g.back g.given (go v g.result own))
    (kept_is_ok {B = GameState × ℕ} g.frames g.frames (with_frames w g.frames, g.back.pc) g.within)
  where
    go : (u : Option ℕ) → g.back.result ≡ u → ((n : ℕ) → u ≡ Some n → n < 16) → IsOwn g.back.result
    go None e k = rw e tt
    go (Some n) e k = rw e (k n refl)

pub global_returns : (w : GameState) (x n : ℕ) → GivesBack w.frames x (Some n) → 16 ≤ n
    → IsOk (word_put w.memory (global_address w.memory n) x) → IsOk (limited_pc (returned w x))
global_returns w x n g high put = rw (returned_global w x n g.frames g.back g.given g.result high)
    (go (word_put w.memory (global_address w.memory n) x) put)
  where
    go : (r : Result MemoryMap Fault) → IsOk r
        → IsOk (limited_pc (r >>= λ m. Ok (goes_at g.back.pc (with_memory (with_frames w g.frames) m))))
    go (Ok m) ok =
        kept_is_ok {B = GameState × ℕ} g.frames g.frames (with_memory (with_frames w g.frames) m, g.back.pc) g.within
    go (Err f) ok = search rules

pub global_refused : (w : GameState) (x n : ℕ) (f : Fault) → GivesBack w.frames x (Some n) → 16 ≤ n
    → word_put w.memory (global_address w.memory n) x ≡ Err f → limited_pc (returned w x) ≡ Err (refusal.Fault f)
global_refused w x n f g high put = rw (returned_global w x n g.frames g.back g.given g.result high, put) refl

-- a caller that can't take a value has no such local variable
own_fails : (w : GameState) (v : Option ℕ) (x : ℕ) (f : Fault) → taken w.frames v x ≡ Err f
    → stored w v (Some x) ≡ Err f
unfolding taken stored
own_fails w None x f h = absurd cc
own_fails w (Some v) x f h = go (nat_lt v 16) refl
  where
    go : (b : Bool) → nat_lt v 16 ≡ b → stored w (Some v) (Some x) ≡ Err f
    go true e = rw (own_by w v x (v == 0) refl (grind (arith, nat_tests)), h) refl
    go false e = let ok = global_taken w.frames v x (grind (arith, nat_tests)) in absurd cc

taken_fails : (w : GameState) (s : FrameList) (b : Return) (x : ℕ) (f : Fault) → (q : Result FrameList Fault)
    → taken s b.result x ≡ q → (q >>= λ u. Ok (with_back b u)) ≡ Err f
    → (stored (with_frames w s) b.result (Some x) >>= λ u. Ok (goes_at b.pc u)) ≡ Err f
taken_fails w s b x f (Ok u) d l = absurd cc
taken_fails w s b x f (Err g) d l = let same : g ≡ f = cc in rw (own_fails (with_frames w s) b.result x g d, same) refl

returned_fails : (w : GameState) (x : ℕ) (f : Fault) → given_back w.frames x ≡ Err f → returned w x ≡ Err f
unfolding given_back returned
returned_fails w x f h = go (left w.frames) h
  where
    go : (r : Result (FrameList × Return) Fault)
        → (r >>= λ p. taken p.0 p.1.result x >>= λ u. Ok (with_back p.1 u)) ≡ Err f
        → (r >>= λ p. stored (with_frames w p.0) p.1.result (Some x) >>= λ u. Ok (goes_at p.1.pc u)) ≡ Err f
    go (Ok p) k = taken_fails w p.0 p.1 x f (taken p.0 p.1.result x) refl k
    go (Err g) k = cc

pub refused_returns : (w : GameState) (x : ℕ) (e : Refusal) → RefusesBack w.frames x e
    → limited_pc (returned w x) ≡ Err e
unfolding IsOwn
refused_returns w x (refusal.Fault f) h = rw (returned_fails w x f h) refl
refused_returns w x (refusal.Limit l) h = rw (returned_own w x h.0 h.1 h.2 (rw h.3 (omega arith)), h.4) refl
