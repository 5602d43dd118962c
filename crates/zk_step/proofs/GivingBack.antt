-- Words of the evaluation stack that operands have taken are given back, the last first.
use Rattle.std.proofs.Common.{◌≡◌, ◌∙◌, ◌≤◌, ◌<◌, ℕ, zero, suc, ◌-◌, Bool, true, false, List, [], ◌∷◌, ◌++◌, take}
use Rattle.std.proofs.Common.{length, get_or, Result, Ok, Err, refl, ap, sym, subst, arith, nat_lt}
use Rattle.std.specs.Prelude.{◌==◌, if◌then◌else◌, slice_index}
use Rattle.std.proofs.lemmas.Bool.Decides.{nat_tests}
use Rattle.std.proofs.lemmas.List.{length-take, take_all}
use Rattle.zk_mem.specs.declared.fault.Fault.{Fault}
use Rattle.zk_mem.specs.declared.fault.Fault.TheVariants.{StackEmpty}
use Rattle.zk_mem.specs.Results.{◌>>=◌}
use Rattle.zk_code.specs.declared.operands.Operand.{Operand}
use Rattle.zk_code.specs.declared.operands.Operand.TheVariants.{Large, Small, Variable}
use Rattle.zk_state.specs.Frames.{FrameList, IsBounded, frames_of, popped, total_of, sizes_of, with_word, with_words}
use Rattle.zk_state.specs.Frames.{within_bounds}
use Rattle.zk_state.proofs.Calls.{take_last, within_bounds_ok}
use Rattle.zk_step.specs.declared.state.game_state.GameState.{GameState}
use Rattle.zk_step.specs.Halves.{given_back}
use Rattle.zk_step.specs.Variables.{named_read, operand_read, operands_read, values_before, variable_read, with_frames}

-- ---- one operand

-- frames within their bounds
pub record Fits (s : FrameList) : Type 0 where
  pub frames : length (frames_of s) ≤ s.most_frames
  pub words : total_of s ≤ s.most_words

last_back : (s : FrameList) → 0 < length s.current.words
    → with_word (with_words s (take (length s.current.words - 1) s.current.words))
    (slice_index s.current.words (length s.current.words - 1)) ≡ s
last_back s h =
    let ws = s.current.words in
    let same : take (length ws - 1) ws ++ get_or ws (length ws - 1) 0
    ∷ [] ≡ ws = sym (take_last ws (length ws) h (omega arith)) ∙ take_all (length ws) ws (omega arith) in
    ap (with_words s) same

shorter : (s : FrameList) (n : ℕ) → Fits s → Fits (with_words s (take n s.current.words))
unfolding sizes_of
shorter s n h = record {
  frames = h.frames;
  words = (let few = length-take n s.current.words in omega (arith, few, h.words));
}

abbrev newest_of : FrameList → FrameList × ℕ
newest_of s = (
  with_words s (take (length s.current.words - 1) s.current.words),
  slice_index s.current.words
      (length s.current.words - 1),
)

pulled_by : (s t : FrameList) (v : ℕ) (b : Bool) → nat_lt 0 (length s.current.words) ≡ b
    → (if b then Ok (newest_of s) else Err StackEmpty) ≡ Ok (t, v) → (with_word t v ≡ s) × (Fits s → Fits t)
pulled_by s t v true e k =
    let same : newest_of s ≡ (t, v) = cc in
    let some : 0 < length s.current.words = grind (arith, nat_tests, e) in
    subst (λ (p : FrameList × ℕ). (with_word p.0 p.1 ≡ s) × (Fits s → Fits p.0)) same
    (last_back s some, shorter s (length s.current.words - 1))
pulled_by s t v false e k = absurd cc

pulled : (s t : FrameList) (v : ℕ) → popped s ≡ Ok (t, v) → (with_word t v ≡ s) × (Fits s → Fits t)
unfolding popped
pulled s t v h = pulled_by s t v (nat_lt 0 (length s.current.words)) refl h

-- what an operand has taken can be given back, and frames keep to their bounds
abbrev Took : GameState → GameState → ℕ → Operand → Type 0
Took w t v o = (given_back o v t ≡ w) × (Fits w.frames → Fits t.frames)

pulled_word : (w t : GameState) (v : ℕ) (r : Result (FrameList × ℕ) Fault) → popped w.frames ≡ r
    → (r >>= λ p. let x : GameState × ℕ = (with_frames w p.0, p.1) in Ok x) ≡ Ok (t, v)
    → (with_frames t (with_word t.frames v) ≡ w) × (Fits w.frames → Fits t.frames)
pulled_word w t v (Ok p) e h =
    let same : ◌≡◌ {A = GameState × ℕ} (with_frames w p.0, p.1) (t, v) = cc in
    let pull = pulled w.frames p.0 p.1 e in
    subst (λ (q : GameState × ℕ). (with_frames q.0 (with_word q.0.frames q.1) ≡ w)
    × (Fits w.frames → Fits q.0.frames)) same (ap (with_frames w) pull.0, pull.1)
pulled_word w t v (Err f) e h = absurd cc

same_state : (w t : GameState) (v : ℕ) (r : Result ℕ Fault)
    → (r >>= λ y. let x : GameState × ℕ = (w, y) in Ok x) ≡ Ok (t, v) → (t ≡ w) × (Fits w.frames → Fits t.frames)
same_state w t v (Ok y) h =
    let same : ◌≡◌ {A = GameState × ℕ} (w, y) (t, v) = cc in
    subst (λ (q : GameState × ℕ). (q.0 ≡ w) × (Fits w.frames → Fits q.0.frames)) same (refl, λ fits. fits)
same_state w t v (Err f) h = absurd cc

variable_back : (w t : GameState) (n v : ℕ) (b : Bool) → (n == 0) ≡ b
    → (if b then (popped w.frames >>= λ p. let x : GameState × ℕ = (with_frames w p.0, p.1) in Ok x)
    else (named_read w n >>= λ y. let x : GameState × ℕ = (w, y) in Ok x)) ≡ Ok (t, v) → Took w t v (Variable n)
variable_back w t n v true e h = rw e (pulled_word w t v (popped w.frames) refl h)
variable_back w t n v false e h = rw e (same_state w t v (named_read w n) h)

pub operand_back : (w t : GameState) (o : Operand) (v : ℕ) → operand_read w o ≡ Ok (t, v) → Took w t v o
unfolding operand_read variable_read
operand_back w t (Large x) v h = same_state w t v (Ok x) h
operand_back w t (Small x) v h = same_state w t v (Ok x) h
operand_back w t (Variable n) v h = variable_back w t n v (n == 0) refl h

-- ---- all operands

-- the first operand is taken, and then the others
pub record TakesFirst (w : GameState) (o : Operand) (os : List Operand) (t : GameState) (vs : List ℕ) : Type 0 where
  pub mid : GameState
  pub value : ℕ
  pub values : List ℕ
  pub first : operand_read w o ≡ Ok (mid, value)
  pub others : operands_read mid os ≡ Ok (t, values)
  pub are : vs ≡ value ∷ values

takes_others : (w m t : GameState) (o : Operand) (os : List Operand) (x : ℕ) (vs : List ℕ)
    (r : Result (GameState × List ℕ) Fault) → operand_read w o ≡ Ok (m, x) → operands_read m os ≡ r
    → values_before (x ∷ []) r ≡ Ok (t, vs) → TakesFirst w o os t vs
takes_others w m t o os x vs (Ok p) first e h =
    let same : ◌≡◌ {A = GameState × List ℕ} (p.0, x ∷ p.1) (t, vs) = cc in
    record {
      mid = m;
      value = x;
      values = p.1;
      first = first;
      others = e ∙ ap (λ (q : GameState × List ℕ). let z : GameState × List ℕ = (q.0, p.1) in Ok z) same;
      are = sym (ap (λ (q : GameState × List ℕ). q.1) same);
    }
takes_others w m t o os x vs (Err f) first e h = absurd cc

takes_by : (w t : GameState) (o : Operand) (os : List Operand) (vs : List ℕ) (r : Result (GameState × ℕ) Fault)
    → operand_read w o ≡ r → (r >>= λ p. values_before (p.1 ∷ []) (operands_read p.0 os)) ≡ Ok (t, vs)
    → TakesFirst w o os t vs
takes_by w t o os vs (Ok p) e h = takes_others w p.0 t o os p.1 vs (operands_read p.0 os) e refl h
takes_by w t o os vs (Err f) e h = absurd cc

pub takes_first : (w t : GameState) (o : Operand) (os : List Operand) (vs : List ℕ)
    → operands_read w (o ∷ os) ≡ Ok (t, vs) → TakesFirst w o os t vs
unfolding operands_read
takes_first w t o os vs h = takes_by w t o os vs (operand_read w o) refl h

-- a game state after so many operands were taken
abbrev state_in : GameState → Result (GameState × ℕ) Fault → GameState
state_in w (Ok r) = r.0
state_in w (Err f) = w

unfoldable pub after_operands : ℕ → GameState → List Operand → GameState
after_operands zero w os = w
after_operands (suc n) w [] = w
after_operands (suc n) w (o ∷ os) = after_operands n (state_in w (operand_read w o)) os

after_one : (n : ℕ) (w m : GameState) (o : Operand) (os : List Operand) (v : ℕ) → operand_read w o ≡ Ok (m, v)
    → after_operands (suc n) w (o ∷ os) ≡ after_operands n m os
unfolding after_operands
after_one n w m o os v h = ap (λ (r : Result (GameState × ℕ) Fault). after_operands n (state_in w r) os) h

no_operands : (w t : GameState) (vs : List ℕ) → operands_read w [] ≡ Ok (t, vs) → (t ≡ w) × (vs ≡ [])
unfolding operands_read
no_operands w t vs h =
    let same : ◌≡◌ {A = GameState × List ℕ} (w, []) (t, vs) = cc in
    (sym (ap (λ (q : GameState × List ℕ). q.0) same), sym (ap (λ (q : GameState × List ℕ). q.1) same))

pub as_many : (w t : GameState) (os : List Operand) (vs : List ℕ) → operands_read w os ≡ Ok (t, vs)
    → length vs ≡ length os
as_many w t [] vs h = ap length (no_operands w t vs h).1
as_many w t (o ∷ os) vs h =
    let p = takes_first w t o os vs h in rw p.are (ap suc (as_many p.mid t os p.values p.others))

pub all_taken : (w t : GameState) (os : List Operand) (vs : List ℕ) → operands_read w os ≡ Ok (t, vs)
    → after_operands (length os) w os ≡ t
unfolding after_operands
all_taken w t [] vs h = sym (no_operands w t vs h).0
all_taken w t (o ∷ os) vs h = let p = takes_first w t o os vs h in
    after_one (length os) w p.mid o os p.value p.first ∙ all_taken p.mid t os p.values p.others

-- the operand of an index is taken from the state after those before it
operand_at : (w t : GameState) (os : List Operand) (vs : List ℕ) (n : ℕ) → operands_read w os ≡ Ok (t, vs)
    → n < length os → operand_read (after_operands n w os) (get_or os n (Large 0)) ≡ Ok
    (after_operands (suc n) w os, get_or vs n 0)
unfolding after_operands
operand_at w t [] vs n h lt = absurd (omega arith)
operand_at w t (o ∷ os) vs zero h lt =
    let p = takes_first w t o os vs h in rw (p.are, after_one 0 w p.mid o os p.value p.first) p.first
operand_at w t (o ∷ os) vs (suc n) h lt = let p = takes_first w t o os vs h in
    rw (p.are, after_one n w p.mid o os p.value p.first, after_one (suc n) w p.mid o os p.value p.first)
    (operand_at p.mid t os p.values n p.others (omega arith))

fits_after : (w t : GameState) (os : List Operand) (vs : List ℕ) (n : ℕ) → operands_read w os ≡ Ok (t, vs)
    → Fits w.frames → Fits (after_operands n w os).frames
unfolding after_operands
fits_after w t os vs zero h fits = fits
fits_after w t [] vs (suc n) h fits = fits
fits_after w t (o ∷ os) vs (suc n) h fits = let p = takes_first w t o os vs h in
    rw (after_one n w p.mid o os p.value p.first) (fits_after p.mid t os p.values n p.others
    ((operand_back w p.mid o p.value p.first).1 fits))

-- what the operand of an index has taken is given back, and there is room for it
pub record GivesBack (w : GameState) (os : List Operand) (n : ℕ) (o : Operand) (v : ℕ) : Type 0 where
  pub is : given_back o v (after_operands (suc n) w os) ≡ after_operands n w os
  pub fits : within_bounds (given_back o v (after_operands (suc n) w os)).frames ≡ Ok
      (given_back o v (after_operands (suc n) w os)).frames

pub gives_back : (w t : GameState) (os : List Operand) (vs : List ℕ) (n : ℕ) → operands_read w os ≡ Ok (t, vs)
    → Fits w.frames → n < length os → GivesBack w os n (get_or os n (Large 0)) (get_or vs n 0)
gives_back w t os vs n h fits lt =
    let back_is = (operand_back (after_operands n w os) (after_operands (suc n) w os) (get_or os n (Large 0))
    (get_or vs n 0) (operand_at w t os vs n h lt)).0 in
    let room = fits_after w t os vs n h fits in
    record { is = back_is; fits = rw back_is (within_bounds_ok (after_operands n w os).frames room.frames room.words) }

pub bounded_fits : (s : FrameList) → IsBounded s → Fits s
bounded_fits s h = record { frames = h.frames; words = h.words }
