-- The values of the first two operands are those that a step takes.
use Rattle.std.proofs.Common.{◌≡◌, ◌∙◌, ◌<◌, ◌≤◌, ℕ, ◌-◌, Bool, true, false, List, [], ◌∷◌, take, length, get_or}
use Rattle.std.proofs.Common.{Some, None, Result, Ok, Err, refl, ap, sym, subst, arith, nat_lt}
use Rattle.std.specs.Prelude.{◌==◌, ◌&&◌, if◌then◌else◌, slice_index, slice_get}
use Rattle.std.specs.Result.{result_ok}
use Rattle.std.proofs.lemmas.Bool.Decides.{nat_tests}
use Rattle.std.proofs.lemmas.List.{length-take, get_or-take}
use Rattle.zk_mem.specs.declared.fault.Fault.{Fault}
use Rattle.zk_mem.specs.declared.fault.Fault.TheVariants.{StackEmpty}
use Rattle.zk_mem.specs.Results.{◌>>=◌}
use Rattle.zk_code.specs.declared.operands.Operand.{Operand}
use Rattle.zk_code.specs.declared.operands.Operand.TheVariants.{Large, Small, Variable}
use Rattle.zk_state.specs.Frames.{FrameList, local_of, popped, top_of, with_words}
use Rattle.zk_step.specs.declared.state.game_state.GameState.{GameState}
use Rattle.zk_step.specs.Variables.{indirect_read, named_read, operand_read, operands_read, variable_read, with_frames}
use Rattle.zk_step.proofs.GivingBack.{takes_first}
use Rattle.zk_strict.specs.Stack.{word_under}
use Rattle.zk_strict.specs.Values.{first_taken, pulls, second_taken, taken_after, value_of}

abbrev pair : GameState → ℕ → GameState × ℕ
pair w x = (w, x)

-- ---- one variable

abbrev stack_read : GameState → FrameList → Result (GameState × ℕ) Fault
stack_read w s = popped s >>= λ r. Ok (pair (with_frames w r.0) r.1)

abbrev kept_read : GameState → Result ℕ Fault → Result (GameState × ℕ) Fault
kept_read w r = r >>= λ x. Ok (pair w x)

abbrev newest_of : FrameList → FrameList × ℕ
newest_of s = (
  with_words s (take (length s.current.words - 1) s.current.words),
  slice_index s.current.words
      (length s.current.words - 1),
)

top_by : (w : GameState) (s : FrameList) (b : Bool) → value_of ((if b then Ok (newest_of s) else Err StackEmpty)
    >>= λ r. Ok (pair (with_frames w r.0) r.1)) ≡ result_ok (if b
    then Ok (slice_index s.current.words (length s.current.words - 1)) else Err StackEmpty)
top_by w s true = refl
top_by w s false = refl

top_is : (w : GameState) (s : FrameList) → value_of (stack_read w s) ≡ result_ok (top_of s)
unfolding popped top_of
top_is w s = top_by w s (nat_lt 0 (length s.current.words))

kept_is : (w : GameState) (r : Result ℕ Fault) → value_of (kept_read w r) ≡ result_ok r
kept_is w (Ok x) = refl
kept_is w (Err f) = refl

variable_by : (w : GameState) (v : ℕ) (b : Bool) → result_ok (if b then top_of w.frames else named_read w v)
    ≡ value_of (if b then stack_read w w.frames else kept_read w (named_read w v))
variable_by w v true = sym (top_is w w.frames)
variable_by w v false = sym (kept_is w (named_read w v))

pub variable_is : (w : GameState) (v : ℕ) → v ≤ 255
    → result_ok (indirect_read w v) ≡ value_of (variable_read w v)
unfolding variable_read indirect_read
variable_is w v h =
    let few : nat_lt 255 v ≡ false = grind (arith, nat_tests) in rw few (variable_by w v (v == 0))

-- ---- a variable after another

front_value : (ws : List ℕ) → 1 < length ws → let front = take (length ws - 1) ws in
    slice_index front (length front - 1) ≡ slice_index ws (length ws - 2)
front_value ws h =
    let m : length (take (length ws - 1) ws) - 1 ≡ length ws - 2 = omega (arith, length-take (length ws - 1) ws) in
    ap (λ (k : ℕ). get_or (take (length ws - 1) ws) k 0) m
    ∙ get_or-take (length ws - 1) ws (length ws - 2) 0 (omega arith)

under_by : (w : GameState) (s : FrameList) (b : Bool) → let ws = s.current.words in
    let front = take (length ws - 1) ws in nat_lt 1 (length ws) ≡ b → nat_lt 0 (length front) ≡ b
    → value_of ((if b then Ok (newest_of (with_words s front)) else Err StackEmpty)
    >>= λ r. Ok (pair (with_frames w r.0) r.1)) ≡ (if b then Some (slice_index ws (length ws - 2)) else None)
under_by w s true e f = ap (λ (n : ℕ). Some n) (front_value s.current.words (grind (arith, nat_tests, e)))
under_by w s false e f = refl

under_is : (w : GameState) (s : FrameList) → let ws = s.current.words in
    value_of (stack_read w (with_words s (take (length ws - 1) ws))) ≡ word_under s
unfolding popped word_under
under_is w s =
    let ws = s.current.words in
    let few = length-take (length ws - 1) ws in
    let m : length (take (length ws - 1) ws) ≡ length ws - 1 = omega (arith, few) in
    let same : nat_lt 0 (length (take (length ws - 1) ws)) ≡ nat_lt 1 (length ws) = grind (arith, nat_tests, m) in
    rw same (under_by w s (nat_lt 1 (length ws)) refl same)

-- ---- an operand after another

-- with another evaluation stack, other variables are as before
named_same : (w : GameState) (ws : List ℕ) (u : ℕ)
    → named_read (with_frames w (with_words w.frames ws)) u ≡ named_read w u
unfolding named_read local_of
named_same w ws u = refl

abbrev pulled : GameState → GameState
pulled w = with_frames w (newest_of w.frames).0

pulled_by : (w : GameState) (u : ℕ) (c : Bool) → value_of (if c then stack_read (pulled w) (pulled w).frames
    else kept_read (pulled w) (named_read (pulled w) u)) ≡ (if c then word_under w.frames
    else value_of (if c then stack_read w w.frames else kept_read w (named_read w u)))
pulled_by w u true = under_is (pulled w) w.frames
pulled_by w u false =
    kept_is (pulled w) (named_read (pulled w) u)
    ∙ ap (λ (r : Result ℕ Fault). result_ok r) (named_same w (newest_of w.frames).0.current.words u)
    ∙ sym (kept_is w (named_read w u))

after_pulled : (w : GameState) (p : Operand) → value_of (operand_read (pulled w) p)
    ≡ (if pulls p then word_under w.frames else value_of (operand_read w p))
unfolding operand_read variable_read
after_pulled w (Large y) = refl
after_pulled w (Small y) = refl
after_pulled w (Variable u) = pulled_by w u (u == 0)

stack_then : (w : GameState) (p : Operand) (x : ℕ) (b : Bool)
    → value_of ((if b then Ok (newest_of w.frames) else Err StackEmpty) >>= λ r. Ok (pair (with_frames w r.0) r.1))
    ≡ Some x
    → value_of (((if b then Ok (newest_of w.frames) else Err StackEmpty) >>= λ r. Ok (pair (with_frames w r.0) r.1))
    >>= λ r. operand_read r.0 p) ≡ (if pulls p then word_under w.frames else value_of (operand_read w p))
stack_then w p x true h = after_pulled w p
stack_then w p x false h = absurd cc

popped_then : (w : GameState) (p : Operand) (x : ℕ) → value_of (stack_read w w.frames) ≡ Some x
    → value_of (stack_read w w.frames >>= λ r. operand_read r.0 p)
    ≡ (if pulls p then word_under w.frames else value_of (operand_read w p))
unfolding popped
popped_then w p x h = stack_then w p x (nat_lt 0 (length w.frames.current.words)) h

kept_then : (w : GameState) (p : Operand) (x : ℕ) (r : Result ℕ Fault) → value_of (kept_read w r) ≡ Some x
    → value_of (kept_read w r >>= λ r. operand_read r.0 p) ≡ value_of (operand_read w p)
kept_then w p x (Ok y) h = refl
kept_then w p x (Err f) h = absurd cc

variable_then : (w : GameState) (v : ℕ) (p : Operand) (x : ℕ) (b : Bool)
    → value_of (if b then stack_read w w.frames else kept_read w (named_read w v)) ≡ Some x
    → value_of ((if b then stack_read w w.frames else kept_read w (named_read w v)) >>= λ r. operand_read r.0 p)
    ≡ (if b && pulls p then word_under w.frames else value_of (operand_read w p))
variable_then w v p x true h = popped_then w p x h
variable_then w v p x false h = kept_then w p x (named_read w v) h

after_is : (w : GameState) (o p : Operand) (x : ℕ) → value_of (operand_read w o) ≡ Some x
    → taken_after w o p ≡ (if pulls o && pulls p then word_under w.frames else value_of (operand_read w p))
unfolding taken_after operand_read variable_read
after_is w (Large y) p x h = refl
after_is w (Small y) p x h = refl
after_is w (Variable v) p x h = variable_then w v p x (v == 0) h

pub after_both : (w : GameState) (o p : Operand) (x : ℕ) → value_of (operand_read w o) ≡ Some x
    → pulls o ≡ true → pulls p ≡ true → taken_after w o p ≡ word_under w.frames
after_both w o p x h e f = rw (after_is w o p x h, e, f) refl

pub after_other : (w : GameState) (o p : Operand) (x : ℕ) → value_of (operand_read w o) ≡ Some x
    → (pulls o && pulls p) ≡ false → taken_after w o p ≡ value_of (operand_read w p)
after_other w o p x h e = rw (after_is w o p x h, e) refl

none_by : (r : Result (GameState × ℕ) Fault) (p : Operand) → value_of r ≡ None
    → value_of (r >>= λ q. operand_read q.0 p) ≡ None
none_by (Ok q) p h = absurd cc
none_by (Err f) p h = refl

pub after_none : (w : GameState) (o p : Operand) → value_of (operand_read w o) ≡ None → taken_after w o p ≡ None
unfolding taken_after
after_none w o p h = none_by (operand_read w o) p h

-- ---- the values that a step takes

abbrev AreTaken : GameState → List Operand → List ℕ → Type 0
AreTaken w os vs = (first_taken w os ≡ slice_get vs 0) × (second_taken w os ≡ slice_get vs 1)

none_taken : (w t : GameState) (vs : List ℕ) → operands_read w [] ≡ Ok (t, vs) → [] ≡ vs
unfolding operands_read
none_taken w t vs h =
    let same : ◌≡◌ {A = GameState × List ℕ} (w, []) (t, vs) = cc in
    ap (λ (q : GameState × List ℕ). q.1) same

first_is : (w m : GameState) (o : Operand) (x : ℕ) → operand_read w o ≡ Ok (m, x) → value_of (operand_read w o) ≡ Some x
first_is w m o x h = rw h refl

second_is : (w m n : GameState) (o p : Operand) (x y : ℕ) → operand_read w o ≡ Ok (m, x)
    → operand_read m p ≡ Ok (n, y) → taken_after w o p ≡ Some y
unfolding taken_after
second_is w m n o p x y h k = rw h (rw k refl)

pub values_taken : (w t : GameState) (os : List Operand) (vs : List ℕ) → operands_read w os ≡ Ok (t, vs)
    → AreTaken w os vs
values_taken w t [] vs h = subst (AreTaken w []) (none_taken w t vs h) (refl, refl)
values_taken w t (o ∷ []) vs h =
    let a = takes_first w t o [] vs h in
    let rest = none_taken a.mid t a.values a.others in
    let e : a.value ∷ [] ≡ vs = ap (λ (l : List ℕ). a.value ∷ l) rest ∙ sym a.are in
    subst (AreTaken w (o ∷ [])) e (first_is w a.mid o a.value a.first, refl)
values_taken w t (o ∷ p ∷ os) vs h =
    let a = takes_first w t o (p ∷ os) vs h in
    let b = takes_first a.mid t p os a.values a.others in
    let e : a.value ∷ b.value ∷ b.values ≡ vs = ap (λ (l : List ℕ). a.value ∷ l) (sym b.are) ∙ sym a.are in
    subst (AreTaken w (o ∷ p ∷ os)) e
    (first_is w a.mid o a.value a.first, second_is w a.mid b.mid o p a.value b.value a.first b.first)

pub ruleset of_value_after = (after_both, after_other, after_none)
