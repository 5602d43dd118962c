-- The values of operands, taken one after another.
use Rattle.std.proofs.Common.{◌≡◌, ℕ, ◌+◌, ◌<◌, ◌≤◌, List, [], ◌∷◌, ◌++◌, length, drop, Ok, Err, Bool, true, false, ap}
use Rattle.std.proofs.Common.{sym, ◌∙◌, get_or, drop-cons, refl, append_assoc, add-one, append-nil}
use Rattle.std.specs.Prelude.{Result, ◌==◌, if◌then◌else◌}
use Rattle.std.proofs.lemmas.List.{drop_all}
use Rattle.zk_mem.specs.declared.fault.Fault.{Fault}
use Rattle.zk_code.specs.declared.operands.Operand.{Operand}
use Rattle.zk_code.specs.declared.operands.Operand.TheVariants.{Large, Small, Variable}
use Rattle.zk_step.specs.declared.state.game_state.GameState.{GameState}
use Rattle.zk_mem.specs.Results.{◌>>=◌}
use Rattle.zk_state.specs.Frames.{FrameList, popped}
use Rattle.zk_step.specs.Variables.{operand_read, operands_read, values_before, variable_read, named_read, with_frames}

values_before-values_before : (xs ys : List ℕ) (r : Result (GameState × List ℕ) Fault)
    → values_before xs (values_before ys r) ≡ values_before (xs ++ ys) r
values_before-values_before xs ys (Ok r) = simp append_assoc
values_before-values_before xs ys (Err e) = refl

step_at : (front : List ℕ) (w : GameState) (o : Operand) (os : List Operand) (w' : GameState) (x : ℕ)
    → operand_read w o ≡ Ok (w', x)
    → values_before front (operands_read w (o ∷ os)) ≡ values_before (front ++ x ∷ []) (operands_read w' os)
unfolding operands_read
step_at front w o os w' x h = rw h (values_before-values_before front (x ∷ []) (operands_read w' os))

pub value_step : (front : List ℕ) (w : GameState) (os : List Operand) (i : ℕ) (w' : GameState) (x : ℕ)
    → i < length os → operand_read w (get_or os i (Large 0)) ≡ Ok (w', x)
    → values_before front (operands_read w (drop i os)) ≡ values_before (front ++ x ∷ [])
    (operands_read w' (drop (i + 1) os))
value_step front w os i w' x lt h =
    rw (drop-cons os i (Large 0), ← add-one) (step_at front w (get_or os i (Large 0)) (drop (i + 1) os) w' x h)

pub value_fault : (front : List ℕ) (w : GameState) (os : List Operand) (i : ℕ) (e : Fault) → i < length os
    → operand_read w (get_or os i (Large 0)) ≡ Err e
    → values_before front (operands_read w (drop i os)) ≡ Err e
unfolding operands_read
value_fault front w os i e lt h = rw (drop-cons os i (Large 0), h) refl

pub value_end : (front : List ℕ) (w : GameState) (os : List Operand) (i : ℕ) → length os ≤ i
    → values_before front (operands_read w (drop i os)) ≡ Ok (w, front)
unfolding operands_read
value_end front w os i h = rw (drop_all i os h) (simp append-nil)

-- operands leave memory as it is
abbrev pair : GameState → ℕ → GameState × ℕ
pair w x = (w, x)

popped_memory : (w w' : GameState) (x : ℕ) (r : Result (FrameList × ℕ) Fault)
    → (r >>= λ p. Ok (pair (with_frames w p.0) p.1)) ≡ Ok (w', x) → w'.memory ≡ w.memory
popped_memory w w' x (Ok p) h =
    let same : ◌≡◌ {A = GameState × ℕ} (with_frames w p.0, p.1) (w', x) = cc in
    ap (λ (q : GameState × ℕ). q.0.memory) (sym same)
popped_memory w w' x (Err e) h = absurd cc

named_memory : (w w' : GameState) (x : ℕ) (r : Result ℕ Fault) → (r >>= λ y. Ok (pair w y)) ≡ Ok (w', x)
    → w'.memory ≡ w.memory
named_memory w w' x (Ok y) h =
    let same : ◌≡◌ {A = GameState × ℕ} (w, y) (w', x) = cc in
    ap (λ (q : GameState × ℕ). q.0.memory) (sym same)
named_memory w w' x (Err e) h = absurd cc

variable_memory : (w w' : GameState) (v x : ℕ) (b : Bool)
    → (if b then (popped w.frames >>= λ p. Ok (pair (with_frames w p.0) p.1))
    else (named_read w v >>= λ y. Ok (pair w y))) ≡ Ok (w', x) → w'.memory ≡ w.memory
variable_memory w w' v x true h = popped_memory w w' x (popped w.frames) h
variable_memory w w' v x false h = named_memory w w' x (named_read w v) h

operand_memory : (w w' : GameState) (o : Operand) (x : ℕ) → operand_read w o ≡ Ok (w', x) → w'.memory ≡ w.memory
unfolding operand_read variable_read
operand_memory w w' (Large y) x h = named_memory w w' x (Ok y) h
operand_memory w w' (Small y) x h = named_memory w w' x (Ok y) h
operand_memory w w' (Variable v) x h = variable_memory w w' v x (v == 0) h

after_rest : (os : List Operand) (w1 w' : GameState) (x : ℕ) (vs : List ℕ)
    → ((p : GameState × List ℕ) → operands_read w1 os ≡ Ok p → p.0.memory ≡ w1.memory)
    → (r : Result (GameState × List ℕ) Fault) → operands_read w1 os ≡ r → values_before (x ∷ []) r ≡ Ok (w', vs)
    → w'.memory ≡ w1.memory
after_rest os w1 w' x vs more (Ok p) e k =
    let same : ◌≡◌ {A = GameState × List ℕ} (p.0, x ∷ p.1) (w', vs) = cc in
    ap (λ (q : GameState × List ℕ). q.0.memory) (sym same) ∙ more p e
after_rest os w1 w' x vs more (Err f) e k = absurd cc

after_first : (r : Result (GameState × ℕ) Fault) → {q : Result (GameState × ℕ) Fault} → q ≡ r
    → (os : List Operand) (w w' : GameState) (o : Operand) (vs : List ℕ)
    → ((w1 : GameState) (p : GameState × List ℕ) → operands_read w1 os ≡ Ok p → p.0.memory ≡ w1.memory)
    → (q ≡ operand_read w o) → (r >>= λ p. values_before (p.1 ∷ []) (operands_read p.0 os)) ≡ Ok (w', vs)
    → w'.memory ≡ w.memory
after_first (Ok p) e os w w' o vs more d k =
    after_rest os p.0 w' p.1 vs (more p.0) (operands_read p.0 os) refl k ∙ operand_memory w p.0 o p.1 (sym d ∙ e)
after_first (Err f) e os w w' o vs more d k = absurd cc

pub operands_memory : (os : List Operand) (w w' : GameState) (vs : List ℕ) → operands_read w os ≡ Ok (w', vs)
    → w'.memory ≡ w.memory
unfolding operands_read
operands_memory [] w w' vs h =
    let same : ◌≡◌ {A = GameState × List ℕ} (w, []) (w', vs) = cc in
    ap (λ (q : GameState × List ℕ). q.0.memory) (sym same)
operands_memory (o ∷ os) w w' vs h =
    after_first (operand_read w o) refl os w w' o vs (λ w1 p e. operands_memory os w1 p.0 p.1 e) refl h
