-- The newest states that fit, and states that are written one after another.
use Rattle.std.specs.List.{flat_map}
use Rattle.std.specs.Prelude.{reverse, slice_get, nat_le, if◌then◌else◌}
use Rattle.std.proofs.Common.{◌≡◌, ◌∙◌, ◌≤◌, ◌<◌, ℕ, zero, suc, Bool, true, false, ◌+◌, ◌-◌, List, [], ◌∷◌, ◌++◌}
use Rattle.std.proofs.Common.{length, take, drop, get_or, Some, refl, ap, sym, arith, add-one, append_assoc, drop-cons}
use Rattle.std.proofs.Common.{length-drop, ⊎_elim}
use Rattle.std.proofs.lemmas.Bool.Decides.{nat_tests}
use Rattle.std.proofs.lemmas.List.{append-nil, drop_all, take_all, take_more, get_or-reverse, length-reverse}
use Rattle.std.proofs.lemmas.List.{reverse-append, length-map, length-take-le, take-append-drop, flat_map_more, drop_at}
use Rattle.std.proofs.lemmas.Option.{slice_get_cases, get_or_from_slice_get, slice_get_past}
use Rattle.zk_save.specs.States.{WholeState, UndoStates, states_in, whole_state}
use Rattle.zk_vm.specs.Sessions.{Session}
use Rattle.zk_snapshot.specs.Snapshots.{kept_bytes, states_bytes, fitting}

pub many : (file : List ℕ) (u : UndoStates) → length (states_in file u) ≡ length u.states
unfolding states_in
many file u = length-map u.states (whole_state file)

-- as many as a machine has
pub as_many : (s : Session) (u : UndoStates) → s.state.undo ≡ states_in s.state.game.memory.file u
    → length s.state.undo ≡ length u.states
as_many s u e = ap (λ (l : List WholeState). length l) e ∙ many s.state.game.memory.file u

slice_get-drop : (k : ℕ) (ws : List WholeState) (i j : ℕ) → j ≡ k + i → slice_get (drop k ws) i ≡ slice_get ws j
slice_get-drop zero ws i j e = ap (slice_get ws) (omega (arith, e))
slice_get-drop (suc k) [] i j e = slice_get_past [] i (omega arith) ∙ sym (slice_get_past [] j (omega arith))
slice_get-drop (suc k) (w ∷ ws) i zero e = absurd (omega (arith, e))
slice_get-drop (suc k) (w ∷ ws) i (suc j) e = slice_get-drop k ws i j (omega (arith, e))

-- a state of a number
there : (ws : List WholeState) (n : ℕ) → n < length ws → (w : WholeState) × (slice_get ws n ≡ Some w)
there ws n lt = ⊎_elim (λ h. (h.0, h.2)) (λ h. absurd (omega (arith, h.0, lt))) (slice_get_cases ws n).1

-- counted from the oldest on, and from the newest on
same_place : (ws : List WholeState) (i n : ℕ) (w : WholeState) → i < length ws → n ≡ length ws - 1 - i
    → slice_get (reverse ws) n ≡ Some w → get_or ws i w ≡ w
same_place ws i n w lt e h =
    let back : length ws - 1 - n ≡ i = omega (arith, e, lt) in
    ap (λ (k : ℕ). get_or ws k w) (sym back) ∙ sym (get_or-reverse ws n w (omega (arith, e, lt)))
    ∙ get_or_from_slice_get (reverse ws) n w w h

cut : (ws : List WholeState) (i n : ℕ) (w : WholeState) → i < length ws → n ≡ length ws - 1 - i
    → slice_get (reverse ws) n ≡ Some w → drop i ws ≡ w ∷ drop (i + 1) ws
cut ws i n w lt e h = drop-cons ws i w lt ∙ ap (λ (x : WholeState). x ∷ drop (suc i) ws)
    (same_place ws i n w lt e h) ∙ ap (λ (k : ℕ). w ∷ drop k ws) (sym (add-one i))

-- ---- what fits

fits : (file : List ℕ) (left : ℕ) (w : WholeState) (ws : List WholeState) → length (kept_bytes file w) ≤ left
    → fitting file left (w ∷ ws) ≡ w ∷ fitting file (left - length (kept_bytes file w)) ws
unfolding fitting
fits file left w ws h = by (nat_le (length (kept_bytes file w)) left) refl
  where
    by : (p : Bool) → nat_le (length (kept_bytes file w)) left ≡ p
        → (if p then w ∷ fitting file (left - length (kept_bytes file w)) ws else []) ≡ w
        ∷ fitting file (left - length (kept_bytes file w)) ws
    by true e = refl
    by false e = absurd (grind (arith, nat_tests, e, h))

fits_not : (file : List ℕ) (left : ℕ) (w : WholeState) (ws : List WholeState) → left < length (kept_bytes file w)
    → fitting file left (w ∷ ws) ≡ []
unfolding fitting
fits_not file left w ws h = by (nat_le (length (kept_bytes file w)) left) refl
  where
    by : (p : Bool) → nat_le (length (kept_bytes file w)) left ≡ p
        → (if p then w ∷ fitting file (left - length (kept_bytes file w)) ws else []) ≡ []
    by true e = absurd (grind (arith, nat_tests, e, h))
    by false e = refl

pub fit_more : (file : List ℕ) (ws whole : List WholeState) (i n left size : ℕ) → i < length ws
    → n ≡ length ws - 1 - i → ((w : WholeState) → slice_get (reverse ws) n ≡ Some w
    → size ≡ length (kept_bytes file w)) → size ≤ left → take i ws ++ fitting file left (drop i ws) ≡ whole
    → take (i + 1) ws ++ fitting file (left - size) (drop (i + 1) ws) ≡ whole
fit_more file ws whole i n left size lt e sized le h =
    let w = there (reverse ws) n (omega (arith, e, lt, length-reverse ws)) in
    let is : size ≡ length (kept_bytes file w.0) = sized w.0 w.1 in
    let fit : fitting file left (drop i ws) ≡ w.0 ∷ fitting file (left - size) (drop (i + 1) ws) =
    ap (fitting file left) (cut ws i n w.0 lt e w.1) ∙ fits file left w.0 (drop (i + 1) ws)
    (omega (arith, is, le)) ∙ ap (λ (k : ℕ). w.0 ∷ fitting file (left - k) (drop (i + 1) ws)) (sym is) in
    let first : take (i + 1) ws ≡ take i ws ++ w.0 ∷ [] = take_more ws i w.0 lt
    ∙ ap (λ (x : WholeState). take i ws ++ x ∷ []) (same_place ws i n w.0 lt e w.1) in
    let tail : List WholeState = fitting file (left - size) (drop (i + 1) ws) in
    ap (λ (l : List WholeState). l ++ tail) first ∙ append_assoc (take i ws) (w.0 ∷ []) tail
    ∙ ap (λ (l : List WholeState). take i ws ++ l) (sym fit) ∙ h

pub fit_stop : (file : List ℕ) (ws whole : List WholeState) (i n left size : ℕ) → i < length ws
    → n ≡ length ws - 1 - i → ((w : WholeState) → slice_get (reverse ws) n ≡ Some w
    → size ≡ length (kept_bytes file w)) → left < size → take i ws ++ fitting file left (drop i ws) ≡ whole
    → take i ws ≡ whole
fit_stop file ws whole i n left size lt e sized le h =
    let w = there (reverse ws) n (omega (arith, e, lt, length-reverse ws)) in
    let none : fitting file left (drop i ws) ≡ [] = ap (fitting file left) (cut ws i n w.0 lt e w.1)
    ∙ fits_not file left w.0 (drop (i + 1) ws) (omega (arith, sized w.0 w.1, le)) in
    sym (append-nil (take i ws)) ∙ ap (λ (l : List WholeState). take i ws ++ l) (sym none) ∙ h

pub fit_end : (file : List ℕ) (ws whole : List WholeState) (i left : ℕ) → length ws ≤ i
    → take i ws ++ fitting file left (drop i ws) ≡ whole → take i ws ≡ whole
unfolding fitting
fit_end file ws whole i left le h =
    sym (append-nil (take i ws)) ∙ ap (λ (l : List WholeState). take i ws ++ l)
    (sym (ap (fitting file left) (drop_all i ws le))) ∙ h

-- ---- states that are written

-- the newest states, the oldest of them first, are the last of all
turned : (ws : List WholeState) (n : ℕ) → n ≤ length ws → reverse (take n ws) ≡ drop (length ws - n) (reverse ws)
turned ws n le =
    let halves : reverse ws ≡ reverse (drop n ws) ++ reverse (take n ws) = ap (λ (l : List WholeState). reverse l)
    (sym (take-append-drop n ws)) ∙ reverse-append (take n ws) (drop n ws) in
    sym (ap (drop (length ws - n)) halves ∙ drop_at (reverse (drop n ws)) (reverse (take n ws)) (length ws - n)
    (length-reverse (drop n ws) ∙ length-drop n ws))

pub states_more : (file : List ℕ) (ws : List WholeState) (out out' : List ℕ) (n k : ℕ) → n ≤ length ws → k < n
    → ((w : WholeState) → slice_get (reverse ws) (length ws - n + k) ≡ Some w → out' ≡ out ++ kept_bytes file w)
    → (old : List ℕ) → out ≡ old ++ flat_map (kept_bytes file) (take k (reverse (take n ws)))
    → out' ≡ old ++ flat_map (kept_bytes file) (take (k + 1) (reverse (take n ws)))
states_more file ws out out' n k le lt put old h =
    let xs : List WholeState = reverse (take n ws) in
    let long : length xs ≡ n = length-reverse (take n ws) ∙ length-take-le n ws le in
    let w = there xs k (omega (arith, long, lt)) in
    let is = slice_get-drop (length ws - n) (reverse ws) k (length ws - n + k) refl in
    let here : slice_get (reverse ws) (length ws - n + k) ≡ Some w.0 = sym is
    ∙ ap (λ (l : List WholeState). slice_get l k) (sym (turned ws n le)) ∙ w.1 in
    let one : get_or xs k w.0 ≡ w.0 = get_or_from_slice_get xs k w.0 w.0 w.1 in
    let more : take (k + 1) xs ≡ take k xs ++ w.0 ∷ [] = take_more xs k w.0 (omega (arith, long, lt))
    ∙ ap (λ (x : WholeState). take k xs ++ x ∷ []) one in
    put w.0 here ∙ ap (λ (l : List ℕ). l ++ kept_bytes file w.0) h ∙ flat_map_more (kept_bytes file) old
    (take k xs) w.0 ∙ ap (λ (l : List WholeState). old ++ flat_map (kept_bytes file) l) (sym more)

pub states_start : (file : List ℕ) (out : List ℕ) (ws : List WholeState)
    → out ≡ out ++ flat_map (kept_bytes file) (take 0 ws)
states_start file out ws = sym (append-nil out)

pub states_end : (file : List ℕ) (ws : List WholeState) (out old : List ℕ) (n k : ℕ) → n ≤ length ws → n ≤ k
    → out ≡ (old ++ n ∷ []) ++ flat_map (kept_bytes file) (take k (reverse (take n ws)))
    → out ≡ old ++ states_bytes file (take n ws)
unfolding states_bytes
states_end file ws out old n k le past h =
    let xs : List WholeState = reverse (take n ws) in
    let size : length (take n ws) ≡ n = length-take-le n ws le in
    let long : length xs ≤ k = omega (arith, length-reverse (take n ws), size, past) in
    h ∙ ap (λ (l : List WholeState). (old ++ n ∷ []) ++ flat_map (kept_bytes file) l) (take_all k xs long)
    ∙ append_assoc old (n ∷ []) (flat_map (kept_bytes file) xs)
    ∙ ap (λ (m : ℕ). old ++ (m ∷ flat_map (kept_bytes file) xs)) (sym size)
