-- What is told of frames, states and marks.
use Rattle.std.proofs.Common.{◌≡◌, ◌∙◌, ◌<◌, ◌+◌, ◌++◌, ◌∷◌, [], ℕ, suc, List, None, length}
use Rattle.std.proofs.Common.{ap, arith, drop, drop-cons, get_or, sym, take}
use Rattle.std.specs.Prelude.{reverse, slice_set}
use Rattle.std.proofs.Math.Seq.{set-append_seam, take-suc}
use Rattle.std.proofs.lemmas.List.{append_assoc, length-map, length-reverse, length-take-le}
use Rattle.std.proofs.lemmas.Option.{slice_get_past}
use Rattle.zk_save.specs.States.{UndoStates, states_in, whole_state}
use Rattle.zk_state.specs.Frames.{frames_of}
use Rattle.zk_vm.specs.Sessions.{Session}
use Rattle.zk_host.specs.Looking.{frame_numbered}

-- past the newest there is no frame
pub no_frame : (s : Session) (n : ℕ) → length s.state.game.frames.callers < n → frame_numbered s n ≡ None
no_frame s n past =
    let all = frames_of s.state.game.frames in
    let long : length (reverse all) ≡ length all = length-reverse all in
    slice_get_past (reverse all) n (omega (arith, long, past))

-- as many whole states as states are kept
pub as_many : (file : List ℕ) (u : UndoStates) → length (states_in file u) ≡ length u.states
unfolding states_in
as_many file u = length-map u.states (whole_state file)

-- one more item stands in front of the rest of a buffer
pub one_put : (xs buffer : List ℕ) (k a : ℕ) → k < length xs → k < length buffer → get_or xs k a ≡ a
    → slice_set (take k xs ++ drop k buffer) k a ≡ take (k + 1) xs ++ drop (k + 1) buffer
one_put xs buffer k a inside room same =
    let front : length (take k xs) ≡ k = length-take-le k xs (omega (arith, inside)) in
    let rest : drop k buffer ≡ get_or buffer k a ∷ drop (suc k) buffer = drop-cons buffer k a room in
    let put = set-append_seam (take k xs) (get_or buffer k a) (drop (suc k) buffer) a in
    let more : take (suc k) xs ≡ take k xs ++ a ∷ [] = take-suc xs k a inside
    ∙ ap (λ (y : ℕ). take k xs ++ y ∷ []) same in
    let next : k + 1 ≡ suc k = omega arith in
    ap (λ (l : List ℕ). slice_set (take k xs ++ l) k a) rest
    ∙ ap (λ (n : ℕ). slice_set (take k xs ++ get_or buffer k a ∷ drop (suc k) buffer) n a) (sym front) ∙ put
    ∙ sym (append_assoc (take k xs) (a ∷ []) (drop (suc k) buffer))
    ∙ ap (λ (l : List ℕ). l ++ drop (suc k) buffer) (sym more)
    ∙ ap (λ (n : ℕ). take n xs ++ drop n buffer) (sym next)
