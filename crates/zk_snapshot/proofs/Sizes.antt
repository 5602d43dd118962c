-- How many bytes the parts of a snapshot take.
use Rattle.std.specs.List.{flat_map}
use Rattle.std.specs.Prelude.{reverse}
use Rattle.std.proofs.Common.{◌≡◌, ◌∙◌, ◌+◌, ◌*◌, ℕ, List, [], ◌∷◌, ◌++◌, length, refl, ap, arith, length-append}
use Rattle.std.proofs.lemmas.Grind.{flat_map-append}
use Rattle.std.proofs.lemmas.List.{reverse-append}
use Rattle.zk_save.specs.States.{WholeState, packed_of}
use Rattle.zk_state.specs.Frames.{Frame, FrameList, frames_of, size_of, sizes_of, total_of}
use Rattle.zk_snapshot.specs.Snapshots.{frame_bytes, frames_bytes, kept_bytes}
use Rattle.zk_snapshot.proofs.Codes.{store_size, words_size}

-- ---- frames

frame_long : (f : Frame) → length (frame_bytes f) ≡ 10 + 2 * size_of f
unfolding frame_bytes
frame_long f = simp (length-append, store_size, words_size) (omega arith)

frames_flat : (fs : List Frame) → length (flat_map frame_bytes fs) ≡ 10 * length fs + 2 * sizes_of fs
unfolding sizes_of
frames_flat [] = refl
frames_flat (f ∷ fs) =
    omega (arith, length-append (frame_bytes f) (flat_map frame_bytes fs), frame_long f, frames_flat fs)

-- the order does not count
pub flat_reversed : {X : Type 0} (f : X → List ℕ) (xs : List X) → length (flat_map f (reverse xs)) ≡ length
    (flat_map f xs)
flat_reversed {X} f [] = refl
flat_reversed {X} f (x ∷ xs) =
    let cut : reverse (x ∷ xs) ≡ reverse xs ++ x ∷ [] = reverse-append (x ∷ []) xs in
    let parts = ap (λ (l : List X). length (flat_map f l)) cut ∙ ap (λ (l : List ℕ). length l)
    (flat_map-append f (reverse xs) (x ∷ [])) in
    omega (
      arith,
      parts,
      length-append (flat_map f (reverse xs)) (f x ++ []),
      length-append (f x) [],
      length-append (f x) (flat_map f xs),
      flat_reversed f xs,
    )

pub frames_size : (fs : List Frame) → length (frames_bytes fs) ≡ 2 + 10 * length fs + 2 * sizes_of fs
unfolding frames_bytes
frames_size fs = omega (arith, flat_reversed frame_bytes fs, frames_flat fs)

pub frames_long : (s : FrameList) → length (frames_bytes (frames_of s)) ≡ 2 + 10 * (length s.callers + 1) + 2
    * total_of s
frames_long s = omega (arith, frames_size (frames_of s))

-- ---- states

pub kept_long : (file : List ℕ) (w : WholeState) → length (kept_bytes file w) ≡ 8 + length
    (packed_of file w) + length (frames_bytes w.frames)
unfolding kept_bytes
kept_long file w = simp length-append (omega arith)
