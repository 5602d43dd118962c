-- Rows and frames that are written one after another.
use Rattle.std.specs.Prelude.{slice_get}
use Rattle.std.specs.List.{flat_map}
use Rattle.std.proofs.Common.{◌≡◌, ◌∙◌, ℕ, suc, ◌+◌, ◌≤◌, List, [], ◌∷◌, ◌++◌, length, take, get_or, Some, ap, sym}
use Rattle.std.proofs.Common.{add-one, append_assoc}
use Rattle.std.proofs.lemmas.List.{append-nil, take_all, take_more, flat_map_more}
use Rattle.std.proofs.lemmas.Option.{slice_get_within, get_or_from_slice_get}
use Rattle.zk_state.specs.Frames.{Frame}
use Rattle.zk_term.specs.Windows.{Windows, row_cells}
use Rattle.zk_snapshot.specs.Snapshots.{row_bytes, rows_bytes, frame_bytes}

pub rows_start : (out : List ℕ) (w : Windows) → out ++ rows_bytes 0 w ≡ out
unfolding rows_bytes
rows_start out w = append-nil out

pub rows_more : (out : List ℕ) (w : Windows) (n : ℕ) → out ++ rows_bytes n w
    ++ row_bytes (row_cells w (n + 1)) ≡ out ++ rows_bytes (n + 1) w
unfolding rows_bytes
rows_more out w n = rw (add-one n) (append_assoc out (rows_bytes n w) (row_bytes (row_cells w (suc n))))

pub frames_start : (out : List ℕ) (up : List Frame) → out ++ flat_map frame_bytes (take 0 up) ≡ out
frames_start out up = append-nil out

pub frames_more : (out : List ℕ) (up : List Frame) (i : ℕ) (f : Frame) → slice_get up i ≡ Some f
    → out ++ flat_map frame_bytes (take i up) ++ frame_bytes f ≡ out ++ flat_map frame_bytes (take (i + 1) up)
frames_more out up i f h =
    let here : get_or up i f ≡ f = get_or_from_slice_get up i f f h in
    let more : take (i + 1) up ≡ take i up ++ f ∷ [] = take_more up i f (slice_get_within up i f h)
    ∙ ap (λ (x : Frame). take i up ++ x ∷ []) here in
    flat_map_more frame_bytes out (take i up) f ∙ ap (λ (l : List Frame). out ++ flat_map frame_bytes l) (sym more)

pub frames_end : (up : List Frame) (i : ℕ) → length up ≤ i → flat_map frame_bytes (take i up) ≡ flat_map frame_bytes up
frames_end up i h = ap (flat_map frame_bytes) (take_all i up h)

pub ruleset of_put_all_frames = (frames_start, frames_more, frames_end)
