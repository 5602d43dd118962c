-- The first frame stays the oldest, and frames that are copied.
use Rattle.std.specs.Prelude.{reverse}
use Rattle.std.proofs.Common.{◌≡◌, ℕ, ◌+◌, ◌≤◌, List, [], ◌∷◌, ◌++◌, length, take, refl, arith}
use Rattle.std.proofs.lemmas.List.{reverse-append}
use Rattle.zk_state.specs.declared.records.FrameRecord.{FrameRecord}
use Rattle.zk_state.specs.Frames.{Frame, first_frame, oldest_of, sizes_of, BeginsFirst}
use Rattle.zk_state.specs.Flat.{frame_of, frames_in, list_of, Chain, oldest_record}
use Rattle.zk_state.specs.Records.{first_record}
use Rattle.zk_state.proofs.Calls.{depth_is, total_is}

pub first_push : (callers : List FrameRecord) (new current : FrameRecord)
    → oldest_record current (reverse callers) ≡ first_record → oldest_record new (reverse (callers ++ current ∷ []))
    ≡ first_record
first_push callers new current h = rw (reverse-append callers (current ∷ [])) h

pub first_pop : (callers : List FrameRecord) (current caller : FrameRecord)
    → oldest_record current (reverse (callers ++ caller ∷ [])) ≡ first_record
    → oldest_record caller (reverse callers) ≡ first_record
first_pop callers current caller h = rw (reverse-append callers (caller ∷ [])) at h

pub first_alone : (callers : List FrameRecord) → callers ≡ []
    → oldest_record first_record (reverse callers) ≡ first_record
first_alone callers e = rw e refl

oldest_frame : (r : FrameRecord) (rs : List FrameRecord) (xs : List ℕ) → oldest_record r rs ≡ first_record
    → oldest_of (frame_of r xs) (frames_in rs (take r.base xs)) ≡ record first_frame
    { words = (oldest_of (frame_of r xs) (frames_in rs (take r.base xs))).words }
unfolding frames_in
oldest_frame r [] xs e = rw e refl
oldest_frame r (q ∷ qs) xs e = oldest_frame q qs (take r.base xs) e

pub begins_first : (r : FrameRecord) (callers : List FrameRecord) (xs : List ℕ) (f m : ℕ)
    → oldest_record r (reverse callers) ≡ first_record → BeginsFirst (list_of r callers xs f m)
begins_first r callers xs f m e = oldest_frame r (reverse callers) xs e

module _ (current : FrameRecord) (callers : List FrameRecord) (xs : List ℕ) where
  -- the frames of records and words
  abbrev pub frames : List Frame
  frames = frame_of current xs ∷ frames_in (reverse callers) (take current.base xs)

  pub copy_length : length frames ≡ length callers + 1
  copy_length = omega (arith, depth_is callers (take current.base xs))

  pub copy_size : current.base ≤ current.stack_base → current.stack_base ≤ length xs
      → Chain (reverse callers) current.base → sizes_of frames ≡ length xs
  copy_size base stack_base below = total_is current callers xs 0 0 (length xs) refl base stack_base below
