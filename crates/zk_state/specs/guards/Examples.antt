-- Worked examples of this crate's definitions. Their values come from the Standard by hand, and no definition made
-- them.
use Rattle.std.specs.Prelude.{◌≡◌, ℕ, List, [], ◌∷◌, Option, Some, None, Ok, Err, replicate}
use Rattle.zk_mem.specs.declared.fault.Fault.TheVariants.{StackEmpty, NoSuchLocal, BadFrame, ReturnFromMain}
use Rattle.zk_state.specs.declared.refusal.Limit.TheVariants.{Frames, Words, Steps, Reads}
use Rattle.zk_state.specs.declared.refusal.Refusal.TheVariants.{Limit}
use Rattle.zk_state.specs.Frames.{Frame, FrameList, first_frames, total_of, within_bounds, pushed, popped, top_of}
use Rattle.zk_state.specs.Frames.{with_top, local_of, with_local, called, left, unwound, taken, given_back}
use Rattle.zk_state.specs.Limits.{limit_number}

-- a frame with these local variables and words, that returns to an address and gives its result to a variable
abbrev pub frame : List ℕ → List ℕ → ℕ → Option ℕ → Frame
frame locals words pc result = record { locals = locals; words = words; pc = pc; result = result; supplied = 1 }

-- these frames, of which there may be three with nine words together
abbrev pub frames_with : Frame → List Frame → FrameList
frames_with current callers = record { current = current; callers = callers; most_frames = 3; most_words = 9 }

-- one frame with these local variables and words
abbrev pub alone : List ℕ → List ℕ → FrameList
alone locals words = frames_with (frame locals words 70 (Some 2)) []

-- ---- the evaluation stack (section 6.3)

-- the newest word is the last: it is pushed after the others, and pulled first (section 6.3)
abbrev pub LastInFirstOut : Type 0
LastInFirstOut =
    (pushed (alone [] (44 ∷ 55 ∷ [])) 9 ≡ Ok (alone [] (44 ∷ 55 ∷ 9 ∷ [])))
    × (popped (alone [] (44 ∷ 55 ∷ 9 ∷ [])) ≡ Ok (alone [] (44 ∷ 55 ∷ []), 9))

-- in place it is read and written without a push or a pull (section 6.3.4)
abbrev pub NewestInPlace : Type 0
NewestInPlace =
    (top_of (alone [] (44 ∷ 55 ∷ [])) ≡ Ok 55) × (with_top (alone [] (44 ∷ 55 ∷ [])) 9 ≡ Ok (alone [] (44 ∷ 9 ∷ [])))

-- a routine can't pull what it did not push: neither its local variables nor its caller's words (section 6.3.1)
abbrev pub OwnWordsAlone : Type 0
OwnWordsAlone =
    (popped (frames_with (frame (1 ∷ []) [] 70 None) (frame [] (44 ∷ []) 80 None ∷ [])) ≡ Err StackEmpty)
    × (top_of (alone (1 ∷ []) []) ≡ Err StackEmpty)
    × (with_top (alone (1 ∷ []) []) 9 ≡ Err StackEmpty)

-- ---- local variables (section 4.2.2)

-- they are counted from 1 (section 4.2.2)
abbrev pub LocalsFromOne : Type 0
LocalsFromOne =
    (local_of (alone (11 ∷ 22 ∷ []) []) 1 ≡ Ok 11)
    × (local_of (alone (11 ∷ 22 ∷ []) (44 ∷ [])) 2 ≡ Ok 22)
    × (local_of (alone (11 ∷ 22 ∷ []) (44 ∷ [])) 3 ≡ Err NoSuchLocal)
    × (local_of (alone (11 ∷ 22 ∷ []) []) 0 ≡ Err NoSuchLocal)
    × (with_local (alone (11 ∷ 22 ∷ []) []) 1 9 ≡ Ok (alone (9 ∷ 22 ∷ []) []))
    × (with_local (alone (11 ∷ 22 ∷ []) []) 3 9 ≡ Err NoSuchLocal)

-- ---- calls and returns (sections 6.3 and 6.4)

-- a call puts a frame with an empty stack before its caller, and leaves the caller's as it is (sections 6.3.1 and
-- 6.4)
abbrev pub CallsPutAFrame : Type 0
CallsPutAFrame =
    called (alone (11 ∷ []) (44 ∷ [])) (5 ∷ 6 ∷ []) 80 (Some 0) 1
    ≡ Ok (frames_with (frame (5 ∷ 6 ∷ []) [] 80 (Some 0)) (frame (11 ∷ []) (44 ∷ []) 70 (Some 2) ∷ []))

-- a return drops the frame with its words, and tells its own return address and variable; the first frame has none
-- (sections
-- 5.5 and 6.3.2)
abbrev pub ReturnsDropAFrame : Type 0
ReturnsDropAFrame =
    (left (frames_with (frame (5 ∷ []) (6 ∷ []) 80 (Some 0)) (frame (11 ∷ []) (44 ∷ []) 70 (Some 2) ∷ []))
    ≡ Ok (alone (11 ∷ []) (44 ∷ []), record { pc = 80; result = Some 0 }))
    × (left (alone [] []) ≡ Err ReturnFromMain)

-- of three frames the newest has number 2, and the first number 0 (section 15, `throw`)
abbrev pub FramesCountFromZero : Type 0
FramesCountFromZero =
    (unwound (frames_with (frame [] [] 90 None) (frame [] [] 80 None ∷ frame [] [] 70 (Some 2) ∷ [])) 2
    ≡ Ok (frames_with (frame [] [] 90 None) (frame [] [] 80 None ∷ frame [] [] 70 (Some 2) ∷ [])))
    × (unwound (frames_with (frame [] [] 90 None) (frame [] [] 80 None ∷ frame [] [] 70 (Some 2) ∷ [])) 1
    ≡ Ok (frames_with (frame [] [] 80 None) (frame [] [] 70 (Some 2) ∷ [])))
    × (unwound (frames_with (frame [] [] 90 None) (frame [] [] 80 None ∷ frame [] [] 70 (Some 2) ∷ [])) 0 ≡ Ok
    (alone [] []))
    × (unwound (alone [] []) 1 ≡ Err BadFrame)

-- a value for variable 0 is pushed, for 1 to 15 goes into a local variable, and for a global one into none of these
-- (sections 4.6 and 6.3)
abbrev pub ValuesAreTaken : Type 0
ValuesAreTaken =
    (taken (alone (11 ∷ []) (44 ∷ [])) (Some 0) 9 ≡ Ok (alone (11 ∷ []) (44 ∷ 9 ∷ [])))
    × (taken (alone (11 ∷ []) (44 ∷ [])) (Some 1) 9 ≡ Ok (alone (9 ∷ []) (44 ∷ [])))
    × (taken (alone (11 ∷ []) (44 ∷ [])) (Some 15) 9 ≡ Err NoSuchLocal)
    × (taken (alone (11 ∷ []) (44 ∷ [])) (Some 16) 9 ≡ Ok (alone (11 ∷ []) (44 ∷ [])))
    × (taken (alone (11 ∷ []) (44 ∷ [])) None 9 ≡ Ok (alone (11 ∷ []) (44 ∷ [])))

-- the caller takes the value by the variable of the frame that is left (section 6.4.5)
abbrev pub ValuesAreGivenBack : Type 0
ValuesAreGivenBack =
    given_back (frames_with (frame (5 ∷ []) (6 ∷ []) 80 (Some 1)) (frame (11 ∷ []) (44 ∷ []) 70 (Some 2) ∷ [])) 9
    ≡ Ok (alone (9 ∷ []) (44 ∷ []), record { pc = 80; result = Some 1 })

-- ---- bounds: three frames and nine words here

-- local variables count as words: of nine words a tenth is refused, and so is a fourth frame; frames go before words
-- (section 6.3)
abbrev pub BoundsRefuse : Type 0
BoundsRefuse =
    (pushed (alone (replicate 3 0) (replicate 5 0)) 7 ≡ Ok (alone (replicate 3 0) (0 ∷ 0 ∷ 0 ∷ 0 ∷ 0 ∷ 7 ∷ [])))
    × (pushed (alone (replicate 3 0) (replicate 6 0)) 7 ≡ Err (Limit Words))
    × (called (alone (replicate 3 0) (replicate 4 0)) (replicate 2 0) 80 None 1
    ≡ Ok (frames_with (frame (replicate 2 0) [] 80 None) (frame (replicate 3 0) (replicate 4 0) 70 (Some 2) ∷ [])))
    × (called (alone (replicate 3 0) (replicate 4 0)) (replicate 3 0) 80 None 1 ≡ Err (Limit Words))
    × (called (frames_with (frame [] [] 90 None) (frame [] [] 80 None ∷ frame [] [] 70 None ∷ [])) [] 95 None
    1 ≡ Err (Limit Frames))
    × (called (frames_with (frame [] [] 90 None) (frame [] [] 80 None ∷ frame [] [] 70 None ∷ []))
    (replicate 10 0) 95 None 1 ≡ Err (Limit Frames))

-- a story begins in one frame without words (section 5.5)
abbrev pub BeginsInOneFrame : Type 0
BeginsInOneFrame = (within_bounds (first_frames 1 0) ≡ Ok (first_frames 1 0)) × (total_of (first_frames 1 0) ≡ 0)
    × (popped (first_frames 1 0) ≡ Err StackEmpty)

-- the numbers of limits that reports have
abbrev pub LimitsHaveNumbers : Type 0
LimitsHaveNumbers =
    (limit_number Frames ≡ 1) × (limit_number Words ≡ 2) × (limit_number Steps ≡ 3) × (limit_number Reads ≡ 4)
