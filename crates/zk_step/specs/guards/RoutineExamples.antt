-- Worked examples of routines and of the way on, by hand from the Standard.
use Rattle.std.specs.Prelude.{◌≡◌, ℕ, List, [], ◌∷◌, Some, None, Ok, Err, true, false, replicate}
use Rattle.zk_mem.specs.declared.fault.Fault.TheVariants.{NoSuchLocal, BadTarget, ReturnFromMain, BadFrame}
use Rattle.zk_code.specs.declared.branch.BranchTarget.TheVariants as target
use Rattle.zk_code.specs.declared.opcode.Opcode.TheVariants as opcode
use Rattle.zk_code.specs.declared.opcode.Call.TheVariants.{CallVs, Call1s, Call2s, CallVs2, CallVn, Call1n, Call2n}
use Rattle.zk_code.specs.declared.opcode.Call.TheVariants.{CallVn2}
use Rattle.zk_code.specs.declared.opcode.Control.TheVariants.{Jump, Quit}
use Rattle.zk_code.specs.declared.opcode.Routine.TheVariants.{Rtrue, Rfalse, Ret, RetPopped, Catch, Throw}
use Rattle.zk_code.specs.declared.opcode.Routine.TheVariants.{CheckArgCount}
use Rattle.zk_step.specs.declared.state.ending.Ending.TheVariants as ending
use Rattle.zk_step.specs.declared.state.ending.Next.TheVariants.{Asks, At}
use Rattle.zk_step.specs.declared.state.ending.Request.TheVariants as request
use Rattle.zk_step.specs.declared.state.finish.Continuation.TheVariants.{To, Back, Out}
use Rattle.zk_step.specs.Control.{control}
use Rattle.zk_step.specs.Endings.{gives, tests, ends}
use Rattle.zk_step.specs.Finish.{continuation_after, led, gone, finished}
use Rattle.zk_step.specs.Routines.{routine_at, with_arguments, called, stored, returned, thrown, call_effect}
use Rattle.zk_step.specs.Routines.{routine_effect}
use Rattle.zk_step.specs.guards.Examples.{memory_of, sixteen, routine_with, caller_with, working, in_routine}
use Rattle.zk_step.specs.guards.Examples.{instruction, with_bytes}

-- ---- routines (sections 5, 6.3, 6.4 and 15)

-- from address 4 on a routine of so many local variables, and after their count the words 0x0102 and 0x0304
abbrev pub with_header : ℕ → List ℕ
with_header count = 0 ∷ 0 ∷ 0 ∷ 0 ∷ count ∷ 1 ∷ 2 ∷ 3 ∷ 4 ∷ []

-- in version 3 the initial values stand after the count; in version 5 they are 0 (section 5.2.1)
abbrev pub RoutinesBeginByVersion : Type 0
RoutinesBeginByVersion =
    (routine_at (memory_of 3 (with_header 2)) 4 ≡ Ok (record { locals = 0x0102 ∷ 0x0304 ∷ []; start = 9 }))
    × (routine_at (memory_of 4 (with_header 1)) 4 ≡ Ok (record { locals = 0x0102 ∷ []; start = 7 }))
    × (routine_at (memory_of 5 (with_header 2)) 4 ≡ Ok (record { locals = 0 ∷ 0 ∷ []; start = 5 }))

-- 15 local variables at most, all their initial values in the story (sections 5.2 and 5.2.1)
abbrev pub BadRoutines : Type 0
BadRoutines =
    (routine_at (memory_of 5 (with_header 16)) 4 ≡ Err BadTarget)
    × (routine_at (memory_of 5 (with_header 15)) 4 ≡ Ok (record { locals = replicate 15 0; start = 5 }))
    × (routine_at (memory_of 3 (with_header 3)) 4 ≡ Err BadTarget)
    × (routine_at (memory_of 3 (with_header 2)) 9 ≡ Err BadTarget)

-- arguments go into the first local variables; those past the last are dropped (section 6.4.4)
abbrev pub ArgumentsComeFirst : Type 0
ArgumentsComeFirst =
    (with_arguments (5 ∷ 6 ∷ 7 ∷ []) (1 ∷ 2 ∷ []) ≡ 1 ∷ 2 ∷ 7 ∷ [])
    × (with_arguments (5 ∷ []) (1 ∷ 2 ∷ []) ≡ 1 ∷ [])
    × (with_arguments [] (1 ∷ 2 ∷ []) ≡ [])

-- a call of packed address 2 in version 3, which is 4, with one argument: it goes on after the header, and will
-- return to address 9 and give its result to local variable 1 (section 6.4)
abbrev pub CallsARoutine : Type 0
CallsARoutine =
    called (working (memory_of 3 (with_header 2)) (routine_with [] (44 ∷ []) None) [])
    (instruction opcode.Push [] (Some 1) None) 2 (7 ∷ [])
    ≡ Ok (
      working (memory_of 3 (with_header 2))
          (record { locals = 7 ∷ 0x0304 ∷ []; words = []; pc = 9; result = Some 1; supplied = 1 })
          (routine_with [] (44 ∷ []) None ∷ []),
      9,
    )

-- arguments without a local variable count as given, a choice of zkit (section 6.4.4)
abbrev pub DroppedArgumentsCount : Type 0
DroppedArgumentsCount =
    called (working (memory_of 5 (with_header 1)) (routine_with [] [] None) [])
    (instruction opcode.Push [] None None) 1 (7 ∷ 8 ∷ 9 ∷ [])
    ≡ Ok (
      working (memory_of 5 (with_header 1))
          (record { locals = 7 ∷ []; words = []; pc = 9; result = None; supplied = 3 })
          (routine_with [] [] None ∷ []),
      5,
    )

-- a value goes into local variable 1 of the caller, which goes on where the call ended; the routine's own words go
-- (section 6.4.5)
abbrev pub ReturnsToTheCaller : Type 0
ReturnsToTheCaller =
    returned (in_routine (11 ∷ []) (44 ∷ [])) 9
    ≡ Ok (working (memory_of 5 sixteen) (caller_with (9 ∷ 62 ∷ []) (63 ∷ [])) [], 70)

-- a result for variable 0 is pushed on the caller's stack, and one for no variable is dropped (section 6.4.5)
abbrev pub ResultsArePushedOrDropped : Type 0
ResultsArePushedOrDropped =
    (returned (working (memory_of 5 sixteen) (routine_with [] (44 ∷ []) (Some 0)) (caller_with [] (63 ∷ []) ∷ [])) 9
    ≡ Ok (working (memory_of 5 sixteen) (caller_with [] (63 ∷ 9 ∷ [])) [], 70))
    × (returned (working (memory_of 5 sixteen) (routine_with [] (44 ∷ []) None) (caller_with [] (63 ∷ []) ∷ [])) 9
    ≡ Ok (working (memory_of 5 sixteen) (caller_with [] (63 ∷ [])) [], 70))

-- there is no return from the first frame (section 5.5)
abbrev pub NoReturnFromMain : Type 0
NoReturnFromMain = returned (working (memory_of 5 sixteen) (routine_with [] (44 ∷ []) None) []) 9 ≡ Err ReturnFromMain

-- two routines wait: the newer one has number 1, and returns for its caller, number 0, to address 80 (section 15,
-- `throw`)
abbrev pub ThrowsToAFrame : Type 0
ThrowsToAFrame =
    (thrown (working (memory_of 5 sixteen) (routine_with [] [] (Some 1))
    (caller_with [] [] ∷ caller_with (1 ∷ 2 ∷ []) [] ∷ [])) 9 1
    ≡ Ok (working (memory_of 5 sixteen) (caller_with (1 ∷ 9 ∷ []) []) [], 80))
    × (thrown (in_routine [] []) 9 1 ≡ Ok (working (memory_of 5 sixteen) (caller_with (9 ∷ 62 ∷ []) (63 ∷ [])) [], 70))
    × (thrown (in_routine [] []) 9 0 ≡ Err ReturnFromMain)
    × (thrown (in_routine [] []) 9 2 ≡ Err BadFrame)

-- the first operand is the routine; call_1 takes no argument, call_2 one, call_v three and call_v2 seven (section 15,
-- `call_vs`)
abbrev pub CallsTakeArguments : Type 0
CallsTakeArguments =
    (call_effect CallVs (50 ∷ 1 ∷ []) ≡ ends (ending.Call 50 3))
    × (call_effect Call1s (50 ∷ []) ≡ ends (ending.Call 50 0))
    × (call_effect Call2s (50 ∷ 1 ∷ []) ≡ ends (ending.Call 50 1))
    × (call_effect CallVs2 (50 ∷ 1 ∷ []) ≡ ends (ending.Call 50 7))
    × (call_effect CallVn (50 ∷ 1 ∷ []) ≡ ends (ending.Call 50 3))
    × (call_effect Call1n (50 ∷ []) ≡ ends (ending.Call 50 0))
    × (call_effect Call2n (50 ∷ 1 ∷ []) ≡ ends (ending.Call 50 1))
    × (call_effect CallVn2 (50 ∷ 1 ∷ []) ≡ ends (ending.Call 50 7))

-- a call of packed address 0 gives 0 (section 6.4.3)
abbrev pub CallOfNothingGivesZero : Type 0
CallOfNothingGivesZero = call_effect CallVs (0 ∷ 1 ∷ []) ≡ gives 0

-- true is 1, false is 0, `ret` returns its operand and `ret_popped` the newest word (section 15, `rtrue`, `rfalse`,
-- `ret`, `ret_popped`)
abbrev pub ReturnedValues : Type 0
ReturnedValues =
    (routine_effect Rtrue (in_routine [] []) [] ≡ Ok (in_routine [] [], ends (ending.Return 1)))
    × (routine_effect Rfalse (in_routine [] []) [] ≡ Ok (in_routine [] [], ends (ending.Return 0)))
    × (routine_effect Ret (in_routine [] []) (300 ∷ []) ≡ Ok (in_routine [] [], ends (ending.Return 300)))
    × (routine_effect RetPopped (in_routine [] (44 ∷ 55 ∷ [])) [] ≡ Ok
    (in_routine [] (44 ∷ []), ends (ending.Return 55)))

-- `catch` gives how many frames are above the first, a choice of zkit: one here; `throw` names a value, then a frame
-- (section 15, `catch`, `throw`)
abbrev pub CatchesAndThrows : Type 0
CatchesAndThrows =
    (routine_effect Catch (in_routine [] []) [] ≡ Ok (in_routine [] [], gives 1))
    × (routine_effect Catch (with_bytes []) [] ≡ Ok (with_bytes [], gives 0))
    × (routine_effect Throw (in_routine [] []) (9 ∷ 1 ∷ []) ≡ Ok (in_routine [] [], ends (ending.Throw 9 1)))

-- two arguments were given: there is a second, no third, and no argument 0 (section 15, `check_arg_count`)
abbrev pub ChecksArguments : Type 0
ChecksArguments =
    (routine_effect CheckArgCount (in_routine [] []) (2 ∷ []) ≡ Ok (in_routine [] [], tests true))
    × (routine_effect CheckArgCount (in_routine [] []) (3 ∷ []) ≡ Ok (in_routine [] [], tests false))
    × (routine_effect CheckArgCount (in_routine [] []) (0 ∷ []) ≡ Ok (in_routine [] [], tests false))

-- ---- the way on (sections 4.6, 4.7 and 15)

-- a branch is taken where the truth is its sense, in both senses, and else the next instruction follows (section 4.7)
abbrev pub BranchesBySense : Type 0
BranchesBySense =
    (continuation_after (Some (record { on = true; target = target.At 5 })) 9 (Some true) ≡ To 5)
    × (continuation_after (Some (record { on = true; target = target.At 5 })) 9 (Some false) ≡ To 9)
    × (continuation_after (Some (record { on = false; target = target.At 5 })) 9 (Some false) ≡ To 5)
    × (continuation_after (Some (record { on = false; target = target.At 5 })) 9 (Some true) ≡ To 9)

-- a branch that returns false gives 0, one that returns true 1; one out of the story leads nowhere (section 4.7.1)
abbrev pub BranchesThatReturn : Type 0
BranchesThatReturn =
    (continuation_after (Some (record { on = true; target = target.ReturnFalse })) 9 (Some true) ≡ Back 0)
    × (continuation_after (Some (record { on = true; target = target.ReturnTrue })) 9 (Some true) ≡ Back 1)
    × (continuation_after (Some (record { on = true; target = target.Past 99 })) 9 (Some true) ≡ Out)
    × (led (in_routine [] []) Out ≡ Err BadTarget)
    × (led (in_routine [] []) (Back 1) ≡ Ok (
      working (memory_of 5 sixteen)
          (caller_with (1 ∷ 62 ∷ []) (63 ∷ [])) [],
      70,
    ))

-- a result is stored first: local variable 1 gets 8 before the way is taken, and where there is no such variable, the
-- fault goes before the return; a result for variable 0 is pushed, and one for none dropped (sections 4.6 and 4.7)
abbrev pub StoresBeforeItGoes : Type 0
StoresBeforeItGoes =
    (gone (in_routine (11 ∷ []) []) (Some 1) (Some 8) (To 5) ≡ Ok (in_routine (8 ∷ []) [], 5))
    × (gone (in_routine [] []) (Some 2) (Some 8) (Back 1) ≡ Err NoSuchLocal)
    × (stored (in_routine [] []) (Some 0) (Some 8) ≡ Ok (in_routine [] (8 ∷ [])))
    × (stored (in_routine [] []) None (Some 8) ≡ Ok (in_routine [] []))

-- a jump goes to the address after it, here 9, plus a signed offset, less 2 (section 15, `jump`)
abbrev pub JumpsBySignedOffset : Type 0
JumpsBySignedOffset =
    (control Jump (6 ∷ []) ≡ ends (ending.Jump 6))
    × (finished (in_routine [] []) (instruction (opcode.Control Jump) [] None None) [] (ending.Jump 6) ≡ Ok
    (in_routine [] [], At 13))
    × (finished (in_routine [] []) (instruction (opcode.Control Jump) [] None None) [] (ending.Jump 65535) ≡ Ok
    (in_routine [] [], At 6))
    × (finished (in_routine [] []) (instruction (opcode.Control Jump) [] None None) [] (ending.Jump 0) ≡ Ok
    (in_routine [] [], At 7))
    × (finished (in_routine [] []) (instruction (opcode.Control Jump) [] None None) [] (ending.Jump 9) ≡ Err BadTarget)

-- `quit` ends the story, and changes nothing (section 15, `quit`)
abbrev pub Quits : Type 0
Quits =
    (control Quit [] ≡ ends (ending.Asks request.Quit))
    × (finished (in_routine [] []) (instruction (opcode.Control Quit) [] None None) [] (ending.Asks request.Quit)
    ≡ Ok (in_routine [] [], Asks request.Quit))

-- a call passes so many of the operands after the first (section 6.4)
abbrev pub PassesTheOperandsBehind : Type 0
PassesTheOperandsBehind =
    finished (working (memory_of 5 (with_header 2)) (routine_with [] [] None) [])
    (instruction opcode.Push [] None None) (1 ∷ 7 ∷ 8 ∷ []) (ending.Call 1 1)
    ≡ Ok (
      working (memory_of 5 (with_header 2))
          (record { locals = 7 ∷ 0 ∷ []; words = []; pc = 9; result = None; supplied = 1 })
          (routine_with [] [] None ∷ []),
      At 5,
    )
