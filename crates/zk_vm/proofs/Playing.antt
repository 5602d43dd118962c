-- Turn after turn.
use Rattle.std.proofs.Common.{◌≡◌, ◌∙◌, ◌<◌, ◌⊎◌, inl, inr, ℕ, ◌+◌, ◌-◌, Bool, true, false, List, [], ◌∷◌, ◌++◌}
use Rattle.std.proofs.Common.{append_assoc, Option, Some, None, refl, ap, sym, subst, arith, length}
use Rattle.zk_term.specs.declared.lines.InputEnd.{InputEnd}
use Rattle.zk_term.specs.declared.lines.InputEnd.TheVariants.{End, Failed}
use Rattle.arrayvec.specs.ArrayVec.{ArrayVec}
use Rattle.zk_term.specs.Devices.{HasJust}
use Rattle.zk_term.specs.declared.lines.Input.TheVariants as input
use Rattle.zk_text.specs.Extra.{ExtraTable}
use Rattle.zk_term.specs.Lines.{GaveLines, Heard, heard, ended_lines, behind, is_short, nothing_more, over_input}
use Rattle.zk_term.specs.Lines.{BreaksOff, IsNextLine, IsPlain, IsTooLong, MeetsBound, Reading}
use Rattle.zk_term.proofs.Hearing.{are_lines}
use Rattle.zk_vm.specs.declared.stop.Stop.{Stop}
use Rattle.zk_vm.specs.Plays.{SourceTells, FoundNoLine, IsHeard, TookLines}

-- ---- what is heard

last_heard : (line : List ℕ) → 0 < length line → IsPlain line → is_short line ≡ true
    → heard line ≡ behind line (nothing_more End)
last_heard [] some plain short = absurd (omega arith)
last_heard (b ∷ line) some plain short = are_lines.last b line plain short

true_is_no_end : (failed : Bool) → failed ≡ true → failed ≡ false → ⊥
true_is_no_end failed h k = absurd cc

-- a line more in front
pub heard_on : (bytes next later line : List ℕ) (failed : Bool) (how : Option InputEnd) (h : Heard)
    (left : List (List ℕ)) → IsNextLine bytes next line how → (how ≡ Some End → failed ≡ false)
    → IsHeard next later failed h left → IsHeard bytes later failed (behind line h) left
heard_on bytes next later line false how h left (inl (e, goes)) sound k =
    ap (behind line) k ∙ sym (ap heard e.whole ∙ are_lines.ended e.part next e.plain e.short
    ∙ ap (λ (l : List ℕ). behind l (heard next)) (sym e.is))
heard_on bytes next later line false how h left (inr (e, ends)) sound k =
    ap (behind line) (k ∙ ap heard e.none ∙ are_lines.none)
    ∙ sym (ap heard e.whole ∙ last_heard line e.some e.plain e.short)
heard_on bytes next later line true how h left (inl (e, goes)) sound k =
    let gone : List ℕ = e.part ++ 10 ∷ k.0 in
    let whole : bytes ≡ gone ++ later = e.whole ∙ ap (λ (l : List ℕ). e.part ++ 10 ∷ l) k.1.0
    ∙ sym (append_assoc e.part (10 ∷ k.0) later) in
    let lines : line ∷ ended_lines k.0 ≡ ended_lines gone = ap (λ (l : List ℕ). l ∷ ended_lines k.0) e.is
    ∙ sym (are_lines.complete e.part k.0 e.plain) in (
      gone,
      (
        whole,
        ap (behind line) k.1.1
            ∙ ap (λ (ls : List (List ℕ)). let x : Heard = record { lines = ls; over = Failed } in x) lines,
        k.1.2,
      ),
    )
heard_on bytes next later line true how h left (inr (e, ends)) sound k = absurd (true_is_no_end true refl (sound ends))

pub heard_whole : (bytes later : List ℕ) (failed : Bool) (left : List (List ℕ)) → failed ≡ false
    → IsHeard bytes later failed (heard bytes) left
heard_whole bytes later failed left e = rw e refl

-- ---- a reader of lines, whose input goes on or is over

abbrev pub GoesOnOr : Option InputEnd → Type 0 → Type 0
GoesOnOr how J = (how ≡ None) ⊎ ((how ≡ Some End) × J)

pub over_on : (how : Option InputEnd) (J : Type 0) → (how ≡ None) ⊎ (how ≡ Some End) → (how ≡ Some End → J)
    → GoesOnOr how J
over_on how J (inl h) k = inl h
over_on how J (inr h) k = inr (h, k h)

-- one that answers a line or a failure goes on
pub line_open : (how : Option InputEnd) (J : Type 0) (codes : ArrayVec ℕ) → GoesOnOr how J
    → ((o : InputEnd) → how ≡ Some o → input.Line codes ≡ over_input o) → how ≡ None
line_open how J codes (inl h) k = h
line_open how J codes (inr h) k = let e = k End h.0 in absurd cc

pub failed_open : (how : Option InputEnd) (J : Type 0) → GoesOnOr how J
    → ((o : InputEnd) → how ≡ Some o → input.Failed ≡ over_input o) → how ≡ None
failed_open how J (inl h) k = h
failed_open how J (inr h) k = let e = k End h.0 in absurd cc

pub no_end : (how : Option InputEnd) (A : Type 0) → how ≡ None → how ≡ Some End → A
no_end how A h k = absurd cc

-- after a last line nothing is left
pub last_none : (bytes next line : List ℕ) (how : Option InputEnd) → IsNextLine bytes next line how
    → how ≡ Some End → next ≡ []
last_none bytes next line how (inl h) e = no_end how (next ≡ []) h.1 e
last_none bytes next line how (inr h) e = h.0.none

-- an end that was found before, or is found now
pub end_left : {R : Type 0} (left : R → Option (List ℕ)) (old new : R) (how : Option InputEnd) (J : Type 0)
    (ahead bytes more : List ℕ) → left old ≡ Some bytes → GoesOnOr how J → (how ≡ Some End → ahead ++ bytes ≡ [])
    → (how ≡ None → (later : List ℕ) × (left new ≡ Some later) × ((ahead ++ bytes ≡ []) × (more ++ later ≡ [])))
    → (how ≡ Some End → new ≡ old) → (later : List ℕ) × (left new ≡ Some later) × (ahead ++ bytes ≡ [])
end_left left old new how J ahead bytes more told (inl h) before now same = let n = now h in (n.0, n.1, n.2.0)
end_left left old new how J ahead bytes more told (inr h) before now same =
    (bytes, ap left (same h.0) ∙ told, before h.0)

pub end_found : {R : Type 0} (ends : R → R → Type 0) (old new : R) (how : Option InputEnd)
    → GoesOnOr how (HasJust ends old) → (how ≡ None → HasJust ends new) → (how ≡ Some End → new ≡ old)
    → HasJust ends new
end_found {R} ends old new how (inl h) now same = now h
end_found {R} ends old new how (inr h) now same = subst (λ (r : R). HasJust ends r) (sym (same h.0)) h.1

pub end_sound : {R : Type 0} (failed : R → Bool) (old new : R) (how : Option InputEnd) (J : Type 0)
    → GoesOnOr how J → (how ≡ None → failed new ≡ failed old) → (how ≡ Some End → new ≡ old) → failed new ≡ failed old
end_sound failed old new how J (inl h) now same = now h
end_sound failed old new how J (inr h) now same = ap failed (same h.0)

pub heard_end : (bytes later : List ℕ) (failed : Bool) → bytes ≡ [] → failed ≡ false
    → IsHeard bytes later failed (nothing_more End) []
heard_end bytes later failed e sound = rw sound (sym (ap heard e ∙ are_lines.none))

pub heard_failed : (bytes ahead later : List ℕ) (failed old : Bool) (Failing : Type 0) → old ≡ false
    → (Failing → (failed ≡ true) × (ahead ≡ [])) → (Failing × BreaksOff bytes (ahead ++ later))
    ⊎ ((failed ≡ old) × IsTooLong bytes (ahead ++ later))
    → IsHeard bytes later failed (nothing_more Failed) []
heard_failed bytes ahead later failed old Failing works facts (inl (f, b)) =
    let is = facts f in
    let whole : bytes ≡ b.part ++ later = b.whole ∙ ap (λ (l : List ℕ). b.part ++ (l ++ later)) is.1 in
    rw is.0 (
      b.part,
      (
        whole,
        ap (λ (ls : List (List ℕ)). let x : Heard = record { lines = ls; over = Failed } in
            x) (sym (are_lines.cut_off b.part b.plain)),
        refl,
      ),
    )
heard_failed bytes ahead later failed old Failing works facts (inr (sound, long)) =
    let is = sound ∙ works in
    rw is (sym (ap heard long.whole ∙ are_lines.too_long long.part (ahead ++ later) long.plain long.long))

pub failed_found : {R : Type 0} (src : SourceTells R) (first old new : R) (before after : Reading)
    (reads : List (ExtraTable × List ℕ)) (Failing : Type 0) → src.failed old ≡ false
    → (lines : List (List ℕ)) × (GaveLines src.gives first old lines before.ahead × TookLines reads lines [])
    → (Failing → HasJust src.fails new × (src.failed new ≡ true))
    → Failing ⊎ ((src.failed new ≡ src.failed old) × MeetsBound src.gives old new before after)
    → FoundNoLine src first new reads Failed
failed_found src first old new before after reads Failing works given facts (inl f) = inl (facts f)
failed_found src first old new before after reads Failing works given facts (inr (e, bound)) =
    inr (
      e ∙ works,
      record {
        lines = given.0;
        took = given.1.1;
        start = old;
        old = before;
        new = after;
        gave = given.1.0;
        bound = bound;
      },
    )

pub true_or : (x : Bool) (A : Type 0) → x ≡ false → x ≡ true → A
true_or x A h k = absurd cc

-- ---- how many turns there can still be

abbrev pub turns_left : Option Stop → ℕ → ℕ
turns_left None reads = 16777217 - reads
turns_left (Some stop) reads = 0

fewer_by : (x : Option Stop) (reads more : ℕ) → reads < 16777216 → (x ≡ None → more ≡ reads + 1)
    → turns_left x more < 16777217 - reads
fewer_by None reads more h counted = let e = counted refl in omega arith
fewer_by (Some stop) reads more h counted = omega arith

pub fewer : (x y : Option Stop) (reads more : ℕ) → y ≡ None → reads < 16777216 → (x ≡ None → more ≡ reads + 1)
    → turns_left x more < turns_left y reads
fewer x None reads more e h counted = fewer_by x reads more h counted
fewer x (Some stop) reads more e h counted = absurd cc
