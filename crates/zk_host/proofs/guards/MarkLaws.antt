-- Each byte has a mark, and what came before a run is told once.
use Rattle.std.proofs.Common.{◌≡◌, ℕ, ◌-◌, Bool, true, false, List, [], ◌∷◌, length, refl}
use Rattle.std.proofs.Common.{arith, length-append}
use Rattle.std.proofs.lemmas.List.{length-replicate}
use Rattle.std.proofs.lemmas.Str.{len_utf8_bounds, length-encode}
use Rattle.std.specs.Prelude.{encode_utf8, encode_utf8_all}
use Rattle.std.specs.Char.{len_utf8}
use Rattle.zk_term.specs.Signals.{screen_text}
use Rattle.zk_term.specs.Signals.Signal.{Text, Script, Erase, Beep}
use Rattle.zk_term.specs.declared.style.Style.{Style}
use Rattle.zk_host.specs.Marks.{character_marks, marked, marked_by, run_of, run_told, style_mark}
use Rattle.zk_host.specs.guards.MarkLaws.{BeforeIsToldOnce, BytesHaveMarks}

-- as many marks as a character has bytes
marks_of : (c : ℕ) (style : Style) (before : ℕ) → length (character_marks c style before) ≡ length (encode_utf8 c)
marks_of c style before =
    omega (arith, length-replicate (len_utf8 c - 1) (style_mark style), length-encode c, (len_utf8_bounds c).0)

pub bytes_marked : BytesHaveMarks
unfolding marked
bytes_marked [] m = omega arith
bytes_marked (Text c style ∷ l) m =
    let rest = bytes_marked l (marked_by (Text c style) m) in
    omega (
      arith,
      rest,
      marks_of c style m.before,
      length-append m.bytes (character_marks c style m.before),
      length-append (encode_utf8 c) (encode_utf8_all (screen_text l)),
    )
bytes_marked (Script c ∷ l) m = bytes_marked l m
bytes_marked (Erase ∷ l) m = bytes_marked l (marked_by Erase m)
bytes_marked (Beep bleep ∷ l) m = bytes_marked l (marked_by (Beep bleep) m)

pub told_once : BeforeIsToldOnce
told_once c = by_kept c.styled refl c.marks.bytes refl
  where
    by_kept : (kept : Bool) → c.styled ≡ kept → (bytes : List ℕ) → c.marks.bytes ≡ bytes
        → (run_of (run_told c)).before ≡ 0
    by_kept true kept [] none = rw (kept, none) refl
    by_kept true kept (x ∷ xs) some = rw (kept, some) refl
    by_kept false kept bytes any = rw kept refl
