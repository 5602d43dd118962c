-- How the bytes of a text are marked that waits for a host: with the style in which they are shown (Standard, section
-- 8.7.1), and with what came before them.
use Rattle.std.specs.Prelude.{
  ℕ,
  ◌+◌,
  ◌-◌,
  ◌%◌,
  ◌/◌,
  ◌*◌,
  ◌==◌,
  Bool,
  true,
  false,
  List,
  [],
  ◌∷◌,
  ◌++◌,
  bit_or,
  drop,
  length,
}
use Rattle.std.specs.Prelude.{nat_lt, replicate, if◌then◌else◌, ◌&&◌}
use Rattle.std.specs.Char.{len_utf8}
use Rattle.zk_term.specs.Signals.{Signal}
use Rattle.zk_term.specs.Signals.Signal.{Text, Script, Erase, Beep}
use Rattle.zk_term.specs.declared.style.Bleep.{Bleep}
use Rattle.zk_term.specs.declared.style.Bleep.TheVariants.{High, Low}
use Rattle.zk_term.specs.declared.style.Style.{Style}
use Rattle.zk_host.specs.declared.collected.Collected.{Collected}
use Rattle.zk_host.specs.declared.marks.Run.{Run}
use Rattle.zk_host.specs.Texts.{Unread}

-- a style's mark, by the numbers that set it
unfoldable pub style_mark : Style → ℕ
style_mark s = (if s.reverse then 1 else 0) + (if s.bold then 2 else 0) + (if s.italic then 4 else 0)
    + (if s.fixed then 8 else 0)

-- the lower window was erased, a bleep sounded
abbrev pub erasure_mark : ℕ
erasure_mark = 16

abbrev pub bleep_mark : Bleep → ℕ
bleep_mark High = 32
bleep_mark Low = 64

-- the marks of the bytes that wait, and of what came after the last of them
pub record Marks : Type 0 where
  pub bytes : List ℕ
  pub before : ℕ

-- the marks of a character: its first byte has what came before it too
abbrev pub character_marks : ℕ → Style → ℕ → List ℕ
character_marks c style before =
    bit_or (style_mark style) before ∷ replicate (len_utf8 c - 1) (style_mark style)

-- a signal marks: a character its bytes, an erasure and a bleep what comes next; the transcript has no marks
abbrev pub marked_by : Signal → Marks → Marks
marked_by (Text c style) m = record { bytes = m.bytes ++ character_marks c style m.before; before = 0 }
marked_by (Script c) m = m
marked_by Erase m = record m { before = bit_or m.before erasure_mark }
marked_by (Beep bleep) m = record m { before = bit_or m.before (bleep_mark bleep) }

-- signals mark, one after the other
unfoldable pub marked : List Signal → Marks → Marks
marked [] m = m
marked (x ∷ l) m = marked l (marked_by x m)

-- so they do where marks are kept
abbrev pub marked_if : Bool → List Signal → Marks → Marks
marked_if kept l m = if kept then marked l m else m

-- the marks that were collected
abbrev pub marks_in : Collected → Marks
marks_in c = record { bytes = c.marks.bytes; before = c.before }

-- ---- runs

-- a mark's style, and what came before
abbrev pub style_of : ℕ → ℕ
style_of mark = mark % 16

abbrev pub before_of : ℕ → ℕ
before_of mark = mark / 16 * 16

-- how many bytes at the front have this mark
unfoldable pub so_marked : ℕ → List ℕ → ℕ
so_marked mark [] = 0
so_marked mark (x ∷ xs) = if x == mark then so_marked mark xs + 1 else 0

-- all bytes that wait are one run, in no style
abbrev pub plain_run : Collected → ℕ → Run
plain_run c before = record { length = length c.screen.bytes; style = 0; before = before }

-- The first bytes that wait, of one style, and what came before them, unless that was told. Where no byte has a mark,
-- since none waits or the marks are lost, they are one run, after what came before the next.
abbrev pub run_by : List ℕ → Collected → Run
run_by [] c = plain_run c c.before
run_by (x ∷ xs) c = record {
  length = so_marked (style_of x) xs + 1;
  style = style_of x;
  before = if c.told then 0 else before_of x;
}

-- where marks are not kept all bytes are one run
abbrev pub run_of : Collected → Run
run_of c = if c.styled then run_by c.marks.bytes c else plain_run c 0

-- what came before the first byte is told, or, where none waits, what came before the next
abbrev pub told_by : List ℕ → Collected → Collected
told_by [] c = record c { before = 0 }
told_by (x ∷ xs) c = record c { told = true }

abbrev pub run_told : Collected → Collected
run_told c = if c.styled then told_by c.marks.bytes c else c

-- marks are kept from now on, where no text waits
abbrev pub with_styles : Collected → Collected
with_styles c = if length c.screen.bytes == 0 && length c.marks.bytes == 0 then record c { styled = true } else c

-- so many bytes of the screen's text were taken: the marks of the others are left
abbrev pub taken_from : Collected → Unread → ℕ → Collected
taken_from c screen count =
    if nat_lt 0 count
    then record c { screen = screen; marks = record c.marks { bytes = drop count c.marks.bytes }; told = false }
    else record c { screen = screen }
