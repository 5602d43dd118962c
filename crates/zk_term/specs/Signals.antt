-- What a screen is given, one after the other (Standard, sections 7.1, 8.7 and 9.1).
use Rattle.std.specs.Prelude.{ℕ, List, Option, Some, None, filter_map}
use Rattle.zk_term.specs.declared.style.Bleep.{Bleep}
use Rattle.zk_term.specs.declared.style.Style.{Style}

-- A character is shown in a style; a character goes to the transcript; the lower window is erased; a bleep sounds.
pub data Signal : Type 0 where
  Text : (c : ℕ) (style : Style) → Signal
  Script : (c : ℕ) → Signal
  Erase : Signal
  Beep : (bleep : Bleep) → Signal

abbrev pub text_in : Signal → Option ℕ
text_in (Text c style) = Some c
text_in _ = None

abbrev pub script_in : Signal → Option ℕ
script_in (Script c) = Some c
script_in _ = None

-- the characters on the screen, and those of the transcript
abbrev pub screen_text : List Signal → List ℕ
screen_text l = filter_map text_in l

abbrev pub script_text : List Signal → List ℕ
script_text l = filter_map script_in l
