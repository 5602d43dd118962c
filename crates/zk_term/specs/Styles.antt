-- Text styles (Standard, sections 8.7.1 and 15, `set_text_style`).
use Rattle.std.specs.Prelude.{ℕ, false, if◌then◌else◌, ◌==◌, ◌||◌, ◌/◌, ◌%◌}
use Rattle.zk_term.specs.declared.style.Style.{Style}

-- none of the styles
abbrev pub roman : Style
roman = record { reverse = false; bold = false; italic = false; fixed = false }

-- A style is set by its number: 0 is roman, and the others, which are powers of two, are added to what is set.
abbrev pub style_set : ℕ → Style → Style
style_set number s =
    if number == 0 then roman
    else
    record {
      reverse = s.reverse || number % 2 == 1;
      bold = s.bold || number / 2 % 2 == 1;
      italic = s.italic || number / 4 % 2 == 1;
      fixed = s.fixed || number / 8 % 2 == 1;
    }
