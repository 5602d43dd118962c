-- Styles within the text on its way to a terminal.
use Rattle.std.specs.Prelude.{ℕ, ◌+◌, List, [], ◌∷◌, ◌++◌, codes, if◌then◌else◌}
use Rattle.zk_term.specs.declared.style.Style.{Style}

-- the number of a style, as `set_text_style` has it: the sum of those that it is made of (Standard, section 15)
abbrev pub style_number : Style → ℕ
style_number s =
    (if s.reverse then 1 else 0)
    + ((if s.bold then 2 else 0) + ((if s.italic then 4 else 0) + (if s.fixed then 8 else 0)))

-- the mark of a style within a text: a byte that UTF-8 does not have (RFC 3629, section 3), and the style's number
abbrev pub style_mark : Style → List ℕ
style_mark s = 192 ∷ (128 + style_number s) ∷ []

-- the control sequence by which a terminal shows a style: none, and then bold, underlined for italic, and reverse
-- (ECMA-48, section 8.3.117)
abbrev pub style_code : Style → List ℕ
style_code s =
    27 ∷ codes "[0" ++ (if s.bold then codes ";1" else []) ++ (if s.italic then codes ";4" else [])
    ++ (if s.reverse then codes ";7" else []) ++ codes "m"
