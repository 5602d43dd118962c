-- Worked examples of this crate's definitions. Their values come from the Unicode Standard and the Z-machine's by hand,
-- and no definition made them.
use Rattle.std.specs.Prelude.{◌≡◌, ℕ, true, List, [], ◌∷◌, ◌++◌, Some, None, replicate, codes}
use Rattle.zk_term.specs.declared.lines.InputEnd.TheVariants as over
use Rattle.zk_term.specs.declared.open_line.LineKind.TheVariants.{Empty, Row, Words, AfterSpace}
use Rattle.zk_term.specs.declared.style.Bleep.TheVariants.{Low}
use Rattle.zk_term.specs.declared.style.Style.{Style}
use Rattle.zk_term.specs.declared.windows.Cell.{Cell}
use Rattle.zk_term.specs.declared.windows.Window.TheVariants.{Lower, Upper}
use Rattle.zk_term.specs.Characters.{characters_of, line_codes}
use Rattle.zk_term.specs.Grid.{blank}
use Rattle.zk_term.specs.Lines.{Heard, heard}
use Rattle.zk_term.specs.Signals.{screen_text, script_text}
use Rattle.zk_term.specs.Signals.Signal.{Text, Script, Erase, Beep}
use Rattle.zk_term.specs.Styles.{roman, style_set}
use Rattle.zk_term.specs.OpenLines.{kind_after, rest_after_space, rest_of_words}
use Rattle.zk_term.specs.Wrapping.{columns, wrapped}
use Rattle.zk_term.specs.Windows.{Windows, first_windows, split, window_selected, cleared, unsplit, forgotten}
use Rattle.zk_term.specs.Windows.{line_erased, cursor_set, next_row, printed, row_text, tallest_height}
use Rattle.zk_term.specs.Windows.{tallest_row_text, row_cells, tallest_row_cells}

-- ---- characters (Unicode Standard, table 3-7)

-- the first and the last character of each length, and the neighbours of the surrogates
abbrev pub CharactersOfEachLength : Type 0
CharactersOfEachLength =
    (characters_of (0x00 ∷ 0x41 ∷ 0x7f ∷ []) ≡ Some 0 ∷ Some 0x41 ∷ Some 0x7f ∷ [])
    × (characters_of (0xc2 ∷ 0x80 ∷ 0xc3 ∷ 0x84 ∷ 0xdf ∷ 0xbf ∷ []) ≡ Some 0x80 ∷ Some 0xc4 ∷ Some 0x7ff ∷ [])
    × (characters_of (0xe0 ∷ 0xa0 ∷ 0x80 ∷ 0xe2 ∷ 0x82 ∷ 0xac ∷ 0xef ∷ 0xbf ∷ 0xbf ∷ []) ≡ Some 0x800
    ∷ Some 0x20ac ∷ Some 0xffff ∷ [])
    × (characters_of (0xed ∷ 0x9f ∷ 0xbf ∷ 0xee ∷ 0x80 ∷ 0x80 ∷ []) ≡ Some 0xd7ff ∷ Some 0xe000 ∷ [])
    × (characters_of (0xf0 ∷ 0x90 ∷ 0x80 ∷ 0x80 ∷ 0xf0 ∷ 0x9f ∷ 0x98 ∷ 0x80 ∷ 0xf4 ∷ 0x8f ∷ 0xbf ∷ 0xbf ∷ [])
    ≡ Some 0x10000 ∷ Some 0x1f600 ∷ Some 0x10ffff ∷ [])

-- each byte with which no character begins stands for itself: one that only continues a character, the front of a
-- character that does not go on, forms that are too long, a surrogate, and what is past the last character
abbrev pub StrayBytes : Type 0
StrayBytes =
    (characters_of (0x80 ∷ 0x41 ∷ 0xff ∷ []) ≡ None ∷ Some 0x41 ∷ None ∷ [])
    × (characters_of (0xe2 ∷ 0x82 ∷ 0x41 ∷ []) ≡ None ∷ None ∷ Some 0x41 ∷ [])
    × (characters_of (0xf0 ∷ 0x9f ∷ 0x98 ∷ []) ≡ None ∷ None ∷ None ∷ [])
    × (characters_of (0xc3 ∷ 0xc3 ∷ 0x84 ∷ []) ≡ None ∷ Some 0xc4 ∷ [])
    × (characters_of (0xc0 ∷ 0x80 ∷ []) ≡ None ∷ None ∷ [])
    × (characters_of (0xe0 ∷ 0x9f ∷ 0xbf ∷ []) ≡ None ∷ None ∷ None ∷ [])
    × (characters_of (0xf0 ∷ 0x8f ∷ 0xbf ∷ 0xbf ∷ []) ≡ None ∷ None ∷ None ∷ None ∷ [])
    × (characters_of (0xed ∷ 0xa0 ∷ 0x80 ∷ []) ≡ None ∷ None ∷ None ∷ [])
    × (characters_of (0xf4 ∷ 0x90 ∷ 0x80 ∷ 0x80 ∷ []) ≡ None ∷ None ∷ None ∷ None ∷ [])

-- ---- styles and signals

-- all styles at once
abbrev pub all_styles : Style
all_styles = record { reverse = true; bold = true; italic = true; fixed = true }

-- 1 is reverse, 2 bold, 4 italic and 8 a fixed pitch; they are added to what is set, also several at once; 0 is roman
-- (sections 8.7.1 and 15, `set_text_style`)
abbrev pub StylesAddUp : Type 0
StylesAddUp =
    (style_set 1 roman ≡ record roman { reverse = true })
    × (style_set 2 roman ≡ record roman { bold = true })
    × (style_set 4 (record roman { bold = true }) ≡ record roman { bold = true; italic = true })
    × (style_set 8 roman ≡ record roman { fixed = true })
    × (style_set 15 roman ≡ all_styles)
    × (style_set 16 (record roman { italic = true }) ≡ record roman { italic = true })
    × (style_set 0 all_styles ≡ roman)

-- the text of a screen is its characters in order, whatever their styles, and that of the transcript is its own
abbrev pub SignalsHaveTexts : Type 0
SignalsHaveTexts =
    (screen_text (Text 65 roman ∷ Script 97 ∷ Erase ∷ Text 66 all_styles ∷ Beep Low ∷ []) ≡ codes "AB")
    × (script_text (Script 97 ∷ Text 65 roman ∷ Script 98 ∷ Erase ∷ []) ≡ codes "ab")

-- ---- codes (section 3.8)

-- an A, an A with two dots, a tab, and a byte that is no character
abbrev pub CodesOfALine : Type 0
CodesOfALine = line_codes None (0x41 ∷ 0xc3 ∷ 0x84 ∷ 0x09 ∷ 0xff ∷ []) ≡ 0x41 ∷ 0x9e ∷ 0x20 ∷ 0x3f ∷ []

-- one question mark for each character without a code: control characters, a euro sign, an emoji, a byte order mark;
-- and one for each stray byte
abbrev pub QuestionMarks : Type 0
QuestionMarks =
    (line_codes None (0x00 ∷ 0x0d ∷ 0x1b ∷ 0x7f ∷ []) ≡ codes "????")
    × (line_codes None (0xe2 ∷ 0x82 ∷ 0xac ∷ 0x61 ∷ []) ≡ codes "?a")
    × (line_codes None (0xf0 ∷ 0x9f ∷ 0x98 ∷ 0x80 ∷ 0x61 ∷ []) ≡ codes "?a")
    × (line_codes None (0xef ∷ 0xbb ∷ 0xbf ∷ 0x61 ∷ []) ≡ codes "?a")
    × (line_codes None (0xe2 ∷ 0x82 ∷ 0x61 ∷ []) ≡ codes "??a")
    × (line_codes None (0xed ∷ 0xa0 ∷ 0x80 ∷ 0x61 ∷ []) ≡ codes "???a")

-- an own Unicode table is used in place of the Standard's, and a tab is a space whatever it has (section 3.8.5)
abbrev pub CodesByAnOwnTable : Type 0
CodesByAnOwnTable =
    (line_codes (Some (0x0416 ∷ 0x0417 ∷ 9 ∷ [])) (0xd0 ∷ 0x96 ∷ 0xd0 ∷ 0x97 ∷ 0xc3 ∷ 0x84 ∷ 0x61 ∷ 0x09 ∷ [])
    ≡ 155 ∷ 156 ∷ 63 ∷ 97 ∷ 32 ∷ [])
    × (line_codes None (0xd0 ∷ 0x96 ∷ []) ≡ 63 ∷ [])

-- 255 codes of a line are read, of characters and not of bytes
abbrev pub LongLines : Type 0
LongLines =
    (line_codes None (replicate 256 0x61) ≡ replicate 255 0x61)
    × (line_codes None (replicate 254 0x61 ++ 0xc3 ∷ 0x84 ∷ 0x62 ∷ []) ≡ replicate 254 0x61 ++ 0x9e ∷ [])

-- ---- lines

-- these lines, and then no more bytes
abbrev pub lines_heard : List (List ℕ) → Heard
lines_heard lines = record { lines = lines; over = over.End }

-- a new line ends a line, and what is after the last one is a line too where it has a byte
abbrev pub NewLinesEndLines : Type 0
NewLinesEndLines =
    (heard [] ≡ lines_heard [])
    × (heard (codes "ab") ≡ lines_heard (codes "ab" ∷ []))
    × (heard (codes "ab" ++ 10 ∷ []) ≡ lines_heard (codes "ab" ∷ []))
    × (heard (codes "ab" ++ 10 ∷ codes "c") ≡ lines_heard (codes "ab" ∷ codes "c" ∷ []))
    × (heard (10 ∷ []) ≡ lines_heard ([] ∷ []))
    × (heard (codes "a" ++ 10 ∷ 10 ∷ 10 ∷ codes "b") ≡ lines_heard (codes "a" ∷ [] ∷ [] ∷ codes "b" ∷ []))

-- one return just before a new line is no part of the line: all others are
abbrev pub ReturnsBeforeNewLines : Type 0
ReturnsBeforeNewLines =
    (heard (0x41 ∷ 0xc3 ∷ 0x84 ∷ 0x09 ∷ 0xff ∷ 0x0d ∷ 0x0a ∷ []) ≡ lines_heard
    ((0x41 ∷ 0xc3 ∷ 0x84 ∷ 0x09 ∷ 0xff ∷ []) ∷ []))
    × (heard (13 ∷ 10 ∷ []) ≡ lines_heard ([] ∷ []))
    × (heard (97 ∷ 13 ∷ 13 ∷ 10 ∷ []) ≡ lines_heard ((97 ∷ 13 ∷ []) ∷ []))
    × (heard (97 ∷ 13 ∷ 98 ∷ 10 ∷ []) ≡ lines_heard ((97 ∷ 13 ∷ 98 ∷ []) ∷ []))
    × (heard (97 ∷ 10 ∷ 13 ∷ 98 ∷ 10 ∷ []) ≡ lines_heard ((97 ∷ []) ∷ (13 ∷ 98 ∷ []) ∷ []))
    × (heard (97 ∷ 13 ∷ []) ≡ lines_heard ((97 ∷ 13 ∷ []) ∷ []))

-- 65,535 bytes are a line, with a new line after them or none; 65,536 are too many, and a line before them stands
abbrev pub TooManyBytes : Type 0
TooManyBytes =
    (heard (replicate 65535 97 ++ 10 ∷ []) ≡ lines_heard (replicate 65535 97 ∷ []))
    × (heard (replicate 65535 97) ≡ lines_heard (replicate 65535 97 ∷ []))
    × (heard (98 ∷ 10 ∷ replicate 65536 97 ++ 10 ∷ 99 ∷ []) ≡ record { lines = (98 ∷ []) ∷ []; over = over.Failed })

-- ---- the upper window (sections 8.6 and 8.7)

-- the windows at the start, on a screen of 80 columns
abbrev pub first_here : Windows
first_here = first_windows 80

-- a character in no style
abbrev pub plain : ℕ → Cell
plain c = record { character = c; style = roman }

-- an upper window of so many rows, which is selected
abbrev pub upper_window : ℕ → Windows
upper_window lines = window_selected Upper (split 5 lines first_here)

-- the row and the column of the cursor
abbrev pub cursor_of : Windows → ℕ × ℕ
cursor_of w = (w.row, w.column)

-- in the rows of an upper window stand an a, a b and a c, and the cursor is in the third row, at column 7
abbrev pub three_rows : Windows
three_rows = cursor_set 3 7 (printed (97 ∷ 10 ∷ 98 ∷ 10 ∷ 99 ∷ []) (upper_window 3))

-- at the start there is no upper window, and the lower one is selected (section 8.7.2)
abbrev pub WindowsAtTheStart : Type 0
WindowsAtTheStart =
    (first_here.height ≡ 0)
    × (first_here.selected ≡ Lower)
    × (cursor_of first_here ≡ (1, 1))
    × (first_here.cells.at 1 1 ≡ blank)
    × (first_here.cells.at 255 80 ≡ blank)
    × (row_text first_here 1 ≡ [])

-- characters stand in one cell after another, over what is there (section 8.7.2)
abbrev pub CharactersOfARow : Type 0
CharactersOfARow =
    (row_text (printed (codes "hi") (upper_window 2)) 1 ≡ codes "hi")
    × (row_text (printed (codes "hi") (upper_window 2)) 2 ≡ [])
    × (cursor_of (printed (codes "hi") (upper_window 2)) ≡ (1, 3))
    × (row_text (printed (codes "hi") (cursor_set 2 4 (upper_window 2))) 2 ≡ codes "   hi")
    × (row_text (printed (codes "X") (cursor_set 1 2 (printed (codes "abcd") (upper_window 1)))) 1 ≡ codes "aXcd")
    × (row_text (printed (codes "  ") (cursor_set 1 2 (printed (codes "abcd") (upper_window 1)))) 1 ≡ codes "a  d")

-- a new line goes to the first column of the next row, past the last row at most
abbrev pub NewLinesGoDown : Type 0
NewLinesGoDown =
    (row_text (printed (97 ∷ 98 ∷ 10 ∷ 99 ∷ []) (upper_window 2)) 1 ≡ codes "ab")
    × (row_text (printed (97 ∷ 98 ∷ 10 ∷ 99 ∷ []) (upper_window 2)) 2 ≡ codes "c")
    × (cursor_of (printed (97 ∷ 98 ∷ 10 ∷ 99 ∷ []) (upper_window 2)) ≡ (2, 2))
    × (cursor_of (printed (10 ∷ []) (cursor_set 254 7 (upper_window 2))) ≡ (255, 1))
    × (cursor_of (printed (10 ∷ []) (cursor_set 255 7 (upper_window 2))) ≡ (256, 1))
    × (cursor_of (printed (10 ∷ 10 ∷ []) (cursor_set 255 7 (upper_window 2))) ≡ (256, 1))
    × (cursor_of (next_row 5 (cursor_set 2 9 (upper_window 2))) ≡ (3, 5))
    × (cursor_of (next_row 81 (next_row 5 (cursor_set 255 9 (upper_window 2)))) ≡ (256, 81))

-- what stands past column 80 is dropped, and the cursor stays at column 81
abbrev pub TheLastColumn : Type 0
TheLastColumn =
    ((printed (codes "ab") (cursor_set 1 80 (upper_window 2))).cells.at 1 80 ≡ plain 97)
    × ((printed (codes "ab") (cursor_set 1 80 (upper_window 2))).cells.at 1 79 ≡ blank)
    × ((printed (codes "ab") (cursor_set 1 80 (upper_window 2))).cells.at 2 1 ≡ blank)
    × (cursor_of (printed (codes "a") (cursor_set 1 80 (upper_window 2))) ≡ (1, 81))
    × (cursor_of (printed (codes "ab") (cursor_set 1 80 (upper_window 2))) ≡ (1, 81))
    × (cursor_of (printed (97 ∷ 98 ∷ 10 ∷ []) (cursor_set 1 80 (upper_window 2))) ≡ (2, 1))

-- what stands below the height is dropped, and the cursor moves all the same
abbrev pub BelowTheHeight : Type 0
BelowTheHeight =
    ((printed (codes "a") (cursor_set 2 1 (upper_window 2))).cells.at 2 1 ≡ plain 97)
    × ((printed (codes "a") (cursor_set 2 1 (upper_window 1))).cells.at 2 1 ≡ blank)
    × (cursor_of (printed (codes "a") (cursor_set 2 1 (upper_window 1))) ≡ (2, 2))
    × ((split 5 2 (printed (codes "a") (cursor_set 2 1 (upper_window 1)))).cells.at 2 1 ≡ blank)
    × ((printed (10 ∷ 97 ∷ []) (cursor_set 255 80 (upper_window 255))).cells.at 255 1 ≡ blank)
    × (cursor_of (printed (10 ∷ 97 ∷ []) (cursor_set 255 80 (upper_window 255))) ≡ (256, 2))
    × ((printed (codes "a") (cursor_set 255 80 (upper_window 255))).cells.at 255 80 ≡ plain 97)

-- a split empties the rows past the height, and in version 3 all (section 8.6.1.1)
abbrev pub SplitsEmptyRows : Type 0
SplitsEmptyRows =
    (row_text (split 5 2 three_rows) 1 ≡ codes "a")
    × (row_text (split 5 2 three_rows) 2 ≡ codes "b")
    × (row_text (split 5 2 three_rows) 3 ≡ [])
    × (row_text (split 5 3 (split 5 2 three_rows)) 3 ≡ [])
    × (row_text (split 5 4 three_rows) 3 ≡ codes "c")
    × (row_text (split 8 2 three_rows) 1 ≡ codes "a")
    × (row_text (split 3 2 three_rows) 1 ≡ [])
    × (row_text (split 3 4 three_rows) 3 ≡ [])

-- there are 255 rows at most
abbrev pub HeightsOfSplits : Type 0
HeightsOfSplits =
    ((split 5 0 three_rows).height ≡ 0)
    × ((split 5 2 three_rows).height ≡ 2)
    × ((split 3 255 three_rows).height ≡ 255)
    × ((split 5 256 three_rows).height ≡ 255)
    × ((split 5 65535 three_rows).height ≡ 255)
    × ((split 5 2 three_rows).selected ≡ Upper)
    × ((split 5 2 first_here).selected ≡ Lower)

-- the cursor stays where it is not below the new height
abbrev pub SplitsAndTheCursor : Type 0
SplitsAndTheCursor =
    (cursor_of (split 5 3 three_rows) ≡ (3, 7))
    × (cursor_of (split 5 4 three_rows) ≡ (3, 7))
    × (cursor_of (split 5 2 three_rows) ≡ (1, 1))
    × (cursor_of (split 3 3 three_rows) ≡ (3, 7))
    × (cursor_of (split 3 2 three_rows) ≡ (1, 1))
    × (cursor_of (split 5 0 (cursor_set 1 7 three_rows)) ≡ (1, 1))
    × (cursor_of (split 5 65535 (next_row 7 (cursor_set 255 1 three_rows))) ≡ (1, 1))

-- the upper window is selected with its cursor at the top left, the lower one leaves it alone (section 8.7.2)
abbrev pub SelectedWindows : Type 0
SelectedWindows =
    ((window_selected Lower three_rows).selected ≡ Lower)
    × (cursor_of (window_selected Lower three_rows) ≡ (3, 7))
    × ((window_selected Upper (window_selected Lower three_rows)).selected ≡ Upper)
    × (cursor_of (window_selected Upper three_rows) ≡ (1, 1))
    × ((window_selected Upper three_rows).height ≡ 3)
    × (row_text (window_selected Upper three_rows) 3 ≡ codes "c")

-- the cursor is set to a cell of the grid, also to one below the height (section 15, `set_cursor`)
abbrev pub CursorsOnTheGrid : Type 0
CursorsOnTheGrid =
    (cursor_of (cursor_set 2 5 three_rows) ≡ (2, 5))
    × (cursor_of (cursor_set 0 0 three_rows) ≡ (1, 1))
    × (cursor_of (cursor_set 1 1 three_rows) ≡ (1, 1))
    × (cursor_of (cursor_set 255 80 three_rows) ≡ (255, 80))
    × (cursor_of (cursor_set 256 81 three_rows) ≡ (255, 80))
    × (cursor_of (cursor_set 300 300 three_rows) ≡ (255, 80))

-- a row is emptied from the cursor on, and the cursor stays (section 15, `erase_line`)
abbrev pub RestsOfRows : Type 0
RestsOfRows =
    (row_text (line_erased (cursor_set 1 3 (printed (codes "abcdef") three_rows))) 3 ≡ codes "c     abcdef")
    × (row_text (line_erased (cursor_set 3 9 (printed (codes "abcdef") three_rows))) 3 ≡ codes "c     ab")
    × (row_text (line_erased (cursor_set 3 1 (printed (codes "abcdef") three_rows))) 3 ≡ [])
    × (row_text (line_erased (cursor_set 3 1 three_rows)) 2 ≡ codes "b")
    × (row_text (line_erased (cursor_set 2 1 three_rows)) 3 ≡ codes "c")
    × (cursor_of (line_erased three_rows) ≡ (3, 7))
    × ((line_erased (printed (codes "z") (cursor_set 1 80 (upper_window 1)))).cells.at 1 80 ≡ plain 122)
    × ((line_erased (cursor_set 1 80 (printed (codes "yz") (cursor_set 1 79 (upper_window 1))))).cells.at 1 80 ≡ blank)
    × ((line_erased (cursor_set 1 80 (printed (codes "yz") (cursor_set 1 79 (upper_window 1))))).cells.at 1 79
    ≡ plain 121)
    × ((line_erased (printed (122 ∷ 10 ∷ []) (cursor_set 255 1 (upper_window 255)))).cells.at 255 1 ≡ plain 122)

-- all cells are emptied, and the cursor goes to the top left; height and window stay (section 8.7.3)
abbrev pub ClearedWindows : Type 0
ClearedWindows =
    (row_text (cleared three_rows) 1 ≡ [])
    × (row_text (cleared three_rows) 3 ≡ [])
    × (cursor_of (cleared three_rows) ≡ (1, 1))
    × ((cleared three_rows).height ≡ 3)
    × ((cleared three_rows).selected ≡ Upper)
    × ((cleared first_here).selected ≡ Lower)

-- the same, and the upper window goes (section 8.7.3.3)
abbrev pub UnsplitWindows : Type 0
UnsplitWindows =
    (row_text (unsplit three_rows) 1 ≡ [])
    × (row_text (unsplit three_rows) 3 ≡ [])
    × (cursor_of (unsplit three_rows) ≡ (1, 1))
    × ((unsplit three_rows).height ≡ 0)
    × ((unsplit three_rows).selected ≡ Lower)

-- a grid that goes, or becomes lower, is kept as it was, and its rows are still told
abbrev pub GridsThatAreGone : Type 0
GridsThatAreGone =
    ((split 5 1 three_rows).gone_height ≡ 3)
    × (tallest_height (split 5 1 three_rows) ≡ 3)
    × (row_text (split 5 1 three_rows) 2 ≡ [])
    × (tallest_row_text (split 5 1 three_rows) 2 ≡ codes "b")
    × (tallest_row_text (split 3 1 three_rows) 1 ≡ codes "a")
    × (tallest_row_text (split 5 2 (split 5 1 three_rows)) 2 ≡ codes "b")
    × (tallest_row_text (printed (codes "x") (window_selected Upper (split 5 1 three_rows))) 1 ≡ codes "a")
    × (tallest_height (unsplit three_rows) ≡ 3)
    × (tallest_row_text (unsplit three_rows) 3 ≡ codes "c")
    × (tallest_row_text (unsplit three_rows) 4 ≡ [])

-- one that stays as high is not gone: the tallest grid is the window's
abbrev pub GridsThatStay : Type 0
GridsThatStay =
    ((split 5 3 three_rows).gone_height ≡ 0)
    × ((split 3 4 three_rows).gone_height ≡ 0)
    × ((cleared three_rows).gone_height ≡ 0)
    × (tallest_height three_rows ≡ 3)
    × (tallest_row_text three_rows 3 ≡ codes "c")
    × (tallest_height (split 5 4 (split 5 1 three_rows)) ≡ 4)
    × (tallest_row_text (split 5 4 (split 5 1 three_rows)) 2 ≡ [])

-- the window gets so many rows after it was lower, with an x in its first one, and is lower again
abbrev pub x_after : ℕ → Windows → Windows
x_after lines w = split 5 1 (printed (codes "x") (window_selected Upper (split 5 lines (split 5 1 w))))

-- a lower grid is not kept in place of a taller one, but one of the same height is
abbrev pub TheTallestIsKept : Type 0
TheTallestIsKept =
    (tallest_height (x_after 2 three_rows) ≡ 3)
    × (tallest_row_text (x_after 2 three_rows) 1 ≡ codes "a")
    × (tallest_row_text (x_after 2 three_rows) 3 ≡ codes "c")
    × (tallest_height (x_after 3 three_rows) ≡ 3)
    × (tallest_row_text (x_after 3 three_rows) 1 ≡ codes "x")
    × (tallest_row_text (x_after 3 three_rows) 3 ≡ [])
    × (tallest_height (x_after 4 three_rows) ≡ 4)

-- what is forgotten is told no more, and the window stays
abbrev pub GridsThatAreForgotten : Type 0
GridsThatAreForgotten =
    ((forgotten (split 5 1 three_rows)).gone_height ≡ 0)
    × (tallest_height (forgotten (split 5 1 three_rows)) ≡ 1)
    × (tallest_row_text (forgotten (split 5 1 three_rows)) 1 ≡ codes "a")
    × (tallest_row_text (forgotten (split 5 1 three_rows)) 2 ≡ [])
    × (tallest_row_text (forgotten three_rows) 3 ≡ codes "c")
    × (tallest_height (x_after 2 (forgotten (unsplit three_rows))) ≡ 2)

-- the text of a row has no spaces at its end, and all others
abbrev pub TextsOfRows : Type 0
TextsOfRows =
    (row_text (printed (codes "  a b  ") (upper_window 1)) 1 ≡ codes "  a b")
    × (row_text (printed (codes "   ") (upper_window 1)) 1 ≡ [])
    × (row_text (printed (codes "z") (cursor_set 1 80 (upper_window 1))) 1 ≡ replicate 79 32 ++ 122 ∷ [])
    × (row_text (printed (replicate 82 120) (upper_window 2)) 1 ≡ replicate 80 120)
    × (row_text (printed (replicate 82 120) (upper_window 2)) 2 ≡ [])

-- a cell has the style that was set when its character was printed, also a space, which the text of the row has not at
-- its end; emptied cells are in no style (section 8.7.1)
abbrev pub reversed : Windows → Windows
reversed w = record w { style = record roman { reverse = true } }

abbrev pub CellsHaveStyles : Type 0
CellsHaveStyles =
    (row_cells (printed (codes "ab") (upper_window 1)) 1 ≡ plain 97 ∷ plain 98 ∷ [])
    × (row_cells (printed (codes "a ") (reversed (upper_window 1))) 1
    ≡ record { character = 97; style = record roman { reverse = true } }
    ∷ record { character = 32; style = record roman { reverse = true } } ∷ [])
    × (row_text (printed (codes "a ") (reversed (upper_window 1))) 1 ≡ codes "a")
    × (row_cells (printed (codes "a ") (upper_window 1)) 1 ≡ plain 97 ∷ [])
    × (row_cells (printed (codes "b") (reversed (printed (codes "a") (upper_window 1)))) 1
    ≡ plain 97 ∷ record { character = 98; style = record roman { reverse = true } } ∷ [])
    × (row_cells (line_erased (cursor_set 1 2 (printed (codes "ab") (reversed (upper_window 1))))) 1
    ≡ record { character = 97; style = record roman { reverse = true } } ∷ [])
    × (row_cells (cleared (printed (codes "ab") (reversed (upper_window 1)))) 1 ≡ [])
    × (tallest_row_cells (unsplit (printed (codes " ") (reversed (upper_window 1)))) 1
    ≡ record { character = 32; style = record roman { reverse = true } } ∷ [])
    × (row_cells (unsplit (printed (codes " ") (reversed (upper_window 1)))) 1 ≡ [])

-- an upper window of one row on a screen of so many columns
abbrev pub upper_row : ℕ → Windows
upper_row width = window_selected Upper (split 5 1 (first_windows width))

-- what stands past the last column of the screen is dropped, the cursor stays right past it, and is set up to it
-- (section 8.7.2)
abbrev pub ScreensHaveAWidth : Type 0
ScreensHaveAWidth =
    (row_text (printed (codes "abc") (cursor_set 1 39 (upper_row 40))) 1 ≡ replicate 38 32 ++ 97 ∷ 98 ∷ [])
    × (cursor_of (printed (codes "abc") (cursor_set 1 39 (upper_row 40))) ≡ (1, 41))
    × (cursor_of (cursor_set 1 80 (upper_row 40)) ≡ (1, 40))
    × (cursor_of (cursor_set 1 80 (upper_row 100)) ≡ (1, 80))
    × ((printed (codes "ab") (cursor_set 1 255 (upper_row 255))).cells.at 1 255 ≡ plain 97)
    × (cursor_of (printed (codes "ab") (cursor_set 1 255 (upper_row 255))) ≡ (1, 256))
    × ((split 5 7 (cleared (unsplit (upper_row 40)))).width ≡ 40)

-- ---- wrapped text

-- words go into a line while they fit, up to its last column
abbrev pub WordsFillALine : Type 0
WordsFillALine =
    (wrapped 10 (codes "abcd efghi") ≡ codes "abcd efghi")
    × (wrapped 10 (codes "abcd efghij") ≡ codes "abcd" ++ 10 ∷ codes "efghij")
    × (wrapped 5 (codes "aa bb cc d e ff")
    ≡ codes "aa bb" ++ 10 ∷ codes "cc d" ++ 10 ∷ codes "e ff")

-- a word that is longer than a line stands in a line of its own
abbrev pub LongWordsStandAlone : Type 0
LongWordsStandAlone =
    (wrapped 5 (codes "ab abcdefgh cd") ≡ codes "ab" ++ 10 ∷ codes "abcdefgh" ++ 10 ∷ codes "cd")
    × (wrapped 5 (codes "abcdefgh c") ≡ codes "abcdefgh" ++ 10 ∷ codes "c")
    × (wrapped 5 (codes "abcdefgh") ≡ codes "abcdefgh")

-- a character of two, three or four bytes takes one column (an A with two dots, a euro sign, an emoji)
abbrev pub CharactersAreColumns : Type 0
CharactersAreColumns =
    (wrapped 5 (0xc3 ∷ 0x84 ∷ codes "bc d") ≡ 0xc3 ∷ 0x84 ∷ codes "bc d")
    × (wrapped 4 (0xc3 ∷ 0x84 ∷ codes "bc d") ≡ 0xc3 ∷ 0x84 ∷ codes "bc" ++ 10 ∷ codes "d")
    × (wrapped 4 (codes "ab " ++ 0xe2 ∷ 0x82 ∷ 0xac ∷ []) ≡ codes "ab " ++ 0xe2 ∷ 0x82 ∷ 0xac ∷ [])
    × (wrapped 4 (codes "ab " ++ 0xf0 ∷ 0x9f ∷ 0x98 ∷ 0x80 ∷ codes "c")
    ≡ codes "ab" ++ 10 ∷ 0xf0 ∷ 0x9f ∷ 0x98 ∷ 0x80 ∷ codes "c")

-- one space alone gives way to a new line: others stay, also at the front of a line
abbrev pub SpacesInARow : Type 0
SpacesInARow =
    (wrapped 6 (codes "abcd  ef") ≡ codes "abcd " ++ 10 ∷ codes "ef")
    × (wrapped 4 (codes "abcd  ef") ≡ codes "abcd" ++ 10 ∷ codes " ef")
    × (wrapped 5 (codes "  ab c") ≡ codes "  ab" ++ 10 ∷ codes "c")
    × (wrapped 3 (codes "abc ") ≡ codes "abc" ++ 10 ∷ [])
    × (wrapped 4 (codes "abc ") ≡ codes "abc ")

-- a line with a bar at its front stays as it is, and a bar elsewhere is a letter
abbrev pub RowsAreNotWrapped : Type 0
RowsAreNotWrapped =
    (wrapped 5 (codes "| Score: 10 |") ≡ codes "| Score: 10 |")
    × (wrapped 4 (codes "a |b c") ≡ codes "a |b" ++ 10 ∷ codes "c")
    × (wrapped 4 (codes " | a b") ≡ codes " | a" ++ 10 ∷ codes "b")
    × (wrapped 5 (codes "| a b c" ++ 10 ∷ codes "ab c d")
    ≡ codes "| a b c" ++ 10 ∷ codes "ab c" ++ 10 ∷ codes "d")

-- each line of a text begins at its first column
abbrev pub LinesBeginAnew : Type 0
LinesBeginAnew =
    (wrapped 5 [] ≡ [])
    × (wrapped 5 (10 ∷ []) ≡ 10 ∷ [])
    × (wrapped 5 (codes "a" ++ 10 ∷ 10 ∷ codes "b") ≡ codes "a" ++ 10 ∷ 10 ∷ codes "b")
    × (wrapped 5 (codes "abc" ++ 10 ∷ codes "de fg") ≡ codes "abc" ++ 10 ∷ codes "de fg")
    × (wrapped 5 (codes "abc de" ++ 10 ∷ codes "fgh ij")
    ≡ codes "abc" ++ 10 ∷ codes "de" ++ 10 ∷ codes "fgh" ++ 10 ∷ codes "ij")

-- the rest of a text goes on in the open line, by how many columns are left there: a word of which something has gone
-- out stays in the line
abbrev pub LinesGoOn : Type 0
LinesGoOn =
    (rest_of_words 10 5 [] (codes "ef gh") ≡ codes "ef gh")
    × (rest_of_words 10 5 [] (codes "ef ghi") ≡ codes "ef" ++ 10 ∷ codes "ghi")
    × (rest_of_words 10 2 [] (codes "efgh i") ≡ codes "efgh" ++ 10 ∷ codes "i")
    × (rest_of_words 10 0 [] (codes " ef") ≡ 10 ∷ codes "ef")

-- behind a space that has gone out, a word that does not fit begins a new line: 15 letters and a space leave 4 columns
-- of 20
abbrev pub LinesGoOnBehindASpace : Type 0
LinesGoOnBehindASpace =
    (rest_after_space 20 4 [] (codes "tenletters") ≡ 10 ∷ codes "tenletters")
    × (rest_after_space 20 4 [] (codes "four") ≡ codes "four")
    × (rest_after_space 20 4 [] (codes "fiver") ≡ 10 ∷ codes "fiver")
    × (rest_after_space 20 4 [] (codes "fiver six seven eleven")
    ≡ 10 ∷ codes "fiver six seven" ++ 10 ∷ codes "eleven")
    × (rest_after_space 20 4 [] (codes "one two") ≡ codes "one" ++ 10 ∷ codes "two")
    × (rest_after_space 20 4 [] (codes " one") ≡ codes " one")
    × (rest_after_space 20 4 [] (codes " four") ≡ 10 ∷ codes "four")
    × (rest_after_space 20 0 [] (codes "a") ≡ 10 ∷ codes "a")
    × (rest_after_space 20 0 [] (codes " a") ≡ 10 ∷ codes "a")
    × (rest_after_space 20 4 [] [] ≡ [])
    × (rest_after_space 20 1 (codes "ab") (codes "cd e") ≡ 10 ∷ codes "abcd e")
    × (rest_after_space 20 2 (codes "ab") (codes "cd e") ≡ codes "abcd" ++ 10 ∷ codes "e")

-- a lone space that has gone out is such a space; of a word, or at the front of a line, it is none
abbrev pub KindsAfterAFlush : Type 0
KindsAfterAFlush =
    (kind_after Words (codes " ") ≡ AfterSpace)
    × (kind_after Words (codes " a") ≡ Words)
    × (kind_after Words [] ≡ Words)
    × (kind_after AfterSpace [] ≡ AfterSpace)
    × (kind_after AfterSpace (codes "a") ≡ Words)
    × (kind_after Empty [] ≡ Empty)
    × (kind_after Row [] ≡ Row)

-- bytes that begin no character take no column, but a word of more than 1,023 bytes does not fit
abbrev pub WordsOfManyBytes : Type 0
WordsOfManyBytes =
    (wrapped 5 (97 ∷ 32 ∷ replicate 1023 128) ≡ 97 ∷ 32 ∷ replicate 1023 128)
    × (wrapped 5 (97 ∷ 32 ∷ replicate 1024 128) ≡ 97 ∷ 10 ∷ replicate 1024 128)

-- 192 and the number of a style take no column, at the front of a word, in it or behind it; a line that begins with
-- them is no row
abbrev pub StylesTakeNoColumn : Type 0
StylesTakeNoColumn =
    (wrapped 5 (codes "a " ++ 192 ∷ 130 ∷ codes "cde" ++ 192 ∷ 128 ∷ codes " f")
    ≡ codes "a " ++ 192 ∷ 130 ∷ codes "cde" ++ 192 ∷ 128 ∷ 10 ∷ codes "f")
    × (wrapped 5 (codes "ab " ++ 192 ∷ 130 ∷ codes "c" ++ 192 ∷ 128 ∷ codes "de f")
    ≡ codes "ab" ++ 10 ∷ 192 ∷ 130 ∷ codes "c" ++ 192 ∷ 128 ∷ codes "de f")
    × (wrapped 3 (192 ∷ 129 ∷ codes "| a b") ≡ 192 ∷ 129 ∷ codes "| a" ++ 10 ∷ codes "b")
    × (columns (192 ∷ 191 ∷ 193 ∷ 194 ∷ 128 ∷ []) ≡ 1)
