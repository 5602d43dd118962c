-- What is still to come at first is all that is printed.
use Rattle.std.proofs.Common.{◌≡◌, ℕ, Bool, true, false, List, [], ◌∷◌, Option, Some, None, IsOk, refl, ap, subst}
use Rattle.std.proofs.Common.{arith, append-nil}
use Rattle.zk_mem.specs.Map.{MemoryMap}
use Rattle.zk_text.specs.declared.unit.Unit.{Unit}
use Rattle.zk_text.specs.Extra.{ExtraTable, own_characters}
use Rattle.zk_text.specs.Meaning.{text_units}
use Rattle.zk_text.specs.Places.{IsPlace, first_place}
use Rattle.zk_text.specs.Shown.{shown_all}
use Rattle.zk_text.proofs.WordWalks.{first_left}
use Rattle.zk_tables.specs.Rectangles.{rows_of}
use Rattle.zk_term.specs.Windows.{Windows}
use Rattle.zk_term.specs.declared.windows.Window.{Window}
use Rattle.zk_term.specs.declared.windows.Window.TheVariants.{Lower, Upper}
use Rattle.zk_code.specs.declared.instr.Instr.{Instr}
use Rattle.zk_step.specs.declared.output.parts.Rest.{Rest}
use Rattle.zk_step.specs.declared.output.parts.Rest.TheVariants as rest
use Rattle.zk_step.specs.declared.state.ending.Output.{Output}
use Rattle.zk_step.specs.declared.state.ending.Output.TheVariants.{Nothing, Code, Character, Number, Text, Line, Rows}
use Rattle.zk_step.specs.declared.state.ending.Output.TheVariants.{Status, Erasure, Bleep}
use Rattle.zk_step.specs.declared.output.parts.Half.{Half}
use Rattle.zk_step.specs.declared.output.streams.OpenTable.{OpenTable}
use Rattle.zk_step.specs.declared.state.game_state.GameState.{GameState}
use Rattle.zk_step.specs.Finish.{finished}
use Rattle.zk_step.specs.Halves.{IsForScreen, IsForTable, IsForUpper, IsOnWay, IsRest, rest_units, upper_rest}
use Rattle.zk_step.specs.Halves.{upper_rows, whole_of}
use Rattle.zk_step.specs.Limited.{limited_next}
use Rattle.zk_step.specs.Printing.{IsReady, characters_of, rows_or_none, units_of, units_or_none}
use Rattle.zk_step.specs.Routing.{printed_if, rectangle_printed, upper_printed, with_line_start}

text_whole : (m : MemoryMap) (a : ℕ) → rest_units m (rest.Text (first_place a) false) ≡ units_of m (Text a)
unfolding rest_units units_of
text_whole m a = rw (first_left m a) (append-nil (units_or_none (text_units m a)))

line_whole : (m : MemoryMap) (a : ℕ) → rest_units m (rest.Text (first_place a) true) ≡ units_of m (Line a)
unfolding rest_units units_of
line_whole m a = rw (first_left m a) refl

pub whole_units : (m : MemoryMap) (o : Output) (x : Rest) → whole_of o ≡ Some x → rest_units m x ≡ units_of m o
unfolding rest_units units_of
whole_units m (Text a) x e = let same : rest.Text (first_place a) false ≡ x = cc in
    subst (λ (y : Rest). rest_units m y ≡ units_of m (Text a)) same (text_whole m a)
whole_units m (Line a) x e = let same : rest.Text (first_place a) true ≡ x = cc in
    subst (λ (y : Rest). rest_units m y ≡ units_of m (Line a)) same (line_whole m a)
whole_units m (Rows r) x e =
    let same : rest.Rows r 0 ≡ x = cc in subst (λ (y : Rest). rest_units m y ≡ units_of m (Rows r)) same refl
whole_units m Nothing x e = absurd cc
whole_units m (Code c) x e = absurd cc
whole_units m (Character c) x e = absurd cc
whole_units m (Number n) x e = absurd cc
whole_units m Status x e = absurd cc
whole_units m Erasure x e = absurd cc
whole_units m (Bleep b) x e = absurd cc

first_stands : (a : ℕ) → IsPlace (first_place a)
first_stands a = record { taken = omega arith; after = tt }

pub whole_stands : (m : MemoryMap) (o : Output) (x : Rest) → whole_of o ≡ Some x → IsReady m o → IsRest m x
whole_stands m (Text a) x e h = let same : rest.Text (first_place a) false ≡ x = cc in
    subst (IsRest m) same (first_stands a, rw (first_left m a) h)
whole_stands m (Line a) x e h = let same : rest.Text (first_place a) true ≡ x = cc in
    subst (IsRest m) same (first_stands a, rw (first_left m a) h)
whole_stands m (Rows r) x e h = let same : rest.Rows r 0 ≡ x = cc in subst (IsRest m) same (h, omega arith)
whole_stands m Nothing x e h = absurd cc
whole_stands m (Code c) x e h = absurd cc
whole_stands m (Character c) x e h = absurd cc
whole_stands m (Number n) x e h = absurd cc
whole_stands m Status x e h = absurd cc
whole_stands m Erasure x e h = absurd cc
whole_stands m (Bleep b) x e h = absurd cc

rows_whole : (on : Bool) (t : ExtraTable) (rows : List (List ℕ)) (w : Windows)
    → upper_rows on t w.column 0 rows w ≡ rectangle_printed on t rows w
rows_whole on t [] w = refl
rows_whole on t (row ∷ rows) w = refl

pub whole_upper : (on : Bool) (m : MemoryMap) (o : Output) (x : Rest) (w : Windows) → whole_of o ≡ Some x
    → upper_rest on m w.column x w ≡ upper_printed on m o w
unfolding upper_rest upper_printed characters_of
whole_upper on m (Text a) x w e = let same : rest.Text (first_place a) false ≡ x = cc in
    subst (λ (y : Rest). upper_rest on m w.column y w ≡ upper_printed on m (Text a) w) same
    (ap (λ (us : List Unit). printed_if on (shown_all (own_characters m) us) w) (text_whole m a))
whole_upper on m (Line a) x w e = let same : rest.Text (first_place a) true ≡ x = cc in
    subst (λ (y : Rest). upper_rest on m w.column y w ≡ upper_printed on m (Line a) w) same
    (ap (λ (us : List Unit). printed_if on (shown_all (own_characters m) us) w) (line_whole m a))
whole_upper on m (Rows r) x w e = let same : rest.Rows r 0 ≡ x = cc in
    subst (λ (y : Rest). upper_rest on m w.column y w ≡ upper_printed on m (Rows r) w) same
    (rows_whole on (own_characters m) (rows_or_none (rows_of m r)) w)
whole_upper on m Nothing x w e = absurd cc
whole_upper on m (Code c) x w e = absurd cc
whole_upper on m (Character c) x w e = absurd cc
whole_upper on m (Number n) x w e = absurd cc
whole_upper on m Status x w e = absurd cc
whole_upper on m Erasure x w e = absurd cc
whole_upper on m (Bleep b) x w e = absurd cc

-- ---- ways

pub for_table : (t : Option OpenTable) (window : Window) (x : OpenTable) (w : GameState) (i : Instr)
    (vs codes : List ℕ) (draft : Windows) (h : Half) → t ≡ Some x → IsForTable w codes h
    → IsOnWay t window w i vs codes draft h
for_table None window x w i vs codes draft h e k = absurd cc
for_table (Some t) window x w i vs codes draft h e k = k

pub for_upper : (t : Option OpenTable) (window : Window) (w : GameState) (i : Instr) (vs codes : List ℕ)
    (draft : Windows) (h : Half) → t ≡ None → window ≡ Upper → IsForUpper w draft h
    → IsOnWay t window w i vs codes draft h
for_upper None Upper w i vs codes draft h e f k = k
for_upper None Lower w i vs codes draft h e f k = absurd cc
for_upper (Some t) window w i vs codes draft h e f k = absurd cc

pub for_screen : (t : Option OpenTable) (window : Window) (w : GameState) (i : Instr) (vs codes : List ℕ)
    (draft : Windows) (h : Half) → t ≡ None → window ≡ Lower → IsForScreen w h
    → ((b : Bool) → IsOk (limited_next (finished (with_line_start b w) i vs h.effect.ending)))
    → IsOnWay t window w i vs codes draft h
for_screen None Lower w i vs codes draft h e f k sure = (k, sure)
for_screen None Upper w i vs codes draft h e f k sure = absurd cc
for_screen (Some t) window w i vs codes draft h e f k sure = absurd cc
