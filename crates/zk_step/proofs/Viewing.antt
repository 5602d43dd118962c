-- The rows of the upper window and the status line, line by line.
use Rattle.std.proofs.Common.{◌≡◌, ◌∙◌, ◌<◌, ℕ, zero, suc, ◌+◌, true, false, List, [], ◌∷◌, ◌++◌, length, take, get_or}
use Rattle.std.proofs.Common.{refl, sym, ap, subst, arith, append_assoc, append-nil}
use Rattle.std.proofs.lemmas.List.{map-append, take_more}
use Rattle.zk_term.specs.Signals.Signal.{Text}
use Rattle.zk_term.specs.Styles.{roman}
use Rattle.zk_term.specs.Windows.{Windows, row_text}
use Rattle.zk_step.specs.declared.state.game_state.GameState.{GameState}
use Rattle.zk_step.specs.Routing.{Signals, on_screen, fresh_line, streamed_all, with_line_start}
use Rattle.zk_step.specs.View.{rows_shown, lines_shown}

pub on_screen-append : (x y : List ℕ) → on_screen (x ++ y) ≡ on_screen x ++ on_screen y
on_screen-append x y = map-append (λ (c : ℕ). Text c roman) x y

-- on the screen alone characters are in no style
pub streamed_alone : (cs : List ℕ) → streamed_all (record { screen = true; script = false; style = roman }) cs
    ≡ on_screen cs
unfolding streamed_all
streamed_alone [] = refl
streamed_alone (c ∷ cs) = ap (λ (l : Signals). Text c roman ∷ l) (streamed_alone cs)

-- one more character
pub next_on_screen : {S : Type 0} (shows : S → S → Signals → Type 0)
    (twice : (a b c : S) (s t : Signals) → shows a b s → shows b c t → shows a c (s ++ t))
    (old now new : S) (cs : List ℕ) (i c : ℕ) → i < length cs → c ≡ get_or cs i c
    → shows old now (on_screen (take i cs))
    → shows now new (on_screen (c ∷ [])) → shows old new (on_screen (take (i + 1) cs))
next_on_screen {S} shows twice old now new cs i c lt is h one =
    let more : on_screen (take (i + 1) cs) ≡ on_screen (take i cs) ++ on_screen (c ∷ []) =
    ap on_screen (take_more cs i c lt ∙ ap (λ (x : ℕ). take i cs ++ x ∷ []) (sym is))
    ∙ on_screen-append (take i cs) (c ∷ []) in
    rw more (twice old now new _ _ h one)

-- a row on a line
abbrev pub row_line : Windows → ℕ → List ℕ
row_line w row = 124 ∷ 32 ∷ row_text w row ++ 10 ∷ []

pub no_rows : (w : Windows) (row : ℕ) → [] ≡ rows_shown w row 0
unfolding rows_shown
no_rows w row = refl

-- a row more
pub rows_more : (w : Windows) (n row : ℕ) → rows_shown w row (n + 1) ≡ rows_shown w row n ++ row_line w (row + n)
unfolding rows_shown row_text
rows_more w zero row = let one : zero + 1 ≡ suc zero = omega arith in let here : row + 0 ≡ row = omega arith in
    rw (one, here) (append-nil (row_line w row))
rows_more w (suc n) row =
    let one : suc n + 1 ≡ suc (n + 1) = omega arith in
    let there : row + suc n ≡ row + 1 + n = omega arith in
    rw (one, there) (ap (λ (cs : List ℕ). row_line w row ++ cs) (rows_more w n (row + 1))
    ∙ sym (append_assoc (row_line w row) (rows_shown w (row + 1) n) (row_line w (row + 1 + n))))

-- lines that are shown
pub some_lines : (w : GameState) (cs : List ℕ) → (cs ≡ [] → ⊥)
    → lines_shown w cs ≡ (with_line_start true w, on_screen (fresh_line w.at_line_start ++ cs))
unfolding lines_shown
some_lines w [] h = absurd (h refl)
some_lines w (c ∷ cs) h = refl

pub ended_line : (a b : List ℕ) → (a ++ 10 ∷ []) ++ b ≡ [] → ⊥
ended_line [] b h = absurd cc
ended_line (c ∷ a) b h = absurd cc

pub some_rows : (w : Windows) (n row : ℕ) → 0 < n → rows_shown w row n ≡ [] → ⊥
unfolding rows_shown
some_rows w zero row h = absurd (omega arith)
some_rows w (suc n) row h = λ e. absurd cc
