-- What fills the upper window makes no grid that is gone.
use Rattle.std.proofs.Common.{◌≡◌, ◌∙◌, ℕ, Bool, true, false, refl, ap, sym, arith, ◌&&◌, min, ◌==◌, nat_lt}
use Rattle.std.proofs.lemmas.Bool.Decides.{nat_tests}
use Rattle.std.specs.Prelude.{if◌then◌else◌, nat_le}
use Rattle.zk_term.specs.Grid.{no_cells}
use Rattle.zk_term.specs.Windows.{Windows, character_printed, cursor_set, first_windows, forgotten, homed_below}
use Rattle.zk_term.specs.Windows.{character_put, kept_if_lower, moved_right, next_row, split, window_selected}
use Rattle.zk_term.specs.Windows.{with_height}
use Rattle.zk_term.specs.declared.windows.Window.{Window}
use Rattle.zk_term.specs.declared.windows.Window.TheVariants.{Lower, Upper}
use Rattle.zk_snapshot.specs.Opening.{NothingGone}

pub set_gone : (row column : ℕ) (w : Windows) → NothingGone w → NothingGone (cursor_set row column w)
unfolding cursor_set
set_gone row column w h = h

pub row_gone : (column : ℕ) (w : Windows) → NothingGone w → NothingGone (next_row column w)
unfolding next_row
row_gone column w h = h

pub font_gone : (fixed : Bool) (w : Windows) → NothingGone w → NothingGone (record w { fixed_font = fixed })
font_gone fixed w h = h

put_by : (x : Bool) (w v : Windows) → NothingGone w → NothingGone v → NothingGone (if x then v else w)
put_by true w v h k = k
put_by false w v h k = h

character_gone : (c : ℕ) (w : Windows) → NothingGone w → NothingGone (character_put c w)
character_gone c w h = put_by (nat_le w.row w.height && nat_le w.column w.width) w _ h h

pub put_gone : (c : ℕ) (w : Windows) → NothingGone w → NothingGone (character_printed c w)
unfolding character_printed
put_gone c w h =
    put_by (c == 10) (moved_right (character_put c w)) (next_row 1 w) (character_gone c w h) (row_gone 1 w h)

pub select_gone : (window : Window) (w : Windows) → NothingGone w → NothingGone (window_selected window w)
unfolding window_selected
select_gone Lower w h = h
select_gone Upper w h = h

homed_gone : (height : ℕ) (w : Windows) → NothingGone w → NothingGone (homed_below height w)
homed_gone height w h = put_by (nat_lt height w.row) w _ h h

kept_gone : (height width : ℕ) → NothingGone (kept_if_lower height (first_windows width))
unfolding first_windows
kept_gone height width =
    let never : nat_lt height 0 ≡ false = grind (arith, nat_tests) in
    rw never (refl, refl)

-- a new window has no row, so none goes
pub split_gone : (version lines width : ℕ) (w : Windows) → w ≡ first_windows width → NothingGone (split version lines w)
unfolding split
split_gone version lines width w e = rw e (homed_gone (min lines 255)
    (with_height version (min lines 255) (kept_if_lower (min lines 255) (first_windows width)))
    (kept_gone (min lines 255) width))

pub gone_is_forgotten : (w : Windows) → NothingGone w → forgotten w ≡ w
unfolding forgotten
gone_is_forgotten w h =
    sym (ap (λ g. record w { gone = g }) h.0 ∙ ap (λ n. record w { gone = no_cells; gone_height = n }) h.1)

pub ruleset of_fill_windows = (split_gone, select_gone, font_gone)
