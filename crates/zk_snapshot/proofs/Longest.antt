-- How many bytes a snapshot has at most.
use Rattle.std.specs.List.{flat_map}
use Rattle.std.specs.Global.{Vec}
use Rattle.std.specs.Prelude.{map, nat_le, if◌then◌else◌, IfOk}
use Rattle.std.proofs.Common.{◌≡◌, ◌≤◌, ◌+◌, ◌-◌, ◌*◌, ℕ, zero, suc, Bool, true, false, List, [], ◌∷◌, length, take}
use Rattle.std.proofs.Common.{drop, Option, Some, None, Result, Ok, Err, refl, ap, arith, length-append}
use Rattle.std.proofs.lemmas.Bool.Decides.{nat_tests}
use Rattle.std.proofs.lemmas.List.{length-map, length-take}
use Rattle.zk_mem.specs.Header.{header_of}
use Rattle.zk_save.specs.Quetzal.{bytes_4}
use Rattle.zk_save.specs.States.{WholeState}
use Rattle.zk_state.specs.Frames.{FrameList, IsBounded, bounds_of, frames_of}
use Rattle.zk_term.specs.declared.windows.Cell.{Cell}
use Rattle.zk_term.specs.Grid.{is_blank}
use Rattle.zk_term.specs.Windows.{Windows, before_blanks, columns_from, row_cells, without_last}
use Rattle.zk_step.specs.Streams.{OutputStreams}
use Rattle.zk_step.specs.declared.output.streams.OpenTable.{OpenTable}
use Rattle.zk_step.specs.declared.state.ending.Event.{Event}
use Rattle.zk_step.specs.declared.state.ending.Event.TheVariants as event
use Rattle.zk_step.specs.declared.state.game_state.GameState.{GameState}
use Rattle.zk_step.specs.declared.state.random.Generators.{Generators}
use Rattle.zk_vm.specs.declared.limits.Limits.{Limits}
use Rattle.zk_vm.specs.declared.machine.parts.Asking.{Asking}
use Rattle.zk_vm.specs.declared.machine.parts.Place.{Place}
use Rattle.zk_vm.specs.Sessions.{Session}
use Rattle.zk_vm.specs.Parts.{asking_of, place_of}
use Rattle.zk_snapshot.specs.Laws.{FitsNewest}
use Rattle.zk_snapshot.specs.Snapshots.{story_bytes, limits_bytes, place_bytes, event_bytes, asking_bytes}
use Rattle.zk_snapshot.specs.Snapshots.{generators_bytes, row_bytes, rows_bytes, windows_bytes, frames_bytes}
use Rattle.zk_snapshot.specs.Snapshots.{table_bytes, streams_bytes, game_bytes, kept_bytes, states_bytes, fitting}
use Rattle.zk_snapshot.specs.Snapshots.{head_bytes, body_bytes, snapshot_with, snapshot_of, longest_of}
use Rattle.zk_snapshot.specs.Sums.{sum_of}
use Rattle.zk_snapshot.proofs.Codes.{store_size, state_size, cells_size}
use Rattle.zk_snapshot.proofs.Sizes.{flat_reversed, frames_size}

-- ---- the upper window

columns_many : (start n : ℕ) → length (columns_from start n) ≡ n
unfolding columns_from
columns_many start zero = refl
columns_many start (suc n) = omega (arith, columns_many (start + 1) n)

before_long : (c : Cell) (cs : List Cell) → length (before_blanks is_blank c cs) ≤ 1 + length cs
before_long c [] = by (is_blank c)
  where
    by : (p : Bool) → length (if p then [] else c ∷ []) ≤ 1 + 0
    by true = omega arith
    by false = omega arith
before_long c (d ∷ ds) = omega arith

blanks_long : (cs : List Cell) → length (without_last is_blank cs) ≤ length cs
unfolding without_last
blanks_long [] = omega arith
blanks_long (c ∷ cs) = omega (arith, before_long c (without_last is_blank cs), blanks_long cs)

cells_long : (w : Windows) (n : ℕ) → length (row_cells w n) ≤ 255
unfolding row_cells
cells_long w n =
    omega (
      arith,
      blanks_long (map (w.cells.at n) (columns_from 1 255)),
      length-map (columns_from 1 255)
          (w.cells.at n),
      columns_many 1 255,
    )

row_long : (cells : List Cell) → length (row_bytes cells) ≡ 1 + 4 * length cells
unfolding row_bytes
row_long cells = omega (arith, cells_size cells)

rows_long : (n : ℕ) (w : Windows) → length (rows_bytes n w) ≤ 1021 * n
unfolding rows_bytes
rows_long zero w = omega arith
rows_long (suc n) w =
    omega (
      arith,
      length-append (rows_bytes n w) (row_bytes (row_cells w (suc n))),
      rows_long n w,
      row_long (row_cells w (suc n)),
      cells_long w (suc n),
    )

windows_long : (w : Windows) → length (windows_bytes w) ≤ 260364
unfolding windows_bytes
windows_long w = omega (arith, rows_long 255 w)

-- ---- the game state

generators_long : (g : Generators) → length (generators_bytes g) ≡ 17
unfolding generators_bytes
generators_long g = omega (arith, state_size g.predictable)

tables_long : (ts : List OpenTable) → length (flat_map table_bytes ts) ≡ 4 * length ts
tables_long [] = refl
tables_long (t ∷ ts) = omega (arith, tables_long ts)

streams_long : (s : OutputStreams) → length (streams_bytes s) ≡ 2 + 4 * length s.tables
unfolding streams_bytes
streams_long s = omega (arith, tables_long s.tables)

frames_most : (s : FrameList) → IsBounded s → length (frames_bytes (frames_of s)) ≤ 2 + 10 * s.most_frames + 2
    * s.most_words
frames_most s is = omega (arith, frames_size (frames_of s), is.frames, is.words)

game_long : (g : GameState) → IsBounded g.frames → length g.streams.tables ≤ 16
    → length (game_bytes g) ≤ 260451 + g.memory.static_base + 10 * g.frames.most_frames + 2 * g.frames.most_words
unfolding game_bytes
game_long g is few =
    simp length-append (omega (
      arith,
      streams_long g.streams,
      few,
      generators_long g.generators,
      windows_long g.windows,
      length-take g.memory.static_base g.memory.bytes,
      frames_most g.frames is,
    ))

-- ---- the rest

event_long : (e : Event) → length (event_bytes e) ≡ 5
unfolding event_bytes
event_long (event.Line t p) = refl
event_long event.Char = refl
event_long event.Save = refl
event_long event.Restore = refl

asking_long : (a : Option Asking) → length (asking_bytes a) ≤ 11
unfolding asking_bytes
asking_long None = omega arith
asking_long (Some a) = simp length-append (omega (arith, event_long a.event, store_size a.store))

limits_long : (l : Limits) → length (limits_bytes l) ≡ 11
unfolding limits_bytes
limits_long l = refl

place_long : (p : Place) → length (place_bytes p) ≡ 12
unfolding place_bytes
place_long p = refl

story_long : (file : List ℕ) → length (story_bytes file) ≤ 18
unfolding story_bytes header_of
story_long file = simp length-append (omega (arith, length-take 6 (drop 0x12 file)))

head_long : (file : List ℕ) → length (head_bytes file) ≤ 23
unfolding head_bytes
head_long file = omega (arith, story_long file)

states_long : (file : List ℕ) (ws : List WholeState) → length (states_bytes file ws) ≡ 1 + length
    (flat_map (kept_bytes file) ws)
unfolding states_bytes
states_long file ws = omega (arith, flat_reversed (kept_bytes file) ws)

-- ---- what fits

fit_sum : (file : List ℕ) (most : ℕ) (ws : List WholeState)
    → length (flat_map (kept_bytes file) (fitting file most ws)) ≤ most
unfolding fitting
fit_sum file most [] = omega arith
fit_sum file most (w ∷ ws) =
    by (nat_le (length (kept_bytes file w)) most) refl (fit_sum file (most - length (kept_bytes file w)) ws)
  where
    by : (p : Bool) → nat_le (length (kept_bytes file w)) most ≡ p
        → length (flat_map (kept_bytes file) (fitting file (most - length (kept_bytes file w)) ws)) ≤ most - length
        (kept_bytes file w)
        → length (flat_map (kept_bytes file) (if p then w ∷ fitting file (most - length (kept_bytes file w)) ws
        else [])) ≤ most
    by true e rest =
        let le : length (kept_bytes file w) ≤ most = grind (arith, nat_tests, e) in
        omega (
          arith,
          le,
          rest,
          length-append (kept_bytes file w)
              (flat_map (kept_bytes file) (fitting file (most - length (kept_bytes file w)) ws)),
        )
    by false e rest = omega arith

fit_front : (file : List ℕ) (most : ℕ) (ws : List WholeState) → (n : ℕ) × (fitting file most ws ≡ take n ws)
unfolding fitting
fit_front file most [] = (0, refl)
fit_front file most (w ∷ ws) =
    by (nat_le (length (kept_bytes file w)) most) (fit_front file (most - length (kept_bytes file w)) ws)
  where
    by : (p : Bool) → (n : ℕ) × (fitting file (most - length (kept_bytes file w)) ws ≡ take n ws)
        → (n : ℕ) × ((if p then w ∷ fitting file (most - length (kept_bytes file w)) ws else []) ≡ take n (w ∷ ws))
    by true (n, e) = (suc n, ap (λ (l : List WholeState). w ∷ l) e)
    by false (n, e) = (0, refl)

pub fits_newest : (file : List ℕ) (ws : List WholeState) → FitsNewest file ws
fits_newest file ws most = (fit_front file most ws, fit_sum file most ws)

-- ---- the whole

body_long : (states : List WholeState) (s : Session) → IsBounded s.state.game.frames
    → length s.state.game.streams.tables ≤ 16
    → length (body_bytes states s) ≤ 260509 + s.state.game.memory.static_base + 10
    * s.state.game.frames.most_frames + 2 * s.state.game.frames.most_words + length
    (flat_map (kept_bytes s.state.game.memory.file) states)
unfolding body_bytes
body_long states s is few =
    simp length-append (omega (
      arith,
      head_long s.state.game.memory.file,
      limits_long s.limits,
      place_long (place_of s),
      asking_long (asking_of s.waiting),
      game_long s.state.game is few,
      states_long s.state.game.memory.file states,
    ))

-- bounds that are those of the limits
same_most : (f : FrameList) (l : Limits) → bounds_of f ≡ (l.frames, l.words) → (f.most_frames ≡ l.frames)
    × (f.most_words ≡ l.words)
unfolding bounds_of
same_most f l e = (ap (λ (p : ℕ × ℕ). p.0) e, ap (λ (p : ℕ × ℕ). p.1) e)

pub at_longest : (most : ℕ) (s : Session) → IsBounded s.state.game.frames
    → length s.state.game.streams.tables ≤ 16 → bounds_of s.state.game.frames ≡ (s.limits.frames, s.limits.words)
    → length (snapshot_of most s) ≤ longest_of s.limits s.state.game.memory.static_base most
unfolding snapshot_with longest_of
at_longest most s is few bounds =
    let file : List ℕ = s.state.game.memory.file in
    let states : List WholeState = fitting file most s.state.undo in
    let same = same_most s.state.game.frames s.limits bounds in
    omega (
      arith,
      length-append (body_bytes states s) (bytes_4 (sum_of (body_bytes states s))),
      body_long states s is few,
      fit_sum file most s.state.undo,
      same.0,
      same.1,
    )

pub short_if : {E : Type 0} (r : Result (Vec ℕ) E) (bytes : List ℕ) (n : ℕ) → IfOk r (λ v. v.items ≡ bytes)
    → length bytes ≤ n → IfOk r (λ v. length v.items ≤ n)
short_if {E} (Ok v) bytes n e le = omega (arith, ap (λ (l : List ℕ). length l) e, le)
short_if {E} (Err x) bytes n e le = tt
