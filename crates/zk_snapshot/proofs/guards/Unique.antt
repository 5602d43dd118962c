-- A snapshot is the snapshot of one play alone.
use Rattle.std.specs.List.{flat_map}
use Rattle.std.specs.Prelude.{All, min, IfSome}
use Rattle.std.proofs.Common.{◌≡◌, ◌∙◌, ℕ, Bool, true, false, List, [], ◌∷◌, ◌++◌, length, take, drop, Option, Some}
use Rattle.std.proofs.Common.{None, Result, Ok, refl, ap, sym, arith, append_assoc}
use Rattle.std.proofs.lemmas.List.Elements.{All-take}
use Rattle.std.proofs.lemmas.List.{take-append-drop, length-take, length-append}
use Rattle.zk_mem.specs.Header.{header_of}
use Rattle.zk_mem.specs.declared.fault.Fault.{Fault}
use Rattle.zk_mem.specs.declared.memory.ScreenSetup.{ScreenSetup}
use Rattle.zk_mem.specs.declared.memory.Setup.{Setup}
use Rattle.zk_code.specs.declared.instr.Instr.{Instr}
use Rattle.zk_code.specs.Reading.{instr_at}
use Rattle.zk_step.specs.Routing.{Signals}
use Rattle.zk_vm.specs.declared.stop.Stop.{Stop}
use Rattle.zk_mem.specs.Map.{MemoryMap, IsOfFile}
use Rattle.zk_save.specs.Quetzal.{bytes_2, bytes_4}
use Rattle.zk_save.specs.States.{WholeState}
use Rattle.zk_state.specs.Frames.{Frame, FrameList, bounds_of, frames_of}
use Rattle.zk_term.specs.Windows.{Windows, forgotten}
use Rattle.zk_term.specs.declared.windows.Window.{Window}
use Rattle.zk_term.specs.declared.windows.Window.TheVariants as window
use Rattle.zk_step.specs.Streams.{OutputStreams}
use Rattle.zk_step.specs.declared.output.streams.OpenTable.{OpenTable}
use Rattle.zk_step.specs.declared.state.ending.Event.{Event}
use Rattle.zk_step.specs.declared.state.ending.Event.TheVariants as event
use Rattle.zk_step.specs.declared.state.game_state.GameState.{GameState}
use Rattle.zk_step.specs.declared.state.game_state.View.{View}
use Rattle.zk_step.specs.declared.state.game_state.View.TheVariants as view
use Rattle.zk_step.specs.declared.state.random.Generators.{Generators}
use Rattle.zk_vm.specs.declared.limits.Limits.{Limits}
use Rattle.zk_vm.specs.declared.machine.parts.Asking.{Asking}
use Rattle.zk_vm.specs.declared.machine.parts.Place.{Place}
use Rattle.zk_vm.specs.declared.waiting.Waiting.{Waiting}
use Rattle.zk_vm.specs.Bounds.{setup_of}
use Rattle.zk_vm.specs.Halts.{event_waited}
use Rattle.zk_vm.specs.Sessions.{Session}
use Rattle.zk_vm.specs.Parts.{asking_of, place_of}
use Rattle.zk_snapshot.specs.Laws.{without_gone, with_kept, newest, IsKept, IsOfOnePlay}
use Rattle.zk_snapshot.specs.Sums.{sum_of}
use Rattle.zk_snapshot.specs.Snapshots.{bytes_8, truth_byte, store_bytes, state_bytes, limits_bytes, place_bytes}
use Rattle.zk_snapshot.specs.Snapshots.{event_bytes, asking_bytes, view_byte, window_byte, generators_bytes, rows_bytes}
use Rattle.zk_snapshot.specs.Snapshots.{style_byte}
use Rattle.zk_snapshot.specs.Snapshots.{windows_bytes, frames_bytes, table_bytes, streams_bytes, game_bytes}
use Rattle.zk_snapshot.specs.Snapshots.{states_bytes, head_bytes, body_bytes, snapshot_with}
use Rattle.zk_snapshot.proofs.Codes.{cons_head, cons_tail, split_same, same_2, same_4, same_8, same_store, store_size}
use Rattle.zk_snapshot.proofs.Codes.{same_state, same_style, state_size}
use Rattle.zk_snapshot.proofs.guards.Grown.{same_rows, cells_same, windows_same, same_all_frames}
use Rattle.zk_snapshot.proofs.guards.SameStates.{HasBytes, same_states}

-- ---- choices

same_truth : (p q : Bool) → truth_byte p ≡ truth_byte q → p ≡ q
same_truth true true h = refl
same_truth true false h = absurd (omega (arith, h))
same_truth false true h = absurd (omega (arith, h))
same_truth false false h = refl

same_view : (p q : View) → view_byte p ≡ view_byte q → p ≡ q
same_view view.Plain view.Plain h = refl
same_view view.Plain view.Upper h = absurd (omega (arith, h))
same_view view.Upper view.Plain h = absurd (omega (arith, h))
same_view view.Upper view.Upper h = refl

same_window : (p q : Window) → window_byte p ≡ window_byte q → p ≡ q
same_window window.Lower window.Lower h = refl
same_window window.Lower window.Upper h = absurd (omega (arith, h))
same_window window.Upper window.Lower h = absurd (omega (arith, h))
same_window window.Upper window.Upper h = refl

lines_same : (t u p q : ℕ) → t ≡ u → p ≡ q → event.Line t p ≡ event.Line u q
lines_same t u p q e h = ap (λ (x : ℕ). event.Line x p) e ∙ ap (λ (x : ℕ). event.Line u x) h

same_event : (e f : Event) → event_bytes e ≡ event_bytes f → e ≡ f
unfolding event_bytes
same_event (event.Line t1 p1) (event.Line t2 p2) h =
    let both = split_same (bytes_2 t1) (bytes_2 t2) (bytes_2 p1) (bytes_2 p2)
    refl (cons_tail 1 1 (bytes_2 t1 ++ bytes_2 p1) (bytes_2 t2 ++ bytes_2 p2) h) in
    lines_same t1 t2 p1 p2 (same_2 t1 t2 both.0) (same_2 p1 p2 both.1)
same_event (event.Line t1 p1) event.Char h =
    let same : ◌≡◌ {A = ℕ} 1 2 = cons_head 1 2 (bytes_2 t1 ++ bytes_2 p1) (bytes_2 0 ++ bytes_2 0) h in
    absurd (omega (arith, same))
same_event (event.Line t1 p1) event.Save h =
    let same : ◌≡◌ {A = ℕ} 1 3 = cons_head 1 3 (bytes_2 t1 ++ bytes_2 p1) (bytes_2 0 ++ bytes_2 0) h in
    absurd (omega (arith, same))
same_event (event.Line t1 p1) event.Restore h =
    let same : ◌≡◌ {A = ℕ} 1 4 = cons_head 1 4 (bytes_2 t1 ++ bytes_2 p1) (bytes_2 0 ++ bytes_2 0) h in
    absurd (omega (arith, same))
same_event event.Char (event.Line t2 p2) h =
    let same : ◌≡◌ {A = ℕ} 2 1 = cons_head 2 1 (bytes_2 0 ++ bytes_2 0) (bytes_2 t2 ++ bytes_2 p2) h in
    absurd (omega (arith, same))
same_event event.Char event.Char h = refl
same_event event.Char event.Save h = let same : ◌≡◌ {A = ℕ} 2 3 = cons_head 2 3 (bytes_2 0 ++ bytes_2 0)
    (bytes_2 0 ++ bytes_2 0) h in absurd (omega (arith, same))
same_event event.Char event.Restore h =
    let same : ◌≡◌ {A = ℕ} 2 4 = cons_head 2 4 (bytes_2 0 ++ bytes_2 0) (bytes_2 0 ++ bytes_2 0) h in
    absurd (omega (arith, same))
same_event event.Save (event.Line t2 p2) h =
    let same : ◌≡◌ {A = ℕ} 3 1 = cons_head 3 1 (bytes_2 0 ++ bytes_2 0) (bytes_2 t2 ++ bytes_2 p2) h in
    absurd (omega (arith, same))
same_event event.Save event.Char h = let same : ◌≡◌ {A = ℕ} 3 2 = cons_head 3 2 (bytes_2 0 ++ bytes_2 0)
    (bytes_2 0 ++ bytes_2 0) h in absurd (omega (arith, same))
same_event event.Save event.Save h = refl
same_event event.Save event.Restore h =
    let same : ◌≡◌ {A = ℕ} 3 4 = cons_head 3 4 (bytes_2 0 ++ bytes_2 0) (bytes_2 0 ++ bytes_2 0) h in
    absurd (omega (arith, same))
same_event event.Restore (event.Line t2 p2) h =
    let same : ◌≡◌ {A = ℕ} 4 1 = cons_head 4 1 (bytes_2 0 ++ bytes_2 0) (bytes_2 t2 ++ bytes_2 p2) h in
    absurd (omega (arith, same))
same_event event.Restore event.Char h =
    let same : ◌≡◌ {A = ℕ} 4 2 = cons_head 4 2 (bytes_2 0 ++ bytes_2 0) (bytes_2 0 ++ bytes_2 0) h in
    absurd (omega (arith, same))
same_event event.Restore event.Save h =
    let same : ◌≡◌ {A = ℕ} 4 3 = cons_head 4 3 (bytes_2 0 ++ bytes_2 0) (bytes_2 0 ++ bytes_2 0) h in
    absurd (omega (arith, same))
same_event event.Restore event.Restore h = refl

event_size : (e : Event) → length (event_bytes e) ≡ 5
unfolding event_bytes
event_size (event.Line t p) = refl
event_size event.Char = refl
event_size event.Save = refl
event_size event.Restore = refl

-- ---- numbers

limits_size : (l : Limits) → length (limits_bytes l) ≡ 11
unfolding limits_bytes
limits_size l = refl

-- what stands of limits after the words
abbrev after_words : Limits → List ℕ
after_words l = l.undo ∷ bytes_4 l.steps ++ (l.screen.columns ∷ truth_byte l.screen.styles ∷ [])

same_limits : (l m : Limits) → limits_bytes l ≡ limits_bytes m → l ≡ m
unfolding limits_bytes
same_limits l m h =
    let lc = l.screen.columns ∷ truth_byte l.screen.styles ∷ [] in
    let mc = m.screen.columns ∷ truth_byte m.screen.styles ∷ [] in
    let one = split_same (bytes_2 l.frames) (bytes_2 m.frames) (bytes_2 l.words ++ after_words l)
    (bytes_2 m.words ++ after_words m) refl h in
    let two = split_same (bytes_2 l.words) (bytes_2 m.words) (after_words l) (after_words m) refl one.1 in
    let undo = cons_head l.undo m.undo (bytes_4 l.steps ++ lc) (bytes_4 m.steps ++ mc) two.1 in
    let three = split_same (bytes_4 l.steps) (bytes_4 m.steps) lc mc refl
    (cons_tail l.undo m.undo (bytes_4 l.steps ++ lc) (bytes_4 m.steps ++ mc) two.1) in
    let columns = cons_head l.screen.columns m.screen.columns (truth_byte l.screen.styles ∷ [])
    (truth_byte m.screen.styles ∷ []) three.1 in
    let styles = same_truth l.screen.styles m.screen.styles (cons_head (truth_byte l.screen.styles)
    (truth_byte m.screen.styles) [] [] (cons_tail l.screen.columns m.screen.columns (truth_byte l.screen.styles ∷ [])
    (truth_byte m.screen.styles ∷ []) three.1)) in
    joined l.frames m.frames l.words m.words l.undo m.undo l.steps m.steps l.screen m.screen
    (same_2 l.frames m.frames one.0) (same_2 l.words m.words two.0) undo (same_4 l.steps m.steps three.0)
    (ap (λ (k : ℕ). screen_made k l.screen.styles) columns ∙ ap (λ (b : Bool). screen_made m.screen.columns b) styles)
  where
    screen_made : ℕ → Bool → ScreenSetup
    screen_made c b = record { columns = c; styles = b }

    made : ℕ → ℕ → ℕ → ℕ → ScreenSetup → Limits
    made f w u s d = record { frames = f; words = w; undo = u; steps = s; screen = d }

    joined : (f g w v u x s t : ℕ) (c d : ScreenSetup) → f ≡ g → w ≡ v → u ≡ x → s ≡ t → c ≡ d
        → made f w u s c ≡ made g v x t d
    joined f g w v u x s t c d e1 e2 e3 e4 e5 = ap (λ (k : ℕ). made k w u s c) e1 ∙ ap (λ (k : ℕ). made g k u s c) e2
        ∙ ap (λ (k : ℕ). made g v k s c) e3 ∙ ap (λ (k : ℕ). made g v x k c) e4
        ∙ ap (λ (k : ScreenSetup). made g v x t k) e5

place_size : (p : Place) → length (place_bytes p) ≡ 12
unfolding place_bytes
place_size p = refl

same_place : (p q : Place) → place_bytes p ≡ place_bytes q → p ≡ q
unfolding place_bytes
same_place p q h =
    let one = split_same (bytes_4 p.pc) (bytes_4 q.pc) (bytes_4 p.steps ++ bytes_4 p.reads)
    (bytes_4 q.steps ++ bytes_4 q.reads) refl h in
    let two = split_same (bytes_4 p.steps) (bytes_4 q.steps) (bytes_4 p.reads) (bytes_4 q.reads) refl one.1 in
    joined p.pc q.pc p.steps q.steps p.reads q.reads (same_4 p.pc q.pc one.0) (same_4 p.steps q.steps two.0)
    (same_4 p.reads q.reads two.1)
  where
    made : ℕ → ℕ → ℕ → Place
    made a b c = record { pc = a; steps = b; reads = c }

    joined : (a x b y c z : ℕ) → a ≡ x → b ≡ y → c ≡ z → made a b c ≡ made x y z
    joined a x b y c z e1 e2 e3 =
        ap (λ (k : ℕ). made k b c) e1 ∙ ap (λ (k : ℕ). made x k c) e2 ∙ ap (λ (k : ℕ). made x y k) e3

same_asked : (p q : Asking) (a b : List ℕ) → asking_bytes (Some p) ++ a ≡ asking_bytes (Some q) ++ b → (p ≡ q) × (a ≡ b)
unfolding asking_bytes
same_asked p q a b h =
    let whole = sym (append_assoc (event_bytes p.event ++ bytes_4 p.next) (store_bytes p.store) a
    ∙ append_assoc (event_bytes p.event) (bytes_4 p.next) (store_bytes p.store ++ a)) ∙ h
    ∙ append_assoc (event_bytes q.event ++ bytes_4 q.next) (store_bytes q.store) b
    ∙ append_assoc (event_bytes q.event) (bytes_4 q.next) (store_bytes q.store ++ b) in
    let one = split_same (event_bytes p.event) (event_bytes q.event)
    (bytes_4 p.next ++ (store_bytes p.store ++ a)) (bytes_4 q.next ++ (store_bytes q.store ++ b))
    (event_size p.event ∙ sym (event_size q.event)) whole in
    let two = split_same (bytes_4 p.next) (bytes_4 q.next) (store_bytes p.store ++ a) (store_bytes q.store ++ b)
    refl one.1 in
    let three = split_same (store_bytes p.store) (store_bytes q.store) a b
    (store_size p.store ∙ sym (store_size q.store)) two.1 in (
      joined p.event q.event p.next q.next p.store q.store (same_event p.event q.event one.0)
          (same_4 p.next q.next two.0) (same_store p.store q.store three.0),
      three.1,
    )
  where
    made : Event → ℕ → Option ℕ → Asking
    made e n s = record { event = e; next = n; store = s }

    joined : (e f : Event) (n k : ℕ) (s t : Option ℕ) → e ≡ f → n ≡ k → s ≡ t → made e n s ≡ made f k t
    joined e f n k s t e1 e2 e3 =
        ap (λ (x : Event). made x n s) e1 ∙ ap (λ (x : ℕ). made f x s) e2 ∙ ap (λ (x : Option ℕ). made f k x) e3

same_asking : (x y : Option Asking) (p q : Asking) (a b : List ℕ) → x ≡ Some p → y ≡ Some q
    → asking_bytes x ++ a ≡ asking_bytes y ++ b → (x ≡ y) × (a ≡ b)
same_asking x y p q a b e f h =
    let both = same_asked p q a b (sym (ap (λ (z : Option Asking). asking_bytes z ++ a) e) ∙ h
    ∙ ap (λ (z : Option Asking). asking_bytes z ++ b) f) in
    (e ∙ ap (λ (z : Asking). Some z) both.0 ∙ sym f, both.1)

generators_size : (g : Generators) → length (generators_bytes g) ≡ 17
unfolding generators_bytes
generators_size g = by g.predictable
  where
    by : (x : Option ℕ) → length (bytes_8 g.free ++ state_bytes x) ≡ 17
    by x = omega (arith, state_size x)

same_generators : (g k : Generators) → generators_bytes g ≡ generators_bytes k → g ≡ k
unfolding generators_bytes
same_generators g k h =
    let both = split_same (bytes_8 g.free) (bytes_8 k.free) (state_bytes g.predictable)
    (state_bytes k.predictable) refl h in
    joined g.free k.free g.predictable k.predictable (same_8 g.free k.free both.0)
    (same_state g.predictable k.predictable both.1)
  where
    made : ℕ → Option ℕ → Generators
    made f p = record { free = f; predictable = p }

    joined : (f g : ℕ) (p q : Option ℕ) → f ≡ g → p ≡ q → made f p ≡ made g q
    joined f g p q e1 e2 = ap (λ (x : ℕ). made x p) e1 ∙ ap (λ (x : Option ℕ). made g x) e2

-- ---- the windows

-- what stands after the width, and after the window that is selected
abbrev after_width : Windows → List ℕ → List ℕ
after_width w a = bytes_2 w.row ++ (bytes_2 w.column ++ (window_byte w.selected ∷ style_byte w.style
    ∷ truth_byte w.fixed_font ∷ (rows_bytes 255 w ++ a)))

abbrev after_window : Windows → List ℕ → List ℕ
after_window w a = style_byte w.style ∷ truth_byte w.fixed_font ∷ (rows_bytes 255 w ++ a)

same_windows : (w v : Windows) (a b : List ℕ) → windows_bytes w ++ a ≡ windows_bytes v ++ b
    → (forgotten w ≡ forgotten v) × (a ≡ b)
unfolding windows_bytes
same_windows w v a b h =
    let r = rows_bytes 255 w ++ a in
    let q = rows_bytes 255 v ++ b in
    let height = cons_head w.height v.height (w.width ∷ after_width w a) (v.width ∷ after_width v b) h in
    let one = cons_tail w.height v.height (w.width ∷ after_width w a) (v.width ∷ after_width v b) h in
    let width = cons_head w.width v.width (after_width w a) (after_width v b) one in
    let two = cons_tail w.width v.width (after_width w a) (after_width v b) one in
    let row = split_same (bytes_2 w.row) (bytes_2 v.row) (bytes_2 w.column ++ (window_byte w.selected
    ∷ after_window w a)) (bytes_2 v.column ++ (window_byte v.selected ∷ after_window v b)) refl two in
    let column = split_same (bytes_2 w.column) (bytes_2 v.column) (window_byte w.selected ∷ after_window w a)
    (window_byte v.selected ∷ after_window v b) refl row.1 in
    let selected = same_window w.selected v.selected (cons_head (window_byte w.selected) (window_byte v.selected)
    (after_window w a) (after_window v b) column.1) in
    let three = cons_tail (window_byte w.selected) (window_byte v.selected) (after_window w a) (after_window v b)
    column.1 in
    let style = same_style w.style v.style (cons_head (style_byte w.style) (style_byte v.style)
    (truth_byte w.fixed_font ∷ r) (truth_byte v.fixed_font ∷ q) three) in
    let four = cons_tail (style_byte w.style) (style_byte v.style) (truth_byte w.fixed_font ∷ r)
    (truth_byte v.fixed_font ∷ q) three in
    let font = same_truth w.fixed_font v.fixed_font (cons_head (truth_byte w.fixed_font) (truth_byte v.fixed_font) r q
    four) in
    let rows = same_rows 255 w v a b (cons_tail (truth_byte w.fixed_font) (truth_byte v.fixed_font) r q four) in (
      windows_same w v (cells_same w v rows.0) height width (same_2 w.row v.row row.0)
          (same_2 w.column v.column column.0) selected style font,
      rows.1,
    )

-- ---- frames

frames_joined : (s t : FrameList) → frames_of s ≡ frames_of t → bounds_of s ≡ bounds_of t → s ≡ t
unfolding bounds_of
frames_joined s t h b =
    let current : s.current ≡ t.current = cc in
    let callers : s.callers ≡ t.callers = cc in
    ap (λ (x : Frame). made x s.callers s.most_frames s.most_words) current
    ∙ ap (λ (x : List Frame). made t.current x s.most_frames s.most_words) callers
    ∙ ap (λ (x : ℕ). made t.current t.callers x s.most_words) (ap (λ (p : ℕ × ℕ). p.0) b)
    ∙ ap (λ (x : ℕ). made t.current t.callers t.most_frames x) (ap (λ (p : ℕ × ℕ). p.1) b)
  where
    made : Frame → List Frame → ℕ → ℕ → FrameList
    made c l f w = record { current = c; callers = l; most_frames = f; most_words = w }

-- ---- memory

same_memory : (m n : MemoryMap) → IsOfFile m → IsOfFile n → m.file ≡ n.file → m.setup ≡ n.setup
    → take m.static_base m.bytes ≡ take n.static_base n.bytes → m ≡ n
same_memory m n is also file undo front =
    let version : m.version ≡ n.version = is.version ∙ ap (λ (f : List ℕ). (header_of f).version) file
    ∙ sym also.version in
    let base : m.static_base ≡ n.static_base = is.static_base ∙ ap (λ (f : List ℕ). (header_of f).static_base)
    file ∙ sym also.static_base in
    let rest : drop m.static_base m.bytes ≡ drop n.static_base n.bytes = is.keeps
    ∙ ap (λ (k : ℕ). drop k m.file) base ∙ ap (λ (f : List ℕ). drop n.static_base f) file ∙ sym also.keeps in
    let bytes : m.bytes ≡ n.bytes = sym (take-append-drop m.static_base m.bytes)
    ∙ ap (λ (l : List ℕ). l ++ drop m.static_base m.bytes) front
    ∙ ap (λ (l : List ℕ). take n.static_base n.bytes ++ l) rest ∙ take-append-drop n.static_base n.bytes in
    ap (λ (x : ℕ). made x m.static_base m.bytes m.file m.setup) version
    ∙ ap (λ (x : ℕ). made n.version x m.bytes m.file m.setup) base
    ∙ ap (λ (x : List ℕ). made n.version n.static_base x m.file m.setup) bytes
    ∙ ap (λ (x : List ℕ). made n.version n.static_base n.bytes x m.setup) file
    ∙ ap (λ (x : Setup). made n.version n.static_base n.bytes n.file x) undo
  where
    made : ℕ → ℕ → List ℕ → List ℕ → Setup → MemoryMap
    made v s b f u = record { version = v; static_base = s; bytes = b; file = f; setup = u }

dynamic_size : (m n : MemoryMap) → IsOfFile m → IsOfFile n → m.file ≡ n.file
    → length (take m.static_base m.bytes) ≡ length (take n.static_base n.bytes)
dynamic_size m n is also file =
    let base : m.static_base ≡ n.static_base = is.static_base ∙ ap (λ (f : List ℕ). (header_of f).static_base)
    file ∙ sym also.static_base in
    let size : length m.bytes ≡ length n.bytes = is.size ∙ ap (λ (f : List ℕ). length f) file ∙ sym also.size in
    length-take m.static_base m.bytes ∙ ap (λ (k : ℕ). min k (length m.bytes)) base
    ∙ ap (λ (k : ℕ). min n.static_base k) size ∙ sym (length-take n.static_base n.bytes)

-- ---- the game state

tables_same : (ts us : List OpenTable) (a b : List ℕ) → length ts ≡ length us → flat_map table_bytes ts
    ++ a ≡ flat_map table_bytes us ++ b → (ts ≡ us) × (a ≡ b)
tables_same [] [] a b e h = (refl, h)
tables_same [] (u ∷ us) a b e h = absurd (omega (arith, e))
tables_same (t ∷ ts) [] a b e h = absurd (omega (arith, e))
tables_same (t ∷ ts) (u ∷ us) a b e h =
    let more = flat_map table_bytes ts ++ a in
    let others = flat_map table_bytes us ++ b in
    let one = split_same (bytes_2 t.address) (bytes_2 u.address) (bytes_2 t.count ++ more)
    (bytes_2 u.count ++ others) refl h in
    let two = split_same (bytes_2 t.count) (bytes_2 u.count) more others refl one.1 in
    let rest = tables_same ts us a b (omega (arith, e)) two.1 in (
      joined t.address u.address t.count u.count ts us (same_2 t.address u.address one.0)
          (same_2 t.count u.count two.0) rest.0,
      rest.1,
    )
  where
    made : ℕ → ℕ → List OpenTable → List OpenTable
    made a c ts = record { address = a; count = c } ∷ ts

    joined : (a b c d : ℕ) (ts us : List OpenTable) → a ≡ b → c ≡ d → ts ≡ us → made a c ts ≡ made b d us
    joined a b c d ts us e1 e2 e3 =
        ap (λ (x : ℕ). made x c ts) e1 ∙ ap (λ (x : ℕ). made b x ts) e2 ∙ ap (λ (x : List OpenTable). made b d x) e3

streams_same : (s t : OutputStreams) (a b : List ℕ) → streams_bytes s ++ a ≡ streams_bytes t ++ b → (s ≡ t) × (a ≡ b)
unfolding streams_bytes
streams_same s t a b h =
    let st = length s.tables ∷ (flat_map table_bytes s.tables ++ a) in
    let tt_ = length t.tables ∷ (flat_map table_bytes t.tables ++ b) in
    let screen = same_truth s.screen t.screen (cons_head (truth_byte s.screen) (truth_byte t.screen) st tt_ h) in
    let h1 = cons_tail (truth_byte s.screen) (truth_byte t.screen) st tt_ h in
    let many = cons_head (length s.tables) (length t.tables) (flat_map table_bytes s.tables ++ a)
    (flat_map table_bytes t.tables ++ b) h1 in
    let tables = tables_same s.tables t.tables a b many
    (cons_tail (length s.tables) (length t.tables) (flat_map table_bytes s.tables ++ a)
    (flat_map table_bytes t.tables ++ b) h1) in
    (ap (λ (x : Bool). made x s.tables) screen ∙ ap (λ (x : List OpenTable). made t.screen x) tables.0, tables.1)
  where
    made : Bool → List OpenTable → OutputStreams
    made b l = record { screen = b; tables = l }

games_joined : (g k : GameState) → g.frames ≡ k.frames → g.memory ≡ k.memory → g.streams ≡ k.streams
    → forgotten g.windows ≡ forgotten k.windows → g.generators ≡ k.generators → g.at_line_start ≡ k.at_line_start
    → g.view ≡ k.view → without_gone g ≡ without_gone k
games_joined g k e1 e2 e3 e4 e5 e6 e7 =
    ap (λ (x : FrameList). made x g.memory g.streams (forgotten g.windows) g.generators g.at_line_start g.view) e1
    ∙ ap (λ (x : MemoryMap). made k.frames x g.streams (forgotten g.windows) g.generators g.at_line_start g.view) e2
    ∙ ap (λ (x : OutputStreams). made k.frames k.memory x (forgotten g.windows) g.generators g.at_line_start g.view) e3
    ∙ ap (λ (x : Windows). made k.frames k.memory k.streams x g.generators g.at_line_start g.view) e4
    ∙ ap (λ (x : Generators). made k.frames k.memory k.streams (forgotten k.windows) x g.at_line_start g.view) e5
    ∙ ap (λ (x : Bool). made k.frames k.memory k.streams (forgotten k.windows) k.generators x g.view) e6
    ∙ ap (λ (x : View). made k.frames k.memory k.streams (forgotten k.windows) k.generators k.at_line_start x) e7
  where
    made : FrameList → MemoryMap → OutputStreams → Windows → Generators → Bool → View → GameState
    made f m s w r l v =
        record { frames = f; memory = m; streams = s; windows = w; generators = r; at_line_start = l; view = v }

-- the parts after the view and the screen's last line
rest_of : GameState → List ℕ → List ℕ
rest_of g a =
    streams_bytes g.streams ++ (generators_bytes g.generators
    ++ (windows_bytes g.windows ++ (take g.memory.static_base g.memory.bytes
    ++ (frames_bytes (frames_of g.frames) ++ a))))

game_is : (g : GameState) (a : List ℕ) → game_bytes g ++ a ≡ view_byte g.view ∷ truth_byte g.at_line_start ∷ rest_of g a
unfolding game_bytes rest_of
game_is g a =
    let v = view_byte g.view ∷ truth_byte g.at_line_start ∷ [] in
    let s = streams_bytes g.streams in
    let r = generators_bytes g.generators in
    let w = windows_bytes g.windows in
    let m = take g.memory.static_base g.memory.bytes in
    let f = frames_bytes (frames_of g.frames) in
    append_assoc (v ++ s ++ r ++ w ++ m) f a ∙ append_assoc (v ++ s ++ r ++ w) m (f ++ a)
    ∙ append_assoc (v ++ s ++ r) w (m ++ (f ++ a)) ∙ append_assoc (v ++ s) r (w ++ (m ++ (f ++ a)))
    ∙ append_assoc v s (r ++ (w ++ (m ++ (f ++ a))))

same_game : (g k : GameState) (a b : List ℕ) → IsOfFile g.memory → IsOfFile k.memory
    → g.memory.file ≡ k.memory.file → g.memory.setup ≡ k.memory.setup
    → bounds_of g.frames ≡ bounds_of k.frames → game_bytes g ++ a ≡ game_bytes k ++ b
    → (without_gone g ≡ without_gone k) × (a ≡ b)
unfolding rest_of
same_game g k a b is also file undo bounds h =
    let gm = take g.memory.static_base g.memory.bytes in
    let km = take k.memory.static_base k.memory.bytes in
    let gf = frames_bytes (frames_of g.frames) ++ a in
    let kf = frames_bytes (frames_of k.frames) ++ b in
    let h0 = sym (game_is g a) ∙ h ∙ game_is k b in
    let view = same_view g.view k.view (cons_head (view_byte g.view) (view_byte k.view)
    (truth_byte g.at_line_start ∷ rest_of g a) (truth_byte k.at_line_start ∷ rest_of k b) h0) in
    let h1 = cons_tail (view_byte g.view) (view_byte k.view) (truth_byte g.at_line_start ∷ rest_of g a)
    (truth_byte k.at_line_start ∷ rest_of k b) h0 in
    let start = same_truth g.at_line_start k.at_line_start
    (cons_head (truth_byte g.at_line_start) (truth_byte k.at_line_start) (rest_of g a) (rest_of k b) h1) in
    let h2 = cons_tail (truth_byte g.at_line_start) (truth_byte k.at_line_start) (rest_of g a) (rest_of k b) h1 in
    let zero_ = streams_same g.streams k.streams (generators_bytes g.generators
    ++ (windows_bytes g.windows ++ (gm ++ gf))) (generators_bytes k.generators
    ++ (windows_bytes k.windows ++ (km ++ kf))) h2 in
    let one = split_same (generators_bytes g.generators) (generators_bytes k.generators)
    (windows_bytes g.windows ++ (gm ++ gf)) (windows_bytes k.windows ++ (km ++ kf))
    (generators_size g.generators ∙ sym (generators_size k.generators)) zero_.1 in
    let two = same_windows g.windows k.windows (gm ++ gf) (km ++ kf) one.1 in
    let three = split_same gm km gf kf (dynamic_size g.memory k.memory is also file) two.1 in
    let four = same_all_frames (frames_of g.frames) (frames_of k.frames) a b three.1 in (
      games_joined g k (frames_joined g.frames k.frames four.0 bounds)
          (same_memory g.memory k.memory is also file undo three.0) zero_.0 two.0
          (same_generators g.generators k.generators one.0) start view,
      four.1,
    )

-- ---- the whole

asks : (w : Option Waiting) (e : Event) → event_waited w ≡ Some e → (q : Asking) × (asking_of w ≡ Some q)
asks None e h = absurd cc
asks (Some w) e h = (record { event = w.wait; next = w.instruction.next; store = w.instruction.store }, refl)

same_bodies : (a b : List ℕ) → a ++ bytes_4 (sum_of a) ≡ b ++ bytes_4 (sum_of b) → a ≡ b
same_bodies a b h =
    let sizes = length-append a (bytes_4 (sum_of a)) in
    let others = length-append b (bytes_4 (sum_of b)) in
    let both = ap (λ (l : List ℕ). length l) h in
    (split_same a b (bytes_4 (sum_of a)) (bytes_4 (sum_of b)) (omega (arith, sizes, others, both)) h).0

body_is : (states : List WholeState) (s : Session) → body_bytes states s ≡ head_bytes s.state.game.memory.file
    ++ (limits_bytes s.limits ++ (place_bytes (place_of s)
    ++ (asking_bytes (asking_of s.waiting)
    ++ (game_bytes s.state.game ++ states_bytes s.state.game.memory.file states))))
unfolding body_bytes
body_is states s =
    let h = head_bytes s.state.game.memory.file in
    let l = limits_bytes s.limits in
    let p = place_bytes (place_of s) in
    let q = asking_bytes (asking_of s.waiting) in
    let g = game_bytes s.state.game in
    let u = states_bytes s.state.game.memory.file states in
    append_assoc (h ++ l ++ p ++ q) g u ∙ append_assoc (h ++ l ++ p) q (g ++ u)
    ∙ append_assoc (h ++ l) p (q ++ (g ++ u)) ∙ append_assoc h l (p ++ (q ++ (g ++ u)))

-- what waits is the instruction at the program counter
same_waiting : (x y : Option Waiting) (m n : MemoryMap) (p q : ℕ) → asking_of x ≡ asking_of y
    → IfSome x (λ w. instr_at m p ≡ Ok w.instruction) → IfSome y (λ w. instr_at n q ≡ Ok w.instruction) → m ≡ n
    → p ≡ q → x ≡ y
same_waiting None None m n p q h e f same there = refl
same_waiting None (Some v) m n p q h e f same there = absurd cc
same_waiting (Some w) None m n p q h e f same there = absurd cc
same_waiting (Some w) (Some v) m n p q h e f same there =
    let both : ◌≡◌ {A = Asking} (record {
      event = w.wait;
      next = w.instruction.next;
      store =
          w.instruction.store;
    }) (record {
      event = v.wait;
      next = v.instruction.next;
      store = v.instruction.store;
    }) = cc in
    let one : ◌≡◌ {A = Result Instr Fault} (Ok w.instruction) (Ok v.instruction) = sym e
    ∙ ap (λ (k : MemoryMap). instr_at k p) same ∙ ap (λ (k : ℕ). instr_at n k) there ∙ f in
    let i : w.instruction ≡ v.instruction = cc in
    joined w.wait v.wait w.instruction v.instruction (ap (λ (z : Asking). z.event) both) i
  where
    made : Event → Instr → Option Waiting
    made e i = Some (record { wait = e; instruction = i })

    joined : (e f : Event) (i j : Instr) → e ≡ f → i ≡ j → made e i ≡ made f j
    joined e f i j h k = ap (λ (z : Event). made z i) h ∙ ap (λ (z : Instr). made f z) k

abbrev whole_of : GameState → Place → List ℕ → List WholeState → Limits → Option Waiting → Option Stop
    → Option Signals → Session
whole_of g p d u l w s left =
    record {
      state = record { game = g; pc = p.pc; steps = p.steps; reads = p.reads; due = d; undo = u };
      limits = l;
      waiting = w;
      stopped = s;
      left = left;
    }

plays_joined : (g k : GameState) (p q : Place) (d e : List ℕ) (u x : List WholeState) (l m : Limits)
    (w v : Option Waiting) (s t : Option Stop) (a b : Option Signals) → g ≡ k → p ≡ q → d ≡ e → u ≡ x → l ≡ m → w ≡ v
    → s ≡ t → a ≡ b → whole_of g p d u l w s a ≡ whole_of k q e x m v t b
plays_joined g k p q d e u x l m w v s t a b e1 e2 e3 e4 e5 e6 e7 e8 =
    ap (λ (y : GameState). whole_of y p d u l w s a) e1 ∙ ap (λ (y : Place). whole_of k y d u l w s a) e2
    ∙ ap (λ (y : List ℕ). whole_of k q y u l w s a) e3 ∙ ap (λ (y : List WholeState). whole_of k q e y l w s a) e4
    ∙ ap (λ (y : Limits). whole_of k q e x y w s a) e5 ∙ ap (λ (y : Option Waiting). whole_of k q e x m y s a) e6
    ∙ ap (λ (y : Option Stop). whole_of k q e x m v y a) e7 ∙ ap (λ (y : Option Signals). whole_of k q e x m v t y) e8

same_play : (us vs : List WholeState) (a b : Session) → IsKept a → IsKept b
    → a.state.game.memory.file ≡ b.state.game.memory.file → All (HasBytes a.state.game.memory.static_base) us
    → All (HasBytes b.state.game.memory.static_base) vs → snapshot_with us a ≡ snapshot_with vs b
    → with_kept us a ≡ with_kept vs b
unfolding snapshot_with
same_play us vs a b is also file sized also_sized h =
    let body = sym (body_is us a) ∙ same_bodies (body_bytes us a) (body_bytes vs b) h ∙ body_is vs b in
    let au = states_bytes a.state.game.memory.file us in
    let bu = states_bytes b.state.game.memory.file vs in
    let aq = asking_bytes (asking_of a.waiting) ++ (game_bytes a.state.game ++ au) in
    let bq = asking_bytes (asking_of b.waiting) ++ (game_bytes b.state.game ++ bu) in
    let ap_ = place_bytes (place_of a) ++ aq in
    let bp = place_bytes (place_of b) ++ bq in
    let one = split_same (head_bytes a.state.game.memory.file) (head_bytes b.state.game.memory.file)
    (limits_bytes a.limits ++ ap_) (limits_bytes b.limits ++ bp)
    (ap (λ (f : List ℕ). length (head_bytes f)) file) body in
    let two = split_same (limits_bytes a.limits) (limits_bytes b.limits) ap_ bp
    (limits_size a.limits ∙ sym (limits_size b.limits)) one.1 in
    let three = split_same (place_bytes (place_of a)) (place_bytes (place_of b)) aq bq
    (place_size (place_of a) ∙ sym (place_size (place_of b))) two.1 in
    let p = asks a.waiting is.has.0 is.has.1.0 in
    let q = asks b.waiting also.has.0 also.has.1.0 in
    let four = same_asking (asking_of a.waiting) (asking_of b.waiting) p.0 q.0 (game_bytes a.state.game ++ au)
    (game_bytes b.state.game ++ bu) p.1 q.1 three.1 in
    let limits = same_limits a.limits b.limits two.0 in
    let undo : a.state.game.memory.setup ≡ b.state.game.memory.setup = is.setup
    ∙ ap (λ (l : Limits). setup_of l) limits ∙ sym also.setup in
    let bounds : bounds_of a.state.game.frames ≡ bounds_of b.state.game.frames = is.bounds ∙ ap pair limits
    ∙ sym also.bounds in
    let game = same_game a.state.game b.state.game au bu is.of_file also.of_file file undo bounds four.1 in
    let place = same_place (place_of a) (place_of b) three.0 in
    let waiting = same_waiting a.waiting b.waiting a.state.game.memory b.state.game.memory a.state.pc b.state.pc
    four.0 is.fetched also.fetched (ap (λ (g : GameState). g.memory) game.0) (ap (λ (p : Place). p.pc) place) in
    let base : b.state.game.memory.static_base ≡ a.state.game.memory.static_base =
    ap (λ (g : GameState). g.memory.static_base) (sym game.0) in
    let others = rw base at also_sized in
    let states = same_states a.state.game.memory.file a.state.game.memory.static_base us vs is.within sized others
    (game.1 ∙ ap (λ (f : List ℕ). states_bytes f vs) (sym file)) in
    plays_joined (without_gone a.state.game) (without_gone b.state.game) (place_of a) (place_of b) a.state.due
    b.state.due us vs a.limits b.limits a.waiting b.waiting a.stopped b.stopped a.left b.left game.0 place
    (is.due ∙ sym also.due) states limits waiting (is.stopped ∙ sym also.stopped) (is.left ∙ sym also.left)
  where
    pair : Limits → ℕ × ℕ
    pair l = (l.frames, l.words)

pub one_play : (a b : Session) → IsKept a → IsKept b → a.state.game.memory.file ≡ b.state.game.memory.file
    → IsOfOnePlay a b
one_play a b is also file m n h =
    same_play (newest m a) (newest n b) a b is also file
    (All-take (HasBytes a.state.game.memory.static_base) m a.state.undo is.sized)
    (All-take (HasBytes b.state.game.memory.static_base) n b.state.undo also.sized) h
