-- The rows of the upper window, and the frames, are read back in one way alone.
use Rattle.std.specs.List.{flat_map}
use Rattle.std.specs.Prelude.{map, not, reverse, ◌==◌, ◌||◌, if◌then◌else◌, nat_eq}
use Rattle.std.proofs.Common.{◌≡◌, ◌∙◌, ◌<◌, ◌≤◌, ℕ, zero, suc, Bool, true, false, ◌+◌, List, [], ◌∷◌, ◌++◌, length}
use Rattle.std.proofs.Common.{Option, Some, None, refl, ap, sym, arith, append_assoc}
use Rattle.std.proofs.lemmas.Bool.{and_parts, eqb-true}
use Rattle.std.proofs.lemmas.Bool.Decides.{nat_tests}
use Rattle.std.proofs.lemmas.List.{length-reverse, reverse-reverse}
use Rattle.zk_save.specs.Quetzal.{bytes_2, bytes_4, words_bytes}
use Rattle.zk_state.specs.Frames.{Frame}
use Rattle.zk_term.specs.Grid.{Cells, blank, is_blank, no_cells}
use Rattle.zk_term.specs.GridCode.{is_on_grid-true, same_cells}
use Rattle.zk_term.specs.Windows.{Windows, before_blanks, columns_from, forgotten, row_cells, without_last}
use Rattle.zk_term.specs.Styles.{roman}
use Rattle.zk_term.specs.declared.style.Style.{Style}
use Rattle.zk_term.specs.declared.windows.Cell.{Cell}
use Rattle.zk_term.specs.declared.windows.Window.{Window}
use Rattle.zk_snapshot.specs.Snapshots.{cell_bytes, store_bytes, row_bytes, rows_bytes, frame_bytes, frames_bytes}
use Rattle.zk_snapshot.proofs.Codes.{cons_head, cons_tail, split_same, same_2, same_4, same_store, store_size}
use Rattle.zk_snapshot.proofs.Codes.{words_size, same_words, cells_size, same_cells_of}

-- ---- rows

pub same_row : (xs ys : List Cell) (a b : List ℕ) → row_bytes xs ++ a ≡ row_bytes ys ++ b → (xs ≡ ys) × (a ≡ b)
unfolding row_bytes
same_row xs ys a b h =
    let many : length xs ≡ length ys = cons_head (length xs) (length ys) (flat_map cell_bytes xs ++ a)
    (flat_map cell_bytes ys ++ b) h in
    let rest = split_same (flat_map cell_bytes xs) (flat_map cell_bytes ys) a b
    (omega (arith, many, cells_size xs, cells_size ys))
    (cons_tail (length xs) (length ys) (flat_map cell_bytes xs ++ a) (flat_map cell_bytes ys ++ b) h) in
    (same_cells_of xs ys many rest.0, rest.1)

pub same_rows : (n : ℕ) (w v : Windows) (a b : List ℕ) → rows_bytes n w ++ a ≡ rows_bytes n v ++ b
    → (rows_bytes n w ≡ rows_bytes n v) × (a ≡ b)
unfolding rows_bytes
same_rows zero w v a b h = (refl, h)
same_rows (suc n) w v a b h =
    let r = row_bytes (row_cells w (suc n)) in
    let q = row_bytes (row_cells v (suc n)) in
    let whole : rows_bytes n w ++ (r ++ a) ≡ rows_bytes n v ++ (q ++ b) = sym (append_assoc (rows_bytes n w) r a)
    ∙ h ∙ append_assoc (rows_bytes n v) q b in
    let before = same_rows n w v (r ++ a) (q ++ b) whole in
    let here = same_row (row_cells w (suc n)) (row_cells v (suc n)) a b before.1 in
    (both (rows_bytes n w) (rows_bytes n v) (row_cells w (suc n)) (row_cells v (suc n)) before.0 here.0, here.1)
  where
    both : (x y : List ℕ) (r q : List Cell) → x ≡ y → r ≡ q → x ++ row_bytes r ≡ y ++ row_bytes q
    both x y r q e h = cc

row_of_rows : (n : ℕ) (w v : Windows) (k : ℕ) → rows_bytes n w ≡ rows_bytes n v → 1 ≤ k → k ≤ n
    → row_cells w k ≡ row_cells v k
unfolding rows_bytes
row_of_rows zero w v k h from to = absurd (omega (arith, from, to))
row_of_rows (suc n) w v k h from to =
    let r = row_bytes (row_cells w (suc n)) in
    let q = row_bytes (row_cells v (suc n)) in
    let before = same_rows n w v r q h in
    let last = same_row (row_cells w (suc n)) (row_cells v (suc n)) [] [] (ap (λ (l : List ℕ). l ++ []) before.1) in
    by (nat_eq k (suc n)) refl last.0 (λ few. row_of_rows n w v k before.0 from few)
  where
    by : (p : Bool) → nat_eq k (suc n) ≡ p → row_cells w (suc n) ≡ row_cells v (suc n)
        → (k ≤ n → row_cells w k ≡ row_cells v k) → row_cells w k ≡ row_cells v k
    by true e last before = let is : k ≡ suc n = eqb-true k (suc n) e in rw is last
    by false e last before = before (grind (arith, nat_tests, e, to))

-- ---- a row's cells

style_blank : (a b c d : Bool) → not (a || b || c || d) ≡ true
    → ◌≡◌ {A = Style} (record { reverse = a; bold = b; italic = c; fixed = d }) roman
style_blank false false false false h = refl
style_blank true b c d h = absurd cc
style_blank false true c d h = absurd cc
style_blank false false true d h = absurd cc
style_blank false false false true h = absurd cc

blank_is : (c : Cell) → is_blank c ≡ true → c ≡ blank
blank_is c h =
    let both = and_parts (c.character == 32) _ h in
    ap (λ (k : ℕ). made k c.style) (eqb-true c.character 32 both.0)
    ∙ ap (λ (s : Style). made 32 s) (style_blank c.style.reverse c.style.bold c.style.italic c.style.fixed both.1)
  where
    made : ℕ → Style → Cell
    made k s = record { character = k; style = s }

blank_or : (x y : Cell) (p q : Bool) → is_blank x ≡ p → is_blank y ≡ q
    → (if p then [] else x ∷ []) ≡ (if q then [] else y ∷ []) → x ≡ y
blank_or x y true true e f h = blank_is x e ∙ sym (blank_is y f)
blank_or x y true false e f h = absurd cc
blank_or x y false true e f h = absurd cc
blank_or x y false false e f h = cons_head x y [] [] h

no_more : (x y c : Cell) (cs : List Cell) (p : Bool) → (if p then [] else x ∷ []) ≡ y ∷ c ∷ cs → ⊥
no_more x y c cs true h = absurd cc
no_more x y c cs false h = let none : ◌≡◌ {A = List Cell} [] (c ∷ cs) = cons_tail x y [] (c ∷ cs) h in absurd cc

before_same : (x y : Cell) (p q : List Cell) → before_blanks is_blank x p ≡ before_blanks is_blank y q
    → (x ≡ y) × (p ≡ q)
before_same x y [] [] h = (blank_or x y (is_blank x) (is_blank y) refl refl h, refl)
before_same x y [] (c ∷ cs) h = absurd (no_more x y c cs (is_blank x) h)
before_same x y (c ∷ cs) [] h = absurd (no_more y x c cs (is_blank y) (sym h))
before_same x y (c ∷ cs) (d ∷ ds) h = (cons_head x y (c ∷ cs) (d ∷ ds) h, cons_tail x y (c ∷ cs) (d ∷ ds) h)

text_whole : (xs ys : List Cell) → length xs ≡ length ys → without_last is_blank xs ≡ without_last is_blank ys → xs ≡ ys
unfolding without_last
text_whole [] [] e h = refl
text_whole [] (y ∷ ys) e h = absurd (omega (arith, e))
text_whole (x ∷ xs) [] e h = absurd (omega (arith, e))
text_whole (x ∷ xs) (y ∷ ys) e h =
    let both = before_same x y (without_last is_blank xs) (without_last is_blank ys) h in
    joined x y xs ys both.0 (text_whole xs ys (omega (arith, e)) both.1)
  where
    joined : (x y : Cell) (xs ys : List Cell) → x ≡ y → xs ≡ ys → x ∷ xs ≡ y ∷ ys
    joined x y xs ys e h = cc

same_lengths : (f g : ℕ → Cell) (ks : List ℕ) → length (map f ks) ≡ length (map g ks)
same_lengths f g [] = refl
same_lengths f g (k ∷ ks) = omega (arith, same_lengths f g ks)

column_same : (f g : ℕ → Cell) (n start k : ℕ) → map f (columns_from start n) ≡ map g (columns_from start n)
    → start ≤ k → k < start + n → f k ≡ g k
unfolding columns_from
column_same f g zero start k h from to = absurd (omega (arith, from, to))
column_same f g (suc n) start k h from to =
    by (nat_eq k start) refl (λ later. column_same f g n (start + 1) k
    (cons_tail (f start) (g start) (map f (columns_from (start + 1) n)) (map g (columns_from (start + 1) n))
    h) later (omega (arith, to))) (cons_head (f start) (g start) (map f (columns_from (start + 1) n))
    (map g (columns_from (start + 1) n)) h)
  where
    by : (p : Bool) → nat_eq k start ≡ p → (start + 1 ≤ k → f k ≡ g k) → f start ≡ g start → f k ≡ g k
    by true e others first = let is : k ≡ start = eqb-true k start e in rw is first
    by false e others first = others (grind (arith, nat_tests, e, from))

cell_same : (w v : Windows) (row column : ℕ) → row_cells w row ≡ row_cells v row → 1 ≤ column → column ≤ 255
    → w.cells.at row column ≡ v.cells.at row column
unfolding row_cells
cell_same w v row column h from to =
    let whole = text_whole (map (w.cells.at row) (columns_from 1 255)) (map (v.cells.at row) (columns_from 1 255))
    (same_lengths (w.cells.at row) (v.cells.at row) (columns_from 1 255)) h in
    column_same (w.cells.at row) (v.cells.at row) 255 1 column whole from (omega (arith, to))

pub cells_same : (w v : Windows) → rows_bytes 255 w ≡ rows_bytes 255 v → w.cells ≡ v.cells
cells_same w v h = same_cells w.cells v.cells (λ row column on.
    let there = is_on_grid-true row column on in
    cell_same w v row column (row_of_rows 255 w v row h there.row_from there.row_to) there.column_from there.column_to)

pub windows_same : (w v : Windows) → w.cells ≡ v.cells → w.height ≡ v.height → w.width ≡ v.width → w.row ≡ v.row
    → w.column ≡ v.column → w.selected ≡ v.selected → w.style ≡ v.style → w.fixed_font ≡ v.fixed_font
    → forgotten w ≡ forgotten v
unfolding forgotten
windows_same w v e1 e2 e3 e4 e5 e6 e7 e8 =
    ap (λ (x : Cells). made x w.height w.width w.row w.column w.selected w.style w.fixed_font) e1
    ∙ ap (λ (x : ℕ). made v.cells x w.width w.row w.column w.selected w.style w.fixed_font) e2
    ∙ ap (λ (x : ℕ). made v.cells v.height x w.row w.column w.selected w.style w.fixed_font) e3
    ∙ ap (λ (x : ℕ). made v.cells v.height v.width x w.column w.selected w.style w.fixed_font) e4
    ∙ ap (λ (x : ℕ). made v.cells v.height v.width v.row x w.selected w.style w.fixed_font) e5
    ∙ ap (λ (x : Window). made v.cells v.height v.width v.row v.column x w.style w.fixed_font) e6
    ∙ ap (λ (x : Style). made v.cells v.height v.width v.row v.column v.selected x w.fixed_font) e7
    ∙ ap (λ (x : Bool). made v.cells v.height v.width v.row v.column v.selected v.style x) e8
  where
    made : Cells → ℕ → ℕ → ℕ → ℕ → Window → Style → Bool → Windows
    made c h l r k s y f = record {
      cells = c;
      height = h;
      width = l;
      row = r;
      column = k;
      selected = s;
      style = y;
      fixed_font = f;
      gone = no_cells;
      gone_height = 0;
    }

-- ---- frames

-- what stands before a frame's words, in 10 bytes
abbrev head_of : Frame → List ℕ
head_of f = bytes_4 f.pc ++ store_bytes f.result ++ f.supplied ∷ [] ++ length f.locals ∷ [] ++ bytes_2 (length f.words)

-- the same after its first four bytes
abbrev tail_of : Frame → List ℕ
tail_of f = store_bytes f.result ++ (f.supplied ∷ length f.locals ∷ bytes_2 (length f.words))

head_is : (f : Frame) → head_of f ≡ bytes_4 f.pc ++ tail_of f
unfolding store_bytes
head_is f = by f.result
  where
    by : (r : Option ℕ) → bytes_4 f.pc ++ store_bytes r ++ f.supplied ∷ [] ++ length f.locals ∷ []
        ++ bytes_2 (length f.words) ≡ bytes_4 f.pc
        ++ (store_bytes r ++ (f.supplied ∷ length f.locals ∷ bytes_2 (length f.words)))
    by None = refl
    by (Some v) = refl

head_size : (f : Frame) → length (bytes_4 f.pc ++ tail_of f) ≡ 10
unfolding store_bytes
head_size f = by f.result
  where
    by : (r : Option ℕ)
        → length (bytes_4 f.pc ++ (store_bytes r ++ (f.supplied ∷ length f.locals ∷ bytes_2 (length f.words)))) ≡ 10
    by None = refl
    by (Some v) = refl

frame_is : (f : Frame) (a : List ℕ) → frame_bytes f ++ a ≡ (bytes_4 f.pc ++ tail_of f)
    ++ (words_bytes f.locals ++ (words_bytes f.words ++ a))
unfolding frame_bytes
frame_is f a =
    append_assoc (head_of f ++ words_bytes f.locals) (words_bytes f.words) a
    ∙ append_assoc (head_of f) (words_bytes f.locals) (words_bytes f.words ++ a)
    ∙ ap (λ (l : List ℕ). l ++ (words_bytes f.locals ++ (words_bytes f.words ++ a))) (head_is f)

abbrev made_frame : List ℕ → List ℕ → ℕ → Option ℕ → ℕ → Frame
made_frame l w p r n = record { locals = l; words = w; pc = p; result = r; supplied = n }

frames_joined : (l m w v : List ℕ) (p q : ℕ) (r s : Option ℕ) (n k : ℕ) → l ≡ m → w ≡ v → p ≡ q → r ≡ s → n ≡ k
    → made_frame l w p r n ≡ made_frame m v q s k
frames_joined l m w v p q r s n k e1 e2 e3 e4 e5 =
    ap (λ (x : List ℕ). made_frame x w p r n) e1 ∙ ap (λ (x : List ℕ). made_frame m x p r n) e2
    ∙ ap (λ (x : ℕ). made_frame m v x r n) e3 ∙ ap (λ (x : Option ℕ). made_frame m v q x n) e4
    ∙ ap (λ (x : ℕ). made_frame m v q s x) e5

pub same_frame : (f g : Frame) (a b : List ℕ) → frame_bytes f ++ a ≡ frame_bytes g ++ b → (f ≡ g) × (a ≡ b)
same_frame f g a b h =
    let whole = sym (frame_is f a) ∙ h ∙ frame_is g b in
    let heads = split_same (bytes_4 f.pc ++ tail_of f) (bytes_4 g.pc ++ tail_of g)
    (words_bytes f.locals ++ (words_bytes f.words ++ a)) (words_bytes g.locals ++ (words_bytes g.words ++ b))
    (head_size f ∙ sym (head_size g)) whole in
    let first = split_same (bytes_4 f.pc) (bytes_4 g.pc) (tail_of f) (tail_of g) refl heads.0 in
    let second = split_same (store_bytes f.result) (store_bytes g.result)
    (f.supplied ∷ length f.locals ∷ bytes_2 (length f.words))
    (g.supplied ∷ length g.locals ∷ bytes_2 (length g.words)) (store_size f.result ∙ sym (store_size g.result))
    first.1 in
    let supplied = cons_head f.supplied g.supplied (length f.locals ∷ bytes_2 (length f.words))
    (length g.locals ∷ bytes_2 (length g.words)) second.1 in
    let third = cons_tail f.supplied g.supplied (length f.locals ∷ bytes_2 (length f.words))
    (length g.locals ∷ bytes_2 (length g.words)) second.1 in
    let locals = cons_head (length f.locals) (length g.locals) (bytes_2 (length f.words))
    (bytes_2 (length g.words)) third in
    let words = same_2 (length f.words) (length g.words)
    (cons_tail (length f.locals) (length g.locals) (bytes_2 (length f.words)) (bytes_2 (length g.words)) third) in
    let fourth = split_same (words_bytes f.locals) (words_bytes g.locals) (words_bytes f.words ++ a)
    (words_bytes g.words ++ b) (omega (arith, locals, words_size f.locals, words_size g.locals)) heads.1 in
    let fifth = split_same (words_bytes f.words) (words_bytes g.words) a b
    (omega (arith, words, words_size f.words, words_size g.words)) fourth.1 in (
      frames_joined f.locals g.locals f.words g.words f.pc g.pc f.result g.result f.supplied g.supplied
          (same_words f.locals g.locals locals fourth.0) (same_words f.words g.words words fifth.0)
          (same_4 f.pc g.pc first.0) (same_store f.result g.result second.0) supplied,
      fifth.1,
    )

pub same_frames : (fs gs : List Frame) (a b : List ℕ) → length fs ≡ length gs → flat_map frame_bytes fs
    ++ a ≡ flat_map frame_bytes gs ++ b → (fs ≡ gs) × (a ≡ b)
same_frames [] [] a b e h = (refl, h)
same_frames [] (g ∷ gs) a b e h = absurd (omega (arith, e))
same_frames (f ∷ fs) [] a b e h = absurd (omega (arith, e))
same_frames (f ∷ fs) (g ∷ gs) a b e h =
    let whole = sym (append_assoc (frame_bytes f) (flat_map frame_bytes fs) a) ∙ h
    ∙ append_assoc (frame_bytes g) (flat_map frame_bytes gs) b in
    let first = same_frame f g (flat_map frame_bytes fs ++ a) (flat_map frame_bytes gs ++ b) whole in
    let rest = same_frames fs gs a b (omega (arith, e)) first.1 in
    (joined f g fs gs first.0 rest.0, rest.1)
  where
    joined : (x y : Frame) (xs ys : List Frame) → x ≡ y → xs ≡ ys → x ∷ xs ≡ y ∷ ys
    joined x y xs ys e h = cc

-- all frames, after how many they are
pub same_all_frames : (fs gs : List Frame) (a b : List ℕ) → frames_bytes fs ++ a ≡ frames_bytes gs ++ b
    → (fs ≡ gs) × (a ≡ b)
unfolding frames_bytes
same_all_frames fs gs a b h =
    let f = flat_map frame_bytes (reverse fs) in
    let g = flat_map frame_bytes (reverse gs) in
    let whole = sym (append_assoc (bytes_2 (length fs)) f a) ∙ h ∙ append_assoc (bytes_2 (length gs)) g b in
    let both = split_same (bytes_2 (length fs)) (bytes_2 (length gs)) (f ++ a) (g ++ b) refl whole in
    let many = same_2 (length fs) (length gs) both.0 in
    let up = same_frames (reverse fs) (reverse gs) a b (omega (arith, many, length-reverse fs, length-reverse gs))
    both.1 in
    (sym (reverse-reverse fs) ∙ ap (λ (l : List Frame). reverse l) up.0 ∙ reverse-reverse gs, up.1)
