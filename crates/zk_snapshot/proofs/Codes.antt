-- Codes that are read back in one way alone.
use Rattle.std.specs.List.{flat_map}
use Rattle.std.proofs.Common.{◌≡◌, ◌∙◌, ℕ, ◌/◌, ◌%◌, ◌*◌, Bool, true, false, List, [], ◌∷◌, ◌++◌, length, Option, Some}
use Rattle.std.proofs.Common.{None, refl, ap, sym, arith}
use Rattle.zk_save.specs.Quetzal.{bytes_2, bytes_4, words_bytes}
use Rattle.zk_term.specs.Styles.{roman, style_set}
use Rattle.zk_term.specs.declared.style.Style.{Style}
use Rattle.zk_term.specs.declared.windows.Cell.{Cell}
use Rattle.zk_snapshot.specs.Snapshots.{bytes_8, cell_bytes, state_bytes, store_bytes, style_byte}

pub cons_head : {A : Type 0} (x y : A) (a b : List A) → x ∷ a ≡ y ∷ b → x ≡ y
cons_head x y a b h = cc

pub cons_tail : {A : Type 0} (x y : A) (a b : List A) → x ∷ a ≡ y ∷ b → a ≡ b
cons_tail x y a b h = cc

-- two lists that begin with lists of the same length
pub split_same : (xs ys a b : List ℕ) → length xs ≡ length ys → xs ++ a ≡ ys ++ b → (xs ≡ ys) × (a ≡ b)
split_same [] [] a b e h = (refl, h)
split_same [] (y ∷ ys) a b e h = absurd (omega (arith, e))
split_same (x ∷ xs) [] a b e h = absurd (omega (arith, e))
split_same (x ∷ xs) (y ∷ ys) a b e h =
    let first : x ≡ y = cons_head x y (xs ++ a) (ys ++ b) h in
    let rest = split_same xs ys a b (omega (arith, e)) (cons_tail x y (xs ++ a) (ys ++ b) h) in
    (joined x y xs ys first rest.0, rest.1)
  where
    joined : (x y : ℕ) (xs ys : List ℕ) → x ≡ y → xs ≡ ys → x ∷ xs ≡ y ∷ ys
    joined x y xs ys e h = cc

-- ---- numbers

pub same_2 : (m n : ℕ) → bytes_2 m ≡ bytes_2 n → m ≡ n
same_2 m n h =
    let high : m / 256 ≡ n / 256 = cons_head (m / 256) (n / 256) (m % 256 ∷ []) (n % 256 ∷ []) h in
    let low : m % 256 ≡ n % 256 = cons_head (m % 256) (n % 256) [] []
    (cons_tail (m / 256) (n / 256) (m % 256 ∷ []) (n % 256 ∷ []) h) in
    omega (arith, high, low)

pub same_4 : (m n : ℕ) → bytes_4 m ≡ bytes_4 n → m ≡ n
same_4 m n h =
    let one : m / 16777216 ≡ n / 16777216 = cons_head (m / 16777216) (n / 16777216)
    (m / 65536 % 256 ∷ m / 256 % 256 ∷ m % 256 ∷ []) (n / 65536 % 256 ∷ n / 256 % 256 ∷ n % 256 ∷ []) h in
    let h2 = cons_tail (m / 16777216) (n / 16777216) (m / 65536 % 256 ∷ m / 256 % 256 ∷ m % 256 ∷ [])
    (n / 65536 % 256 ∷ n / 256 % 256 ∷ n % 256 ∷ []) h in
    let two : m / 65536 % 256 ≡ n / 65536 % 256 = cons_head (m / 65536 % 256) (n / 65536 % 256)
    (m / 256 % 256 ∷ m % 256 ∷ []) (n / 256 % 256 ∷ n % 256 ∷ []) h2 in
    let h3 = cons_tail (m / 65536 % 256) (n / 65536 % 256) (m / 256 % 256 ∷ m % 256 ∷ [])
    (n / 256 % 256 ∷ n % 256 ∷ []) h2 in
    let three : m / 256 % 256 ≡ n / 256 % 256 = cons_head (m / 256 % 256) (n / 256 % 256) (m % 256 ∷ [])
    (n % 256 ∷ []) h3 in
    let h4 = cons_tail (m / 256 % 256) (n / 256 % 256) (m % 256 ∷ []) (n % 256 ∷ []) h3 in
    let four : m % 256 ≡ n % 256 = cons_head (m % 256) (n % 256) [] [] h4 in
    omega (arith, one, two, three, four)

pub same_8 : (m n : ℕ) → bytes_8 m ≡ bytes_8 n → m ≡ n
same_8 m n h =
    let both = split_same (bytes_4 (m / 4294967296)) (bytes_4 (n / 4294967296)) (bytes_4 (m % 4294967296))
    (bytes_4 (n % 4294967296)) refl h in
    let high = same_4 (m / 4294967296) (n / 4294967296) both.0 in
    let low = same_4 (m % 4294967296) (n % 4294967296) both.1 in
    omega (arith, high, low)

pub same_store : (m n : Option ℕ) → store_bytes m ≡ store_bytes n → m ≡ n
unfolding store_bytes
same_store None None h = refl
same_store None (Some n) h =
    let same : ◌≡◌ {A = ℕ} 0 1 = cons_head 0 1 (0 ∷ []) (n ∷ []) h in absurd (omega (arith, same))
same_store (Some m) None h =
    let same : ◌≡◌ {A = ℕ} 1 0 = cons_head 1 0 (m ∷ []) (0 ∷ []) h in absurd (omega (arith, same))
same_store (Some m) (Some n) h = ap (λ (k : ℕ). Some k) (cons_head m n [] [] (cons_tail 1 1 (m ∷ []) (n ∷ []) h))

pub store_size : (m : Option ℕ) → length (store_bytes m) ≡ 2
unfolding store_bytes
store_size None = refl
store_size (Some m) = refl

pub same_state : (m n : Option ℕ) → state_bytes m ≡ state_bytes n → m ≡ n
unfolding state_bytes
same_state None None h = refl
same_state None (Some n) h =
    let same : ◌≡◌ {A = ℕ} 0 1 = cons_head 0 1 (bytes_8 0) (bytes_8 n) h in absurd (omega (arith, same))
same_state (Some m) None h =
    let same : ◌≡◌ {A = ℕ} 1 0 = cons_head 1 0 (bytes_8 m) (bytes_8 0) h in absurd (omega (arith, same))
same_state (Some m) (Some n) h = ap (λ (k : ℕ). Some k) (same_8 m n (cons_tail 1 1 (bytes_8 m) (bytes_8 n) h))

pub state_size : (m : Option ℕ) → length (state_bytes m) ≡ 9
unfolding state_bytes
state_size None = refl
state_size (Some m) = refl

-- ---- lists of numbers of one width

pub words_size : (ws : List ℕ) → length (words_bytes ws) ≡ 2 * length ws
words_size [] = refl
words_size (w ∷ ws) = omega (arith, words_size ws)

pub same_words : (ws vs : List ℕ) → length ws ≡ length vs → words_bytes ws ≡ words_bytes vs → ws ≡ vs
same_words [] [] e h = refl
same_words [] (v ∷ vs) e h = absurd (omega (arith, e))
same_words (w ∷ ws) [] e h = absurd (omega (arith, e))
same_words (w ∷ ws) (v ∷ vs) e h =
    let both = split_same (bytes_2 w) (bytes_2 v) (words_bytes ws) (words_bytes vs) refl h in
    joined w v ws vs (same_2 w v both.0) (same_words ws vs (omega (arith, e)) both.1)
  where
    joined : (x y : ℕ) (xs ys : List ℕ) → x ≡ y → xs ≡ ys → x ∷ xs ≡ y ∷ ys
    joined x y xs ys e h = cc

-- ---- cells

-- a style is the one that its number sets
style_back : (a b c d : Bool) → style_set (style_byte (record { reverse = a; bold = b; italic = c; fixed = d })) roman
    ≡ record { reverse = a; bold = b; italic = c; fixed = d }
unfolding style_byte
style_back false false false false = refl
style_back true false false false = refl
style_back false true false false = refl
style_back true true false false = refl
style_back false false true false = refl
style_back true false true false = refl
style_back false true true false = refl
style_back true true true false = refl
style_back false false false true = refl
style_back true false false true = refl
style_back false true false true = refl
style_back true true false true = refl
style_back false false true true = refl
style_back true false true true = refl
style_back false true true true = refl
style_back true true true true = refl

pub same_style : (s t : Style) → style_byte s ≡ style_byte t → s ≡ t
same_style s t h = sym (style_back s.reverse s.bold s.italic s.fixed) ∙ ap (λ (n : ℕ). style_set n roman) h
    ∙ style_back t.reverse t.bold t.italic t.fixed

abbrev character_bytes : Cell → List ℕ
character_bytes c = c.character / 65536 ∷ bytes_2 (c.character % 65536)

pub same_cell : (c d : Cell) → cell_bytes c ≡ cell_bytes d → c ≡ d
same_cell c d h =
    let style = same_style c.style d.style (cons_head (style_byte c.style) (style_byte d.style) (character_bytes c)
    (character_bytes d) h) in
    let rest = cons_tail (style_byte c.style) (style_byte d.style) (character_bytes c) (character_bytes d) h in
    let high = cons_head (c.character / 65536) (d.character / 65536) (bytes_2 (c.character % 65536))
    (bytes_2 (d.character % 65536)) rest in
    let low = same_2 (c.character % 65536) (d.character % 65536) (cons_tail (c.character / 65536)
    (d.character / 65536) (bytes_2 (c.character % 65536)) (bytes_2 (d.character % 65536)) rest) in
    let character : c.character ≡ d.character = omega (arith, high, low) in
    ap (λ (k : ℕ). made k c.style) character ∙ ap (λ (s : Style). made d.character s) style
  where
    made : ℕ → Style → Cell
    made k s = record { character = k; style = s }

pub cells_size : (cs : List Cell) → length (flat_map cell_bytes cs) ≡ 4 * length cs
cells_size [] = refl
cells_size (c ∷ cs) = omega (arith, cells_size cs)

pub same_cells_of : (ws vs : List Cell) → length ws ≡ length vs → flat_map cell_bytes ws ≡ flat_map cell_bytes vs
    → ws ≡ vs
same_cells_of [] [] e h = refl
same_cells_of [] (v ∷ vs) e h = absurd (omega (arith, e))
same_cells_of (w ∷ ws) [] e h = absurd (omega (arith, e))
same_cells_of (w ∷ ws) (v ∷ vs) e h =
    let both = split_same (cell_bytes w) (cell_bytes v) (flat_map cell_bytes ws) (flat_map cell_bytes vs) refl h in
    joined w v ws vs (same_cell w v both.0) (same_cells_of ws vs (omega (arith, e)) both.1)
  where
    joined : (x y : Cell) (xs ys : List Cell) → x ≡ y → xs ≡ ys → x ∷ xs ≡ y ∷ ys
    joined x y xs ys e h = cc
