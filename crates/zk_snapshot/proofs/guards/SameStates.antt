-- States to go back to are read back in one way alone.
use Rattle.std.specs.List.{flat_map}
use Rattle.std.specs.Prelude.{reverse, All}
use Rattle.std.proofs.Common.{◌≡◌, ◌∙◌, ◌≤◌, ℕ, List, [], ◌∷◌, ◌++◌, length, take, Some, refl, ap, sym, arith}
use Rattle.std.proofs.Common.{append_assoc}
use Rattle.std.proofs.lemmas.List.{length-reverse, reverse-reverse}
use Rattle.std.proofs.lemmas.List.Elements.{All-head, All-tail}
use Rattle.zk_save.specs.Packing.{packed}
use Rattle.zk_save.specs.Quetzal.{bytes_4}
use Rattle.zk_save.specs.Unpacking.{unpacked, xored}
use Rattle.zk_save.specs.States.{WholeState, packed_of}
use Rattle.zk_save.proofs.Packs.{length-xored}
use Rattle.zk_save.proofs.RoundTrip.{comes_back}
use Rattle.zk_save.proofs.Shown.{all_reversed}
use Rattle.zk_save.proofs.Wholes.{bytes_again}
use Rattle.zk_state.specs.Frames.{Frame}
use Rattle.zk_snapshot.specs.Snapshots.{frames_bytes, kept_bytes, states_bytes}
use Rattle.zk_snapshot.proofs.Codes.{cons_head, cons_tail, split_same, same_4}
use Rattle.zk_snapshot.proofs.guards.Grown.{same_all_frames}

-- the dynamic memory of a state has so many bytes
abbrev pub HasBytes : ℕ → WholeState → Type 0
HasBytes base w = length w.dynamic ≡ base

-- what bytes differ in from a file, packed, is that of these bytes alone
same_packed : (file ds es : List ℕ) → length ds ≤ length file → length ds ≡ length es
    → packed (xored ds file) ≡ packed (xored es file) → ds ≡ es
same_packed file ds es le e h =
    let sizes : length (xored ds file) ≡ length (xored es file) = length-xored ds file le ∙ e
    ∙ sym (length-xored es file (omega (arith, e, le))) in
    let one : unpacked (length (xored ds file)) (packed (xored ds file)) ≡ Some (xored ds file) = comes_back
    (xored ds file) in
    let two : unpacked (length (xored es file)) (packed (xored es file)) ≡ Some (xored es file) = comes_back
    (xored es file) in
    let both : Some (xored ds file) ≡ Some (xored es file) = sym one
    ∙ ap (λ (n : ℕ). unpacked n (packed (xored ds file))) sizes ∙ ap (unpacked (length (xored es file))) h ∙ two in
    let same : xored ds file ≡ xored es file = cc in
    sym (bytes_again ds file le) ∙ ap (λ (x : List ℕ). xored (take (length x) file) x) same
    ∙ bytes_again es file (omega (arith, e, le))

made : List ℕ → List Frame → ℕ → WholeState
made d f p = record { dynamic = d; frames = f; pc = p }

made_same : (d e : List ℕ) (f g : List Frame) (p q : ℕ) → d ≡ e → f ≡ g → p ≡ q → made d f p ≡ made e g q
made_same d e f g p q h1 h2 h3 =
    ap (λ (x : List ℕ). made x f p) h1 ∙ ap (λ (x : List Frame). made e x p) h2 ∙ ap (λ (x : ℕ). made e g x) h3

kept_is : (file : List ℕ) (w : WholeState) (a : List ℕ) → kept_bytes file w
    ++ a ≡ bytes_4 (length (packed_of file w)) ++ (packed_of file w ++ (frames_bytes w.frames ++ (bytes_4 w.pc ++ a)))
unfolding kept_bytes
kept_is file w a =
    let n = bytes_4 (length (packed_of file w)) in
    let d = packed_of file w in
    let f = frames_bytes w.frames in
    append_assoc (n ++ d ++ f) (bytes_4 w.pc) a ∙ append_assoc (n ++ d) f (bytes_4 w.pc ++ a)
    ∙ append_assoc n d (f ++ (bytes_4 w.pc ++ a))

same_kept : (file : List ℕ) (base : ℕ) (w v : WholeState) (a b : List ℕ) → base ≤ length file → HasBytes base w
    → HasBytes base v → kept_bytes file w ++ a ≡ kept_bytes file v ++ b → (w ≡ v) × (a ≡ b)
unfolding made
same_kept file base w v a b le is also h =
    let whole = sym (kept_is file w a) ∙ h ∙ kept_is file v b in
    let ws = packed_of file w ++ (frames_bytes w.frames ++ (bytes_4 w.pc ++ a)) in
    let vs = packed_of file v ++ (frames_bytes v.frames ++ (bytes_4 v.pc ++ b)) in
    let one = split_same (bytes_4 (length (packed_of file w))) (bytes_4 (length (packed_of file v))) ws vs refl whole in
    let size = same_4 (length (packed_of file w)) (length (packed_of file v)) one.0 in
    let two = split_same (packed_of file w) (packed_of file v) (frames_bytes w.frames ++ (bytes_4 w.pc ++ a))
    (frames_bytes v.frames ++ (bytes_4 v.pc ++ b)) size one.1 in
    let three = same_all_frames w.frames v.frames (bytes_4 w.pc ++ a) (bytes_4 v.pc ++ b) two.1 in
    let four = split_same (bytes_4 w.pc) (bytes_4 v.pc) a b refl three.1 in
    let dynamic = same_packed file w.dynamic v.dynamic (omega (arith, is, le)) (is ∙ sym also) two.0 in
    (made_same w.dynamic v.dynamic w.frames v.frames w.pc v.pc dynamic three.0 (same_4 w.pc v.pc four.0), four.1)

same_all : (file : List ℕ) (base : ℕ) (ws vs : List WholeState) → base ≤ length file → All (HasBytes base) ws
    → All (HasBytes base) vs → length ws ≡ length vs → flat_map (kept_bytes file) ws ≡ flat_map (kept_bytes file) vs
    → ws ≡ vs
same_all file base [] [] le is also e h = refl
same_all file base [] (v ∷ vs) le is also e h = absurd (omega (arith, e))
same_all file base (w ∷ ws) [] le is also e h = absurd (omega (arith, e))
same_all file base (w ∷ ws) (v ∷ vs) le is also e h =
    let both = same_kept file base w v (flat_map (kept_bytes file) ws) (flat_map (kept_bytes file) vs) le
    (All-head (HasBytes base) w ws is) (All-head (HasBytes base) v vs also) h in
    joined w v ws vs both.0 (same_all file base ws vs le (All-tail (HasBytes base) w ws is)
    (All-tail (HasBytes base) v vs also) (omega (arith, e)) both.1)
  where
    joined : (x y : WholeState) (xs ys : List WholeState) → x ≡ y → xs ≡ ys → x ∷ xs ≡ y ∷ ys
    joined x y xs ys e h = cc

pub same_states : (file : List ℕ) (base : ℕ) (ws vs : List WholeState) → base ≤ length file
    → All (HasBytes base) ws → All (HasBytes base) vs → states_bytes file ws ≡ states_bytes file vs → ws ≡ vs
unfolding states_bytes
same_states file base ws vs le is also h =
    let w = flat_map (kept_bytes file) (reverse ws) in
    let v = flat_map (kept_bytes file) (reverse vs) in
    let many = cons_head (length ws) (length vs) w v h in
    let up = same_all file base (reverse ws) (reverse vs) le (all_reversed (HasBytes base) ws is)
    (all_reversed (HasBytes base) vs also) (omega (arith, many, length-reverse ws, length-reverse vs))
    (cons_tail (length ws) (length vs) w v h) in
    sym (reverse-reverse ws) ∙ ap (λ (l : List WholeState). reverse l) up ∙ reverse-reverse vs
