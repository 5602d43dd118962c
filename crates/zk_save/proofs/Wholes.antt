-- Whole states and what is kept of them.
use Rattle.std.specs.Prelude.{map, bit_xor, slice_index}
use Rattle.std.proofs.Common.{◌≡◌, ◌∙◌, ℕ, ◌≤◌, List, [], ◌∷◌, ◌++◌, length, take, drop, Some, refl, ap, sym, arith}
use Rattle.std.proofs.lemmas.List.{length-take-le, take-map}
use Rattle.std.proofs.lemmas.List.Elements.{All-nil}
use Rattle.zk_mem.specs.Map.{MemoryMap}
use Rattle.zk_mem.specs.Again.{with_bytes, settled, again}
use Rattle.zk_state.specs.Frames.{Frame, FrameList, with_frames, bounds_of}
use Rattle.zk_save.specs.Packing.{packed}
use Rattle.zk_save.specs.Unpacking.{unpacked, xored}
use Rattle.zk_save.specs.States.{WholeState, KeptState, UndoStates, whole_state, gone_back, IsOf, AreOf}
use Rattle.zk_save.proofs.Packs.{length-xored}
use Rattle.zk_save.proofs.RoundTrip.{turns_back, comes_back}

-- after the end of the first list nothing counts
pub xored_front : (bytes file : List ℕ) → xored bytes file ≡ xored bytes (take (length bytes) file)
unfolding xored
xored_front [] [] = refl
xored_front [] (f ∷ fs) = refl
xored_front (b ∷ bs) [] = refl
xored_front (b ∷ bs) (f ∷ fs) = ap (λ (l : List ℕ). bit_xor b f ∷ l) (xored_front bs fs)

-- after the end of the second list everything stays
xored_back : (file ds : List ℕ) → length ds ≤ length file → xored file ds ≡ xored (take (length ds) file) ds
    ++ drop (length ds) file
unfolding xored
xored_back file [] h = refl
xored_back [] (d ∷ ds) h = absurd (omega arith)
xored_back (f ∷ fs) (d ∷ ds) h = ap (λ (l : List ℕ). bit_xor f d ∷ l) (xored_back fs ds (omega arith))

pub length-xored_same : (xs ds : List ℕ) → length xs ≡ length ds → length (xored xs ds) ≡ length ds
length-xored_same xs ds e = length-xored xs ds (omega (arith, e)) ∙ e

-- what is kept gives the bytes back over the file
pub bytes_again : (bytes file : List ℕ) → length bytes ≤ length file
    → xored (take (length (xored bytes file)) file) (xored bytes file) ≡ bytes
bytes_again bytes file le =
    let long : length (xored bytes file) ≡ length bytes = length-xored bytes file le in
    let front : List ℕ = take (length bytes) file in
    ap (λ (n : ℕ). xored (take n file) (xored bytes file)) long
    ∙ ap (xored front) (xored_front bytes file)
    ∙ turns_back front bytes (sym (length-take-le (length bytes) file le))

-- what is packed is unpacked where the bytes are that were packed
pub unpacks : (items ds : List ℕ) → packed ds ≡ items → unpacked (length ds) items ≡ Some ds
unpacks items ds e = rw (← e) (comes_back ds)

frames_bounds : (f : FrameList) (fs : List Frame) → bounds_of (with_frames f fs) ≡ bounds_of f
unfolding bounds_of
frames_bounds f [] = refl
frames_bounds f (x ∷ xs) = refl

pub put_bounds : (f g : FrameList) (fs : List Frame) → g ≡ with_frames f fs → bounds_of g ≡ bounds_of f
put_bounds f g fs e = ap bounds_of e ∙ frames_bounds f fs

pub settled_base : (m n : MemoryMap) (flags : ℕ) → n ≡ settled flags m → n.static_base ≡ m.static_base
unfolding settled
settled_base m n flags e = ap (λ (x : MemoryMap). x.static_base) e

pub settled_story : (m n : MemoryMap) (flags : ℕ) → n ≡ settled flags m → (n.file ≡ m.file)
    × (n.setup ≡ m.setup)
unfolding settled
settled_story m n flags e = (ap (λ (x : MemoryMap). x.file) e, ap (λ (x : MemoryMap). x.setup) e)

-- memory that was reset, turned and settled is put back
pub turned_again : (m reset turned n : MemoryMap) (flags : ℕ) (ds : List ℕ) → length ds ≤ length m.file
    → flags ≡ slice_index m.bytes 0x11 → reset ≡ with_bytes m m.file
    → turned ≡ with_bytes reset (xored reset.bytes ds) → n ≡ settled flags turned
    → n ≡ again m (xored (take (length ds) m.file) ds ++ drop (length (xored (take (length ds) m.file) ds)) m.file)
unfolding again
turned_again m reset turned n flags ds le e r t s =
    let front : length (xored (take (length ds) m.file) ds) ≡ length ds = length-xored_same
    (take (length ds) m.file) ds (length-take-le (length ds) m.file le) in
    let whole : xored m.file ds ≡ xored (take (length ds) m.file) ds
    ++ drop (length (xored (take (length ds) m.file) ds)) m.file =
    xored_back m.file ds le ∙ ap (λ (k : ℕ). xored (take (length ds) m.file) ds ++ drop k m.file) (sym front) in
    let bytes : turned ≡ with_bytes m (xored m.file ds) = t
    ∙ ap (λ (x : MemoryMap). with_bytes x (xored x.bytes ds)) r in
    s ∙ ap (λ (k : ℕ). settled k turned) e ∙ ap (settled (slice_index m.bytes 0x11)) (bytes ∙ ap (with_bytes m) whole)

pub goes_back : (file : List ℕ) (k : KeptState) (m n : MemoryMap) (f g : FrameList) (pc : ℕ)
    (others : List WholeState) → n ≡ again m (xored (take (length k.difference) m.file) k.difference
    ++ drop (length (xored (take (length k.difference) m.file) k.difference)) m.file)
    → g ≡ with_frames f k.frames → pc ≡ k.pc
    → gone_back (whole_state m.file k ∷ others) m f ≡ Some (n, g, pc, others)
unfolding gone_back
goes_back file k m n f g pc others e h p = rw (e, h, p) refl

pub states_put : (file : List ℕ) (n : ℕ) (k : KeptState) (w : WholeState) (ks : List KeptState)
    → whole_state file k ≡ w → map (whole_state file) (take n (k ∷ ks)) ≡ take n (w ∷ map (whole_state file) ks)
states_put file n k w ks e =
    sym (take-map (whole_state file) n (k ∷ ks)) ∙ ap (λ (x : WholeState). take n (x ∷ map (whole_state file) ks)) e

pub none_of : (m : MemoryMap) (f : FrameList) (n : ℕ) → AreOf m f (record { states = []; most = n })
unfolding AreOf
none_of m f n = All-nil (IsOf m.static_base f.most_frames f.most_words)

-- the story and the bounds alone count
pub same_of : (m n : MemoryMap) (f g : FrameList) (u : UndoStates) → n.static_base ≡ m.static_base
    → bounds_of g ≡ bounds_of f → AreOf m f u → AreOf n g u
unfolding AreOf bounds_of
same_of m n f g u base bounds are =
    let frames = ap (λ (p : ℕ × ℕ). p.0) bounds in
    let words = ap (λ (p : ℕ × ℕ). p.1) bounds in
    rw (base, frames, words) are

-- memory that is put back is the same story's
pub again_same : (m n : MemoryMap) (bytes : List ℕ) → n ≡ again m bytes → (n.static_base ≡ m.static_base)
    × (n.file ≡ m.file) × (n.setup ≡ m.setup)
unfolding again settled
again_same m n bytes e =
    (ap (λ (x : MemoryMap). x.static_base) e, ap (λ (x : MemoryMap). x.file) e, ap (λ (x : MemoryMap). x.setup) e)
