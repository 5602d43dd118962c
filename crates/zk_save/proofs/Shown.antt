-- What is told of the states that are kept, the oldest first.
use Rattle.std.specs.Prelude.{map, reverse, slice_get, bit_xor, option_map}
use Rattle.std.specs.Int.Bits.{xor_zero_l, xor_comm, xor_assoc, xor_self}
use Rattle.std.specs.List.{All}
use Rattle.std.proofs.Common.{◌≡◌, ◌∙◌, ◌≤◌, ℕ, List, [], ◌∷◌, ◌++◌, length, take, Some, refl, ap, sym, subst, arith}
use Rattle.std.proofs.lemmas.List.{reverse-append, reverse-reverse, map-append, length-take-le}
use Rattle.std.proofs.lemmas.List.Elements.{All-append, All-head, All-tail, All-cons, All-nil}
use Rattle.std.proofs.lemmas.Option.{slice_get_within, slice_get-map, get_or_from_slice_get}
use Rattle.zk_mem.specs.Map.{MemoryMap}
use Rattle.zk_state.specs.Frames.{Frame, FrameList, frames_of, with_frames}
use Rattle.zk_save.specs.Packing.{packed}
use Rattle.zk_save.specs.Unpacking.{xored}
use Rattle.zk_save.specs.States.{WholeState, KeptState, UndoStates, whole_state, packed_of, states_in, IsOf, AreOf}
use Rattle.zk_save.proofs.Wholes.{xored_front, length-xored_same}

-- ---- lists the other way round

reverse_cons : {X : Type 0} (x : X) (xs : List X) → reverse (x ∷ xs) ≡ reverse xs ++ x ∷ []
reverse_cons {X} x xs = reverse-append (x ∷ []) xs

pub all_reversed : {X : Type 0} (P : X → Type 0) (xs : List X) → All P xs → All P (reverse xs)
all_reversed {X} P [] h = h
all_reversed {X} P (x ∷ xs) h =
    let last : All P (x ∷ []) = All-cons P x [] (All-head P x xs h) (All-nil P) in
    rw (reverse_cons x xs) (All-append P (reverse xs) (x ∷ []) (all_reversed P xs (All-tail P x xs h)) last)

map_reversed : {X Y : Type 0} (f : X → Y) (xs : List X) → reverse (map f xs) ≡ map f (reverse xs)
map_reversed {X} {Y} f [] = refl
map_reversed {X} {Y} f (x ∷ xs) =
    reverse_cons (f x) (map f xs)
    ∙ ap (λ (l : List Y). l ++ f x ∷ []) (map_reversed f xs)
    ∙ sym (ap (map f) (reverse_cons x xs) ∙ map-append f (reverse xs) (x ∷ []))

-- a state of a number, where the list is the other way round
pub holds_there : (P : KeptState → Type 0) (items : List KeptState) (n : ℕ) (k : KeptState)
    → All P (reverse items) → slice_get items n ≡ Some k → P k
holds_there P items n k h there =
    let all : All P items = subst (λ (l : List KeptState). All P l) (reverse-reverse items)
    (all_reversed P (reverse items) h) in
    subst P (get_or_from_slice_get items n k k there) (all n k (slice_get_within items n k there))

whole_there : (file : List ℕ) (items : List KeptState) (n : ℕ) (k : KeptState) (w : WholeState)
    → slice_get items n ≡ Some k → slice_get (reverse (map (whole_state file) (reverse items))) n ≡ Some w
    → w ≡ whole_state file k
whole_there file items n k w there h =
    let same : reverse (map (whole_state file) (reverse items)) ≡ map (whole_state file) items = map_reversed
    (whole_state file) (reverse items) ∙ ap (map (whole_state file)) (reverse-reverse items) in
    let is : Some w ≡ Some (whole_state file k) = sym h ∙ ap (λ (l : List WholeState). slice_get l n) same
    ∙ slice_get-map (whole_state file) items n ∙ ap (option_map (whole_state file)) there in
    cc

-- ---- what a state differs in from the file

byte_back : (a b : ℕ) → bit_xor (bit_xor a b) a ≡ b
byte_back a b = rw (xor_comm a b, xor_assoc, xor_self, xor_comm b 0, xor_zero_l) refl

turned_back : (fs ds : List ℕ) → length fs ≡ length ds → xored (xored fs ds) fs ≡ ds
unfolding xored
turned_back [] [] e = refl
turned_back [] (d ∷ ds) e = absurd (omega (arith, e))
turned_back (f ∷ fs) [] e = absurd (omega (arith, e))
turned_back (f ∷ fs) (d ∷ ds) e = rw (byte_back f d, turned_back fs ds (omega (arith, e))) refl

difference_back : (file ds : List ℕ) → length ds ≤ length file → xored (xored (take (length ds) file) ds) file ≡ ds
difference_back file ds le =
    let fs : List ℕ = take (length ds) file in
    let size : length fs ≡ length ds = length-take-le (length ds) file le in
    xored_front (xored fs ds) file
    ∙ ap (λ (n : ℕ). xored (xored fs ds) (take n file)) (length-xored_same fs ds size)
    ∙ turned_back fs ds size

frames_there : (f : FrameList) (fs : List Frame) → 1 ≤ length fs → frames_of (with_frames f fs) ≡ fs
frames_there f [] some = absurd (omega (arith, some))
frames_there f (x ∷ xs) some = refl

-- what is told is that of the whole state
pub shown_is : (file : List ℕ) (items : List KeptState) (n : ℕ) (k : KeptState) (w : WholeState) (told : List ℕ)
    (f g : FrameList) (pc : ℕ) → slice_get items n ≡ Some k → length k.difference ≤ length file → 1 ≤ length k.frames
    → told ≡ packed k.difference → g ≡ with_frames f k.frames → pc ≡ k.pc
    → slice_get (reverse (map (whole_state file) (reverse items))) n ≡ Some w → (told ≡ packed_of file w)
    × (frames_of g ≡ w.frames) × (pc ≡ w.pc)
shown_is file items n k w told f g pc there le some t e p h =
    let is : w ≡ whole_state file k = whole_there file items n k w there h in
    let same : packed_of file (whole_state file k) ≡ packed k.difference = ap packed
    (difference_back file k.difference le) in (
      t ∙ sym (ap (packed_of file) is ∙ same),
      ap (λ (x : FrameList). frames_of x) e ∙ frames_there f k.frames some
          ∙ sym (ap (λ (x : WholeState). x.frames) is),
      p ∙ sym (ap (λ (x : WholeState). x.pc) is),
    )

-- the dynamic memory of each state has the length of the story's
pub all_sized : (m : MemoryMap) (f : FrameList) (u : UndoStates) → m.static_base ≤ length m.file → AreOf m f u
    → All (λ (w : WholeState). length w.dynamic ≡ m.static_base) (states_in m.file u)
unfolding states_in AreOf
all_sized m f u le are = sized u.states are
  where
    one : (k : KeptState) → length k.difference ≡ m.static_base → length (whole_state m.file k).dynamic ≡ m.static_base
    one k e = length-xored_same (take (length k.difference) m.file) k.difference
        (length-take-le (length k.difference) m.file (omega (arith, e, le))) ∙ e

    sized : (ks : List KeptState) → All (IsOf m.static_base f.most_frames f.most_words) ks
        → All (λ (w : WholeState). length w.dynamic ≡ m.static_base) (map (whole_state m.file) ks)
    sized [] h = All-nil (λ (w : WholeState). length w.dynamic ≡ m.static_base)
    sized (k ∷ ks) h =
        let first = All-head (IsOf m.static_base f.most_frames f.most_words) k ks h in
        All-cons (λ (w : WholeState). length w.dynamic ≡ m.static_base) (whole_state m.file k)
        (map (whole_state m.file) ks) (one k first.dynamic)
        (sized ks (All-tail (IsOf m.static_base f.most_frames f.most_words) k ks h))
