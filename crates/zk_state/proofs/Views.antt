-- Frames by their numbers.
use Rattle.std.specs.Prelude.{reverse, slice_get, if◌then◌else◌}
use Rattle.std.proofs.Common.{◌≡◌, ◌∙◌, ℕ, Bool, true, false, nat_eq, zero, suc, ◌+◌, ◌-◌, ◌<◌, ◌≤◌, List, [], ◌∷◌}
use Rattle.std.proofs.Common.{◌++◌, length, take, drop, get_or, Some, refl, ap, sym, arith, length-append}
use Rattle.std.proofs.lemmas.List.{drop-take, length-reverse, length-take-le, take_all, take-take, get_or-reverse}
use Rattle.std.proofs.lemmas.List.{reverse-append}
use Rattle.std.proofs.lemmas.Option.{slice_get-get_or}
use Rattle.zk_state.specs.declared.records.FrameRecord.{FrameRecord}
use Rattle.zk_state.specs.Frames.{Frame, FrameList, frames_of, IsFrame}
use Rattle.zk_state.specs.declared.frames.Frames.TheInside.{Inside}
use Rattle.zk_state.specs.Flat.{frame_of, frames_in, seen, Chain, IsRecord, IsKept}
use Rattle.zk_state.proofs.Calls.{length-frames_in, locals_length, depth_is}
use Rattle.std.proofs.lemmas.List.Elements.{All-push, All-get_or}
use Rattle.std.proofs.lemmas.Bool.Decides.{nat_tests}

-- where the words of a record end, newest first
abbrev pub end_in : List FrameRecord → ℕ → FrameRecord → ℕ → ℕ
end_in qs zero d n = n
end_in qs (suc i) d n = (get_or qs i d).base

base_low : (qs : List FrameRecord) (n i : ℕ) (d : FrameRecord) → Chain qs n → i < length qs → (get_or qs i d).base ≤ n
unfolding Chain
base_low [] n i d h lt = absurd (omega arith)
base_low (q ∷ qs) n zero d h lt = let base = h.0 in let stack_base = h.1 in omega arith
base_low (q ∷ qs) n (suc i) d h lt =
    let base = h.0 in let stack_base = h.1 in let rest = base_low qs q.base i d h.2 (omega arith) in omega arith

end_low : (qs : List FrameRecord) (n i : ℕ) (d : FrameRecord) → Chain qs n → i < length qs → end_in qs i d n ≤ n
end_low qs n zero d h lt = omega arith
end_low qs n (suc i) d h lt = base_low qs n i d h (omega arith)

end_step : (q : FrameRecord) (qs : List FrameRecord) (i : ℕ) (d : FrameRecord)
    → end_in qs i d q.base ≡ end_in (q ∷ qs) (suc i) d 0
end_step q qs zero d = refl
end_step q qs (suc i) d = refl

frame_in : (qs : List FrameRecord) (xs : List ℕ) (i : ℕ) (d : FrameRecord) → Chain qs (length xs) → i < length qs
    → slice_get (frames_in qs xs) i ≡ Some (frame_of (get_or qs i d) (take (end_in qs i d (length xs)) xs))
unfolding frames_in Chain
frame_in [] xs i d h lt = absurd (omega arith)
frame_in (q ∷ qs) xs zero d h lt = rw (take_all (length xs) xs (omega arith)) refl
frame_in (q ∷ qs) xs (suc i) d h lt =
    let base : q.base ≤ length xs = let low = h.0 in let high = h.1 in omega arith in
    let inside : i < length qs = omega arith in
    let long : length (take q.base xs) ≡ q.base = length-take-le q.base xs base in
    let end : ℕ = (get_or (q ∷ qs) i d).base in
    let ends : end_in qs i d (length (take q.base xs)) ≡ end = ap (end_in qs i d) long ∙ end_step q qs i d in
    let low : end ≤ q.base = omega (arith, end_low qs q.base i d h.2 inside, end_step q qs i d) in
    frame_in qs (take q.base xs) i d (rw long h.2) inside
    ∙ ap (λ (n : ℕ). Some (frame_of (get_or qs i d) (take n (take q.base xs)))) ends
    ∙ ap (λ (l : List ℕ). Some (frame_of (get_or qs i d) l)) (take-take end q.base xs low)

in_order : (qs : List FrameRecord) (n i : ℕ) (d : FrameRecord) → Chain qs n → i < length qs
    → ((get_or qs i d).base ≤ (get_or qs i d).stack_base) × ((get_or qs i d).stack_base ≤ end_in qs i d n)
unfolding Chain
in_order [] n i d h lt = absurd (omega arith)
in_order (q ∷ qs) n zero d h lt = (h.0, h.1)
in_order (q ∷ qs) n (suc i) d h lt =
    let rest = in_order qs q.base i d h.2 (omega arith) in
    let high : (get_or qs i d).stack_base ≤ end_in qs i d q.base = rest.1 in
    (rest.0, rw (← end_step q qs i d) high)

from_end : {X : Type 0} (xs : List X) (n : ℕ) (d : X) → n < length xs
    → slice_get (reverse xs) n ≡ slice_get xs (length xs - 1 - n)
from_end {X} xs n d lt =
    slice_get-get_or (reverse xs) n d (omega (arith, length-reverse xs))
    ∙ ap (λ (x : X). Some x) (get_or-reverse xs n d lt)
    ∙ sym (slice_get-get_or xs (length xs - 1 - n) d (omega arith))

module _ (callers : List FrameRecord) (current : FrameRecord) (xs : List ℕ) (n : ℕ)
    (base : current.base ≤ current.stack_base) (stack_base : current.stack_base ≤ length xs)
    (below : Chain (reverse callers) current.base) (le : n ≤ length callers) where
  -- the records, oldest first and newest first
  abbrev up : List FrameRecord
  up = callers ++ current ∷ []

  abbrev down : List FrameRecord
  down = current ∷ reverse callers

  same : reverse up ≡ down
  same = reverse-append callers (current ∷ [])

  length_up : length up ≡ length callers + 1
  length_up = length-append callers (current ∷ [])

  length_down : length down ≡ length callers + 1
  length_down = omega (arith, length-reverse callers)

  record_down : (k m : ℕ) → k + m ≡ length callers → get_or down k current ≡ get_or up m current
  record_down k m e =
      let at : length up - 1 - k ≡ m = omega (arith, length_up) in
      ap (λ (l : List FrameRecord). get_or l k current) (sym same) ∙ get_or-reverse up k current
      (omega (arith, length_up)) ∙ ap (λ (i : ℕ). get_or up i current) at

  abbrev end : Bool → ℕ
  end b = if b then length xs else (get_or up (n + 1) current).base

  end_down : (k : ℕ) (b : Bool) → nat_eq n (length callers) ≡ b → k + n ≡ length callers
      → end_in down k current (length xs) ≡ end b
  end_down zero true e s = refl
  end_down zero false e s = absurd (grind (arith, nat_tests))
  end_down (suc k) true e s = absurd (grind (arith, nat_tests))
  end_down (suc k) false e s = ap (λ (r : FrameRecord). r.base) (record_down k (n + 1) (omega arith))

  pub frame_at : slice_get (reverse (frame_of current xs ∷ frames_in (reverse callers) (take current.base xs)))
      n ≡ Some (frame_of (get_or up n current) (take (end (nat_eq n (length callers))) xs))
  unfolding frames_in Chain
  frame_at =
      let k : ℕ = length callers - n in
      let all : List Frame = frames_in down xs in
      let long : length all ≡ length callers + 1 = length-frames_in down xs ∙ length_down in
      let at : length all - 1 - n ≡ k = omega (arith, long) in
      let split : k + n ≡ length callers = omega arith in
      from_end all n (frame_of current xs) (omega (arith, long))
      ∙ ap (slice_get all) at
      ∙ frame_in down xs k current (base, stack_base, below) (omega (arith, length_down))
      ∙ ap (λ (r : FrameRecord). Some (frame_of r (take (end_in down k current (length xs)) xs)))
      (record_down k n split)
      ∙ ap (λ (e : ℕ). Some (frame_of (get_or up n current) (take e xs)))
      (end_down k (nat_eq n (length callers)) refl split)

  -- the record of a number is in order

  pub record_is : ((get_or up n current).base ≤ (get_or up n current).stack_base)
      × ((get_or up n current).stack_base ≤ end (nat_eq n (length callers)))
      × (end (nat_eq n (length callers)) ≤ length xs)
  unfolding Chain
  record_is =
      let k : ℕ = length callers - n in
      let split : k + n ≡ length callers = omega arith in
      let inside : k < length down = omega (arith, length_down) in
      let chain : Chain down (length xs) = (base, stack_base, below) in
      let r = record_down k n split in
      let e = end_down k (nat_eq n (length callers)) refl split in
      let parts = in_order down (length xs) k current chain inside in
      let first : (get_or down k current).base ≤ (get_or down k current).stack_base = parts.0 in
      let second : (get_or down k current).stack_base ≤ end_in down k current (length xs) = parts.1 in
      let high = end_low down (length xs) k current chain inside in
      (rw (← r) first, rw (← r, ← e) second, rw (← e) high)

-- the parts of a frame's words

drop_of_take : (n m : ℕ) (xs : List ℕ) → n ≤ m → drop n (take m xs) ≡ take (m - n) (drop n xs)
drop_of_take n m xs le =
    let e : m ≡ n + (m - n) = omega arith in ap (λ (k : ℕ). drop n (take k xs)) e ∙ drop-take n (m - n) xs

pub locals_are : (xs : List ℕ) (base stack_base end : ℕ) → base ≤ stack_base → stack_base ≤ end
    → drop base (take stack_base (take end xs)) ≡ take (stack_base - base) (drop base xs)
locals_are xs base stack_base end low high =
    ap (drop base) (take-take stack_base end xs high) ∙ drop_of_take base stack_base xs low

pub words_are : (xs : List ℕ) (stack_base end : ℕ) → stack_base ≤ end
    → drop stack_base (take end xs) ≡ take (end - stack_base) (drop stack_base xs)
words_are xs stack_base end le = drop_of_take stack_base end xs le

-- what is known of the frame of a number, by its record and the end of its words
pub record IsViewed (s : Inside) (n : ℕ) (own : FrameRecord) (e : ℕ) : Type 0 where
  pub base : own.base ≤ own.stack_base
  pub stack_base : own.stack_base ≤ e
  pub end : e ≤ length s.words.items
  pub few : e ≤ 65535
  pub value : (f : Frame) → frame_of own (take e s.words.items) ≡ f
      → slice_get (reverse (frames_of (seen s))) n ≡ Some f
  pub is : (f : Frame) → frame_of own (take e s.words.items) ≡ f → IsFrame f

pub viewed : (s : Inside) (n : ℕ) (own : FrameRecord) (e : ℕ) → IsKept s → n ≤ length s.records.callers
    → own ≡ get_or (s.records.callers ++ s.records.current ∷ []) n s.records.current
    → e ≡ (if nat_eq n (length s.records.callers) then s.top
    else (get_or (s.records.callers ++ s.records.current ∷ []) (n + 1) s.records.current).base) → IsViewed s n own e
viewed s n own e i le oe ee =
    let xs : List ℕ = take s.top s.words.items in
    let up : List FrameRecord = s.records.callers ++ s.records.current ∷ [] in
    let fits : s.top ≤ length s.words.items = omega (arith, i.size, i.top) in
    let long : length xs ≡ s.top = length-take-le s.top s.words.items fits in
    let stack_base : s.records.current.stack_base ≤ length xs = omega (arith, i.stack_base) in
    let ends : e ≡ (if nat_eq n (length s.records.callers) then length xs
    else (get_or up (n + 1) s.records.current).base) =
    ee ∙ ap (λ (k : ℕ). if nat_eq n (length s.records.callers) then k
    else (get_or up (n + 1) s.records.current).base) (sym long) in
    let r = record_is s.records.callers s.records.current xs n i.base stack_base i.below le in
    let high : e ≤ length xs = rw ends r.2 in
    let low : own.stack_base ≤ e = rw (oe, ends) r.1 in
    let record_of : IsRecord own = rw oe (All-get_or IsRecord up n s.records.current
    (omega (arith, length-append s.records.callers (s.records.current ∷ [])))
    (All-push IsRecord s.records.callers s.records.current i.callers i.current)) in
    let same : frame_of (get_or up n s.records.current)
    (take (if nat_eq n (length s.records.callers) then length xs
    else (get_or up (n + 1) s.records.current).base) xs) ≡ frame_of own (take e s.words.items) =
    ap (λ (q : FrameRecord). frame_of q
    (take (if nat_eq n (length s.records.callers) then length xs
    else (get_or up (n + 1) s.records.current).base) xs)) (sym oe)
    ∙ ap (λ (k : ℕ). frame_of own (take k xs)) (sym ends)
    ∙ ap (frame_of own) (take-take e s.top s.words.items (omega (arith, high))) in
    let short : own.stack_base ≤ length (take e s.words.items) = omega (
      arith,
      length-take-le e s.words.items (omega (arith, high)),
    ) in
    record {
      base = rw oe r.0;
      stack_base = low;
      end = omega (arith, high);
      few = omega (arith, high, i.top, i.few_words);
      value = λ f h. frame_at s.records.callers s.records.current xs n i.base stack_base i.below le
          ∙ ap (λ (g : Frame). Some g) (same ∙ h);
      is =
          λ f h. rw (← h)
          (record {
            locals = omega (arith, locals_length own (take e s.words.items) short, record_of.short);
            supplied = record_of.supplied;
            pc = record_of.pc;
          });
    }

pub few_callers : (s : Inside) (v : FrameList) → seen s ≡ v → (n : ℕ) → n ≤ length v.callers
    → n ≤ length s.records.callers
few_callers s v e n le =
    omega (
      arith,
      le,
      ap (λ (f : FrameList). length f.callers) (sym e),
      depth_is s.records.callers
          (take s.records.current.base (take s.top s.words.items)),
    )
