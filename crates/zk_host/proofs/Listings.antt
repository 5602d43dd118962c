-- Lines of facts, one after another and in parts.
use Rattle.std.proofs.Common.{◌≡◌, ◌∙◌, ◌≤◌, ◌<◌, ℕ, zero, suc, ◌+◌, ◌-◌, List, [], ◌∷◌, ◌++◌, length, take}
use Rattle.std.proofs.Common.{drop, codes, min, false, append_assoc, append-nil, refl, sym, ap, arith}
use Rattle.std.proofs.lemmas.Grind.{flat_map-append}
use Rattle.std.proofs.lemmas.List.{drop-drop, drop_min, length-append, length-drop, take_all}
use Rattle.zk_mem.specs.Map.{MemoryMap}
use Rattle.zk_inspect.specs.Lines.{AreLines, fact_line, lines_of}
use Rattle.zk_inspect.specs.declared.fact.Fact.{Fact}
use Rattle.zk_host.specs.declared.listing.LinesEnd.{LinesEnd}
use Rattle.zk_host.specs.declared.listing.LinesEnd.TheVariants as end
use Rattle.zk_host.specs.declared.listing.Listing.{Listing}
use Rattle.zk_host.specs.declared.listing_run.ListingRun.{ListingRun}
use Rattle.zk_host.specs.Listings.{AreListed, AreWritten, IsCut, IsLonger, IsListing, IsPartBy, all_words}
use Rattle.zk_host.specs.Listings.{fact_words}
use Rattle.zk_host.specs.ListingRuns.{IsBegun, IsGoneOn, IsListedThrough, facts_left}

-- ---- lists

take_drop : {A : Type 0} (n : ℕ) (xs : List A) → take n xs ++ drop n xs ≡ xs
take_drop {A} zero xs = refl
take_drop {A} (suc n) [] = refl
take_drop {A} (suc n) (x ∷ xs) = ap (λ (l : List A). x ∷ l) (take_drop n xs)

pub take_whole : {A : Type 0} (n : ℕ) (xs : List A) → n ≡ length xs → take n xs ≡ xs
take_whole {A} zero [] e = refl
take_whole {A} (suc n) [] e = absurd (omega arith)
take_whole {A} zero (x ∷ xs) e = absurd (omega arith)
take_whole {A} (suc n) (x ∷ xs) e = ap (λ (l : List A). x ∷ l) (take_whole n xs (omega arith))

-- ---- lines

lines_joined : (m : MemoryMap) (fs gs : List Fact) → lines_of false m (fs ++ gs) ≡ lines_of false m fs
    ++ lines_of false m gs
unfolding lines_of
lines_joined m fs gs = flat_map-append (λ f. fact_line false m f ++ codes "\n") fs gs

words_joined : (m : MemoryMap) (fs gs : List Fact) → all_words m (fs ++ gs) ≡ all_words m fs + all_words m gs
unfolding all_words
words_joined m [] gs = omega arith
words_joined m (f ∷ fs) gs = let rest = words_joined m fs gs in omega (arith, rest)

pub none_written : (m : MemoryMap) (facts : List Fact) (words : ℕ) (before : List ℕ)
    → AreWritten m facts 0 words words before before
unfolding lines_of all_words
none_written m facts words before = record {
  few = omega arith;
  text = sym (append-nil before);
  counted = omega arith;
}

-- a text that has not too many words is counted whole
pub counted_whole : (count words left : ℕ) → count ≡ min words 131073 → count ≤ min left 131072 → count ≡ words
counted_whole count words left is few = omega (arith, is, few)

pub counted_few : (count left : ℕ) → count ≤ min left 131072 → count ≤ left
counted_few count left few = omega (arith, few)

-- one line more
pub one_written : (m : MemoryMap) (facts : List Fact) (n words left count : ℕ) (f : Fact) (before now after : List ℕ)
    → n < length facts → take (n + 1) facts ≡ take n facts ++ f ∷ [] → AreWritten m facts n words left before now
    → after ≡ now ++ lines_of false m (f ∷ []) → count ≡ fact_words m f → count ≤ left
    → AreWritten m facts (n + 1) words (left - count) before after
unfolding all_words
one_written m facts n words left count f before now after lt more h text counted few =
    let joined = words_joined m (take n facts) (f ∷ []) in
    let so_far = h.counted in
    record {
      few = omega arith;
      text = text ∙ ap (λ (l : List ℕ). l ++ lines_of false m (f ∷ [])) h.text
          ∙ append_assoc before (lines_of false m (take n facts)) (lines_of false m (f ∷ []))
          ∙ ap (λ (l : List ℕ). before ++ l) (sym (lines_joined m (take n facts) (f ∷ [])))
          ∙ ap (λ (l : List Fact). before ++ lines_of false m l) (sym more);
      counted = rw more (omega (arith, joined, so_far, counted));
    }

pub all_written : (m : MemoryMap) (facts : List Fact) (n words left : ℕ) (before after : List ℕ)
    → AreWritten m facts n words left before after → n ≡ length facts → after ≡ before ++ lines_of false m facts
all_written m facts n words left before after h e =
    h.text ∙ ap (λ (l : List Fact). before ++ lines_of false m l) (take_whole n facts e)

-- a line that is cut off cuts off all
pub cut_written : (m : MemoryMap) (facts : List Fact) (n words left : ℕ) (f : Fact) (before now after : List ℕ)
    → take (n + 1) facts ≡ take n facts ++ f ∷ [] → AreWritten m facts n words left before now
    → IsCut now after (lines_of false m (f ∷ [])) → IsCut before after (lines_of false m facts)
cut_written m facts n words left f before now after more h cut =
    let done = lines_of false m (take n facts) in
    let others = lines_of false m (drop (n + 1) facts) in
    record {
      part = done ++ cut.part;
      rest = cut.rest ++ others;
      whole = ap (lines_of false m) (sym (take_drop (n + 1) facts))
          ∙ lines_joined m (take (n + 1) facts) (drop (n + 1) facts)
          ∙ ap (λ (l : List Fact). lines_of false m l ++ others) more
          ∙ ap (λ (l : List ℕ). l ++ others) (lines_joined m (take n facts) (f ∷ [])
          ∙ ap (λ (l : List ℕ). done ++ l) cut.whole ∙ sym (append_assoc done cut.part cut.rest))
          ∙ append_assoc (done ++ cut.part) cut.rest others;
      text = cut.text ∙ ap (λ (l : List ℕ). l ++ cut.part) h.text ∙ append_assoc before done cut.part;
    }

-- ---- parts

-- a slice up to the end
pub slice_rest : {A : Type 0} (xs : List A) (k : ℕ) → take (length xs - k) (drop k xs) ≡ drop k xs
slice_rest {A} xs k = let size = length-drop k xs in take_all (length xs - k) (drop k xs) (omega (arith, size))

-- what was written of a listing is a first part of it
first_written : (m : MemoryMap) (facts : List Fact) (n words left : ℕ) (after : List ℕ)
    → AreWritten m facts n words left [] after → (rest : List ℕ) × (lines_of false m facts ≡ after ++ rest)
first_written m facts n words left after h = (
  lines_of false m (drop n facts),
  ap (lines_of false m) (sym (take_drop n facts)) ∙ lines_joined m (take n facts) (drop n facts)
      ∙ ap (λ (l : List ℕ). l ++ lines_of false m (drop n facts)) (sym h.text),
)

first_part : (m : MemoryMap) (facts : List Fact) (e : LinesEnd) (n words left : ℕ) (after : List ℕ)
    → IsPartBy e m facts n words left [] after → (rest : List ℕ) × (lines_of false m facts ≡ after ++ rest)
first_part m facts end.Over n words left after h = first_written m facts n words left after h.0
first_part m facts end.Paused n words left after h = first_written m facts n words left after h
first_part m facts end.TooManyWords n words left after h = first_written m facts n words left after h.0
first_part m facts end.Cut n words left after h =
    (h.rest, h.whole ∙ ap (λ (l : List ℕ). l ++ h.rest) (sym h.text))

pub longer_part : (l : Listing) (m : MemoryMap) (facts : List Fact) (e : LinesEnd) (n words left most : ℕ)
    (after : List ℕ) → AreListed l m facts → IsPartBy e m facts n words left [] after → most < length after
    → IsLonger l m most
longer_part l m facts e n words left most after listed h longer =
    let first = first_part m facts e n words left after h in
    let size = ap length first.1 ∙ length-append after first.0 in
    record {
      text = lines_of false m facts;
      is = (facts, listed, refl);
      longer = omega (arith, size, longer);
    }

-- what is left after some more, of a list that may be at its end
pub left_behind : {A : Type 0} (xs : List A) (next from lines after : ℕ) → from ≡ min next (length xs)
    → after ≡ from + lines → drop after xs ≡ drop lines (drop next xs)
left_behind {A} xs next from lines after is e =
    ap (λ (k : ℕ). drop k xs) e ∙ sym (drop-drop lines from xs)
    ∙ ap (λ (k : ℕ). drop lines (drop k xs)) is ∙ ap (drop lines) (drop_min next xs)

through_left : (run : ListingRun) (text : List ℕ) → IsListedThrough run text
    → text ≡ lines_of false run.memory (facts_left run)
through_left run text (IsListedThrough.Last _ next t h) = all_written run.memory (facts_left run) h.lines run.words
    next.words [] t h.part.0 h.part.1
through_left run text (IsListedThrough.Part _ next t others h rest) =
    let m = run.memory in
    let same : next.memory ≡ m = ap (λ (r : ListingRun). r.memory) h.beside in
    let behind : others ≡ lines_of false m (drop h.lines (facts_left run)) = through_left next others rest
    ∙ ap (λ (x : MemoryMap). lines_of false x (facts_left next)) same
    ∙ ap (λ (l : List Fact). lines_of false m l) h.left in
    ap (λ (l : List ℕ). l ++ others) h.part.text
    ∙ ap (λ (l : List ℕ). lines_of false m (take h.lines (facts_left run)) ++ l) behind
    ∙ sym (lines_joined m (take h.lines (facts_left run)) (drop h.lines (facts_left run)))
    ∙ ap (λ (l : List Fact). lines_of false m l) (take_drop h.lines (facts_left run))

pub parts_whole : (l : Listing) (number : ℕ) (m : MemoryMap) (run : ListingRun) (text : List ℕ)
    → IsBegun l number m run → IsListedThrough run text → IsListing l m text
parts_whole l number m run text h through =
    let whole : text ≡ lines_of false m run.facts.items = through_left run text through
    ∙ ap (λ (x : MemoryMap). lines_of false x (facts_left run)) h.memory
    ∙ ap (λ (n : ℕ). lines_of false m (drop n run.facts.items)) h.none in
    (run.facts.items, h.facts, whole)
