-- The first line of bytes.
use Rattle.std.specs.Str.Lines.{lines, lines_of_parts, strip_carriage_return}
use Rattle.std.specs.List.{position_or_len, slice_split}
use Rattle.std.specs.Prelude.{not, MatchOption}
use Rattle.std.proofs.Common.{◌≡◌, ◌∙◌, ◌≢◌, ℕ, ◌+◌, ◌-◌, ◌<◌, ◌≤◌, ◌==◌, Bool, true, false, List, [], ◌∷◌, length}
use Rattle.std.proofs.Common.{take, drop, get_or, Option, Some, None, refl, ap, sym, arith, add-one, drop-cons}
use Rattle.std.proofs.lemmas.Bool.Decides.{nat_tests}
use Rattle.std.proofs.lemmas.List.{drop_all, take_rest}
use Rattle.std.proofs.lemmas.List.Elements.{All-from_get_or}
use Rattle.std.proofs.lemmas.List.Splits.{length-slice_split, slice_split_first, slice_split_none}
use Rattle.zk_suite.specs.declared.lines.Cut.{Cut}
use Rattle.std.proofs.lemmas.List.Sums.{prefix_len_passes}

-- how many bytes stand before the first new line
abbrev pub line_len : List ℕ → ℕ
line_len bs = position_or_len (λ b. b == 10) bs

differs : (b : ℕ) → b ≢ 10 → (b == 10) ≡ false
differs b h = grind (arith, nat_tests)

agrees : (b : ℕ) → b ≡ 10 → (b == 10) ≡ true
agrees b h = grind (arith, nat_tests)

pub length_on : (bs : List ℕ) (i : ℕ) → i < length bs → get_or bs i 0 ≢ 10
    → line_len (drop i bs) ≡ 1 + line_len (drop (i + 1) bs)
length_on bs i h other = rw (drop-cons bs i 0, add-one i, differs (get_or bs i 0) other) refl

pub length_stops : (bs : List ℕ) (i : ℕ) → i < length bs → get_or bs i 0 ≡ 10 → line_len (drop i bs) ≡ 0
length_stops bs i h new = rw (drop-cons bs i 0, agrees (get_or bs i 0) new) refl

pub length_ends : (bs : List ℕ) (i : ℕ) → length bs ≤ i → line_len (drop i bs) ≡ 0
length_ends bs i h = rw (drop_all i bs h) refl

no_test : (b : Bool) → not b ≡ true → b ≡ false
no_test true h = absurd cc
no_test false h = refl

alone : (bs : List ℕ) → line_len bs ≡ length bs → slice_split (λ b. b == 10) bs ≡ bs ∷ []
alone bs e =
    slice_split_none (λ b. b == 10) bs (All-from_get_or (λ b. (b == 10) ≡ false) bs 0
    (λ i h. no_test _ (prefix_len_passes (λ b. not (b == 10)) bs i 0 (omega (arith, e, h)))))

not_empty : (bs : List ℕ) → 0 < length bs → (length bs == 0) ≡ false
not_empty bs h = grind (arith, nat_tests)

-- bytes without a new line are the last line
pub last_line : (bs : List ℕ) (n : ℕ) → 0 < length bs → n ≡ line_len bs → n ≡ length bs
    → lines bs ≡ bs ∷ lines (take (length bs - n) (drop n bs))
last_line bs n h e f =
    let none : drop n bs ≡ [] = drop_all n bs (omega (arith, f)) in
    rw (take_rest bs n, none, alone bs (sym e ∙ f), not_empty bs h) refl

more_parts : (x : List ℕ) (ps : List (List ℕ)) → 0 < length ps → lines_of_parts (x ∷ ps) ≡ strip_carriage_return x
    ∷ lines_of_parts ps
more_parts x [] h = absurd (omega arith)
more_parts x (y ∷ ys) h = refl

-- a line before others
pub next_line : (bs : List ℕ) (n : ℕ) → n ≡ line_len bs → n < length bs
    → lines bs ≡ strip_carriage_return (take n bs) ∷ lines (take (length bs - (n + 1)) (drop (n + 1) bs))
next_line bs n e h =
    let some : 0 < length (slice_split (λ b. b == 10) (drop (n + 1) bs)) = omega (
      arith,
      length-slice_split (λ b. b == 10) (drop (n + 1) bs),
    ) in
    let parts : slice_split (λ b. b == 10) bs ≡ take n bs ∷ slice_split (λ b. b == 10) (drop (n + 1) bs) = rw e
    (slice_split_first (λ b. b == 10) bs 0 (rw e at h)) in
    rw (take_rest bs (n + 1)) (ap lines_of_parts parts ∙ more_parts (take n bs)
    (slice_split (λ b. b == 10) (drop (n + 1) bs)) some)

-- bytes of which no line is cut have none
pub at_end : (bytes : List ℕ) (o : Option Cut) → ((c : Cut) → o ≡ Some c → ⊥)
    → MatchOption o (lines bytes ≡ []) (λ c. lines bytes ≡ c.line.now ∷ lines c.rest.now) → lines bytes ≡ []
at_end bytes None none h = h
at_end bytes (Some c) none h = absurd (none c refl)
