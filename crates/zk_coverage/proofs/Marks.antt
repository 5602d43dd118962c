-- The states of lines, with one sequence point more.
use Rattle.std.proofs.Common.{◌≡◌, ◌≢◌, ◌∙◌, ℕ, zero, suc, ◌+◌, ◌-◌, ◌<◌, ◌≤◌, ◌==◌, ◌&&◌, ◌||◌, Bool, true, false}
use Rattle.std.proofs.Common.{List, [], ◌∷◌, ◌++◌, Option, Some, None, ap, arith, cond, get_or, leb, length, refl, sym}
use Rattle.std.proofs.Common.{count_by, leb-true, max, take}
use Rattle.std.proofs.lemmas.List.{take_more}
use Rattle.std.proofs.lemmas.Bool.Decides.{nat_tests}
use Rattle.std.proofs.lemmas.List.Folds.{list_any-append}
use Rattle.std.proofs.lemmas.List.Sums.{sum_by-cons}
use Rattle.zk_names.specs.declared.names.Point.{Point}
use Rattle.zk_names.specs.declared.names.Place.{Place}
use Rattle.zk_coverage.specs.Coverage.{has_run}
use Rattle.zk_coverage.specs.Lines.{file_share, has_code, index_in, is_on, is_ran, line_state, lines_share}
use Rattle.zk_coverage.specs.Lines.{lowest_line, numbers, state_at, with_point}
use Rattle.zk_coverage.specs.declared.lines.LineState.{LineState}
use Rattle.zk_coverage.specs.declared.lines.LineState.TheVariants as state
use Rattle.zk_coverage.specs.declared.lines.Lines.{Lines}
use Rattle.zk_coverage.specs.declared.ran.Share.{Share}
use Rattle.zk_coverage.specs.declared.tally.Tally.{Tally}

-- a line without code more
pub filled : (xs : List LineState) (k : ℕ) → state_at (xs ++ state.NoCode ∷ []) k ≡ state_at xs k
filled [] zero = refl
filled [] (suc k) = refl
filled (x ∷ xs) zero = refl
filled (x ∷ xs) (suc k) = filled xs k

abbrev state_by : Bool → Bool → LineState
state_by ran code = cond ran state.Ran (cond code state.Missed state.NoCode)

by_tests : (a b o r : Bool) → state_by (a || ((o && r) || false)) (b || (o || false))
    ≡ cond o (with_point (state_by a b) r) (state_by a b)
by_tests true b true true = refl
by_tests true b true false = refl
by_tests true b false r = refl
by_tests false true true true = refl
by_tests false true true false = refl
by_tests false true false r = refl
by_tests false false true true = refl
by_tests false false true false = refl
by_tests false false false r = refl

one_more : (covered : List ℕ) (points : List Point) (p : Point) (file line : ℕ)
    → line_state covered (points ++ p ∷ []) file line
    ≡ cond (is_on file line p) (with_point (line_state covered points file line) (has_run covered p.address))
    (line_state covered points file line)
one_more covered points p file line =
    rw (
      list_any-append (λ q. is_on file line q && has_run covered q.address) points (p ∷ []),
      list_any-append (is_on file line) points (p ∷ []),
    ) (by_tests _ _ (is_on file line p) (has_run covered p.address))

found_by : (f g h : Bool) (x i : ℕ) → cond (f && (g && h)) (Some x) None ≡ Some i
    → (f ≡ true) × (g ≡ true) × (h ≡ true) × (x ≡ i)
found_by true true true x i e = (refl, refl, refl, cc)
found_by true true false x i e = absurd cc
found_by true false h x i e = absurd cc
found_by false g h x i e = absurd cc

same_test : (x first k i : ℕ) → leb first x ≡ true → x - first ≡ i → (x == first + k) ≡ (k == i)
same_test x first k i a e = grind (arith, nat_tests)

-- what an index says of the lines
on_index : (l : Lines) (p : Place) (i k : ℕ) → index_in l p ≡ Some i
    → (p.file == l.file && p.line == l.first + k) ≡ (k == i)
on_index l p i k e =
    let f = found_by (p.file == l.file) (leb l.first p.line) (leb p.line 1000000) (p.line - l.first) i e in
    rw f.0 (same_test p.line l.first k i f.1 f.3)

beyond : (x first k : ℕ) (t : Bool) → (x == first + k) ≡ t → first + k ≤ 1000000
    → (leb first x && leb x 1000000) ≡ false → t ≡ false
beyond x first k false u h e = refl
beyond x first k true u h e =
    let same : x ≡ first + k = grind (arith, nat_tests) in
    let low : leb first x ≡ true = grind (arith, nat_tests) in
    let high : leb x 1000000 ≡ true = grind (arith, nat_tests) in
    absurd (let no : true ≡ false = (rw (low, high) at e) in cc)

none_by : (f b : Bool) (x : ℕ) → cond (f && b) (Some x) None ≡ None → f ≡ true → b ≡ false
none_by true true x e h = absurd cc
none_by true false x e h = refl
none_by false b x e h = absurd cc

off_by : (f b : Bool) → (f ≡ true → b ≡ false) → (f && b) ≡ false
off_by true b h = h refl
off_by false b h = refl

on_none : (l : Lines) (p : Place) (k : ℕ) → index_in l p ≡ None → l.first + k ≤ 1000000
    → (p.file == l.file && p.line == l.first + k) ≡ false
on_none l p k e h =
    off_by (p.file == l.file) (p.line == l.first + k)
    (λ f. beyond p.line l.first k (p.line == l.first + k) refl h
    (none_by (p.file == l.file) (leb l.first p.line && leb p.line 1000000) (p.line - l.first) e f))

here_or_else : (k i : ℕ) (t : Bool) → (k == i) ≡ t → (s n : LineState) → (k ≡ i → s ≡ n) → (o : LineState)
    → (k ≢ i → s ≡ o) → s ≡ cond t n o
here_or_else k i true e s n a o b = a (grind (arith, nat_tests))
here_or_else k i false e s n a o b = let apart : k ≢ i = grind (arith, nat_tests) in b apart

-- a sequence point on one of the lines is noted
pub noted : (covered : List ℕ) (xs : List Point) (n : ℕ) (d : Point) (l : Lines) (i : ℕ) (old new : List LineState)
    (o : Option ℕ) (r : Bool) → n < length xs → o ≡ index_in l (get_or xs n d).place → o ≡ Some i
    → r ≡ has_run covered (get_or xs n d).address → state_at new i ≡ with_point (state_at old i) r
    → ((k : ℕ) → k ≢ i → state_at new k ≡ state_at old k) → (k : ℕ) → l.first + k ≤ 1000000
    → state_at old k ≡ line_state covered (take n xs) l.file (l.first + k)
    → state_at new k ≡ line_state covered (take (n + 1) xs) l.file (l.first + k)
noted covered xs n d l i old new o r lt e is ran point others k h before =
    rw (
      take_more xs n d lt,
      one_more covered (take n xs) (get_or xs n d) l.file (l.first + k),
      on_index l (get_or xs n d).place i k (sym e ∙ is),
    ) (here_or_else k i (k == i) refl (state_at new k)
    (with_point (line_state covered (take n xs) l.file (l.first + k)) (has_run covered (get_or xs n d).address))
    (λ (same : k ≡ i). ap (state_at new) same ∙ point ∙ ap (λ s. with_point s r)
    (ap (state_at old) (sym same) ∙ before) ∙ ap (with_point _) ran)
    (line_state covered (take n xs) l.file (l.first + k))
    (λ apart. others k apart ∙ before))

-- and one that is on none of them changes nothing
pub passed : (covered : List ℕ) (xs : List Point) (n : ℕ) (d : Point) (l : Lines) (old : List LineState)
    (o : Option ℕ) → n < length xs → o ≡ index_in l (get_or xs n d).place → o ≡ None
    → (k : ℕ) → l.first + k ≤ 1000000 → state_at old k ≡ line_state covered (take n xs) l.file (l.first + k)
    → state_at old k ≡ line_state covered (take (n + 1) xs) l.file (l.first + k)
passed covered xs n d l old o lt e is k h before =
    rw (
      take_more xs n d lt,
      one_more covered (take n xs) (get_or xs n d) l.file (l.first + k),
      on_none l (get_or xs n d).place k (sym e ∙ is) h,
    ) before

-- what an index leaves of the bound on the count of states
pub index_bound : (l : Lines) (p : Place) (i before after : ℕ) {new : ℕ} → index_in l p ≡ Some i
    → before ≤ 1000001 - l.first → after ≤ max before (i + 1) → new ≡ after → new ≤ 1000001 - l.first
index_bound l p i before after e b a n =
    let f = found_by (p.file == l.file) (leb l.first p.line) (leb p.line 1000000) (p.line - l.first) i e in
    let low : l.first ≤ p.line = leb-true _ _ f.1 in
    let high : p.line ≤ 1000000 = leb-true _ _ f.2 in
    let at : p.line - l.first ≡ i = f.3 in
    omega arith

none_more : (n : ℕ) → 0 + n ≡ n
none_more n = omega arith

skipped : {X : Type 0} (q : X → Bool) (x : X) (xs : List X) → q x ≡ false → count_by q (x ∷ xs) ≡ count_by q xs
skipped q x xs e =
    sum_by-cons (λ y. cond (q y) 1 0) x xs ∙ ap (λ (b : Bool). cond b 1 0 + count_by q xs) e ∙ none_more (count_by q xs)

both_more : {X Y : Type 0} (p : X → Bool) (q : Y → Bool) (x : X) (y : Y) (xs : List X) (ys : List Y) → p x ≡ q y
    → count_by p xs ≡ count_by q ys → count_by p (x ∷ xs) ≡ count_by q (y ∷ ys)
both_more p q x y xs ys e h =
    sum_by-cons (λ z. cond (p z) 1 0) x xs ∙ ap (λ (b : Bool). cond b 1 0 + count_by p xs) e
    ∙ ap (λ (n : ℕ). cond (q y) 1 0 + n) h ∙ sym (sum_by-cons (λ z. cond (q z) 1 0) y ys)

later : (f : ℕ → LineState) (first k : ℕ) {s : LineState} → s ≡ f (first + suc k) → s ≡ f (suc first + k)
later f first k h = let e : first + suc k ≡ suc first + k = omega arith in h ∙ ap f e

-- a count over the states is one over the numbers of the lines
pub counted : (p : LineState → Bool) → p state.NoCode ≡ false → (f : ℕ → LineState) (states : List LineState)
    (first n : ℕ) → length states ≤ n → ((k : ℕ) → k < n → state_at states k ≡ f (first + k))
    → count_by p states ≡ count_by (λ m. p (f m)) (numbers first n)
unfolding numbers
counted p none f [] first zero l h = refl
counted p none f [] first (suc n) l h =
    let start : first + 0 ≡ first = omega arith in
    let here : p (f first) ≡ false = ap p (sym (h 0 (omega arith) ∙ ap f start)) ∙ none in
    counted p none f [] (suc first) n (omega arith) (λ k u. later f first k (h (suc k) (omega (arith, u))))
    ∙ sym (skipped (λ m. p (f m)) first (numbers (suc first) n) here)
counted p none f (s ∷ states) first zero l h = absurd (omega arith)
counted p none f (s ∷ states) first (suc n) l h =
    let start : first + 0 ≡ first = omega arith in
    let here : p s ≡ p (f first) = ap p (h 0 (omega arith) ∙ ap f start) in
    both_more p (λ m. p (f m)) s first states (numbers (suc first) n) here
    (counted p none f states (suc first) n (omega (arith, l))
    (λ k u. later f first k (h (suc k) (omega (arith, u)))))

pub shares_are : (covered : List ℕ) (points : List Point) (l : Lines) (states : List LineState)
    → length states ≤ 1000001 - l.first
    → ((k : ℕ) → l.first + k ≤ 1000000 → state_at states k ≡ line_state covered points l.file (l.first + k))
    → lines_share states ≡ file_share covered points l
shares_are covered points l states b h =
    let all : (k : ℕ) → k < 1000001 - l.first → state_at states k ≡ line_state covered points l.file (l.first + k) =
    λ k u. h k (omega (arith, u)) in
    let f = λ (n : ℕ). line_state covered points l.file n in
    rw (
      counted is_ran refl f states l.first (1000001 - l.first) b all,
      counted has_code refl f states l.first (1000001 - l.first) b all,
    ) refl

-- what ran of a routine, whose sequence points and lowest line are known
pub routine_is : (covered : List ℕ) (ps qs : List Point) (file first : ℕ) → ps ≡ qs → first ≡ lowest_line ps
    → file_share covered ps (record { file = file; first = first })
    ≡ file_share covered qs (record { file = file; first = lowest_line qs })
routine_is covered ps qs file first e f =
    ap (λ (n : ℕ). file_share covered ps (record { file = file; first = n })) f
    ∙ ap (λ (l : List Point). file_share covered l (record { file = file; first = lowest_line l })) e

abbrev tally : Share → Share → Share → Tally
tally a b c = record { lines = a; routines = b; texts = c }

pub tallies_are : (a b c d e f : Share) → a ≡ b → c ≡ d → e ≡ f → tally a c e ≡ tally b d f
tallies_are a b c d e f p q r = rw (p, q, r) refl
