-- The lines of a walkthrough, one after the other.
use Rattle.std.specs.Prelude.{option_to_list, is_none, is_some, not, option_map, cond, slice_get}
use Rattle.std.specs.List.{cons_option, filter_map}
use Rattle.std.proofs.Common.{◌≡◌, ℕ, suc, ◌+◌, ◌≤◌, Bool, true, false, List, [], ◌∷◌, ◌++◌, length, Option, Some, None}
use Rattle.std.proofs.Common.{refl, sym, arith, append_assoc, append-nil}
use Rattle.std.specs.Str.{bytes_eq}
use Rattle.zk_suite.specs.Scripts.{Asked, asked, asked_at, is_comment, is_command, command_count, comments}
use Rattle.zk_suite.specs.Scripts.{script, typed, typed_command}
use Rattle.zk_suite.specs.Scripts.{checks_after, commands_after, setting_in, first_of}

pub comment_on : (ls rest : List (List ℕ)) (l : List ℕ) → ls ≡ l ∷ rest → true ≡ is_comment l
    → (script ls ≡ script rest) × (length (comments ls) ≡ 1 + length (comments rest))
unfolding script comments
comment_on ls rest l e h = rw (e, sym h) (refl, omega arith)

pub comment_stops : (ls rest : List (List ℕ)) (l : List ℕ) → ls ≡ l ∷ rest → false ≡ is_comment l
    → (script ls ≡ ls) × (length (comments ls) ≡ 0)
unfolding script comments
comment_stops ls rest l e h = rw (e, sym h) (refl, refl)

pub comment_ends : (ls : List (List ℕ)) → ls ≡ [] → (script ls ≡ ls) × (length (comments ls) ≡ 0)
unfolding script comments
comment_ends ls e = rw e (refl, refl)

typed_by : (b : Bool) (l : List ℕ) (ls : List (List ℕ)) → is_command l ≡ b → typed (l ∷ ls) ≡ typed (l ∷ []) ++ typed ls
unfolding typed
typed_by true l ls e = rw (e, append-nil (typed_command l ++ (10 ∷ []))) refl
typed_by false l ls e = rw e refl

-- a line before others is typed before them
pub typed_on : (l : List ℕ) (ls : List (List ℕ)) → typed (l ∷ ls) ≡ typed (l ∷ []) ++ typed ls
typed_on l ls = typed_by (is_command l) l ls refl

pub option_before : {X : Type 0} (o : Option X) (xs ys : List X) → (xs ++ option_to_list o) ++ ys ≡ xs
    ++ cons_option o ys
option_before {X} None xs ys = rw (append-nil xs) refl
option_before {X} (Some x) xs ys = append_assoc xs (x ∷ []) ys

-- what a line asks comes before what those after it ask
pub checks_on : (c n : ℕ) (l : List ℕ) (ls : List (List ℕ)) (before : List Asked)
    → (before ++ option_to_list (asked_at c (n + 1) l)) ++ checks_after (c + command_count l) (n + 1) ls ≡ before
    ++ checks_after c n (l ∷ ls)
unfolding checks_after
checks_on c n l ls before = option_before (asked_at c (n + 1) l) before (checks_after (c + command_count l) (n + 1) ls)

-- ---- what a loop over lines leaves

pub mapped_none : {A B : Type 0} (f : A → B) (o : Option A) → is_none (option_map f o) ≡ is_none o
mapped_none {A} {B} f None = refl
mapped_none {A} {B} f (Some x) = refl

pub is_command_by : {A : Type 0} (f : A → Bool × List ℕ) (o : Option A) (l : List ℕ) (b : Bool)
    → option_map f o ≡ asked l → is_some o ≡ b → is_command l ≡ not b
is_command_by {A} f None l b e h = rw (← e, ← h) refl
is_command_by {A} f (Some x) l b e h = rw (← e, ← h) refl

pub typed_one : (l : List ℕ) → is_command l ≡ true → typed (l ∷ []) ≡ typed_command l ++ (10 ∷ [])
unfolding typed
typed_one l e = rw e (append-nil (typed_command l ++ (10 ∷ [])))

pub typed_none : (l : List ℕ) → is_command l ≡ false → typed (l ∷ []) ≡ []
unfolding typed
typed_none l e = rw e refl

pub typed_end : (xs : List ℕ) (ls : List (List ℕ)) → ls ≡ [] → xs ≡ xs ++ typed ls
unfolding typed
typed_end xs ls e = rw e (sym (append-nil xs))

pub checks_end : (xs : List Asked) (c n : ℕ) (ls : List (List ℕ)) → ls ≡ [] → xs ≡ xs ++ checks_after c n ls
unfolding checks_after
checks_end xs c n ls e = rw e (sym (append-nil xs))

one_by : (b : Bool) → cond b 1 0 ≤ 1
one_by true = omega arith
one_by false = omega arith

pub count_small : (l : List ℕ) → command_count l ≤ 1
count_small l = one_by (is_command l)

-- ---- commands by their numbers

pub command_passed : (n i : ℕ) (l : List ℕ) (ls : List (List ℕ)) → is_command l ≡ false
    → slice_get (commands_after n (l ∷ ls)) i ≡ slice_get (commands_after (n + 1) ls) i
unfolding commands_after
command_passed n i l ls e = rw e refl

pub command_here : (n : ℕ) (l : List ℕ) (ls : List (List ℕ)) → is_command l ≡ true
    → slice_get (commands_after n (l ∷ ls)) 0 ≡ Some (record { line = n + 1; text = typed_command l })
unfolding commands_after
command_here n l ls e = rw e refl

pub command_behind : (n i : ℕ) (l : List ℕ) (ls : List (List ℕ)) → is_command l ≡ true
    → slice_get (commands_after n (l ∷ ls)) (suc i) ≡ slice_get (commands_after (n + 1) ls) i
unfolding commands_after
command_behind n i l ls e = rw e refl

pub no_command : (n i : ℕ) (ls : List (List ℕ)) → ls ≡ [] → slice_get (commands_after n ls) i ≡ None
unfolding commands_after
no_command n i ls e = rw e refl

-- ---- settings

pub comments_on : (ls rest : List (List ℕ)) (l : List ℕ) → ls ≡ l ∷ rest → true ≡ is_comment l
    → comments ls ≡ l ∷ comments rest
unfolding comments
comments_on ls rest l e h = rw (e, sym h) refl

pub comments_stop : (ls rest : List (List ℕ)) (l : List ℕ) → ls ≡ l ∷ rest → false ≡ is_comment l → comments ls ≡ []
unfolding comments
comments_stop ls rest l e h = rw (e, sym h) refl

pub comments_end : (ls : List (List ℕ)) → ls ≡ [] → comments ls ≡ []
unfolding comments
comments_end ls e = rw e refl

pub settings_end : (xs : List (List ℕ × List ℕ)) (cs : List (List ℕ)) → cs ≡ [] → xs ≡ xs ++ filter_map setting_in cs
settings_end xs cs e = rw e (sym (append-nil xs))

pub setting_nowhere : (name : List ℕ) (cs : List (List ℕ)) → cs ≡ [] → None ≡ first_of name (filter_map setting_in cs)
setting_nowhere name cs e = rw e refl

found_by : (b : Bool) (name v : List ℕ) (s : List ℕ × List ℕ) (ys : List (List ℕ × List ℕ))
    → bytes_eq s.0 name ≡ b → Some v ≡ first_of name (s ∷ []) → Some v ≡ first_of name (s ∷ ys)
found_by true name v s ys e h = rw e (rw e at h)
found_by false name v s ys e h =
    let none : Some v ≡ None = rw e at h in
    absurd cc

-- a setting of the name is the first one
pub setting_found : (name v : List ℕ) (o : Option (List ℕ × List ℕ)) (ys : List (List ℕ × List ℕ))
    → Some v ≡ first_of name (option_to_list o) → Some v ≡ first_of name (cons_option o ys)
setting_found name v None ys h = absurd cc
setting_found name v (Some s) ys h = found_by (bytes_eq s.0 name) name v s ys refl h

passed_by : (b : Bool) (name : List ℕ) (s : List ℕ × List ℕ) (ys : List (List ℕ × List ℕ)) → bytes_eq s.0 name ≡ b
    → None ≡ first_of name (s ∷ []) → first_of name (s ∷ ys) ≡ first_of name ys
passed_by true name s ys e h =
    let some : None ≡ Some s.1 = rw e at h in
    absurd cc
passed_by false name s ys e h = rw e refl

-- one of another name, or none, is passed
pub setting_passed : (name : List ℕ) (o : Option (List ℕ × List ℕ)) (ys : List (List ℕ × List ℕ))
    → None ≡ first_of name (option_to_list o) → first_of name (cons_option o ys) ≡ first_of name ys
setting_passed name None ys h = refl
setting_passed name (Some s) ys h = passed_by (bytes_eq s.0 name) name s ys refl h

pub none_of_some : {A : Type 0} (o : Option A) → ((x : A) → o ≡ Some x → ⊥) → o ≡ None
none_of_some {A} None h = refl
none_of_some {A} (Some x) h = absurd (h x refl)
