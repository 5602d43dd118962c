-- The words of a text are its runs of letters and its separators.
use Rattle.std.proofs.Common.{◌≡◌, ◌≤◌, ◌<◌, ℕ, zero, suc, ◌+◌, ◌-◌, Bool, true, false, List, [], ◌∷◌, Option, Some}
use Rattle.std.proofs.Common.{None, ◌==◌, nat_eq, nat_lt, refl, sym, ◌∙◌, ap, arith, ◌⊎◌, inl, inr, add-one}
use Rattle.std.specs.List.{list_any, cons_option, AllByRecursion}
use Rattle.std.proofs.lemmas.Bool.{cases_Bool}
use Rattle.std.proofs.lemmas.Bool.Decides.{nat_tests}
use Rattle.zk_tables.specs.declared.tokens.Token.{Token}
use Rattle.zk_tables.specs.Tokens.{space, is_separator, is_letter, code_at, IsRun, IsToken, Rises, IsIn, run, token}
use Rattle.zk_tables.specs.Tokens.{token_here, tokens_from, tokens, TokensAreWords, TokensAreDetermined}

true_is_not_false : (b : Bool) → b ≡ true → b ≡ false → ⊥
true_is_not_false b on off = let e : true ≡ false = sym on ∙ off in cc

nat_order : (a b : ℕ) → (a < b) ⊎ ((a ≡ b) ⊎ (b < a))
nat_order a b = elim (cases_Bool (nat_lt a b)) [
  | inl t ↦ inl (grind (arith, nat_tests))
  | inr t ↦ elim (cases_Bool (nat_lt b a)) [
    | inl u ↦ inr (inr (grind (arith, nat_tests)))
    | inr u ↦ inr (inl (grind (arith, nat_tests)))
  ]
]

-- a separator is no letter
apart : (separators : List ℕ) (c : ℕ) → is_separator separators c ≡ true → is_letter separators c ≡ false
unfolding is_separator is_letter
apart separators c h = elim (cases_Bool (c == space)) [
  | inl t ↦ rw t refl
  | inr t ↦ elim (cases_Bool (list_any (nat_eq c) separators)) [
    | inl u ↦ rw (t, u) refl
    | inr u ↦ (let g = rw (t, u) at h in absurd cc)
  ]
]

space_is_none : (separators : List ℕ) → is_letter separators 32 ≡ false
unfolding is_letter
space_is_none separators = refl

-- ---- a run at the front

run_letters : (separators cs : List ℕ) (i : ℕ) → i < run separators cs → is_letter separators (code_at cs i) ≡ true
unfolding run
run_letters separators [] i h = absurd (omega (arith, h))
run_letters separators (c ∷ cs) zero h = elim (cases_Bool (is_letter separators c)) [
  | inl t ↦ t
  | inr t ↦ (let g = rw t at h in absurd (omega (arith, g)))
]
run_letters separators (c ∷ cs) (suc i) h = elim (cases_Bool (is_letter separators c)) [
  | inl t ↦ (let g = rw t at h in run_letters separators cs i (omega (arith, g)))
  | inr t ↦ (let g = rw t at h in absurd (omega (arith, g)))
]

run_stop : (separators cs : List ℕ) → is_letter separators (code_at cs (run separators cs)) ≡ false
unfolding run
run_stop separators [] = space_is_none separators
run_stop separators (c ∷ cs) = elim (cases_Bool (is_letter separators c)) [
  | inl t ↦ rw (t, add-one (run separators cs)) (run_stop separators cs)
  | inr t ↦ rw (t, t) refl
]

-- ---- what is left of a text

-- the codes of a text from p on, and whether the one before is a letter
record Left (separators text : List ℕ) (p : ℕ) (inside : Bool) (cs : List ℕ) : Type 0 where
  same : (i : ℕ) → code_at cs i ≡ code_at text (p + i)
  before : (i : ℕ) → p ≡ i + 1 → is_letter separators (code_at text i) ≡ inside
  first : p ≡ 0 → inside ≡ false

left_step : (separators text : List ℕ) (p : ℕ) (inside : Bool) (c : ℕ) (cs : List ℕ)
    → Left separators text p inside (c ∷ cs) → Left separators text (p + 1) (is_letter separators c) cs
left_step separators text p inside c cs l = record {
  same = λ i. (let e : p + 1 + i ≡ p + suc i = omega arith in rw e (l.same (suc i)));
  before = λ i e. (let at_p : i ≡ p + 0 = omega (arith, e) in rw (at_p, sym (l.same 0)) refl);
  first = λ e. absurd (omega (arith, e));
}

run_some : (separators : List ℕ) (c : ℕ) (cs : List ℕ) → is_letter separators c ≡ true → 1 ≤ run separators (c ∷ cs)
unfolding run
run_some separators c cs letter = rw letter (omega arith)

run_here : (separators text : List ℕ) (p : ℕ) (inside : Bool) (c : ℕ) (cs : List ℕ)
    → is_letter separators c ≡ true → inside ≡ false → Left separators text p inside (c ∷ cs)
    → IsRun separators text (token p (run separators (c ∷ cs)))
run_here separators text p inside c cs letter out l = record {
  some = run_some separators c cs letter;
  letters = λ i from to. (let e : p + (i - p) ≡ i = omega (arith, from) in let code = rw e at (l.same (i - p)) in
      rw (sym code) (run_letters separators (c ∷ cs) (i - p) (omega (arith, from, to))));
  begins = λ i e. l.before i e ∙ out;
  ends = rw (sym (l.same (run separators (c ∷ cs)))) (run_stop separators (c ∷ cs));
}

-- the code at the front
code_here : (separators text : List ℕ) (p : ℕ) (inside : Bool) (c : ℕ) (cs : List ℕ)
    → Left separators text p inside (c ∷ cs) → c ≡ code_at text p
code_here separators text p inside c cs l = let e : p + 0 ≡ p = omega arith in rw e at (l.same 0)

abbrev some_token : Token → Option Token
some_token t = Some t

same_some : (t u : Token) → some_token t ≡ some_token u → t ≡ u
same_some t u e = cc

same_token : (t : Token) (p l : ℕ) → t.position ≡ p → t.length ≡ l → token p l ≡ t
same_token t p l e f = rw (sym e, sym f) refl

-- the token at the front is a word of the text
front_is_token : (separators text : List ℕ) (p : ℕ) (inside : Bool) (c : ℕ) (cs : List ℕ) (t : Token)
    → Left separators text p inside (c ∷ cs) → token_here separators p inside (c ∷ cs) ≡ Some t
    → (t.position ≡ p) × IsToken separators text t
unfolding token_here
front_is_token separators text p inside c cs t l h = elim (cases_Bool (is_letter separators c)) [
  | inl letter ↦ elim (cases_Bool inside) [
    | inl on ↦ (let g = rw (letter, on) at h in absurd cc)
    | inr out ↦ (let g = rw (letter, out) at h in
        let same : token p (run separators (c ∷ cs)) ≡ t = same_some _ _ g in
        rw (sym same) (refl, inl (run_here separators text p inside c cs letter out l)))
  ]
  | inr other ↦ elim (cases_Bool (is_separator separators c)) [
    | inl sep ↦ (let g = rw (other, sep) at h in
        let same : token p 1 ≡ t = same_some _ _ g in
        rw (sym same)
        (refl, inr (record { one = refl; separator = rw (sym (code_here separators text p inside c cs l)) sep })))
    | inr none ↦ (let g = rw (other, none) at h in absurd cc)
  ]
]

front_position : (separators : List ℕ) (p : ℕ) (inside : Bool) (cs : List ℕ) (t : Token)
    → token_here separators p inside cs ≡ Some t → t.position ≡ p
unfolding token_here
front_position separators p inside [] t h = absurd cc
front_position separators p inside (c ∷ cs) t h = elim (cases_Bool (is_letter separators c)) [
  | inl letter ↦ elim (cases_Bool inside) [
    | inl on ↦ (let g = rw (letter, on) at h in absurd cc)
    | inr out ↦ (let g = rw (letter, out) at h in rw (sym (same_some _ _ g)) refl)
  ]
  | inr other ↦ elim (cases_Bool (is_separator separators c)) [
    | inl sep ↦ (let g = rw (other, sep) at h in rw (sym (same_some _ _ g)) refl)
    | inr none ↦ (let g = rw (other, none) at h in absurd cc)
  ]
]

-- a run has one length
run_length_is : (separators text : List ℕ) (p : ℕ) (inside : Bool) (c : ℕ) (cs : List ℕ) (t : Token)
    → Left separators text p inside (c ∷ cs) → t.position ≡ p → IsRun separators text t
    → t.length ≡ run separators (c ∷ cs)
run_length_is separators text p inside c cs t l e r = elim (nat_order t.length (run separators (c ∷ cs))) [
  | inl short ↦ (let letter = run_letters separators (c ∷ cs) t.length short in
      let code = l.same t.length in
      let ends = rw e at r.ends in
      let there = rw code at letter in
      absurd (true_is_not_false _ there ends))
  | inr (inl same) ↦ same
  | inr (inr long) ↦ (let letter = r.letters (p + run separators (c ∷ cs)) (omega (arith, e))
      (omega (arith, e, long)) in
      let code = l.same (run separators (c ∷ cs)) in
      let stop = rw code at (run_stop separators (c ∷ cs)) in
      absurd (true_is_not_false _ letter stop))
]

not_inside : (separators text : List ℕ) (p : ℕ) (inside : Bool) (c : ℕ) (cs : List ℕ) (t : Token)
    → Left separators text p inside (c ∷ cs) → t.position ≡ p → IsRun separators text t → inside ≡ false
not_inside separators text zero inside c cs t l e r = l.first refl
not_inside separators text (suc i) inside c cs t l e r =
    sym (l.before i (sym (add-one i))) ∙ r.begins i (e ∙ sym (add-one i))

-- a word of the text that begins here is the token at the front
token_is_front : (separators text : List ℕ) (p : ℕ) (inside : Bool) (c : ℕ) (cs : List ℕ) (t : Token)
    → Left separators text p inside (c ∷ cs) → t.position ≡ p → IsToken separators text t
    → token_here separators p inside (c ∷ cs) ≡ Some t
unfolding token_here
token_is_front separators text p inside c cs t l e (inl r) =
    let code = code_here separators text p inside c cs l in
    let letter = r.letters p (omega (arith, e)) (omega (arith, e, r.some)) in
    let here : is_letter separators c ≡ true = rw code letter in
    rw (here, not_inside separators text p inside c cs t l e r)
    (ap (λ (u : Token). Some u) (same_token t p (run separators (c ∷ cs)) e
    (run_length_is separators text p inside c cs t l e r)))
token_is_front separators text p inside c cs t l e (inr a) =
    let code = code_here separators text p inside c cs l in
    let there = rw e at a.separator in
    let here : is_separator separators c ≡ true = rw code there in
    rw (apart separators c here, here) (ap (λ (u : Token). Some u) (same_token t p 1 e a.one))

-- ---- a list with or without one more at its front

in_cons : (r : Option Token) (rest : List Token) (t : Token) → IsIn t (cons_option r rest) → (r ≡ Some t) ⊎ IsIn t rest
unfolding IsIn
in_cons None rest t h = inr h
in_cons (Some u) rest t (inl e) = inl (rw e refl)
in_cons (Some u) rest t (inr h) = inr h

front_in : (r : Option Token) (rest : List Token) (t : Token) → r ≡ Some t → IsIn t (cons_option r rest)
unfolding IsIn
front_in None rest t e = absurd cc
front_in (Some u) rest t e = inl (sym (same_some u t e))

rest_in : (r : Option Token) (rest : List Token) (t : Token) → IsIn t rest → IsIn t (cons_option r rest)
unfolding IsIn
rest_in None rest t h = h
rest_in (Some u) rest t h = inr h

all_cons : (P : Token → Type 0) (r : Option Token) (rest : List Token) → ((t : Token) → r ≡ Some t → P t)
    → AllByRecursion P rest → AllByRecursion P (cons_option r rest)
all_cons P None rest f h = h
all_cons P (Some t) rest f h = (f t refl, h)

rises_cons : (r : Option Token) (rest : List Token)
    → ((t : Token) → r ≡ Some t → AllByRecursion (λ u. t.position < u.position) rest) → Rises rest
    → Rises (cons_option r rest)
unfolding Rises
rises_cons None rest f h = h
rises_cons (Some t) rest f h = (f t refl, h)

-- ---- all of them

here_or_later : (p q : ℕ) → p ≤ q → (q ≡ p) ⊎ (p + 1 ≤ q)
here_or_later p q h = elim (nat_order q p) [
  | inl low ↦ absurd (omega (arith, h, low))
  | inr (inl same) ↦ inl same
  | inr (inr high) ↦ inr (omega (arith, high))
]

nothing_left : (separators text : List ℕ) (p : ℕ) (inside : Bool) (t : Token) → Left separators text p inside []
    → p ≤ t.position → IsToken separators text t → ⊥
unfolding is_separator
nothing_left separators text p inside t l from (inl r) =
    let e : p + (t.position - p) ≡ t.position = omega (arith, from) in
    let code = rw e at (l.same (t.position - p)) in
    let letter = r.letters t.position (omega arith) (omega (arith, r.some)) in
    let there = rw (sym code) at letter in
    true_is_not_false _ there (space_is_none separators)
nothing_left separators text p inside t l from (inr a) =
    let e : p + (t.position - p) ≡ t.position = omega (arith, from) in
    let code = rw e at (l.same (t.position - p)) in
    let there = rw (sym code) at a.separator in
    absurd cc

sound : (separators text : List ℕ) (p : ℕ) (inside : Bool) (cs : List ℕ) (t : Token)
    → Left separators text p inside cs → IsIn t (tokens_from separators p inside cs) → IsToken separators text t
unfolding tokens_from IsIn
sound separators text p inside [] t l h = absurd h
sound separators text p inside (c ∷ cs) t l h =
    elim (in_cons (token_here separators p inside (c ∷ cs))
    (tokens_from separators (p + 1) (is_letter separators c) cs) t h) [
      | inl e ↦ (front_is_token separators text p inside c cs t l e).1
      | inr k ↦ sound separators text (p + 1) (is_letter separators c) cs t
          (left_step separators text p inside c cs l) k
    ]

complete : (separators text : List ℕ) (p : ℕ) (inside : Bool) (cs : List ℕ) (t : Token)
    → Left separators text p inside cs → p ≤ t.position → IsToken separators text t
    → IsIn t (tokens_from separators p inside cs)
unfolding tokens_from
complete separators text p inside [] t l from h = absurd (nothing_left separators text p inside t l from h)
complete separators text p inside (c ∷ cs) t l from h = elim (here_or_later p t.position from) [
  | inl e ↦ front_in (token_here separators p inside (c ∷ cs))
      (tokens_from separators (p + 1) (is_letter separators c) cs) t
      (token_is_front separators text p inside c cs t l e h)
  | inr later ↦ rest_in (token_here separators p inside (c ∷ cs))
      (tokens_from separators (p + 1) (is_letter separators c) cs) t
      (complete separators text (p + 1) (is_letter separators c) cs t
      (left_step separators text p inside c cs l) later h)
]

all_later : (separators : List ℕ) (p q : ℕ) (inside : Bool) (cs : List ℕ) → q < p
    → AllByRecursion (λ u. q < u.position) (tokens_from separators p inside cs)
unfolding tokens_from
all_later separators p q inside [] h = tt
all_later separators p q inside (c ∷ cs) h =
    all_cons (λ u. q < u.position) (token_here separators p inside (c ∷ cs))
    (tokens_from separators (p + 1) (is_letter separators c) cs)
    (λ t e. omega (arith, front_position separators p inside (c ∷ cs) t e, h))
    (all_later separators (p + 1) q (is_letter separators c) cs (omega (arith, h)))

rises : (separators : List ℕ) (p : ℕ) (inside : Bool) (cs : List ℕ) → Rises (tokens_from separators p inside cs)
unfolding tokens_from Rises
rises separators p inside [] = tt
rises separators p inside (c ∷ cs) =
    rises_cons (token_here separators p inside (c ∷ cs)) (tokens_from separators (p + 1) (is_letter separators c) cs)
    (λ t e. rw (front_position separators p inside (c ∷ cs) t e)
    (all_later separators (p + 1) p (is_letter separators c) cs (omega arith)))
    (rises separators (p + 1) (is_letter separators c) cs)

from_start : (separators text : List ℕ) → Left separators text 0 false text
from_start separators text = record {
  same = λ i. (let e : 0 + i ≡ i = omega arith in rw e refl);
  before = λ i e. absurd (omega (arith, e));
  first = λ e. refl;
}

pub tokens_are_words : TokensAreWords
unfolding tokens
tokens_are_words separators text = record {
  tokens =
      λ t. (
        λ h. sound separators text 0 false text t (from_start separators text) h,
        λ h. complete separators text 0 false text t (from_start separators text) (omega arith) h,
      );
  rising = rises separators 0 false text;
}

-- ---- one list alone

all_in : (P : Token → Type 0) (ts : List Token) (x : Token) → AllByRecursion P ts → IsIn x ts → P x
unfolding IsIn
all_in P [] x h k = absurd k
all_in P (t ∷ ts) x h (inl e) = rw e h.0
all_in P (t ∷ ts) x h (inr k) = all_in P ts x h.1 k

same_first : (t u : Token) (ts us : List Token) → AllByRecursion (λ x. t.position < x.position) ts
    → AllByRecursion (λ x. u.position < x.position) us → (t ≡ u) ⊎ IsIn t us → (u ≡ t) ⊎ IsIn u ts → t ≡ u
same_first t u ts us r s (inl e) k = e
same_first t u ts us r s (inr h) (inl e) = sym e
same_first t u ts us r s (inr h) (inr k) =
    absurd (omega (
      arith,
      all_in (λ x. u.position < x.position) us t s h,
      all_in (λ x. t.position < x.position) ts u r k,
    ))

only_behind : (x t u : Token) (ts us : List Token) → t ≡ u → AllByRecursion (λ y. t.position < y.position) ts
    → IsIn x ts → (x ≡ u) ⊎ IsIn x us → IsIn x us
only_behind x t u ts us same r h (inl e) =
    let later = all_in (λ y. t.position < y.position) ts x r h in
    let at_u : x.position ≡ t.position = rw (e, same) refl in
    absurd (omega (arith, later, at_u))
only_behind x t u ts us same r h (inr k) = k

same_tokens : (ts us : List Token) → Rises ts → Rises us → ((t : Token) → IsIn t ts → IsIn t us)
    → ((t : Token) → IsIn t us → IsIn t ts) → ts ≡ us
unfolding Rises IsIn
same_tokens [] [] r s f g = refl
same_tokens [] (u ∷ us) r s f g = absurd (g u (inl refl))
same_tokens (t ∷ ts) [] r s f g = absurd (f t (inl refl))
same_tokens (t ∷ ts) (u ∷ us) r s f g =
    let same : t ≡ u = same_first t u ts us r.0 s.0 (f t (inl refl)) (g u (inl refl)) in
    let behind = same_tokens ts us r.1 s.1 (λ x h. only_behind x t u ts us same r.0 h (f x (inr h)))
    (λ x h. only_behind x u t us ts (sym same) s.0 h (g x (inr h))) in
    rw (same, behind) refl

pub tokens_are_determined : TokensAreDetermined
tokens_are_determined separators text ts us a b =
    same_tokens ts us a.rising b.rising (λ t h. (b.tokens t).1 ((a.tokens t).0 h))
    (λ t h. (a.tokens t).1 ((b.tokens t).0 h))
