-- Walks along elements.
use Rattle.std.proofs.Common.{◌≡◌, ◌∙◌, ℕ, ◌+◌, ◌-◌, ◌<◌, ◌≤◌, Bool, true, false, List, [], ◌∷◌, cond, Some}
use Rattle.std.proofs.Common.{length, take, drop, get_or, map, nat_lt, refl, ap, sym, None, ◌++◌, subst}
use Rattle.std.proofs.Common.{append_assoc, append-nil}
use Rattle.std.proofs.lemmas.List.{drop_all, drop_more, get_or_default, take-map, take_rest}
use Rattle.std.specs.List.{prefix_len, slice_get, take_while}
use Rattle.zk_names.specs.Documents.{Element, element_of}
use Rattle.zk_names.specs.Nodes.{Node, node_of, nodes}
use Rattle.zk_names.specs.Said.{GoesOn, SayEach}
use Rattle.zk_names.specs.declared.document.Element.{Element as Found}

abbrev pub node_with : Found → List Element → Node
node_with e inside = record { element = element_of e; inside = inside }

abbrev pub as_inside : Found → List Found → Node
as_inside e inside = node_with e (map element_of inside)

prefix_len-map : {A B : Type 0} (f : A → B) (p : B → Bool) (xs : List A)
    → prefix_len p (map f xs) ≡ prefix_len (λ x. p (f x)) xs
prefix_len-map f p [] = refl
prefix_len-map f p (x ∷ xs) = ap (λ n. cond (p (f x)) (1 + n) 0) (prefix_len-map f p xs)

-- what lies in an element, of those behind it
pub inside_is : (depth : ℕ) (es : List Found) (n : ℕ) → n ≡ prefix_len (λ e. nat_lt depth e.depth) es
    → map element_of (take n es) ≡ take_while (λ x. nat_lt depth x.depth) (map element_of es)
inside_is depth es n h =
    sym (take-map element_of n es)
    ∙ ap (λ k. take k (map element_of es)) (h ∙ sym (prefix_len-map element_of (λ x. nat_lt depth x.depth) es))

-- what a read past the end gives
abbrev pub blank : Found
blank =
    record {
      at = 0;
      depth = 0;
      tag = record { ref_ptr = (0, 0); now = [] };
      text = record { ref_ptr = (0, 0); now = [] };
    }

pub node_is : (es : List Found) (at : ℕ) (inside : List Found)
    → map element_of inside
    ≡ take_while (λ e. nat_lt (get_or es at blank).depth e.depth)
    (map element_of (take (length es - (at + 1)) (drop (at + 1) es)))
    → as_inside (get_or es at blank) inside
    ≡ node_of (element_of (get_or es at blank)) (map element_of (drop (at + 1) es))
node_is es at inside h =
    ap (λ l. node_with (get_or es at blank) l) (rw (take_rest es (at + 1)) at h)

-- an element that does not pass is no node
pub passed : (p : Element → Bool) (es : List Found) (i : ℕ) (d : Found) → i < length es
    → p (element_of (get_or es i d)) ≡ false
    → nodes p (map element_of (drop i es)) ≡ nodes p (map element_of (drop (i + 1) es))
passed p es i d h e =
    ap (λ l. nodes p (map element_of l)) (drop_more es i d h)
    ∙ ap (λ b. cond b (node_of (element_of (get_or es i d)) (map element_of (drop (i + 1) es))
    ∷ nodes p (map element_of (drop (i + 1) es))) (nodes p (map element_of (drop (i + 1) es)))) e

-- one that passes is the first
pub found : (p : Element → Bool) (es : List Found) (i : ℕ) (d : Found) → i < length es
    → p (element_of (get_or es i d)) ≡ true
    → nodes p (map element_of (drop i es))
    ≡ node_of (element_of (get_or es i d)) (map element_of (drop (i + 1) es))
    ∷ nodes p (map element_of (drop (i + 1) es))
found p es i d h e =
    ap (λ l. nodes p (map element_of l)) (drop_more es i d h)
    ∙ ap (λ b. cond b (node_of (element_of (get_or es i d)) (map element_of (drop (i + 1) es))
    ∷ nodes p (map element_of (drop (i + 1) es))) (nodes p (map element_of (drop (i + 1) es)))) e

-- the first node is that of the first element that passes
pub first_is : (p : Element → Bool) (es : List Found) (i : ℕ) (n : Node) (x : Found) → i < length es
    → x ≡ get_or es i x → p (element_of (get_or es i blank)) ≡ true
    → n ≡ node_of (element_of x) (map element_of (drop (i + 1) es))
    → nodes p (map element_of es) ≡ nodes p (map element_of (drop i es))
    → Some n ≡ slice_get (nodes p (map element_of es)) 0
first_is p es i n x h e t r w =
    let same : x ≡ get_or es i blank = e ∙ get_or_default es i x blank h in
    ap Some (r ∙ ap (λ y. node_of (element_of y) (map element_of (drop (i + 1) es))) same)
    ∙ sym (ap (λ l. slice_get l 0) (w ∙ found p es i blank h t))

pub none_is : (p : Element → Bool) (es : List Found) (i : ℕ) → length es ≤ i
    → nodes p (map element_of es) ≡ nodes p (map element_of (drop i es))
    → None ≡ slice_get (nodes p (map element_of es)) 0
none_is p es i h w =
    sym (ap (λ l. slice_get l 0) (w ∙ ap (λ l. nodes p (map element_of l)) (drop_all i es h)))

-- as far as i, nodes of elements say things
pub record Goes {T : Type 0} (Says : Node → T → Type 0) (p : Element → Bool) (es : List Found) (i : ℕ) (ts : List T)
    : Type 0 where
  pub on : (more : List T) → SayEach Says (nodes p (map element_of (drop i es))) more
      → SayEach Says (nodes p (map element_of es)) (ts ++ more)

pub begins : {T : Type 0} (Says : Node → T → Type 0) (p : Element → Bool) (es : List Found) → Goes Says p es 0 []
begins Says p es = record { on = λ more h. h }

pub skips : {T : Type 0} {Says : Node → T → Type 0} {p : Element → Bool} {es : List Found} {i : ℕ} {ts : List T}
    → Goes Says p es i ts → i < length es → p (element_of (get_or es i blank)) ≡ false → Goes Says p es (i + 1) ts
skips {T} {Says} {p} {es} {i} {ts} g l h =
    record {
      on = λ more s.
          g.on more (subst (λ (ns : List Node). SayEach Says ns more) (sym (passed p es i blank l h)) s);
    }

pub takes : {T : Type 0} {Says : Node → T → Type 0} {p : Element → Bool} {es : List Found} {i : ℕ} {ts : List T}
    (us : List T) (t : T) (x : Found) (n : Node)
    → Goes Says p es i ts → i < length es → p (element_of (get_or es i blank)) ≡ true → x ≡ get_or es i x
    → n ≡ node_of (element_of x) (map element_of (drop (i + 1) es)) → Says n t → us ≡ ts ++ (t ∷ [])
    → Goes Says p es (i + 1) us
takes {T} {Says} {p} {es} {i} {ts} us t x n g l h e m s u =
    let same : x ≡ get_or es i blank = e ∙ get_or_default es i x blank l in
    let is : n ≡ node_of (element_of (get_or es i blank)) (map element_of (drop (i + 1) es)) =
    m ∙ ap (λ y. node_of (element_of y) (map element_of (drop (i + 1) es))) same in
    record {
      on = λ more r.
          subst (λ (vs : List T). SayEach Says (nodes p (map element_of es)) vs)
          (sym (ap (λ v. v ++ more) u ∙ append_assoc ts (t ∷ []) more))
          (g.on (t ∷ more) (subst (λ (ns : List Node). SayEach Says ns (t ∷ more)) (sym (found p es i blank l h))
          (subst (λ (k : Node). Says k t) is s, r)));
    }

pub over : {T : Type 0} {Says : Node → T → Type 0} {p : Element → Bool} {es : List Found} {i : ℕ} {ts : List T}
    → Goes Says p es i ts → length es ≤ i → SayEach Says (nodes p (map element_of es)) ts
over {T} {Says} {p} {es} {i} {ts} g h =
    subst (λ (vs : List T). SayEach Says (nodes p (map element_of es)) vs) (append-nil ts)
    (g.on [] (subst (λ (l : List Found). SayEach Says (nodes p (map element_of l)) []) (sym (drop_all i es h)) tt))

-- as far as i, a list goes on with what nodes of elements say
pub record Adds {T : Type 0} (Says : Node → T → Type 0) (p : Element → Bool) (es : List Found) (i : ℕ)
    (before after : List T) : Type 0 where
  pub more : List T
  pub whole : after ≡ before ++ more
  pub goes : Goes Says p es i more

pub adds_none : {T : Type 0} (Says : Node → T → Type 0) (p : Element → Bool) (es : List Found) (before : List T)
    → Adds Says p es 0 before before
adds_none Says p es before = record { more = []; whole = sym (append-nil before); goes = begins Says p es }

pub adds_skips : {T : Type 0} {Says : Node → T → Type 0} {p : Element → Bool} {es : List Found} {i : ℕ}
    {before after : List T} (next : List T)
    → Adds Says p es i before after → i < length es → p (element_of (get_or es i blank)) ≡ false → next ≡ after
    → Adds Says p es (i + 1) before next
adds_skips next a l h u = record { more = a.more; whole = u ∙ a.whole; goes = skips a.goes l h }

pub adds_takes : {T : Type 0} {Says : Node → T → Type 0} {p : Element → Bool} {es : List Found} {i : ℕ}
    {before after : List T} (next : List T) (t : T) (x : Found) (n : Node)
    → Adds Says p es i before after → i < length es → p (element_of (get_or es i blank)) ≡ true → x ≡ get_or es i x
    → n ≡ node_of (element_of x) (map element_of (drop (i + 1) es)) → Says n t → next ≡ after ++ (t ∷ [])
    → Adds Says p es (i + 1) before next
adds_takes {T} {Says} {p} {es} {i} {before} {after} next t x n a l h e m s u =
    record {
      more = a.more ++ (t ∷ []);
      whole = u ∙ ap (λ v. v ++ (t ∷ [])) a.whole ∙ append_assoc before a.more (t ∷ []);
      goes = takes (a.more ++ (t ∷ [])) t x n a.goes l h e m s refl;
    }

pub adds_over : {T : Type 0} {Says : Node → T → Type 0} {p : Element → Bool} {es : List Found} {i : ℕ}
    {before after : List T}
    → Adds Says p es i before after → length es ≤ i → GoesOn Says (nodes p (map element_of es)) before after
adds_over a h = record { more = a.more; whole = a.whole; said = over a.goes h }
