-- Bytes that a reader of lines takes from a source, one after another.
use Rattle.std.proofs.Common.{◌≡◌, ◌≢◌, ◌≤◌, ◌<◌, ℕ, suc, ◌+◌, ◌-◌, Bool, true, false, List, [], ◌∷◌, ◌++◌, length}
use Rattle.std.proofs.Common.{take, drop, get_or, Option, Some, None, append_assoc, drop-cons, add-one, refl, sym, ◌∙◌}
use Rattle.std.proofs.Common.{ap, subst, arith, length-drop, length-append, Ok, Err, inl, inr, ⊎_elim, lit≤, cond}
use Rattle.std.proofs.Common.{nat_lt}
use Rattle.std.proofs.lemmas.List.{length-take, length-take-le, take-take, take_all, take_at, take-append-le}
use Rattle.std.proofs.lemmas.List.{append-nil}
use Rattle.std.proofs.lemmas.List.Folds.{concat-append}
use Rattle.std.proofs.lemmas.Bool.{ne_eqb, cases_lt}
use Rattle.std.proofs.lemmas.Bool.Decides.{nat_tests}
use Rattle.std.specs.List.{concat}
use Rattle.std.specs.Str.Lines.{strip_carriage_return}
use Rattle.arrayvec.specs.ArrayVec.{ArrayVec}
use Rattle.zk_term.specs.declared.lines.InputEnd.TheVariants as over
use Rattle.zk_text.specs.Extra.{ExtraTable}
use Rattle.zk_term.specs.Characters.{line_codes}
use Rattle.zk_term.specs.Lines.{Reading, Gives, GivesEach, GivesLine, IsPlain, is_new_line, AreGiven, Takes, TakesByte}
use Rattle.zk_term.specs.Lines.{TakesPlain, TakesLine}
use Rattle.zk_term.proofs.Cutting.{cut_codes}

-- ---- one byte

pub ahead_on : (bytes : List ℕ) (start end : ℕ) → start < end → end ≤ length bytes
    → take (end - start) (drop start bytes) ≡ get_or bytes start 0 ∷ take (end - (start + 1)) (drop (start + 1) bytes)
ahead_on bytes start end h w =
    let e : end - start ≡ suc (end - (start + 1)) = omega arith in
    let inside : start < length bytes = omega arith in
    rw (e, drop-cons bytes start 0, add-one start) refl

pub ahead_some : (bytes : List ℕ) (start end : ℕ) → end ≤ length bytes
    → 0 < length (take (end - start) (drop start bytes)) → start < end
ahead_some bytes start end w h = omega (arith, length-take (end - start) (drop start bytes), length-drop start bytes)

pub gives_ahead : (r r' : Reading) (left : Option (List ℕ)) (b : ℕ) → r.ahead ≡ b ∷ r'.ahead
    → Gives r left r' left (b ∷ [])
gives_ahead r r' left b e = λ bytes h. (bytes, h, ap (λ xs. xs ++ bytes) e)

pub gives_then : (r m r' : Reading) (left left' : Option (List ℕ)) (b : ℕ) → Gives r left m left' []
    → m.ahead ≡ b ∷ r'.ahead → Gives r left r' left' (b ∷ [])
gives_then r m r' left left' b h e = λ bytes k. let g = h bytes k in (g.0, g.1, g.2 ∙ ap (λ xs. xs ++ g.0) e)

-- ---- the bytes of a line that are kept

take_again : (n : ℕ) (xs ys : List ℕ) → take n (take n xs ++ ys) ≡ take n (xs ++ ys)
take_again n xs ys = ⊎_elim
    (λ (short : length xs < n). ap (λ zs. take n (zs ++ ys)) (take_all n xs (omega arith)))
    (λ (long : n ≤ length xs). take_at (take n xs) ys n (length-take-le n xs long) ∙ sym (take-append-le n xs ys long))
    (cases_lt (length xs) n)

strip_by : (x : Bool) (line : List ℕ) → 1020 < length line → take 1020 (cond x (take (length line - 1) line) line)
    ≡ take 1020 line
strip_by true line w = take-take 1020 (length line - 1) line (omega arith)
strip_by false line w = refl

-- a return at the end of a long line is past its codes
strip_long : (t : ExtraTable) (line : List ℕ) → 1020 < length line
    → line_codes t (strip_carriage_return line) ≡ line_codes t (take 1020 line)
strip_long t line w =
    sym (cut_codes t (strip_carriage_return line) 1020 (lit≤ tt)) ∙ ap (line_codes t) (strip_by _ line w)

strip_codes : (t : ExtraTable) (line : List ℕ) → line_codes t (strip_carriage_return (take 1024 line))
    ≡ line_codes t (strip_carriage_return line)
strip_codes t line = ⊎_elim
    (λ (long : 1024 < length line). strip_long t (take 1024 line)
    (omega (arith, length-take-le 1024 line (omega arith))) ∙ ap (line_codes t)
    (take-take 1020 1024 line (lit≤ tt)) ∙ sym (strip_long t line (omega arith)))
    (λ (short : length line ≤ 1024). ap (λ l. line_codes t (strip_carriage_return l)) (take_all 1024 line short))
    (cases_lt 1024 (length line))

kept_codes : (front kept line : List ℕ) → kept ≡ take 1024 front → line ≡ strip_carriage_return kept
    → (t : ExtraTable) → line_codes t line ≡ line_codes t (strip_carriage_return front)
kept_codes front kept line keeps e t = ap (line_codes t) (e ∙ ap strip_carriage_return keeps) ∙ strip_codes t front

keeps_on : (front kept kept' : List ℕ) (b : ℕ) → kept ≡ take 1024 front → kept' ≡ take 1024 (kept ++ b ∷ [])
    → kept' ≡ take 1024 (front ++ b ∷ [])
keeps_on front kept kept' b keeps e = e ∙ ap (λ ks. take 1024 (ks ++ b ∷ [])) keeps ∙ take_again 1024 front (b ∷ [])

-- ---- a line

-- the bytes taken so far are no new lines, and the first 1,024 of them are kept
pub record Taken (r : Reading) (left : Option (List ℕ)) (r' : Reading) (left' : Option (List ℕ)) (count : ℕ)
    (kept : List ℕ) : Type 0 where
  pub front : List ℕ
  pub gives : Gives r left r' left' front
  pub plain : IsPlain front
  pub long : length front ≡ count
  pub keeps : kept ≡ take 1024 front

pub taken_none : (r : Reading) (left : Option (List ℕ)) → Taken r left r left 0 []
taken_none r left = record { front = []; gives = λ bytes h. (bytes, h, refl); plain = tt; long = refl; keeps = refl }

gives_on : (r m r' : Reading) (left leftm left' : Option (List ℕ)) (xs ys : List ℕ) → Gives r left m leftm xs
    → Gives m leftm r' left' ys → Gives r left r' left' (xs ++ ys)
gives_on r m r' left leftm left' xs ys h k = λ bytes e.
    let g = h bytes e in
    let n = k g.0 g.1 in
    (n.0, n.1, g.2 ∙ ap (λ zs. xs ++ zs) n.2 ∙ sym (append_assoc xs ys (r'.ahead ++ n.0)))

pub plain_on : (xs : List ℕ) (b : ℕ) → IsPlain xs → is_new_line b ≡ false → IsPlain (xs ++ b ∷ [])
plain_on [] b h e = (e, tt)
plain_on (x ∷ xs) b h e = (h.0, plain_on xs b h.1 e)

pub taken_on : (r m r' : Reading) (left leftm left' : Option (List ℕ)) (n b : ℕ) (kept kept' : List ℕ)
    → Taken r left m leftm n kept → Gives m leftm r' left' (b ∷ []) → b ≢ 10 → kept' ≡ take 1024 (kept ++ b ∷ [])
    → Taken r left r' left' (n + 1) kept'
taken_on r m r' left leftm left' n b kept kept' t g h e = record {
  front = t.front ++ b ∷ [];
  gives = gives_on r m r' left leftm left' t.front (b ∷ []) t.gives g;
  plain = plain_on t.front b t.plain (ne_eqb b 10 h);
  long = omega (arith, length-append t.front (b ∷ []), t.long);
  keeps = keeps_on t.front kept kept' b t.keeps e;
}

pub taken_line : (r m r' : Reading) (left leftm left' : Option (List ℕ)) (n : ℕ) (kept : List ℕ)
    (result : ArrayVec ℕ) → Taken r left m leftm n kept → n < 65536 → Gives m leftm r' left' (10 ∷ [])
    → result.items ≡ strip_carriage_return kept → r'.over ≡ None → GivesLine r left r' left' (Unit {0})
    (Unit {0}) (Ok result)
taken_line r m r' left leftm left' n kept result t h g e goes = λ bytes k.
    let all = gives_on r m r' left leftm left' t.front (10 ∷ []) t.gives g bytes k in
    let short : nat_lt (length t.front) 65536 ≡ true = grind (arith, nat_tests, t.long) in
    let whole : r.ahead ++ bytes ≡ t.front ++ 10 ∷ (r'.ahead ++ all.0) = all.2
    ∙ append_assoc t.front (10 ∷ []) (r'.ahead ++ all.0) in (
      all.0,
      all.1,
      (
        strip_carriage_return t.front,
        inl (record { part = t.front; whole = whole; plain = t.plain; short = short; is = refl }, goes),
        kept_codes t.front kept result.items t.keeps e,
      ),
    )

ends : (m r' : Reading) (leftm left' : Option (List ℕ)) → GivesEach {X = ℕ} (λ b. b ∷ []) m leftm r' left'
    (Err over.End) → (bytes : List ℕ) → leftm ≡ Some bytes → (later : List ℕ) × (left' ≡ Some later)
    × (m.ahead ++ bytes ≡ []) × (r'.ahead ++ later ≡ [])
ends m r' leftm left' g bytes e =
    let given = g.0 bytes e in
    let none = g.1 bytes e in
    (given.0, given.1, none, sym given.2 ∙ none)

pub taken_last : (r m r' : Reading) (left leftm left' : Option (List ℕ)) (n : ℕ) (result : ArrayVec ℕ)
    → Taken r left m leftm n result.items → n < 65536 → 0 < n → GivesEach {X = ℕ} (λ b. b ∷ []) m leftm r' left'
    (Err over.End) → r'.over ≡ Some over.End → GivesLine r left r' left' (Unit {0}) (Unit {0}) (Ok result)
taken_last r m r' left leftm left' n result t h some g is = λ bytes k.
    let mid = t.gives bytes k in
    let end = ends m r' leftm left' g mid.0 mid.1 in
    let short : nat_lt (length t.front) 65536 ≡ true = grind (arith, nat_tests, t.long) in
    let whole : r.ahead ++ bytes ≡ t.front = mid.2 ∙ ap (λ l. t.front ++ l) end.2 ∙ append-nil t.front in (
      end.0,
      end.1,
      (
        t.front,
        inr (
          record {
            whole = whole;
            some = omega (arith, t.long);
            plain = t.plain;
            short = short;
            none = end.3;
          },
          is,
        ),
        λ x. ap (line_codes x) t.keeps ∙ cut_codes x t.front 1024 (lit≤ tt),
      ),
    )

none_by : (line : List ℕ) → length line ≡ 0 → line ≡ []
none_by [] e = refl
none_by (b ∷ line) e = absurd (omega arith)

pub taken_end : (r m r' : Reading) (left leftm left' : Option (List ℕ)) (n : ℕ) (kept : List ℕ)
    → Taken r left m leftm n kept → n ≡ 0 → GivesEach {X = ℕ} (λ b. b ∷ []) m leftm r' left' (Err over.End)
    → GivesLine r left r' left' (Unit {0}) (Unit {0}) (Err over.End)
taken_end r m r' left leftm left' n kept t h g = λ bytes k.
    let mid = t.gives bytes k in
    let end = ends m r' leftm left' g mid.0 mid.1 in
    let none : r.ahead ++ bytes ≡ [] = mid.2 ∙ ap (λ l. l ++ (m.ahead ++ mid.0)) (none_by t.front (t.long ∙ h))
    ∙ end.2 in
    (end.0, end.1, (none, end.3))

pub taken_failed : (r m r' : Reading) (left leftm left' : Option (List ℕ)) (failed sound : Type 0) (n : ℕ)
    (kept : List ℕ) → Taken r left m leftm n kept → n < 65536 → Gives m leftm r' left' [] → failed
    → GivesLine r left r' left' failed sound (Err over.Failed)
taken_failed r m r' left leftm left' failed sound n kept t h g e = λ bytes k.
    let all = gives_on r m r' left leftm left' t.front [] t.gives g bytes k in
    let short : nat_lt (length t.front) 65536 ≡ true = grind (arith, nat_tests, t.long) in (
      all.0,
      all.1,
      inl (
        e,
        record {
          part = t.front;
          whole = all.2 ∙ ap (λ l. l ++ (r'.ahead ++ all.0))
              (append-nil t.front);
          plain = t.plain;
          short = short;
        },
      ),
    )

pub taken_long : (r r' : Reading) (left left' : Option (List ℕ)) (failed sound : Type 0) (n : ℕ) (kept : List ℕ)
    → Taken r left r' left' n kept → n ≡ 65536 → sound → GivesLine r left r' left' failed sound (Err over.Failed)
taken_long r r' left left' failed sound n kept t h e = λ bytes k.
    let all = t.gives bytes k in
    (all.0, all.1, inr (e, record { part = t.front; whole = all.2; plain = t.plain; long = t.long ∙ h }))

-- ---- what reads give

pub given_on : {S : Type 0} (gives : S → S → List ℕ → Type 0) (parts more : List (List ℕ)) (a b c : S)
    → AreGiven gives a b parts → AreGiven gives b c more → AreGiven gives a c (parts ++ more)
given_on {S} gives [] more a b c h k = subst (λ (s : S). AreGiven gives s c more) h k
given_on {S} gives (part ∷ parts) more a b c h k = (h.0, (h.1.0, given_on gives parts more h.0 b c h.1.1 k))

pub concat_on : (parts : List (List ℕ)) (part : List ℕ) → concat (parts ++ part ∷ []) ≡ concat parts ++ part
concat_on parts part = concat-append parts (part ∷ []) ∙ ap (λ l. concat parts ++ l) (append-nil part)

one_on : (bytes ahead : List ℕ) (b : ℕ) → bytes ++ b ∷ ahead ≡ (bytes ++ b ∷ []) ++ ahead
one_on bytes ahead b = sym (append_assoc bytes (b ∷ []) ahead)

takes_on : {S : Type 0} (gives : S → S → List ℕ → Type 0) (s m t : S) (ahead mid new bytes : List ℕ) (b : ℕ)
    → Takes gives s m ahead mid bytes → TakesByte gives m t mid new b → Takes gives s t ahead new (bytes ++ b ∷ [])
takes_on {S} gives s m t ahead mid new bytes b (inl (e, h)) (inl (f, k)) =
    inl (f ∙ e, h ∙ ap (λ l. bytes ++ l) k ∙ one_on bytes new b)
takes_on {S} gives s m t ahead mid new bytes b (inl (e, h)) (inr (none, gave)) =
    inr (
      record { parts = []; mid = m; given = e; last = b ∷ new; gave = gave },
      (ap (λ l. l ++ b ∷ new) (h ∙ ap (λ l. bytes ++ l) none ∙ append-nil bytes) ∙ one_on bytes new b, omega arith),
    )
takes_on {S} gives s m t ahead mid new bytes b (inr (r, (whole, few))) (inl (f, k)) =
    inr (
      record {
        parts = r.parts;
        mid = r.mid;
        given = r.given;
        last = r.last;
        gave = subst (λ (x : S). gives r.mid x r.last) (sym f) r.gave;
      },
      (whole ∙ ap (λ l. bytes ++ l) k ∙ one_on bytes new b, omega (arith, ap length k)),
    )
takes_on {S} gives s m t ahead mid new bytes b (inr (r, (whole, few))) (inr (none, gave)) =
    let before : ahead ++ (concat r.parts ++ r.last) ≡ bytes = whole ∙ ap (λ l. bytes ++ l) none ∙ append-nil bytes in
    inr (
      record {
        parts = r.parts ++ r.last ∷ [];
        mid = m;
        given = given_on gives r.parts (r.last ∷ []) s r.mid m
            r.given (m, (r.gave, refl));
        last = b ∷ new;
        gave = gave;
      },
      (
        ap (λ l. ahead ++ (l ++ b ∷ new)) (concat_on r.parts r.last)
            ∙ sym (append_assoc ahead (concat r.parts ++ r.last) (b ∷ new)) ∙ ap (λ l. l ++ b ∷ new) before
            ∙ one_on bytes new b,
        omega arith,
      ),
    )

-- bytes were taken and none is a new line, and the first 1,024 of them are kept
pub record TakesKept {S : Type 0} (gives : S → S → List ℕ → Type 0) (before after : S) (ahead ahead' : List ℕ)
    (count : ℕ) (kept : List ℕ) : Type 0 where
  pub all : TakesPlain gives before after ahead ahead' count
  pub keeps : kept ≡ take 1024 all.bytes

pub kept_none : {S : Type 0} (gives : S → S → List ℕ → Type 0) (s : S) (ahead : List ℕ)
    → TakesKept gives s s ahead ahead 0 []
kept_none {S} gives s ahead =
    record { all = record { bytes = []; taken = inl (refl, refl); plain = tt; many = refl }; keeps = refl }

pub kept_more : {S : Type 0} (gives : S → S → List ℕ → Type 0) (s m t : S) (ahead mid new : List ℕ) (n b : ℕ)
    (kept kept' : List ℕ) → TakesKept gives s m ahead mid n kept → TakesByte gives m t mid new b → b ≢ 10
    → kept' ≡ take 1024 (kept ++ b ∷ []) → TakesKept gives s t ahead new (n + 1) kept'
kept_more {S} gives s m t ahead mid new n b kept kept' h k e f =
    let before = h.all in
    record {
      all = record {
        bytes = before.bytes ++ b ∷ [];
        taken = takes_on gives s m t ahead mid new before.bytes b before.taken k;
        plain = plain_on before.bytes b before.plain (ne_eqb b 10 e);
        many = omega (arith, length-append before.bytes (b ∷ []), before.many);
      };
      keeps = keeps_on before.bytes kept kept' b h.keeps f;
    }

pub kept_line : {S : Type 0} (gives : S → S → List ℕ → Type 0) (s m t : S) (ahead mid new : List ℕ) (n : ℕ)
    (kept line : List ℕ) → TakesKept gives s m ahead mid n kept → n < 65536 → TakesByte gives m t mid new 10
    → line ≡ strip_carriage_return kept → (x : ExtraTable) → TakesLine gives s t ahead new x (line_codes x line)
kept_line {S} gives s m t ahead mid new n kept line h few k e x =
    let before = h.all in
    record {
      part = before.bytes;
      taken = takes_on gives s m t ahead mid new before.bytes 10 before.taken k;
      plain = before.plain;
      short = grind (arith, nat_tests, before.many);
      is = kept_codes before.bytes kept line h.keeps e x;
    }

pub byte_ahead : {S : Type 0} (gives : S → S → List ℕ → Type 0) (s : S) (ahead new : List ℕ) (b : ℕ)
    → ahead ≡ b ∷ new → TakesByte gives s s ahead new b
byte_ahead {S} gives s ahead new b h = inl (refl, h)

pub byte_read : {S : Type 0} (gives : S → S → List ℕ → Type 0) (s t : S) (ahead mid new : List ℕ) (b : ℕ)
    → ahead ≡ [] → gives s t mid → mid ≡ b ∷ new → TakesByte gives s t ahead new b
byte_read {S} gives s t ahead mid new b none gave h = inr (none, subst (λ (l : List ℕ). gives s t l) h gave)

pub ruleset of_take_line = (taken_on, taken_line, taken_last, taken_end, taken_failed, taken_long)
