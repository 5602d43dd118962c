-- The beginnings of an input, and what is heard of them.
use Rattle.std.proofs.Common.{◌≡◌, ℕ, Bool, true, false, ◌==◌, List, [], ◌∷◌, ◌++◌, length, refl, ◌∙◌, ap, arith}
use Rattle.std.proofs.Common.{length-append, nat_lt}
use Rattle.std.proofs.lemmas.Bool.Decides.{nat_tests}
use Rattle.std.specs.List.{list_all, slice_split}
use Rattle.std.specs.Str.Lines.{lines_of_parts, strip_carriage_return}
use Rattle.zk_term.specs.declared.lines.InputEnd.TheVariants as over
use Rattle.zk_term.specs.Lines.{heard, heard_in, behind, nothing_more, is_new_line, is_short, while_short, ended_in}
use Rattle.zk_term.specs.Lines.{ended_lines, IsPlain, AreLines}

-- ---- parts

split_ended : (line rest : List ℕ) → IsPlain line → slice_split is_new_line (line ++ 10 ∷ rest) ≡ line
    ∷ slice_split is_new_line rest
split_ended [] rest h = refl
split_ended (b ∷ line) rest h = rw (split_ended line rest h.1, h.0) refl

split_last : (line : List ℕ) → IsPlain line → slice_split is_new_line line ≡ line ∷ []
split_last [] h = refl
split_last (b ∷ line) h = rw (split_last line h.1, h.0) refl

-- a first part and those after it
pub record Parts (bytes : List ℕ) : Type 0 where
  pub first : List ℕ
  pub more : List (List ℕ)
  pub are : slice_split is_new_line bytes ≡ first ∷ more

parts_by : (b : ℕ) (bytes : List ℕ) (x : Bool) → is_new_line b ≡ x → Parts bytes → Parts (b ∷ bytes)
parts_by b bytes true e p = record { first = []; more = slice_split is_new_line bytes; are = rw e refl }
parts_by b bytes false e p = record { first = b ∷ p.first; more = p.more; are = rw (e, p.are) refl }

pub parts : (bytes : List ℕ) → Parts bytes
parts [] = record { first = []; more = []; are = refl }
parts (b ∷ bytes) = parts_by b bytes _ refl (parts bytes)

split_long : (line rest : List ℕ) → IsPlain line → (p : Parts rest)
    → slice_split is_new_line (line ++ rest) ≡ (line ++ p.first) ∷ p.more
split_long [] rest h p = p.are
split_long (b ∷ line) rest h p = rw (split_long line rest h.1 p, h.0) refl

-- ---- what is heard

lines_on : (line : List ℕ) (parts : List (List ℕ)) → lines_of_parts (line ∷ (parts ++ [] ∷ []))
    ≡ strip_carriage_return line ∷ lines_of_parts (parts ++ [] ∷ [])
lines_on line [] = refl
lines_on line (part ∷ parts) = refl

heard_more : (x : Bool) (line first : List ℕ) (more : List (List ℕ)) → is_short line ≡ true
    → list_all is_short (first ∷ more) ≡ x → heard_in (line ∷ first ∷ more) ≡ behind (strip_carriage_return line)
    (heard_in (first ∷ more))
unfolding while_short
heard_more true line first more h e = rw (h, e) refl
heard_more false line first more h e =
    rw (h, e) (ap (λ (ls : List (List ℕ)). record { lines = ls; over = over.Failed })
    (lines_on line (while_short (first ∷ more))))

ended : (line rest : List ℕ) → IsPlain line → nat_lt (length line) 65536 ≡ true
    → heard (line ++ 10 ∷ rest) ≡ behind (strip_carriage_return line) (heard rest)
unfolding heard
ended line rest plain short =
    let p = parts rest in
    rw (split_ended line rest plain, p.are) (heard_more _ line p.first p.more short refl)

last : (b : ℕ) (line : List ℕ) → IsPlain (b ∷ line) → nat_lt (length (b ∷ line)) 65536 ≡ true
    → heard (b ∷ line) ≡ behind (b ∷ line) (nothing_more over.End)
unfolding heard
last b line plain short = let some : (length (b ∷ line) == 0) ≡ false = grind (arith, nat_tests) in
    ap heard_in (split_last (b ∷ line) plain) ∙ rw (short, some) refl

too_long : (line rest : List ℕ) → IsPlain line → length line ≡ 65536 → heard (line ++ rest) ≡ nothing_more over.Failed
unfolding heard while_short
too_long line rest plain long =
    let p = parts rest in
    let test : is_short (line ++ p.first) ≡ false = grind (arith, nat_tests, length-append line p.first) in
    ap heard_in (split_long line rest plain p) ∙ rw test refl

pub complete : (line rest : List ℕ) → IsPlain line → ended_lines (line ++ 10 ∷ rest) ≡ strip_carriage_return line
    ∷ ended_lines rest
unfolding ended_lines ended_in
complete line rest plain = let p = parts rest in rw (split_ended line rest plain, p.are) refl

cut_off : (line : List ℕ) → IsPlain line → ended_lines line ≡ []
unfolding ended_lines ended_in
cut_off line plain = rw (split_last line plain) refl

pub are_lines : AreLines
unfolding heard
are_lines =
    record { ended = ended; last = last; none = refl; complete = complete; cut_off = cut_off; too_long = too_long }
