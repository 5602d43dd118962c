-- The lines of a summary by address, put together.
use Rattle.std.specs.Prelude.{codes}
use Rattle.std.proofs.Common.{◌≡◌, ◌∙◌, ℕ, ◌+◌, ◌<◌, List, [], ◌∷◌, ◌++◌, ap, append_assoc, add-one}
use Rattle.std.proofs.Common.{drop, drop-cons, get_or, length, sym}
use Rattle.zk_coverage.specs.Coverage.{bound_of}
use Rattle.zk_coverage.specs.Reports.{address_digits, address_lines, share_of, span_line}
use Rattle.zk_coverage.specs.declared.ran.Ran.{Ran}
use Rattle.zk_coverage.specs.declared.ran.Share.{Share}
use Rattle.zk_coverage.specs.declared.ran.Span.{Span}

-- two shares, one added behind the other
pub two_shares : (old mid new : List ℕ) (s u t v : Share) (a b : List ℕ) → mid ≡ old ++ share_of s a
    → new ≡ mid ++ share_of t b → s ≡ u → t ≡ v → new ≡ old ++ (share_of u a ++ share_of v b)
two_shares old mid new s u t v a b p q e f =
    q ∙ ap (λ (l : List ℕ). l ++ share_of t b) p ∙ append_assoc old (share_of s a) (share_of t b)
    ∙ ap (λ (x : Share). old ++ (share_of x a ++ share_of t b)) e
    ∙ ap (λ (y : Share). old ++ (share_of u a ++ share_of y b)) f

regroup : (o a d b s l : List ℕ) → ((o ++ (a ++ (d ++ (b ++ [])))) ++ s) ++ l ≡ o ++ ((a ++ (d ++ (b ++ s))) ++ l)
regroup o a d b s l = simp append_assoc

-- the line of a routine more
pub address_more : (ran : Ran) (routines : List ℕ) (i : ℕ) (digits before mid after whole : List ℕ) (s : Span)
    → i < length routines → before ++ address_lines ran (drop i routines) ≡ whole
    → digits ≡ address_digits (get_or routines i 0)
    → mid ≡ before ++ (codes "routine " ++ (digits ++ (codes ": " ++ []))) → after ≡ mid ++ span_line ran s
    → s ≡ record { low = get_or routines i 0 + 1; high = bound_of (drop (i + 1) routines) }
    → after ++ address_lines ran (drop (i + 1) routines) ≡ whole
address_more ran routines i digits before mid after whole s lt w d m a e =
    let next : drop i routines ≡ get_or routines i 0 ∷ drop (i + 1) routines =
    rw (add-one i) (drop-cons routines i 0 lt) in
    let rest = address_lines ran (drop (i + 1) routines) in
    ap (λ (l : List ℕ). l ++ rest) (a ∙ ap (λ (l : List ℕ). l ++ span_line ran s) m)
    ∙ regroup before (codes "routine ") digits (codes ": ") (span_line ran s) rest
    ∙ ap (λ (l : List ℕ). before ++ ((codes "routine " ++ (l ++ (codes ": " ++ span_line ran s))) ++ rest)) d
    ∙ ap (λ (t : Span). before ++ ((codes "routine " ++ (address_digits (get_or routines i 0)
    ++ (codes ": " ++ span_line ran t))) ++ rest)) e
    ∙ ap (λ (l : List ℕ). before ++ address_lines ran l) (sym next) ∙ w

-- two shares behind a text
pub titled_shares : (title old start mid new : List ℕ) (s u t v : Share) (a b : List ℕ) → start ≡ old ++ title
    → mid ≡ start ++ share_of s a → new ≡ mid ++ share_of t b → s ≡ u → t ≡ v
    → new ≡ old ++ (title ++ (share_of u a ++ share_of v b))
titled_shares title old start mid new s u t v a b n p q e f =
    two_shares start mid new s u t v a b p q e f
    ∙ ap (λ (l : List ℕ). l ++ (share_of u a ++ share_of v b)) n ∙ append_assoc old title _

-- three parts, each of several, one added behind the other
pub three_parts : (o u v w a r b l c s : List ℕ) → u ≡ o ++ (a ++ (r ++ b)) → v ≡ u ++ (l ++ c) → w ≡ v ++ s
    → w ≡ o ++ (a ++ r ++ b ++ l ++ c ++ s)
three_parts o u v w a r b l c s p q h =
    h ∙ ap (λ (x : List ℕ). x ++ s) (q ∙ ap (λ (x : List ℕ). x ++ (l ++ c)) p) ∙ simp append_assoc
