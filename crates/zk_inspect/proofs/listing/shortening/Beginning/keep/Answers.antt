use Rattle.std.proofs.Common.{◌∙◌, ◌++◌, ◌∷◌, [], List, ℕ, ap, arith, length}
use Rattle.zk_inspect.proofs.Shortening.{full_stays, one_more}
use Rattle.zk_inspect.proofs.listing.shortening.Beginning.keep.Goals as goal

pub returns-then-len-clause-first : goal.returns-then-len-clause-first
returns-then-len-clause-first c = λ all h.
    c.push.ensures.items ∙ ap (λ (l : List ℕ). l ++ c.args.c ∷ []) h ∙ one_more 61 all c.args.c
    (omega (arith, ap (λ (l : List ℕ). length l) h, c.len.ensures.value, c.if-len.true))

pub returns-else-len-clause-first : goal.returns-else-len-clause-first
returns-else-len-clause-first c =
    λ all h. h ∙ full_stays 61 all c.args.c
    (omega (arith, ap (λ (l : List ℕ). length l) h, c.len.ensures.value, c.if-len.false))
