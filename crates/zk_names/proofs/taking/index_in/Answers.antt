use Rattle.std.proofs.Common.{◌≡◌, ◌∙◌, ◌++◌, List, None, Option, Some, ap, codes, sym, ℕ}
use Rattle.std.proofs.lemmas.Bool.Decides.{Decides-eqb}
use Rattle.std.proofs.lemmas.Slice.Eq.{strip_prefix_is, strip_suffix_is}
use Rattle.std.specs.Prelude.{IfSome}
use Rattle.zk_names.specs.Nodes.{number_of}
use Rattle.zk_names.specs.Said.{IsSourceTag}
use Rattle.zk_names.proofs.taking.index_in.Goals as goal

index_is : (tag digits : List ℕ) (r : Option ℕ) → tag ≡ codes "source index=\"" ++ (digits ++ codes "\"")
    → r ≡ number_of digits → IfSome r (IsSourceTag tag)
index_is tag digits None w h = tt
index_is tag digits (Some n) w h = record { digits = digits; whole = w; number = sym h }

pub returns-in-Some-strip_suffix : goal.returns-in-Some-strip_suffix
returns-in-Some-strip_suffix c =
    let front : c.args.tag.now ≡ codes "source index=\"" ++ c.in-Some.value.now =
    rw c.in-Some.is at (strip_prefix_is Decides-eqb c.args.tag.now (codes "source index=\"")
    c.strip_prefix.result c.strip_prefix.ensures.cases) in
    let end : c.in-Some.value.now ≡ c.in-Some-strip_suffix.digits.now ++ codes "\"" =
    rw c.in-Some-strip_suffix.is at (strip_suffix_is Decides-eqb c.in-Some.value.now (codes "\"")
    c.strip_suffix.result c.strip_suffix.ensures.cases) in
    index_is c.args.tag.now c.in-Some-strip_suffix.digits.now c.number_in.result
    (front ∙ ap (λ l. codes "source index=\"" ++ l) end) c.number_in.ensures
