-- The first characters of a text, one unit after another.
use Rattle.std.specs.Prelude.{◌≡◌, ℕ, List, [], ◌++◌, take}
use Rattle.std.proofs.Common.{◌∙◌, sym, ap, append-nil, append_assoc}
use Rattle.zk_text.specs.declared.unit.Unit.{Unit}
use Rattle.zk_text.specs.Extra.{ExtraTable}
use Rattle.zk_text.specs.Shown.{shown_all}
use Rattle.zk_text.proofs.ShownLemmas.{shown_all-append}

pub kept_nothing : (t : ExtraTable) (all xs : List ℕ) → xs ≡ take 61 all → xs ≡ take 61 (all ++ shown_all t [])
unfolding shown_all
kept_nothing t all xs h = h ∙ ap (take 61) (sym (append-nil all))

pub kept_twice : (t u : ExtraTable) (all : List ℕ) (us vs : List Unit) (xs : List ℕ) → u ≡ t
    → xs ≡ take 61 ((all ++ shown_all t us) ++ shown_all u vs) → xs ≡ take 61 (all ++ shown_all t (us ++ vs))
kept_twice t u all us vs xs same h =
    h ∙ ap (λ (x : ExtraTable). take 61 ((all ++ shown_all t us) ++ shown_all x vs)) same
    ∙ ap (take 61) (append_assoc all (shown_all t us) (shown_all t vs))
    ∙ ap (λ (l : List ℕ). take 61 (all ++ l)) (sym (shown_all-append t us vs))
