-- What units show, part by part.
use Rattle.std.proofs.Common.{◌≡◌, ℕ, List, [], ◌∷◌, ◌++◌, refl, ap, sym, ◌∙◌, append_assoc}
use Rattle.std.proofs.lemmas.List.{append-nil}
use Rattle.zk_text.specs.declared.unit.Unit.{Unit}
use Rattle.zk_text.specs.Extra.{ExtraTable}
use Rattle.zk_text.specs.Shown.{shown, shown_all}
use Rattle.zk_text.specs.Laws.{ShownInParts}

pub shown_all-nil : (t : ExtraTable) → shown_all t [] ≡ []
unfolding shown_all
shown_all-nil t = refl

pub shown_all-one : (t : ExtraTable) (u : Unit) → shown_all t (u ∷ []) ≡ shown t u
unfolding shown_all
shown_all-one t u = append-nil (shown t u)

pub shown_all-append : (t : ExtraTable) (us vs : List Unit) → shown_all t (us ++ vs) ≡ shown_all t us ++ shown_all t vs
unfolding shown_all
shown_all-append t [] vs = refl
shown_all-append t (u ∷ us) vs = ap (λ (x : List ℕ). shown t u ++ x) (shown_all-append t us vs)
    ∙ sym (append_assoc (shown t u) (shown_all t us) (shown_all t vs))

pub shown_in_parts : ShownInParts
shown_in_parts = shown_all-append
