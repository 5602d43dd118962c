use Rattle.std.proofs.Common.{◌≡◌, ◌∙◌, ◌++◌, ◌∷◌, [], Bor, List, ℕ, ap, map, rules}
use Rattle.std.proofs.lemmas.List.{map-append}
use Rattle.zk_names.proofs.document.Reading.end.Goals as goal

pub returns-clause-names : goal.returns-clause-names
returns-clause-names c =
    let same : c.in-Some.open.now ≡ c.args.name.now = search rules in
    ap (map (λ (s : Bor (List ℕ)). s.now)) c.in-Some.ensures.items
    ∙ map-append (λ (s : Bor (List ℕ)). s.now) _ _
    ∙ ap (λ (n : List ℕ). map (λ (s : Bor (List ℕ)). s.now) c.pop.new.self.items ++ (n ∷ [])) same
