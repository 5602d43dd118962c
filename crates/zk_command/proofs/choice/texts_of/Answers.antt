use Rattle.std.proofs.Common.{rules, ◌≡◌, ◌∙◌, ◌++◌, ap, map, List, [], Option, None, Some}
use Rattle.std.specs.Prelude.{option_map, unwrap_or}
use Rattle.clap.specs.Words.{Text, found_of, matched_of, raw_values}
use Rattle.clap.proofs.WalkLemmas.{raw_values-rows}
use Rattle.zk_command.proofs.choice.texts_of.Goals as goal
use Rattle.zk_command.proofs.choice.texts_of.Goals.{in-Some+in_ok-extend_from_slice, in_default}

pub returns : goal.returns
returns c =
    let found = found_of c.args.found.now in
    elim c.match-get_strs.branch [
      | in-Some+in_ok-extend_from_slice w ↦
          let read : Some (map (λ s. s.now) w.in-Some.texts.now) ≡ option_map raw_values
          (matched_of found c.args.name.now) = search rules in
          ap (λ v. map (λ s. s.now) v.items) w.list-is
          ∙ ap (λ l. map (λ s. s.now) l) (w.in_ok-extend_from_slice.ensures.items
          ∙ ap (λ l. l ++ w.in-Some.texts.now) c.new-list.ensures.items)
          ∙ ap (λ (o : Option (List Text)). unwrap_or o []) (read ∙ raw_values-rows found c.args.name.now)
      | in_default w ↦
          let read : None ≡ option_map raw_values (matched_of found c.args.name.now) = search rules in
          ap (λ v. map (λ s. s.now) v.items) w.list-is
          ∙ ap (λ l. map (λ s. s.now) l) c.new-list.ensures.items
          ∙ ap (λ (o : Option (List Text)). unwrap_or o []) (read ∙ raw_values-rows found c.args.name.now)
    ]
