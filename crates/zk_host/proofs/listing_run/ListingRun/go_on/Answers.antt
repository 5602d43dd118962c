use Rattle.std.proofs.Common.{rules, ◌≡◌, ◌∙◌, ℕ, List, drop, length, min, refl, subst, ap}
use Rattle.std.proofs.lemmas.List.{drop_min}
use Rattle.zk_inspect.specs.declared.fact.Fact.{Fact}
use Rattle.zk_host.specs.Listings.{IsPartBy}
use Rattle.zk_host.proofs.Listings.{left_behind, slice_rest}
use Rattle.zk_host.proofs.listing_run.ListingRun.go_on.Goals as goal

pub returns-clause-part : goal.returns-clause-part
returns-clause-part c =
    let all = c.args.self.now.facts.items in
    let part = c.write_lines-part.result in
    let from : c.min-from.result ≡ min c.args.self.now.next (length all) = search rules in
    let left = slice_rest c.deref.result.now c.min-from.result ∙ ap (drop c.min-from.result) c.deref.ensures.value
    ∙ ap (λ (k : ℕ). drop k all) from ∙ drop_min c.args.self.now.next all in
    record {
      lines = part.lines;
      part = subst (λ (fs : List Fact). IsPartBy part.end c.args.self.now.memory fs part.lines
          c.args.self.now.words part.words c.args.target.now.text.bytes c.write_lines-part.new.target.text.bytes)
          left c.write_lines-part.ensures.part;
      left = left_behind all c.args.self.now.next c.min-from.result part.lines _ from refl;
      beside = refl;
    }
