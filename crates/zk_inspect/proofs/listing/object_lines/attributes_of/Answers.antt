use Rattle.std.proofs.Common.{arith, ◌∙◌, sym, ap, ◌++◌, ◌∷◌, [], take, List, ℕ, Bool}
use Rattle.std.specs.Prelude.{if◌then◌else◌}
use Rattle.std.specs.List.{filter, range_with_len}
use Rattle.zk_tables.specs.Attributes.{attribute_at}
use Rattle.zk_inspect.specs.ObjectLines.{attributes_of, is_set}
use Rattle.zk_inspect.proofs.Numbered.{filter_all, filter_more_numbers}
use Rattle.zk_inspect.proofs.listing.object_lines.attributes_of.Goals as goal

pub loop-number-preserved : goal.loop-number-preserved
loop-number-preserved c =
    let i = c.loop-number.number in
    let p = λ (n : ℕ). is_set (attribute_at c.args.memory.now c.args.object n) in
    record {
      found = c.keep.ensures.items
          ∙ ap (λ (l : List ℕ). l ++ (if c.has_attribute-set.result then i ∷ [] else [])) c.loop-number.invariant.found
          ∙ ap (λ (b : Bool). filter p (take i (range_with_len 0 48)) ++ (if b then i ∷ [] else []))
          c.has_attribute-set.ensures
          ∙ sym (filter_more_numbers p 0 48 i i (omega arith) (omega arith));
      few = omega (arith, c.keep.ensures.few, c.loop-number.invariant.few);
    }

pub returns : goal.returns
unfolding attributes_of
returns c =
    c.loop-number.invariant.found ∙ filter_all (λ n. is_set (attribute_at c.args.memory.now c.args.object n)) 0 48
    c.loop-number.number (omega arith)
