use Rattle.std.proofs.Common.{◌≡◌, ◌∙◌, ℕ, subst, inl}
use Rattle.zk_inspect.specs.TreeLines.{AreRows, IsUpTo}
use Rattle.zk_inspect.specs.Facts.{GaveSome}
use Rattle.zk_inspect.proofs.Rows.{rows_then}
use Rattle.zk_inspect.proofs.listing.tree_lines.Walk.list_below.Goals as goal

pub returns-in_err-next-2-clause-rows : goal.returns-in_err-next-2-clause-rows
returns-in_err-next-2-clause-rows g c =
    let m = c.args.memory.now in
    let wrote = g.F.FactWriter.wrote in
    let more = subst (λ (n : ℕ). GaveSome (AreRows (IsUpTo n) (λ o. ⊥)) wrote c.loop-turn.facts
    c.step-in-loop-turn.new.facts) c.loop-turn.invariant.count c.step-in-loop-turn.ensures.rows in
    rows_then wrote (IsUpTo c.args.self.now.count) g.met.F.FactWriter.twice (λ o. ⊥) (λ o. ⊥)
    (λ o. ⊥) c.args.facts.now c.loop-turn.facts c.step-in-loop-turn.new.facts c.loop-turn.invariant.rows more
    (λ o w. absurd w)

pub loop-turn-preserved : goal.loop-turn-preserved
loop-turn-preserved g c =
    let m = c.args.memory.now in
    let wrote = g.F.FactWriter.wrote in
    let more = subst (λ (n : ℕ). GaveSome (AreRows (IsUpTo n) (λ o. ⊥)) wrote c.loop-turn.facts
    c.step-in-loop-turn.new.facts) c.loop-turn.invariant.count c.step-in-loop-turn.ensures.rows in
    record {
      room = c.in_ok-next-2.ensures.kept;
      count = c.in_ok-next-2.ensures.count ∙ c.loop-turn.invariant.count;
      rows = rows_then wrote (IsUpTo c.args.self.now.count) g.met.F.FactWriter.twice (λ o. ⊥) (λ o. ⊥)
          (λ o. ⊥) c.args.facts.now c.loop-turn.facts c.step-in-loop-turn.new.facts c.loop-turn.invariant.rows more
          (λ o w. absurd w);
      top = λ up. rows_then wrote (IsUpTo c.args.self.now.count) g.met.F.FactWriter.twice (λ o. o ≡ c.args.root)
          (λ o. ⊥) (λ o. o ≡ c.args.root) c.args.facts.now c.loop-turn.facts c.step-in-loop-turn.new.facts
          (c.loop-turn.invariant.top up) more (λ o w. inl w);
    }
