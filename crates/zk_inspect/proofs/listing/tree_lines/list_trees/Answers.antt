use Rattle.std.proofs.Common.{◌≡◌, ◌∙◌, ◌⊎◌, ◌+◌, ℕ, arith, subst, inl, inr, ⊎_elim}
use Rattle.std.proofs.lemmas.Bool.{cases_eq}
use Rattle.zk_mem.specs.Map.{MemoryMap}
use Rattle.zk_tables.specs.Links.{link_at, parent_of}
use Rattle.zk_inspect.specs.ObjectLines.{number_or_none}
use Rattle.zk_inspect.specs.TreeLines.{AreRows, HasNoParent, IsUpTo}
use Rattle.zk_inspect.specs.Facts.{GaveSome}
use Rattle.zk_inspect.proofs.Rows.{rows_then}
use Rattle.zk_inspect.proofs.listing.tree_lines.list_trees.Goals as goal

-- a root up to the next object is one up to this object, or the next
next_root : (m : MemoryMap) (n o : ℕ) → IsUpTo (n + 1) o × HasNoParent m o → (IsUpTo n o × HasNoParent m o)
    ⊎ (o ≡ n + 1)
next_root m n o w = ⊎_elim (λ e. inr e) (λ other. inl ((w.0.0, omega (arith, w.0.1, other)), w.1)) (cases_eq o (n + 1))

pub returns-in_err-list_root-clause-rows : goal.returns-in_err-list_root-clause-rows
returns-in_err-list_root-clause-rows g c =
    let m = c.args.memory.now in
    let wrote = g.F.FactWriter.wrote in
    let more = subst (λ (n : ℕ). GaveSome (AreRows (IsUpTo n) (λ o. ⊥)) wrote c.loop-before.facts
    c.list_root.new.facts) c.loop-before.invariant.count c.list_root.ensures.rows in
    rows_then wrote (IsUpTo c.args.walk.now.count) g.met.F.FactWriter.twice (λ o. ⊥) (λ o. ⊥)
    (λ o. ⊥) c.args.facts.now c.loop-before.facts c.list_root.new.facts c.loop-before.invariant.rows more
    (λ o w. absurd w)

pub loop-before-preserved : goal.loop-before-preserved
loop-before-preserved g c =
    let m = c.args.memory.now in
    let wrote = g.F.FactWriter.wrote in
    let count = c.args.walk.now.count in
    let before = c.loop-before.before in
    let more = subst (λ (n : ℕ). GaveSome (AreRows (IsUpTo n) (λ o. ⊥)) wrote c.loop-before.facts
    c.list_root.new.facts) c.loop-before.invariant.count c.list_root.ensures.rows in
    let up : IsUpTo c.loop-before.walk.count (before + 1) = (
      omega arith,
      omega (arith, c.loop-before-test.true, c.loop-before.invariant.count),
    ) in
    record {
      room = c.in_ok-list_root.ensures.kept;
      count = c.in_ok-list_root.ensures.count ∙ c.loop-before.invariant.count;
      rows = rows_then wrote (IsUpTo count) g.met.F.FactWriter.twice (λ o. ⊥) (λ o. ⊥) (λ o. ⊥) c.args.facts.now
          c.loop-before.facts c.list_root.new.facts c.loop-before.invariant.rows more (λ o w. absurd w);
      top = ⊎_elim
          (λ root. let this = subst (λ (n : ℕ). GaveSome (AreRows (IsUpTo n) (λ o. o ≡ before + 1)) wrote
          c.loop-before.facts c.list_root.new.facts) c.loop-before.invariant.count
          (c.in_ok-list_root.ensures.top up root) in
          rows_then wrote (IsUpTo count) g.met.F.FactWriter.twice (λ o. IsUpTo before o × HasNoParent m o)
          (λ o. o ≡ before + 1) (λ o. IsUpTo (before + 1) o × HasNoParent m o) c.args.facts.now
          c.loop-before.facts c.list_root.new.facts c.loop-before.invariant.top this (λ o w. next_root m before o w))
          (λ other. rows_then wrote (IsUpTo count) g.met.F.FactWriter.twice
          (λ o. IsUpTo before o × HasNoParent m o) (λ o. ⊥) (λ o. IsUpTo (before + 1) o × HasNoParent m o)
          c.args.facts.now c.loop-before.facts c.list_root.new.facts c.loop-before.invariant.top more
          (λ o w. ⊎_elim (λ old. inl old) (λ e. absurd (other (subst (HasNoParent m) e w.1))) (next_root m before o w)))
          (cases_eq (number_or_none (link_at m (parent_of (before + 1)))) 0);
    }
