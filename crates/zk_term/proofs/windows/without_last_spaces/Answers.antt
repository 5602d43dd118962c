use Rattle.std.proofs.Common.{◌≡◌, ◌∙◌, ◌-◌, ◌≤◌, arith, sym, ap, get_or, length, map}
use Rattle.std.proofs.lemmas.Bool.{eq-eqb, ne_eqb}
use Rattle.std.proofs.lemmas.List.{get_or-map, take-map, length-map}
use Rattle.zk_term.specs.Windows.{character_of, is_space}
use Rattle.zk_term.proofs.Rows.{any_cell, end_back, end_found, end_none}
use Rattle.zk_term.proofs.windows.without_last_spaces.Goals as goal
use Rattle.zk_term.proofs.windows.without_last_spaces.Goals.{then-loop-end-test+else-row-end-eq32, else-loop-end-test}

pub loop-end-preserved : goal.loop-end-preserved
loop-end-preserved c =
    let row = c.args.row.now in
    let end = c.loop-end.end in
    let within : end ≤ length row = omega (arith, c.loop-end.invariant.within) in
    let last : get_or (map character_of row) (end - 1) 0 ≡ 32 =
    get_or-map character_of row (end - 1) any_cell 0 (omega arith) ∙ c.if-row-end-eq32.true in
    record {
      within = omega arith;
      rest = end_back is_space (map character_of row) end 0 c.loop-end-test.true
          (omega (arith, length-map row character_of, within)) (eq-eqb _ 32 last)
          ∙ c.loop-end.invariant.rest;
    }

pub returns-clause-value : goal.returns-clause-value
returns-clause-value c =
    let row = c.args.row.now in
    let end = c.loop-end.end in
    sym (take-map character_of end row) ∙ elim c.loop-end-test.branch [
      | then-loop-end-test+else-row-end-eq32 w ↦ end_found is_space (map character_of row) end 0 w.loop-end-test.true
          (omega (arith, length-map row character_of, c.loop-end.invariant.within))
          (ap is_space (get_or-map character_of row (end - 1) any_cell 0 (omega arith))
          ∙ ne_eqb _ 32 w.if-row-end-eq32.false) ∙ c.loop-end.invariant.rest
      | else-loop-end-test w ↦ end_none is_space (map character_of row) end (omega arith) ∙ c.loop-end.invariant.rest
    ]
