use Rattle.std.proofs.Common.{◌∙◌, ℕ, false, get_or, ap, sym, refl}
use Rattle.zk_inspect.proofs.LastLists.{begins_on, cut_off, ended, read_is}
use Rattle.zk_inspect.proofs.check.property_lists.begins_list.Goals as goal

pub returns-in-Ok-Some : goal.returns-in-Ok-Some
returns-in-Ok-Some c =
    let read = read_is _ _ _ c.in-Ok-Some.ensures.value c.in-Ok-Some.field-0-is in
    begins_on c.args.memory.now c.args.address c.in-Ok-Some.property c.args.marks.now c.is_marked.result
    c.has_bytes.ensures read c.requires.known (c.is_marked.ensures
    ∙ ap (λ (b : ℕ). get_or c.args.marks.now b false) c.end.ensures)

pub returns-in-Ok-None : goal.returns-in-Ok-None
returns-in-Ok-None c = (
  λ t. ended c.args.memory.now c.args.address (read_is _ _ _ c.in-Ok-None.ensures.value c.in-Ok-None.field-0-is),
  λ l. refl,
)

pub returns-in-Err : goal.returns-in-Err
returns-in-Err c =
    (λ t. absurd cc, λ l. absurd (cut_off c.args.memory.now c.args.address _ (sym c.in-Err.ensures.value) l))
