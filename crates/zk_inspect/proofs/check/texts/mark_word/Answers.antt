use Rattle.std.proofs.Common.{◌≡◌, ◌∙◌, ◌+◌, ◌*◌, ◌<◌, ap, sym, arith}
use Rattle.std.specs.Prelude.{slice_set}
use Rattle.std.proofs.Common.{ℕ, true, rules}
use Rattle.zk_mem.specs.declared.header.Header.{Header}
use Rattle.zk_mem.specs.Map.{word_at}
use Rattle.zk_inspect.specs.Texts.{table_place}
use Rattle.zk_inspect.proofs.TableMarks.{table_unread, table_word}
use Rattle.zk_inspect.proofs.check.texts.mark_word.Goals as goal

pub returns-in-Ok : goal.returns-in-Ok
returns-in-Ok c =
    let place : c.header.result.abbreviations + 2 * c.args.number ≡ table_place c.args.memory.now
    c.args.number = ap (λ (h : Header). h.abbreviations + 2 * c.args.number) c.header.ensures in
    let small : c.in-Ok.word < 65536 = search rules in
    table_word c.args.memory.now c.args.number c.in-Ok.word _ _ _ c.requires.few c.requires.tabled small
    (ap (word_at c.args.memory.now) (sym place) ∙ sym c.in-Ok.ensures) c.requires.marks c.mark.ensures

pub returns-in-Err : goal.returns-in-Err
returns-in-Err c =
    let place : c.header.result.abbreviations + 2 * c.args.number ≡ table_place c.args.memory.now
    c.args.number = ap (λ (h : Header). h.abbreviations + 2 * c.args.number) c.header.ensures in
    let small : c.header.result.abbreviations < 65536 = search rules in
    let few = c.requires.few in
    let near : table_place c.args.memory.now c.args.number < 131071 = omega arith in
    table_unread c.args.memory.now c.args.number _ _ _ _ c.requires.few c.requires.tabled near
    (ap (word_at c.args.memory.now) (sym place) ∙ sym c.in-Err.ensures) c.requires.marks
    (c.mark-in-Err.ensures ∙ ap (λ (a : ℕ). slice_set c.args.unread.now a true) place)
