use Rattle.std.proofs.Common.{rules, refl, ◌-◌, length, take, drop}
use Rattle.std.specs.Prelude.{min}
use Rattle.std.proofs.lemmas.List.{take_rest}
use Rattle.zk_inspect.proofs.Keyed.{word_end, word_on}
use Rattle.zk_inspect.proofs.Rows.{on_err, on_ok}
use Rattle.zk_inspect.proofs.listing.dictionary_lines.+give_word.Goals as goal

pub returns-in_default-clause-ok : goal.returns-in_default-clause-ok
returns-in_default-clause-ok g t c =
    rw (word_end c.args.memory.now c.args.characters.now (search rules)) (g.met.S.Sink.nothing c.args.sink.now)

pub returns-in-Ok-clause-ok : goal.returns-in-Ok-clause-ok
returns-in-Ok-clause-ok g t c =
    let m = c.args.memory.now in
    let rest = take (length c.args.characters.now - 1) (drop 1 c.args.characters.now) in
    let whole = word_on m c.args.characters.now 0 c.cut-piece.result.1 c.cut-piece.result.0 _
    c.in-len1-up.len_at_least refl c.cut-piece.ensures.piece c.cut-piece.ensures.taken in
    let further = rw (take_rest rest (min c.cut-piece.result.1 (length rest))) at
    (rw c.min.ensures at c.give_word.ensures.ok) in
    on_ok _ _ c.give_word.result (λ h. rw whole (g.met.S.Sink.twice _ _ _ _ _ c.in-Ok.ensures.ok h)) further

pub returns-in-Ok-clause-err : goal.returns-in-Ok-clause-err
returns-in-Ok-clause-err g t c =
    let m = c.args.memory.now in
    let rest = take (length c.args.characters.now - 1) (drop 1 c.args.characters.now) in
    let whole = word_on m c.args.characters.now 0 c.cut-piece.result.1 c.cut-piece.result.0 _
    c.in-len1-up.len_at_least refl c.cut-piece.ensures.piece c.cut-piece.ensures.taken in
    let further = rw (take_rest rest (min c.cut-piece.result.1 (length rest))) at
    (rw c.min.ensures at c.give_word.ensures.err) in
    on_err _ _ c.give_word.result (λ h. rw whole (g.met.S.Sink.late _ _ _ _ _ c.in-Ok.ensures.ok h)) further

pub returns-in-Err-clause-err : goal.returns-in-Err-clause-err
returns-in-Err-clause-err g t c =
    let m = c.args.memory.now in
    let whole = word_on m c.args.characters.now 0 c.cut-piece.result.1 c.cut-piece.result.0 _
    c.in-len1-up.len_at_least refl c.cut-piece.ensures.piece c.cut-piece.ensures.taken in
    rw whole (c.in-Err.ensures.err _)
