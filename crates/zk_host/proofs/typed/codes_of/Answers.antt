use Rattle.std.proofs.Common.{ap, sym, refl, ◌∙◌}
use Rattle.zk_host.proofs.Hearing.{no_codes, codes_heard, not_heard, true-false}
use Rattle.zk_host.proofs.typed.codes_of.Goals as goal

pub returns-then-is_empty : goal.returns-then-is_empty
returns-then-is_empty c =
    c.new.ensures ∙ sym (no_codes _ c.args.line.now (sym c.is_empty.ensures ∙ c.if-is_empty.true))

pub unreachable-requires : goal.unreachable-requires
unreachable-requires c =
    let h = c.line.ensures.heard c.args.line.now (ap (λ r. r.over) c.new-2.ensures) refl in
    not_heard c.of.result c.new-2.result.ahead c.args.line.now _ _ _ _ c.line.result
    (ap (λ r. r.ahead) c.new-2.ensures) c.requires (sym c.is_empty.ensures ∙ c.if-is_empty.false)
    (λ r. true-false (sym r.stays)) c.in-End.is h.2

pub returns : goal.returns
returns c =
    let h = c.line.ensures.heard c.args.line.now (ap (λ r. r.over) c.new-2.ensures) refl in
    rw (sym c.of.ensures) (codes_heard c.of.result c.new-2.result.ahead c.args.line.now _ _ _ _ c.line.result
    c.in-Line.codes (ap (λ r. r.ahead) c.new-2.ensures) c.requires c.in-Line.is h.2)
