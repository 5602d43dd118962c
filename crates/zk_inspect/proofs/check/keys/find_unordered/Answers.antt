use Rattle.std.proofs.Common.{◌∙◌, ap, sym}
use Rattle.zk_mem.specs.declared.header.Header.{Header}
use Rattle.zk_tables.specs.Dictionaries.{dictionary_at}
use Rattle.zk_inspect.proofs.Falling.{no_order, unnamed}
use Rattle.zk_inspect.proofs.check.keys.find_unordered.Goals as goal

pub returns-then-address-eq0 : goal.returns-then-address-eq0
returns-then-address-eq0 c =
    unnamed c.args.memory.now _ (sym (ap (λ (h : Header). h.dictionary) c.header-address.ensures)
    ∙ c.if-address-eq0.true) c.new.ensures

pub returns-in-Err : goal.returns-in-Err
returns-in-Err c =
    no_order c.args.memory.now _ _ (ap (dictionary_at c.args.memory.now)
    (sym (ap (λ (h : Header). h.dictionary) c.header-address.ensures)) ∙ sym c.in-Err.ensures.value)
    c.new-in-Err.ensures
