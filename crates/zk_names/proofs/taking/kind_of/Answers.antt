use Rattle.std.proofs.Common.{◌∙◌, refl, sym}
use Rattle.zk_names.proofs.ThingKinds.{kind_is}
use Rattle.zk_names.proofs.taking.kind_of.Goals as goal

pub returns-then-is_text : goal.returns-then-is_text
returns-then-is_text c =
    sym (kind_is c.args.name.now _ _ _ _ _
    (sym c.is_text.ensures ∙ c.if-is_text.true)
    refl refl refl refl)

pub returns-then-is_text-2 : goal.returns-then-is_text-2
returns-then-is_text-2 c =
    sym (kind_is c.args.name.now _ _ _ _ _
    (sym c.is_text.ensures ∙ c.if-is_text.false)
    (sym c.is_text-else-is_text.ensures ∙ c.if-is_text-2.true)
    refl refl refl)

pub returns-then-is_text-3 : goal.returns-then-is_text-3
returns-then-is_text-3 c =
    sym (kind_is c.args.name.now _ _ _ _ _
    (sym c.is_text.ensures ∙ c.if-is_text.false)
    (sym c.is_text-else-is_text.ensures ∙ c.if-is_text-2.false)
    (sym c.is_text-else-is_text-2.ensures ∙ c.if-is_text-3.true)
    refl refl)

pub returns-then-is_text-4 : goal.returns-then-is_text-4
returns-then-is_text-4 c =
    sym (kind_is c.args.name.now _ _ _ _ _
    (sym c.is_text.ensures ∙ c.if-is_text.false)
    (sym c.is_text-else-is_text.ensures ∙ c.if-is_text-2.false)
    (sym c.is_text-else-is_text-2.ensures ∙ c.if-is_text-3.false)
    (sym c.is_text-else-is_text-3.ensures ∙ c.if-is_text-4.true)
    refl)

pub returns-then-is_text-5 : goal.returns-then-is_text-5
returns-then-is_text-5 c =
    sym (kind_is c.args.name.now _ _ _ _ _
    (sym c.is_text.ensures ∙ c.if-is_text.false)
    (sym c.is_text-else-is_text.ensures ∙ c.if-is_text-2.false)
    (sym c.is_text-else-is_text-2.ensures ∙ c.if-is_text-3.false)
    (sym c.is_text-else-is_text-3.ensures ∙ c.if-is_text-4.false)
    (sym c.is_text-else-is_text-4.ensures ∙ c.if-is_text-5.true))

pub returns-else-is_text-5 : goal.returns-else-is_text-5
returns-else-is_text-5 c =
    sym (kind_is c.args.name.now _ _ _ _ _
    (sym c.is_text.ensures ∙ c.if-is_text.false)
    (sym c.is_text-else-is_text.ensures ∙ c.if-is_text-2.false)
    (sym c.is_text-else-is_text-2.ensures ∙ c.if-is_text-3.false)
    (sym c.is_text-else-is_text-3.ensures ∙ c.if-is_text-4.false)
    (sym c.is_text-else-is_text-4.ensures ∙ c.if-is_text-5.false))
