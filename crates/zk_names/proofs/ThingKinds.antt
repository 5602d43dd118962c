-- The kind of thing that a name is of, by the tests of it.
use Rattle.std.proofs.Common.{◌≡◌, ◌∙◌, Bool, List, None, Some, ap, codes, cond, ℕ}
use Rattle.std.specs.Str.{bytes_eq}
use Rattle.zk_names.specs.Said.{kind_of}
use Rattle.zk_names.specs.declared.named.Kind.TheVariants.{Attribute, Global, Object, Property}

pub kind_is : (name : List ℕ) (a b c d e : Bool)
    → bytes_eq name (codes "global-variable") ≡ a → bytes_eq name (codes "object") ≡ b
    → bytes_eq name (codes "class") ≡ c → bytes_eq name (codes "property") ≡ d → bytes_eq name (codes "attribute") ≡ e
    → kind_of name ≡ cond a (Some Global) (cond b (Some Object) (cond c (Some Object) (cond d (Some Property)
    (cond e (Some Attribute) None))))
unfolding kind_of
kind_is name a b c d e ha hb hc hd he =
    ap (λ x. cond x (Some Global) (cond (bytes_eq name (codes "object")) (Some Object)
    (cond (bytes_eq name (codes "class")) (Some Object) (cond (bytes_eq name (codes "property")) (Some Property)
    (cond (bytes_eq name (codes "attribute")) (Some Attribute) None))))) ha
    ∙ ap (λ x. cond a (Some Global) (cond x (Some Object)
    (cond (bytes_eq name (codes "class")) (Some Object) (cond (bytes_eq name (codes "property")) (Some Property)
    (cond (bytes_eq name (codes "attribute")) (Some Attribute) None))))) hb
    ∙ ap (λ x. cond a (Some Global) (cond b (Some Object)
    (cond x (Some Object) (cond (bytes_eq name (codes "property")) (Some Property)
    (cond (bytes_eq name (codes "attribute")) (Some Attribute) None))))) hc
    ∙ ap (λ x. cond a (Some Global) (cond b (Some Object)
    (cond c (Some Object) (cond x (Some Property)
    (cond (bytes_eq name (codes "attribute")) (Some Attribute) None))))) hd
    ∙ ap (λ x. cond a (Some Global) (cond b (Some Object) (cond c (Some Object) (cond d (Some Property)
    (cond x (Some Attribute) None))))) he
