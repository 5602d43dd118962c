-- A name that is collected unit by unit, up to so many.
use Rattle.std.specs.Prelude.{◌≡◌, ℕ, ◌+◌, List, [], ◌∷◌, ◌++◌, length, take}
use Rattle.std.proofs.Common.{◌∙◌, ap, subst, sym, arith}
use Rattle.std.proofs.lemmas.List.{length-append, take_all}
use Rattle.std.proofs.Math.Seq.{take-append-add}
use Rattle.zk_text.specs.declared.unit.Unit.{Unit as TextUnit}
use Rattle.zk_text.specs.Extra.{ExtraTable}
use Rattle.zk_text.specs.Shown.{shown, shown_all}
use Rattle.zk_text.proofs.ShownLemmas.{shown_all-append, shown_all-one}
use Rattle.zk_host.specs.declared.collected.Collected.{Collected}
use Rattle.zk_host.specs.Collecting.{CollectsTexts, texts_nothing, texts_twice}

pub name_nothing : (e : ExtraTable) (a : Collected) → CollectsTexts a a (shown_all e []) []
unfolding shown_all
name_nothing e a = texts_nothing a

pub name_twice : (e f : ExtraTable) (a b c : Collected) (s t : List TextUnit) → f ≡ e
    → CollectsTexts a b (shown_all e s) [] → CollectsTexts b c (shown_all f t) []
    → CollectsTexts a c (shown_all e (s ++ t)) []
name_twice e f a b c s t same h k =
    subst (λ (cs : List ℕ). CollectsTexts a c cs []) (sym (shown_all-append e s t))
    (texts_twice a b c _ _ [] [] h (subst (λ (x : ExtraTable). CollectsTexts b c (shown_all x t) []) same k))

pub left_twice : (x y z : ℕ) (s t : List TextUnit) → x ≡ length s + y → y ≡ length t + z → x ≡ length (s ++ t) + z
left_twice x y z s t h k = omega (arith, h, k, length-append s t)

pub name_late : (e f : ExtraTable) (a b c : Collected) (s t : List TextUnit) (x y : ℕ) → f ≡ e → x ≡ length s + y
    → CollectsTexts a b (shown_all e s) [] → CollectsTexts b c (shown_all f (take y t)) []
    → CollectsTexts a c (shown_all e (take x (s ++ t))) []
name_late e f a b c s t x y same is h k =
    subst (λ (us : List TextUnit). CollectsTexts a c (shown_all e us) [])
    (sym (ap (λ (n : ℕ). take n (s ++ t)) is ∙ take-append-add s t y)) (name_twice e f a b c s (take y t) same h k)

pub whole_name : (us : List TextUnit) (x y : ℕ) → x ≡ length us + y → take x us ≡ us
whole_name us x y is = take_all x us (omega (arith, is))

pub name_unit : (e : ExtraTable) (a b : Collected) (u : TextUnit) → CollectsTexts a b (shown e u) []
    → CollectsTexts a b (shown_all e (u ∷ [])) []
name_unit e a b u h = subst (λ (cs : List ℕ). CollectsTexts a b cs []) (sym (shown_all-one e u)) h

-- none are left
pub name_cut : (e : ExtraTable) (a : Collected) (x : ℕ) (us : List TextUnit) → x ≡ 0
    → CollectsTexts a a (shown_all e (take x us)) []
name_cut e a x us none = subst (λ (n : ℕ). CollectsTexts a a (shown_all e (take n us)) []) (sym none) (name_nothing e a)

pub left_nothing : (x : ℕ) → x ≡ 0 + x
left_nothing x = omega arith
