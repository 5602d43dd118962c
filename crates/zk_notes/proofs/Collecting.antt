-- What was collected where memory was never short.
use Rattle.std.proofs.Common.{◌≡◌, ◌∙◌, Bool, true, false, List, [], ◌++◌, Result, Ok, Err, IfOk, ap}
use Rattle.zk_inspect.specs.Facts.{Collected}

pub collected_all : {A : Type 0} (x y : Bool) (old new s : List A) → x ≡ false → old ≡ []
    → Collected x y old new s → y ≡ false → new ≡ s
collected_all {A} false false old new s e none h f = h ∙ ap (λ (l : List A). l ++ s) none
collected_all {A} false true old new s e none h f = absurd cc
collected_all {A} true y old new s e none h f = absurd cc

pub if_ok : {A E : Type 0} {P Q : A → Type 0} (r : Result A E) → ((v : A) → P v → Q v) → IfOk r P → IfOk r Q
if_ok {A} {E} {P} {Q} (Ok v) f h = f v h
if_ok {A} {E} {P} {Q} (Err e) f h = tt
