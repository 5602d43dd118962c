-- What a target took of bytes that wait, in two steps.
use Rattle.std.proofs.Common.{◌≡◌, ◌∙◌, ℕ, List, [], ◌++◌, Option, append_assoc, append-nil, sym, refl, ap}
use Rattle.std.proofs.Common.{subst}
use Rattle.std.proofs.KnownBytes.{Appends-kept, Appends-nil, Appends-trans}
use Rattle.std.specs.Prelude.{Result, Ok, Err, OnOk, OnErr}
use Rattle.std.specs.Io.KnownBytes.{Appends, Keeps}
use Rattle.zk_term.specs.Devices.{PassedOn, TookPart}

pub passes_nothing : (t : Option (List ℕ)) (waiting : List ℕ) → PassedOn t t waiting waiting
passes_nothing t waiting = record { part = []; whole = refl; takes = Appends-nil t }

pub passes_all : (a b c : Option (List ℕ)) (waiting none : List ℕ) → Appends a b waiting → Keeps b c → none ≡ []
    → PassedOn a c waiting none
passes_all a b c waiting none h k e = record {
  part = waiting;
  whole = sym (ap (λ (l : List ℕ). waiting ++ l) e ∙ append-nil waiting);
  takes = Appends-kept a b c waiting h k;
}

-- some bytes went out, and more came to those that wait
pub passes_twice : (a b c : Option (List ℕ)) (first second third more : List ℕ) → PassedOn a b first second
    → PassedOn b c (second ++ more) third → PassedOn a c (first ++ more) third
passes_twice a b c first second third more h k = record {
  part = h.part ++ k.part;
  whole = ap (λ (l : List ℕ). l ++ more) h.whole ∙ append_assoc h.part second more
      ∙ ap (λ (l : List ℕ). h.part ++ l) k.whole ∙ sym (append_assoc h.part k.part third);
  takes = Appends-trans a b c h.part k.part h.takes k.takes;
}

pub takes_after : (a b c : Option (List ℕ)) (first second : List ℕ) → PassedOn a b first second
    → TookPart b c second → TookPart a c first
takes_after a b c first second h k = record {
  part = h.part ++ k.part;
  rest = k.rest;
  whole = h.whole ∙ ap (λ (l : List ℕ). h.part ++ l) k.whole ∙ sym (append_assoc h.part k.part k.rest);
  takes = Appends-trans a b c h.part k.part h.takes k.takes;
}

-- the rest went out too, and no more
pub appends_after : (a b c d : Option (List ℕ)) (first second : List ℕ) → PassedOn a b first second
    → Appends b c second → Keeps c d → Appends a d first
appends_after a b c d first second h k keeps =
    let both = Appends-trans a b c h.part second h.takes k in
    Appends-kept a c d first (subst (λ (l : List ℕ). Appends a c l) (sym h.whole) both) keeps

pub takes_whole : (a b c d : Option (List ℕ)) (first second : List ℕ) → PassedOn a b first second
    → Appends b c second → Keeps c d → TookPart a d first
takes_whole a b c d first second h k keeps = record {
  part = first;
  rest = [];
  whole = sym (append-nil first);
  takes = appends_after a b c d first second h k keeps;
}

-- where a call's result is handed on
pub on_ok : {E : Type 0} (r : Result (Unit {0}) E) (P Q : Type 0) → (P → Q) → OnOk r P → OnOk r Q
on_ok {E} (Ok x) P Q f h = f h
on_ok {E} (Err e) P Q f h = h

pub on_err : {E : Type 0} (r : Result (Unit {0}) E) (P Q : Type 0) → (P → Q) → OnErr r P → OnErr r Q
on_err {E} (Ok x) P Q f h = h
on_err {E} (Err e) P Q f h = f h

pub either_way : {E : Type 0} (r : Result (Unit {0}) E) (P : Type 0) → P → OnErr r P
either_way {E} (Ok x) P h = tt
either_way {E} (Err e) P h = h
