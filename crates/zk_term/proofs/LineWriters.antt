-- What came of a writer that has ended.
use Rattle.std.proofs.Common.{◌≡◌, ◌∙◌, ℕ, Bool, true, false, List, [], ◌++◌, Option, append_assoc, append-nil, sym, ap}
use Rattle.std.proofs.KnownBytes.{Appends-trans}
use Rattle.std.specs.Io.KnownBytes.{Appends}
use Rattle.zk_term.specs.Devices.{TookPart}
use Rattle.zk_term.specs.LineWriters.{Given, Sheet, Wrote}

-- a write had failed before
pub ended_before : (a b : Sheet) (text : List ℕ) → a.failed ≡ false → b.failed ≡ true → a.waiting ≡ []
    → Given a b text → Wrote true a.taken b.taken text × (b.broken ≡ true)
ended_before a b text e f w h =
    let k = rw (e, f) at h.by in (
      record {
        part = k.0.part;
        rest = k.0.rest;
        whole = ap (λ (l : List ℕ). l ++ text) (sym w) ∙ k.0.whole;
        takes = k.0.takes;
      },
      k.1,
    )

-- what waited was taken
pub ended_all : (a b : Sheet) (u : Option (List ℕ)) (v : Bool) (text : List ℕ) → a.failed ≡ false
    → b.failed ≡ false → a.waiting ≡ [] → Given a b text → Appends b.taken u b.waiting → v ≡ b.broken
    → Wrote false a.taken u text × (v ≡ a.broken)
ended_all a b u v text e f w h takes same =
    let k = rw (e, f) at h.by in
    let whole : text ≡ k.0.part ++ b.waiting = ap (λ (l : List ℕ). l ++ text) (sym w) ∙ k.0.whole in
    (rw whole (Appends-trans a.taken b.taken u k.0.part b.waiting k.0.takes takes), same ∙ k.1)

-- a first part of it was taken
pub ended_part : (a b : Sheet) (u : Option (List ℕ)) (v : Bool) (text : List ℕ) → a.failed ≡ false
    → b.failed ≡ false → a.waiting ≡ [] → Given a b text → TookPart b.taken u b.waiting → v ≡ true
    → Wrote true a.taken u text × (v ≡ true)
ended_part a b u v text e f w h took broken =
    let k = rw (e, f) at h.by in
    let whole : text ≡ k.0.part ++ b.waiting = ap (λ (l : List ℕ). l ++ text) (sym w) ∙ k.0.whole in (
      record {
        part = k.0.part ++ took.part;
        rest = took.rest;
        whole = whole ∙ ap (λ (l : List ℕ). k.0.part ++ l) took.whole ∙ sym (append_assoc k.0.part took.part took.rest);
        takes = Appends-trans a.taken b.taken u k.0.part took.part k.0.takes took.takes;
      },
      broken,
    )

-- what waited could not all be taken
pub sent_part : (a b : Sheet) (w bytes : List ℕ) → w ≡ a.waiting → a.failed ≡ false → b.failed ≡ true
    → TookPart a.taken b.taken w → b.broken ≡ true → Given a b bytes
sent_part a b w bytes same e f took broken = record {
  by = rw (e, f) (
    record {
      part = took.part;
      rest = took.rest ++ bytes;
      whole = ap (λ (l : List ℕ). l ++ bytes) (sym same ∙ took.whole) ∙ append_assoc took.part took.rest bytes;
      takes = took.takes;
    },
    broken,
  );
}

-- what waited was taken, and the bytes after it
pub sent_all : (a b : Sheet) (between : Option (List ℕ)) (w bytes : List ℕ) → w ≡ a.waiting → a.failed ≡ false
    → b.failed ≡ false → b.waiting ≡ [] → Appends a.taken between w → Appends between b.taken bytes
    → b.broken ≡ a.broken → Given a b bytes
sent_all a b between w bytes same e f none first second whole = record {
  by = rw (e, f) (
    record {
      part = w ++ bytes;
      whole = ap (λ (l : List ℕ). l ++ bytes) (sym same) ∙ sym (append-nil (w ++ bytes))
          ∙ ap (λ (l : List ℕ). (w ++ bytes) ++ l) (sym none);
      takes = Appends-trans a.taken between b.taken w bytes first second;
    },
    whole,
  );
}

-- what waited was taken, and a first part of the bytes
pub sent_first : (a b : Sheet) (between : Option (List ℕ)) (w bytes : List ℕ) → w ≡ a.waiting → a.failed ≡ false
    → b.failed ≡ true → Appends a.taken between w → TookPart between b.taken bytes → b.broken ≡ true → Given a b bytes
sent_first a b between w bytes same e f first took broken = record {
  by = rw (e, f) (
    record {
      part = w ++ took.part;
      rest = took.rest;
      whole = ap (λ (l : List ℕ). l ++ bytes) (sym same) ∙ ap (λ (l : List ℕ). w ++ l) took.whole
          ∙ sym (append_assoc w took.part took.rest);
      takes = Appends-trans a.taken between b.taken w took.part first took.takes;
    },
    broken,
  );
}
