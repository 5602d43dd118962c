-- What a target took of a text that is wrapped.
use Rattle.std.proofs.Common.{◌≡◌, ◌∙◌, ℕ, List, [], ◌++◌, Option, Some, None, append_assoc, append-nil, sym, ap}
use Rattle.std.proofs.KnownBytes.{Appends-trans}
use Rattle.std.specs.Io.KnownBytes.{Appends}
use Rattle.zk_term.specs.declared.open_line.Line.{Line}
use Rattle.zk_term.specs.Devices.{TookPart}
use Rattle.zk_term.specs.OpenLines.{IsOpen}
use Rattle.zk_term.specs.WrappedTargets.{HasWritten, passed}

-- what goes out at bytes, whatever the text before them was
abbrev pub GoesOut : Line → Line → List ℕ → List ℕ → Type 0
GoesOut old new bytes more = (shown : List ℕ → List ℕ) (text out : List ℕ) → IsOpen shown old text out
    → IsOpen shown new (text ++ bytes) (out ++ more)

-- all of it was taken
pub written_on : (shown : List ℕ → List ℕ) (old new : Line) (start before after : Option (List ℕ))
    (text bytes more : List ℕ) → GoesOut old new bytes more → Appends before after more
    → HasWritten shown start text (Some old) before → HasWritten shown start (text ++ bytes) (Some new) after
written_on shown old new start before after text bytes more goes takes h =
    (h.0 ++ more, goes shown text h.0 h.1, Appends-trans start before after h.0 more h.2 takes)

-- a first part of it was taken
pub written_part : (shown : List ℕ → List ℕ) (old new : Line) (start before after : Option (List ℕ))
    (text bytes more : List ℕ) → GoesOut old new bytes more → TookPart before after more
    → HasWritten shown start text (Some old) before → TookPart start after (shown (text ++ bytes))
written_part shown old new start before after text bytes more goes took h =
    let k = goes shown text h.0 h.1 in record {
      part = h.0 ++ took.part;
      rest = took.rest ++ new.held.items;
      whole = k.whole
          ∙ ap (λ l. (h.0 ++ l) ++ new.held.items) took.whole
          ∙ ap (λ l. l ++ new.held.items) (sym (append_assoc h.0 took.part took.rest))
          ∙ append_assoc (h.0 ++ took.part) took.rest new.held.items;
      takes = Appends-trans start before after h.0 took.part h.2 took.takes;
    }

-- ---- what was held back goes out

-- all of it was taken
pub ended : (shown : List ℕ → List ℕ) (line : Option Line) (is : Line) (start before after : Option (List ℕ))
    (text : List ℕ) → line ≡ Some is → HasWritten shown start text line before → Appends before after is.held.items
    → Appends start after (passed line shown text)
ended shown line is start before after text e h takes =
    let k = rw e at h in
    rw (e, k.1.whole) (Appends-trans start before after k.0 is.held.items k.2 takes)

-- a first part of it was taken
pub ended_part : (shown : List ℕ → List ℕ) (line : Option Line) (is : Line) (start before after : Option (List ℕ))
    (text : List ℕ) → line ≡ Some is → HasWritten shown start text line before → TookPart before after is.held.items
    → TookPart start after (passed line shown text)
ended_part shown line is start before after text e h took =
    let k = rw e at h in
    rw e (record {
      part = k.0 ++ took.part;
      rest = took.rest;
      whole = k.1.whole ∙ ap (λ l. k.0 ++ l) took.whole ∙ sym (append_assoc k.0 took.part took.rest);
      takes = Appends-trans start before after k.0 took.part k.2 took.takes;
    })

-- there is no width, and nothing was held back
pub ended_none : (shown : List ℕ → List ℕ) (line : Option Line) (start now : Option (List ℕ)) (text : List ℕ)
    → line ≡ None → HasWritten shown start text line now → Appends start now (passed line shown text)
ended_none shown line start now text e h = let k = rw e at h in rw e k

-- all of a text is a first part of it
pub all_is_part : (start now : Option (List ℕ)) (text : List ℕ) → Appends start now text → TookPart start now text
all_is_part start now text h = record { part = text; rest = []; whole = sym (append-nil text); takes = h }
