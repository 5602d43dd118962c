-- What a target that wraps a text has given the target behind it.
use Rattle.std.specs.Prelude.{◌≡◌, ◌⊎◌, ℕ, List, [], ◌++◌, Option, Some, None, Result, Ok, Err, take}
use Rattle.std.specs.Io.KnownBytes.{Appends}
use Rattle.zk_term.specs.declared.open_line.Line.{Line}
use Rattle.zk_term.specs.Devices.{TookPart}
use Rattle.zk_term.specs.OpenLines.{IsOpen, kind_after, rest_of_text}
use Rattle.zk_term.specs.Wrapping.{wrapped}

-- the width of the lines, where there is one
abbrev pub width_of : Option Line → Option ℕ
width_of None = None
width_of (Some line) = Some line.width

-- a text that begins a line, as it is shown
abbrev pub from_a_line : Option ℕ → List ℕ → List ℕ
from_a_line None text = text
from_a_line (Some width) text = wrapped width text

-- A text that goes on in the open line, as it is shown: a word of which something has gone out stays in the line, and
-- one behind a space that has gone out begins a new line where it does not fit.
abbrev pub in_open_line : Option Line → List ℕ → List ℕ
in_open_line None text = text
in_open_line (Some line) text = rest_of_text line text

-- a text as the target behind takes it, by how it is shown where it is wrapped
abbrev pub passed : Option Line → (List ℕ → List ℕ) → List ℕ → List ℕ
passed None shown text = text
passed (Some line) shown text = shown text

-- the bytes that were taken: they are not told where they are wrapped, since the target behind takes another text
abbrev pub told : Option Line → Option (List ℕ) → Option (List ℕ)
told None taken = taken
told (Some line) taken = None

-- nothing is held back
abbrev pub HoldsNothing : Option Line → Type 0
HoldsNothing None = Unit {0}
HoldsNothing (Some line) = line.held.items ≡ []

-- An open line has given out what it held back, and goes on: it has as many columns left, and a word after a space may
-- still begin a new line. Where that failed, it may go on as before.
abbrev pub StaysOpen : {E : Type 0} → Result (Unit {0}) E → Option Line → Option Line → Type 0
StaysOpen result None new = new ≡ None
StaysOpen result (Some line) None = ⊥
StaysOpen (Ok all) (Some old) (Some new) =
    (new.width ≡ old.width) × (new.room ≡ old.room) × (new.kind ≡ kind_after old.kind old.held.items)
StaysOpen (Err e) (Some old) (Some new) =
    (new.width ≡ old.width) × (new.room ≡ old.room)
    × ((new.kind ≡ old.kind) ⊎ (new.kind ≡ kind_after old.kind old.held.items))

-- A text was written since the target behind had taken what it had at the start: by now it has taken the text too, or a
-- first part of it as it is shown, of which the open line holds back the rest.
abbrev pub HasWritten :
    (List ℕ → List ℕ) → Option (List ℕ) → List ℕ → Option Line → Option (List ℕ) → Type 0
HasWritten shown start text None now = Appends start now text
HasWritten shown start text (Some line) now =
    (out : List ℕ) × IsOpen shown line text out × Appends start now out

-- A target that wraps took bytes of a text, as many as it answers, and the text goes on with them; or a write failed,
-- and the target behind has taken a first part of what is passed on.
abbrev pub HasTaken :
    {E : Type 0} → Option Line → Option Line → Option (List ℕ) → Option (List ℕ) → Result ℕ E
    → List ℕ → Type 0
HasTaken old new before after (Ok n) bytes =
    (shown : List ℕ → List ℕ) (start : Option (List ℕ)) (text : List ℕ)
    → HasWritten shown start text old before → HasWritten shown start (text ++ take n bytes) new after
HasTaken old new before after (Err e) bytes =
    (shown : List ℕ → List ℕ) (start : Option (List ℕ)) (text : List ℕ)
    → HasWritten shown start text old before → TookPart start after (passed old shown (text ++ bytes))

-- Nothing of a text is held back any more, and the target behind has taken all that is passed on of it; or a write
-- failed, and it has taken a first part.
abbrev pub HasFlushed :
    {E : Type 0} → Option Line → Option (List ℕ) → Option (List ℕ) → Result (Unit {0}) E → Type 0
HasFlushed old before after (Ok all) =
    (shown : List ℕ → List ℕ) (start : Option (List ℕ)) (text : List ℕ)
    → HasWritten shown start text old before → Appends start after (passed old shown text)
HasFlushed old before after (Err e) =
    (shown : List ℕ → List ℕ) (start : Option (List ℕ)) (text : List ℕ)
    → HasWritten shown start text old before → TookPart start after (passed old shown text)
