-- The lines of an input.
use Rattle.std.specs.Prelude.{◌≡◌, ◌⊎◌, ◌<◌, ℕ, Bool, true, false, List, [], ◌∷◌, ◌++◌, length, Option, Some, None}
use Rattle.std.specs.Prelude.{Result, Ok, Err, nat_lt, nat_eq, if◌then◌else◌}
use Rattle.std.specs.List.{list_all, slice_split, AllByRecursion, concat}
use Rattle.std.specs.Str.Lines.{lines_of_parts, strip_carriage_return}
use Rattle.arrayvec.specs.ArrayVec.{ArrayVec}
use Rattle.zk_text.specs.Extra.{ExtraTable, is_input_code}
use Rattle.zk_term.specs.declared.lines.InputEnd.{InputEnd}
use Rattle.zk_term.specs.declared.lines.InputEnd.TheVariants as over
use Rattle.zk_term.specs.declared.lines.Input.{Input}
use Rattle.zk_term.specs.declared.lines.Input.TheVariants as input
use Rattle.zk_term.specs.Characters.{line_codes}
use Rattle.zk_term.specs.Devices.{HasJust}

-- what can be read of an input: its lines, and how it is over after them
pub record Heard : Type 0 where
  pub lines : List (List ℕ)
  pub over : InputEnd

-- the byte of a new line
abbrev pub is_new_line : ℕ → Bool
is_new_line b = nat_eq b 10

-- fewer than 65,536 bytes stand between two new lines
abbrev pub is_short : List ℕ → Bool
is_short part = nat_lt (length part) 65536

-- the parts before the first that is not short
unfoldable pub while_short : List (List ℕ) → List (List ℕ)
while_short [] = []
while_short (part ∷ parts) = if is_short part then part ∷ while_short parts else []

-- The lines in the parts between new lines: an empty last part is no line, and a part before a new line loses a
-- return at its end. A part that is not short can't be read, nor can what is after it.
abbrev pub heard_in : List (List ℕ) → Heard
heard_in parts =
    if list_all is_short parts
    then record { lines = lines_of_parts parts; over = over.End }
    else record { lines = lines_of_parts (while_short parts ++ [] ∷ []); over = over.Failed }

-- what can be read of the bytes of an input
unfoldable pub heard : List ℕ → Heard
heard bytes = heard_in (slice_split is_new_line bytes)

-- a line and what can be read after it
abbrev pub behind : List ℕ → Heard → Heard
behind line h = record { lines = line ∷ h.lines; over = h.over }

-- nothing more can be read
abbrev pub nothing_more : InputEnd → Heard
nothing_more o = record { lines = []; over = o }

-- ---- reading line by line

-- where a reader of lines stands: bytes that it has taken from its source and not given yet, and how the input is
-- over, if it is
pub record Reading : Type 0 where
  pub ahead : List ℕ
  pub over : Option InputEnd

-- the answer where an input is over
abbrev pub over_input : InputEnd → Input
over_input over.End = input.End
over_input over.Failed = input.Failed

-- how the input is over after an answer: after a line it goes on, unless the line was the last
abbrev pub IsOverAfter : Input → Option InputEnd → Type 0
IsOverAfter (input.Line codes) how = (how ≡ None) ⊎ (how ≡ Some over.End)
IsOverAfter input.End how = how ≡ Some over.End
IsOverAfter input.Failed how = how ≡ Some over.Failed

-- no byte of a line is a new line
abbrev pub IsPlain : List ℕ → Type 0
IsPlain line = AllByRecursion (λ b. is_new_line b ≡ false) line

-- a line that a new line ends comes first, without a return before that
pub record IsEndedLine (bytes later line : List ℕ) : Type 0 where
  pub part : List ℕ
  pub whole : bytes ≡ part ++ 10 ∷ later
  pub plain : IsPlain part
  pub short : is_short part ≡ true
  pub is : line ≡ strip_carriage_return part

-- a line is all that comes, with no new line at its end
pub record IsLastLine (bytes later line : List ℕ) : Type 0 where
  pub whole : bytes ≡ line
  pub some : 0 < length line
  pub plain : IsPlain line
  pub short : is_short line ≡ true
  pub none : later ≡ []

-- a line comes first, and the input goes on or is over after it
abbrev pub IsNextLine : List ℕ → List ℕ → List ℕ → Option InputEnd → Type 0
IsNextLine bytes later line how =
    (IsEndedLine bytes later line × (how ≡ None)) ⊎ (IsLastLine bytes later line × (how ≡ Some over.End))

-- a read failed in a line: a part of the line had come, with no new line, and this is what comes later
pub record BreaksOff (bytes later : List ℕ) : Type 0 where
  pub part : List ℕ
  pub whole : bytes ≡ part ++ later
  pub plain : IsPlain part
  pub short : is_short part ≡ true

-- too many bytes came without a new line: just so many were taken, and this is what comes later
pub record IsTooLong (bytes later : List ℕ) : Type 0 where
  pub part : List ℕ
  pub whole : bytes ≡ part ++ later
  pub plain : IsPlain part
  pub long : length part ≡ 65536

-- ---- what reads give

-- reads gave these bytes each, one after another
abbrev pub AreGiven : {S : Type 0} → (S → S → List ℕ → Type 0) → S → S → List (List ℕ) → Type 0
AreGiven {S} gives before after [] = after ≡ before
AreGiven {S} gives before after (part ∷ parts) = (mid : S) × (gives before mid part × AreGiven gives mid after parts)

-- the last of some reads, and those before it
pub record Reads {S : Type 0} (gives : S → S → List ℕ → Type 0) (before after : S) : Type 0 where
  pub parts : List (List ℕ)
  pub mid : S
  pub given : AreGiven gives before mid parts
  pub last : List ℕ
  pub gave : gives mid after last

-- Bytes were taken of what was read ahead, and of what more reads gave, of which none was made in vain: the last of
-- them gave at least one of the bytes.
abbrev pub Takes : {S : Type 0} → (S → S → List ℕ → Type 0) → S → S → List ℕ → List ℕ → List ℕ → Type 0
Takes {S} gives before after ahead ahead' bytes =
    ((after ≡ before) × (ahead ≡ bytes ++ ahead'))
    ⊎ ((r : Reads gives before after) × ((ahead ++ (concat r.parts ++ r.last) ≡ bytes ++ ahead')
    × (length ahead' < length r.last)))

-- so many bytes were taken, and none of them is a new line
pub record TakesPlain {S : Type 0} (gives : S → S → List ℕ → Type 0) (before after : S) (ahead ahead' : List ℕ)
    (count : ℕ) : Type 0 where
  pub bytes : List ℕ
  pub taken : Takes gives before after ahead ahead' bytes
  pub plain : IsPlain bytes
  pub many : length bytes ≡ count

-- a line was taken, up to its new line, of what was read ahead and of what more reads gave, and these are its codes
pub record TakesLine {S : Type 0} (gives : S → S → List ℕ → Type 0) (before after : S) (ahead ahead' : List ℕ)
    (t : ExtraTable) (codes : List ℕ) : Type 0 where
  pub part : List ℕ
  pub taken : Takes gives before after ahead ahead' (part ++ 10 ∷ [])
  pub plain : IsPlain part
  pub short : is_short part ≡ true
  pub is : codes ≡ line_codes t (strip_carriage_return part)

-- so it is with an answer after which the input goes on
abbrev pub TakesAnswer : {S : Type 0} → (S → S → List ℕ → Type 0) → S → S → List ℕ → List ℕ → ExtraTable
    → Input → Type 0
TakesAnswer {S} gives before after ahead ahead' t (input.Line codes) =
    TakesLine gives before after ahead ahead' t codes.items
TakesAnswer {S} gives before after ahead ahead' t _ = Unit {0}

-- a line is too long, whether its source tells its bytes or not
abbrev pub MeetsBound : {S : Type 0} → (S → S → List ℕ → Type 0) → S → S → Reading → Reading → Type 0
MeetsBound {S} gives before after r r' = TakesPlain gives before after r.ahead r'.ahead 65536

-- one byte was taken: of what was read ahead, or of a read where there was nothing
abbrev pub TakesByte : {S : Type 0} → (S → S → List ℕ → Type 0) → S → S → List ℕ → List ℕ → ℕ → Type 0
TakesByte {S} gives before after ahead ahead' b =
    ((after ≡ before) × (ahead ≡ b ∷ ahead')) ⊎ ((ahead ≡ []) × gives before after (b ∷ ahead'))

-- the last that a source did was a read that failed, and its reader has no byte read ahead
pub record ReadFailed {S : Type 0} (fails : S → S → Type 0) (failed : S → Bool) (source : S)
    (reading : Reading) : Type 0 where
  pub just : HasJust fails source
  pub stays : failed source ≡ true
  pub none : reading.ahead ≡ []

-- an answer is what comes next of the bytes from here on, before those that come later; where a line is not there
-- either a read has failed, or none has failed and too many bytes came
abbrev pub Hears : ExtraTable → List ℕ → List ℕ → Option InputEnd → Type 0 → Type 0 → Input → Type 0
Hears t bytes later how failed sound (input.Line codes) =
    (line : List ℕ) × IsNextLine bytes later line how × (codes.items ≡ line_codes t line)
Hears t bytes later how failed sound input.End = (bytes ≡ []) × (later ≡ [])
Hears t bytes later how failed sound input.Failed = (failed × BreaksOff bytes later) ⊎ (sound × IsTooLong bytes later)

-- the codes of an answer are codes that may be typed
abbrev pub HasInputCodes : Input → Type 0
HasInputCodes (input.Line codes) = AllByRecursion (λ c. is_input_code c ≡ true) codes.items
HasInputCodes _ = Unit {0}

-- a read has failed at an answer Failed alone, where the line is not too long, and else none has
abbrev pub FailsAlone : Type 0 → Type 0 → Type 0 → Input → Type 0
FailsAlone failed sound too_long input.Failed = failed ⊎ (sound × too_long)
FailsAlone failed sound too_long _ = sound

-- ---- one step of it

-- a line's bytes are heard next, or how the input is over: those kept have the line's codes
abbrev pub HearsBytes : List ℕ → List ℕ → Option InputEnd → Type 0 → Type 0 → Result (ArrayVec ℕ) InputEnd → Type 0
HearsBytes bytes later how failed sound (Ok kept) = (line : List ℕ) × IsNextLine bytes later line how
    × ((t : ExtraTable) → line_codes t kept.items ≡ line_codes t line)
HearsBytes bytes later how failed sound (Err over.End) = (bytes ≡ []) × (later ≡ [])
HearsBytes bytes later how failed sound (Err over.Failed) =
    (failed × BreaksOff bytes later) ⊎ (sound × IsTooLong bytes later)

-- a reader and its source, which tells its bytes or not, give some bytes
abbrev pub Gives : Reading → Option (List ℕ) → Reading → Option (List ℕ) → List ℕ → Type 0
Gives r left r' left' given = (bytes : List ℕ) → left ≡ Some bytes → (later : List ℕ) × (left' ≡ Some later)
    × (r.ahead ++ bytes ≡ given ++ (r'.ahead ++ later))

-- a step of theirs gives bytes, or none at the end
abbrev pub GivesEach : {X : Type 0} → (X → List ℕ) → Reading → Option (List ℕ) → Reading → Option (List ℕ)
    → Result X InputEnd → Type 0
GivesEach given r left r' left' (Ok x) = Gives r left r' left' (given x)
GivesEach given r left r' left' (Err over.End) =
    Gives r left r' left' [] × ((bytes : List ℕ) → left ≡ Some bytes → r.ahead ++ bytes ≡ [])
GivesEach given r left r' left' (Err over.Failed) = Gives r left r' left' []

-- they give a line, of which these bytes are kept, or how the input is over
abbrev pub GivesLine : Reading → Option (List ℕ) → Reading → Option (List ℕ) → Type 0 → Type 0
    → Result (ArrayVec ℕ) InputEnd → Type 0
GivesLine r left r' left' failed sound result = (bytes : List ℕ) → left ≡ Some bytes
    → (later : List ℕ) × (left' ≡ Some later) × HearsBytes (r.ahead ++ bytes) (r'.ahead ++ later) r'.over failed
    sound result

-- what holds of the source after a step, by how it has gone
abbrev pub GoesBy : {X : Type 0} → Type 0 → Type 0 → Type 0 → Result X InputEnd → Type 0
GoesBy failed ended sound (Ok x) = sound
GoesBy failed ended sound (Err over.End) = ended × sound
GoesBy failed ended sound (Err over.Failed) = failed

-- ---- laws

-- the lines that new lines end, among the parts between these: all but the last part
unfoldable pub ended_in : List (List ℕ) → List (List ℕ)
ended_in [] = []
ended_in (part ∷ []) = []
ended_in (part ∷ next ∷ parts) = strip_carriage_return part ∷ ended_in (next ∷ parts)

-- the lines of an input that are complete, each with its new line
unfoldable pub ended_lines : List ℕ → List (List ℕ)
ended_lines bytes = ended_in (slice_split is_new_line bytes)

-- The beginnings of an input, and of its complete lines: a line and its new line, with a return before that or not; a
-- last line without one; no bytes; and too many bytes without a new line.
pub record AreLines : Type 0 where
  pub ended : (line rest : List ℕ) → IsPlain line → nat_lt (length line) 65536 ≡ true
      → heard (line ++ 10 ∷ rest) ≡ behind (strip_carriage_return line) (heard rest)
  pub last : (b : ℕ) (line : List ℕ) → IsPlain (b ∷ line) → nat_lt (length (b ∷ line)) 65536 ≡ true
      → heard (b ∷ line) ≡ behind (b ∷ line) (nothing_more over.End)
  pub none : heard [] ≡ nothing_more over.End
  pub complete : (line rest : List ℕ) → IsPlain line → ended_lines (line ++ 10 ∷ rest) ≡ strip_carriage_return
      line ∷ ended_lines rest
  pub cut_off : (line : List ℕ) → IsPlain line → ended_lines line ≡ []
  pub too_long : (line rest : List ℕ) → IsPlain line → length line ≡ 65536
      → heard (line ++ rest) ≡ nothing_more over.Failed

-- bytes are none, or end with a new line
abbrev pub EndsWhole : List ℕ → Type 0
EndsWhole taken = (taken ≡ []) ⊎ ((front : List ℕ) × (taken ≡ front ++ 10 ∷ []))

-- a source has given these complete lines, one read after another, and more is read ahead
abbrev pub GaveLines : {S : Type 0} → (S → S → List ℕ → Type 0) → S → S → List (List ℕ) → List ℕ → Type 0
GaveLines {S} gives before after lines ahead =
    (parts : List (List ℕ)) × (AreGiven gives before after parts
    × ((taken : List ℕ) × ((concat parts ≡ taken ++ ahead) × (ended_lines taken ≡ lines) × EndsWhole taken)))

-- A source has given no lines at first, and one more after each line that is taken.
pub record LinesAreGiven {S : Type 0} (gives : S → S → List ℕ → Type 0) : Type 0 where
  pub none : (a : S) → GaveLines gives a a [] []
  pub more : (a b c : S) (lines : List (List ℕ)) (ahead ahead' part : List ℕ) → GaveLines gives a b lines ahead
      → Takes gives b c ahead ahead' (part ++ 10 ∷ []) → IsPlain part
      → GaveLines gives a c (lines ++ strip_carriage_return part ∷ []) ahead'
