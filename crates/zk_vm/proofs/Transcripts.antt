-- The transcript, character by character.
use Rattle.std.proofs.Common.{◌≡◌, ◌∙◌, ℕ, ◌+◌, ◌-◌, ◌*◌, ◌<◌, ◌≤◌, List, [], ◌∷◌, ◌++◌, length, take, get_or, Bool}
use Rattle.std.proofs.Common.{true, false, Result, Ok, Err, nat_lt, sym, ap, arith, append-nil, append_assoc}
use Rattle.std.proofs.Common.{length-append}
use Rattle.std.specs.Prelude.{if◌then◌else◌}
use Rattle.std.proofs.lemmas.List.{take_more, map-append, length-take}
use Rattle.zk_mem.specs.declared.fault.Fault.{Fault}
use Rattle.zk_mem.specs.Map.{MemoryMap, byte_at}
use Rattle.zk_mem.specs.Results.{◌>>=◌}
use Rattle.zk_text.specs.declared.shown.Shown.{Shown}
use Rattle.zk_text.specs.declared.shown.Shown.TheVariants.{Nothing, One, TwoSpaces}
use Rattle.zk_text.specs.declared.unit.Unit.TheVariants.{Code}
use Rattle.zk_text.specs.Extra.{ExtraTable}
use Rattle.zk_text.specs.Shown.{shown, shown_all, characters_shown}
use Rattle.zk_text.proofs.ShownLemmas.{shown_all-append, shown_all-one}
use Rattle.zk_step.specs.Routing.{Signals, on_script}
use Rattle.zk_step.specs.Status.{code_units}
use Rattle.zk_term.specs.Signals.Signal.{Script}
use Rattle.zk_step.specs.TextBuffers.{early_kept, later_kept, is_filled, kept_of}

-- one more character
pub next_shown : {S : Type 0} (shows : S → S → Signals → Type 0) (twice : (a b c : S) (s t : Signals)
    → shows a b s → shows b c t → shows a c (s ++ t))
    (old now new : S) (cs : List ℕ) (i c : ℕ) → i < length cs → c ≡ get_or cs i c
    → shows old now (on_script (take i cs))
    → shows now new (on_script (c ∷ [])) → shows old new (on_script (take (i + 1) cs))
next_shown {S} shows twice old now new cs i c lt is h one =
    let more : on_script (take (i + 1) cs) ≡ on_script (take i cs) ++ on_script (c ∷ []) =
    ap on_script (take_more cs i c lt ∙ ap (λ (x : ℕ). take i cs ++ x ∷ []) (sym is))
    ∙ map-append Script (take i cs) (c ∷ []) in
    rw more (twice old now new _ _ h one)

-- ---- the characters of a line

pub none_shown : (a b : List ℕ) (s : Shown) → s ≡ Nothing → b ≡ a → b ≡ a ++ characters_shown s
none_shown a b s e h = rw (e, append-nil a) h

pub one_shown : (a b : List ℕ) (c : ℕ) (s : Shown) → s ≡ One c → b ≡ a ++ c ∷ [] → b ≡ a ++ characters_shown s
one_shown a b c s e h = rw e h

pub two_shown : (a m b : List ℕ) (s : Shown) → s ≡ TwoSpaces → m ≡ a ++ 32 ∷ [] → b ≡ m ++ 32 ∷ []
    → b ≡ a ++ characters_shown s
two_shown a m b s e h k = rw e (k ∙ ap (λ (x : List ℕ). x ++ 32 ∷ []) h ∙ append_assoc a (32 ∷ []) (32 ∷ []))

at_most_two : (s : Shown) → length (characters_shown s) ≤ 2
at_most_two Nothing = omega arith
at_most_two (One c) = omega arith
at_most_two TwoSpaces = omega arith

-- a code more
pub codes_next : (t : ExtraTable) (codes : List ℕ) (i : ℕ) (before after : List ℕ) (s : Shown) → i < length codes
    → before ≡ shown_all t (code_units (take i codes)) → length before ≤ 2 * i
    → characters_shown s ≡ shown t (Code (get_or codes i 0)) → after ≡ before ++ characters_shown s
    → (after ≡ shown_all t (code_units (take (i + 1) codes))) × (length after ≤ 2 * (i + 1))
codes_next t codes i before after s lt value few shows grown =
    let more : code_units (take (i + 1) codes) ≡ code_units (take i codes) ++ Code (get_or codes i 0) ∷ []
    = ap code_units (take_more codes i 0 lt) ∙ map-append (λ (c : ℕ). Code c) (take i codes) (get_or codes i 0 ∷ []) in
    let all : shown_all t (code_units (take (i + 1) codes)) ≡ shown_all t (code_units (take i codes))
    ++ shown t (Code (get_or codes i 0))
    = ap (shown_all t) more ∙ shown_all-append t (code_units (take i codes)) (Code (get_or codes i 0) ∷ [])
    ∙ ap (λ (x : List ℕ). shown_all t (code_units (take i codes)) ++ x) (shown_all-one t (Code (get_or codes i 0))) in
    let two = at_most_two s in
    let long : length after ≡ length before + length (characters_shown s) = ap length grown
    ∙ length-append before (characters_shown s) in (
      grown ∙ ap (λ (x : List ℕ). x ++ characters_shown s) value
          ∙ ap (λ (x : List ℕ). shown_all t (code_units (take i codes)) ++ x) shows ∙ sym all,
      omega arith,
    )

-- what a text buffer takes of a line is no longer than the line
taken_short : (n : ℕ) (line kept : List ℕ) → ◌≡◌ {A = Result (List ℕ) Fault} (Ok (take n line)) (Ok kept)
    → length kept ≤ length line
taken_short n line kept h =
    let same : take n line ≡ kept = cc in
    let short : length (take n line) ≤ length line = rw length-take (omega arith) in
    rw (← same) short

kept_early : (r : Result ℕ Fault) (line kept : List ℕ) → (r >>= λ size. Ok (early_kept size line)) ≡ Ok kept
    → length kept ≤ length line
kept_early (Ok size) line kept h = taken_short (size - 1) line kept h
kept_early (Err f) line kept h = absurd cc

kept_filled : (b : Bool) (n : ℕ) (line kept : List ℕ) → ◌≡◌ {A = Result (List ℕ) Fault}
    (Ok (if b then [] else take n line)) (Ok kept) → length kept ≤ length line
kept_filled true n line kept h = let same : kept ≡ [] = cc in rw same (omega arith)
kept_filled false n line kept h = taken_short n line kept h

kept_count : (r : Result ℕ Fault) (size : ℕ) (line kept : List ℕ)
    → (r >>= λ count. Ok (later_kept size count line)) ≡ Ok kept → length kept ≤ length line
kept_count (Ok count) size line kept h = kept_filled (is_filled size count) (size - count) line kept h
kept_count (Err f) size line kept h = absurd cc

kept_later : (r s : Result ℕ Fault) (line kept : List ℕ)
    → (r >>= λ size. s >>= λ count. Ok (later_kept size count line)) ≡ Ok kept → length kept ≤ length line
kept_later (Ok size) s line kept h = kept_count s size line kept h
kept_later (Err f) s line kept h = absurd cc

pub kept_short : (m : MemoryMap) (text : ℕ) (line kept : List ℕ) → kept_of m text line ≡ Ok kept
    → length kept ≤ length line
unfolding kept_of
kept_short m text line kept h = go (nat_lt m.version 5) h
  where
    go : (b : Bool) → (if b then (byte_at m text >>= λ size. Ok (early_kept size line))
        else (byte_at m text >>= λ size. byte_at m (text + 1) >>= λ count. Ok (later_kept size count line))) ≡ Ok
        kept → length kept ≤ length line
    go true k = kept_early (byte_at m text) line kept k
    go false k = kept_later (byte_at m text) (byte_at m (text + 1)) line kept k
