-- What a device takes of bytes that wait, one text after another.
use Rattle.std.proofs.Common.{◌≡◌, ◌∙◌, ℕ, List, [], ◌++◌, Option, true, false, append_assoc, append-nil, sym, refl, ap}
use Rattle.std.proofs.Common.{subst}
use Rattle.std.proofs.KnownBytes.{Appends-nil}
use Rattle.std.specs.Io.KnownBytes.{Appends}
use Rattle.std.specs.Prelude.{encode_utf8_all}
use Rattle.zk_term.specs.Devices.{PassedOn, Sender, Sends, Shows, TookPart}

-- nothing is sent once a write has failed
pub sends_past : (a b : Sender) (s : List ℕ) → a.failed ≡ true → b.failed ≡ true → b.taken ≡ a.taken → Sends a b s
unfolding Sends
sends_past a b s e f same = record {
  part = [];
  rest = a.waiting ++ encode_utf8_all s;
  whole = refl;
  takes = subst (λ (t : Option (List ℕ)). Appends a.taken t []) (sym same) (Appends-nil a.taken);
  all = λ g. absurd cc;
  none = λ g. refl;
}

-- the first of the bytes were taken, and the others wait
pub sends_on : (a b : Sender) (s : List ℕ) → a.failed ≡ false
    → PassedOn a.taken b.taken (a.waiting ++ encode_utf8_all s) b.waiting → Sends a b s
unfolding Sends
sends_on a b s e h = record {
  part = h.part;
  rest = b.waiting;
  whole = h.whole;
  takes = h.takes;
  all = λ g. (e, refl);
  none = λ g. absurd cc;
}

-- a write has failed on the way
pub sends_part : (a b : Sender) (s : List ℕ) → a.failed ≡ false → b.failed ≡ true
    → TookPart a.taken b.taken a.waiting → Sends a b s
unfolding Sends
sends_part a b s e f h = record {
  part = h.part;
  rest = h.rest ++ encode_utf8_all s;
  whole = ap (λ (l : List ℕ). l ++ encode_utf8_all s) h.whole ∙ append_assoc h.part h.rest (encode_utf8_all s);
  takes = h.takes;
  all = λ g. absurd cc;
  none = λ g. absurd cc;
}

-- all that waited was taken
pub sends_all : (a b : Sender) → a.failed ≡ false → Appends a.taken b.taken a.waiting → b.waiting ≡ [] → Sends a b []
unfolding Sends
sends_all a b e h none = record {
  part = a.waiting;
  rest = [];
  whole = refl;
  takes = h;
  all = λ g. (e, sym none);
  none = λ g. absurd cc;
}

-- nothing was to be sent
pub sends_none : (a b : Sender) → (b.failed ≡ false → a.failed ≡ false) → b.taken ≡ a.taken
    → b.waiting ≡ a.waiting → Sends a b []
unfolding Sends
sends_none a b e same waits = record {
  part = [];
  rest = a.waiting;
  whole = append-nil a.waiting;
  takes = subst (λ (t : Option (List ℕ)). Appends a.taken t []) (sym same) (Appends-nil a.taken);
  all = λ g. (e g, sym waits);
  none = λ g. refl;
}

-- what was sent is shown where nothing waits at first, nor at last while no write has failed
pub sends_shows : (a b : Sender) (s : List ℕ) → a.waiting ≡ [] → (b.failed ≡ false → b.waiting ≡ []) → Sends a b s
    → Shows (record { taken = a.taken; failed = a.failed }) (record { taken = b.taken; failed = b.failed }) s
unfolding Sends Shows
sends_shows a b s first last h = record {
  part = h.part;
  rest = h.rest;
  whole = ap (λ (l : List ℕ). l ++ encode_utf8_all s) (sym first) ∙ h.whole;
  takes = h.takes;
  all = λ g. ((h.all g).0, (h.all g).1 ∙ last g);
  none = h.none;
}
