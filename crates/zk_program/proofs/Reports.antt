-- What a device is given of a report.
use Rattle.std.proofs.Common.{◌≡◌, inl, inr, ℕ, Bool, List, [], true, refl, sym, append-nil, false}
use Rattle.std.proofs.KnownBytes.{Appends-nil}
use Rattle.zk_term.specs.Devices.{Device, Took}
use Rattle.zk_term.specs.LineWriters.{Wrote}
use Rattle.zk_term.proofs.Shown.{took_twice}
use Rattle.zk_program.specs.declared.exit.Exit.{Exit}
use Rattle.zk_program.specs.LastLine.{IsExplained, TookExplained, TookWords, words_line, last_line}

-- a device with a failed write was given any text, and took nothing of it
pub took_past : (a : Device) (text : List ℕ) → a.failed ≡ true → Took a a text
took_past a text e = record {
  part = [];
  rest = text;
  whole = refl;
  takes = Appends-nil a.taken;
  all = λ f. absurd cc;
  none = λ f. refl;
}

-- a report: the words, and then the last line
pub reported : (exit : Exit) (apart : Bool) (a b c : Device) → TookWords apart exit a b
    → Took b c (last_line exit) → TookExplained exit (last_line exit) a c
reported exit apart a b c (inl h) k = inl (took_twice a b c [] (last_line exit) h k)
reported exit apart a b c (inr h) k =
    inr (h.0, (apart, (h.1, took_twice a b c (words_line apart h.1) (last_line exit) h.2 k)))

-- the words alone, where a write has failed
pub cut_off : (exit : Exit) (apart : Bool) (a b : Device) → b.failed ≡ true → TookWords apart exit a b
    → TookExplained exit (last_line exit) a b
cut_off exit apart a b e h = reported exit apart a b b h (took_past b (last_line exit) e)

-- words on an ending that can be explained
pub explained : (exit : Exit) (a b : Device) (apart : Bool) (words : List ℕ) → IsExplained exit
    → Took a b (words_line apart words) → TookWords apart exit a b
explained exit a b apart words h k = inr (h, words, k)

-- a device that had not failed took what was written, or a first part of it where a write has failed
pub took_by : (e : Bool) (a b : Device) (text : List ℕ) → a.failed ≡ false → Wrote e a.taken b.taken text
    → b.failed ≡ e → Took a b text
took_by false a b text sound h same = record {
  part = text;
  rest = [];
  whole = sym (append-nil text);
  takes = h;
  all = λ f. (sound, refl);
  none = λ f. absurd cc;
}
took_by true a b text sound h same = record {
  part = h.part;
  rest = h.rest;
  whole = h.whole;
  takes = h.takes;
  all = λ f. absurd cc;
  none = λ f. absurd cc;
}
