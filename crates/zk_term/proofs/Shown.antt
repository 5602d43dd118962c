-- What a device takes, one text after another.
use Rattle.std.proofs.Common.{◌≡◌, ◌∙◌, ℕ, List, [], ◌++◌, Option, Bool, true, false, append_assoc, append-nil, sym}
use Rattle.std.proofs.Common.{refl, ap, subst}
use Rattle.std.proofs.lemmas.Str.{encodes-append}
use Rattle.std.proofs.KnownBytes.{Appends-nil, Appends-trans}
use Rattle.std.specs.Io.KnownBytes.{Appends}
use Rattle.std.specs.Prelude.{encode_utf8_all}
use Rattle.zk_term.specs.Devices.{Device, Took, TookPart, Shows}

-- by whether a write has failed in between
took_by : (x : Bool) (a b c : Device) (s t : List ℕ) → b.failed ≡ x → Took a b s → Took b c t → Took a c (s ++ t)
took_by false a b c s t e h k =
    let first : s ≡ h.part = h.whole ∙ ap (λ l. h.part ++ l) (h.all e).1 ∙ append-nil h.part in
    record {
      part = h.part ++ k.part;
      rest = k.rest;
      whole = ap (λ l. l ++ t) first ∙ ap (λ l. h.part ++ l) k.whole ∙ sym (append_assoc h.part k.part k.rest);
      takes = Appends-trans a.taken b.taken c.taken h.part k.part h.takes k.takes;
      all = λ f. ((h.all e).0, (k.all f).1);
      none = λ f. let sound = (h.all e).0 in absurd cc;
    }
took_by true a b c s t e h k =
    let both = Appends-trans a.taken b.taken c.taken h.part k.part h.takes k.takes in
    record {
      part = h.part;
      rest = h.rest ++ t;
      whole = ap (λ l. l ++ t) h.whole ∙ append_assoc h.part h.rest t;
      takes = rw (k.none e, append-nil) at both;
      all = λ f. let sound = (k.all f).0 in absurd cc;
      none = h.none;
    }

pub took_twice : (a b c : Device) (s t : List ℕ) → Took a b s → Took b c t → Took a c (s ++ t)
took_twice a b c s t h k = took_by b.failed a b c s t refl h k

pub took_nothing : (a : Device) → Took a a []
took_nothing a = record {
  part = [];
  rest = [];
  whole = refl;
  takes = Appends-nil a.taken;
  all = λ f. (f, refl);
  none = λ f. refl;
}

pub shows_twice : (a b c : Device) (s t : List ℕ) → Shows a b s → Shows b c t → Shows a c (s ++ t)
unfolding Shows
shows_twice a b c s t h k = rw (encodes-append s t) (took_twice a b c (encode_utf8_all s) (encode_utf8_all t) h k)

pub shows_nothing : (a : Device) → Shows a a []
unfolding Shows
shows_nothing a = took_nothing a

-- nothing is shown once a write has failed
pub shows_past : (a b : Device) (s : List ℕ) → a.failed ≡ true → b.failed ≡ true → b.taken ≡ a.taken → Shows a b s
unfolding Shows
shows_past a b s e f same = record {
  part = [];
  rest = encode_utf8_all s;
  whole = refl;
  takes = subst (λ (t : Option (List ℕ)). Appends a.taken t []) (sym same) (Appends-nil a.taken);
  all = λ g. absurd cc;
  none = λ g. refl;
}

-- all was written
pub shows_all : (a b : Device) (s : List ℕ) → a.failed ≡ false → Appends a.taken b.taken (encode_utf8_all s)
    → Shows a b s
unfolding Shows
shows_all a b s e h = record {
  part = encode_utf8_all s;
  rest = [];
  whole = sym (append-nil (encode_utf8_all s));
  takes = h;
  all = λ g. (e, refl);
  none = λ g. absurd cc;
}

-- a write has failed in between
pub shows_part : (a b : Device) (s : List ℕ) → a.failed ≡ false → b.failed ≡ true
    → TookPart a.taken b.taken (encode_utf8_all s) → Shows a b s
unfolding Shows
shows_part a b s e f h = record {
  part = h.part;
  rest = h.rest;
  whole = h.whole;
  takes = h.takes;
  all = λ g. absurd cc;
  none = λ g. absurd cc;
}

-- nothing was to be shown
pub shows_none : (a b : Device) → (b.failed ≡ false → a.failed ≡ false) → b.taken ≡ a.taken → Shows a b []
unfolding Shows
shows_none a b e same = record {
  part = [];
  rest = [];
  whole = refl;
  takes = subst (λ (t : Option (List ℕ)). Appends a.taken t []) (sym same) (Appends-nil a.taken);
  all = λ g. (e g, refl);
  none = λ g. refl;
}
