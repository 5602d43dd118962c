-- One character is collected, or lost.
use Rattle.std.specs.Prelude.{encode_utf8, encode_utf8_all, None, bit_or, if◌then◌else◌}
use Rattle.std.proofs.Common.{◌≡◌, ◌∙◌, ◌≤◌, ◌<◌, ◌+◌, ◌-◌, ◌||◌, ◌⊎◌, inl, inr, nat_le, ℕ, Bool, true, false, List, []}
use Rattle.std.proofs.Common.{◌∷◌, ◌++◌, Option, Some, length, sym, refl, ap, subst, append-nil, arith}
use Rattle.std.proofs.lemmas.Bool.{cases_lt, le-leb, lt-leb}
use Rattle.std.proofs.lemmas.List.{length-append}
use Rattle.std.proofs.lemmas.Str.{len_utf8_bounds, length-encode}
use Rattle.std.proofs.KnownBytes.{Appends-nil}
use Rattle.std.specs.Io.KnownBytes.{Appends}
use Rattle.zk_term.specs.Devices.{Sender, Sends, TookPart}
use Rattle.zk_host.specs.declared.collected.Collected.{Collected}
use Rattle.zk_host.specs.Collecting.{Collects, CollectsTexts, is_lost, most_past_room, texts_nothing, waiting_of}
use Rattle.zk_host.specs.Marks.{Marks, marked, marked_by, marked_if, marks_in}
use Rattle.zk_term.specs.Signals.{script_in, text_in, Signal, screen_text, script_text}
use Rattle.zk_term.specs.Signals.Signal.{Script, Text}
use Rattle.zk_term.specs.declared.style.Style.{Style}
use Rattle.zk_host.specs.Texts.{Unread}

-- ---- one device

one : (c : ℕ) → encode_utf8_all (c ∷ []) ≡ encode_utf8 c
one c = append-nil (encode_utf8 c)

-- nothing of a text was taken, since text is lost
sent_none : (a b : Sender) (s : List ℕ) → a.waiting ≡ [] → b.failed ≡ true → b.taken ≡ a.taken → Sends a b s
unfolding Sends
sent_none a b s waits lost same = record {
  part = [];
  rest = encode_utf8_all s;
  whole = ap (λ (w : List ℕ). w ++ encode_utf8_all s) waits;
  takes = subst (λ (t : Option (List ℕ)). Appends a.taken t []) (sym same) (Appends-nil a.taken);
  all = λ f. absurd cc;
  none = λ f. refl;
}

-- nothing was to be sent
sent_nothing : (a b : Sender) → a.waiting ≡ [] → b.waiting ≡ [] → a.failed ≡ false → b.taken ≡ a.taken → Sends a b []
unfolding Sends
sent_nothing a b waits none works same = record {
  part = [];
  rest = [];
  whole = ap (λ (w : List ℕ). w ++ []) waits;
  takes = subst (λ (t : Option (List ℕ)). Appends a.taken t []) (sym same) (Appends-nil a.taken);
  all = λ f. (works, sym none);
  none = λ f. refl;
}

-- a character was taken whole
sent_character : (a b : Sender) (c : ℕ) → a.waiting ≡ [] → b.waiting ≡ [] → a.failed ≡ false
    → Appends a.taken b.taken (encode_utf8 c) → Sends a b (c ∷ [])
unfolding Sends
sent_character a b c waits none works takes = record {
  part = encode_utf8 c;
  rest = [];
  whole = ap (λ (w : List ℕ). w ++ encode_utf8_all (c ∷ [])) waits ∙ one c ∙ sym (append-nil (encode_utf8 c));
  takes = takes;
  all = λ f. (works, sym none);
  none = λ f. absurd cc;
}

-- a first part of it was taken
sent_part : (a b : Sender) (c : ℕ) → a.waiting ≡ [] → a.failed ≡ false → b.failed ≡ true
    → TookPart a.taken b.taken (encode_utf8 c) → Sends a b (c ∷ [])
unfolding Sends
sent_part a b c waits works lost took = record {
  part = took.part;
  rest = took.rest;
  whole = ap (λ (w : List ℕ). w ++ encode_utf8_all (c ∷ [])) waits ∙ one c ∙ took.whole;
  takes = took.takes;
  all = λ f. absurd cc;
  none = λ f. absurd cc;
}

-- ---- both

-- a part of a character is at most four bytes
part_is_short : (c : ℕ) (part rest : List ℕ) → encode_utf8 c ≡ part ++ rest → length part ≤ 4
part_is_short c part rest e =
    omega (arith, ap length e ∙ length-append part rest, length-encode c, (len_utf8_bounds c).1)

-- nothing is collected once text is lost
pub collects_none : (a b : Collected) (s t : List ℕ) → is_lost b ≡ true → b.screen.bytes ≡ a.screen.bytes
    → b.script.bytes ≡ a.script.bytes → b.room ≡ a.room
    → (b.too_much ≡ true → (a.too_much ≡ true) ⊎ (a.room + most_past_room ≤ waiting_of b)) → CollectsTexts a b s t
collects_none a b s t lost screen script room why =
    let same : waiting_of b ≡ waiting_of a = rw (screen, script) refl in
    record {
      written = record {
        screen_sent = sent_none _ _ s refl lost (ap Some screen);
        script_sent = sent_none _ _ t refl lost (ap Some script);
        known = λ e. refl;
      };
      room = room;
      more = omega (arith, same);
      most = λ h. omega (arith, same, h);
      why = why;
    }

-- a character for the screen
pub collects_screen : (a b : Collected) (c : ℕ) → is_lost a ≡ false → b.room ≡ a.room
    → b.script.bytes ≡ a.script.bytes → b.too_much ≡ a.too_much → waiting_of a < a.room + most_past_room
    → b.screen.bytes ≡ a.screen.bytes ++ encode_utf8 c → CollectsTexts a b (c ∷ []) []
collects_screen a b c works room script much few took =
    let more : length b.screen.bytes ≡ length a.screen.bytes + length (encode_utf8 c) = ap length took
    ∙ length-append a.screen.bytes (encode_utf8 c) in
    let same : length b.script.bytes ≡ length a.script.bytes = ap length script in
    let short = part_is_short c (encode_utf8 c) [] (sym (append-nil (encode_utf8 c))) in
    record {
      written = record {
        screen_sent = sent_character _ _ c refl refl works took;
        script_sent = sent_nothing _ _ refl refl works (ap Some script);
        known = λ e. refl;
      };
      room = room;
      more = omega (arith, more, same);
      most = λ h. omega (arith, more, same, short, few);
      why = λ e. inl (sym much ∙ e);
    }

-- a first part of it, since there is no memory for more
pub collects_screen_part : (a b : Collected) (c : ℕ) → is_lost a ≡ false → is_lost b ≡ true → b.room ≡ a.room
    → b.script.bytes ≡ a.script.bytes → b.too_much ≡ a.too_much → waiting_of a < a.room + most_past_room
    → TookPart (Some a.screen.bytes) (Some b.screen.bytes) (encode_utf8 c) → CollectsTexts a b (c ∷ []) []
collects_screen_part a b c works lost room script much few took =
    let more : length b.screen.bytes ≡ length a.screen.bytes + length took.part = ap length took.takes
    ∙ length-append a.screen.bytes took.part in
    let same : length b.script.bytes ≡ length a.script.bytes = ap length script in
    let short = part_is_short c took.part took.rest took.whole in
    record {
      written = record {
        screen_sent = sent_part _ _ c refl works lost took;
        script_sent = sent_none _ _ [] refl lost (ap Some script);
        known = λ e. refl;
      };
      room = room;
      more = omega (arith, more, same);
      most = λ h. omega (arith, more, same, short, few);
      why = λ e. inl (sym much ∙ e);
    }

-- a character for the transcript
pub collects_script : (a b : Collected) (c : ℕ) → is_lost a ≡ false → b.room ≡ a.room
    → b.screen.bytes ≡ a.screen.bytes → b.too_much ≡ a.too_much → waiting_of a < a.room + most_past_room
    → b.script.bytes ≡ a.script.bytes ++ encode_utf8 c → CollectsTexts a b [] (c ∷ [])
collects_script a b c works room screen much few took =
    let more : length b.script.bytes ≡ length a.script.bytes + length (encode_utf8 c) = ap length took
    ∙ length-append a.script.bytes (encode_utf8 c) in
    let same : length b.screen.bytes ≡ length a.screen.bytes = ap length screen in
    let short = part_is_short c (encode_utf8 c) [] (sym (append-nil (encode_utf8 c))) in
    record {
      written = record {
        screen_sent = sent_nothing _ _ refl refl works (ap Some screen);
        script_sent = sent_character _ _ c refl refl works took;
        known = λ e. refl;
      };
      room = room;
      more = omega (arith, more, same);
      most = λ h. omega (arith, more, same, short, few);
      why = λ e. inl (sym much ∙ e);
    }

pub collects_script_part : (a b : Collected) (c : ℕ) → is_lost a ≡ false → is_lost b ≡ true → b.room ≡ a.room
    → b.screen.bytes ≡ a.screen.bytes → b.too_much ≡ a.too_much → waiting_of a < a.room + most_past_room
    → TookPart (Some a.script.bytes) (Some b.script.bytes) (encode_utf8 c) → CollectsTexts a b [] (c ∷ [])
collects_script_part a b c works lost room screen much few took =
    let more : length b.script.bytes ≡ length a.script.bytes + length took.part = ap length took.takes
    ∙ length-append a.script.bytes took.part in
    let same : length b.screen.bytes ≡ length a.screen.bytes = ap length screen in
    let short = part_is_short c took.part took.rest took.whole in
    record {
      written = record {
        screen_sent = sent_none _ _ [] refl lost (ap Some screen);
        script_sent = sent_part _ _ c refl works lost took;
        known = λ e. refl;
      };
      room = room;
      more = omega (arith, more, same);
      most = λ h. omega (arith, more, same, short, few);
      why = λ e. inl (sym much ∙ e);
    }

-- ---- what is lost

pub lost_screen : (x y z : Bool) → y ≡ true → (x || (y || z)) ≡ true
lost_screen true y z e = refl
lost_screen false y z e = rw e refl

pub lost_script : (x y z w : Bool) → z ≡ true → (x || (y || (z || w))) ≡ true
lost_script true y z w e = refl
lost_script false true z w e = refl
lost_script false false z w e = rw e refl

-- marks were not lost where no text was
pub marks_kept : (x y z w : Bool) → (x || (y || (z || w))) ≡ false → w ≡ false
marks_kept true y z w e = absurd cc
marks_kept false true z w e = absurd cc
marks_kept false false true w e = absurd cc
marks_kept false false false w e = e

-- ---- how many wait

pub left_over : (x a b : ℕ) → nat_le (x - a) b ≡ nat_le x (a + b)
left_over x a b = elim (cases_lt (a + b) x) [
  | inl more ↦ lt-leb (x - a) b (omega arith) ∙ sym (lt-leb x (a + b) more)
  | inr few ↦ le-leb (x - a) b (omega arith) ∙ sym (le-leb x (a + b) few)
]

-- ---- signals

-- nothing is collected once text is lost
pub collects_lost : (a b : Collected) (l : List Signal) → is_lost b ≡ true → b.screen.bytes ≡ a.screen.bytes
    → b.script.bytes ≡ a.script.bytes → b.room ≡ a.room → b.styled ≡ a.styled → b.told ≡ a.told
    → (b.too_much ≡ true → (a.too_much ≡ true) ⊎ (a.room + most_past_room ≤ waiting_of b)) → Collects a b l
collects_lost a b l lost screen script room styled told why = record {
  texts = collects_none a b (screen_text l) (script_text l) lost screen script room why;
  marks = λ works. let never = sym works ∙ lost in absurd cc;
  kept = styled;
  told = told;
}

-- a character of the transcript marks nothing
pub nothing_marked : (kept : Bool) (c : ℕ) (m : Marks) → m ≡ marked_if kept (Script c ∷ []) m
unfolding marked
nothing_marked true c m = refl
nothing_marked false c m = refl

-- a signal without text marks what comes next, where marks are kept
pub collects_mark : (a b : Collected) (x : Signal) (mark : ℕ) → text_in x ≡ None → script_in x ≡ None
    → ((m : Marks) → marked_by x m ≡ record m { before = bit_or m.before mark })
    → b ≡ (if a.styled then record a { before = bit_or a.before mark } else a) → Collects a b (x ∷ [])
unfolding marked
collects_mark a b x mark text script marks is = by_kept a.styled refl is
  where
    by_kept : (kept : Bool) → a.styled ≡ kept → b ≡ (if kept then record a { before = bit_or a.before mark } else a)
        → Collects a b (x ∷ [])
    by_kept true kept same = rw same (record {
      texts = rw (text, script) (record {
        written = (texts_nothing a).written;
        room = refl;
        more = (texts_nothing a).more;
        most = (texts_nothing a).most;
        why = (texts_nothing a).why;
      });
      marks = λ works. rw kept (sym (marks (marks_in a)));
      kept = refl;
      told = refl;
    })
    by_kept false kept same = rw same (record {
      texts = rw (text, script) (texts_nothing a);
      marks = λ works. rw kept refl;
      kept = refl;
      told = refl;
    })

-- a character for the screen, with its marks
pub collects_marked : (a m b : Collected) (c : ℕ) (style : Style) (screen : Unread) → is_lost a ≡ false
    → waiting_of a < a.room + most_past_room → screen.bytes ≡ a.screen.bytes ++ encode_utf8 c
    → m ≡ record a { screen = screen; marks = m.marks; before = m.before }
    → (m.marks.failed ≡ false → marks_in m ≡ marked_if a.styled (Text c style ∷ []) (marks_in a))
    → b ≡ record m { short = b.short } → Collects a b (Text c style ∷ [])
collects_marked a m b c style screen works few took same marks short =
    let whole : b ≡ record a { screen = screen; marks = m.marks; before = m.before; short = b.short } = short
    ∙ ap (λ (x : Collected). record x { short = b.short }) same in
    subst (λ (x : Collected). Collects a x (Text c style ∷ [])) (sym whole) (record {
      texts = collects_screen a (record a { screen = screen; marks = m.marks; before = m.before; short = b.short }) c
          works refl refl refl few took;
      marks = λ kept. marks (marks_kept a.too_much screen.failed a.script.failed m.marks.failed kept);
      kept = refl;
      told = refl;
    })
