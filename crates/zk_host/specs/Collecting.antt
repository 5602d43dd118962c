-- Text that a play has shown and nobody has taken yet.
use Rattle.std.specs.Prelude.{◌≡◌, ◌≤◌, ◌⊎◌, ◌+◌, ◌||◌, ◌++◌, ℕ, Bool, true, false, List, [], length, nat_le, Some, ◌∷◌}
use Rattle.std.proofs.Common.{◌∙◌, inl, inr, refl, arith, ap, sym}
use Rattle.zk_term.specs.BufferedScreens.{Targets, Written, written_nothing, written_twice}
use Rattle.zk_host.specs.declared.collected.Collected.{Collected}
use Rattle.zk_host.specs.Texts.{Unread}
use Rattle.zk_host.specs.Marks.{Marks, marked, marked_by, marked_if, marks_in}
use Rattle.std.proofs.lemmas.List.Elements.{filter_map-append}
use Rattle.zk_term.specs.Devices.{Sends}
use Rattle.zk_term.specs.Signals.{Signal, screen_text, script_in, script_text, text_in}

-- how many bytes wait, for the screen and the transcript together
abbrev pub waiting_of : Collected → ℕ
waiting_of c = length c.screen.bytes + length c.script.bytes

-- some text was lost: there was no memory for it, or an instruction has shown too much
abbrev pub is_lost : Collected → Bool
is_lost c = c.too_much || (c.screen.failed || (c.script.failed || c.marks.failed))

-- as much waits as there is room for
abbrev pub has_no_room : Collected → Bool
has_no_room c = nat_le c.room (waiting_of c)

-- more is to be shown only after a pause: there is no room, or no memory
abbrev pub wants_pause : Collected → Bool
wants_pause c = has_no_room c || c.short

-- so many bytes past the room are too many for one instruction
abbrev pub most_past_room : ℕ
most_past_room = 1048576

-- more bytes never wait: the last character has four at most
abbrev pub most_waiting : Collected → ℕ
most_waiting c = c.room + most_past_room + 3

-- both texts as what two targets took
abbrev pub targets_of : Collected → Targets
targets_of c = record {
  screen = Some c.screen.bytes;
  to_screen = [];
  script = Some c.script.bytes;
  to_script = [];
  failed = is_lost c;
  either = is_lost c;
}

-- Texts were collected: of both a first part, and all while none was lost. It is lost for lack of memory, or where
-- there is too much of it, and so no more than that ever waits.
pub record CollectsTexts (a b : Collected) (screen script : List ℕ) : Type 0 where
  pub written : Written (targets_of a) (targets_of b) screen script
  pub room : b.room ≡ a.room
  pub more : waiting_of a ≤ waiting_of b
  pub most : waiting_of a ≤ most_waiting a → waiting_of b ≤ most_waiting a
  pub why : b.too_much ≡ true → (a.too_much ≡ true) ⊎ (a.room + most_past_room ≤ waiting_of b)

-- Signals were collected: their texts, and their marks where these are kept, while none was lost.
pub record Collects (a b : Collected) (l : List Signal) : Type 0 where
  pub texts : CollectsTexts a b (screen_text l) (script_text l)
  pub marks : is_lost b ≡ false → marks_in b ≡ marked_if a.styled l (marks_in a)
  pub kept : b.styled ≡ a.styled
  pub told : b.told ≡ a.told

-- no text
abbrev pub no_text : Unread
no_text = record { bytes = []; failed = false }

abbrev pub nothing_collected : Collected
nothing_collected = record {
  screen = no_text;
  script = no_text;
  marks = no_text;
  before = 0;
  styled = false;
  told = false;
  room = 0;
  too_much = false;
  short = false;
}

-- ---- text after text

pub texts_nothing : (a : Collected) → CollectsTexts a a [] []
texts_nothing a = record {
  written = written_nothing (targets_of a);
  room = refl;
  more = omega arith;
  most = λ h. h;
  why = λ e. inl e;
}

why_twice : (a b c : Collected) → b.room ≡ a.room → waiting_of b ≤ waiting_of c
    → (b.too_much ≡ true → (a.too_much ≡ true) ⊎ (a.room + most_past_room ≤ waiting_of b))
    → (b.too_much ≡ true) ⊎ (b.room + most_past_room ≤ waiting_of c) → (a.too_much ≡ true)
    ⊎ (a.room + most_past_room ≤ waiting_of c)
why_twice a b c room more first (inl e) =
    elim (first e) [ inl before ↦ inl before | inr much ↦ inr (omega (arith, much, more)) ]
why_twice a b c room more first (inr much) = inr (omega (arith, room, much))

pub texts_twice : (a b c : Collected) (s t u v : List ℕ) → CollectsTexts a b s u → CollectsTexts b c t v
    → CollectsTexts a c (s ++ t) (u ++ v)
texts_twice a b c s t u v h k = record {
  written = written_twice _ _ _ s t u v h.written k.written;
  room = k.room ∙ h.room;
  more = omega (arith, h.more, k.more);
  most = λ few. let mid = h.most few in let last = k.most (omega (arith, h.room, mid)) in omega (arith, h.room, last);
  why = λ e. why_twice a b c h.room k.more h.why (k.why e);
}

-- ---- signals after signals

marked-append : (s t : List Signal) (m : Marks) → marked (s ++ t) m ≡ marked t (marked s m)
unfolding marked
marked-append [] t m = refl
marked-append (x ∷ s) t m = marked-append s t (marked_by x m)

marked_both : (kept : Bool) (s t : List Signal) (m : Marks) → marked_if kept t (marked_if kept s m) ≡ marked_if kept
    (s ++ t) m
marked_both true s t m = sym (marked-append s t m)
marked_both false s t m = refl

pub collects_nothing : (a : Collected) → Collects a a []
unfolding marked
collects_nothing a = record { texts = texts_nothing a; marks = λ works. none a.styled; kept = refl; told = refl }
  where
    none : (kept : Bool) → marks_in a ≡ marked_if kept [] (marks_in a)
    none true = refl
    none false = refl

pub collects_twice : (a b c : Collected) (s t : List Signal) → Collects a b s → Collects b c t → Collects a c (s ++ t)
unfolding Sends
collects_twice a b c s t h k = record {
  texts = rw (filter_map-append text_in s t, filter_map-append script_in s t)
      (texts_twice a b c (screen_text s) (screen_text t) (script_text s) (script_text t) h.texts k.texts);
  marks = λ works.
      let before : is_lost b ≡ false = (k.texts.written.screen_sent.all works).0 in
      k.marks works ∙ ap (λ (m : Marks). marked_if b.styled t m) (h.marks before)
      ∙ ap (λ (kept : Bool). marked_if kept t (marked_if a.styled s (marks_in a))) h.kept
      ∙ marked_both a.styled s t (marks_in a);
  kept = k.kept ∙ h.kept;
  told = k.told ∙ h.told;
}
