-- Where units of text go, one after another.
use Rattle.std.specs.Prelude.{◌≡◌, ◌⊎◌, ℕ, Bool, true, false, ◌==◌, List, [], ◌∷◌, ◌++◌, length}
use Rattle.std.proofs.Common.{refl, sym, ap, ◌∙◌, subst, append_assoc, append-nil}
use Rattle.zk_text.specs.declared.unit.Unit.{Unit}
use Rattle.zk_text.specs.Extra.{ExtraTable}
use Rattle.zk_text.specs.Shown.{shown, shown_all}
use Rattle.zk_text.proofs.ShownLemmas.{shown_all-append, shown_all-one}
use Rattle.zk_term.specs.Windows.{Windows, printed}
use Rattle.zk_step.specs.Routing.{Signals, unit_stored, stored_all, shown_if, ends_line, character_streamed}
use Rattle.zk_step.specs.Routing.{streamed_all}
use Rattle.zk_step.specs.declared.output.printer.Selected.{Selected}

-- ---- on streams 1 and 2

-- the streams that are on were given characters, and the screen's last character is a new line now, or not
abbrev pub ShownOn : {S : Type 0} → (S → S → Signals → Type 0) → Selected → S → S → Bool → Bool
    → List ℕ → Type 0
ShownOn {S} shows on a b start end cs =
    (end ≡ ends_line start (shown_if on.screen cs)) × shows a b (streamed_all on cs)

-- they were given what units show
abbrev pub Printed : {S : Type 0} → (S → S → Signals → Type 0) → ExtraTable → Selected → S → S → Bool
    → Bool → List Unit → Type 0
Printed {S} shows e on a b start end us = ShownOn shows on a b start end (shown_all e us)

pub shown_if-append : (on : Bool) (x y : List ℕ) → shown_if on (x ++ y) ≡ shown_if on x ++ shown_if on y
shown_if-append true x y = refl
shown_if-append false x y = refl

pub streamed_all-append : (on : Selected) (x y : List ℕ) → streamed_all on (x ++ y) ≡ streamed_all on x
    ++ streamed_all on y
unfolding streamed_all
streamed_all-append on [] y = refl
streamed_all-append on (c ∷ x) y = ap (λ (l : Signals). character_streamed on c ++ l) (streamed_all-append on x y)
    ∙ sym (append_assoc (character_streamed on c) (streamed_all on x) (streamed_all on y))

pub ends_line-append : (x : List ℕ) (b : Bool) (y : List ℕ) → ends_line b (x ++ y) ≡ ends_line (ends_line b x) y
unfolding ends_line
ends_line-append [] b y = refl
ends_line-append (c ∷ x) b y = ends_line-append x (c == 10) y

-- characters after others
pub shown_twice : {S : Type 0} (shows : S → S → Signals → Type 0)
    → ((a b c : S) (s t : Signals) → shows a b s → shows b c t → shows a c (s ++ t))
    → (on too : Selected) (a b c : S) (p q r : Bool) (x y : List ℕ) → too ≡ on → ShownOn shows on a b p q x
    → ShownOn shows too b c q r y → ShownOn shows on a c p r (x ++ y)
shown_twice {S} shows twice on too a b c p q r x y all h k =
    let k' = subst (λ (o : Selected). ShownOn shows o b c q r y) all k in (
      k'.0 ∙ ap (λ (z : Bool). ends_line z (shown_if on.screen y)) h.0
          ∙ sym (ap (ends_line p) (shown_if-append on.screen x y) ∙ ends_line-append (shown_if on.screen x) p
          (shown_if on.screen y)),
      subst (shows a c) (sym (streamed_all-append on x y)) (twice a b c _ _ h.1 k'.1),
    )

pub printed_twice : {S : Type 0} (shows : S → S → Signals → Type 0)
    → ((a b c : S) (s t : Signals) → shows a b s → shows b c t → shows a c (s ++ t))
    → (e f : ExtraTable) (on too : Selected) (a b c : S) (p q r : Bool) (s t : List Unit) → f ≡ e → too ≡ on
    → Printed shows e on a b p q s → Printed shows f too b c q r t → Printed shows e on a c p r (s ++ t)
printed_twice {S} shows twice e f on too a b c p q r s t same all h k =
    let k' = subst (λ (g : ExtraTable). Printed shows g too b c q r t) same k in
    subst (λ (cs : List ℕ). ShownOn shows on a c p r cs) (sym (shown_all-append e s t))
    (shown_twice shows twice on too a b c p q r (shown_all e s) (shown_all e t) all h k')

nothing_if : (on : Bool) → ◌≡◌ {A = List ℕ} (shown_if on []) []
nothing_if true = refl
nothing_if false = refl

pub shown_nothing : {S : Type 0} (shows : S → S → Signals → Type 0) (on : Selected) (a : S) (p : Bool)
    → shows a a [] → ShownOn shows on a a p p []
unfolding ends_line streamed_all
shown_nothing {S} shows on a p h = rw (nothing_if on.screen) (refl, h)

pub printed_nothing : {S : Type 0} (shows : S → S → Signals → Type 0) (e : ExtraTable) (on : Selected)
    (a : S) (p : Bool) → shows a a [] → Printed shows e on a a p p []
unfolding shown_all
printed_nothing {S} shows e on a p h = shown_nothing shows on a p h

-- a unit is what it shows
pub printed_unit : {S : Type 0} (shows : S → S → Signals → Type 0) (e : ExtraTable) (on : Selected)
    (a b : S) (p q : Bool) (u : Unit) (cs : List ℕ) → cs ≡ shown e u → ShownOn shows on a b p q cs
    → Printed shows e on a b p q (u ∷ [])
printed_unit {S} shows e on a b p q u cs is h =
    subst (λ (x : List ℕ). ShownOn shows on a b p q x) (is ∙ sym (shown_all-one e u)) h

-- ---- in the upper window

pub printed-append : (x y : List ℕ) (w : Windows) → printed (x ++ y) w ≡ printed y (printed x w)
unfolding printed
printed-append [] y w = refl
printed-append (c ∷ x) y w = printed-append x y _

pub upper_twice : (e f : ExtraTable) (a b c : Windows) (s t : List Unit) → f ≡ e → b ≡ printed (shown_all e s) a
    → c ≡ printed (shown_all f t) b → c ≡ printed (shown_all e (s ++ t)) a
upper_twice e f a b c s t same h k =
    rw (shown_all-append e s t, printed-append (shown_all e s) (shown_all e t) a, ← h, ← same) k

pub upper_nothing : (e : ExtraTable) (a : Windows) → a ≡ printed (shown_all e []) a
unfolding shown_all printed
upper_nothing e a = refl

pub upper_unit : (e : ExtraTable) (a b : Windows) (u : Unit) (cs : List ℕ) → cs ≡ shown e u → b ≡ printed cs a
    → b ≡ printed (shown_all e (u ∷ [])) a
upper_unit e a b u cs is h = h ∙ ap (λ (x : List ℕ). printed x a) (is ∙ sym (shown_all-one e u))

-- ---- in a table of stream 3

-- codes are a first part of others, and there is no room for more
abbrev pub FirstPart : List ℕ → List ℕ → Type 0
FirstPart part whole = (length part ≡ 65536) × ((more : List ℕ) × (whole ≡ part ++ more))

pub stored_all-append : (e : ExtraTable) (s t : List Unit) → stored_all e (s ++ t) ≡ stored_all e s ++ stored_all e t
unfolding stored_all
stored_all-append e [] t = refl
stored_all-append e (u ∷ s) t = ap (λ (cs : List ℕ). unit_stored e u ++ cs) (stored_all-append e s t)
    ∙ sym (append_assoc (unit_stored e u) (stored_all e s) (stored_all e t))

pub stored_twice : (e f : ExtraTable) (a b c : List ℕ) (s t : List Unit) → f ≡ e → b ≡ a ++ stored_all e s
    → c ≡ b ++ stored_all f t → c ≡ a ++ stored_all e (s ++ t)
stored_twice e f a b c s t same h k =
    rw (stored_all-append e s t, ← append_assoc a (stored_all e s) (stored_all e t), ← h, ← same) k

pub stored_nothing : (e : ExtraTable) (a : List ℕ) → a ≡ a ++ stored_all e []
unfolding stored_all
stored_nothing e a = sym (append-nil a)

pub stored_late : (e f : ExtraTable) (a b c : List ℕ) (s t : List Unit) → f ≡ e → b ≡ a ++ stored_all e s
    → FirstPart c (b ++ stored_all f t) → FirstPart c (a ++ stored_all e (s ++ t))
stored_late e f a b c s t same h k =
    let whole : a ++ stored_all e (s ++ t) ≡ b ++ stored_all f t = rw (
      stored_all-append e s t,
      ← append_assoc a (stored_all e s) (stored_all e t),
      ← h,
      same,
    ) refl in
    (k.0, (k.1.0, whole ∙ k.1.1))

-- all codes were collected, or a first part and there is no room for more
abbrev pub Collected : List ℕ → List ℕ → Type 0
Collected got all = (got ≡ all) ⊎ FirstPart got all

pub stored_unit : (e : ExtraTable) (a b : List ℕ) (u : Unit) (cs : List ℕ) → cs ≡ unit_stored e u → b ≡ a ++ cs
    → b ≡ a ++ stored_all e (u ∷ [])
unfolding stored_all
stored_unit e a b u cs is h = h ∙ ap (λ (x : List ℕ). a ++ x) (is ∙ sym (append-nil (unit_stored e u)))
