-- Parts of a text on the screen and in the transcript.
use Rattle.std.proofs.Common.{◌≡◌, ◌∙◌, ℕ, Bool, true, false, List, [], ◌∷◌, ◌++◌, take, drop, length, refl, ap, sym}
use Rattle.std.proofs.Common.{subst}
use Rattle.std.proofs.Math.Seq.{drop-append_seam, take-append_seam}
use Rattle.zk_text.specs.declared.unit.Unit.{Unit}
use Rattle.zk_text.specs.Extra.{ExtraTable}
use Rattle.zk_text.specs.Shown.{shown_all}
use Rattle.zk_text.proofs.ShownLemmas.{shown_all-append}
use Rattle.zk_step.specs.declared.output.printer.Selected.{Selected}
use Rattle.zk_step.specs.Halves.{GivesSome, ShowsSome}
use Rattle.zk_step.specs.Printed.{Printed, ends_line-append, shown_if-append, streamed_all-append}
use Rattle.zk_step.specs.Routing.{Signals, ends_line, shown_if, streamed_all}

-- where neither stream is on, nothing is shown
pub streamed_nowhere : (on : Selected) (cs : List ℕ) → on.screen ≡ false → on.script ≡ false → streamed_all on cs ≡ []
unfolding streamed_all
streamed_nowhere on [] screen script = refl
streamed_nowhere on (c ∷ cs) screen script = rw (screen, script) (streamed_nowhere on cs screen script)

-- what units show while streams are on
abbrev Streamed : ExtraTable → Selected → List Unit → Signals
Streamed e on us = streamed_all on (shown_all e us)

pub shows_some : {S : Type 0} (shows : S → S → Signals → Type 0) (e : ExtraTable) (on : Selected)
    (a b : S) (p q : Bool) (x y : List Unit) → GivesSome
    (λ (v w : S) (us : List Unit). Printed shows e on v w p q us) a b x y
    → ShowsSome shows a b (Streamed e on x) (Streamed e on y)
shows_some {S} shows e on a b p q x y h =
    let first = Streamed e on h.units in
    let rest = Streamed e on y in
    let whole : Streamed e on x ≡ first ++ rest = ap (streamed_all on) (ap (shown_all e) h.is
    ∙ shown_all-append e h.units y) ∙ streamed_all-append on (shown_all e h.units) (shown_all e y) in
    record {
      count = length first;
      shown = rw (whole, take-append_seam first rest) h.gives.1;
      is = rw (whole, drop-append_seam first rest) refl;
    }

pub line_on : {S : Type 0} (shows : S → S → Signals → Type 0) (e : ExtraTable) (on : Selected) (a b : S)
    (p q : Bool) (x y : List Unit) → GivesSome (λ (v w : S) (us : List Unit). Printed shows e on v w p q us) a b x y
    → ends_line q (shown_if on.screen (shown_all e y)) ≡ ends_line p (shown_if on.screen (shown_all e x))
line_on {S} shows e on a b p q x y h =
    let cs = shown_all e h.units in
    let ds = shown_all e y in
    let whole : shown_all e x ≡ cs ++ ds = ap (shown_all e) h.is ∙ shown_all-append e h.units y in
    rw (
      whole,
      shown_if-append on.screen cs ds,
      ends_line-append (shown_if on.screen cs) p
          (shown_if on.screen ds),
      ← h.gives.0,
    ) refl
