use Rattle.std.proofs.Common.{◌≡◌, ◌∙◌, ◌||◌, ◌+◌, ◌++◌, [], Some, inl, false, ap, refl}
use Rattle.zk_term.specs.declared.lines.InputEnd.TheVariants.{End, Failed}
use Rattle.zk_text.specs.Extra.{own_characters}
use Rattle.zk_vm.specs.Log.{reads_in}
use Rattle.zk_vm.specs.Plays.{source_tells}
use Rattle.zk_vm.proofs.Turns.{either_false}
use Rattle.zk_vm.proofs.LogPlays.{turn_stopped, turned_runs, play_begins, play_finds_none, play_goes, play_stops}
use Rattle.zk_vm.proofs.LogPlays.{read_entries, reads_behind, source_begins, source_goes}
use Rattle.zk_vm.proofs.Playing.{heard_end, heard_failed, fewer, over_on, line_open, failed_open, no_end, last_none}
use Rattle.zk_vm.proofs.Playing.{end_left, end_found, end_sound, failed_found, true_or}
use Rattle.zk_vm.proofs.play.play.Goals as goal

pub loop-event-init : goal.loop-event-init
loop-event-init g c = record {
  free = c.requires.free;
  screen_works = c.requires.screen_works;
  script_works = c.requires.script_works;
  reader_works = c.requires.reader_works;
  over = inl (ap (λ r. r.over) c.new-lines.ensures);
  limits = refl;
  logged = (
    [],
    (
      play_begins _ g.P.Places.noted g.met.P.Places.twice _ _ _ _ (g.met.P.Places.nothing _),
      source_begins g.R.Source.left g.R.Source.gives _ _ _ (ap (λ r. r.ahead) c.new-lines.ensures)
          (ap (λ r. r.over) c.new-lines.ensures),
    ),
  );
}

pub returns-in-Err-clause-read_failed : goal.returns-in-Err-clause-read_failed
returns-in-Err-clause-read_failed g c = true_or _ _ c.loop-event.invariant.reader_works

pub returns-in-Err-clause-stopped : goal.returns-in-Err-clause-stopped
returns-in-Err-clause-stopped g c = turn_stopped _ _ _ _ _ _ _ _ _ _ c.in-Err.ensures.logged

pub returns-in-Err-clause-limits : goal.returns-in-Err-clause-limits
returns-in-Err-clause-limits g c = c.in-Err.ensures.limits ∙ c.loop-event.invariant.limits

pub loop-event-smaller : goal.loop-event-smaller
loop-event-smaller g c =
    let none : (g.S.Target.failed c.turn.new.screen || g.T.Target.failed c.turn.new.script)
    ≡ false = c.in-Ok.ensures.logged.ends.0 in
    fewer c.answer.new.machine.stopped c.loop-event.machine.stopped c.loop-event.machine.state.reads
    c.answer.new.machine.state.reads (turned_runs _ _ _ _ _ _ _ _ _ _ c.loop-event.invariant.free
    c.in-Ok.ensures.logged) (rw (← c.in-Ok.ensures.same_reads) c.in-Ok.ensures.reads)
    (λ e. c.answer.ensures.counted e ∙ ap (λ n. n + 1) c.in-Ok.ensures.same_reads)

pub loop-event-preserved : goal.loop-event-preserved
loop-event-preserved g c =
    let none : (g.S.Target.failed c.turn.new.screen || g.T.Target.failed c.turn.new.script)
    ≡ false = c.in-Ok.ensures.logged.ends.0 in
    let left = rw c.as_slice.ensures.value at c.answer.ensures.left in
    let goes = line_open c.loop-event.lines.over _ c.in-Line.codes c.loop-event.invariant.over
    (λ o e. (c.in-Line.ensures.over o e).0) in
    let works = either_false (g.S.Target.failed c.turn.new.screen) (g.T.Target.failed c.turn.new.script) none in
    let u = rw none at c.in-Ok.ensures.logged in
    let s = c.loop-event.invariant.logged in
    let codes = c.in-Line.codes.items in
    record {
      free = c.answer.ensures.free;
      screen_works = c.begin_line.ensures.failed ∙ works.0;
      script_works = works.1;
      reader_works = c.in-Line.ensures.failed goes ∙ c.loop-event.invariant.reader_works;
      over = over_on c.next_line.new.lines.over _ (c.in-Line.ensures.next goes) (c.in-Line.ensures.ends goes);
      limits = c.answer.ensures.limits ∙ c.in-Ok.ensures.limits ∙ c.loop-event.invariant.limits;
      logged = (
        s.0 ++ (u.log ++ read_entries c.turn.new.machine codes c.answer.new.machine),
        (
          rw c.begin_line.ensures.bytes (play_goes _ g.P.Places.noted g.met.P.Places.twice _ c.loop-event.machine
              c.turn.new.machine c.answer.new.machine _ _ _ _ _ _ _ _ _ s.0 c.in-Ok.event codes s.1.0 u
              c.in-Ok.ensures.runs c.in-Ok.ensures.asks.0 c.in-Ok.ensures.asks.1 left),
          rw (reads_behind s.0 u.log c.turn.new.machine c.answer.new.machine codes u.no_reads)
              (source_goes g.R.Source.left g.R.Source.gives _ c.loop-event.reader c.next_line.new.reader
              c.loop-event.lines.ahead c.next_line.new.lines.ahead c.loop-event.lines.over
              c.next_line.new.lines.over (reads_in s.0) (own_characters c.turn.new.machine.state.game.memory, codes)
              s.1.1 goes c.in-Line.ensures.codes (λ bytes told. c.in-Line.ensures.heard bytes goes told)
              (λ bytes later line. last_none bytes later line c.next_line.new.lines.over)
              (c.in-Line.ensures.taken goes)),
        ),
      );
    }

pub returns-in-End-clause-read_failed : goal.returns-in-End-clause-read_failed
returns-in-End-clause-read_failed g c =
    let same : c.loop-event.lines.over ≡ Some End
    → c.next_line.new.reader ≡ c.loop-event.reader = λ e. (c.in-End.ensures.over End e).2 in
    true_or _ _ (end_sound g.R.Source.failed _ _ c.loop-event.lines.over _ c.loop-event.invariant.over
    c.in-End.ensures.failed same ∙ c.loop-event.invariant.reader_works)

pub returns-in-Err-clause-logged : goal.returns-in-Err-clause-logged
returns-in-Err-clause-logged g c =
    let s = c.loop-event.invariant.logged in
    play_stops _ g.P.Places.noted g.met.P.Places.twice
    (source_tells g.R.Source.ends g.R.Source.fails g.R.Source.gives g.R.Source.failed) g.R.Source.left _
    c.loop-event.machine c.turn.new.machine _ _ _ _ _ _ _ c.loop-event.reader c.loop-event.lines.ahead
    c.loop-event.lines.over _ _ _ s.0 _ c.in-Err.stop c.loop-event.invariant.reader_works s.1.0
    c.in-Err.ensures.logged s.1.1

pub returns-in-End-clause-logged : goal.returns-in-End-clause-logged
returns-in-End-clause-logged g c =
    let none : (g.S.Target.failed c.turn.new.screen || g.T.Target.failed c.turn.new.script)
    ≡ false = c.in-Ok.ensures.logged.ends.0 in
    let u = rw none at c.in-Ok.ensures.logged in
    let s = c.loop-event.invariant.logged in
    let same : c.loop-event.lines.over ≡ Some End
    → c.next_line.new.reader ≡ c.loop-event.reader = λ e. (c.in-End.ensures.over End e).2 in
    let just = end_found g.R.Source.ends c.loop-event.reader c.next_line.new.reader c.loop-event.lines.over
    c.loop-event.invariant.over (λ e. c.in-End.ensures.ends e (c.in-End.ensures.next e)) same in
    let sound : g.R.Source.failed c.next_line.new.reader ≡ false = end_sound g.R.Source.failed _ _
    c.loop-event.lines.over _ c.loop-event.invariant.over c.in-End.ensures.failed same
    ∙ c.loop-event.invariant.reader_works in
    rw (none, c.close.ensures.value) (play_finds_none _ g.P.Places.noted g.met.P.Places.twice
    (source_tells g.R.Source.ends g.R.Source.fails g.R.Source.gives g.R.Source.failed) g.R.Source.left _
    c.loop-event.machine c.turn.new.machine _ _ _ _ _ _ _ c.loop-event.reader c.next_line.new.reader
    c.loop-event.lines.ahead c.loop-event.lines.over _ _ _ s.0 c.in-Ok.event End s.1.0 u
    c.in-Ok.ensures.asks.1 (just, sound) (λ e. sound)
    (λ bytes told nothing.
    let h = end_left g.R.Source.left c.loop-event.reader c.next_line.new.reader c.loop-event.lines.over _
    c.loop-event.lines.ahead bytes c.next_line.new.lines.ahead told c.loop-event.invariant.over nothing
    (λ e. c.in-End.ensures.heard bytes e told) same in
    (h.0, h.1, heard_end (c.loop-event.lines.ahead ++ bytes) h.0 (g.R.Source.failed c.next_line.new.reader) h.2 sound))
    s.1.1)

pub returns-in-Failed-clause-logged : goal.returns-in-Failed-clause-logged
returns-in-Failed-clause-logged g c =
    let none : (g.S.Target.failed c.turn.new.screen || g.T.Target.failed c.turn.new.script)
    ≡ false = c.in-Ok.ensures.logged.ends.0 in
    let u = rw none at c.in-Ok.ensures.logged in
    let s = c.loop-event.invariant.logged in
    let goes = failed_open c.loop-event.lines.over _ c.loop-event.invariant.over
    (λ o e. (c.in-Failed.ensures.over o e).0) in
    let found = failed_found (source_tells g.R.Source.ends g.R.Source.fails g.R.Source.gives g.R.Source.failed) _
    c.loop-event.reader c.next_line.new.reader c.loop-event.lines c.next_line.new.lines (reads_in s.0) _
    c.loop-event.invariant.reader_works (s.1.1.given goes) (λ f. (f.just, f.stays))
    (c.in-Failed.ensures.failed goes) in
    rw (none, c.close-in-Failed.ensures.value) (play_finds_none _ g.P.Places.noted g.met.P.Places.twice
    (source_tells g.R.Source.ends g.R.Source.fails g.R.Source.gives g.R.Source.failed) g.R.Source.left _
    c.loop-event.machine c.turn.new.machine _ _ _ _ _ _ _ c.loop-event.reader c.next_line.new.reader
    c.loop-event.lines.ahead c.loop-event.lines.over _ _ _ s.0 c.in-Ok.event Failed s.1.0 u
    c.in-Ok.ensures.asks.1 found (no_end c.loop-event.lines.over _ goes)
    (λ bytes told nothing.
    let h = c.in-Failed.ensures.heard bytes goes told in (
      h.0,
      h.1,
      heard_failed (c.loop-event.lines.ahead ++ bytes) c.next_line.new.lines.ahead h.0
          (g.R.Source.failed c.next_line.new.reader) (g.R.Source.failed c.loop-event.reader) _
          c.loop-event.invariant.reader_works (λ f. (f.stays, f.none)) h.2,
    ))
    s.1.1)
