use Rattle.std.proofs.Common.{inl, refl, sym, ap}
use Rattle.zk_vm.specs.Sessions.{Session, begun}
use Rattle.zk_vm.specs.Plays.{slot_tells, source_tells}
use Rattle.zk_program.specs.declared.exit.Exit.TheVariants.{Stopped}
use Rattle.zk_program.proofs.Plays.{after_none, failed_none, failed_or, none_played, not_started, not_true, took_none}
use Rattle.zk_program.proofs.playing.play_and_report.Goals as goal
use Rattle.zk_program.proofs.playing.play_and_report.Goals.{in-Err-write, in-Ok-write}

pub returns-in-Err : goal.returns-in-Err
returns-in-Err g c = record {
  exit = c.in-Err.exit;
  ends = not_started _ _ _ c.in-Err.exit (record { screen = refl; script = refl; noted = g.met.P.Places.nothing _ })
      c.in-Err.ensures;
  status_is = c.report.ensures.status;
  lines = c.report.ensures.lines;
}

pub play-stop-requires-clause-free : goal.play-stop-requires-clause-free
unfolding begun
play-stop-requires-clause-free g c = ap (λ (s : Session). s.waiting) c.in-Ok.ensures.3

pub returns : goal.returns
returns g c =
    let started = c.in-Ok.ensures in
    let slot = slot_tells g.K.SaveSlot.held g.K.SaveSlot.keeps g.K.SaveSlot.puts g.K.SaveSlot.gets g.K.SaveSlot.hears in
    let input = source_tells g.I.Source.ends g.I.Source.fails g.I.Source.gives g.I.Source.failed in record {
      exit = Stopped c.match-write.stop;
      ends = (
        started.0,
        started.1,
        started.2,
        elim c.match-write.branch [
          | in-Err-write w ↦ rw (w.stop-is, w.devices-is, w.places-is) (inl (record {
            logged = none_played slot input g.I.Source.left _ c.args.devices.now.slot c.args.devices.now.input _ _ _
                _ _ (failed_or _ _ w.in-Err-write.ensures.failed) c.requires.works.input
                (failed_none _ _ w.in-Err-write.ensures.bytes) (g.met.P.Places.nothing _);
            unread = not_true _ _ c.requires.works.input;
          }))
          | in-Ok-write w ↦ rw (w.stop-is, w.devices-is, w.places-is, sym started.3) (inl (record {
            logged = after_none slot input g.I.Source.left _ _ _ _ _ _ _ _ _ _ _ _
                (took_none _ _ _ w.in-Ok-write.ensures.bytes) w.play-stop.ensures.logged;
            unread = w.play-stop.ensures.read_failed;
          }))
        ],
      );
      status_is = c.report-2.ensures.status;
      lines = c.report-2.ensures.lines;
    }
