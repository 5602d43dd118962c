use Rattle.std.specs.List.{filter_map}
use Rattle.std.specs.Str.Lines.{lines}
use Rattle.std.proofs.Common.{◌≡◌, length}
use Rattle.zk_suite.specs.Scripts.{comments, first_of, setting_in, settings_of}
use Rattle.zk_suite.proofs.walkthrough.Walkthrough.setting.Given as goal

abbrev pub invariant-loop-cut : goal.invariant-loop-cut
invariant-loop-cut l =
    first_of l.name (filter_map setting_in (comments (lines l.rest))) ≡ first_of l.name (settings_of l.self.bytes.now)

abbrev pub decreases-loop-cut : goal.decreases-loop-cut
decreases-loop-cut l = length l.rest
