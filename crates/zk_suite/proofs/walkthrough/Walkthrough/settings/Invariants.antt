use Rattle.std.specs.List.{filter_map}
use Rattle.std.specs.Prelude.{map}
use Rattle.std.specs.Str.Lines.{lines}
use Rattle.std.proofs.Common.{◌≡◌, ◌++◌, length}
use Rattle.zk_suite.specs.Scripts.{comments, setting_in, settings_of}
use Rattle.zk_suite.proofs.walkthrough.Walkthrough.settings.Given as goal

abbrev pub invariant-loop-cut : goal.invariant-loop-cut
invariant-loop-cut l = map (λ s. (s.0.now, s.1.now)) l.settings.items ++ filter_map setting_in
    (comments (lines l.rest)) ≡ settings_of l.self.bytes.now

abbrev pub decreases-loop-cut : goal.decreases-loop-cut
decreases-loop-cut l = length l.rest
