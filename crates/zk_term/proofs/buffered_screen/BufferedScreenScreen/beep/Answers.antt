use Rattle.std.proofs.Common.{refl}
use Rattle.zk_term.specs.BufferedScreens.{written_nothing}
use Rattle.zk_term.proofs.buffered_screen.BufferedScreenScreen.beep.Goals as goal

pub returns : goal.returns
returns g c = (refl, refl, written_nothing _)
