-- A machine that is opened of a snapshot is the one that was kept.
use Rattle.std.proofs.Common.{◌≡◌, ◌∙◌, ℕ, List, length, sym, ap, arith}
use Rattle.std.proofs.lemmas.List.{take_all}
use Rattle.zk_save.specs.States.{WholeState}
use Rattle.zk_step.specs.declared.state.game_state.GameState.{GameState}
use Rattle.zk_vm.specs.Sessions.{Session}
use Rattle.zk_term.specs.Windows.{Windows}
use Rattle.zk_snapshot.specs.Laws.{FitsNewest, IsKept, OpensAgain, newest, with_kept, without_gone}
use Rattle.zk_snapshot.specs.Opening.{IsOpened}
use Rattle.zk_snapshot.specs.Snapshots.{snapshot_of, snapshot_with}
use Rattle.zk_snapshot.proofs.Gone.{gone_is_forgotten}
use Rattle.zk_snapshot.proofs.guards.Unique.{one_play}

all_states : (s : Session) → newest (length s.state.undo) s ≡ s.state.undo
all_states s = take_all (length s.state.undo) s.state.undo (omega arith)

-- a machine with all its states and no grid that is gone is what its snapshot keeps
is_kept_whole : (s : Session) → without_gone s.state.game ≡ s.state.game → with_kept s.state.undo s ≡ s
is_kept_whole s e = ap (λ (g : GameState). record s { state = record s.state { game = g } }) e

nothing_forgotten : (story bytes : List ℕ) (s : Session) → IsOpened story bytes s
    → without_gone s.state.game ≡ s.state.game
nothing_forgotten story bytes s h =
    ap (λ (w : Windows). record s.state.game { windows = w }) (gone_is_forgotten s.state.game.windows h.made.gone)

pub opens_again : ((file : List ℕ) (ws : List WholeState) → FitsNewest file ws) → (s opened : Session) → IsKept s
    → IsKept opened → OpensAgain s opened
opens_again fits s opened kept kept' most h =
    let file = s.state.game.memory.file in
    let some = (fits file s.state.undo most).0 in
    let n = length opened.state.undo in
    let same : snapshot_with (newest n opened) opened ≡ snapshot_with (newest some.0 s) s =
    ap (λ ws. snapshot_with ws opened) (all_states opened) ∙ h.same ∙ ap (λ ws. snapshot_with ws s) some.1 in
    let one = one_play opened s kept' kept h.made.story_is n some.0 same in
    sym (is_kept_whole opened (nothing_forgotten file (snapshot_of most s) opened h))
    ∙ ap (λ ws. with_kept ws opened) (sym (all_states opened)) ∙ one ∙ ap (λ ws. with_kept ws s) (sym some.1)
