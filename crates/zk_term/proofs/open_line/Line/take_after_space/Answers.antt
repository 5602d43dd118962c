use Rattle.std.proofs.Common.{refl, [], ◌∷◌, ◌++◌, ◌∙◌, ap, ◌-◌, ◌≡◌, false, arith}
use Rattle.std.proofs.lemmas.Bool.Decides.{nat_tests}
use Rattle.zk_term.specs.declared.open_line.Line.{Line}
use Rattle.zk_term.specs.Wrapping.{columns, is_space}
use Rattle.zk_term.proofs.Wraps.{after_word_goes, before_a_letter, before_a_space, first_letter_held}
use Rattle.zk_term.proofs.open_line.Line.take_after_space.Goals as goal
use Rattle.zk_term.proofs.open_line.Line.take_after_space.Goals.{then-byte-ne32+else-hold, else-byte-ne32}

pub returns-then-hold-clause-taken : goal.returns-then-hold-clause-taken
returns-then-hold-clause-taken g c before =
    let on = c.hold.ensures.held c.if-hold.true in
    let letter : is_space c.args.byte ≡ false = grind (arith, nat_tests) in record {
      text = [];
      is = first_letter_held _ _ c.args.byte before (on.kind ∙ before) on letter;
      given = g.met.P.LineWriter.nothing _;
    }

pub returns-clause-taken : goal.returns-clause-taken
returns-clause-taken g c before =
    elim c.if-byte-ne32.branch [
      | then-byte-ne32+else-hold w ↦
          let full = w.hold.ensures.full w.if-hold.false in
          let letter : is_space c.args.byte ≡ false = grind (arith, nat_tests) in
          let held : c.if-byte-ne32.self.held.items ≡ c.args.self.now.held.items = ap (λ (l : Line). l.held.items)
          w.self-is ∙ ap (λ (l : Line). l.held.items) full.same in
          let counted : w.as_slice.result.now ≡ c.args.self.now.held.items = w.as_slice.ensures.value
          ∙ ap (λ (l : Line). l.held.items) full.same in
          let room : c.if-byte-ne32.self.room ≡ c.args.self.now.width - columns c.args.self.now.held.items =
          ap (λ (l : Line). l.room) w.self-is ∙ w.saturating_sub-self.ensures
          ∙ rw (w.all_columns_of-taken.ensures.value, counted, full.same) refl in
          after_word_goes g.P.LineWriter.wrote g.met.P.LineWriter.twice c.args.self.now _ _ _ _ _ c.args.byte
          ((10 ∷ []) ++ c.args.self.now.held.items) before
          (ap (λ (l : Line). l.width) w.self-is ∙ ap (λ (l : Line). l.width) full.same) refl c.clear.ensures
          (λ h rest. rw room (before_a_letter c.args.self.now c.args.byte letter full.full h rest))
          (g.met.P.LineWriter.twice _ _ _ _ _ w.write.ensures
          (rw (w.writer-is, c.as_slice-2.ensures.value, held) at c.write-2.ensures)) c.take_among_words.ensures.taken
      | else-byte-ne32 w ↦
          let held : c.if-byte-ne32.self.held.items ≡ c.args.self.now.held.items = ap (λ (l : Line). l.held.items)
          w.self-is in
          let room : c.if-byte-ne32.self.room ≡ c.args.self.now.room = ap (λ (l : Line). l.room) w.self-is in
          after_word_goes g.P.LineWriter.wrote g.met.P.LineWriter.twice c.args.self.now _ _ _ _ _ c.args.byte
          c.args.self.now.held.items before (ap (λ (l : Line). l.width) w.self-is) refl c.clear.ensures
          (λ h rest. rw (room, w.if-byte-ne32.false) (before_a_space c.args.self.now h rest))
          (rw (w.writer-is, c.as_slice-2.ensures.value, held) at c.write-2.ensures) c.take_among_words.ensures.taken
    ]
