use Rattle.std.proofs.Common.{◌≡◌, ◌++◌, ◌∷◌, ◌+◌, ◌≤◌, ◌<◌, ℕ, [], length, min, get_or, take, refl, sym}
use Rattle.std.proofs.Common.{subst, arith}
use Rattle.std.proofs.lemmas.List.{take_more}
use Rattle.zk_inspect.specs.declared.fact.Fact.TheVariants as fact
use Rattle.zk_inspect.specs.declared.section.Section.TheVariants as section
use Rattle.zk_host.specs.Listings.{fact_words}
use Rattle.zk_host.proofs.Listings.{counted_few, counted_whole, cut_written, none_written, one_written}
use Rattle.zk_host.proofs.listing.write_lines.Goals as goal

pub loop-fact-init : goal.loop-fact-init
loop-fact-init c = record {
  written = none_written c.args.memory.now c.args.facts.now c.args.words c.args.target.now.text.bytes;
  index = refl;
  over = refl;
  begun = λ e. refl;
}

pub returns-in-Err-clause-part : goal.returns-in-Err-clause-part
returns-in-Err-clause-part c =
    let facts = c.args.facts.now in
    let n = c.loop-fact.fact-index in
    let next = get_or facts n (fact.Title section.Header) in
    cut_written c.args.memory.now facts c.loop-fact.part.lines c.args.words c.loop-fact.part.words next
    c.args.target.now.text.bytes c.loop-fact.target.text.bytes c.write_line.new.target.text.bytes
    (subst (λ (k : ℕ). take (k + 1) facts ≡ take k facts ++ next ∷ []) (sym c.loop-fact.invariant.index)
    (take_more facts n (fact.Title section.Header) c.loop-fact-test.true))
    c.loop-fact.invariant.written c.in-Err.ensures.cut

pub loop-fact-preserved : goal.loop-fact-preserved
loop-fact-preserved c =
    let facts = c.args.facts.now in
    let n = c.loop-fact.fact-index in
    let next = get_or facts n (fact.Title section.Header) in
    let index = c.loop-fact.invariant.index in
    let inside = c.loop-fact-test.true in
    let few : c.fact_words-count.result ≤ min c.loop-fact.part.words 131072 =
    let test = c.if-count-min.false in let is = c.min.ensures in omega (arith, test, is) in
    let lt : c.loop-fact.part.lines < length facts = omega (arith, index, inside) in
    record {
      written = one_written c.args.memory.now facts c.loop-fact.part.lines c.args.words
          c.loop-fact.part.words c.fact_words-count.result next c.args.target.now.text.bytes
          c.loop-fact.target.text.bytes c.write_line.new.target.text.bytes lt
          (subst (λ (k : ℕ). take (k + 1) facts ≡ take k facts ++ next ∷ []) (sym index)
          (take_more facts n (fact.Title section.Header) inside))
          c.loop-fact.invariant.written c.in-Ok.ensures.whole
          (counted_whole c.fact_words-count.result (fact_words c.args.memory.now next) c.loop-fact.part.words
          c.fact_words-count.ensures few) (counted_few c.fact_words-count.result c.loop-fact.part.words few);
      index = omega (arith, index);
      over = c.loop-fact.invariant.over;
      begun = λ e. absurd (omega (arith, e));
    }
