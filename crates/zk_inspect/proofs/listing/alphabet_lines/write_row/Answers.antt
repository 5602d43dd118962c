use Rattle.zk_inspect.proofs.listing.alphabet_lines.write_row.Goals as goal

pub returns-in-A0 : goal.returns-in-A0
returns-in-A0 g c = rw c.in-A0.is c.write_letters.ensures

pub returns-in-A1 : goal.returns-in-A1
returns-in-A1 g c = rw c.in-A1.is c.write_letters-in-A1.ensures

pub returns-in-A2 : goal.returns-in-A2
returns-in-A2 g c = rw c.in-A2.is c.write_letters-in-A2.ensures
