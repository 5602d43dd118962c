-- Texts by constants and words of the table of abbreviations are computed.
use Rattle.std.proofs.Common.{◌≡◌, ◌<◌, ◌+◌, ◌*◌, ℕ, refl, arith}
use Rattle.zk_mem.specs.Header.{header_of, unit_length}
use Rattle.zk_mem.specs.Map.{word_at}
use Rattle.zk_inspect.specs.guards.Examples.{abbreviating}
use Rattle.zk_inspect.specs.Texts.{IsUnread, constant_text}
use Rattle.zk_inspect.proofs.examples.texts_by_example.Goals as goal

pub returns-clause-texts_by_constants : goal.returns-clause-texts_by_constants
unfolding constant_text unit_length
returns-clause-texts_by_constants c = (refl, refl, refl, refl, refl, refl, refl, refl, refl, refl, refl)

-- a word of the table has its address from its number
placed : (a : ℕ) → IsUnread abbreviating a → (number : ℕ) × (number < 96) × (a ≡ 2 + 2 * number)
unfolding header_of
placed a u = (u.number, u.few, u.address)

pub returns-clause-words_past_the_end : goal.returns-clause-words_past_the_end
unfolding word_at header_of
returns-clause-words_past_the_end c = (
  record { number = 4; few = omega arith; tabled = λ e. cc; address = refl; unread = refl },
  record { number = 95; few = omega arith; tabled = λ e. cc; address = refl; unread = refl },
  λ u. let e = u.unread in cc,
  λ u. let p = placed 11 u in omega (arith, p.1, p.2),
  λ u. let p = placed 194 u in omega (arith, p.1, p.2),
  λ a u. u.tabled refl,
)

pub returns-clause-words_are_addresses : goal.returns-clause-words_are_addresses
unfolding word_at header_of
returns-clause-words_are_addresses c = (
  record { number = 0; few = omega arith; tabled = λ e. cc; word = 0; read = refl; address = refl },
  record { number = 1; few = omega arith; tabled = λ e. cc; word = 4; read = refl; address = refl },
  record { number = 2; few = omega arith; tabled = λ e. cc; word = 32; read = refl; address = refl },
)
