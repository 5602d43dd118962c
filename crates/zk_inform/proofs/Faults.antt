-- Texts that have no meaning.
use Rattle.std.proofs.Common.{◌≡◌, ℕ, Bool, true, false, [], Option, None, refl}
use Rattle.std.specs.Prelude.{Err, nat_lt, if◌then◌else◌}
use Rattle.zk_mem.specs.declared.fault.Fault.{Fault}
use Rattle.zk_mem.specs.Map.{MemoryMap}
use Rattle.zk_text.specs.Meaning.{text_units}
use Rattle.zk_text.specs.Shown.{shown_all}
use Rattle.zk_text.specs.Walked.{words_walked}
use Rattle.zk_inform.specs.declared.naming.Spelling.{Spelling}
use Rattle.zk_inform.specs.Markup.{marked_units, text_of}
use Rattle.zk_inform.specs.Names.{spelling_of}

-- a text without a meaning prints nothing
pub no_text : (m : MemoryMap) (a : ℕ) (f : Fault) → text_units m a ≡ Err f → text_of m a ≡ []
unfolding text_of marked_units shown_all
no_text m a f e = rw e refl

none_twice : (b : Bool) → (let n : Option Spelling = None in n) ≡ (if b then None else None)
none_twice true = refl
none_twice false = refl

pub no_spelling : (m : MemoryMap) (a : ℕ) (f : Fault) → text_units m a ≡ Err f → None ≡ spelling_of m a
unfolding spelling_of
no_spelling m a f e = rw e (none_twice (nat_lt 255 (words_walked m a)))
