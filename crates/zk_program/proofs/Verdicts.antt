-- A story with no findings has clean code.
use Rattle.std.proofs.Common.{◌≡◌, ℕ, List, [], None, Result, Ok, Err, refl, sym, subst}
use Rattle.zk_mem.specs.declared.memory.Setup.{Setup}
use Rattle.zk_mem.specs.declared.fault.Fault.{Fault}
use Rattle.zk_mem.specs.Fresh.{fresh}
use Rattle.zk_mem.specs.Map.{MemoryMap, HasBytes}
use Rattle.zk_mem.specs.Story.{refusal}
use Rattle.zk_code.specs.declared.instr.Instr.{Instr}
use Rattle.zk_code.specs.Clean.{IsClean}
use Rattle.zk_code.specs.Grammar.{IsInstruction}
use Rattle.zk_code.specs.Reach.{IsReached}
use Rattle.zk_code.specs.Reading.{instr_at}
use Rattle.zk_code.proofs.Reached.{is_closed}
use Rattle.zk_code.proofs.Whole.{found_at, only_at}
use Rattle.zk_inspect.specs.declared.check.finding.Finding.{Finding}
use Rattle.zk_inspect.specs.declared.check.finding.Number.{Number}
use Rattle.zk_inspect.specs.declared.check.finding.Number.TheVariants.{UndecodableCode, TargetOutOfTheStory}
use Rattle.zk_inspect.specs.declared.check.finding.Number.TheVariants.{CodeBelowTheStaticBase}
use Rattle.zk_inspect.specs.Findings.{AreFindings, Finds}
use Rattle.zk_inspect.proofs.FindingLaw.{findings_are_all}
use Rattle.zk_vm.specs.Inside.{StopsRead}
use Rattle.zk_vm.proofs.CleanRuns.{stays_clean, stops_read}
use Rattle.zk_program.specs.Verdict.{CleanWhereNone, HasCleanRuns, IsStart}

module _ (m : MemoryMap) (bytes : HasBytes m) (none : (n : Number) (a : ℕ) → Finds m n a → ⊥) where
  found : (a : ℕ) (r : Result Instr Fault) → IsReached m a → instr_at m a ≡ r → (i : Instr) × IsInstruction m a i i.next
  unfolding Finds
  found a (Ok i) reached e = (i, found_at m a i bytes e)
  found a (Err f) reached e =
      absurd (none UndecodableCode a
      (record { reached = reached; none = λ i b s. absurd (let k = only_at m a i b s in cc) }))

  clean : IsClean m (IsReached m)
  unfolding Finds
  clean = record {
    closed = is_closed m _;
    decodes = λ a reached. found a (instr_at m a) reached refl;
    inside =
        λ a b i reached stands leads. none TargetOutOfTheStory a
        (record { next = b; instr = i; reached = reached; stands = stands; leads = leads });
    above = λ a b i reached stands low. none CodeBelowTheStaticBase a
        (record { next = b; instr = i; reached = reached; stands = stands; low = low });
  }

pub has_clean_runs : (m : MemoryMap) (fs : List Finding) → HasBytes m → IsStart m → AreFindings m fs → fs ≡ []
    → HasCleanRuns m
has_clean_runs m fs bytes start h e =
    let code = clean m bytes ((findings_are_all m fs h).none.0 e) in
    let runs = stays_clean m.file m.setup (IsReached m) start.story
    (subst (λ (n : MemoryMap). IsClean n (IsReached m)) start.fresh_is code) in
    record { code = code; runs = runs; stops = stops_read m.file (IsReached m) runs }

pub stops_where_none : (m : MemoryMap) (fs : List Finding) → HasBytes m → IsStart m → AreFindings m fs → fs ≡ []
    → StopsRead m.file (IsReached m)
stops_where_none m fs bytes start h e = (has_clean_runs m fs bytes start h e).stops

pub clean_where_none : CleanWhereNone
clean_where_none m bytes start h = has_clean_runs m [] bytes start h refl

-- a memory that was started from a story is at its start
pub starts : (m : MemoryMap) (story : List ℕ) (k : Setup) → m ≡ fresh story k → refusal story ≡ None → IsStart m
unfolding fresh
starts m story k e is = subst IsStart (sym e) (record { story = is; fresh_is = refl })
