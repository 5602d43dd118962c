-- What is found of each number.
use Rattle.std.proofs.Common.{◌≡◌, ◌∙◌, ℕ, ◌<◌, Bool, true, false, List, [], ◌∷◌, length, None, Result, Ok, Err, refl}
use Rattle.std.proofs.Common.{sym, ap, subst, arith, nat_lt, if◌then◌else◌}
use Rattle.std.specs.Prelude.{◌↔◌, not, is_err}
use Rattle.std.specs.List.{filter}
use Rattle.std.proofs.lemmas.Bool.Decides.{Decides-ltb, Decides-or}
use Rattle.zk_mem.specs.declared.fault.Fault.{Fault}
use Rattle.zk_mem.specs.Checksum.{has_right_sum, stated_length}
use Rattle.zk_mem.specs.Map.{MemoryMap, HasBytes}
use Rattle.zk_code.specs.declared.branch.Branch.{Branch}
use Rattle.zk_code.specs.declared.branch.BranchTarget.{BranchTarget}
use Rattle.zk_code.specs.declared.branch.BranchTarget.TheVariants.{Below, Past}
use Rattle.zk_code.specs.declared.instr.Instr.{Instr}
use Rattle.zk_code.specs.Clean.{IsOutside, LeadsOut, IsLow}
use Rattle.zk_code.specs.Grammar.{IsInstruction}
use Rattle.zk_code.specs.Reach.{IsReached, constant_call, constant_jump}
use Rattle.zk_code.specs.Reading.{instr_at}
use Rattle.zk_code.specs.Routines.{count_at}
use Rattle.zk_code.proofs.Whole.{found_at, only_at}
use Rattle.zk_inspect.specs.declared.reach.code.Code.{Code}
use Rattle.zk_inspect.specs.declared.check.finding.Number.TheVariants.{Checksum, Length, UndecodableCode}
use Rattle.zk_inspect.specs.declared.check.finding.Number.TheVariants.{TargetOutOfTheStory, CodeBelowTheStaticBase}
use Rattle.zk_inspect.specs.Codes.{IsCodeOf}
use Rattle.zk_inspect.specs.Findings.{Finds, IsLeadingOut, IsLowCode}
use Rattle.zk_inspect.specs.Lists.{IsListOf}
use Rattle.zk_inspect.specs.Tests.{is_undecodable, is_outside, branches_out, jumps_out, calls_out, instr_leads_out}
use Rattle.zk_inspect.specs.Tests.{found_leads_out, leads_out, calls_low, instr_is_low, found_is_low, is_low}
use Rattle.zk_inspect.specs.Tests.{code_answer, code_number}
use Rattle.zk_inspect.specs.declared.check.CodeQuestion.{CodeQuestion}
use Rattle.zk_inspect.specs.declared.check.CodeQuestion.TheVariants as question
use Rattle.zk_inspect.proofs.Deciding.{none_decides, some_decides, three_decide}
use Rattle.zk_inspect.proofs.Listed.{list_if, list_filter}

pub wrong_checksum : (m : MemoryMap) (xs : List ℕ) (ok : Bool) → ok ≡ has_right_sum m.file
    → xs ≡ (if not ok then 0x1c ∷ [] else []) → IsListOf (Finds m Checksum) xs
unfolding Finds
wrong_checksum m xs true e k =
    subst (IsListOf (Finds m Checksum)) (sym k) (list_if (Finds m Checksum) 0x1c false (λ h. absurd cc)
    (λ b p. (p.0, absurd (let q = p.1 in cc))))
wrong_checksum m xs false e k =
    subst (IsListOf (Finds m Checksum)) (sym k) (list_if (Finds m Checksum) 0x1c true (λ h. (refl, sym e))
    (λ b p. (p.0, refl)))

pub length_past_end : (m : MemoryMap) (xs : List ℕ) (n stated : ℕ) → n ≡ length m.file
    → stated ≡ stated_length m.file → xs ≡ (if nat_lt n stated then 0x1a ∷ [] else []) → IsListOf (Finds m Length) xs
unfolding Finds
length_past_end m xs n stated size e k =
    subst (IsListOf (Finds m Length)) (sym k) (list_if (Finds m Length) 0x1a (nat_lt n stated)
    (λ h. (refl, let lt : n < stated = grind arith in omega arith))
    (λ b p. (p.0, let lt = p.1 in let l : n < stated = omega arith in grind arith)))

-- an address without an instruction
found_none : (m : MemoryMap) (a : ℕ) (r : Result Instr Fault) → instr_at m a ≡ r → is_err r ≡ true
    → (i : Instr) (b : ℕ) → IsInstruction m a i b → ⊥
found_none m a (Ok j) e h i b s = absurd cc
found_none m a (Err f) e h i b s = absurd (let k = only_at m a i b s in cc)

none_found : (m : MemoryMap) (a : ℕ) (r : Result Instr Fault) → HasBytes m → instr_at m a ≡ r
    → ((i : Instr) (b : ℕ) → IsInstruction m a i b → ⊥) → is_err r ≡ true
none_found m a (Ok j) bytes e h = absurd (h j j.next (found_at m a j bytes e))
none_found m a (Err f) bytes e h = refl

undecodable : (m : MemoryMap) (code : Code) (xs : List ℕ) → HasBytes m → IsCodeOf m code
    → xs ≡ filter (is_undecodable m) code.addresses → IsListOf (Finds m UndecodableCode) xs
unfolding Finds
undecodable m code xs bytes h k =
    subst (IsListOf (Finds m UndecodableCode)) (sym k) (list_filter (IsReached m) (Finds m UndecodableCode)
    (is_undecodable m) code.addresses h.addresses
    (λ a r t. record { reached = r; none = found_none m a (instr_at m a) refl t })
    (λ a p. (p.reached, none_found m a (instr_at m a) bytes refl p.none)))

-- ---- what leads out of the story

out_decides : (t : BranchTarget) → is_outside t ≡ true ↔ IsOutside t
out_decides (Below d) = (λ e. tt, λ h. refl)
out_decides (Past a) = (λ e. tt, λ h. refl)
out_decides t = (λ e. absurd cc, λ h. absurd h)

leads_decides : (m : MemoryMap) (i : Instr) → instr_leads_out m i ≡ true ↔ LeadsOut m i
leads_decides m i =
    three_decide _ _ _ (some_decides (λ (b : Branch). IsOutside b.target) branches_out
    refl (λ b. out_decides b.target) i.branch)
    (some_decides IsOutside jumps_out refl out_decides (constant_jump m i))
    (some_decides (λ r. count_at m r ≡ None) (calls_out m) refl (λ r. none_decides (count_at m r))
    (constant_call m i))

leading_by : (m : MemoryMap) (a : ℕ) (r : Result Instr Fault) → HasBytes m → IsReached m a → instr_at m a ≡ r
    → found_leads_out m r ≡ true → IsLeadingOut m a
leading_by m a (Ok i) bytes reached e h =
    record {
      next = i.next;
      instr = i;
      reached = reached;
      stands = found_at m a i bytes e;
      leads = (leads_decides m i).0 h;
    }
leading_by m a (Err f) bytes reached e h = absurd cc

leading_test : (m : MemoryMap) (a : ℕ) → IsLeadingOut m a → leads_out m a ≡ true
leading_test m a p = ap (found_leads_out m) (only_at m a p.instr p.next p.stands) ∙ (leads_decides m p.instr).1 p.leads

leading_out : (m : MemoryMap) (code : Code) (xs : List ℕ) → HasBytes m → IsCodeOf m code
    → xs ≡ filter (leads_out m) code.addresses → IsListOf (Finds m TargetOutOfTheStory) xs
unfolding Finds
leading_out m code xs bytes h k =
    subst (IsListOf (Finds m TargetOutOfTheStory)) (sym k)
    (list_filter (IsReached m) (Finds m TargetOutOfTheStory) (leads_out m) code.addresses h.addresses
    (λ a r t. leading_by m a (instr_at m a) bytes r refl t)
    (λ a p. (p.reached, leading_test m a p)))

-- ---- what a run may rewrite

low_decides : (m : MemoryMap) (a : ℕ) (i : Instr) → instr_is_low m a i ≡ true ↔ IsLow m a i
low_decides m a i =
    Decides-or _ _ (Decides-ltb a m.static_base) (some_decides (λ r. r < m.static_base) (calls_low m)
    refl (λ r. Decides-ltb r m.static_base) (constant_call m i))

low_by : (m : MemoryMap) (a : ℕ) (r : Result Instr Fault) → HasBytes m → IsReached m a → instr_at m a ≡ r
    → found_is_low m a r ≡ true → IsLowCode m a
low_by m a (Ok i) bytes reached e h =
    record {
      next = i.next;
      instr = i;
      reached = reached;
      stands = found_at m a i bytes e;
      low = (low_decides m a i).0 h;
    }
low_by m a (Err f) bytes reached e h = absurd cc

pub low_code_test : (m : MemoryMap) (a : ℕ) → IsLowCode m a → is_low m a ≡ true
low_code_test m a p = ap (found_is_low m a) (only_at m a p.instr p.next p.stands) ∙ (low_decides m a p.instr).1 p.low

low_code : (m : MemoryMap) (code : Code) (xs : List ℕ) → HasBytes m → IsCodeOf m code
    → xs ≡ filter (is_low m) code.addresses → IsListOf (Finds m CodeBelowTheStaticBase) xs
unfolding Finds
low_code m code xs bytes h k =
    subst (IsListOf (Finds m CodeBelowTheStaticBase)) (sym k)
    (list_filter (IsReached m) (Finds m CodeBelowTheStaticBase) (is_low m) code.addresses h.addresses
    (λ a r t. low_by m a (instr_at m a) bytes r refl t)
    (λ a p. (p.reached, low_code_test m a p)))

-- what is found by a question
pub code_found : (q : CodeQuestion) (m : MemoryMap) (code : Code) (xs : List ℕ) → HasBytes m → IsCodeOf m code
    → xs ≡ filter (code_answer m q) code.addresses → IsListOf (Finds m (code_number q)) xs
code_found question.Undecodable m code xs bytes h k = undecodable m code xs bytes h k
code_found question.LeadsOut m code xs bytes h k = leading_out m code xs bytes h k
code_found question.Low m code xs bytes h k = low_code m code xs bytes h k
