-- Code that leads straight on to a call.
use Rattle.std.proofs.Common.{◌≡◌, ◌<◌, ◌≤◌, ◌⊎◌, ℕ, Option, Result, Ok, arith, refl, sym, subst, inl, inr}
use Rattle.zk_mem.specs.declared.fault.Fault.{Fault}
use Rattle.zk_mem.specs.Map.{MemoryMap, HasBytes}
use Rattle.zk_code.specs.declared.instr.Instr.{Instr}
use Rattle.zk_code.specs.Reading.{instr_at}
use Rattle.zk_code.proofs.Longer.{ends_inside}
use Rattle.zk_code.proofs.Whole.{is_found}
use Rattle.zk_vm.specs.Calls.{IsCallTo, StandsCallTo, CodeLeads}
use Rattle.zk_vm.specs.Calls.CodeLeads.{Here, Behind}

same_instr : (i j : Instr) (r : Result Instr Fault) → r ≡ Ok i → r ≡ Ok j → i ≡ j
same_instr i j r h k = cc

pub goes_up : (m : MemoryMap) (a : ℕ) (i : Instr) → HasBytes m → instr_at m a ≡ Ok i → a < i.next
goes_up m a i has e = (ends_inside m a i i.next (is_found m a (Ok i) has (sym e))).0

leads_up : (m : MemoryMap) (a b : ℕ) → HasBytes m → CodeLeads m a b → a ≤ b
leads_up m _ _ has (Here a) = omega arith
leads_up m _ _ has (Behind a b i e h) = omega (arith, goes_up m a i has e, leads_up m i.next b has h)

call_below : (m : MemoryMap) (routine : Option ℕ) (goes_on a : ℕ) → HasBytes m → StandsCallTo m routine goes_on a
    → a < goes_on
call_below m routine goes_on a has (i, e, is) = omega (arith, goes_up m a i has e, is.next)

-- from an instruction code leads to its own address, or on from what stands after it
leads_on : (m : MemoryMap) (a b : ℕ) (i : Instr) → instr_at m a ≡ Ok i → CodeLeads m a b
    → (a ≡ b) ⊎ CodeLeads m i.next b
leads_on m _ _ i e (Here a) = inl refl
leads_on m _ _ i e (Behind a b j k h) =
    inr (let same : j ≡ i = same_instr j i (instr_at m a) k e in let P : Instr
    → Type 0 = λ x. CodeLeads m x.next b in subst P same h)

-- past the address where the caller goes on code leads to no such call
pub past : (m : MemoryMap) (routine : Option ℕ) (goes_on a b : ℕ) → HasBytes m → goes_on ≤ a → CodeLeads m a b
    → StandsCallTo m routine goes_on b → ⊥
past m routine goes_on a b has le h t = omega (arith, leads_up m a b has h, call_below m routine goes_on b has t)

-- from an instruction that is no such call, code leads to one from what stands after it
pub passed : (m : MemoryMap) (routine : Option ℕ) (goes_on a b : ℕ) (i : Instr) → instr_at m a ≡ Ok i
    → (IsCallTo m routine goes_on i → ⊥) → CodeLeads m a b → StandsCallTo m routine goes_on b → CodeLeads m i.next b
passed m routine goes_on a b i e other h t =
    elim (leads_on m a b i e h) [ inl same ↦ absurd (other (call_here m routine goes_on a b i e same t)) | inr on ↦ on ]
  where
    call_here : (m : MemoryMap) (routine : Option ℕ) (goes_on a b : ℕ) (i : Instr) → instr_at m a ≡ Ok i → a ≡ b
        → StandsCallTo m routine goes_on b → IsCallTo m routine goes_on i
    call_here m routine goes_on a b i e same (j, k, is) =
        let one : j ≡ i = same_instr j i (instr_at m a) (rw same k) e in let P : Instr
        → Type 0 = λ x. IsCallTo m routine goes_on x in subst P one is

-- from such a call to no other
pub only : (m : MemoryMap) (routine : Option ℕ) (goes_on a b : ℕ) (i : Instr) → HasBytes m → instr_at m a ≡ Ok i
    → i.next ≡ goes_on → CodeLeads m a b → StandsCallTo m routine goes_on b → a ≡ b
only m routine goes_on a b i has e next h t =
    elim (leads_on m a b i e h) [
      | inl same ↦ same
      | inr on ↦ absurd (past m routine goes_on i.next b has (omega (arith, next)) on t)
    ]
