-- States are kept from version 5 on alone.
use Rattle.std.proofs.Common.{◌≡◌, ◌≤◌, ℕ, Bool, true, false, ◌&&◌, List, [], ◌∷◌, Some, refl, sym, ap, ◌∙◌, inl, inr}
use Rattle.std.specs.Prelude.{◌==◌, not}
use Rattle.std.specs.List.{list_all}
use Rattle.zk_mem.specs.Map.{MemoryMap}
use Rattle.zk_code.specs.declared.instr.Instr.{Instr}
use Rattle.zk_code.specs.declared.opcode.Opcode.{Opcode}
use Rattle.zk_code.specs.declared.opcode.Opcode.TheVariants as opcode
use Rattle.zk_code.specs.declared.opcode.Saving.TheVariants.{SaveUndo}
use Rattle.zk_code.specs.declared.table.OpcodeRow.{OpcodeRow}
use Rattle.zk_code.specs.Grammar.{IsInstruction, Form, IsForm, entry_of}
use Rattle.zk_code.specs.Grammar.Form.{Long2OP, Short1OP, Short0OP, Variable2OP, VariableVAR, DoubleVariable, Extended}
use Rattle.zk_code.specs.Table.{Row, entry_in, has_version, two_operand, one_operand, zero_operand, variable_operand}
use Rattle.zk_code.specs.Table.{two_operand_rows, one_operand_rows, zero_operand_rows, variable_operand_rows}
use Rattle.zk_code.proofs.Standing.{chosen, some_is}

-- an opcode keeps a state
abbrev keeps : Opcode → Bool
keeps (opcode.Saving SaveUndo) = true
keeps _ = false

first_is : (x y : Bool) → (x && y) ≡ true → (x ≡ true) × (y ≡ true)
first_is true y h = (refl, h)
first_is false y h = absurd cc

-- a table without such an opcode gives none
none_in : (v n : ℕ) (rows : List Row) (e : OpcodeRow) → list_all (λ (r : Row). not (keeps r.entry.opcode))
    rows ≡ true → entry_in v n rows ≡ Some e → keeps e.opcode ≡ true → ⊥
none_in v n [] e h s k = absurd cc
none_in v n (r ∷ rs) e h s k =
    let both = first_is _ _ h in
    elim (chosen ((n == r.number) && has_version r.versions v) (Some r.entry) (entry_in v n rs) (Some e) s) [
      | inl p ↦ absurd (let same : r.entry ≡ e = some_is _ _ p.1 in
          let loud : not (keeps r.entry.opcode) ≡ true = both.0 in
          let quiet : keeps r.entry.opcode ≡ true = ap (λ (x : OpcodeRow). keeps x.opcode) same ∙ k in cc)
      | inr p ↦ none_in v n rs e both.1 p.1 k
    ]

from_five : (v : ℕ) (form : Form) (e : OpcodeRow) → IsForm v form → entry_of v form ≡ Some e
    → keeps e.opcode ≡ true → 5 ≤ v
unfolding two_operand one_operand zero_operand variable_operand
from_five v (Long2OP n t u) e f s k = absurd (none_in v n two_operand_rows e refl s k)
from_five v (Short1OP n t) e f s k = absurd (none_in v n one_operand_rows e refl s k)
from_five v (Short0OP n) e f s k = absurd (none_in v n zero_operand_rows e refl s k)
from_five v (Variable2OP n t) e f s k = absurd (none_in v n two_operand_rows e refl s k)
from_five v (VariableVAR n t) e f s k = absurd (none_in v n variable_operand_rows e refl s k)
from_five v (DoubleVariable n t u) e f s k = absurd (none_in v n variable_operand_rows e refl s k)
from_five v (Extended n t) e f s k = f

-- `save_undo` stands in stories of version 5 and later alone (section 14, EXT)
pub saved_from_five : (m : MemoryMap) (a : ℕ) (i : Instr) (b : ℕ) → IsInstruction m a i b
    → i.opcode ≡ opcode.Saving SaveUndo → 5 ≤ m.version
saved_from_five m a i b p e =
    from_five m.version p.0.form p.0.entry p.0.is_form p.0.listed (ap keeps (sym p.0.opcode ∙ e))
