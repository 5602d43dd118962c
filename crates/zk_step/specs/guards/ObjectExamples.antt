-- Worked examples of objects and properties, by hand from the Standard.
use Rattle.std.specs.Prelude.{◌≡◌, ℕ, List, [], ◌∷◌, ◌++◌, Some, None, Ok, true, false, replicate}
use Rattle.zk_mem.specs.Map.{MemoryMap}
use Rattle.zk_code.specs.declared.opcode.ObjectChange.TheVariants.{SetAttr, ClearAttr, InsertObj, RemoveObj, PutProp}
use Rattle.zk_code.specs.declared.opcode.ObjectQuestion.TheVariants.{Jin, TestAttr, GetProp, GetPropAddr, GetNextProp}
use Rattle.zk_code.specs.declared.opcode.ObjectQuestion.TheVariants.{GetPropLen, GetParent, GetSibling, GetChild}
use Rattle.zk_code.specs.declared.opcode.Printing.TheVariants.{PrintObj}
use Rattle.zk_step.specs.declared.state.ending.Output.TheVariants as output
use Rattle.zk_step.specs.Endings.{yields, yields_truth, prints}
use Rattle.zk_step.specs.Objects.{object_changed, object_answer}
use Rattle.zk_step.specs.Printing.{printing}
use Rattle.zk_step.specs.guards.Examples.{memory_of}

-- ---- objects and properties (sections 12 and 15), in version 3

-- the object table at 0: the default of property 7 is 0x0708; three entries from 62 on, of 9 bytes each; and from 89 on
-- a property table, with a name of one word, property 5 of one byte at 93 and property 3 of two bytes at 95
abbrev pub with_objects : List ℕ → List ℕ → List ℕ → List ℕ → MemoryMap
with_objects first second third properties =
    memory_of 3 (replicate 12 0 ++ 7 ∷ 8 ∷ [] ++ replicate 48 0 ++ first ++ second ++ third ++ 1 ∷ 0x98 ∷ 0xe8
    ∷ [] ++ properties)

-- object 2 has the children 1 and 3; object 1 has the attributes 0 and 31
abbrev pub three_objects : MemoryMap
three_objects =
    with_objects (0x80 ∷ 0 ∷ 0 ∷ 1 ∷ 2 ∷ 3 ∷ 0 ∷ 0 ∷ 89 ∷ []) (0 ∷ 0 ∷ 0 ∷ 0 ∷ 0 ∷ 0 ∷ 1 ∷ 0 ∷ 89 ∷ [])
    (0 ∷ 0 ∷ 0 ∷ 0 ∷ 2 ∷ 0 ∷ 0 ∷ 0 ∷ 89 ∷ []) (5 ∷ 0x2a ∷ 35 ∷ 1 ∷ 2 ∷ 0 ∷ [])

-- an object and whether it is one: 3 is, 0 is none (section 15, `get_parent`, `get_sibling`, `get_child`, `jin`)
abbrev pub FindsRelatives : Type 0
FindsRelatives =
    (object_answer GetParent three_objects 1 0 ≡ Ok (yields 2))
    × (object_answer GetSibling three_objects 1 0 ≡ Ok (record { result = Some 3; truth = Some true }))
    × (object_answer GetSibling three_objects 3 0 ≡ Ok (record { result = Some 0; truth = Some false }))
    × (object_answer GetChild three_objects 2 0 ≡ Ok (record { result = Some 1; truth = Some true }))
    × (object_answer GetChild three_objects 1 0 ≡ Ok (record { result = Some 0; truth = Some false }))
    × (object_answer Jin three_objects 1 2 ≡ Ok (yields_truth true))
    × (object_answer Jin three_objects 1 3 ≡ Ok (yields_truth false))

-- attributes 0 and 31 of object 1 are there and 1 is not; 7 is given, and 0 taken (section 15, `test_attr`,
-- `set_attr`, `clear_attr`)
abbrev pub AttributesOfObjects : Type 0
AttributesOfObjects =
    (object_answer TestAttr three_objects 1 0 ≡ Ok (yields_truth true))
    × (object_answer TestAttr three_objects 1 31 ≡ Ok (yields_truth true))
    × (object_answer TestAttr three_objects 1 1 ≡ Ok (yields_truth false))
    × (object_changed SetAttr three_objects 1 7 0 ≡ Ok (with_objects (0x81 ∷ 0 ∷ 0 ∷ 1 ∷ 2 ∷ 3 ∷ 0 ∷ 0 ∷ 89 ∷ [])
    (0 ∷ 0 ∷ 0 ∷ 0 ∷ 0 ∷ 0 ∷ 1 ∷ 0 ∷ 89 ∷ []) (0 ∷ 0 ∷ 0 ∷ 0 ∷ 2 ∷ 0 ∷ 0 ∷ 0 ∷ 89 ∷ [])
    (5 ∷ 0x2a ∷ 35 ∷ 1 ∷ 2 ∷ 0 ∷ [])))
    × (object_changed ClearAttr three_objects 1 0 0 ≡ Ok
    (with_objects (0 ∷ 0 ∷ 0 ∷ 1 ∷ 2 ∷ 3 ∷ 0 ∷ 0 ∷ 89 ∷ []) (0 ∷ 0 ∷ 0 ∷ 0 ∷ 0 ∷ 0 ∷ 1 ∷ 0 ∷ 89 ∷ [])
    (0 ∷ 0 ∷ 0 ∷ 0 ∷ 2 ∷ 0 ∷ 0 ∷ 0 ∷ 89 ∷ []) (5 ∷ 0x2a ∷ 35 ∷ 1 ∷ 2 ∷ 0 ∷ [])))

-- `insert_obj` puts its first operand into its second: 3 into 1; `remove_obj` takes 1 out, and 3 stays in 2 (section
-- 15, `insert_obj`, `remove_obj`)
abbrev pub ObjectsMove : Type 0
ObjectsMove =
    (object_changed InsertObj three_objects 3 1 0 ≡ Ok (with_objects (0x80 ∷ 0 ∷ 0 ∷ 1 ∷ 2 ∷ 0 ∷ 3 ∷ 0 ∷ 89 ∷ [])
    (0 ∷ 0 ∷ 0 ∷ 0 ∷ 0 ∷ 0 ∷ 1 ∷ 0 ∷ 89 ∷ []) (0 ∷ 0 ∷ 0 ∷ 0 ∷ 1 ∷ 0 ∷ 0 ∷ 0 ∷ 89 ∷ [])
    (5 ∷ 0x2a ∷ 35 ∷ 1 ∷ 2 ∷ 0 ∷ [])))
    × (object_changed RemoveObj three_objects 1 0 0 ≡ Ok
    (with_objects (0x80 ∷ 0 ∷ 0 ∷ 1 ∷ 0 ∷ 0 ∷ 0 ∷ 0 ∷ 89 ∷ []) (0 ∷ 0 ∷ 0 ∷ 0 ∷ 0 ∷ 0 ∷ 3 ∷ 0 ∷ 89 ∷ [])
    (0 ∷ 0 ∷ 0 ∷ 0 ∷ 2 ∷ 0 ∷ 0 ∷ 0 ∷ 89 ∷ []) (5 ∷ 0x2a ∷ 35 ∷ 1 ∷ 2 ∷ 0 ∷ [])))

-- property 5 is 0x2a, property 3 is 0x0102, and property 7, which is not there, has its default; `put_prop` names the
-- object, the property and the value (section 15, `get_prop`, `put_prop`)
abbrev pub PropertiesOfObjects : Type 0
PropertiesOfObjects =
    (object_answer GetProp three_objects 1 5 ≡ Ok (yields 0x2a))
    × (object_answer GetProp three_objects 1 3 ≡ Ok (yields 0x0102))
    × (object_answer GetProp three_objects 1 7 ≡ Ok (yields 0x0708))
    × (object_changed PutProp three_objects 1 3 0x1234 ≡ Ok
    (with_objects (0x80 ∷ 0 ∷ 0 ∷ 1 ∷ 2 ∷ 3 ∷ 0 ∷ 0 ∷ 89 ∷ []) (0 ∷ 0 ∷ 0 ∷ 0 ∷ 0 ∷ 0 ∷ 1 ∷ 0 ∷ 89 ∷ [])
    (0 ∷ 0 ∷ 0 ∷ 0 ∷ 2 ∷ 0 ∷ 0 ∷ 0 ∷ 89 ∷ []) (5 ∷ 0x2a ∷ 35 ∷ 0x12 ∷ 0x34 ∷ 0 ∷ [])))

-- the data of property 5 begins at 93 and that of 3 at 95, of 4 at 0; after 0 comes 5, after 5 comes 3; the data at
-- 95 has two bytes (section 15, `get_prop_addr`, `get_next_prop`, `get_prop_len`)
abbrev pub PropertiesHavePlaces : Type 0
PropertiesHavePlaces =
    (object_answer GetPropAddr three_objects 1 5 ≡ Ok (yields 93))
    × (object_answer GetPropAddr three_objects 1 3 ≡ Ok (yields 95))
    × (object_answer GetPropAddr three_objects 1 4 ≡ Ok (yields 0))
    × (object_answer GetNextProp three_objects 1 0 ≡ Ok (yields 5))
    × (object_answer GetNextProp three_objects 1 5 ≡ Ok (yields 3))
    × (object_answer GetPropLen three_objects 95 0 ≡ Ok (yields 2))
    × (object_answer GetPropLen three_objects 0 0 ≡ Ok (yields 0))

-- `print_obj` prints the name, the text at 90 (section 15, `print_obj`)
abbrev pub PrintsNames : Type 0
PrintsNames = printing PrintObj three_objects None (1 ∷ []) ≡ Ok (prints (output.Text 90))
