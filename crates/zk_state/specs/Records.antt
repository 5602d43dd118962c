-- The records of frames.
use Rattle.std.specs.Prelude.{◌≡◌, ℕ, ◌<◌, List, length, take, slice_index_or, None}
use Rattle.zk_state.specs.declared.records.FrameRecord.{FrameRecord}
use Rattle.zk_state.specs.declared.records.Records.TheInside.{Inside}

-- the record of the first frame
abbrev pub first_record : FrameRecord
first_record = record { base = 0; stack_base = 0; pc = 0; start = 0; result = None; supplied = 0 }

-- the current record, those of its callers with the newest last, and how many there may be
pub record RecordList : Type 0 where
  pub callers : List FrameRecord
  pub current : FrameRecord
  pub most : ℕ

-- the record after those of all callers
abbrev pub current_of : Inside → FrameRecord
current_of r = slice_index_or r.all.items r.depth first_record

-- the records that contracts speak of
abbrev pub records_of : Inside → RecordList
records_of r = record { callers = take r.depth r.all.items; current = current_of r; most = length r.all.items }

-- there is a current record, and what is kept beside the records is what it has
pub record AreRecords (r : Inside) : Type 0 where
  pub depth : r.depth < length r.all.items
  pub base : r.base ≡ (current_of r).base
  pub stack_base : r.stack_base ≡ (current_of r).stack_base
