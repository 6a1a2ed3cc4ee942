use Rattle.std.proofs.Common.{◌≡◌, drop, fold}
use Rattle.again_choice.specs.Dones.{done_with_record}
use Rattle.again_choice.proofs.done.push_records.Given as goal

-- the records that are left make of the list what all make
abbrev pub invariant-loop-record : goal.invariant-loop-record
invariant-loop-record l =
    fold done_with_record l.list.items (drop l.record-index l.records) ≡ fold done_with_record l.fn.list.items l.records
