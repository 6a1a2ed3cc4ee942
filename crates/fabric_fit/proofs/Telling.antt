-- Numbers that a frame or a record can carry a line can too.
use Rattle.std.proofs.Common.{ℕ, IsTrue, arith}
use Rattle.std.proofs.lemmas.Bool.{and_parts, leb-true, ltb-true}
use Rattle.fabric_terms.specs.Fields.{is_epoch, is_last, is_short, is_unit, is_word}
use Rattle.fabric_terms.specs.Ranges.{IsEpoch, IsPartition, IsWord}
use Rattle.ring_points.specs.declared.unit.Epoch.{Epoch}

pub partition_told : (partition : ℕ) → IsTrue (is_short partition) → IsPartition partition
partition_told partition h = let few = ltb-true partition 65536 h in omega arith

pub epoch_told : (epoch : Epoch) → IsTrue (is_epoch epoch) → IsEpoch epoch
epoch_told epoch h =
    let parts = and_parts (is_word epoch.data_loss) (is_word epoch.configuration) h in
    (ltb-true epoch.data_loss 4294967296 parts.0, ltb-true epoch.configuration 4294967296 parts.1)

pub unit_told : (partition : ℕ) (epoch : Epoch) → IsTrue (is_unit partition epoch) → IsPartition partition × IsEpoch epoch
unit_told partition epoch h =
    let parts = and_parts (is_short partition) (is_epoch epoch) h in (partition_told partition parts.0, epoch_told epoch parts.1)

pub last_told : (last : ℕ) → IsTrue (is_last last) → IsWord last
last_told last h = let few = leb-true last 100000 h in omega arith

-- an entry of a log
pub entry_told : (partition : ℕ) (epoch : Epoch) (lsn : ℕ) → IsTrue (is_unit partition epoch) → IsTrue (is_last lsn) →
    IsPartition partition × IsEpoch epoch × IsWord lsn
entry_told partition epoch lsn h k = let unit = unit_told partition epoch h in (unit.0, unit.1, last_told lsn k)
