use Rattle.std.proofs.Common.{refl}
use Rattle.unit_desk.specs.declared.unit_effects.UnitEffects.{UnitEffects}
use Rattle.unit_replica.proofs.Appends.{left_told, room_left}
use Rattle.unit_replica.proofs.write.tell_written.Goals as goal

pub returns-clause-left : goal.returns-clause-left
returns-clause-left c =
    let after : UnitEffects = record { records = c.accept.new.effects.records; out = c.append_to_all.new.out; told = c.accept.new.effects.told } in
    left_told c.partition.result c.at-epoch.result c.last_of-lsn.result c.as_slice.result.now c.peers.result.now c.args.replica.now c.args.text.now c.args.progress.now
    c.args.effects.now c.accept.new.effects after c.partition.ensures c.at-epoch.ensures c.last_of-lsn.ensures.last c.as_slice.ensures.bytes c.peers.ensures.peers
    c.accept.ensures.left refl refl c.append_to_all.ensures.sent

pub returns-clause-room : goal.returns-clause-room
returns-clause-room c =
    let after : UnitEffects = record { records = c.accept.new.effects.records; out = c.append_to_all.new.out; told = c.accept.new.effects.told } in
    room_left c.partition.result c.at-epoch.result c.last_of-lsn.result c.args.text.now c.as_slice.result.now c.args.replica.now c.peers.result.now
    c.args.effects.now c.accept.new.effects after c.requires c.peers.ensures.few c.accept.ensures.left refl refl c.append_to_all.ensures.sent
