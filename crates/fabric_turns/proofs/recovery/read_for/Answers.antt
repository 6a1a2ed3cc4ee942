use Rattle.std.proofs.Common.{length, map, sym}
use Rattle.std.specs.Prelude.{vec_items}
use Rattle.std.proofs.lemmas.List.{length-map}
use Rattle.fabric_turns.proofs.Recalling.{read_good}
use Rattle.fabric_turns.proofs.recovery.read_for.Goals as goal

pub returns-then-is_of_kind : goal.returns-then-is_of_kind
returns-then-is_of_kind c =
    read_good c.args.actor (map vec_items c.args.records.now) c.in-Ok.kept (length c.args.records.now) c.is_of_kind.result (sym (length-map c.args.records.now vec_items)) c.in-Ok.ensures.reads c.in-Ok.ensures.once c.in-Ok.ensures.placed
    c.is_of_kind.ensures c.if-is_of_kind.true
