use Rattle.std.proofs.Common.{inl, refl}
use Rattle.serve_lives.proofs.Going.{IsRead, can_live, is_read, is_unread, listens_on, lived_once}
use Rattle.serve_lives.proofs.serving.live_once.Goals as goal

pub live_from-requires : goal.live_from-requires
live_from-requires g c =
    let plan = c.args.service.now.plan in
    let r : IsRead plan (g.O.Outside.told c.args.outside.now) c.in-Ok.kept (g.O.Outside.told c.recall.new.outside) = is_read plan c.actor.result (g.O.Outside.told c.args.outside.now) c.in-Ok.kept (g.O.Outside.told c.recall.new.outside) c.requires.service c.actor.ensures c.in-Ok.ensures in
    record {
      can = can_live plan c.args.live.sessions c.args.live (g.O.Outside.told c.args.outside.now) (g.O.Outside.told c.recall.new.outside) c.requires.service c.requires.listens r.recalls.only c.requires.fresh (c.requires.silent c.recall.new.outside);
      kept = (r.records, r.here);
    }

pub returns-in-Err : goal.returns-in-Err
returns-in-Err g c = record {
  goes = is_unread c.args.service.now.plan c.actor.result c.in-Err.cause c.args.live.sessions _ _ c.actor.ensures c.in-Err.ensures refl;
  listens = tt;
}

pub returns-in-Ok : goal.returns-in-Ok
returns-in-Ok g c =
    let plan = c.args.service.now.plan in
    let r : IsRead plan (g.O.Outside.told c.args.outside.now) c.in-Ok.kept (g.O.Outside.told c.recall.new.outside) = is_read plan c.actor.result (g.O.Outside.told c.args.outside.now) c.in-Ok.kept (g.O.Outside.told c.recall.new.outside) c.requires.service c.actor.ensures c.in-Ok.ensures in
    let once = lived_once plan c.args.live.sessions _ _ r.records c.live_from.result _ refl r.recalls (c.live_from.ensures r.records r.here) in
    record {
      goes = inl once;
      listens = listens_on plan c.args.live.sessions _ c.live_from.result _ once c.requires.listens;
    }
