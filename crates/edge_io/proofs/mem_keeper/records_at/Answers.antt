use Rattle.std.proofs.Common.{ap, sym, ◌∙◌, map, vec_items}
use Rattle.edge_io.proofs.ToldLists.{records_of_at, records_of_none}
use Rattle.edge_io.proofs.mem_keeper.records_at.Goals as goal

pub returns-in-Some : goal.returns-in-Some
returns-in-Some c = ap (map vec_items) c.deref.ensures.value ∙ sym (records_of_at c.args.lists.now c.in-Some.place c.args.actor c.index-lists-place.result (sym c.in-Some.ensures))

pub returns-in-None : goal.returns-in-None
returns-in-None c = sym (records_of_none c.args.lists.now c.args.actor (sym c.in-None.ensures))
