use Rattle.std.proofs.Common.{◌≡◌, true, Some, None, sym, ap, subst, ◌∙◌}
use Rattle.std.specs.Option.{option_copied_mut}
use Rattle.std.specs.Prelude.{is_some}
use Rattle.fabric_lemmas.specs.Maps.{at, rises}
use Rattle.unit_rules.specs.Starts.{Replicas, called, replica_of}
use Rattle.keep_log.specs.Items.{recorded}
use Rattle.keep_log.specs.Places.{is_row, row_call}
use Rattle.keep_log.specs.Taking.{Takes}
use Rattle.keep_log.proofs.MapEntries.{lookup-is, rises_from-set}
use Rattle.keep_log.proofs.Seating.{not_none, takes_there}
use Rattle.keep_log.proofs.replica_map.ReplicaMap.take_standing.Goals as goal

pub unreachable-requires : goal.unreachable-requires
unreachable-requires c =
    let es = c.self.inside.map.entries in
    let there : is_some (at c.args.partition es) ≡ true = ap (λ (m : Replicas). is_some (at c.args.partition m)) c.self.view_is ∙ c.requires.there in
    let none : at c.args.partition es ≡ None =
    sym (lookup-is c.args.partition es) ∙ (sym c.get_mut.ensures.value ∙ ap option_copied_mut c.in-None.is) in
    not_none (at c.args.partition es) there none

pub invariant_of-self : goal.invariant_of-self
invariant_of-self c =
    let es = c.self.inside.map.entries in
    let w = c.take_row.new.replica in
    ap rises (c.get_mut.follows.holds w).0 ∙ (rises_from-set 0 c.args.partition w es ∙ c.self.invariant)

pub returns : goal.returns
returns c =
    let es = c.self.inside.map.entries in
    let w = c.take_row.new.replica in
    let r = recorded c.args.item in
    let new : Replicas = (c.get_mut.follows.lender w).entries in
    let P : Replicas → Type 0 = λ m. Takes (is_row r (replica_of c.args.partition m)) (called c.args.partition (row_call r) m) new c.take_row.result in
    let found : at c.args.partition es ≡ Some c.in-Some.replica.now =
    sym (lookup-is c.args.partition es) ∙ (sym c.get_mut.ensures.value ∙ ap option_copied_mut c.in-Some.is) in
    subst P c.self.view_is
    (takes_there c.args.partition r es new c.in-Some.replica.now w c.take_row.result c.self.invariant found (c.get_mut.follows.holds w).0 c.take_row.ensures)
