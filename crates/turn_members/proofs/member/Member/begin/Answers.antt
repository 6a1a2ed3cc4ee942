use Rattle.std.proofs.Common.{List, Some, ap, refl, ◌∙◌}
use Rattle.fabric_lemmas.specs.Maps.{rises}
use Rattle.replica_core.specs.Replicas.{Replica}
use Rattle.turn_members.proofs.Lives.{begun_runs, begun_writes, both_map}
use Rattle.turn_members.proofs.member.Member.begin.Goals as goal
use Rattle.unit_replica.proofs.Kept.{starts_lem}
use Rattle.unit_replica.specs.Starts.{states_of}

pub returns-clause-deed : goal.returns-clause-deed
returns-clause-deed c =
    let k = c.requires.kept in
    both_map c.begin_any.result (λ r d on. begun_writes c.args.config.now c.args.whole c.args.actor c.args.now k.0 r.0 r.1 c.requires.sound c.requires.configured k.1.good (d k.0 (Some c.args.now) k.1 refl)) c.begin_any.ensures.does c.begin_any.ensures.goes_on

pub returns-clause-runs : goal.returns-clause-runs
returns-clause-runs c =
    let k = c.requires.kept in
    both_map c.begin_any.result (λ r d on. begun_runs c.args.config.now c.args.whole c.args.actor c.args.now k.0 r.0 r.1 c.requires.sound c.requires.configured k.1.good (d k.0 (Some c.args.now) k.1 refl) on) c.begin_any.ensures.does c.begin_any.ensures.goes_on

-- replicas to which records amount rise by partition
pub begin_any-requires-clause-replicas : goal.begin_any-requires-clause-replicas
begin_any-requires-clause-replicas c =
    let k = c.requires.kept in
    ap (λ (rs : List Replica). rises (states_of rs)) k.1.holds.replicas ∙ (starts_lem k.0).rises
