use Rattle.std.proofs.Common.{◌≡◌, ◌≤◌, List, ap, subst, sym, ◌∙◌, arith, length, get_or}
use Rattle.std.proofs.lemmas.Bool.{ltb-false}
use Rattle.unit_rules.specs.Fabric.{fabric}
use Rattle.node_core.specs.Nodes.{Core}
use Rattle.unit_replica.specs.Tables.{replica_at}
use Rattle.world_rules.specs.Nodes.{NodeState}
use Rattle.unit_rules.specs.Ruled.{ruled}
use Rattle.ring_world.specs.Replicas.{replica_of_running}
use Rattle.ring_world.specs.declared.running.Running.{Running}
use Rattle.ring_world.proofs.NodePlaces.{placed, read_at}
use Rattle.ring_world.proofs.world.World.replica.Goals as goal

pub returns-in_err-running : goal.returns-in_err-running
returns-in_err-running c = λ config h stands.
    let place = c.in_ok-place.place in
    let here = c.in_ok-place.ensures (ruled config h) stands.keeps.state in
    let at = placed c.args.self.now (ruled config h) place c.args.node here.value stands.keeps.state here.here in
    let within = at.within in
    let past : length c.args.self.now.running.items ≤ place =
    subst (λ (rs : List Running). length rs ≤ place) c.deref.ensures.value (ltb-false place (length c.deref.result.now) (sym c.in_err-running.ensures.lookup.0)) in
    let no : ⊥ = omega (arith, past, within) in
    absurd no

pub returns : goal.returns
returns c = λ config h stands.
    let partition = c.args.partition in
    let place = c.in_ok-place.place in
    let running = c.in_ok-running.running.now in
    let here = c.in_ok-place.ensures (ruled config h) stands.keeps.state in
    let at = placed c.args.self.now (ruled config h) place c.args.node here.value stands.keeps.state here.here in
    let code : running ≡ at.code =
    read_at c.args.self.now.running.items place at.code running at.here
    (subst (λ (rs : List Running). running ≡ get_or rs place running) c.deref.ensures.value c.in_ok-running.ensures.lookup.1) in
    c.replica.ensures
    ∙ (ap (λ (n : Core). replica_at partition n.state.above.states) c.deref-2.ensures
    ∙ (ap (λ (r : Running). replica_at partition r.node.value.state.above.states) code
    ∙ (ap (λ (n : NodeState fabric). replica_at partition n.above.states) at.runs.node ∙ ap (replica_of_running partition) (sym here.found))))
