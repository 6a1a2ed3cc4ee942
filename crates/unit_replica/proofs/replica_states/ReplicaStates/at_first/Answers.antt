use Rattle.std.proofs.Common.{◌≡◌, ◌<◌, ◌∙◌, None, length, ap, subst, arith}
use Rattle.std.proofs.lemmas.Bool.Decides.{nat_tests}
use Rattle.std.specs.BTreeMap.{is_at}
use Rattle.std.specs.Map.{remove_entry}
use Rattle.std.specs.Ordering.{nat_cmp}
use Rattle.fabric_lemmas.specs.Maps.{at, put}
use Rattle.keep_log.proofs.MapEntries.{insert-is}
use Rattle.ring_points.specs.Limits.{most_partitions}
use Rattle.unit_rules.specs.Deeds.{still}
use Rattle.unit_rules.specs.ReplicaStates.{ReplicaState, first_state}
use Rattle.unit_desk.specs.UnitEffects.{Does}
use Rattle.unit_replica.specs.Tables.{ReplicaStates, at_state, row_of}
use Rattle.unit_replica.proofs.Counts.{put_fits, same_fits}
use Rattle.unit_replica.proofs.Places.{does_made, remove-put}
use Rattle.unit_replica.proofs.replica_states.ReplicaStates.at_first.Goals as goal

pub invariant_of-self-2 : goal.invariant_of-self-2
invariant_of-self-2 c =
    let es = c.self.inside.map.entries in
    let made : c.insert.new.self.entries ≡ put c.args.partition c.new-state.result es =
    c.in_ok-insert.ensures.entries ∙ insert-is c.args.partition c.new-state.result es in
    let room : length es < most_partitions = grind (arith, nat_tests, c.len.ensures.len, c.if-len-ge-MAX_PARTITIONS.false) in
    put_fits c.args.partition c.new-state.result es c.insert.new.self.entries made room c.self.invariant

-- what the refused row left is what stood before the replica was made
back : (c : goal.Joined-remove) → c.remove.new.self.entries ≡ c.self.inside.map.entries
back c =
    let es = c.self.inside.map.entries in
    let none : at c.args.partition es ≡ None = ap (λ (m : ReplicaStates). at c.args.partition m) c.self.view_is ∙ c.requires.none in
    let made : c.self-2.inside.map.entries ≡ put c.args.partition c.new-state.result es =
    c.self-2.view_is ∙ (c.in-Err.ensures.refused.0 ∙ (c.in_ok-insert.ensures.entries ∙ insert-is c.args.partition c.new-state.result es)) in
    c.remove.ensures.entries ∙ (ap (λ (m : ReplicaStates). remove_entry (is_at (nat_cmp c.args.partition)) m) made ∙ remove-put c.args.partition c.new-state.result es none)

pub invariant_of-self-in-Err : goal.invariant_of-self-in-Err
invariant_of-self-in-Err c = same_fits c.self.inside.map.entries c.remove.new.self.entries (back c) c.self.invariant

pub returns-in-Ok-clause-does : goal.returns-in-Ok-clause-does
returns-in-Ok-clause-does c =
    let es = c.self.inside.map.entries in
    let mid : ReplicaStates = c.insert.new.self.entries in
    let row = row_of c.args.me c.args.from c.args.body.now in
    let none : at c.args.partition es ≡ None = ap (λ (m : ReplicaStates). at c.args.partition m) c.self.view_is ∙ c.requires.none in
    let is : mid ≡ put c.args.partition (first_state c.args.partition) es =
    c.in_ok-insert.ensures.entries
    ∙ (insert-is c.args.partition c.new-state.result es ∙ ap (λ (s : ReplicaState). put c.args.partition s es) c.new-state.ensures) in
    subst (λ (m : ReplicaStates). Does (at_state c.args.partition row m) c.at_standing.new.self c.args.effects.now c.at_standing.new.effects) c.self.view_is
    (does_made c.args.partition row (still mid) es mid c.at_standing.new.self c.args.effects.now c.at_standing.new.effects c.self.invariant.rise none is c.in-Ok.ensures.does)

pub returns-in-Err-clause-refused : goal.returns-in-Err-clause-refused
returns-in-Err-clause-refused c = (back c ∙ c.self.view_is, c.in-Err.ensures.refused.1)
