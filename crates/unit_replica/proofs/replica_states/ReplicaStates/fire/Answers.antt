use Rattle.std.proofs.Common.{◌≡◌, ◌+◌, ◌*◌, ◌++◌, ◌∙◌, List, length, refl, ap, sym, arith}
use Rattle.std.proofs.lemmas.List.{length-map}
use Rattle.std.specs.Prelude.{flat_map}
use Rattle.std.specs.Map.{values_of}
use Rattle.ring_points.specs.declared.who.Who.{Who}
use Rattle.fabric_terms.specs.declared.message.Body.{Body}
use Rattle.fabric_terms.specs.declared.message.Message.{Message}
use Rattle.fabric_terms.specs.Sent.{from_all}
use Rattle.unit_rules.specs.Deeds.{Deed, frames_of}
use Rattle.unit_rules.specs.ReplicaStates.{ReplicaState}
use Rattle.unit_rules.specs.Writes.{state_fired}
use Rattle.unit_replica.specs.Limits.{most_peers}
use Rattle.unit_replica.specs.Tables.{ReplicaStates, fired}
use Rattle.unit_replica.proofs.Fired.{few_fired, fired_values, one_fired}
use Rattle.unit_replica.proofs.replica_states.ReplicaStates.fire.Goals as goal

pub loop-state-init : goal.loop-state-init
loop-state-init c =
    let es : ReplicaStates = c.self.inside.map.entries in
    let states : c.into_iter-state-iterator.result ≡ values_of es = c.into_iter-state-iterator.ensures.into_iter_gives ∙ c.values-state-items.ensures.rest in
    let all : flat_map state_fired c.into_iter-state-iterator.result ≡ fired c.args.self.now =
    ap (λ (l : List ReplicaState). flat_map state_fired l) states ∙ (sym (fired_values es) ∙ ap fired c.self.view_is) in
    let many : length c.into_iter-state-iterator.result ≡ length c.args.self.now =
    ap (λ (l : List ReplicaState). length l) states ∙ (length-map es _ ∙ ap (λ (m : ReplicaStates). length m) c.self.view_is) in
    record {
      so_far = ap (λ (ds : List Deed). c.args.frames.now.items ++ from_all c.args.from (frames_of ds)) all;
      few = omega (arith, many);
      room = refl;
      clear = c.requires.clear;
    }

pub loop-state-preserved : goal.loop-state-preserved
loop-state-preserved c =
    let s : ReplicaState = c.in-Some.state.now in
    let all = length c.args.frames.now.items + most_peers * length c.args.self.now in
    let now = c.loop-state.frames.items in
    let next = c.hand_over.new.frames.items in
    let own : List Message = from_all c.args.from (frames_of (state_fired s)) in
    let out : c.state_fired.new.out ≡ frames_of (state_fired s) =
    c.state_fired.ensures.sent ∙ ap (λ (ms : List (Who × Body)). ms ++ frames_of (state_fired s)) c.loop-state.invariant.clear in
    let sent : next ≡ now ++ own = c.hand_over.ensures.frames ∙ ap (λ (ms : List (Who × Body)). now ++ from_all c.args.from ms) out in
    record {
      so_far = one_fired c.args.from s c.next.new.self now next sent
          ∙ (ap (λ (l : List ReplicaState). now ++ from_all c.args.from (frames_of (flat_map state_fired l))) (sym c.in-Some.ensures.steps)
          ∙ c.loop-state.invariant.so_far);
      few = few_fired c.args.from s c.loop-state.state-iterator c.next.new.self all now next c.loop-state.out c.state_fired.new.out c.in-Some.ensures.steps
          c.hand_over.ensures.frames c.loop-state.invariant.clear c.state_fired.ensures.few c.loop-state.invariant.few;
      room = c.hand_over.ensures.room ∙ c.loop-state.invariant.room;
      clear = c.hand_over.ensures.emptied;
    }
