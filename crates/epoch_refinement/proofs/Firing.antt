-- A firing of a whole node: all that stands asks and sends again.
use Rattle.std.proofs.Common.{◌≡◌, ℕ, ◌+◌, ◌<◌, ◌≤◌, Bool, true, false, cond, ◌==◌, nat_le, List, [], ◌∷◌, ◌++◌, Option, None, Some, refl, sym, ap, ◌∙◌, subst, inl, inr, arith}
use Rattle.std.proofs.lemmas.Bool.{and_parts, leb-true, eqb-true, eq-eqb}
use Rattle.std.specs.Prelude.{unwrap_or, map}
use Rattle.std.specs.List.{flat_map}
use Rattle.fabric_lemmas.specs.Maps.{at, rises_from}
use Rattle.fabric_lemmas.specs.Members.{IsMember}
use Rattle.ring_points.specs.declared.who.Who.{Who}
use Rattle.fabric_terms.specs.declared.message.Body.{Body}
use Rattle.replica_core.specs.declared.entry.Entry.{Entry}
use Rattle.epoch_machine.specs.World.{World}
use Rattle.epoch_machine.specs.World as machine
use Rattle.epoch_machine.specs.Invariant.{Invariant}
use Rattle.unit_rules.specs.declared.progress.PeerProgress.{PeerProgress}
use Rattle.unit_rules.specs.Deeds.{Deed, Keep, Send, Tell, acted, send_all}
use Rattle.unit_rules.specs.Progress.{progress_of}
use Rattle.unit_rules.specs.Questions.{question, awaited, reconfig_fired}
use Rattle.unit_rules.specs.Reconfigs.{Reconfig}
use Rattle.unit_rules.specs.ReplicaStates.{ReplicationProgress, ReplicaState, first_state, entry_at}
use Rattle.unit_rules.specs.Steps.{Failover, fired}
use Rattle.unit_rules.specs.Writes.{entry_sent, progress_fired, state_fired}
use Rattle.ring_points.specs.Whos.{node_instance}
use Rattle.replica_records.specs.ReplicaStates.{state_at}
use Rattle.epoch_refinement.specs.Epochs.{settings_to}
use Rattle.epoch_refinement.specs.Nodes.{Machines, ShowsNode, AllSent, tells_of, AllReal, NodeRefined}
use Rattle.epoch_refinement.specs.Reconfigs.{ShowsManager}
use Rattle.epoch_refinement.specs.Refined.{AllShown, Refined}
use Rattle.epoch_refinement.specs.Told.{tells_all}
use Rattle.epoch_refinement.proofs.Elsewhere.{manager_elsewhere}
use Rattle.epoch_refinement.proofs.Managing.{manager_fires}
use Rattle.epoch_refinement.proofs.Parts.{all_sent, between_node}
use Rattle.epoch_refinement.proofs.Sending.{fire_refines}

-- Deeds that only send.

abbrev OnlySends : List Deed → Type 0
OnlySends [] = Unit {0}
OnlySends (Keep r ∷ ds) = ⊥
OnlySends (Send to b ∷ ds) = OnlySends ds
OnlySends (Tell r ∷ ds) = ⊥

sends_join : (ds es : List Deed) → OnlySends ds → OnlySends es → OnlySends (ds ++ es)
sends_join [] es a b = b
sends_join (Keep r ∷ ds) es a b = absurd a
sends_join (Send to x ∷ ds) es a b = sends_join ds es a b
sends_join (Tell r ∷ ds) es a b = absurd a

sends_tell : (p node : ℕ) (log : List Entry) (ds : List Deed) → OnlySends ds → (before : List machine.Report) → tells_of p node log ds before ≡ before
sends_tell p node log [] s before = refl
sends_tell p node log (Keep r ∷ ds) s before = absurd s
sends_tell p node log (Send to b ∷ ds) s before = sends_tell p node log ds s before
sends_tell p node log (Tell r ∷ ds) s before = absurd s

sends_tell_all : (node : ℕ) (log : List Entry) (ds : List Deed) → OnlySends ds → (before : List machine.Report) → tells_all node log ds before ≡ before
sends_tell_all node log [] s before = refl
sends_tell_all node log (Keep r ∷ ds) s before = absurd s
sends_tell_all node log (Send to b ∷ ds) s before = sends_tell_all node log ds s before
sends_tell_all node log (Tell r ∷ ds) s before = absurd s

sends_real : (ds : List Deed) → OnlySends ds → AllReal ds
sends_real [] s = tt
sends_real (Keep r ∷ ds) s = absurd s
sends_real (Send to b ∷ ds) s = sends_real ds s
sends_real (Tell r ∷ ds) s = absurd s

all_to : (b : Body) (tos : List Who) → OnlySends (send_all tos b)
all_to b [] = tt
all_to b (to ∷ tos) = all_to b tos

reconfig_sends : (r : Reconfig) → OnlySends (reconfig_fired r)
unfolding reconfig_fired
reconfig_sends r = all_to (question r) (map (λ actor. node_instance actor 0) (awaited r))

state_sends : (s : ReplicaState) → OnlySends (state_fired s)
unfolding state_fired
state_sends s = go (progress_of s)
  where
    one : (q : PeerProgress) (o : Option Entry) → OnlySends (entry_sent s.replica q o)
    one q None = tt
    one q (Some entry) = tt

    each : (qs : List PeerProgress) → OnlySends (flat_map (λ q. entry_sent s.replica q (entry_at q.next s.replica.log)) qs)
    each [] = tt
    each (q ∷ qs) = sends_join (entry_sent s.replica q (entry_at q.next s.replica.log)) _ (one q (entry_at q.next s.replica.log)) (each qs)

    go : (o : Option ReplicationProgress) → OnlySends (progress_fired s.replica o)
    go None = tt
    go (Some l) = each l.peers

flat_sends : {X : Type 0} (f : X → List Deed) (xs : List X) → ((x : X) → OnlySends (f x)) → OnlySends (flat_map f xs)
flat_sends f [] each = tt
flat_sends f (x ∷ xs) each = sends_join (f x) (flat_map f xs) (each x) (flat_sends f xs each)

-- What stands in a map is what is found there.

member_low : {X : Type 0} (low : ℕ) (es : List (ℕ × X)) → rises_from low es ≡ true → (e : ℕ × X) → IsMember e es → low ≤ e.0
member_low low [] h e m = absurd m
member_low {X = X} low (d ∷ es) h e (inl same) =
    let parts = and_parts (nat_le low d.0) (rises_from (d.0 + 1) es) h in
    let le = leb-true low d.0 parts.0 in let n = ap (λ (z : ℕ × X). z.0) same in omega arith
member_low low (d ∷ es) h e (inr m) =
    let parts = and_parts (nat_le low d.0) (rises_from (d.0 + 1) es) h in
    let le = leb-true low d.0 parts.0 in let more = member_low (d.0 + 1) es parts.1 e m in omega arith

pub member_at : {X : Type 0} (low : ℕ) (es : List (ℕ × X)) → rises_from low es ≡ true → (e : ℕ × X) → IsMember e es → at e.0 es ≡ Some e.1
member_at low [] h e m = absurd m
member_at {X = X} low (d ∷ es) h e (inl same) =
    ap (λ (z : ℕ × X). at z.0 (d ∷ es)) same ∙ ap (λ b. cond b (Some d.1) (at d.0 es)) (eq-eqb d.0 d.0 refl) ∙ ap (λ (z : ℕ × X). Some z.1) (sym same)
member_at low (d ∷ es) h e (inr m) =
    let parts = and_parts (nat_le low d.0) (rises_from (d.0 + 1) es) h in
    let more = member_low (d.0 + 1) es parts.1 e m in
    ap (λ b. cond b (Some d.1) (at e.0 es)) (apart (d.0 == e.0) refl more) ∙ member_at (d.0 + 1) es parts.1 e m
  where
    apart : (b : Bool) → (d.0 == e.0) ≡ b → d.0 + 1 ≤ e.0 → (d.0 == e.0) ≡ false
    apart true i le = absurd (let n = eqb-true d.0 e.0 i in omega arith)
    apart false i le = i

sent_join : (m : Machines) (x : Who) (ds es : List Deed) → AllSent m x ds → AllSent m x es → AllSent m x (ds ++ es)
sent_join m x [] es a b = b
sent_join m x (Keep r ∷ ds) es a b = sent_join m x ds es a b
sent_join m x (Send to y ∷ ds) es a b = (a.0, sent_join m x ds es a.1 b)
sent_join m x (Tell r ∷ ds) es a b = sent_join m x ds es a b

flat_sent : {X : Type 0} (m : Machines) (x : Who) (f : X → List Deed) (xs : List X) → ((e : X) → IsMember e xs → AllSent m x (f e)) →
    AllSent m x (flat_map f xs)
flat_sent m x f [] each = tt
flat_sent m x f (e ∷ es) each = sent_join m x (f e) (flat_map f es) (each e (inl refl)) (flat_sent m x f es (λ d i. each d (inr i)))

module _ {k : ℕ} {m : Machines} {x : Who} {s : Failover} (inv : (p : ℕ) → Invariant (settings_to k) (m p)) (shows : ShowsNode k m x s)
    (me : 0 < x.instance) where
  part : (p : ℕ) → Refined (settings_to k) (m p) p x (acted (state_at p s) (state_fired (state_at p s)))
  part p = fire_refines (inv p) p x (state_at p s) (shows.states p)

  abbrev after : Machines
  after p = (fire_refines (inv p) p x (state_at p s) (shows.states p)).after

  managers : (p : ℕ) → ShowsManager (after p) k p x s.managed
  managers p = let r = fire_refines (inv p) p x (state_at p s) (shows.states p) in manager_elsewhere r.later k p x s.managed (λ e. cc (e)) (shows.managers p)

  only : OnlySends (fired s)
  only =
      sends_join (flat_map (λ e. reconfig_fired e.1) s.managed.reconfigs) (flat_map (λ e. state_fired e.1) s.states)
      (flat_sends (λ (e : ℕ × Reconfig). reconfig_fired e.1) s.managed.reconfigs (λ e. reconfig_sends e.1))
      (flat_sends (λ (e : ℕ × ReplicaState). state_fired e.1) s.states (λ e. state_sends e.1))

  pub fired_step : NodeRefined k m x (acted s (fired s))
  fired_step = record {
    after = after;
    between = λ p. let r = fire_refines (inv p) p x (state_at p s) (shows.states p) in between_node r.inv r.later;
    shows = record {
      states = λ p. let r = fire_refines (inv p) p x (state_at p s) (shows.states p) in r.shows;
      managers = managers;
      states_rise = shows.states_rise;
      reconfigs_rise = shows.reconfigs_rise;
    };
    sent = sent_join after x (flat_map (λ e. reconfig_fired e.1) s.managed.reconfigs) (flat_map (λ e. state_fired e.1) s.states)
        (flat_sent after x (λ (e : ℕ × Reconfig). reconfig_fired e.1) s.managed.reconfigs
        (λ e i.
        let r = fire_refines (inv e.0) e.0 x (state_at e.0 s) (shows.states e.0) in
        all_sent after e.0 x (reconfig_fired e.1)
        (manager_fires r.inv e.0 x s.managed (managers e.0) me e.1 (member_at 0 s.managed.reconfigs shows.reconfigs_rise e i))))
        (flat_sent after x (λ (e : ℕ × ReplicaState). state_fired e.1) s.states
        (λ e i.
        let r = fire_refines (inv e.0) e.0 x (state_at e.0 s) (shows.states e.0) in
        let same : state_at e.0 s ≡ e.1 = ap (λ o. unwrap_or o (first_state e.0)) (member_at 0 s.states shows.states_rise e i) in
        all_sent after e.0 x (state_fired e.1) (subst (λ z. AllShown (after e.0) e.0 x (state_fired z)) same r.sent)));
    told = λ p.
        let r = fire_refines (inv p) p x (state_at p s) (shows.states p) in
        r.told ∙ sends_tell_all x.actor (state_at p s).replica.log (state_fired (state_at p s)) (state_sends (state_at p s)) (m p).told ∙
        sym (sends_tell p x.actor (state_at p s).replica.log (fired s) only (m p).told);
    real = sends_real (fired s) only;
  }
