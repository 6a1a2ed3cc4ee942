use Rattle.std.proofs.Common.{◌≡◌, map, ap, ◌∙◌, rules}
use Rattle.std.proofs.lemmas.Map.Made.{map_same_pairs}
use Rattle.fabric_lemmas.specs.Maps.{rises}
use Rattle.replica_core.specs.Replicas.{uncollected}
use Rattle.keep_log.proofs.MapEntries.{rises-mapped}
use Rattle.keep_log.proofs.replica_map.ReplicaMap.drop_collected.Goals as goal

pub invariant_of-self : goal.invariant_of-self
invariant_of-self c =
    let es = c.self.inside.map.entries in
    let kept : c.retain.new.self.entries ≡ map (λ e. (e.0, uncollected e.1)) es =
    map_same_pairs _ uncollected _ (λ k v b w f' t. search rules) es c.retain.new.self.entries c.retain.ensures.filtered in
    ap rises kept ∙ (rises-mapped uncollected 0 es ∙ c.self.invariant)

pub returns : goal.returns
returns c =
    let es = c.self.inside.map.entries in
    let kept : c.retain.new.self.entries ≡ map (λ e. (e.0, uncollected e.1)) es =
    map_same_pairs _ uncollected _ (λ k v b w f' t. search rules) es c.retain.new.self.entries c.retain.ensures.filtered in
    rw (← c.self.view_is) kept
