use Rattle.std.proofs.Common.{rules}
use Rattle.std.proofs.lemmas.Map.Made.{map_same_pairs}
use Rattle.unit_replica.specs.Starts.{state_uncollected}
use Rattle.unit_replica.proofs.boot.end_collections.Goals as goal

pub returns : goal.returns
returns c = map_same_pairs _ state_uncollected _ (λ k v b w f' t. search rules) c.args.map.now.entries c.retain.new.self.entries c.retain.ensures.filtered
