use Rattle.std.proofs.Common.{◌≡◌, ◌≤◌, ◌==◌, ◌∙◌, ℕ, suc, Bool, true, false, List, [], ◌∷◌, length, Option, Some, cond, ap, arith}
use Rattle.std.specs.List.{All, find}
use Rattle.std.specs.Option.{option_map_or}
use Rattle.fabric_terms.specs.declared.config.NodeEntry.{NodeEntry}
use Rattle.fabric_terms.specs.Sound.{IsSoundNode}
use Rattle.ring_rules.specs.Rings.{longest_of}
use Rattle.ring_node.proofs.start.link_settings.Goals as goal
use Rattle.ring_points.specs.Limits.{most_lease}

few_by : (e : NodeEntry) (rest : Option NodeEntry) (b : Bool) → e.longest ≤ most_lease → option_map_or (λ x. x.longest) rest 0 ≤ most_lease → option_map_or (λ x. x.longest) (cond b (Some e) rest) 0 ≤ most_lease
few_by e rest true h k = h
few_by e rest false h k = k

longest_few : (node : ℕ) (es : List NodeEntry) → All IsSoundNode es → longest_of node es ≤ most_lease
longest_few node [] h = omega arith
longest_few node (e ∷ es) h = few_by e (find (λ x. x.node == node) es) (e.node == node) (h 0 e (omega arith)).longest.to_high (longest_few node es (λ k d below. h (suc k) d (omega arith)))

pub returns-clause-sound : goal.returns-clause-sound
returns-clause-sound c =
    let is : c.longest_of.result ≡ longest_of c.args.node c.args.config.now.nodes = c.longest_of.ensures ∙ ap (longest_of c.args.node) c.as_slice.ensures in
    let few : longest_of c.args.node c.args.config.now.nodes ≤ most_lease = longest_few c.args.node c.args.config.now.nodes c.requires.nodes in
    let count : length c.as_slice-2.result.now ≡ length c.args.config.now.arbiters = ap length c.as_slice-2.ensures in
    record { lease = omega arith; longest = omega arith; answer = omega arith; drift = omega arith; grain = omega arith; arbitrators = omega arith; rounds = omega arith }
