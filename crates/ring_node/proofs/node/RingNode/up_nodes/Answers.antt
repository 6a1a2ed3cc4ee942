use Rattle.std.proofs.Common.{◌≡◌, ◌∙◌, ◌-◌, ◌*◌, ℕ, List, [], ◌∷◌, map, drop, refl, sym, ap, arith, rules}
use Rattle.std.specs.List.{filter}
use Rattle.ring_node.specs.Nodes.{Node}
use Rattle.ring_node.specs.Up.{up_nodes}
use Rattle.ring_rules.specs.Rising.{rising}
use Rattle.ring_rules.specs.Up.{is_up}
use Rattle.ring_points.specs.declared.point.Point.{Point}
use Rattle.ring_node.proofs.Points.{numbered}
use Rattle.ring_node.proofs.node.RingNode.up_nodes.Goals as goal

numbers : (ps : List (ℕ × Point)) → map (λ (p : ℕ × Point). p.0) ps ≡ map (λ (p : ℕ × ℕ). p.0) (numbered ps)
numbers [] = refl
numbers (p ∷ ps) = ap (λ (ns : List ℕ). p.0 ∷ ns) (numbers ps)

up_is : (now : ℕ) (n : Node) (ps : List (ℕ × Point)) (since i : ℕ) (ns : List ℕ) → i ≡ 0 → ns ≡ rising (filter (is_up since n.ring) (map (λ (p : ℕ × Point). p.0) (drop i ps))) → since ≡ now - 2 * n.settings.lease → n.ring.routes.points ≡ numbered ps → ns ≡ up_nodes now n
up_is now n ps since i ns z e s l = e ∙ rw (z, s, l) (ap (λ (ms : List ℕ). rising (filter (is_up (now - 2 * n.settings.lease) n.ring) ms)) (numbers ps))

pub returns : goal.returns
returns c =
    up_is c.args.now c.args.self.now c.self.inside.points.items c.saturating_sub-since.result c.loop-i.i c.loop-i.rising.items (omega arith) c.loop-i.invariant.up (search rules) (sym (ap (λ (n : Node). n.ring.routes.points) c.self.view_is) ∙ c.self.invariant.listed)
