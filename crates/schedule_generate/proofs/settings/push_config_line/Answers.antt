use Rattle.std.proofs.Common.{◌≡◌, ◌++◌, List, ℕ, subst}
use Rattle.std.specs.Prelude.{OnOk, codes}
use Rattle.schedule_generate.specs.Settings.{node_text, nodes_text}
use Rattle.schedule_generate.proofs.Joined.{four}
use Rattle.schedule_generate.proofs.settings.push_config_line.Goals as goal

pub returns : goal.returns
returns c =
    let front = codes "{\"lease\":3000,\"answer\":1000,\"drift\":10,\"grain\":1,\"nodes\":[" in
    let a : c.push_bytes.new.into.items ≡ c.args.text.now.items ++ front = c.in_ok-push_bytes.ensures.ok in
    let b : c.push_node.new.text.items ≡ c.push_bytes.new.into.items ++ node_text 1 = c.in_ok-push_node.ensures in
    let d : c.push_others.new.text.items ≡ c.push_node.new.text.items ++ nodes_text c.args.nodes = c.in_ok-push_others.ensures in
    subst (λ (t : List ℕ). OnOk c.push_bytes-2.result (c.push_bytes-2.new.into.items ≡ t))
    (four c.args.text.now.items c.push_bytes.new.into.items c.push_node.new.text.items c.push_others.new.text.items front (node_text 1) (nodes_text c.args.nodes) (codes "],\"arbiters\":[{\"arbiter\":1},{\"arbiter\":2},{\"arbiter\":3}],\"first\":1}") a b d) c.push_bytes-2.ensures.ok
