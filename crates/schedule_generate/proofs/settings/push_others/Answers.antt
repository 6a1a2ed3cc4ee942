use Rattle.std.proofs.Common.{◌≡◌, ◌+◌, ◌++◌}
use Rattle.std.specs.Prelude.{codes}
use Rattle.schedule_generate.specs.Settings.{node_text}
use Rattle.schedule_generate.proofs.Joined.{one_node_more}
use Rattle.schedule_generate.proofs.settings.push_others.Goals as goal

pub loop-i-preserved : goal.loop-i-preserved
loop-i-preserved c =
    let a : c.push_bytes.new.into.items ≡ c.loop-i.text.items ++ codes "," = c.in_ok-push_bytes.ensures.ok in
    let b : c.push_node.new.text.items ≡ c.push_bytes.new.into.items ++ node_text (c.loop-i.i + 2) = c.in_ok-push_node.ensures in
    one_node_more c.args.text.now.items c.loop-i.text.items c.push_bytes.new.into.items c.push_node.new.text.items c.loop-i.i c.loop-i.invariant a b
