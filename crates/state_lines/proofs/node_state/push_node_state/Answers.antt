use Rattle.std.proofs.Common.{◌++◌, ap, ◌∙◌}
use Rattle.ring_node.specs.Up.{up_nodes}
use Rattle.door_lines.specs.Words.{Up}
use Rattle.state_lines.specs.Answers.{line_text, lines_text}
use Rattle.state_lines.specs.States.{changing_lines, link_lines, node_lines, replica_lines, session_lines, state_of, up_line}
use Rattle.state_lines.proofs.Lines.{all_parts, on_ok}
use Rattle.state_lines.proofs.node_state.push_node_state.Goals as goal

pub returns-clause-ok : goal.returns-clause-ok
unfolding state_of
returns-clause-ok c =
    let tag = c.args.tag in
    let now = c.args.now in
    let settings = c.args.core.now.settings in
    let ring = c.args.core.now.state.ring in
    let above = c.args.core.now.state.above in
    let seen = c.args.changes.now in
    let links = c.in_ok-push_links.ensures.ok ∙ ap (λ s. c.push_node_lines.new.into.items ++ lines_text tag (link_lines s)) c.slots.ensures in
    let up = c.in_ok-line_up.ensures.ok ∙ ap (λ n. c.push_links.new.into.items ++ line_text tag (Up (up_nodes now n))) c.ring.ensures in
    let changes = c.in_ok-push_changes.ensures.ok ∙ ap (λ es. c.push_replicas.new.into.items ++ lines_text tag (changing_lines now seen es)) c.reconfigs.ensures in
    on_ok c.push_session.result (all_parts tag (node_lines settings now ring) (link_lines ring.slots) (replica_lines above.states)
    (changing_lines now seen above.managed.reconfigs) (session_lines c.args.facts) (up_line settings now ring) c.args.into.now.items
    c.push_node_lines.new.into.items c.push_links.new.into.items c.line_up.new.into.items c.push_replicas.new.into.items c.push_changes.new.into.items
    c.push_session.new.into.items c.in_ok-push_node_lines.ensures.ok links up c.in_ok-push_replicas.ensures.ok changes) c.push_session.ensures.ok
