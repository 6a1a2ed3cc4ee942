use Rattle.std.proofs.Common.{◌≡◌, ◌++◌, List, ℕ, ap, ◌∙◌, subst}
use Rattle.std.specs.Prelude.{OnOk, codes, decimal}
use Rattle.text_fields.specs.Points.{point_text}
use Rattle.schedule_generate.specs.Settings.{point_of_node}
use Rattle.schedule_generate.proofs.Joined.{five}
use Rattle.schedule_generate.proofs.settings.push_node.Goals as goal

pub returns : goal.returns
returns c =
    let node = c.args.node in
    let a : c.push_counted.new.text.items ≡ c.args.text.now.items ++ (codes "{\"node\":" ++ decimal node) =
    c.in_ok-push_counted.ensures ∙ ap (λ (k : ℕ). c.args.text.now.items ++ (codes "{\"node\":" ++ decimal k)) c.from.ensures in
    let b : c.push_bytes.new.into.items ≡ c.push_counted.new.text.items ++ codes ",\"point\":\"" = c.in_ok-push_bytes.ensures.ok in
    let p : c.push_point.new.into.items ≡ c.push_bytes.new.into.items ++ point_text c.point_of.result = c.in_ok-push_point.ensures.ok in
    let q : c.push_point.new.into.items ≡ c.push_bytes.new.into.items ++ point_text (point_of_node node) = p ∙ ap (λ (k : ℕ). c.push_bytes.new.into.items ++ point_text k) c.point_of.ensures in
    let e : c.push_counted-2.new.text.items ≡ c.push_point.new.into.items ++ (codes "\",\"domain\":" ++ decimal node) =
    c.in_ok-push_counted-2.ensures ∙ ap (λ (k : ℕ). c.push_point.new.into.items ++ (codes "\",\"domain\":" ++ decimal k)) c.from-2.ensures in
    subst (λ (t : List ℕ). OnOk c.push_bytes-2.result (c.push_bytes-2.new.into.items ≡ t))
    (five c.args.text.now.items c.push_counted.new.text.items c.push_bytes.new.into.items c.push_point.new.into.items c.push_counted-2.new.text.items (codes "{\"node\":") (decimal node) (codes ",\"point\":\"") (point_text (point_of_node node)) (codes "\",\"domain\":") (codes "}") a b q e) c.push_bytes-2.ensures.ok
