use Rattle.std.proofs.Common.{◌≡◌, ◌++◌, List, ℕ, subst}
use Rattle.std.specs.Prelude.{OnOk, codes, decimal}
use Rattle.schedule_generate.specs.Texts.{readings_text}
use Rattle.schedule_generate.proofs.Joined.{tick_joined}
use Rattle.schedule_generate.proofs.lines.push_tick_line.Goals as goal

pub returns : goal.returns
returns c =
    let a : c.push_counted.new.text.items ≡ c.args.text.now.items ++ (codes "tick " ++ decimal c.args.advance) = c.in_ok-push_counted.ensures in
    let b : c.push_readings.new.text.items ≡ c.push_counted.new.text.items ++ readings_text c.args.readings.now = c.in_ok-push_readings.ensures in
    subst (λ (t : List ℕ). OnOk c.push_bytes.result (c.push_bytes.new.into.items ≡ t))
    (tick_joined c.args.text.now.items c.push_counted.new.text.items c.push_readings.new.text.items c.args.advance c.args.readings.now a b) c.push_bytes.ensures.ok
