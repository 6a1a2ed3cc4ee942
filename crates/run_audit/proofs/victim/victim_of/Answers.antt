use Rattle.std.proofs.Common.{sym, ◌∙◌, ◌<◌, length, arith}
use Rattle.run_audit.proofs.Victims.{first_point}
use Rattle.run_audit.proofs.victim.victim_of.Goals as goal

pub returns-in-len1-up : goal.returns-in-len1-up
returns-in-len1-up c =
    let some : 0 < length c.args.holder.now.ranges.now = omega (arith, c.in-len1-up.len_at_least) in
    first_point c.args.taken.now c.args.holder.now _ (sym c.has.ensures ∙ c.if-not-has.false) some c.requires
