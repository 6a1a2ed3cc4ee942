use Rattle.link_core.proofs.Ruled.{ruled}
use Rattle.link_core.proofs.ruling.ruling_seen.Goals as goal

pub returns : goal.returns
returns c =
    ruled _ c.args.slot.now c.in-Some.link _ c.args.now c.args.terms.bound c.args.terms.answer c.args.terms.rounds c.args.arbitrator c.ripe_at-ripe.result c.args.ruling c.note-verdict.result
    c.in-Some.is (c.if-not-awaits.ensures) c.ripe_at-ripe.ensures c.note-verdict.ensures.noted c.note-verdict.ensures.verdict c.judged.ensures
