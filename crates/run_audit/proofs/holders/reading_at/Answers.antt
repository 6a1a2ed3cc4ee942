use Rattle.run_audit.proofs.holders.reading_at.Goals as goal

pub returns-then-rising : goal.returns-then-rising
returns-then-rising c = c.requires.rising c.if-rising.true c.args.clock.0 c.args.clock.1 c.requires.among
