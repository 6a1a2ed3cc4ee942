use Rattle.transcript_audit.proofs.verdict.judge.Goals as goal

pub returns : goal.returns
returns c = λ groups finds rise. c.judge_each.ensures groups c.new-auditor.ensures finds rise
