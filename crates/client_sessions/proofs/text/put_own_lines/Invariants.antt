use Rattle.std.proofs.Common.{◌≡◌, ◌++◌, take}
use Rattle.client_sessions.specs.Answers.{own_lines}
use Rattle.client_sessions.proofs.text.put_own_lines.Given as goal

-- the lines of the reports so far
abbrev pub invariant-loop-report : goal.invariant-loop-report
invariant-loop-report l = l.text.items ≡ l.initial.text.items ++ own_lines l.tag l.head (take l.report-index l.told)
