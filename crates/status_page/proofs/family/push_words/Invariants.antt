use Rattle.std.proofs.Common.{◌≡◌, ◌++◌, length, map}
use Rattle.status_page.specs.Samples.{word_samples}
use Rattle.status_page.proofs.family.push_words.Given as goal

-- what is written so far, and what is left to write
abbrev pub invariant-loop-rest : goal.invariant-loop-rest
invariant-loop-rest l =
    l.into.items ++ word_samples l.name l.label (map (λ w. w.now) l.rest) l.left
    ≡ l.fn.into.items ++ word_samples l.name l.label (map (λ w. w.now) l.words) l.counts

abbrev pub decreases-loop-rest : goal.decreases-loop-rest
decreases-loop-rest l = length l.rest
