-- What the kept pairs answer is what all pairs answer.
use Rattle.std.proofs.Common.{refl}
use Rattle.drift_clock.proofs.Kept.{broken_by_kept, none_by_kept}
use Rattle.drift_clock.proofs.drift.Drift.admit.Goals as goal

pub returns-in-Some-clause-exactly_when : goal.returns-in-Some-clause-exactly_when
returns-in-Some-clause-exactly_when c pairs stands =
    (λ e. absurd (cc), λ fits. let none = (none_by_kept c.args.self.now pairs (c.args.true_time, c.args.reading) stands c.requires.order).1 fits in cc)

pub returns-in-Some-clause-earlier : goal.returns-in-Some-clause-earlier
returns-in-Some-clause-earlier c pairs stands =
    let same = broken_by_kept c.args.self.now pairs (c.args.true_time, c.args.reading) stands c.requires.order in cc

pub returns-clause-ok : goal.returns-clause-ok
returns-clause-ok c pairs stands =
    c.take.ensures.stands pairs stands ((none_by_kept c.args.self.now pairs (c.args.true_time, c.args.reading) stands c.requires.order).0 (cc))

pub returns-clause-exactly_when : goal.returns-clause-exactly_when
returns-clause-exactly_when c pairs stands =
    (λ _. (none_by_kept c.args.self.now pairs (c.args.true_time, c.args.reading) stands c.requires.order).0 (cc), λ _. refl)
