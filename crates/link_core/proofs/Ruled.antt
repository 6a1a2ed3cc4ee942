-- A ruling in a slot that waits for the arbitrators.
use Rattle.std.proofs.Common.{◌≡◌, ℕ, true, Option, Some}
use Rattle.drift_clock.specs.declared.bound.Bound.{Bound}
use Rattle.ring_points.specs.declared.who.Ruling.{Ruling}
use Rattle.arbiter_quorum.specs.declared.verdict.Verdict.{Verdict}
use Rattle.arbiter_quorum.specs.Tallies.{noted, verdict_of}
use Rattle.ring_rules.specs.declared.link.Link.{Link}
use Rattle.link_core.specs.Links.{Turn}
use Rattle.link_core.specs.Rulings.{awaits, judged, ripe_at, ruling_seen}

pub ruled : (t : Turn) (s : Option Link) (l noted_link : Link) (now : ℕ) (bound : Bound) (answer rounds arbiter ripe : ℕ) (ruling : Ruling) (v : Verdict) → s ≡ Some l → true ≡ awaits l.state → ripe ≡ ripe_at now bound answer l → noted_link ≡ record l { tally = noted l.tally arbiter ruling } → v ≡ verdict_of noted_link.tally → t ≡ judged rounds noted_link ripe noted_link.state v → t ≡ ruling_seen now bound answer rounds arbiter ruling s
ruled t s l noted_link now bound answer rounds arbiter ripe ruling v e1 e2 e3 e4 e5 e6 = rw (e1, ← e2) (rw (e5, e4, e3) at e6)
