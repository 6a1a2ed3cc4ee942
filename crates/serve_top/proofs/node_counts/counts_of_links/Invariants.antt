use Rattle.std.proofs.Common.{◌≡◌, drop}
use Rattle.std.specs.Prelude.{fold}
use Rattle.serve_top.specs.Counts.{counts_of_links, with_link}
use Rattle.serve_top.proofs.node_counts.counts_of_links.Given as goal

-- what is counted so far, and what is left to count
abbrev pub invariant-loop-link : goal.invariant-loop-link
invariant-loop-link l = fold with_link l.counts (drop l.link-index l.links) ≡ counts_of_links l.links
