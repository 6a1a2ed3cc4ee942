use Rattle.std.proofs.Common.{◌≡◌, ◌++◌, drop}
use Rattle.std.specs.Prelude.{codes}
use Rattle.std.specs.List.{flat_map, join_by}
use Rattle.status_page.proofs.array.push_joined.Given as goal

-- what is written so far, and what is left to write
abbrev pub invariant-loop-entry : goal.invariant-loop-entry
invariant-loop-entry g l =
    l.into.items ++ flat_map (λ e. codes "," ++ g.E.Entry.spelled e) (drop l.entry-index l.more)
    ≡ l.fn.into.items ++ join_by g.E.Entry.spelled (codes ",") l.entries
