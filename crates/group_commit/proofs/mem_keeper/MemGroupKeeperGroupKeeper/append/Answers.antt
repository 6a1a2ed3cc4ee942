use Rattle.std.proofs.Common.{ℕ, List, Some, ap, ◌∙◌, take}
use Rattle.group_commit.specs.Memory.{Entry, of_actor}
use Rattle.group_commit.proofs.mem_keeper.MemGroupKeeperGroupKeeper.append.Goals as goal

pub returns-then-not-next_fails-clause-kept : goal.returns-then-not-next_fails-clause-kept
returns-then-not-next_fails-clause-kept c any =
    let a = c.next_fails.new.self in
    let front = c.add.ensures.front ∙ ap (λ (n : ℕ). take n a.entries) c.next_fails.ensures.synced ∙ ap (take c.args.self.now.synced) c.next_fails.ensures.entries in
    ap (λ (es : List Entry). Some (of_actor any es)) front
