use Rattle.std.proofs.Common.{◌≡◌, ◌∙◌, ◌-◌, ℕ, ap, arith, length, sym}
use Rattle.std.proofs.lemmas.List.{length-reverse}
use Rattle.std.specs.Prelude.{reverse}
use Rattle.frame_bag.specs.Bags.{frame_of}
use Rattle.frame_bag.specs.Stored.{messages_in}
use Rattle.frame_bag.proofs.Behind.{frame_above, frame_below}
use Rattle.frame_bag.proofs.Posted.{count_is}
use Rattle.frame_bag.proofs.bag.FrameBag.read.Goals as goal

pub returns-then-number-early-clause-read : goal.returns-then-number-early-clause-read
returns-then-number-early-clause-read c is =
    let i = c.self.inside in
    let early = messages_in i.ends.items i.bytes.items in
    let behind = messages_in i.spare_ends.items i.spare.items in
    let k = count_is _ _ _ c.self.invariant.0 in
    let below = frame_below (reverse behind) (reverse early) c.args.number (omega (arith, k, length-reverse early)) in
    sym (ap (λ b. frame_of c.args.number b.frames) c.self.view_is)
    ∙ (below ∙ (rw (c.deref-then-number-early.ensures.value, c.deref.ensures) at c.read_numbered.ensures.read is))

pub returns-then-number-early-clause-none : goal.returns-then-number-early-clause-none
returns-then-number-early-clause-none c isnt =
    let i = c.self.inside in
    let early = messages_in i.ends.items i.bytes.items in
    let behind = messages_in i.spare_ends.items i.spare.items in
    let k = count_is _ _ _ c.self.invariant.0 in
    let below = frame_below (reverse behind) (reverse early) c.args.number (omega (arith, k, length-reverse early)) in
    sym (ap (λ b. frame_of c.args.number b.frames) c.self.view_is)
    ∙ (below ∙ (rw (c.deref-then-number-early.ensures.value, c.deref.ensures) at c.read_numbered.ensures.none isnt))

pub returns-else-number-early-clause-read : goal.returns-else-number-early-clause-read
returns-else-number-early-clause-read c is =
    let i = c.self.inside in
    let early = messages_in i.ends.items i.bytes.items in
    let behind = messages_in i.spare_ends.items i.spare.items in
    let k = count_is _ _ _ c.self.invariant.0 in
    let count : length (reverse early) ≡ c.len-early.result = omega (arith, k, length-reverse early) in
    let above = frame_above (reverse behind) (reverse early) c.args.number (omega (arith, count)) in
    sym (ap (λ b. frame_of c.args.number b.frames) c.self.view_is)
    ∙ (above ∙ (ap (λ (n : ℕ). frame_of (c.args.number - n) (reverse behind)) count
    ∙ (rw (c.deref-else-number-early-2.ensures.value, c.deref-else-number-early.ensures.value) at c.read_numbered-else-number-early.ensures.read is)))

pub returns-else-number-early-clause-none : goal.returns-else-number-early-clause-none
returns-else-number-early-clause-none c isnt =
    let i = c.self.inside in
    let early = messages_in i.ends.items i.bytes.items in
    let behind = messages_in i.spare_ends.items i.spare.items in
    let k = count_is _ _ _ c.self.invariant.0 in
    let count : length (reverse early) ≡ c.len-early.result = omega (arith, k, length-reverse early) in
    let above = frame_above (reverse behind) (reverse early) c.args.number (omega (arith, count)) in
    sym (ap (λ b. frame_of c.args.number b.frames) c.self.view_is)
    ∙ (above ∙ (ap (λ (n : ℕ). frame_of (c.args.number - n) (reverse behind)) count
    ∙ (rw (c.deref-else-number-early-2.ensures.value, c.deref-else-number-early.ensures.value) at c.read_numbered-else-number-early.ensures.none isnt)))
