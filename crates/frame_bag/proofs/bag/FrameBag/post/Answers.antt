use Rattle.std.proofs.Common.{◌≡◌, ◌∙◌, ◌++◌, ◌∷◌, List, ℕ, ap, arith, length, length-take, refl, rules, subst, sym}
use Rattle.std.specs.Prelude.{reverse}
use Rattle.fabric_terms.specs.declared.message.Message.{Message}
use Rattle.frame_bag.specs.Stored.{AreFrames, messages_in}
use Rattle.frame_bag.proofs.Behind.{more_behind, no_frames}
use Rattle.frame_bag.proofs.Posted.{posted}
use Rattle.frame_bag.proofs.bag.FrameBag.post.Goals as goal

pub invariant_of-self : goal.invariant_of-self
invariant_of-self c =
    let s = posted c.self.inside.ends.items c.self.inside.bytes.items c.push_reserved.new.self.items c.try_append.new.bytes.items _ _ _ c.args.message.now c.self.invariant.0 c.requires.sound c.encode-len.ensures.written c.encode-len.ensures.length (c.if-try_append.ensures.appended refl) (cc) in
    (s.frames, c.self.invariant.1, omega arith, omega arith, omega arith)

pub returns-then-try_append-clause-frames : goal.returns-then-try_append-clause-frames
returns-then-try_append-clause-frames c =
    let i = c.self.inside in
    let s = posted i.ends.items i.bytes.items c.push_reserved.new.self.items c.try_append.new.bytes.items _ _ _ c.args.message.now c.self.invariant.0 c.requires.sound c.encode-len.ensures.written c.encode-len.ensures.length (c.if-try_append.ensures.appended refl) (cc) in
    let none : length i.spare_ends.items ≡ 0 = search rules in
    more_behind (messages_in i.spare_ends.items i.spare.items) (messages_in c.push_reserved.new.self.items c.try_append.new.bytes.items) (messages_in i.ends.items i.bytes.items) c.args.message.now (no_frames i.spare_ends.items i.spare.items none) s.newest
    ∙ ap (λ b. c.args.message.now ∷ b.frames) c.self.view_is

pub invariant_of-self-2 : goal.invariant_of-self-2
invariant_of-self-2 c =
    let i = c.self.inside in
    let s = posted i.spare_ends.items i.spare.items c.push_reserved-2.new.self.items c.append.new.bytes.items _ _ _ c.args.message.now c.self.invariant.1 c.requires.sound c.encode-len.ensures.written c.encode-len.ensures.length c.append.ensures.items (cc) in
    let same = subst (λ (b : List ℕ). AreFrames i.ends.items b (messages_in i.ends.items b)) (sym (c.if-try_append.ensures.refused refl)) c.self.invariant.0 in
    (same, s.frames, omega (arith, length-take c.encode-len.result c.encode-len.new.into), omega arith, omega arith)

pub returns-clause-frames : goal.returns-clause-frames
returns-clause-frames c =
    let i = c.self.inside in
    let m = c.args.message.now in
    let s = posted i.spare_ends.items i.spare.items c.push_reserved-2.new.self.items c.append.new.bytes.items _ _ _ m c.self.invariant.1 c.requires.sound c.encode-len.ensures.written c.encode-len.ensures.length c.append.ensures.items (cc) in
    ap (λ (ms : List Message). ms ++ reverse (messages_in i.ends.items c.try_append.new.bytes.items)) s.newest
    ∙ ap (λ (b : List ℕ). m ∷ (reverse (messages_in i.spare_ends.items i.spare.items) ++ reverse (messages_in i.ends.items b))) (c.if-try_append.ensures.refused refl)
    ∙ ap (λ b. m ∷ b.frames) c.self.view_is
