use Rattle.std.proofs.Common.{true, arith, ◌∙◌, sym, length, ◌≡◌, ◌≤◌, ◌-◌, ◌<◌, ℕ, List, ◌⊎◌, inl, inr}
use Rattle.frame_format.specs.Frames.{spelling}
use Rattle.frame_bag.specs.Stored.{messages_in, AreFrames}
use Rattle.frame_bag.proofs.Posted.{IsRead, filled, read_at, numbered, not_numbered, count_is}
use Rattle.frame_bag.proofs.run.read_numbered.Goals as goal

pub returns-then-number-eq0-clause-none : goal.returns-then-number-eq0-clause-none
returns-then-number-eq0-clause-none c same =
    let ms = messages_in c.args.ends.now c.args.bytes.now in
    let k = count_is _ _ _ c.requires in
    let h : (c.args.number ≡ 0) ⊎ (length ms < c.args.number) = elim c.then-number-eq0.either [ inl e ↦ inl e | inr e ↦ inr (omega (arith, e.1)) ] in
    sym (not_numbered ms c.args.number h)

read : (ends bytes : List ℕ) (number : ℕ) → AreFrames ends bytes (messages_in ends bytes) → (number ≡ 0 → ⊥) → number ≤ length ends → IsRead ends bytes (messages_in ends bytes) (number - 1)
read ends bytes number h one most =
    read_at ends bytes (messages_in ends bytes) (number - 1) h (omega arith)

pub frame_at-requires-clause-in_order : goal.frame_at-requires-clause-in_order
frame_at-requires-clause-in_order c =
    (read _ _ _ c.requires c.if-number-eq0.false c.if-number-ends.false).in_order

pub frame_at-requires-clause-within : goal.frame_at-requires-clause-within
frame_at-requires-clause-within c =
    (read _ _ _ c.requires c.if-number-eq0.false c.if-number-ends.false).within

pub returns-clause-read : goal.returns-clause-read
returns-clause-read c is =
    let ms = messages_in c.args.ends.now c.args.bytes.now in
    let r = read _ _ _ c.requires c.if-number-eq0.false c.if-number-ends.false in
    let f : c.frame_at.result.now ≡ spelling r.message = c.frame_at.ensures ∙ r.spelled in
    let k = count_is _ _ _ c.requires in
    let n = numbered ms c.args.number r.message (omega arith) (omega arith) r.is in
    let place = filled c.decode_into.result c.decode_into.new.message c.frame_at.result.now r.message r.sound f c.decode_into.ensures in
    n ∙ place.1

pub returns-clause-none : goal.returns-clause-none
returns-clause-none c isnt =
    let r = read _ _ _ c.requires c.if-number-eq0.false c.if-number-ends.false in
    let f : c.frame_at.result.now ≡ spelling r.message = c.frame_at.ensures ∙ r.spelled in
    let place = filled c.decode_into.result c.decode_into.new.message c.frame_at.result.now r.message r.sound f c.decode_into.ensures in
    let is : c.is_ok.result ≡ true = c.is_ok.ensures.value ∙ place.0 in
    absurd (cc)
