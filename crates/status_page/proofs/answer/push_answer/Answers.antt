use Rattle.status_page.specs.Answers.{answer_text}
use Rattle.status_page.proofs.Joins.{behind, on_ok}
use Rattle.status_page.proofs.answer.push_answer.Goals as goal

pub returns : goal.returns
unfolding answer_text
returns c =
    let t0 = c.args.into.now.items in
    let t1 = c.push_bytes.new.into.items in
    let t2 = c.push_bytes-2.new.into.items in
    let t3 = c.push_bytes-3.new.into.items in
    let t4 = c.push_bytes-4.new.into.items in
    let t5 = c.push_number_behind.new.into.items in
    let t6 = c.push_bytes-5.new.into.items in
    on_ok c.push_bytes-6.result _ _
    (λ last.
    behind t0 t1 _ _ _ c.in_ok-push_bytes.ensures.ok
    (behind t1 t2 _ _ _ c.in_ok-push_bytes-2.ensures.ok
    (behind t2 t3 _ _ _ c.in_ok-push_bytes-3.ensures.ok
    (behind t3 t4 _ _ _ c.in_ok-push_bytes-4.ensures.ok
    (behind t4 t5 _ _ _ c.in_ok-push_number_behind.ensures.ok
    (behind t5 t6 _ _ _ c.in_ok-push_bytes-5.ensures.ok last))))))
    c.push_bytes-6.ensures.ok
