use Rattle.std.proofs.Common.{◌+◌, ◌<◌, sym, ap, ◌∙◌, subst, arith, vec_len, vec_capacity, take, drop, [], ◌∷◌, ◌++◌, List}
use Rattle.std.proofs.lemmas.List.{drop_more, get_or_default}
use Rattle.ring_points.specs.declared.who.Who.{Who}
use Rattle.fabric_terms.specs.Runs.{Clocks}
use Rattle.run_audit.specs.declared.overlap.LiveHolder.{LiveHolder}
use Rattle.run_audit.specs.Clocks.{AreRows, begins_with}
use Rattle.run_audit.proofs.Rows.{row_none, row_some, pushed_items}
use Rattle.run_audit.proofs.Left.{Knows, knows_none, knows_some}
use Rattle.run_audit.proofs.holders.holders_of.Goals as goal
use Rattle.run_audit.proofs.holders.holders_of.Goals.{in-Some, in_default}

pub returns-clause-known : goal.returns-clause-known
returns-clause-known c rise old = (c.loop-clock.invariant.known rise old).known

pub loop-clock-preserved : goal.loop-clock-preserved
loop-clock-preserved c = elim c.match-holder_at.branch [
  | in-Some w ↦
      let spare : vec_len c.loop-clock.rows < vec_capacity c.loop-clock.rows = omega (arith, c.loop-clock.invariant.room, c.loop-clock.invariant.few, c.loop-clock-test.true) in
      let items = pushed_items w.push-kept.result _ _ (w.push-kept.ensures.succeeds spare) w.push-kept.ensures.items in
      record {
        room = rw w.rows-is (omega (arith, c.loop-clock.invariant.room, w.push-kept.ensures.capacity));
        few = rw w.rows-is (omega (arith, c.loop-clock.invariant.few, w.push-kept.ensures.upper_bound));
        left = λ x has. c.loop-clock.invariant.left x (c.from-left.ensures.among x has);
        rows = subst (λ l. AreRows c.args.owners.now c.args.clocks.now (take (c.loop-clock.clock-index + 1) c.args.clocks.now) c.args.lived.now c.args.actor l) (sym (ap (λ v. v.items) w.rows-is ∙ items)) (
            row_some c.args.owners.now c.args.clocks.now c.args.lived.now c.args.actor c.loop-clock.clock-index _ c.reading_at-reading.result c.loop-clock.rows.items w.in-Some.holder
            c.loop-clock-test.true (get_or_default c.args.clocks.now c.loop-clock.clock-index _ _ c.loop-clock-test.true) c.reading_at-reading.ensures c.loop-clock.invariant.rows
            w.in-Some.ensures.0 (λ stale. let was = c.is_fresh-fresh.ensures.stale (sym w.in-Some.ensures.1 ∙ stale) in (c.loop-clock.invariant.left _ (c.from-left.ensures.among _ was.0), was.1))
            );
        known = λ rise old.
            subst (λ (hs : List LiveHolder). Knows (drop (c.loop-clock.clock-index + 1) c.args.clocks.now) c.args.lived.now c.from-left.result.now c.args.actor hs) (sym (ap (λ v. v.items) w.rows-is ∙ items))
            (subst (λ (ws : List Who). Knows (drop (c.loop-clock.clock-index + 1) c.args.clocks.now) c.args.lived.now ws c.args.actor (c.loop-clock.rows.items ++ w.in-Some.holder ∷ [])) (sym c.from-left.ensures.exact)
            (knows_some _ _ c.args.lived.now c.loop-clock.left.now c.args.actor c.loop-clock.rows.items w.in-Some.holder
            (subst (λ (cs : Clocks). Knows cs c.args.lived.now c.loop-clock.left.now c.args.actor c.loop-clock.rows.items) (drop_more c.args.clocks.now c.loop-clock.clock-index _ c.loop-clock-test.true) (c.loop-clock.invariant.known rise old))
            w.in-Some.ensures.0.is (λ begins other. w.in-Some.ensures.1 ∙ c.is_fresh-fresh.ensures.known (ap (begins_with _) c.from-left.ensures.exact ∙ begins) other)));
      }
  | in_default w ↦ record {
    room = rw w.rows-is c.loop-clock.invariant.room;
    few = rw w.rows-is (omega (arith, c.loop-clock.invariant.few));
    left = λ x has. c.loop-clock.invariant.left x (c.from-left.ensures.among x has);
    rows = rw w.rows-is (
        row_none c.args.owners.now c.args.clocks.now c.args.lived.now c.args.actor c.loop-clock.clock-index _ c.reading_at-reading.result c.loop-clock.rows.items
        c.loop-clock-test.true (get_or_default c.args.clocks.now c.loop-clock.clock-index _ _ c.loop-clock-test.true) c.reading_at-reading.ensures c.loop-clock.invariant.rows
        w.in_default.ensures
        );
    known = λ rise old. rw (w.rows-is, c.from-left.ensures.exact)
        (knows_none _ _ c.args.lived.now c.loop-clock.left.now c.args.actor c.loop-clock.rows.items
        (subst (λ (cs : Clocks). Knows cs c.args.lived.now c.loop-clock.left.now c.args.actor c.loop-clock.rows.items) (drop_more c.args.clocks.now c.loop-clock.clock-index _ c.loop-clock-test.true) (c.loop-clock.invariant.known rise old)));
  }
]
