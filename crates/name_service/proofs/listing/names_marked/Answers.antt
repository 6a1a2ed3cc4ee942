use Rattle.std.proofs.Common.{◌≡◌, ◌==◌, ◌++◌, ◌-◌, arith, take, ap, subst, ◌∙◌}
use Rattle.lane_scan.specs.Masks.{bit_of}
use Rattle.ring_points.specs.Limits.{most_listed_names}
use Rattle.name_service.specs.Stores.{AllPlaced, marked, name_if, names_in, rows_of}
use Rattle.name_service.proofs.Listed.{one_more}
use Rattle.name_service.proofs.listing.names_marked.Goals as goal

pub loop-place-preserved : goal.loop-place-preserved
loop-place-preserved c =
    let mask = c.args.mask.now in
    let i = c.loop-place.i in
    let all = marked mask 0 (take most_listed_names (names_in (rows_of c.args.rows))) in
    let turn = c.in-Some.ensures.steps in
    record {
      so_far = one_more mask i c.in-Some.place.now.name.items (names_in (rows_of c.next.new.self)) c.loop-place.names.items c.push_marked.new.names.items all (omega (arith, c.loop-place.invariant.few, c.if-i-eq-MAX_LISTED_NAMES.false))
          (subst (λ rows. c.loop-place.names.items ++ marked mask i (take (most_listed_names - i) (names_in (rows_of rows))) ≡ all) turn c.loop-place.invariant.so_far)
          (c.in_ok-push_marked.ensures ∙ ap (λ n. c.loop-place.names.items ++ name_if (bit_of mask i == 1) n) c.name.ensures);
      few = omega (arith, c.loop-place.invariant.few, c.if-i-eq-MAX_LISTED_NAMES.false);
      placed = (subst AllPlaced turn c.loop-place.invariant.placed).1;
    }
