-- A reconfiguration keeps the reading at which it was first seen.
use Rattle.std.proofs.Common.{◌≡◌, ℕ, Bool, true, false, cond, List, [], ◌∷◌, Some, refl, ap, ◌∙◌}
use Rattle.std.specs.Prelude.{◌==◌, ◌&&◌, ◌||◌, map, take, find, option_map, unwrap_or}
use Rattle.std.proofs.lemmas.Bool.{and_parts, eqb-true}
use Rattle.ring_points.specs.declared.unit.Epoch.{Epoch}
use Rattle.ring_points.specs.Epochs.{same_epoch}
use Rattle.unit_rules.specs.Reconfigs.{Reconfig, task_of}
use Rattle.state_lines.specs.Changes.{is_change, most_timed_changes, seen_now, since}
use Rattle.state_lines.specs.Laws.{ChangesKeepTheirTime, goes_on}
use Rattle.state_lines.specs.declared.change_times.SeenChange.{SeenChange}

same_epochs : (a b : Epoch) → same_epoch a b ≡ true → a ≡ b
same_epochs a b h =
    let parts : ((a.data_loss == b.data_loss) ≡ true) × ((a.configuration == b.configuration) ≡ true) =
    and_parts (a.data_loss == b.data_loss) (a.configuration == b.configuration) h in
    ap (λ n. record { data_loss = n; configuration = a.configuration }) (eqb-true a.data_loss b.data_loss parts.0)
    ∙ ap (λ n. record { data_loss = b.data_loss; configuration = n }) (eqb-true a.configuration b.configuration parts.1)

-- the reading of the first of these reconfigurations that is this one
kept_among : (now partition : ℕ) (epoch : Epoch) (seen : List SeenChange) (es : List (ℕ × Reconfig)) → goes_on partition epoch es ≡ true
    → since partition epoch (map (seen_now now seen) es) ≡ Some (unwrap_or (since partition epoch seen) now)
kept_among now partition epoch seen [] h = absurd (cc)
kept_among now partition epoch seen (e ∷ es) h = by (is_change partition epoch (seen_now now seen e)) refl (kept_among now partition epoch seen es) h
  where
    by : (same : Bool) → (e.0 == partition && same_epoch (task_of e.1).epoch epoch) ≡ same
        → (goes_on partition epoch es ≡ true → since partition epoch (map (seen_now now seen) es) ≡ Some (unwrap_or (since partition epoch seen) now))
        → (same || goes_on partition epoch es) ≡ true
        → option_map (λ (c : SeenChange). c.since) (cond same (Some (seen_now now seen e)) (find (is_change partition epoch) (map (seen_now now seen) es)))
        ≡ Some (unwrap_or (since partition epoch seen) now)
    by true is again h =
        let parts : ((e.0 == partition) ≡ true) × (same_epoch (task_of e.1).epoch epoch ≡ true) = and_parts (e.0 == partition) (same_epoch (task_of e.1).epoch epoch) is in
        ap (λ p. Some (unwrap_or (since p (task_of e.1).epoch seen) now)) (eqb-true e.0 partition parts.0)
        ∙ ap (λ x. Some (unwrap_or (since partition x seen) now)) (same_epochs (task_of e.1).epoch epoch parts.1)
    by false is again h = again h

pub kept_times : ChangesKeepTheirTime
kept_times now partition epoch reconfigs seen h = kept_among now partition epoch seen (take most_timed_changes reconfigs) h
