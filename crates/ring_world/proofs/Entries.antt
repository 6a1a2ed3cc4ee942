-- How many entries records make at an arbitrator, and that its registers go on rising.
use Rattle.std.proofs.Common.{◌≡◌, ◌+◌, ◌≤◌, true, List, [], ◌∷◌, ◌++◌, length, arith, ap, refl, ◌∙◌}
use Rattle.std.proofs.lemmas.List.{length-append}
use Rattle.arbiter_core.specs.Arbiters.{Arbiter, entries, with_kept}
use Rattle.arbiter_core.proofs.Restores.{rises_with}
use Rattle.arbiter_tables.proofs.Counts.{prepared_counted, vote_counted, done_counted}
use Rattle.fabric_lemmas.specs.Maps.{rises}
use Rattle.fabric_terms.specs.declared.record.Record.{Record}
use Rattle.fabric_terms.specs.declared.record.Record.TheVariants as kind
use Rattle.unit_rules.specs.Registers.{Registers, register_after, registers_after}
use Rattle.world_rules.specs.Worlds.{World as RuledWorld, kept_of}
use Rattle.unit_rules.specs.Fabric.{fabric}
use Rattle.ring_points.specs.Whos.{arbiter_actor}
use Rattle.ring_world.specs.ConfiguredArbiters.{IsSeat}
use Rattle.ring_world.specs.declared.configured_arbiter.ConfiguredArbiter.{ConfiguredArbiter}
use Rattle.std.specs.Prelude.{ℕ}

rises_after : (rs : Registers) (records : List Record) → rises rs ≡ true → rises (registers_after rs records) ≡ true
rises_after rs [] up = up
rises_after rs (r ∷ more) up = rises_after (register_after rs r) more (rises_with r rs up)

pub seat_rises : (w : RuledWorld fabric) (events k : ℕ) (s : ConfiguredArbiter) → IsSeat w events k s → rises s.arbiter.registers ≡ true
seat_rises w events k s h = ap (λ (a : Arbiter). rises a.registers) h.kept ∙ rises_after [] (kept_of w (arbiter_actor k)) refl

-- one record makes one entry at most
one_entry : (r : Record) (a : Arbiter) → rises a.registers ≡ true → entries (with_kept (r ∷ []) a) ≤ entries a + 1
one_entry (kind.AccusedBy victim first) a up = omega (arith, length-append a.table.accusations ((victim, first) ∷ []))
one_entry (kind.ClaimedBy victim round claimer) a up = omega (arith, length-append a.table.claims ((victim, round, claimer) ∷ []))
one_entry (kind.PreparedBy partition epoch preparer) a up =
    omega (arith, prepared_counted partition (record { epoch = epoch; preparer = preparer }) a.registers up)
one_entry (kind.VotedFor config) a up = omega (arith, vote_counted config a.registers up)
one_entry (kind.DoneFor config) a up = omega (arith, done_counted config.partition config a.registers up)
one_entry _ a up = omega arith

pub few_entries : (records : List Record) (a : Arbiter) → rises a.registers ≡ true → entries (with_kept records a) ≤ entries a + length records
few_entries [] a up = omega arith
few_entries (r ∷ rs) a up =
    omega (arith, one_entry r a up, few_entries rs (with_kept (r ∷ []) a) (rises_with r a.registers up))

pub kept_more : (a : Arbiter) (records more : List Record) → with_kept (records ++ more) a ≡ with_kept more (with_kept records a)
kept_more a [] more = refl
kept_more a (r ∷ rs) more = kept_more (with_kept (r ∷ []) a) rs more
