use Rattle.std.proofs.Common.{◌≡◌, ◌∙◌, List, Ok, Result, ap, refl, subst, sym}
use Rattle.replica_core.specs.Calls.{Answers, adopt_call}
use Rattle.replica_core.specs.Replicas.{Replica}
use Rattle.replica_core.specs.declared.entry.Entry.{Entry}
use Rattle.replica_core.specs.declared.refusal.Done.{Done}
use Rattle.replica_core.specs.declared.refusal.Done.TheVariants.{Held, New}
use Rattle.replica_core.specs.declared.refusal.ReplicaRefusal.{ReplicaRefusal}
use Rattle.unit_replica.specs.Names.{AreOf}
use Rattle.unit_replica.proofs.Calls.{adopt_held}
use Rattle.unit_replica.proofs.Naming.{before, before_named, collected_new}
use Rattle.unit_replica.proofs.named_replica.NamedReplica.adopt_bytes.Goals as goal

pub invariant_of-self : goal.invariant_of-self
invariant_of-self c =
    let old : Replica = c.self.inside.replica in
    let new : Replica = c.adopt_bytes.new.self in
    let x : Entry = record { epoch = c.args.epoch; lsn = c.args.lsn; bytes = c.args.bytes.now } in
    let taken : c.adopt_bytes.result ≡ Ok New = c.in-Ok-New.is ∙ ap (λ (d : Done). Ok d) c.in-Ok-New.field-0-is in
    let called : adopt_call c.args.e x c.args.last old ≡ (Ok New, new) =
    subst (λ (r : Result Done ReplicaRefusal). Answers (adopt_call c.args.e x c.args.last old) old new r) taken c.adopt_bytes.ensures.answers in
    let it = collected_new c.args.e x c.args.last old new called in
    let coming = c.self.inside.coming in
    let named = c.take_in.ensures old.log (before x old) x refl it.next c.self.invariant.0 (before_named x old coming.count coming.names c.self.invariant.1) in (
      subst (λ (l : List Entry). AreOf l c.take_in.new.names.count c.take_in.new.names.names) (sym it.log) named.0,
      subst (λ (l : List Entry). AreOf l c.take_in.new.coming.count c.take_in.new.coming.names) (sym it.collected) named.1,
    )

pub invariant_of-self-in-Ok-Held : goal.invariant_of-self-in-Ok-Held
invariant_of-self-in-Ok-Held c =
    let old : Replica = c.self.inside.replica in
    let new : Replica = c.adopt_bytes.new.self in
    let x : Entry = record { epoch = c.args.epoch; lsn = c.args.lsn; bytes = c.args.bytes.now } in
    let held : c.adopt_bytes.result ≡ Ok Held = c.in-Ok-Held.is ∙ ap (λ (d : Done). Ok d) c.in-Ok-Held.field-0-is in
    let called : adopt_call c.args.e x c.args.last old ≡ (Ok Held, new) =
    subst (λ (r : Result Done ReplicaRefusal). Answers (adopt_call c.args.e x c.args.last old) old new r) held c.adopt_bytes.ensures.answers in
    let same : new ≡ old = adopt_held c.args.e x c.args.last old new called in
    let names = c.self.inside.names in
    let coming = c.self.inside.coming in (
      subst (λ (r : Replica). AreOf r.log names.count names.names) (sym same) c.self.invariant.0,
      subst (λ (r : Replica). AreOf r.collected coming.count coming.names) (sym same) c.self.invariant.1,
    )
