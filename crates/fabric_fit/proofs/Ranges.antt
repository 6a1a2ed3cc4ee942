-- Registers stay in their ranges, whatever is recorded.
use Rattle.std.proofs.Common.{◌≡◌, ℕ, Bool, true, false, cond, List, [], ◌∷◌, ◌++◌, Some, IsTrue, refl, subst, arith}
use Rattle.std.specs.Prelude.{◌==◌, All, nat_lt}
use Rattle.std.proofs.lemmas.Bool.{and_from, and_parts, eqb-true}
use Rattle.std.proofs.lemmas.Bool.Decides.{nat_tests}
use Rattle.std.proofs.lemmas.List.Elements.{All-cons, All-head, All-nil, All-tail}
use Rattle.fabric_terms.specs.declared.record.Record.{Record}
use Rattle.fabric_terms.specs.declared.record.Record.TheVariants.{PreparedBy, VotedFor, DoneFor}
use Rattle.fabric_terms.specs.Fields.{is_config, is_epoch}
use Rattle.fabric_lemmas.specs.Maps.{put, put_here}
use Rattle.ring_points.specs.declared.unit.Config.{Config}
use Rattle.ring_points.specs.declared.unit.Epoch.{Epoch}
use Rattle.ring_points.specs.Epochs.{same_epoch}
use Rattle.fabric_fit.specs.Records.{KeptRecord}
use Rattle.fabric_fit.specs.Registers.{RegisterInRange, RegistersInRange, is_vote}
use Rattle.unit_rules.specs.Registers.{Register, Registers, empty_register, register_after, registers_after, register_of, vote_in}

nothing_registered : (partition : ℕ) → RegisterInRange (partition, empty_register)
nothing_registered partition = record { prepared = refl; votes = All-nil (λ vote. IsTrue (is_vote partition vote)); done = refl }

pub register_in_range : (partition : ℕ) (rs : Registers) → RegistersInRange rs → RegisterInRange (partition, register_of partition rs)
register_in_range partition [] h = nothing_registered partition
register_in_range partition (e ∷ es) h = by (e.0 == partition) refl (register_in_range partition es (All-tail RegisterInRange e es h))
  where
    by : (b : Bool) → (e.0 == partition) ≡ b → RegisterInRange (partition, register_of partition es) → RegisterInRange (partition, register_of partition (e ∷ es))
    by true same rest =
        let P : ℕ → Type 0 = λ k. RegisterInRange (k, e.1) in
        rw same (subst P (eqb-true e.0 partition same) (All-head RegisterInRange e es h))
    by false other rest = rw other rest

put_in_range : (partition : ℕ) (r : Register) (rs : Registers) → RegisterInRange (partition, r) → RegistersInRange rs → RegistersInRange (put partition r rs)
put_in_range partition r [] h m = All-cons RegisterInRange (partition, r) [] h m
put_in_range partition r (e ∷ es) h m =
    placed (nat_lt partition e.0) (partition == e.0) (put_in_range partition r es h (All-tail RegisterInRange e es m))
  where
    placed : (lt same : Bool) → RegistersInRange (put partition r es) → RegistersInRange (put_here partition r e es (put partition r es) lt same)
    placed true same rest = All-cons RegisterInRange (partition, r) (e ∷ es) h m
    placed false true rest = All-cons RegisterInRange (partition, r) es h (All-tail RegisterInRange e es m)
    placed false false rest = All-cons RegisterInRange e (put partition r es) (All-head RegisterInRange e es m) rest

vote_behind : (P : Config → Type 0) (votes : List Config) (vote : Config) → All P votes → P vote → All P (votes ++ vote ∷ [])
vote_behind P [] vote h k = All-cons P vote [] k h
vote_behind P (v ∷ votes) vote h k = All-cons P v (votes ++ vote ∷ []) (All-head P v votes h) (vote_behind P votes vote (All-tail P v votes h) k)

itself : (n : ℕ) → IsTrue (n == n)
itself n = grind (arith, nat_tests)

pub with_in_range : (rs : Registers) (r : Record) → RegistersInRange rs → KeptRecord r → RegistersInRange (register_after rs r)
with_in_range rs (PreparedBy partition epoch preparer) h k =
    let old = register_in_range partition rs h in
    put_in_range partition _ rs (record { prepared = (and_parts _ (is_epoch epoch) k).1; votes = old.votes; done = old.done }) h
with_in_range rs (VotedFor config) h k =
    let old = register_in_range config.partition rs h in
    let P : Config → Type 0 = λ vote. IsTrue (is_vote config.partition vote) in
    let one : P config = and_from (is_config config) (config.partition == config.partition) k (itself config.partition) in
    put_in_range config.partition _ rs
    (record { prepared = old.prepared; votes = vote_behind P (register_of config.partition rs).votes config old.votes one; done = old.done }) h
with_in_range rs (DoneFor config) h k =
    let old = register_in_range config.partition rs h in
    put_in_range config.partition _ rs (record { prepared = old.prepared; votes = old.votes; done = k }) h
with_in_range rs _ h k = h

pub after_in_range : (rs : Registers) (records : List Record) → RegistersInRange rs → All KeptRecord records → RegistersInRange (registers_after rs records)
after_in_range rs [] h k = h
after_in_range rs (r ∷ more) h k =
    after_in_range (register_after rs r) more (with_in_range rs r h (All-head KeptRecord r more k)) (All-tail KeptRecord r more k)

-- a vote that is found is one of them, and of the epoch
pub vote_found : (P : Config → Type 0) (epoch : Epoch) (votes : List Config) (vote : Config) → All P votes → vote_in epoch votes ≡ Some vote
    → P vote × (same_epoch vote.epoch epoch ≡ true)
vote_found P epoch [] vote h e = absurd (cc)
vote_found P epoch (v ∷ votes) vote h e = by (same_epoch v.epoch epoch) refl (vote_found P epoch votes vote (All-tail P v votes h)) e
  where
    by : (b : Bool) → same_epoch v.epoch epoch ≡ b → (vote_in epoch votes ≡ Some vote → P vote × (same_epoch vote.epoch epoch ≡ true))
        → cond b (Some v) (vote_in epoch votes) ≡ Some vote → P vote × (same_epoch vote.epoch epoch ≡ true)
    by true same rest f = let is : v ≡ vote = cc in subst (λ c. P c × (same_epoch c.epoch epoch ≡ true)) is (All-head P v votes h, same)
    by false other rest f = rest f
