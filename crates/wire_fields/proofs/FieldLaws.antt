-- The law of each field, of configurations and payloads apart.
use Rattle.std.proofs.Common.{◌≡◌, ℕ, ◌+◌, ◌^◌, ◌<◌, ◌≤◌, Bool, true, false, cond, ◌&&◌, ◌||◌, nat_le, nat_lt, ⊎_elim, List, [], ◌∷◌, ◌++◌, length, Option, Some, None, refl, ap, sym, subst, ◌∙◌, arith}
use Rattle.std.specs.Prelude.{IsTrue, ◌==◌}
use Rattle.std.specs.List.{list_all}
use Rattle.std.proofs.lemmas.Bool.{leb-true, lt-ltb, ltb-true, eqb-true, eqb-false, and_parts, and_from, or_cases}
use Rattle.ring_points.specs.Limits.{least_lease, most_intervals, most_lease, most_log_entries, most_node_number, most_reading}
use Rattle.ring_points.specs.declared.who.Who.{Who}
use Rattle.ring_points.specs.declared.who.Ruling.{Ruling}
use Rattle.ring_points.specs.declared.who.Ruling.TheVariants.{Granted, Taken, Refused}
use Rattle.ring_points.specs.declared.interval.Interval.{Interval}
use Rattle.ring_points.specs.Ranges.{is_proper, rises_from, fits}
use Rattle.fabric_terms.specs.Fields.{is_short, is_word, is_long, is_counted, is_session, is_stamp, is_lease, is_last, is_hops, is_round, is_node, is_who, is_arbiter, is_sender, is_addressee, is_some, is_part, is_epoch, is_unit}
use Rattle.wire_fields.specs.Readers.{◌>>=◌, Field, byte_at, word_at, counted_at, last_at, stamp_at, lease_at, node_at, hops_at, round_at, flag_at, ruling_of, ruling_at, point_at, session_at, actor_at, is_numbered, who_at, sender_at, addressee_at, epoch_at, unit_at, interval_at, intervals_at, ranges_at, part_at}
use Rattle.wire_fields.specs.Texts.{number_bytes, one_byte, session_bytes, who_bytes, epoch_bytes, unit_bytes, interval_bytes, ranges_bytes, flag_code, flag_bytes, ruling_code, ruling_bytes}
use Rattle.wire_fields.proofs.Forms.{IsField, any, some_same, bind_some, resound, such_is, pair_is, made_is, byte_is, number_is, list_is}

-- what is at most a bound is below a greater one
pub below : (n most limit : ℕ) → nat_le n most ≡ true → most < limit → nat_lt n limit ≡ true
below n most limit h b = lt-ltb n limit (let l = leb-true n most h in omega arith)

pub word_is : IsField word_at is_word (number_bytes 4)
word_is = number_is 4

pub counted_is : IsField counted_at is_counted (number_bytes 4)
unfolding counted_at
counted_is =
    such_is (number_is 4) (λ n. nat_le 1 n) is_counted (λ n a b. and_from (nat_le 1 n) (is_word n) b a) (λ n h. let p = and_parts (nat_le 1 n) (is_word n) h in (p.1, p.0))

pub last_is : IsField last_at is_last (number_bytes 4)
unfolding last_at
last_is = such_is (number_is 4) is_last is_last (λ n a b. b) (λ n h. (below n most_log_entries 4294967296 h (omega arith), h))

pub stamp_is : IsField stamp_at is_stamp (number_bytes 8)
unfolding stamp_at
stamp_is = such_is (number_is 8) is_stamp is_stamp (λ n a b. b) (λ n h. (below n most_reading 18446744073709551616 h (omega arith), h))

pub lease_is : IsField lease_at is_lease (number_bytes 8)
unfolding lease_at
lease_is =
    such_is (number_is 8) is_lease is_lease (λ n a b. b) (λ n h. (below n most_lease 18446744073709551616 (and_parts (nat_le least_lease n) (nat_le n most_lease) h).1 (omega arith), h))

node_short : (n : ℕ) → IsTrue (is_node n) → IsTrue (is_short n)
node_short n h = below n most_node_number 65536 (and_parts (nat_le 1 n) (nat_le n most_node_number) h).1 (omega arith)

pub node_is : IsField node_at is_node (number_bytes 2)
unfolding node_at
node_is = such_is (number_is 2) is_node is_node (λ n a b. b) (λ n h. (node_short n h, h))

pub hops_is : IsField hops_at is_hops one_byte
unfolding hops_at
hops_is = such_is byte_is is_hops is_hops (λ n a b. b) (λ n h. (refl, h))

pub round_is : IsField round_at is_round one_byte
unfolding round_at
round_is = such_is byte_is is_round is_round (λ n a b. b) (λ n h. (refl, h))

pub flag_is : IsField flag_at any flag_bytes
unfolding flag_at flag_bytes
flag_is =
    resound (made_is (such_is byte_is (λ n. nat_le n 1) (λ n. nat_le n 1) (λ n a b. b) (λ n h. (refl, h))) (λ n. n == 1) flag_code there back) any (λ x h. refl) small
  where
    there : (n : ℕ) → IsTrue (nat_le n 1) → flag_code (n == 1) ≡ n
    there n h = cases (n == 1) refl (leb-true n 1 h)
      where
        cases : (b : Bool) → (n == 1) ≡ b → n ≤ 1 → flag_code b ≡ n
        cases true e h = sym (eqb-true n 1 e)
        cases false e h = let ne = eqb-false n 1 e in omega arith

    back : (y : Bool) → (flag_code y == 1) ≡ y
    back true = refl
    back false = refl

    small : (y : Bool) → IsTrue (any y) → IsTrue (nat_le (flag_code y) 1)
    small true h = refl
    small false h = refl

abbrev before : List ℕ → Option Ruling → Field Ruling
before rest o = o >>= λ ruling. Some (ruling, rest)

pub ruling_is : IsField ruling_at any ruling_bytes
unfolding ruling_at ruling_bytes
ruling_is = record {
  found = λ bytes x h e.
      let a = bind_some (byte_at bytes) (λ (z : ℕ × List ℕ). before z.1 (ruling_of z.0)) x e in
      let b = bind_some (ruling_of a.0.0) (λ r. Some (r, a.0.1)) x a.2 in
      let f = byte_is.found bytes a.0 h a.1 in
      let P : Ruling × List ℕ → Type 0 = λ z. IsTrue true × (bytes ≡ one_byte (ruling_code z.0) ++ z.1) in
      subst P (some_same (b.0, a.0.1) x b.2) (refl, f.1 ∙ ap (λ n. one_byte n ++ a.0.1) (sym (code a.0.0 b.0 b.1)));
  again = again;
}
  where
    code : (n : ℕ) (r : Ruling) → ruling_of n ≡ Some r → ruling_code r ≡ n
    code n r e = first (n == 1) refl e
      where
        third : (b : Bool) → (n == 3) ≡ b → cond b (Some Refused) None ≡ Some r → ruling_code r ≡ n
        third true t e = ap ruling_code (sym (some_same Refused r e)) ∙ sym (eqb-true n 3 t)
        third false t e = cc

        second : (b : Bool) → (n == 2) ≡ b → cond b (Some Taken) (cond (n == 3) (Some Refused) None) ≡ Some r → ruling_code r ≡ n
        second true t e = ap ruling_code (sym (some_same Taken r e)) ∙ sym (eqb-true n 2 t)
        second false t e = third (n == 3) refl e

        first : (b : Bool) → (n == 1) ≡ b → cond b (Some Granted) (cond (n == 2) (Some Taken) (cond (n == 3) (Some Refused) None)) ≡ Some r → ruling_code r ≡ n
        first true t e = ap ruling_code (sym (some_same Granted r e)) ∙ sym (eqb-true n 1 t)
        first false t e = second (n == 2) refl e

    again : (r : Ruling) (rest : List ℕ) → IsTrue (any r) → ruling_at (ruling_bytes r ++ rest) ≡ Some (r, rest)
    again r rest h = ap (λ (o : Field ℕ). o >>= λ z. before z.1 (ruling_of z.0)) (byte_is.again (ruling_code r) rest refl) ∙ same r
      where
        same : (r : Ruling) → before rest (ruling_of (ruling_code r)) ≡ Some (r, rest)
        same Granted = refl
        same Taken = refl
        same Refused = refl

pub point_is : IsField point_at (λ p. is_long p.0) (λ p. number_bytes 8 p.0)
unfolding point_at
point_is = made_is (number_is 8) (λ n. record { 0 = n }) (λ p. p.0) (λ n h. refl) (λ p. refl)

pub session_is : IsField session_at (λ x. is_session x.0 x.1) (λ x. session_bytes x.0 x.1)
unfolding session_at session_bytes
session_is = pair_is counted_is counted_is

actor_is : IsField actor_at (λ w. is_short w.actor && is_word w.instance) who_bytes
unfolding actor_at who_bytes
actor_is =
    made_is (pair_is (number_is 2) (number_is 4)) (λ x. record { actor = x.0; instance = x.1 }) (λ w. (w.actor, w.instance)) (λ x h. refl) (λ w. refl)

-- what each kind of actor has in common
who_parts : (w : Who) → IsTrue (is_who w) → IsTrue (is_short w.actor && is_word w.instance) × IsTrue (is_numbered w)
who_parts w h =
    let p = and_parts (is_node w.actor) (is_counted w.instance) h in
    let q = and_parts (nat_le 1 w.instance) (is_word w.instance) p.1 in (
      and_from (is_short w.actor) (is_word w.instance) (node_short w.actor p.0) q.1,
      and_from (is_node w.actor) (nat_le 1 w.instance) p.0 q.0,
    )

who_from : (w : Who) → IsTrue (is_word w.instance) → IsTrue (is_numbered w) → IsTrue (is_who w)
who_from w a h =
    let p = and_parts (is_node w.actor) (nat_le 1 w.instance) h in
    and_from (is_node w.actor) (is_counted w.instance) p.0 (and_from (nat_le 1 w.instance) (is_word w.instance) p.1 a)

arbiter_parts : (w : Who) → IsTrue (is_arbiter w) → IsTrue (is_short w.actor && is_word w.instance)
arbiter_parts w h =
    let p = and_parts (nat_le 32769 w.actor && nat_le w.actor 32777) (w.instance == 0) h in
    let q = and_parts (nat_le 32769 w.actor) (nat_le w.actor 32777) p.0 in
    let zero = eqb-true w.instance 0 p.1 in
    and_from (is_short w.actor) (is_word w.instance) (below w.actor 32777 65536 q.1 (omega arith)) (lt-ltb w.instance 4294967296 (omega arith))

or_left : (a b : Bool) → a ≡ true → (a || b) ≡ true
or_left true b h = refl
or_left false b h = cc

or_right : (a b : Bool) → b ≡ true → (a || b) ≡ true
or_right true b h = refl
or_right false b h = h

pub who_is : IsField who_at is_who who_bytes
unfolding who_at
who_is = such_is actor_is is_numbered is_who (λ w a b. who_from w (and_parts (is_short w.actor) (is_word w.instance) a).1 b) who_parts

pub sender_is : IsField sender_at is_sender who_bytes
unfolding sender_at
sender_is = such_is actor_is (λ w. is_numbered w || is_arbiter w) is_sender into back
  where
    into : (w : Who) → IsTrue (is_short w.actor && is_word w.instance) → IsTrue (is_numbered w || is_arbiter w) → IsTrue (is_sender w)
    into w a b =
        ⊎_elim (λ n. or_left (is_who w) (is_arbiter w) (who_from w (and_parts (is_short w.actor) (is_word w.instance) a).1 n)) (λ r. or_right (is_who w) (is_arbiter w) r) (or_cases (is_numbered w) (is_arbiter w) b)

    back : (w : Who) → IsTrue (is_sender w) → IsTrue (is_short w.actor && is_word w.instance) × IsTrue (is_numbered w || is_arbiter w)
    back w h =
        ⊎_elim (λ n. let p = who_parts w n in (p.0, or_left (is_numbered w) (is_arbiter w) p.1)) (λ r. (arbiter_parts w r, or_right (is_numbered w) (is_arbiter w) r)) (or_cases (is_who w) (is_arbiter w) h)

pub addressee_is : IsField addressee_at is_addressee who_bytes
unfolding addressee_at
addressee_is = such_is actor_is (λ w. is_node w.actor || is_arbiter w) is_addressee into back
  where
    into : (w : Who) → IsTrue (is_short w.actor && is_word w.instance) → IsTrue (is_node w.actor || is_arbiter w) → IsTrue (is_addressee w)
    into w a b =
        ⊎_elim (λ n. or_left (is_node w.actor && is_word w.instance) (is_arbiter w) (and_from (is_node w.actor) (is_word w.instance) n (and_parts (is_short w.actor) (is_word w.instance) a).1)) (λ r. or_right (is_node w.actor && is_word w.instance) (is_arbiter w) r) (or_cases (is_node w.actor) (is_arbiter w) b)

    back : (w : Who) → IsTrue (is_addressee w) → IsTrue (is_short w.actor && is_word w.instance) × IsTrue (is_node w.actor || is_arbiter w)
    back w h =
        ⊎_elim (λ n. let p = and_parts (is_node w.actor) (is_word w.instance) n in (and_from (is_short w.actor) (is_word w.instance) (node_short w.actor p.0) p.1, or_left (is_node w.actor) (is_arbiter w) p.0)) (λ r. (arbiter_parts w r, or_right (is_node w.actor) (is_arbiter w) r)) (or_cases (is_node w.actor && is_word w.instance) (is_arbiter w) h)

pub epoch_is : IsField epoch_at is_epoch epoch_bytes
unfolding epoch_at epoch_bytes
epoch_is =
    made_is (pair_is (number_is 4) (number_is 4)) (λ x. record { data_loss = x.0; configuration = x.1 }) (λ e. (e.data_loss, e.configuration)) (λ x h. refl) (λ e. refl)

pub unit_is : IsField unit_at (λ x. is_unit x.0 x.1) (λ x. unit_bytes x.0 x.1)
unfolding unit_at unit_bytes
unit_is = pair_is (number_is 2) epoch_is

abbrev are_long : Interval → Bool
are_long i = is_long i.lo && is_long i.hi

interval_is : IsField interval_at are_long interval_bytes
unfolding interval_at interval_bytes
interval_is =
    made_is (pair_is (number_is 8) (number_is 8)) (λ x. record { lo = x.0; hi = x.1 }) (λ i. (i.lo, i.hi)) (λ x h. refl) (λ i. refl)

rising_long : (low : ℕ) (is : List Interval) → IsTrue (rises_from low is) → IsTrue (list_all are_long is)
rising_long low [] h = refl
rising_long low (i ∷ is) h =
    let p = and_parts (nat_le low i.lo && nat_le i.lo i.hi && nat_lt i.hi (2 ^ 64)) (rises_from (i.hi + 2) is) h in
    let q = and_parts (nat_le low i.lo && nat_le i.lo i.hi) (nat_lt i.hi (2 ^ 64)) p.0 in
    let r = and_parts (nat_le low i.lo) (nat_le i.lo i.hi) q.0 in
    let hi = ltb-true i.hi (2 ^ 64) q.1 in
    let lo = leb-true i.lo i.hi r.1 in
    and_from (are_long i) (list_all are_long is) (and_from (is_long i.lo) (is_long i.hi) (lt-ltb i.lo 18446744073709551616 (omega arith)) q.1) (rising_long (i.hi + 2) is p.1)

intervals_is : IsField intervals_at (λ is. nat_le (length is) most_intervals && list_all are_long is) ranges_bytes
unfolding intervals_at ranges_bytes
intervals_is = list_is interval_is most_intervals

proper_long : (is : List Interval) → IsTrue (is_proper is) → IsTrue (nat_le (length is) most_intervals && list_all are_long is)
proper_long is h =
    let p = and_parts (fits is) (rises_from 0 is) h in
    and_from (nat_le (length is) most_intervals) (list_all are_long is) p.0 (rising_long 0 is p.1)

pub ranges_is : IsField ranges_at is_proper ranges_bytes
ranges_is = such_is intervals_is is_proper is_proper (λ is a b. b) (λ is h. (proper_long is h, h))

pub part_is : IsField part_at is_part ranges_bytes
part_is = such_is intervals_is is_part is_part (λ is a b. b) (λ is h. (proper_long is (and_parts (is_proper is) (is_some is) h).0, h))
