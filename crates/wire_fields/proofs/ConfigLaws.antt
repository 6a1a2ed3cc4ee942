-- The laws of the fields that have a configuration or a payload.
use Rattle.std.proofs.Common.{◌≡◌, ℕ, ◌≤◌, Bool, true, false, cond, ◌&&◌, nat_le, nat_lt, List, [], ◌∷◌, ◌++◌, length, take, drop, Option, Some, None, refl, ap, sym, subst, ◌∙◌, arith, length-append}
use Rattle.std.specs.Prelude.{IsTrue, ◌==◌}
use Rattle.std.specs.List.{list_all, list_any}
use Rattle.std.proofs.lemmas.List.{append_assoc, take-append-drop, drop_at, take_at, length-take-le}
use Rattle.std.proofs.lemmas.Bool.{leb-true, le-leb, and_parts, and_from}
use Rattle.ring_points.specs.Limits.{most_members, most_node_number, most_write}
use Rattle.ring_points.specs.declared.unit.Config.{Config}
use Rattle.fabric_terms.specs.Fields.{is_short, is_unit, rises_above, has_members, is_config, is_done, is_payload}
use Rattle.wire_fields.specs.Readers.{◌>>=◌, Field, such, pair, made, number_at, bytes_at, list_at, flag_at, unit_at, config_from, config_at, done_at, payload_at}
use Rattle.wire_fields.specs.Texts.{number_bytes, unit_bytes, list_bytes, config_bytes, payload_bytes, flag_bytes, done_bytes}
use Rattle.wire_fields.proofs.Numbers.{AreBytes, bytes_behind}
use Rattle.wire_fields.proofs.Forms.{IsField, some_same, bind_some, tested, such_is, pair_is, made_is, number_is, list_is}
use Rattle.wire_fields.proofs.FieldLaws.{below, flag_is, unit_is}

rising_short : (low : ℕ) (ns : List ℕ) → IsTrue (rises_above low ns) → IsTrue (list_all is_short ns)
rising_short low [] h = refl
rising_short low (n ∷ ns) h =
    let p = and_parts (nat_lt low n && nat_le n most_node_number) (rises_above n ns) h in
    let q = and_parts (nat_lt low n) (nat_le n most_node_number) p.0 in
    and_from (is_short n) (list_all is_short ns) (below n most_node_number 65536 q.1 (omega arith)) (rising_short n ns p.1)

pub config_is : IsField config_at is_config config_bytes
unfolding config_at config_bytes
config_is = such_is base has_members is_config into back
  where
    base : IsField (made config_from (pair (pair unit_at (number_at 2)) (list_at most_members (number_at 2)))) (λ c. (is_unit c.partition c.epoch && is_short c.primary) && (nat_le (length c.members) most_members && list_all is_short c.members)) (λ c. (unit_bytes c.partition c.epoch ++ number_bytes 2 c.primary) ++ list_bytes (number_bytes 2) c.members)
    base = made_is (pair_is (pair_is unit_is (number_is 2)) (list_is (number_is 2) most_members)) config_from (λ c. (((c.partition, c.epoch), c.primary), c.members)) (λ x h. refl) (λ c. refl)

    into : (c : Config) → IsTrue ((is_unit c.partition c.epoch && is_short c.primary) && (nat_le (length c.members) most_members && list_all is_short c.members)) → IsTrue (has_members c) → IsTrue (is_config c)
    into c a b =
        let u = is_unit c.partition c.epoch && is_short c.primary in
        let few = nat_le (length c.members) most_members in
        let p = and_parts u (few && list_all is_short c.members) a in
        let q = and_parts few (list_all is_short c.members) p.1 in
        and_from (u && few) (has_members c) (and_from u few p.0 q.0) b

    back : (c : Config) → IsTrue (is_config c) → IsTrue ((is_unit c.partition c.epoch && is_short c.primary) && (nat_le (length c.members) most_members && list_all is_short c.members)) × IsTrue (has_members c)
    back c h =
        let u = is_unit c.partition c.epoch && is_short c.primary in
        let few = nat_le (length c.members) most_members in
        let p = and_parts (u && few) (has_members c) h in
        let q = and_parts u few p.0 in
        let r = and_parts (rises_above 0 c.members) (list_any (λ n. n == c.primary) c.members) p.1 in
        (and_from u (few && list_all is_short c.members) q.0 (and_from few (list_all is_short c.members) q.1 (rising_short 0 c.members r.0)), p.1)

abbrev after_flag : Bool × List ℕ → Field (Option Config)
after_flag x = elim x.0 [ true ↦ made Some config_at x.1 | false ↦ Some (None, x.1) ]

pub done_is : IsField done_at is_done done_bytes
unfolding done_at done_bytes
done_is = record {
  found = λ bytes x h e.
      let a = bind_some (flag_at bytes) after_flag x e in
      let f = flag_is.found bytes a.0 h a.1 in
      found bytes a.0.0 a.0.1 x f.1 (bytes_behind bytes (flag_bytes a.0.0) a.0.1 h f.1) a.2;
  again = again;
}
  where
    found : (bytes : List ℕ) (flag : Bool) (rest : List ℕ) (x : Option Config × List ℕ) → bytes ≡ flag_bytes flag ++ rest → AreBytes rest → after_flag (flag, rest) ≡ Some x → IsTrue (is_done x.0) × (bytes ≡ done_bytes x.0 ++ x.1)
    found bytes true rest x e h s =
        let c = bind_some (config_at rest) (λ (z : Config × List ℕ). Some (Some z.0, z.1)) x s in
        let f = config_is.found rest c.0 h c.1 in
        let P : Option Config × List ℕ → Type 0 = λ z. IsTrue (is_done z.0) × (bytes ≡ done_bytes z.0 ++ z.1) in
        subst P (some_same (Some c.0.0, c.0.1) x c.2) (
          f.0,
          e ∙ (ap (λ r. flag_bytes true ++ r) f.1 ∙ sym (append_assoc (flag_bytes true) (config_bytes c.0.0) c.0.1)),
        )
    found bytes false rest x e h s =
        let P : Option Config × List ℕ → Type 0 = λ z. IsTrue (is_done z.0) × (bytes ≡ done_bytes z.0 ++ z.1) in
        subst P (some_same (None, rest) x s) (refl, e)

    again : (d : Option Config) (rest : List ℕ) → IsTrue (is_done d) → done_at (done_bytes d ++ rest) ≡ Some (d, rest)
    again None rest h = ap (λ (o : Field Bool). o >>= after_flag) (flag_is.again false rest refl)
    again (Some c) rest h =
        ap done_at (append_assoc (flag_bytes true) (config_bytes c) rest)
        ∙ (ap (λ (o : Field Bool). o >>= after_flag) (flag_is.again true (config_bytes c ++ rest) refl)
        ∙ ap (λ (o : Field Config). o >>= λ z. Some (Some z.0, z.1)) (config_is.again c rest h))

pub payload_is : IsField payload_at is_payload payload_bytes
unfolding payload_at payload_bytes bytes_at
payload_is = record {
  found = λ bytes x h e.
      let a = bind_some (such (λ n. nat_le n most_write) (number_at 2) bytes) (λ (z : ℕ × List ℕ). bytes_at z.0 z.1) x e in
      let f = count.found bytes a.0 h a.1 in
      let t = tested (nat_le a.0.0 (length a.0.1)) (take a.0.0 a.0.1, drop a.0.0 a.0.1) x a.2 in
      let fits = leb-true a.0.0 (length a.0.1) t.0 in
      let long : length (take a.0.0 a.0.1) ≡ a.0.0 = length-take-le a.0.0 a.0.1 fits in
      let P : List ℕ × List ℕ → Type 0 = λ z. IsTrue (is_payload z.0) × (bytes ≡ (number_bytes 2 (length z.0) ++ z.0) ++ z.1) in
      subst P t.1 (
        le-leb (length (take a.0.0 a.0.1)) most_write (let l = leb-true a.0.0 most_write f.0 in omega arith),
        f.1
            ∙ (ap (λ n. number_bytes 2 n ++ a.0.1) (sym long)
            ∙ (ap (λ r. number_bytes 2 (length (take a.0.0 a.0.1)) ++ r) (sym (take-append-drop a.0.0 a.0.1))
            ∙ sym (append_assoc (number_bytes 2 (length (take a.0.0 a.0.1))) (take a.0.0 a.0.1) (drop a.0.0 a.0.1)))),
      );
  again = λ text rest h.
      let whole : length text ≤ length (text ++ rest) = omega (arith, length-append text rest) in
      ap payload_at (append_assoc (number_bytes 2 (length text)) text rest)
      ∙ (ap (λ (o : Field ℕ). o >>= λ z. bytes_at z.0 z.1) (count.again (length text) (text ++ rest) h)
      ∙ (ap (λ b. cond b (Some (take (length text) (text ++ rest), drop (length text) (text ++ rest))) None) (le-leb (length text) (length (text ++ rest)) whole)
      ∙ (ap (λ t. Some (t, drop (length text) (text ++ rest))) (take_at text rest (length text) refl) ∙ ap (λ r. Some (text, r)) (drop_at text rest (length text) refl))));
}
  where
    count : IsField (such (λ n. nat_le n most_write) (number_at 2)) (λ n. nat_le n most_write) (number_bytes 2)
    count = such_is (number_is 2) (λ n. nat_le n most_write) (λ n. nat_le n most_write) (λ n a b. b) (λ n h. (below n most_write 65536 h (omega arith), h))
