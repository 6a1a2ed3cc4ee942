-- How many bytes a field has.
use Rattle.std.proofs.Common.{◌≡◌, ℕ, ◌+◌, ◌*◌, ◌≤◌, Bool, true, false, ◌&&◌, List, [], ◌∷◌, ◌++◌, length, nat_le, Option, Some, None, refl, arith, length-append}
use Rattle.std.specs.Prelude.{IsTrue}
use Rattle.std.specs.List.{flat_map}
use Rattle.std.proofs.Math.Nat.{mul-le-mul_left}
use Rattle.std.proofs.lemmas.Bool.{leb-true, and_parts}
use Rattle.ring_points.specs.Limits.{most_intervals, most_members, most_write}
use Rattle.ring_points.specs.declared.unit.Epoch.{Epoch}
use Rattle.ring_points.specs.declared.unit.Config.{Config}
use Rattle.ring_points.specs.declared.who.Ruling.{Ruling}
use Rattle.ring_points.specs.declared.interval.Interval.{Interval}
use Rattle.ring_points.specs.Ranges.{is_proper, fits, rises_from}
use Rattle.fabric_terms.specs.Fields.{is_unit, is_config, is_done, is_payload, has_members, is_short}
use Rattle.wire_fields.specs.Sizes.{interval_size, most_ranges_size, most_config_size, most_done_size, most_payload_size}
use Rattle.wire_fields.specs.Texts.{number_bytes, one_byte, session_bytes, epoch_bytes, unit_bytes, interval_bytes, list_bytes, ranges_bytes, config_bytes, payload_bytes, flag_bytes, flag_code, ruling_bytes, done_bytes}
use Rattle.wire_fields.proofs.Puts.{number_length}
use Rattle.wire_fields.proofs.Standing.{epoch_length}

pub byte_length : (b : ℕ) → length (one_byte b) ≡ 1
unfolding one_byte
byte_length b = refl

pub session_length : (mine yours : ℕ) → length (session_bytes mine yours) ≡ 8
unfolding session_bytes
session_length mine yours =
    let a = number_length 4 mine in
    let b = number_length 4 yours in
    let l = length-append (number_bytes 4 mine) (number_bytes 4 yours) in
    omega arith

pub unit_length : (partition : ℕ) (epoch : Epoch) → length (unit_bytes partition epoch) ≡ 10
unfolding unit_bytes
unit_length partition epoch =
    let a = number_length 2 partition in
    let b = epoch_length epoch in
    let l = length-append (number_bytes 2 partition) (epoch_bytes epoch) in
    omega arith

interval_length : (i : Interval) → length (interval_bytes i) ≡ interval_size
unfolding interval_bytes
interval_length i =
    let a = number_length 8 i.lo in
    let b = number_length 8 i.hi in
    let l = length-append (number_bytes 8 i.lo) (number_bytes 8 i.hi) in
    omega arith

-- fields of one size
all_length : {A : Type 0} (spell : A → List ℕ) (size : ℕ) → ((x : A) → length (spell x) ≡ size) → (xs : List A) → length (flat_map spell xs) ≡ size * length xs
all_length spell size h [] = omega arith
all_length spell size h (x ∷ xs) =
    let a = h x in
    let b = all_length spell size h xs in
    let l = length-append (spell x) (flat_map spell xs) in
    grind arith

list_length : {A : Type 0} (spell : A → List ℕ) (size most : ℕ) → ((x : A) → length (spell x) ≡ size) → (xs : List A) → length xs ≤ most → length (list_bytes spell xs) ≤ 1 + size * most
unfolding list_bytes
list_length spell size most h xs few =
    let a = byte_length (length xs) in
    let b = all_length spell size h xs in
    let l = length-append (one_byte (length xs)) (flat_map spell xs) in
    let m = mul-le-mul_left size few in
    omega arith

pub ranges_length : (ranges : List Interval) → IsTrue (is_proper ranges) → length (ranges_bytes ranges) ≤ most_ranges_size
unfolding ranges_bytes
ranges_length ranges h =
    list_length interval_bytes interval_size most_intervals interval_length ranges (leb-true (length ranges) most_intervals (and_parts (fits ranges) (rises_from 0 ranges) h).0)

pub config_length : (c : Config) → IsTrue (is_config c) → length (config_bytes c) ≤ most_config_size
unfolding config_bytes
config_length c h =
    let p = and_parts (is_unit c.partition c.epoch && is_short c.primary && nat_le (length c.members) most_members) (has_members c) h in
    let q = and_parts (is_unit c.partition c.epoch && is_short c.primary) (nat_le (length c.members) most_members) p.0 in
    let a = unit_length c.partition c.epoch in
    let b = number_length 2 c.primary in
    let m = list_length (number_bytes 2) 2 most_members (number_length 2) c.members (leb-true (length c.members) most_members q.1) in
    let l = length-append (unit_bytes c.partition c.epoch) (number_bytes 2 c.primary) in
    let k = length-append (unit_bytes c.partition c.epoch ++ number_bytes 2 c.primary) (list_bytes (number_bytes 2) c.members) in
    omega arith

pub payload_length : (text : List ℕ) → IsTrue (is_payload text) → length (payload_bytes text) ≤ most_payload_size
unfolding payload_bytes
payload_length text h =
    let a = number_length 2 (length text) in
    let b = leb-true (length text) most_write h in
    let l = length-append (number_bytes 2 (length text)) text in
    omega arith

pub flag_length : (flag : Bool) → length (flag_bytes flag) ≡ 1
unfolding flag_bytes
flag_length flag = byte_length (flag_code flag)

pub ruling_length : (ruling : Ruling) → length (ruling_bytes ruling) ≡ 1
unfolding ruling_bytes one_byte
ruling_length ruling = refl

pub done_length : (c : Option Config) → IsTrue (is_done c) → length (done_bytes c) ≤ most_done_size
unfolding done_bytes
done_length None h = let a = flag_length false in omega arith
done_length (Some c) h =
    let a = flag_length true in
    let b = config_length c h in
    let l = length-append (flag_bytes true) (config_bytes c) in
    omega arith
