-- The line of generated schedules is read as their configuration: computed for each number of nodes.
use Rattle.std.proofs.Common.{◌≡◌, ℕ, ◌≤◌, true, length, Ok, refl, subst, ⊎_elim, arith, nat_le}
use Rattle.std.proofs.lemmas.Bool.{cases_lt, leb-true}
use Rattle.std.specs.Str.{chars, is_utf8}
use Rattle.std.specs.Char.{encode_utf8}
use Rattle.std.specs.Fmt.{digits}
use Rattle.serde_json.proofs.OnLiterals.{serde_json_on_literals}
use Rattle.fabric_config.specs.Numbers.{required, optional}
use Rattle.fabric_config.specs.Points.{point_of}
use Rattle.fabric_config.specs.Entries.{list_of, address_of}
use Rattle.fabric_config.specs.Nodes.{point_in, node_of, nodes_of, first_of}
use Rattle.fabric_config.specs.Arbiters.{arbiter_of, arbiters_of}
use Rattle.fabric_config.specs.Config.{document_of, config_of, config_of_line}
use Rattle.text_fields.specs.Points.{point_text}
use Rattle.schedule_generate.proofs.Short.{no_feed}
use Rattle.schedule_generate.specs.Settings.{config_line, generated_config}

record IsRead (n : ℕ) : Type 0 where
  read : config_of_line (config_line n) ≡ Ok (generated_config n)
  plain : no_feed (config_line n) ≡ true
  short : nat_le (length (config_line n)) 65536 ≡ true

of_1 : IsRead 1
unfolding digits point_text serde_json_on_literals chars is_utf8 encode_utf8 required optional point_of list_of address_of point_in node_of nodes_of first_of arbiter_of arbiters_of document_of config_of config_of_line
of_1 = record { read = refl; plain = refl; short = refl }

of_2 : IsRead 2
unfolding digits point_text serde_json_on_literals chars is_utf8 encode_utf8 required optional point_of list_of address_of point_in node_of nodes_of first_of arbiter_of arbiters_of document_of config_of config_of_line
of_2 = record { read = refl; plain = refl; short = refl }

of_3 : IsRead 3
unfolding digits point_text serde_json_on_literals chars is_utf8 encode_utf8 required optional point_of list_of address_of point_in node_of nodes_of first_of arbiter_of arbiters_of document_of config_of config_of_line
of_3 = record { read = refl; plain = refl; short = refl }

of_4 : IsRead 4
unfolding digits point_text serde_json_on_literals chars is_utf8 encode_utf8 required optional point_of list_of address_of point_in node_of nodes_of first_of arbiter_of arbiters_of document_of config_of config_of_line
of_4 = record { read = refl; plain = refl; short = refl }

of_5 : IsRead 5
unfolding digits point_text serde_json_on_literals chars is_utf8 encode_utf8 required optional point_of list_of address_of point_in node_of nodes_of first_of arbiter_of arbiters_of document_of config_of config_of_line
of_5 = record { read = refl; plain = refl; short = refl }

of_6 : IsRead 6
unfolding digits point_text serde_json_on_literals chars is_utf8 encode_utf8 required optional point_of list_of address_of point_in node_of nodes_of first_of arbiter_of arbiters_of document_of config_of config_of_line
of_6 = record { read = refl; plain = refl; short = refl }

of_7 : IsRead 7
unfolding digits point_text serde_json_on_literals chars is_utf8 encode_utf8 required optional point_of list_of address_of point_in node_of nodes_of first_of arbiter_of arbiters_of document_of config_of config_of_line
of_7 = record { read = refl; plain = refl; short = refl }

of_8 : IsRead 8
unfolding digits point_text serde_json_on_literals chars is_utf8 encode_utf8 required optional point_of list_of address_of point_in node_of nodes_of first_of arbiter_of arbiters_of document_of config_of config_of_line
of_8 = record { read = refl; plain = refl; short = refl }

of_9 : IsRead 9
unfolding digits point_text serde_json_on_literals chars is_utf8 encode_utf8 required optional point_of list_of address_of point_in node_of nodes_of first_of arbiter_of arbiters_of document_of config_of config_of_line
of_9 = record { read = refl; plain = refl; short = refl }

of_10 : IsRead 10
unfolding digits point_text serde_json_on_literals chars is_utf8 encode_utf8 required optional point_of list_of address_of point_in node_of nodes_of first_of arbiter_of arbiters_of document_of config_of config_of_line
of_10 = record { read = refl; plain = refl; short = refl }

of_11 : IsRead 11
unfolding digits point_text serde_json_on_literals chars is_utf8 encode_utf8 required optional point_of list_of address_of point_in node_of nodes_of first_of arbiter_of arbiters_of document_of config_of config_of_line
of_11 = record { read = refl; plain = refl; short = refl }

of_12 : IsRead 12
unfolding digits point_text serde_json_on_literals chars is_utf8 encode_utf8 required optional point_of list_of address_of point_in node_of nodes_of first_of arbiter_of arbiters_of document_of config_of config_of_line
of_12 = record { read = refl; plain = refl; short = refl }

of_13 : IsRead 13
unfolding digits point_text serde_json_on_literals chars is_utf8 encode_utf8 required optional point_of list_of address_of point_in node_of nodes_of first_of arbiter_of arbiters_of document_of config_of config_of_line
of_13 = record { read = refl; plain = refl; short = refl }

of_14 : IsRead 14
unfolding digits point_text serde_json_on_literals chars is_utf8 encode_utf8 required optional point_of list_of address_of point_in node_of nodes_of first_of arbiter_of arbiters_of document_of config_of config_of_line
of_14 = record { read = refl; plain = refl; short = refl }

of_15 : IsRead 15
unfolding digits point_text serde_json_on_literals chars is_utf8 encode_utf8 required optional point_of list_of address_of point_in node_of nodes_of first_of arbiter_of arbiters_of document_of config_of config_of_line
of_15 = record { read = refl; plain = refl; short = refl }

of_16 : IsRead 16
unfolding digits point_text serde_json_on_literals chars is_utf8 encode_utf8 required optional point_of list_of address_of point_in node_of nodes_of first_of arbiter_of arbiters_of document_of config_of config_of_line
of_16 = record { read = refl; plain = refl; short = refl }

-- the numbers from 16 down
is_from_16 : (n : ℕ) → 16 ≤ n → n ≤ 16 → IsRead n
is_from_16 n low high = let e : 16 ≡ n = omega arith in subst IsRead e of_16

is_from_15 : (n : ℕ) → 15 ≤ n → n ≤ 16 → IsRead n
is_from_15 n low high =
    ⊎_elim (λ lt. is_from_16 n (omega arith) high) (λ ge. let e : 15 ≡ n = omega arith in subst IsRead e of_15) (cases_lt 15 n)

is_from_14 : (n : ℕ) → 14 ≤ n → n ≤ 16 → IsRead n
is_from_14 n low high =
    ⊎_elim (λ lt. is_from_15 n (omega arith) high) (λ ge. let e : 14 ≡ n = omega arith in subst IsRead e of_14) (cases_lt 14 n)

is_from_13 : (n : ℕ) → 13 ≤ n → n ≤ 16 → IsRead n
is_from_13 n low high =
    ⊎_elim (λ lt. is_from_14 n (omega arith) high) (λ ge. let e : 13 ≡ n = omega arith in subst IsRead e of_13) (cases_lt 13 n)

is_from_12 : (n : ℕ) → 12 ≤ n → n ≤ 16 → IsRead n
is_from_12 n low high =
    ⊎_elim (λ lt. is_from_13 n (omega arith) high) (λ ge. let e : 12 ≡ n = omega arith in subst IsRead e of_12) (cases_lt 12 n)

is_from_11 : (n : ℕ) → 11 ≤ n → n ≤ 16 → IsRead n
is_from_11 n low high =
    ⊎_elim (λ lt. is_from_12 n (omega arith) high) (λ ge. let e : 11 ≡ n = omega arith in subst IsRead e of_11) (cases_lt 11 n)

is_from_10 : (n : ℕ) → 10 ≤ n → n ≤ 16 → IsRead n
is_from_10 n low high =
    ⊎_elim (λ lt. is_from_11 n (omega arith) high) (λ ge. let e : 10 ≡ n = omega arith in subst IsRead e of_10) (cases_lt 10 n)

is_from_9 : (n : ℕ) → 9 ≤ n → n ≤ 16 → IsRead n
is_from_9 n low high =
    ⊎_elim (λ lt. is_from_10 n (omega arith) high) (λ ge. let e : 9 ≡ n = omega arith in subst IsRead e of_9) (cases_lt 9 n)

is_from_8 : (n : ℕ) → 8 ≤ n → n ≤ 16 → IsRead n
is_from_8 n low high =
    ⊎_elim (λ lt. is_from_9 n (omega arith) high) (λ ge. let e : 8 ≡ n = omega arith in subst IsRead e of_8) (cases_lt 8 n)

is_from_7 : (n : ℕ) → 7 ≤ n → n ≤ 16 → IsRead n
is_from_7 n low high =
    ⊎_elim (λ lt. is_from_8 n (omega arith) high) (λ ge. let e : 7 ≡ n = omega arith in subst IsRead e of_7) (cases_lt 7 n)

is_from_6 : (n : ℕ) → 6 ≤ n → n ≤ 16 → IsRead n
is_from_6 n low high =
    ⊎_elim (λ lt. is_from_7 n (omega arith) high) (λ ge. let e : 6 ≡ n = omega arith in subst IsRead e of_6) (cases_lt 6 n)

is_from_5 : (n : ℕ) → 5 ≤ n → n ≤ 16 → IsRead n
is_from_5 n low high =
    ⊎_elim (λ lt. is_from_6 n (omega arith) high) (λ ge. let e : 5 ≡ n = omega arith in subst IsRead e of_5) (cases_lt 5 n)

is_from_4 : (n : ℕ) → 4 ≤ n → n ≤ 16 → IsRead n
is_from_4 n low high =
    ⊎_elim (λ lt. is_from_5 n (omega arith) high) (λ ge. let e : 4 ≡ n = omega arith in subst IsRead e of_4) (cases_lt 4 n)

is_from_3 : (n : ℕ) → 3 ≤ n → n ≤ 16 → IsRead n
is_from_3 n low high =
    ⊎_elim (λ lt. is_from_4 n (omega arith) high) (λ ge. let e : 3 ≡ n = omega arith in subst IsRead e of_3) (cases_lt 3 n)

is_from_2 : (n : ℕ) → 2 ≤ n → n ≤ 16 → IsRead n
is_from_2 n low high =
    ⊎_elim (λ lt. is_from_3 n (omega arith) high) (λ ge. let e : 2 ≡ n = omega arith in subst IsRead e of_2) (cases_lt 2 n)

is_from_1 : (n : ℕ) → 1 ≤ n → n ≤ 16 → IsRead n
is_from_1 n low high =
    ⊎_elim (λ lt. is_from_2 n (omega arith) high) (λ ge. let e : 1 ≡ n = omega arith in subst IsRead e of_1) (cases_lt 1 n)

pub line_read : (n : ℕ) → 1 ≤ n → n ≤ 16 → config_of_line (config_line n) ≡ Ok (generated_config n)
line_read n low high = (is_from_1 n low high).read

pub line_plain : (n : ℕ) → 1 ≤ n → n ≤ 16 → no_feed (config_line n) ≡ true
line_plain n low high = (is_from_1 n low high).plain

pub line_short : (n : ℕ) → 1 ≤ n → n ≤ 16 → length (config_line n) ≤ 65536
line_short n low high = leb-true (length (config_line n)) 65536 (is_from_1 n low high).short
