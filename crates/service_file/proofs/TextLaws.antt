-- Equal texts have equal configurations but for addresses: each field is read from its text.
use Rattle.std.proofs.Common.{◌≡◌, ℕ, suc, ◌^◌, ◌<◌, ◌≤◌, List, [], ◌∷◌, ◌++◌, map, get_or, refl, ap, sym, ◌∙◌, arith}
use Rattle.std.specs.Prelude.{codes, decimal, All}
use Rattle.std.specs.List.{flat_map}
use Rattle.std.proofs.lemmas.List.{append_assoc, append_cancel_left}
use Rattle.std.proofs.lemmas.Option.{slice_get-get_or}
use Rattle.fabric_terms.specs.Ranges.{IsLong}
use Rattle.fabric_terms.specs.Sound.{IsSound, IsSoundNode}
use Rattle.fabric_terms.specs.declared.config.FabricConfig.{FabricConfig}
use Rattle.fabric_terms.specs.declared.config.NodeEntry.{NodeEntry}
use Rattle.text_fields.specs.Inverses.{IsField, EndsNumber}
use Rattle.text_fields.specs.Fields.{Field}
use Rattle.text_fields.specs.Points.{point_text}
use Rattle.text_fields.proofs.Numbers.{some_same}
use Rattle.text_fields.proofs.NumberLaws.{long_is}
use Rattle.text_fields.proofs.PointLaws.{point_is}
use Rattle.service_file.specs.Texts.{numbered, line, node_line, arbiter_line, times_text, ring_text, text_of_config, unaddressed, unaddressed_arbiter, without_addresses}

-- a field of which two texts begin alike is the same in both, and so is what follows
peeled : {A : Type 0} {field : List ℕ → Field A} {Fits : A → Type 0} {text : A → List ℕ} {Ends : List ℕ → Type 0} → IsField field Fits text Ends
    → (x y : A) (r s : List ℕ) → Fits x → Fits y → Ends r → Ends s → text x ++ r ≡ text y ++ s → (x ≡ y) × (r ≡ s)
peeled {A} {field} law x y r s fits_x fits_y ends_r ends_s e =
    let p : A × List ℕ = (x, r) in
    let q : A × List ℕ = (y, s) in
    let same : p ≡ q = some_same p q (sym (law.again x r fits_x ends_r) ∙ (ap field e ∙ law.again y s fits_y ends_s)) in
    (ap (λ (t : A × List ℕ). t.0) same, ap (λ (t : A × List ℕ). t.1) same)

-- a number behind a word, with what ends a number behind it
numbers_same : (word : List ℕ) (m n : ℕ) (r s : List ℕ) → IsLong m → IsLong n → EndsNumber r → EndsNumber s
    → numbered word m ++ r ≡ numbered word n ++ s → (m ≡ n) × (r ≡ s)
numbers_same word m n r s fits_m fits_n ends_r ends_s e =
    let behind : decimal m ++ r ≡ decimal n ++ s =
    append_cancel_left word (decimal m ++ r) (decimal n ++ s)
    (sym (append_assoc word (decimal m) r) ∙ (e ∙ append_assoc word (decimal n) s)) in
    peeled long_is m n r s fits_m fits_n ends_r ends_s behind

lines_same : (word : List ℕ) (m n : ℕ) (r s : List ℕ) → IsLong m → IsLong n → line word m ++ r ≡ line word n ++ s → (m ≡ n) × (r ≡ s)
unfolding line
lines_same word m n r s fits_m fits_n e =
    let behind = numbers_same word m n (codes "\n" ++ r) (codes "\n" ++ s) fits_m fits_n refl refl
    (sym (append_assoc (numbered word m) (codes "\n") r) ∙ (e ∙ append_assoc (numbered word n) (codes "\n") s)) in
    (behind.0, append_cancel_left (codes "\n") r s behind.1)

regrouped : (a b c d e r : List ℕ) → (a ++ b ++ c ++ d ++ e) ++ r ≡ a ++ (b ++ (c ++ (d ++ (e ++ r))))
regrouped a b c d e r = simp append_assoc

-- the fields of a node but its address
abbrev bare : ℕ → ℕ → ℕ → ℕ → NodeEntry
bare n p d l = record { node = n; point = record { 0 = p }; domain = d; at = []; longest = l }

of_limit : (n high : ℕ) → n ≤ high → high < 2 ^ 64 → IsLong n
of_limit n high p q = omega (arith, p, q)

begins_blank : (n : NodeEntry) (r : List ℕ) → EndsNumber (line (codes " ") n.longest ++ r)
unfolding line
begins_blank n r = refl

nodes_same : (m n : NodeEntry) (r s : List ℕ) → IsSoundNode m → IsSoundNode n → node_line m ++ r ≡ node_line n ++ s
    → (unaddressed m ≡ unaddressed n) × (r ≡ s)
unfolding node_line
nodes_same m n r s p q e =
    let begun : numbered (codes "node ") m.node ++ (codes " " ++ (point_text m.point.0 ++ (numbered (codes " ") m.domain ++ (line (codes " ") m.longest ++ r))))
    ≡ numbered (codes "node ") n.node ++ (codes " " ++ (point_text n.point.0 ++ (numbered (codes " ") n.domain ++ (line (codes " ") n.longest ++ s)))) =
    sym (regrouped (numbered (codes "node ") m.node) (codes " ") (point_text m.point.0) (numbered (codes " ") m.domain) (line (codes " ") m.longest) r)
    ∙ (e ∙ regrouped (numbered (codes "node ") n.node) (codes " ") (point_text n.point.0) (numbered (codes " ") n.domain) (line (codes " ") n.longest) s) in
    let a = numbers_same (codes "node ") m.node n.node _ _ (omega (arith, p.node.to_high)) (omega (arith, q.node.to_high)) refl refl begun in
    let b = append_cancel_left (codes " ") _ _ a.1 in
    let c = peeled point_is m.point.0 n.point.0 _ _ p.point q.point tt tt b in
    let d = numbers_same (codes " ") m.domain n.domain _ _ (omega (arith, p.domain.to_high)) (omega (arith, q.domain.to_high)) (begins_blank m r) (begins_blank n s) c.1 in
    let f = lines_same (codes " ") m.longest n.longest r s (omega (arith, p.longest.to_high)) (omega (arith, q.longest.to_high)) d.1 in
    let A = a.0 in
    let C = c.0 in
    let D = d.0 in
    let F = f.0 in (
      ap (λ x. bare x m.point.0 m.domain m.longest) A
          ∙ (ap (λ x. bare n.node x m.domain m.longest) C
          ∙ (ap (λ x. bare n.node n.point.0 x m.longest) D ∙ ap (λ x. bare n.node n.point.0 n.domain x) F)),
      f.1,
    )

abbrev AreLong : List (ℕ × List ℕ) → Type 0
AreLong arbiters = All (λ a. a.0 < 2 ^ 64) arbiters

-- all but the first
behind_first : {X : Type 0} (P : X → Type 0) (x : X) (xs : List X) → All P (x ∷ xs) → P x × All P xs
behind_first P x xs h = (h 0 x (omega arith), λ k d within. h (suc k) d (omega (arith, within)))

abbrev numbers_of : List (ℕ × List ℕ) → List (ℕ × List ℕ)
numbers_of arbiters = map unaddressed_arbiter arbiters

arbiters_same : (ps qs : List (ℕ × List ℕ)) → AreLong ps → AreLong qs → flat_map arbiter_line ps ≡ flat_map arbiter_line qs
    → numbers_of ps ≡ numbers_of qs
unfolding line
arbiters_same [] [] p q e = refl
arbiters_same [] (b ∷ qs) p q e = let never : 0 ≡ 97 = ap (λ t. get_or t 0 0) e in absurd (omega (arith, never))
arbiters_same (a ∷ ps) [] p q e = let never : 97 ≡ 0 = ap (λ t. get_or t 0 0) e in absurd (omega (arith, never))
arbiters_same (a ∷ ps) (b ∷ qs) p q e =
    let first = behind_first (λ a. a.0 < 2 ^ 64) a ps p in
    let second = behind_first (λ a. a.0 < 2 ^ 64) b qs q in
    let same = lines_same (codes "arbiter ") a.0 b.0 (flat_map arbiter_line ps) (flat_map arbiter_line qs) first.0 second.0 e in
    let nothing : List ℕ = [] in
    ap (λ n. (n, nothing) ∷ numbers_of ps) same.0 ∙ ap (λ rest. (b.0, nothing) ∷ rest) (arbiters_same ps qs first.1 second.1 same.1)

record SameLists (ms ns : List NodeEntry) (ps qs : List (ℕ × List ℕ)) : Type 0 where
  nodes : map unaddressed ms ≡ map unaddressed ns
  arbiters : numbers_of ps ≡ numbers_of qs

lists_same : (ms ns : List NodeEntry) (ps qs : List (ℕ × List ℕ)) → All IsSoundNode ms → All IsSoundNode ns → AreLong ps → AreLong qs
    → flat_map node_line ms ++ flat_map arbiter_line ps ≡ flat_map node_line ns ++ flat_map arbiter_line qs → SameLists ms ns ps qs
unfolding line node_line
lists_same [] [] ps qs m n p q e = record { nodes = refl; arbiters = arbiters_same ps qs p q e }
lists_same [] (y ∷ ns) [] qs m n p q e = let never : 0 ≡ 110 = ap (λ t. get_or t 0 0) e in absurd (omega (arith, never))
lists_same [] (y ∷ ns) (a ∷ ps) qs m n p q e = let never : 97 ≡ 110 = ap (λ t. get_or t 0 0) e in absurd (omega (arith, never))
lists_same (x ∷ ms) [] ps [] m n p q e = let never : 110 ≡ 0 = ap (λ t. get_or t 0 0) e in absurd (omega (arith, never))
lists_same (x ∷ ms) [] ps (b ∷ qs) m n p q e = let never : 110 ≡ 97 = ap (λ t. get_or t 0 0) e in absurd (omega (arith, never))
lists_same (x ∷ ms) (y ∷ ns) ps qs m n p q e =
    let first = behind_first IsSoundNode x ms m in
    let second = behind_first IsSoundNode y ns n in
    let begun : node_line x ++ (flat_map node_line ms ++ flat_map arbiter_line ps) ≡ node_line y ++ (flat_map node_line ns ++ flat_map arbiter_line qs) =
    sym (append_assoc (node_line x) (flat_map node_line ms) (flat_map arbiter_line ps))
    ∙ (e ∙ append_assoc (node_line y) (flat_map node_line ns) (flat_map arbiter_line qs)) in
    let same = nodes_same x y (flat_map node_line ms ++ flat_map arbiter_line ps) (flat_map node_line ns ++ flat_map arbiter_line qs) first.0 second.0 begun in
    let rest = lists_same ms ns ps qs first.1 second.1 p q same.1 in
    record {
      nodes = ap (λ z. z ∷ map unaddressed ms) same.0 ∙ ap (λ zs. unaddressed y ∷ zs) rest.nodes;
      arbiters = rest.arbiters;
    }

long_numbers : (c : FabricConfig) → IsSound c → AreLong c.arbiters
long_numbers c s k d within =
    let at = s.arbiters_in_order k (get_or c.arbiters k d) (slice_get-get_or c.arbiters k d within) in
    omega (arith, at, within, s.arbiters_count.to_high)

first_long : (c : FabricConfig) → IsSound c → IsLong c.first
first_long c s =
    let (k, x, within, same, e) = s.first_listed in
    let node = s.nodes k x within in
    omega (arith, ap (λ (y : NodeEntry). y.node) same, e, node.node.to_high)

texts_grouped : (a b c d e f g h n m : List ℕ)
    → (a ++ b ++ c ++ d ++ e) ++ (f ++ g ++ h) ++ n ++ m ≡ a ++ (b ++ (c ++ (d ++ (e ++ (f ++ (g ++ (h ++ (n ++ m))))))))
texts_grouped a b c d e f g h n m = simp append_assoc

-- the configuration of these numbers and lists, with no address
abbrev made : (first near rounds lease answer drift grain : ℕ) (nodes : List NodeEntry) (arbiters : List (ℕ × List ℕ)) → FabricConfig
made first near rounds lease answer drift grain nodes arbiters = record {
  first = first;
  near = near;
  rounds = rounds;
  lease = lease;
  answer = answer;
  bound = record { d = drift; grain = grain };
  nodes = nodes;
  arbiters = arbiters;
}

abbrev rest_of : FabricConfig → List ℕ
rest_of c = flat_map node_line c.nodes ++ flat_map arbiter_line c.arbiters

in_a_row : (c : FabricConfig) → text_of_config c ≡ codes "fabricd 1\n" ++ (line (codes "lease ") c.lease ++ (line (codes "answer ") c.answer
    ++ (line (codes "drift ") c.bound.d ++ (line (codes "grain ") c.bound.grain ++ (line (codes "near ") c.near
    ++ (line (codes "rounds ") c.rounds ++ (line (codes "first ") c.first ++ rest_of c)))))))
unfolding text_of_config
in_a_row c = texts_grouped (codes "fabricd 1\n") (line (codes "lease ") c.lease) (line (codes "answer ") c.answer)
    (line (codes "drift ") c.bound.d) (line (codes "grain ") c.bound.grain) (line (codes "near ") c.near)
    (line (codes "rounds ") c.rounds) (line (codes "first ") c.first) (flat_map node_line c.nodes) (flat_map arbiter_line c.arbiters)

pub equal_texts : (c d : FabricConfig) → IsSound c → IsSound d → text_of_config c ≡ text_of_config d → without_addresses c ≡ without_addresses d
equal_texts c d s t e =
    let begun = append_cancel_left (codes "fabricd 1\n") _ _ (sym (in_a_row c) ∙ (e ∙ in_a_row d)) in
    let lease = lines_same (codes "lease ") c.lease d.lease _ _ (omega (arith, s.lease.to_high)) (omega (arith, t.lease.to_high)) begun in
    let answer = lines_same (codes "answer ") c.answer d.answer _ _ (omega (arith, s.answer.to_high)) (omega (arith, t.answer.to_high)) lease.1 in
    let drift = lines_same (codes "drift ") c.bound.d d.bound.d _ _ (omega (arith, s.drift.to_high)) (omega (arith, t.drift.to_high)) answer.1 in
    let grain = lines_same (codes "grain ") c.bound.grain d.bound.grain _ _ (omega (arith, s.grain.to_high)) (omega (arith, t.grain.to_high)) drift.1 in
    let near = lines_same (codes "near ") c.near d.near _ _ (omega (arith, s.near.to_high)) (omega (arith, t.near.to_high)) grain.1 in
    let rounds = lines_same (codes "rounds ") c.rounds d.rounds _ _ (omega (arith, s.rounds.to_high)) (omega (arith, t.rounds.to_high)) near.1 in
    let first = lines_same (codes "first ") c.first d.first (rest_of c) (rest_of d) (first_long c s) (first_long d t) rounds.1 in
    let lists = lists_same c.nodes d.nodes c.arbiters d.arbiters s.nodes t.nodes (long_numbers c s) (long_numbers d t) first.1 in
    let cn = map unaddressed c.nodes in
    let ca = numbers_of c.arbiters in
    ap (λ x. made x c.near c.rounds c.lease c.answer c.bound.d c.bound.grain cn ca) first.0
    ∙ (ap (λ x. made d.first x c.rounds c.lease c.answer c.bound.d c.bound.grain cn ca) near.0
    ∙ (ap (λ x. made d.first d.near x c.lease c.answer c.bound.d c.bound.grain cn ca) rounds.0
    ∙ (ap (λ x. made d.first d.near d.rounds x c.answer c.bound.d c.bound.grain cn ca) lease.0
    ∙ (ap (λ x. made d.first d.near d.rounds d.lease x c.bound.d c.bound.grain cn ca) answer.0
    ∙ (ap (λ x. made d.first d.near d.rounds d.lease d.answer x c.bound.grain cn ca) drift.0
    ∙ (ap (λ x. made d.first d.near d.rounds d.lease d.answer d.bound.d x cn ca) grain.0
    ∙ (ap (λ x. made d.first d.near d.rounds d.lease d.answer d.bound.d d.bound.grain x ca) lists.nodes
    ∙ ap (λ x. made d.first d.near d.rounds d.lease d.answer d.bound.d d.bound.grain (map unaddressed d.nodes) x) lists.arbiters)))))))

-- addresses have no text
nodes_unaddressed : (ns : List NodeEntry) → flat_map node_line (map unaddressed ns) ≡ flat_map node_line ns
unfolding node_line
nodes_unaddressed [] = refl
nodes_unaddressed (n ∷ ns) = ap (λ t. node_line n ++ t) (nodes_unaddressed ns)

arbiters_unaddressed : (ps : List (ℕ × List ℕ)) → flat_map arbiter_line (numbers_of ps) ≡ flat_map arbiter_line ps
arbiters_unaddressed [] = refl
arbiters_unaddressed (a ∷ ps) = ap (λ t. arbiter_line a ++ t) (arbiters_unaddressed ps)

text_unaddressed : (c : FabricConfig) → text_of_config (without_addresses c) ≡ text_of_config c
unfolding text_of_config
text_unaddressed c =
    ap (λ t. times_text c ++ ring_text c ++ t ++ flat_map arbiter_line (numbers_of c.arbiters)) (nodes_unaddressed c.nodes)
    ∙ ap (λ t. times_text c ++ ring_text c ++ flat_map node_line c.nodes ++ t) (arbiters_unaddressed c.arbiters)

pub addresses_have_no_text : (c d : FabricConfig) → without_addresses c ≡ without_addresses d → text_of_config c ≡ text_of_config d
addresses_have_no_text c d e = sym (text_unaddressed c) ∙ (ap text_of_config e ∙ text_unaddressed d)
