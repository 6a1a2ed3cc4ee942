-- What the policy may name is in its range, since it was read from FILE.
use Rattle.std.proofs.Common.{arith, ◌≡◌, ℕ, ◌^◌, ◌<◌, ◌≤◌, max, min, Bool, true, List, [], ◌∷◌, map, subst, ◌∙◌, refl, inl, inr}
use Rattle.std.specs.Prelude.{All, nat_eq, not}
use Rattle.std.specs.List.{list_any}
use Rattle.std.proofs.lemmas.Bool.{and_parts, eqb-true, false≢true, or_cases}
use Rattle.std.proofs.lemmas.List.Elements.{All-filter, All-head, All-map, All-tail, All-weaker}
use Rattle.std.proofs.lemmas.Option.{IfSome_then}
use Rattle.fabric_terms.specs.declared.command.Command.{Command}
use Rattle.fabric_terms.specs.declared.command.Command.TheVariants.{Join, Find, Link, Create, Heal}
use Rattle.fabric_terms.specs.declared.config.FabricConfig.{FabricConfig}
use Rattle.fabric_terms.specs.declared.config.NodeEntry.{NodeEntry}
use Rattle.fabric_terms.specs.Ranges.{FitsCommand, IsMembers, IsNode, IsPartition}
use Rattle.fabric_terms.specs.Sound.{IsSound, IsSoundNode}
use Rattle.service_file.specs.declared.settings.Declared.{Declared}
use Rattle.service_file.specs.declared.settings.ServiceSettings.{ServiceSettings}
use Rattle.service_file.specs.Sound.{IsConfigured, IsSoundDeclared, IsSoundService}
use Rattle.fabric_steward.specs.Afterwards.{command_given}
use Rattle.fabric_steward.specs.Calls.{Advised, Call, Noted, policy_after}
use Rattle.fabric_steward.specs.Domains.{domains_up}
use Rattle.fabric_steward.specs.Laws.{GivesWhatFits, Names, declared_of, is_wanted, may_give, names_of}
use Rattle.fabric_steward.specs.Policies.{Policy, fresh_policy, node_watched, unit_watched}
use Rattle.fabric_steward.proofs.Naming.{gives_its_names, keeps_its_names}

-- the names are in their ranges
record AreFit (names : Names) : Type 0 where
  pub joins : All IsNode names.joins
  pub nodes : All IsNode names.nodes
  pub points : All (λ p. p < 2 ^ 64) names.points
  pub units : All IsSoundDeclared names.units

names_stay : (s : Policy) (calls : List Call) → names_of (policy_after s calls) ≡ names_of s
names_stay s [] = refl
names_stay s (Advised f now ∷ before) = keeps_its_names.advised f now (policy_after s before) ∙ names_stay s before
names_stay s (Noted input told ∷ before) = keeps_its_names.noted input told (policy_after s before) ∙ names_stay s before

-- what passes the test of one item has what follows from that item
any_gives : {X : Type 0} (P : X → Type 0) (Q : Type 0) (test : X → Bool) → ((x : X) → P x → test x ≡ true → Q) → (xs : List X) → All P xs → list_any test xs ≡ true → Q
any_gives P Q test step [] all any = absurd (false≢true any)
any_gives P Q test step (x ∷ xs) all any = elim (or_cases (test x) (list_any test xs) any) [
  | inl here ↦ step x (All-head P x xs all) here
  | inr later ↦ any_gives P Q test step xs (All-tail P x xs all) later
]

wanted_fits : (d partition count : ℕ) (u : Declared) → IsSoundDeclared u → is_wanted d partition count u ≡ true → IsPartition partition × IsMembers count
wanted_fits d partition count u sound is =
    let both = and_parts (nat_eq u.partition partition) (nat_eq count (max 1 (min u.replicas d))) is in
    let same : u.partition ≡ partition = eqb-true u.partition partition both.0 in
    let many : count ≡ max 1 (min u.replicas d) = eqb-true count (max 1 (min u.replicas d)) both.1 in
    let low : u.partition ≤ 65535 = sound.partition.to_high in
    let high : u.replicas ≤ 7 = sound.replicas.to_high in
    (omega arith, (omega arith, omega arith))

may_fit : (d : ℕ) (names : Names) → AreFit names → (command : Command) → may_give d names command ≡ true → FitsCommand command
may_fit d names fit (Join node) may =
    any_gives IsNode (IsNode node) (λ n. nat_eq n node) (λ n is same. subst IsNode (eqb-true n node same) is) names.joins fit.joins may
may_fit d names fit (Find point) may = elim (or_cases (nat_eq point.0 0) (list_any (λ p. nat_eq p point.0) names.points) may) [
  | inl zero ↦ let e : point.0 ≡ 0 = eqb-true point.0 0 zero in omega arith
  | inr any ↦ any_gives (λ p. p < 2 ^ 64) (point.0 < 2 ^ 64) (λ p. nat_eq p point.0) (λ p is same. let e : p ≡ point.0 = eqb-true p point.0 same in omega arith) names.points fit.points any
]
may_fit d names fit (Link node) may =
    any_gives IsNode (IsNode node) (λ n. nat_eq n node) (λ n is same. subst IsNode (eqb-true n node same) is) names.nodes fit.nodes may
may_fit d names fit (Create partition count) may =
    any_gives IsSoundDeclared (IsPartition partition × IsMembers count) (is_wanted d partition count) (wanted_fits d partition count) names.units fit.units may
may_fit d names fit (Heal partition count) may =
    any_gives IsSoundDeclared (IsPartition partition × IsMembers count) (is_wanted d partition count) (wanted_fits d partition count) names.units fit.units may
may_fit d names fit _ may = absurd (false≢true may)

configured_node : (c : FabricConfig) → IsSound c → (n : ℕ) → IsConfigured c n → IsNode n
configured_node c sound n is =
    let node : IsSoundNode is.1 = subst IsSoundNode is.3 (sound.nodes is.0 is.1 is.2) in
    subst IsNode is.4 (node.node.from_low, node.node.to_high)

fresh_fit : (c : FabricConfig) (settings : ServiceSettings) (me : ℕ) → IsSound c → IsSoundService c settings → AreFit (names_of (fresh_policy c settings me))
fresh_fit c settings me sound service = record {
  joins = All-filter (λ n. not (nat_eq n me)) IsNode settings.join (All-weaker (IsConfigured c) IsNode (configured_node c sound) settings.join service.joined);
  nodes = All-map IsNode (λ n. n.node) (map node_watched c.nodes) (
      All-map (λ n. IsNode n.node) node_watched c.nodes (All-weaker IsSoundNode (λ (n : NodeEntry). IsNode n.node) (λ n is. (is.node.from_low, is.node.to_high)) c.nodes sound.nodes));
  points = All-map (λ p. p < 2 ^ 64) (λ n. n.point.0) (map node_watched c.nodes) (
      All-map (λ n. n.point.0 < 2 ^ 64) node_watched c.nodes (All-weaker IsSoundNode (λ (n : NodeEntry). n.point.0 < 2 ^ 64) (λ n is. is.point) c.nodes sound.nodes));
  units = All-map IsSoundDeclared declared_of (map (unit_watched c.lease) settings.partitions) (
      All-map (λ w. IsSoundDeclared (declared_of w)) (unit_watched c.lease) settings.partitions service.partitions);
}

pub gives_what_fits : GivesWhatFits
gives_what_fits c settings me calls f now sound service =
    let s : Policy = policy_after (fresh_policy c settings me) calls in
    let fit : AreFit (names_of s) = rw (names_stay (fresh_policy c settings me) calls) (fresh_fit c settings me sound service) in
    IfSome_then (command_given f now s) (gives_its_names f now s) (λ command may. may_fit (domains_up f now s.nodes) (names_of s) fit command may)
