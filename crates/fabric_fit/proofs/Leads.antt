-- What a primary knows of its members stays in range.
use Rattle.std.proofs.Common.{ℕ, ◌+◌, ◌&&◌, List, [], ◌∷◌, IsTrue, refl, arith}
use Rattle.std.specs.Prelude.{◌==◌, All, None, filter, map, max, nat_le, not}
use Rattle.std.proofs.lemmas.Bool.{cond_both, le-leb, leb-true, ltb-true}
use Rattle.std.proofs.lemmas.List.Elements.{All-cons, All-filter, All-head, All-map, All-tail, All-weaker}
use Rattle.fabric_terms.specs.Fields.{is_config, is_last, is_node, is_word}
use Rattle.ring_points.specs.declared.unit.Config.{Config}
use Rattle.ring_points.specs.Epochs.{is_older}
use Rattle.unit_rules.specs.declared.progress.PeerProgress.{PeerProgress}
use Rattle.unit_rules.specs.Progress.{confirmed_by, confirmed_of, confirmed_up_to, first_progress, first_peer, greatest, is_confirmed, is_primary, progress_of, most_confirmed, peer_confirms}
use Rattle.unit_rules.specs.ReplicaStates.{ReplicationProgress, ReplicaState}
use Rattle.fabric_fit.specs.ReplicaStates.{ProgressInRange, PrimaryProgressInRange, PeerInRange, ReplicaStateInRange}
use Rattle.fabric_fit.proofs.Members.{config_parts, members_nodes}

abbrev IsLast : ℕ → Type 0
IsLast n = IsTrue (is_last n)

-- It begins to lead.

first_peer_in_range : (last node : ℕ) → IsTrue (is_last last) → IsTrue (is_node node) → PeerInRange (first_peer last node)
first_peer_in_range last node h k = let few = leb-true last 100000 h in record { node = k; confirmed = refl; next = omega arith }

pub first_progress_in_range : (me : ℕ) (config : Config) (last : ℕ) → IsTrue (is_config config) → IsTrue (is_last last) → ProgressInRange (first_progress me config last)
first_progress_in_range me config last h k = record {
  peers =
      All-map PeerInRange (first_peer last) (filter (λ n. not (n == me)) config.members)
      (All-weaker (λ n. IsTrue (is_node n)) (λ n. PeerInRange (first_peer last n)) (λ n node. first_peer_in_range last n k node)
      (filter (λ n. not (n == me)) config.members)
      (All-filter (λ n. not (n == me)) (λ n. IsTrue (is_node n)) config.members (members_nodes config.members (config_parts config h).members)));
  committed = k;
}

pub progress_of_in_range : (s : ReplicaState) → ReplicaStateInRange s → PrimaryProgressInRange (progress_of s)
progress_of_in_range s h = cond_both (is_primary s.replica.role && not (is_older s.replica.at s.replica.promised)) s.progress None PrimaryProgressInRange (λ f. h.progress) (λ f. tt)

-- A member confirms.

module _ (node last own : ℕ) (said : IsTrue (is_word last)) (has : IsTrue (is_last own)) where
  confirmed_in_range : (p : PeerProgress) → IsTrue (is_last p.confirmed) → IsTrue (is_last (confirmed_up_to last own p))
  confirmed_in_range p h =
      cond_both (nat_le last own) (max p.confirmed last) p.confirmed IsLast
      (λ f. let before = leb-true p.confirmed 100000 h in
      let within = leb-true last own f in
      let few = leb-true own 100000 has in
      le-leb (max p.confirmed last) 100000 (omega arith))
      (λ f. h)

  peer_in_range : (p : PeerProgress) → PeerInRange p → PeerInRange (peer_confirms node last own p)
  peer_in_range p h =
      let word = ltb-true last 4294967296 said in
      cond_both (p.node == node) (record p { confirmed = confirmed_up_to last own p; next = last + 1 }) p PeerInRange
      (λ f. record { node = h.node; confirmed = confirmed_in_range p h.confirmed; next = omega arith })
      (λ f. h)

  pub confirmed_by_in_range : (l : ReplicationProgress) → ProgressInRange l → ProgressInRange (confirmed_by node last own l)
  confirmed_by_in_range l h = record {
    peers =
        All-map PeerInRange (peer_confirms node last own) l.peers
        (All-weaker PeerInRange (λ p. PeerInRange (peer_confirms node last own p)) peer_in_range l.peers h.peers);
    committed = h.committed;
  }

-- What is committed.

greatest_in_range : (ns : List ℕ) → All IsLast ns → IsLast (greatest ns)
greatest_in_range [] h = refl
greatest_in_range (n ∷ ns) h =
    let here = leb-true n 100000 (All-head IsLast n ns h) in
    let behind = leb-true (greatest ns) 100000 (greatest_in_range ns (All-tail IsLast n ns h)) in
    le-leb (max n (greatest ns)) 100000 (omega arith)

pub most_in_range : (l : ReplicationProgress) (own : ℕ) → ProgressInRange l → IsTrue (is_last own) → IsTrue (is_last (most_confirmed (confirmed_of l own)))
most_in_range l own h k =
    let all : List ℕ = confirmed_of l own in
    greatest_in_range (filter (is_confirmed all) all)
    (All-filter (is_confirmed all) IsLast all
    (All-cons IsLast own (map (λ p. p.confirmed) l.peers) k
    (All-map IsLast (λ p. p.confirmed) l.peers (All-weaker PeerInRange (λ p. IsLast p.confirmed) (λ p f. f.confirmed) l.peers h.peers))))
