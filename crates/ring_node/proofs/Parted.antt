-- A link is parted.
use Rattle.std.proofs.Common.{◌≡◌, ℕ, ◌+◌, Bool, true, false, ◌&&◌, List, [], ◌∷◌, ◌++◌, Option, Some, None, Result, Ok, Err, OnErr, OnOk, nat_le, nat_lt, refl, ap, arith}
use Rattle.std.proofs.Math.Seq.{take-append_seam, take-length}
use Rattle.std.proofs.lemmas.Bool.Decides.{nat_tests}
use Rattle.fabric_terms.specs.declared.message.Body.{Body}
use Rattle.fabric_terms.specs.declared.message.Body.TheVariants.{Gone}
use Rattle.fabric_terms.specs.declared.report.Report.{Report}
use Rattle.join_phases.specs.declared.phases.Phase.{Phase}
use Rattle.link_core.specs.Calls.{call_after, part_at, part_call, part_unless}
use Rattle.link_core.specs.Links.{Did, Links, did, with_slot}
use Rattle.ring_node.specs.Nodes.{IsPatched, Node, by, node_of, step, with_token}
use Rattle.ring_node.proofs.Found.{found_there}
use Rattle.ring_points.specs.declared.who.Who.{Who}
use Rattle.ring_route.specs.Routes.{Routes}
use Rattle.ring_rules.specs.declared.link.Link.{Link}
use Rattle.ring_rules.specs.Commands.{part_commanded}
use Rattle.ring_rules.specs.Deeds.{has_numbers, undone}
use Rattle.ring_rules.specs.Links.{has_flight, parting_link}
use Rattle.ring_rules.specs.Slots.{may_part, of_node, slot_at, slot_where}
use Rattle.token_core.specs.Tokens.{Token, last_number}

-- what the links did
pub record IsParted (k l : Links) (i : ℕ) (out sent : List (Who × Body)) : Type 0 where
  pub link : Link
  pub slot : slot_at i k.slots ≡ Some link
  pub stays : has_flight link ≡ false
  pub links : l ≡ with_slot i (Some (parting_link link)) k
  pub sent_is : sent ≡ out ++ (link.peer, Gone link.mine link.yours link.got true) ∷ []

unless_parted : (k l : Links) (i : ℕ) (out sent : List (Who × Body)) (link : Link) (busy : Bool) → slot_at i k.slots ≡ Some link → has_flight link ≡ busy → Ok (did l sent []) ≡ call_after out (part_at i k (part_unless link busy)) → IsParted k l i out sent
unless_parted k l i out sent link true s b e = absurd cc
unless_parted k l i out sent link false s b e =
    let f : did l sent [] ≡ did (with_slot i (Some (parting_link link)) k) (out ++ (link.peer, Gone link.mine link.yours link.got true) ∷ []) [] = cc in
    record { link = link; slot = s; stays = b; links = ap (λ (d : Did). d.links) f; sent_is = ap (λ (d : Did). d.sent) f }

slot_parted : (node : ℕ) (k l : Links) (i : ℕ) (out sent : List (Who × Body)) (slot : Option Link) → slot_at i k.slots ≡ slot → of_node may_part node slot ≡ true → slot_where (of_node may_part node) k.slots ≡ Some i → Ok (did l sent []) ≡ call_after out (part_call node k) → IsParted k l i out sent
slot_parted node k l i out sent None s t p e = absurd cc
slot_parted node k l i out sent (Some link) s t p e = unless_parted k l i out sent link (has_flight link) s refl (rw (p, s) at e)

pub parted : (node : ℕ) (k l : Links) (i : ℕ) (out sent : List (Who × Body)) → slot_where (of_node may_part node) k.slots ≡ Some i → Ok (did l sent []) ≡ call_after out (part_call node k) → IsParted k l i out sent
parted node k l i out sent p e = slot_parted node k l i out sent (slot_at i k.slots) refl (found_there (of_node may_part node) k.slots i p) p e

-- the node did
pub part_done : (node i : ℕ) (k l : Links) (token : Token) (routes : Routes) (phase : Phase) (target : Option ℕ) (near : ℕ) (new : Node) (out sent : List (Who × Body)) (told : List Report) → slot_where (of_node may_part node) k.slots ≡ Some i → IsParted k l i out sent → new ≡ with_token (undone i token) (node_of l token routes phase target near) → step new sent told ≡ by (λ c. part_commanded node) (step (node_of k token routes phase target near) out told)
unfolding part_commanded
part_done node i k l token routes phase target near new out sent told p d e = rw (e, d.links, d.sent_is, p, d.slot, d.stays) refl

-- it has no number

too_far : (v s f : ℕ) → nat_lt last_number v ≡ true → (nat_le v last_number && nat_le s (last_number + 1) && nat_le f (last_number + 1)) ≡ false
too_far v s f h = grind (arith, nat_tests)

pub part_none : (node i : ℕ) (k l : Links) (token : Token) (routes : Routes) (phase : Phase) (target : Option ℕ) (near : ℕ) (out sent : List (Who × Body)) (told : List Report) → slot_where (of_node may_part node) k.slots ≡ Some i → IsParted k l i out sent → nat_lt last_number (undone i token).version ≡ true → has_numbers (part_commanded node (step (node_of k token routes phase target near) out told).work).ring ≡ false
unfolding part_commanded
part_none node i k l token routes phase target near out sent told p d h = rw (p, d.slot, d.stays) (too_far (undone i token).version k.next_session (undone i token).next_flight h)

pub part_patched : (i : ℕ) (k l : Links) (token : Token) (routes : Routes) (phase : Phase) (target : Option ℕ) (near : ℕ) (out sent : List (Who × Body)) (told : List Report) → IsParted k l i out sent → IsPatched (step (node_of k token routes phase target near) out told) (step (node_of l token routes phase target near) sent told)
part_patched i k l token routes phase target near out sent told d =
    rw (d.links, d.sent_is) (record { settings = refl; me = refl; accused = take-length k.accused; routes = refl; target = refl; flights = refl; version = omega arith; sessions = omega arith; sent = take-append_seam out _; told = take-length told })

-- what follows of a result
pub on_ok : {E : Type 0} (r : Result (Unit {0}) E) (P Q : Type 0) → (P → Q) → OnOk r P → OnOk r Q
on_ok (Ok u) P Q f p = f p
on_ok (Err e) P Q f p = p

pub on_err : {E : Type 0} (r : Result (Unit {0}) E) (P Q : Type 0) → (P → Q) → OnErr r P → OnErr r Q
on_err (Ok u) P Q f p = p
on_err (Err e) P Q f p = f p
