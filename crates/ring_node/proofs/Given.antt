-- What is frozen is given away.
use Rattle.std.proofs.Common.{◌≡◌, ℕ, Bool, true, false, List, [], ◌∷◌, ◌++◌, Option, Some, None, Ok, refl, sym, ap, ◌∙◌, nat_lt, option_map, arith}
use Rattle.std.proofs.lemmas.Bool.Decides.{nat_tests}
use Rattle.fabric_terms.specs.declared.message.Body.{Body}
use Rattle.fabric_terms.specs.declared.report.Report.{Report}
use Rattle.fabric_terms.specs.declared.report.Report.TheVariants.{Gave}
use Rattle.join_phases.specs.declared.phases.Phase.{Phase}
use Rattle.link_core.specs.Calls.{call_in, flight_sent}
use Rattle.link_core.specs.Links.{Did, Links, did, did_after, with_slot}
use Rattle.ring_node.specs.Nodes.{Node, by, node_of, step}
use Rattle.ring_points.specs.declared.who.Flight.{Flight}
use Rattle.ring_points.specs.declared.who.Who.{Who}
use Rattle.ring_route.specs.Routes.{Routes}
use Rattle.ring_rules.specs.declared.link.Link.{Link}
use Rattle.ring_rules.specs.Firing.{all_acked, give_frozen}
use Rattle.ring_rules.specs.Links.{transfer_body}
use Rattle.ring_rules.specs.Rings.{Work}
use Rattle.ring_rules.specs.Slots.{slot_at}
use Rattle.token_core.specs.declared.refusal.TokenRefusal.TheVariants.{Counters}
use Rattle.token_core.specs.Calls as calls
use Rattle.token_core.specs.Tokens.{Freeze, Token, frozen_part, given, last_number}

-- a slot has not acknowledged it
not_acked : (version : ℕ) (freeze : Option Freeze) (w : Work) → Some version ≡ option_map (λ z. z.version) freeze → all_acked version w.ring.slots ≡ false → give_frozen freeze w ≡ w
not_acked version None w e h = absurd cc
not_acked version (Some z) w e h = let f : version ≡ z.version = cc in let g : all_acked z.version w.ring.slots ≡ false = ap (λ (v : ℕ). all_acked v w.ring.slots) (sym f) ∙ h in rw g refl

pub not_ready : (version : ℕ) (n : Node) (out : List (Who × Body)) (told : List Report) → Some version ≡ option_map (λ z. z.version) n.ring.token.freeze → all_acked version n.ring.slots ≡ false → step n out told ≡ by (λ c w. give_frozen w.ring.token.freeze w) (step n out told)
not_ready version n out told e h = ap (λ (w : Work). record (step n out told) { work = w }) (sym (not_acked version n.ring.token.freeze (step n out told).work e h))

-- the token gives the frozen part

not_below : (n : ℕ) → nat_lt n n ≡ false
not_below n = grind (arith, nat_tests)

given_by : (t next : Token) (z : Freeze) (spent : Bool) → Ok next ≡ calls.unless spent Counters (Ok (given t z)) → next ≡ given t z
given_by t next z true e = absurd cc
given_by t next z false e = cc

given_is : (t next : Token) (z : Freeze) → Ok next ≡ calls.give_frozen t z.version (Some z) → next ≡ given t z
given_is t next z e = let f = rw not_below at e in given_by t next z (nat_lt last_number t.next_flight) f

-- the slot gets the flight, and the peer

given_away : (k l : Links) (t u : Token) (routes : Routes) (phase : Phase) (target : Option ℕ) (near : ℕ) (z : Freeze) (link : Link) (f : Flight) (out sent : List (Who × Body)) (told made : List Report) → t.freeze ≡ Some z → all_acked z.version k.slots ≡ true → slot_at z.slot k.slots ≡ Some link → u ≡ given t z → f ≡ record { number = t.next_flight; part = z.part } → made ≡ told ++ Gave link.peer f.number f.part ∷ [] → did l sent [] ≡ did_after out (call_in z.slot (flight_sent f) k) → step (node_of l u routes phase target near) sent made ≡ by (λ c w. give_frozen w.ring.token.freeze w) (step (node_of k t routes phase target near) out told)
given_away k l t u routes phase target near z link f out sent told made fz acked s g e m d =
    let v : did l sent [] ≡ did (with_slot z.slot (Some (record link { flight = Some f })) k) (out ++ (link.peer, transfer_body link f) ∷ []) [] = rw s at d in
    let a : l ≡ with_slot z.slot (Some (record link { flight = Some f })) k = ap (λ (x : Did). x.links) v in
    let b : sent ≡ out ++ (link.peer, transfer_body link f) ∷ [] = ap (λ (x : Did). x.sent) v in
    rw (m, a, b, g, e, fz, acked, s) refl

pub flight_given : (k l : Links) (t u : Token) (routes : Routes) (phase : Phase) (target : Option ℕ) (near i version : ℕ) (peer : Who) (freeze : Option Freeze) (slot : Option Link) (f : Flight) (out sent : List (Who × Body)) (told made : List Report) → t.freeze ≡ freeze → slot_at i k.slots ≡ slot → Some i ≡ option_map (λ z. z.slot) freeze → Some version ≡ option_map (λ z. z.version) freeze → all_acked version k.slots ≡ true → Some peer ≡ option_map (λ x. x.peer) slot → Ok u ≡ calls.give_call t version → f ≡ record { number = t.next_flight; part = frozen_part t.freeze } → made ≡ told ++ Gave peer f.number f.part ∷ [] → did l sent [] ≡ did_after out (call_in i (flight_sent f) k) → step (node_of l u routes phase target near) sent made ≡ by (λ c w. give_frozen w.ring.token.freeze w) (step (node_of k t routes phase target near) out told)
flight_given k l t u routes phase target near i version peer None slot f out sent told made fz s pi pv acked pp g e m d = absurd cc
flight_given k l t u routes phase target near i version peer (Some z) None f out sent told made fz s pi pv acked pp g e m d = absurd cc
flight_given k l t u routes phase target near i version peer (Some z) (Some link) f out sent told made fz s pi pv acked pp g e m d =
    let a : i ≡ z.slot = cc in
    let b : version ≡ z.version = cc in
    let p : peer ≡ link.peer = cc in
    given_away k l t u routes phase target near z link f out sent told made fz
    (ap (λ (n : ℕ). all_acked n k.slots) (sym b) ∙ acked)
    (ap (λ (n : ℕ). slot_at n k.slots) (sym a) ∙ s)
    (given_is t u z (g ∙ ap (calls.give_call t) b ∙ ap (calls.give_frozen t z.version) fz))
    (e ∙ ap (λ (x : Option Freeze). record { number = t.next_flight; part = frozen_part x }) fz)
    (m ∙ ap (λ (w : Who). told ++ Gave w f.number f.part ∷ []) p)
    (d ∙ ap (λ (n : ℕ). did_after out (call_in n (flight_sent f) k)) a)
