-- What a step keeps: nothing done yet, and the links of a node whose links were changed.
use Rattle.std.proofs.Common.{◌≡◌, ℕ, ◌≤◌, arith, List, Option, length, take, refl, sym, ap, ◌∙◌}
use Rattle.std.proofs.Math.Seq.{take-length}
use Rattle.fabric_terms.specs.declared.message.Body.{Body}
use Rattle.fabric_terms.specs.declared.report.Report.{Report}
use Rattle.join_phases.specs.declared.phases.Phase.{Phase}
use Rattle.link_core.specs.Links.{Links}
use Rattle.ring_node.specs.Nodes.{IsPatched, Node, Step, links_of, node_of, step, with_links}
use Rattle.ring_points.specs.declared.who.Who.{Who}
use Rattle.ring_route.specs.Routes.{Routes}
use Rattle.token_core.specs.Tokens.{Token}

pub landed : (n m : Node) (out sent : List (Who × Body)) (told made : List Report) → n ≡ m → out ≡ sent → told ≡ made → step n out told ≡ step m sent made
landed n m out sent told made a b c = rw (a, b, c) refl

-- nothing was done yet
pub patched_same : (s t : Step) → t ≡ s → IsPatched s t
patched_same s t e = rw e (record { settings = refl; me = refl; accused = take-length s.work.ring.accused; routes = refl; target = refl; flights = refl; version = omega arith; sessions = omega arith; sent = take-length s.work.sent; told = take-length s.work.told })

-- The links of a node whose links were changed.

pub record AreOfOne (k l : Links) : Type 0 where
  pub me : l.me ≡ k.me
  pub lease : l.lease ≡ k.lease
  pub longest : l.longest ≡ k.longest
  pub answer : l.answer ≡ k.answer
  pub bound : l.bound ≡ k.bound
  pub arbitrators : l.arbitrators ≡ k.arbitrators
  pub rounds : l.rounds ≡ k.rounds

pub kept_heard : (k l : Links) → l ≡ record k { slots = l.slots; next_session = l.next_session } → AreOfOne k l
kept_heard k l e = record { me = ap (λ (x : Links). x.me) e; lease = ap (λ (x : Links). x.lease) e; longest = ap (λ (x : Links). x.longest) e; answer = ap (λ (x : Links). x.answer) e; bound = ap (λ (x : Links). x.bound) e; arbitrators = ap (λ (x : Links). x.arbitrators) e; rounds = ap (λ (x : Links). x.rounds) e }

pub kept_fired : (k l : Links) → l ≡ record k { slots = l.slots; accused = l.accused } → AreOfOne k l
kept_fired k l e = record { me = ap (λ (x : Links). x.me) e; lease = ap (λ (x : Links). x.lease) e; longest = ap (λ (x : Links). x.longest) e; answer = ap (λ (x : Links). x.answer) e; bound = ap (λ (x : Links). x.bound) e; arbitrators = ap (λ (x : Links). x.arbitrators) e; rounds = ap (λ (x : Links). x.rounds) e }

pub kept_links : (n : Node) (k l : Links) (token : Token) (routes : Routes) (phase : Phase) (target : Option ℕ) (near : ℕ) → n ≡ node_of k token routes phase target near → AreOfOne k l → l ≡ links_of (with_links l n)
kept_links n k l token routes phase target near e h =
    let f : links_of (with_links l n) ≡ record k { slots = l.slots; next_session = l.next_session; accused = l.accused } = ap (λ (m : Node). links_of (with_links l m)) e in
    sym (f ∙ rw (← h.me, ← h.lease, ← h.longest, ← h.answer, ← h.bound, ← h.arbitrators, ← h.rounds) refl)

-- nobody new is accused
pub accused_kept : (n : Node) (k l : Links) (token : Token) (routes : Routes) (phase : Phase) (target : Option ℕ) (near : ℕ) → n ≡ node_of k token routes phase target near → take (length k.accused) l.accused ≡ k.accused → take (length n.ring.accused) l.accused ≡ n.ring.accused
accused_kept n k l token routes phase target near e h = rw e h

pub risen : (n : Node) (K k : Links) (token : Token) (routes : Routes) (phase : Phase) (target : Option ℕ) (near : ℕ) → n ≡ node_of K token routes phase target near → K.next_session ≤ k.next_session → n.ring.next_session ≤ k.next_session
risen n K k token routes phase target near e h = rw e h
