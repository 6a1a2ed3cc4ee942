-- Greetings one after another: what they keep.
use Rattle.std.proofs.Common.{◌≡◌, ℕ, ◌+◌, ◌<◌, true, false, ◌&&◌, List, [], ◌∷◌, ◌++◌, Option, Some, None, length, drop, get_or, refl, sym, ap, ◌∙◌, arith, nat_le}
use Rattle.std.proofs.Math.Seq.{take-append_seam, take-length}
use Rattle.std.proofs.lemmas.Bool.Decides.{nat_tests}
use Rattle.std.proofs.lemmas.List.{at_drop_more}
use Rattle.fabric_terms.specs.declared.report.Reason.{Reason}
use Rattle.fabric_terms.specs.declared.report.Report.{Report}
use Rattle.fabric_terms.specs.declared.message.Body.{Body}
use Rattle.fabric_terms.specs.declared.report.Report.TheVariants.{Found}
use Rattle.ring_node.specs.Nodes.{IsPatched, Node, Step, by, step}
use Rattle.ring_points.specs.declared.point.Point.{Point}
use Rattle.ring_points.specs.declared.who.Who.{Who}
use Rattle.ring_rules.specs.Seeks.{found_received, seeks_own}
use Rattle.join_phases.specs.Phases.{is_routing}
use Rattle.ring_rules.specs.Commands.{seek_place}
use Rattle.ring_rules.specs.declared.link.Link.{Link}
use Rattle.ring_rules.specs.Deeds.{has_numbers, on_ring}
use Rattle.ring_rules.specs.Firing.{greet_all, search_by}
use Rattle.ring_rules.specs.Handshakes.{greet_free, greet_plainly, greet_unless}
use Rattle.ring_rules.specs.Links.{greeting_link}
use Rattle.ring_rules.specs.Rings.{Settings, Work}
use Rattle.ring_rules.specs.Slots.{bars_link, is_free, of_node, slot_where}
use Rattle.ring_node.proofs.Stays.{patched_same}
use Rattle.token_core.specs.Tokens.{last_number}

abbrev silent : Reason → Work → Work
silent r v = v

abbrev after : Step → Work → Step
after s w = record s { work = w }

-- what was there before is still there

free_patched : (l : Link) (s : Step) (place : Option ℕ) → IsPatched s (after s (greet_free l silent s.work place))
free_patched l s None = patched_same s s refl
free_patched l s (Some i) = record { settings = refl; me = refl; accused = take-length s.work.ring.accused; routes = refl; target = refl; flights = refl; version = omega arith; sessions = omega arith; sent = take-append_seam s.work.sent _; told = take-length s.work.told }

unless_patched : (l : Link) (s : Step) (place : Option ℕ) → IsPatched s (after s (greet_unless l silent s.work place))
unless_patched l s (Some i) = patched_same s s refl
unless_patched l s None = free_patched l s (slot_where is_free s.work.ring.slots)

pub greeted_patched : (now node : ℕ) (s : Step) → IsPatched s (by (λ c. greet_plainly c now node) s)
greeted_patched now node s = unless_patched (greeting_link s.settings now s.work.ring node 1 s.settings.lease) s (slot_where (of_node bars_link node) s.work.ring.slots)

-- what has no number gets none

more_numbers : (v s f : ℕ) → (nat_le v last_number && nat_le s (last_number + 1) && nat_le f (last_number + 1)) ≡ false → (nat_le v last_number && nat_le (s + 1) (last_number + 1) && nat_le f (last_number + 1)) ≡ false
more_numbers v s f h = grind (arith, nat_tests)

free_none : (l : Link) (w : Work) (place : Option ℕ) → has_numbers w.ring ≡ false → has_numbers (greet_free l silent w place).ring ≡ false
free_none l w None h = h
free_none l w (Some i) h = more_numbers w.ring.token.version w.ring.next_session w.ring.token.next_flight h

unless_none : (l : Link) (w : Work) (place : Option ℕ) → has_numbers w.ring ≡ false → has_numbers (greet_unless l silent w place).ring ≡ false
unless_none l w (Some i) h = h
unless_none l w None h = free_none l w (slot_where is_free w.ring.slots) h

pub all_none : (c : Settings) (now : ℕ) (nodes : List ℕ) (w : Work) → has_numbers w.ring ≡ false → has_numbers (greet_all c now nodes w).ring ≡ false
all_none c now [] w h = h
all_none c now (node ∷ nodes) w h =
    all_none c now nodes (greet_plainly c now node w) (unless_none (greeting_link c now w.ring node 1 c.lease) w (slot_where (of_node bars_link node) w.ring.slots) h)

-- the next of them

next_of : (nodes : List ℕ) (i : ℕ) → i < length nodes → drop i nodes ≡ get_or nodes i 0 ∷ drop (i + 1) nodes
next_of nodes i h = at_drop_more (λ (ns : List ℕ). ns) nodes i 0 h

all_next : (now : ℕ) (nodes : List ℕ) (i : ℕ) (t : Step) → i < length nodes → by (λ c. greet_all c now (drop i nodes)) t ≡ by (λ c w. greet_all c now (drop (i + 1) nodes) (greet_plainly c now (get_or nodes i 0) w)) t
all_next now nodes i t h = ap (λ (ns : List ℕ). by (λ c. greet_all c now ns) t) (next_of nodes i h)

pub more_greeted : (now : ℕ) (nodes : List ℕ) (i : ℕ) (s t u : Step) → i < length nodes → by (λ c. greet_all c now (drop i nodes)) t ≡ by (λ c. greet_all c now nodes) s → u ≡ by (λ c. greet_plainly c now (get_or nodes i 0)) t → by (λ c. greet_all c now (drop (i + 1) nodes)) u ≡ by (λ c. greet_all c now nodes) s
more_greeted now nodes i s t u h rest e = ap (by (λ c. greet_all c now (drop (i + 1) nodes))) e ∙ sym (all_next now nodes i t h) ∙ rest

pub none_greeted : (now : ℕ) (nodes : List ℕ) (i : ℕ) (s t : Step) → i < length nodes → by (λ c. greet_all c now (drop i nodes)) t ≡ by (λ c. greet_all c now nodes) s → has_numbers (greet_plainly t.settings now (get_or nodes i 0) t.work).ring ≡ false → has_numbers (greet_all s.settings now nodes s.work).ring ≡ false
none_greeted now nodes i s t h rest e =
    ap (λ (x : Step). has_numbers x.work.ring) (sym rest ∙ all_next now nodes i t h) ∙ all_none t.settings now (drop (i + 1) nodes) (greet_plainly t.settings now (get_or nodes i 0) t.work) e

-- The search of a node does not matter to a greeting.

abbrev untargeted : Work → Work
untargeted w = on_ring (λ r. record r { target = None }) w

free_untargeted : (l : Link) (w : Work) (place : Option ℕ) → greet_free l silent (untargeted w) place ≡ untargeted (greet_free l silent w place)
free_untargeted l w None = refl
free_untargeted l w (Some i) = refl

unless_untargeted : (l : Link) (w : Work) (place : Option ℕ) → greet_unless l silent (untargeted w) place ≡ untargeted (greet_unless l silent w place)
unless_untargeted l w (Some i) = refl
unless_untargeted l w None = free_untargeted l w (slot_where is_free w.ring.slots)

pub greet_untargeted : (c : Settings) (now node : ℕ) (w : Work) → greet_plainly c now node (untargeted w) ≡ untargeted (greet_plainly c now node w)
greet_untargeted c now node w = unless_untargeted (greeting_link c now w.ring node 1 c.lease) w (slot_where (of_node bars_link node) w.ring.slots)

-- the holder of the own point is greeted, and the search is over

pub found_done : (now : ℕ) (key : Point) (holder : Who) (n m : Node) (out sent : List (Who × Body)) (told : List Report) → seeks_own n.ring key ≡ true → step m sent (told ++ Found key holder ∷ []) ≡ by (λ c. greet_plainly c now holder.actor) (step n out (told ++ Found key holder ∷ [])) → step (record m { ring = record m.ring { target = None } }) sent (told ++ Found key holder ∷ []) ≡ by (λ c. found_received c now key holder) (step n out told)
unfolding found_received
found_done now key holder n m out sent told h e =
    ap (λ (s : Step). after s (untargeted s.work)) e
    ∙ ap (after (step n out told)) (sym (greet_untargeted n.settings now holder.actor (step n out (told ++ Found key holder ∷ [])).work))
    ∙ rw h refl

pub found_none : (now : ℕ) (key : Point) (holder : Who) (n : Node) (out : List (Who × Body)) (told : List Report) → seeks_own n.ring key ≡ true → has_numbers (greet_plainly n.settings now holder.actor (step n out (told ++ Found key holder ∷ [])).work).ring ≡ false → has_numbers (found_received n.settings now key holder (step n out told).work).ring ≡ false
unfolding found_received
found_none now key holder n out told h e =
    rw h (ap (λ (w : Work). has_numbers w.ring) (greet_untargeted n.settings now holder.actor (step n out (told ++ Found key holder ∷ [])).work) ∙ e)

-- a node without a place asks the member that it joins by
pub sought : (now member : ℕ) (n : Node) (out : List (Who × Body)) (told : List Report) → is_routing n.ring.phase ≡ false → n.ring.target ≡ Some member → by (λ c w. search_by c now w (is_routing w.ring.phase)) (step n out told) ≡ by (λ c. seek_place member) (step n out told)
sought now member n out told h e = rw (h, e) refl
