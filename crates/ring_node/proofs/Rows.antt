-- A row of links done to a step, with its notes, or broken off.
use Rattle.std.proofs.Common.{◌≡◌, ℕ, ◌+◌, ◌≤◌, arith, false, true, List, [], ◌∷◌, ◌++◌, IsTrue, Option, subst, length, take, refl, sym, ap, ◌∙◌}
use Rattle.std.proofs.Math.Seq.{take-append_seam, take-length}
use Rattle.fabric_terms.specs.declared.message.Body.{Body}
use Rattle.fabric_terms.specs.declared.report.Report.{Report}
use Rattle.fabric_terms.specs.declared.report.Report.TheVariants.{LeftRing}
use Rattle.fabric_terms.specs.declared.report.Why.TheVariants.{Counters}
use Rattle.link_core.specs.declared.notes.LinkNote.{LinkNote}
use Rattle.link_core.specs.Links.{Did, Links, did, did_after}
use Rattle.link_core.specs.declared.announce.Announce.{Announce}
use Rattle.link_core.specs.Ties.{Cause, Does, all_noted, announce_of}
use Rattle.join_phases.specs.declared.phases.Phase.{Phase}
use Rattle.ring_route.specs.Routes.{Routes}
use Rattle.token_core.specs.Tokens.{Token}
use Rattle.ring_node.specs.Nodes.{IsBrokenOff, IsPatched, Node, Step, by, left_at, links_of, node_of, step, with_links}
use Rattle.ring_points.specs.declared.who.Who.{Who}
use Rattle.ring_rules.specs.Deeds.{counted, has_numbers, leave}
use Rattle.ring_rules.specs.Rings.{Settings, Work}
use Rattle.ring_node.proofs.Noted.{take_take}

pub patched_both : (s t u : Step) → IsPatched s t → IsPatched t u → IsPatched s u
patched_both s t u h k = record {
  settings = k.settings ∙ h.settings;
  me = k.me ∙ h.me;
  accused = take_take s.work.ring.accused t.work.ring.accused u.work.ring.accused h.accused k.accused;
  routes = k.routes ∙ h.routes;
  target = k.target ∙ h.target;
  flights = k.flights ∙ h.flights;
  version = omega (arith, h.version, k.version);
  sessions = omega (arith, h.sessions, k.sessions);
  sent = take_take s.work.sent t.work.sent u.work.sent h.sent k.sent;
  told = take_take s.work.told t.work.told u.work.told h.told k.told;
}

-- links that accuse at the end of the list, and frames that are sent after the others
pub with_links_patched : (n : Node) (k : Links) (out : List (Who × Body)) (told : List Report) (d mine : Did) → take (length n.ring.accused) k.accused ≡ n.ring.accused → n.ring.next_session ≤ k.next_session → d ≡ did_after out mine → IsPatched (step n out told) (step (with_links k n) d.sent told)
with_links_patched n k out told d mine a b e = record {
  settings = refl;
  me = refl;
  accused = a;
  routes = refl;
  target = refl;
  flights = refl;
  version = omega arith;
  sessions = b;
  sent = rw e (take-append_seam out mine.sent);
  told = take-length told;
}

-- what a row that broke off goes back to
pub rolled : (old : Node) (out : List (Who × Body)) (told : List Report) (new : Node) (out' : List (Who × Body)) (told' : List Report) (version sessions accused sent made : ℕ) → IsPatched (step old out told) (step new out' told') → version ≡ old.ring.token.version → sessions + 1 ≡ old.ring.next_session → accused ≡ length old.ring.accused → sent ≡ length out → made ≡ length told → step (left_at Counters version sessions accused new) (take sent out') (take made told' ++ LeftRing Counters ∷ []) ≡ by (λ c. leave Counters) (step old out told)
rolled old out told new out' told' version sessions accused sent made p v s a o t =
    rw (v, s, a, o, t, p.settings, p.me, p.accused, p.routes, p.target, p.flights, p.sent, p.told) refl

abbrev stepped : Settings → Work → Step
stepped c w = record { settings = c; work = w }

-- a row whose notes are done
pub row_done : (row : Settings → Work → Work) (gone : Cause) (notes : List LinkNote) (old mid new : Step) → counted old.work (row old.settings old.work) ≡ counted old.work (all_noted gone notes mid.work) → mid.settings ≡ old.settings → new ≡ by (λ c. all_noted gone notes) mid → IsTrue (has_numbers new.work.ring) → new ≡ by (λ c w. counted w (row c w)) old
row_done row gone notes old mid new e s f h =
    let x = all_noted gone notes mid.work in
    let w : new.work ≡ x = ap (λ (t : Step). t.work) f in
    let t : has_numbers x.ring ≡ true = rw w at h in
    let kept : counted old.work x ≡ x = rw t refl in
    f ∙ ap (λ (c : Settings). stepped c x) s ∙ ap (stepped old.settings) (sym (e ∙ kept))

-- a row whose notes broke off
pub row_broken : (row : Settings → Work → Work) (gone : Cause) (notes : List LinkNote) (old mid cur new : Step) → counted old.work (row old.settings old.work) ≡ counted old.work (all_noted gone notes mid.work) → IsBrokenOff (λ c. all_noted gone notes) mid cur → new ≡ by (λ c. leave Counters) old → new ≡ by (λ c w. counted w (row c w)) old
row_broken row gone notes old mid cur new e b f =
    let x = all_noted gone notes mid.work in
    let t : has_numbers x.ring ≡ false = b.numbers in
    let left : counted old.work x ≡ leave Counters old.work = rw t refl in
    f ∙ ap (stepped old.settings) (sym (e ∙ left))

-- A call on the links and its notes, at a node of these parts.

abbrev Row : Type 0
Row = Settings → Work → Work

mid_of : (n : Node) (K k : Links) (token : Token) (routes : Routes) (phase : Phase) (target : Option ℕ) (near : ℕ) (out : List (Who × Body)) (told : List Report) → n ≡ node_of K token routes phase target near → k ≡ links_of (with_links k n) → step (node_of k token routes phase target near) out told ≡ step (with_links k n) out told
mid_of n K k token routes phase target near out told e kept =
    ap (λ (x : Links). step (node_of x token routes phase target near) out told) kept
    ∙ ap (λ (m : Node). step (node_of (links_of (with_links k m)) token routes phase target near) out told) e
    ∙ sym (ap (λ (m : Node). step (with_links k m) out told) e)

does_is : (row : Row) (flag : Cause) (n : Node) (k : Links) (a : Announce) (out out' : List (Who × Body)) (told : List Report) (notes : List LinkNote) → Does row flag (links_of n) a out (did k out' notes) → a ≡ announce_of n.ring → IsTrue (has_numbers n.ring) → counted (step n out told).work (row n.settings (step n out told).work) ≡ counted (step n out told).work (all_noted flag notes (step (with_links k n) out' told).work)
does_is row flag n k a out out' told notes d e h = d n.settings (step n out told).work [] (record { links = refl; announce = sym e; numbers = h }) refl

pub links_ok : (row : Row) (flag : Cause) (n : Node) (K k : Links) (token : Token) (routes : Routes) (phase : Phase) (target : Option ℕ) (near : ℕ) (a : Announce) (gone : Cause) (notes ns : List LinkNote) (out out' : List (Who × Body)) (told : List Report) (new : Step) → n ≡ node_of K token routes phase target near → Does row flag K a out (did k out' notes) → k ≡ links_of (with_links k n) → a ≡ announce_of n.ring → IsTrue (has_numbers n.ring) → gone ≡ flag → ns ≡ notes → new ≡ by (λ c. all_noted gone ns) (step (node_of k token routes phase target near) out' told) → IsTrue (has_numbers new.work.ring) → new ≡ by (λ c w. counted w (row c w)) (step n out told)
links_ok row flag n K k token routes phase target near a gone notes ns out out' told new e d kept f h g m r q =
    row_done row flag notes (step n out told) (step (with_links k n) out' told) new
    (does_is row flag n k a out out' told notes (let P : Links → Type 0 = λ x. Does row flag x a out (did k out' notes) in subst P (sym (ap links_of e)) d) f h)
    refl
    (r ∙ ap (λ (b : Cause). by (λ c. all_noted b ns) (step (node_of k token routes phase target near) out' told)) g
    ∙ ap (λ (xs : List LinkNote). by (λ c. all_noted flag xs) (step (node_of k token routes phase target near) out' told)) m
    ∙ ap (by (λ c. all_noted flag notes)) (mid_of n K k token routes phase target near out' told e kept))
    q

pub links_broken : (row : Row) (flag : Cause) (n : Node) (K k : Links) (token : Token) (routes : Routes) (phase : Phase) (target : Option ℕ) (near : ℕ) (a : Announce) (gone : Cause) (notes ns : List LinkNote) (out out' : List (Who × Body)) (told : List Report) (mine : Did) (cur : Node) (out2 : List (Who × Body)) (told2 : List Report) (version sessions accused sent made : ℕ) → n ≡ node_of K token routes phase target near → Does row flag K a out (did k out' notes) → k ≡ links_of (with_links k n) → take (length n.ring.accused) k.accused ≡ n.ring.accused → n.ring.next_session ≤ k.next_session → did k out' notes ≡ did_after out mine → a ≡ announce_of n.ring → IsTrue (has_numbers n.ring) → gone ≡ flag → ns ≡ notes → IsBrokenOff (λ c. all_noted gone ns) (step (node_of k token routes phase target near) out' told) (step cur out2 told2) → version ≡ n.ring.token.version → sessions + 1 ≡ n.ring.next_session → accused ≡ length n.ring.accused → sent ≡ length out → made ≡ length told → step (left_at Counters version sessions accused cur) (take sent out2) (take made told2 ++ LeftRing Counters ∷ []) ≡ by (λ c w. counted w (row c w)) (step n out told)
links_broken row flag n K k token routes phase target near a gone notes ns out out' told mine cur out2 told2 version sessions accused sent made e d kept acc more D f h g m b v s q o t =
    let mid = mid_of n K k token routes phase target near out' told e kept in
    let c1 : IsBrokenOff (λ c. all_noted flag ns) (step (node_of k token routes phase target near) out' told) (step cur out2 told2) = let P : Cause → Type 0 = λ x. IsBrokenOff (λ c. all_noted x ns) (step (node_of k token routes phase target near) out' told) (step cur out2 told2) in subst P g b in
    let c2 : IsBrokenOff (λ c. all_noted flag notes) (step (node_of k token routes phase target near) out' told) (step cur out2 told2) = let P : List LinkNote → Type 0 = λ x. IsBrokenOff (λ c. all_noted flag x) (step (node_of k token routes phase target near) out' told) (step cur out2 told2) in subst P m c1 in
    let c3 : IsBrokenOff (λ c. all_noted flag notes) (step (with_links k n) out' told) (step cur out2 told2) = let P : Step → Type 0 = λ x. IsBrokenOff (λ c. all_noted flag notes) x (step cur out2 told2) in subst P mid c2 in
    let p : IsPatched (step n out told) (step cur out2 told2) = patched_both (step n out told) (step (with_links k n) out' told) (step cur out2 told2) (with_links_patched n k out told (did k out' notes) mine acc more D) c3.patched in
    row_broken row flag notes (step n out told) (step (with_links k n) out' told) (step cur out2 told2) (step (left_at Counters version sessions accused cur) (take sent out2) (take made told2 ++ LeftRing Counters ∷ []))
    (does_is row flag n k a out out' told notes (let P : Links → Type 0 = λ x. Does row flag x a out (did k out' notes) in subst P (sym (ap links_of e)) d) f h)
    c3
    (rolled n out told cur out2 told2 version sessions accused sent made p v s q o t)
