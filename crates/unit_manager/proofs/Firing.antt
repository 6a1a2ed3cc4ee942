-- A firing, one reconfiguration after the other.
use Rattle.std.proofs.Common.{◌≡◌, ℕ, ◌+◌, ◌*◌, ◌<◌, ◌≤◌, List, [], ◌∷◌, ◌++◌, length, take, get_or, refl, sym, ap, ◌∙◌, arith, length-append}
use Rattle.std.proofs.lemmas.List.{append-nil, length-map, map-append, take_all, take_more}
use Rattle.ring_points.specs.declared.who.Who.{Who}
use Rattle.ring_points.specs.Limits.{most_arbiters}
use Rattle.fabric_terms.specs.declared.message.Body.{Body}
use Rattle.fabric_terms.specs.declared.message.Message.{Message}
use Rattle.fabric_terms.specs.Sent.{from_all}
use Rattle.unit_rules.specs.Deeds.{Deed, frames_of}
use Rattle.unit_rules.specs.Questions.{reconfig_fired}
use Rattle.unit_desk.proofs.Deeds.{frames_of-append}
use Rattle.reconfig_phases.specs.Views.{reconfig_of}
use Rattle.reconfig_phases.specs.declared.reconfig.Reconfig.{Reconfig}
use Rattle.unit_manager.specs.Managers.{managed_fired, reconfigs_of}

joined : {X : Type 0} (xs ys zs : List X) → (xs ++ ys) ++ zs ≡ xs ++ (ys ++ zs)
joined [] ys zs = refl
joined (x ∷ xs) ys zs = ap (λ ws. x ∷ ws) (joined xs ys zs)

-- what the first so many send
abbrev pub fired_to : Who → List (ℕ × Reconfig) → ℕ → List Message
fired_to me es i = from_all me (frames_of (managed_fired (reconfigs_of (take i es))))

fired_last : (es : List (ℕ × Reconfig)) (e : ℕ × Reconfig) → managed_fired (reconfigs_of (es ++ e ∷ [])) ≡ managed_fired (reconfigs_of es) ++ reconfig_fired (reconfig_of e.1)
fired_last [] e = append-nil (reconfig_fired (reconfig_of e.1))
fired_last (f ∷ es) e =
    ap (λ (ds : List Deed). reconfig_fired (reconfig_of f.1) ++ ds) (fired_last es e)
    ∙ sym (joined (reconfig_fired (reconfig_of f.1)) (managed_fired (reconfigs_of es)) (reconfig_fired (reconfig_of e.1)))

-- one more fires
pub fired_more : (me : Who) (es : List (ℕ × Reconfig)) (i : ℕ) (d : ℕ × Reconfig) (before now : List Message) → i < length es
    → now ≡ before ++ fired_to me es i
    → now ++ from_all me (frames_of (reconfig_fired (reconfig_of (get_or es i d).1))) ≡ before ++ fired_to me es (i + 1)
fired_more me es i d before now inside is =
    let e : ℕ × Reconfig = get_or es i d in
    let one : fired_to me es (i + 1) ≡ fired_to me es i ++ from_all me (frames_of (reconfig_fired (reconfig_of e.1))) =
    ap (λ (fs : List (ℕ × Reconfig)). from_all me (frames_of (managed_fired (reconfigs_of fs)))) (take_more es i d inside)
    ∙ ap (λ (ds : List Deed). from_all me (frames_of ds)) (fired_last (take i es) e)
    ∙ ap (from_all me) (frames_of-append (managed_fired (reconfigs_of (take i es))) (reconfig_fired (reconfig_of e.1)))
    ∙ map-append _ (frames_of (managed_fired (reconfigs_of (take i es)))) (frames_of (reconfig_fired (reconfig_of e.1))) in
    ap (λ (ms : List Message). ms ++ from_all me (frames_of (reconfig_fired (reconfig_of e.1)))) is
    ∙ joined before (fired_to me es i) (from_all me (frames_of (reconfig_fired (reconfig_of e.1))))
    ∙ ap (λ (ms : List Message). before ++ ms) (sym one)

-- what it sent stands behind what there was, and is little
pub fired_next : (me : Who) (es : List (ℕ × Reconfig)) (i : ℕ) (e : ℕ × Reconfig) (before now next : List Message) (clear out : List (Who × Body)) → i < length es
    → e ≡ get_or es i e → now ≡ before ++ fired_to me es i → next ≡ now ++ from_all me out → clear ≡ []
    → out ≡ clear ++ frames_of (reconfig_fired (reconfig_of e.1)) → next ≡ before ++ fired_to me es (i + 1)
fired_next me es i e before now next clear out inside there is behind none sent =
    let alone : out ≡ frames_of (reconfig_fired (reconfig_of (get_or es i e).1)) =
    sent ∙ ap (λ (ms : List (Who × Body)). ms ++ frames_of (reconfig_fired (reconfig_of e.1))) none
    ∙ ap (λ (x : ℕ × Reconfig). frames_of (reconfig_fired (reconfig_of x.1))) there in
    behind ∙ ap (λ (ms : List (Who × Body)). now ++ from_all me ms) alone ∙ fired_more me es i e before now inside is

pub few_next : (me : Who) (i : ℕ) (before now next : List Message) (clear out : List (Who × Body)) → next ≡ now ++ from_all me out → clear ≡ []
    → length out ≤ length clear + most_arbiters → length now ≤ length before + most_arbiters * i → length next ≤ length before + most_arbiters * (i + 1)
few_next me i before now next clear out behind none few so_far =
    let many : length next ≡ length now + length out =
    ap length behind ∙ length-append now (from_all me out) ∙ ap (λ n. length now + n) (length-map {B = Message} out _) in
    let nothing : length clear ≡ 0 = ap length none in
    omega (arith, many, nothing, few, so_far)

pub fired_all : (me : Who) (es : List (ℕ × Reconfig)) (i : ℕ) → length es ≤ i
    → fired_to me es i ≡ from_all me (frames_of (managed_fired (reconfigs_of es)))
fired_all me es i end = ap (λ (fs : List (ℕ × Reconfig)). from_all me (frames_of (managed_fired (reconfigs_of fs)))) (take_all i es end)

-- nothing has fired yet
pub fired_none : (me : Who) (es : List (ℕ × Reconfig)) (before : List Message) → before ≡ before ++ fired_to me es 0
fired_none me es before = sym (append-nil before)
