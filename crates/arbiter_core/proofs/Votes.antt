-- The first vote of an epoch never changes.
use Rattle.std.proofs.Common.{◌≡◌, inl, inr, ℕ, Bool, true, false, cond, List, [], ◌∷◌, ◌++◌, Option, Some, None, Ok, Err, refl, sym, ap, subst, ◌∙◌, arith}
use Rattle.std.specs.Option.{option_to_list}
use Rattle.std.specs.Prelude.{◌==◌, unwrap_or, if◌then◌else◌}
use Rattle.std.proofs.lemmas.Bool.{eqb-true}
use Rattle.std.proofs.lemmas.Bool.Decides.{nat_tests}
use Rattle.std.proofs.lemmas.Option.{same_Some}
use Rattle.arbiter_quorum.proofs.Decisions.{one_decided}
use Rattle.fabric_lemmas.specs.Maps.{at}
use Rattle.fabric_lemmas.proofs.Maps.{at-put}
use Rattle.fabric_terms.specs.declared.message.Body.{Body}
use Rattle.fabric_terms.specs.declared.message.Body.TheVariants as body
use Rattle.fabric_terms.specs.declared.record.Record.{Record}
use Rattle.fabric_terms.specs.declared.record.Record.TheVariants.{PreparedBy, VotedFor, DoneFor}
use Rattle.ring_points.specs.Epochs.{same_epoch}
use Rattle.ring_points.specs.declared.unit.Config.{Config}
use Rattle.ring_points.specs.declared.unit.Epoch.{Epoch}
use Rattle.ring_points.specs.declared.who.Who.{Who}
use Rattle.ring_rules.specs.Arbiters.{accusation_kept, accusation_ruled, claim_kept, claim_settled, takes_frame}
use Rattle.unit_rules.specs.Registers.{Register, Registers, Reply as UnitReply, changed, done_received, empty_register, is_above, is_below, is_newer, is_prepared_for, prepare_received, question_answered, register_after, register_of, registers_after, vote_in, vote_received, vote_settled}
use Rattle.arbiter_core.specs.Arbiters.{Arbiter, Outcome, claim_told, first_of, frame_call, is_full_for, kept_where_full, question_call, taken}
use Rattle.arbiter_core.specs.Lives.{Answered, Happening, Comes, Restarts, Life, life, life_with}
use Rattle.arbiter_core.specs.RegisterLaws.{OneDecision, OneVote}
use Rattle.arbiter_core.specs.declared.answer.Answer.{Answer}
use Rattle.arbiter_core.specs.declared.answer.Answer.TheVariants.{Reply, Nothing}
use Rattle.arbiter_core.proofs.Lives.{Leaves, is_its_records, leaves}

-- this is the vote of the epoch
abbrev IsVote : Registers → ℕ → Epoch → Config → Type 0
IsVote rs p e c = vote_in e (register_of p rs).votes ≡ Some c

-- A vote stays, whatever is recorded.

register_of-changed : (q : ℕ) (f : Register → Register) (rs : Registers) (p : ℕ)
    → register_of p (changed q f rs) ≡ cond (q == p) (f (register_of q rs)) (register_of p rs)
register_of-changed q f rs p = ap (λ o. unwrap_or o empty_register) (at-put q (f (register_of q rs)) rs p) ∙ by (q == p)
  where
    by : (b : Bool) → unwrap_or (cond b (Some (f (register_of q rs))) (at p rs)) empty_register ≡ cond b (f (register_of q rs)) (register_of p rs)
    by true = refl
    by false = refl

stays_in : (e : Epoch) (votes : List Config) (more c : Config) → vote_in e votes ≡ Some c → vote_in e (votes ++ more ∷ []) ≡ Some c
stays_in e [] more c h = absurd (cc)
stays_in e (v ∷ votes) more c h = by (same_epoch v.epoch e) (stays_in e votes more c) h
  where
    by : (b : Bool) → (vote_in e votes ≡ Some c → vote_in e (votes ++ more ∷ []) ≡ Some c) → cond b (Some v) (vote_in e votes) ≡ Some c
        → cond b (Some v) (vote_in e (votes ++ more ∷ [])) ≡ Some c
    by true rest h = h
    by false rest h = rest h

stays_changed : (q : ℕ) (f : Register → Register) (rs : Registers) (p : ℕ) (e : Epoch) (c : Config)
    → ((r : Register) → vote_in e r.votes ≡ Some c → vote_in e (f r).votes ≡ Some c) → IsVote rs p e c → IsVote (changed q f rs) p e c
stays_changed q f rs p e c keeps h = ap (λ r. vote_in e r.votes) (register_of-changed q f rs p) ∙ by (q == p) refl
  where
    by : (b : Bool) → (q == p) ≡ b → vote_in e (cond b (f (register_of q rs)) (register_of p rs)).votes ≡ Some c
    by true same =
        let there : p ≡ q = sym (eqb-true q p same) in
        keeps (register_of q rs) (subst (λ k. IsVote rs k e c) there h)
    by false other = h

stays_with : (r : Record) (rs : Registers) (p : ℕ) (e : Epoch) (c : Config) → IsVote rs p e c → IsVote (register_after rs r) p e c
stays_with (PreparedBy q d w) rs p e c h =
    stays_changed q (λ r. record r { prepared = Some (record { epoch = d; preparer = w }) }) rs p e c (λ r k. k) h
stays_with (VotedFor v) rs p e c h =
    stays_changed v.partition (λ r. record r { votes = r.votes ++ v ∷ [] }) rs p e c (λ r k. stays_in e r.votes v c k) h
stays_with (DoneFor d) rs p e c h = stays_changed d.partition (λ r. record r { done = Some d }) rs p e c (λ r k. k) h
stays_with _ rs p e c h = h

stays : (records : List Record) (rs : Registers) (p : ℕ) (e : Epoch) (c : Config) → IsVote rs p e c → IsVote (registers_after rs records) p e c
stays [] rs p e c h = h
stays (r ∷ more) rs p e c h = stays more (register_after rs r) p e c (stays_with r rs p e c h)

-- Whoever is told a vote is told the one that stands.

abbrev TellsVote : Registers → UnitReply → Type 0
TellsVote rs r = (p : ℕ) (e : Epoch) (c : Config) → r.body ≡ body.Voted p e c → IsVote (registers_after rs (option_to_list r.kept)) p e c

either : (rs : Registers) (test : Bool) (a b : UnitReply) → TellsVote rs a → TellsVote rs b → TellsVote rs (if test then a else b)
either rs true a b h k = h
either rs false a b h k = k

first_in : (e : Epoch) (votes : List Config) (vote : Config) → same_epoch vote.epoch e ≡ true → vote_in e votes ≡ None → vote_in e (votes ++ vote ∷ []) ≡ Some vote
first_in e [] vote same h = rw same refl
first_in e (v ∷ votes) vote same h = by (same_epoch v.epoch e) (first_in e votes vote same) h
  where
    by : (b : Bool) → (vote_in e votes ≡ None → vote_in e (votes ++ vote ∷ []) ≡ Some vote) → cond b (Some v) (vote_in e votes) ≡ None
        → cond b (Some v) (vote_in e (votes ++ vote ∷ [])) ≡ Some vote
    by true rest h = absurd (cc)
    by false rest h = rest h

itself : (e : Epoch) → same_epoch e e ≡ true
itself e = grind (arith, nat_tests)

first_vote : (rs : Registers) (v : Config) → vote_in v.epoch (register_of v.partition rs).votes ≡ None → IsVote (register_after rs (VotedFor v)) v.partition v.epoch v
first_vote rs v none =
    ap (λ r. vote_in v.epoch r.votes) (register_of-changed v.partition (λ r. record r { votes = r.votes ++ v ∷ [] }) rs v.partition) ∙ by (v.partition == v.partition) (grind (arith, nat_tests))
  where
    by : (b : Bool) → b ≡ true
        → vote_in v.epoch (cond b (record (register_of v.partition rs) { votes = (register_of v.partition rs).votes ++ v ∷ [] }) (register_of v.partition rs)).votes ≡ Some v
    by true same = first_in v.epoch (register_of v.partition rs).votes v (itself v.epoch) none
    by false other = absurd (cc)

settled : (rs : Registers) (v : Config) (o : Option Config) → vote_in v.epoch (register_of v.partition rs).votes ≡ o → TellsVote rs (vote_settled v o)
settled rs v (Some first) is p e c told =
    let unit : v.partition ≡ p = cc in
    let epoch : v.epoch ≡ e = cc in
    let same : first ≡ c = cc in
    subst (λ x. IsVote rs p e x) same (subst (λ x. IsVote rs p x first) epoch (subst (λ x. IsVote rs x v.epoch first) unit is))
settled rs v None is p e c told =
    let unit : v.partition ≡ p = cc in
    let epoch : v.epoch ≡ e = cc in
    let same : v ≡ c = cc in
    let new : Registers = register_after rs (VotedFor v) in
    subst (λ x. IsVote new p e x) same (subst (λ x. IsVote new p x v) epoch (subst (λ x. IsVote new x v.epoch v) unit (first_vote rs v is)))

abbrev TellsSo : Registers → Option UnitReply → Type 0
TellsSo rs None = Unit {0}
TellsSo rs (Some r) = TellsVote rs r

answers_so : (said : Body) (asker : Who) (rs : Registers) → TellsSo rs (question_answered said asker rs)
unfolding prepare_received vote_received done_received
answers_so (body.Prepare p e) asker rs =
    let r : Register = register_of p rs in
    either rs (is_above r.prepared e) _ _ (λ p e c told. absurd (cc))
    (either rs (is_prepared_for r.prepared e asker) _ _ (λ p e c told. absurd (cc)) (λ p e c told. absurd (cc)))
answers_so (body.Vote v) asker rs =
    let r : Register = register_of v.partition rs in
    either rs (is_below r.prepared v.epoch) _ _ (λ p e c told. absurd (cc)) (settled rs v (vote_in v.epoch r.votes) refl)
answers_so (body.DoneAsk d) asker rs =
    let r : Register = register_of d.partition rs in
    either rs (is_below r.prepared d.epoch) _ _ (λ p e c told. absurd (cc))
    (either rs (is_newer d.epoch r.done) _ _ (λ p e c told. absurd (cc)) (λ p e c told. absurd (cc)))
answers_so _ asker rs = tt

-- The same of a call.

abbrev Tells : Outcome Answer → Type 0
Tells (Ok (Reply kept to said), n) = (p : ℕ) (e : Epoch) (c : Config) → said ≡ body.Voted p e c → IsVote n.registers p e c
Tells (Ok Nothing, n) = Unit {0}
Tells (Err error, n) = Unit {0}

module _ (a : Arbiter) where
  questioned : (asker : Who) (o : Option UnitReply) → TellsSo a.registers o → Tells (question_call asker o a)
  questioned asker None h = tt
  questioned asker (Some r) h = by (is_full_for (option_to_list r.kept) a)
    where
      by : (b : Bool) → Tells (kept_where_full b (option_to_list r.kept) (Reply r.kept asker r.body) a)
      by true = tt
      by false = h

  accused : (accuser victim : Who) → Tells (taken true (body.Accuse victim) accuser a)
  accused accuser victim = by (accusation_kept a.table.accusations accuser victim) (is_full_for (accusation_kept a.table.accusations accuser victim) a)
    where
      by : (records : List Record) (b : Bool)
          → Tells (kept_where_full b records (Reply (first_of records) accuser (body.Ruled victim (accusation_ruled a.table.accusations accuser victim))) a)
      by records true = tt
      by records false = λ p e c told. absurd (cc)

  claimed : (claimer victim : Who) (round : ℕ) → Tells (taken true (body.Claim victim round) claimer a)
  claimed claimer victim round =
      by (claim_kept a.table claimer victim round) (is_full_for (claim_kept a.table claimer victim round) a) (claim_settled a.table claimer victim round)
    where
      by : (records : List Record) (b : Bool) (o : Option Who) → Tells (kept_where_full b records (claim_told (first_of records) claimer victim round o) a)
      by records true o = tt
      by records false None = tt
      by records false (Some kept) = λ p e c told. absurd (cc)

  by_body : (said : Body) (from : Who) (b : Bool) → Tells (taken b said from a)
  by_body said from false = tt
  by_body (body.Accuse victim) from true = accused from victim
  by_body (body.Claim victim round) from true = claimed from victim round
  by_body said from true = questioned from (question_answered said from a.registers) (answers_so said from a.registers)

-- All votes that were told stand.

abbrev Stands : Life → Type 0
Stands l = (to : Who) (p : ℕ) (e : Epoch) (c : Config) → Answered l.answers to (body.Voted p e c) → IsVote l.arbiter.registers p e c

stands_more : (l : Life) (o : Outcome Answer) → Leaves l.arbiter o → Tells o → Stands l → Stands (life_with l o)
stands_more l (Ok (Reply kept from said), n) left tells before to p e c (inl is) =
    let same : said ≡ body.Voted p e c = ap (λ (x : Who × Body). x.1) is in tells p e c same
stands_more l (Ok (Reply kept from said), n) left tells before to p e c (inr old) =
    let stayed = stays (option_to_list kept) l.arbiter.registers p e c (before to p e c old) in
    subst (λ (x : Arbiter). IsVote x.registers p e c) (sym left) stayed
stands_more l (Ok Nothing, n) left tells before to p e c old = subst (λ (x : Arbiter). IsVote x.registers p e c) (sym left) (before to p e c old)
stands_more l (Err error, n) left tells before to p e c old = before to p e c old

votes_stand : (number : ℕ) (hs : List Happening) → Stands (life number hs)
votes_stand number [] to p e c told = absurd told
votes_stand number (Comes m ∷ hs) to p e c told =
    let a : Arbiter = (life number hs).arbiter in
    stands_more (life number hs) (frame_call m a) (leaves a m) (by_body a m.body m.from (takes_frame a.number m)) (votes_stand number hs) to p e c told
votes_stand number (Restarts ∷ hs) to p e c told =
    subst (λ (x : Arbiter). IsVote x.registers p e c) (is_its_records number hs) (votes_stand number hs to p e c told)

pub one_vote : OneVote
one_vote number hs to other p e c d first second =
    same_Some c d (sym (votes_stand number hs to p e c first) ∙ votes_stand number hs other p e d second)

pub one_decision : OneDecision
one_decision lives p e s t c d same counted counted' told told' first second =
    one_decided s t c d same counted counted'
    (λ a x y h k.
    let one = told a x h in
    let two = told' a y k in
    one_vote a (lives a) one.0 two.0 p e x y one.1 two.1)
    first second
