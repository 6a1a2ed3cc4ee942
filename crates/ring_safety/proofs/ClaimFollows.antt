-- The machine follows what an arbitrator answers to a claim of a round.
use Rattle.std.proofs.Common.{◌≡◌, ℕ, ◌+◌, ◌-◌, ◌&&◌, Bool, true, false, cond, [], ◌∷◌, ◌++◌, Option, Some, None, refl, sym, ap, ◌∙◌, subst, inl, inr, arith, List}
use Rattle.std.specs.Prelude.{◌==◌}
use Rattle.std.proofs.lemmas.Bool.{eqb-true, eq-eqb, and_from}
use Rattle.fabric_terms.specs.declared.config.FabricConfig.{FabricConfig}
use Rattle.fabric_terms.specs.declared.message.Body.{Body}
use Rattle.fabric_terms.specs.declared.message.Body.TheVariants as body
use Rattle.fabric_terms.specs.declared.message.Message.{Message}
use Rattle.fabric_terms.specs.declared.record.Record.{Record}
use Rattle.ring_points.specs.declared.who.Who.{Who}
use Rattle.ring_points.specs.Whos.{same_who, arbiter_actor}
use Rattle.ring_machine.specs.Arbitration.{claimed, kept_of, kept_after, kept_answer}
use Rattle.ring_machine.specs.Ends.{updated, replaced}
use Rattle.ring_machine.specs.Events as events
use Rattle.ring_machine.specs.Events.{Keeps}
use Rattle.ring_machine.specs.Frames.{RoundClaim, Kept}
use Rattle.fabric_lemmas.specs.Members.{IsMember}
use Rattle.ring_machine.specs.World as machine
use Rattle.ring_machine.proofs.Lists.{IsMember-append_right}
use Rattle.ring_machine.proofs.Histories.{event_done}
use Rattle.ring_points.proofs.Whos.{same_who-refl}
use Rattle.ring_machine.proofs.Whos.{test, updated_cases, replaced_cases}
use Rattle.ring_refinement.specs.Images.{machine_of, IsSent, frame_of}
use Rattle.ring_rules.specs.Arbiters.{RoundClaims, Table, no_table, claim_answer, claim_kept, claim_settled, claimer_kept, first_accuser, first_claimer, is_round_of, kept_by, table_after}
use Rattle.ring_rules.proofs.Rows.{claim_kept-is, claim_settled-is}
use Rattle.world_rules.specs.Arbiters.{ArbiterState, claimed_by}
use Rattle.world_rules.specs.Uppers.{Upper, Did}
use Rattle.world_rules.specs.Worlds.{World, kept_of as records_of, arbiter_who, arbiter_acted}
use Rattle.run_facts.proofs.ArbiterSteps.{claim_boots}
use Rattle.ring_safety.proofs.Follows.{Follows, Known}
use Rattle.run_facts.proofs.Kept.{kept_here, kept_there, table_append}
use Rattle.run_facts.proofs.Tables.{table_of, two_arbiters}
use Rattle.ring_safety.proofs.Rules.{Rule, aside}
use Rattle.ring_safety.proofs.Tales.{Tale}

-- who is found after one claim more

claim_old : (v y x : Who) (r round : ℕ) (t : RoundClaims) → is_round_of v r (y, round, x) ≡ false →
    first_claimer v r (t ++ (y, round, x) ∷ []) ≡ first_claimer v r t
claim_old v y x r round [] h = ap (λ b. cond b (Some x) None) h
claim_old v y x r round (e ∷ t) h = ap (λ o. cond (is_round_of v r e) (Some e.2) o) (claim_old v y x r round t h)

claim_new : (v y x : Who) (r round : ℕ) (t : RoundClaims) → is_round_of v r (y, round, x) ≡ true → first_claimer v r t ≡ None →
    first_claimer v r (t ++ (y, round, x) ∷ []) ≡ Some x
claim_new v y x r round [] h none = ap (λ b. cond b (Some x) None) h
claim_new v y x r round (e ∷ t) h none = go (is_round_of v r e) none (claim_new v y x r round t h)
  where
    go : (b : Bool) → cond b (Some e.2) (first_claimer v r t) ≡ None →
        (first_claimer v r t ≡ None → first_claimer v r (t ++ (y, round, x) ∷ []) ≡ Some x) →
        cond b (Some e.2) (first_claimer v r (t ++ (y, round, x) ∷ [])) ≡ Some x
    go true g again = absurd (cc (g))
    go false g again = again g

-- a claim accuses nobody
no_accuser : (t : Table) (x y : Who) (round : ℕ) (o claimed : Option Who) (is_first : Bool) →
    (table_after t (claimer_kept x y round o claimed is_first)).accusations ≡ t.accusations
no_accuser t x y round None claimed is_first = refl
no_accuser t x y round (Some first) (Some z) is_first = refl
no_accuser t x y round (Some first) None true = refl
no_accuser t x y round (Some first) None false = refl

-- whom the machine keeps, the rules keep, where the victim has a first accuser
same_kept : (x first : Who) (claimed : Option Who) (is_first : Bool) →
    kept_by x (Some first) claimed is_first ≡ kept_after is_first (cond is_first (Some first) claimed) x
same_kept x first claimed true = refl
same_kept x first (Some z) false = refl
same_kept x first None false = refl

-- the machine's later claimers after an answer are those of the records after it
module _ (t : Table) (x y first : Who) (round : ℕ) (row : Who → ℕ → Option Who)
    (rows : (z : Who) (q : ℕ) → (q == 1) ≡ false → row z q ≡ first_claimer z q t.claims) where
  abbrev claims_then : Option Who → Bool → RoundClaims
  claims_then o b = (table_after t (claimer_kept x y round (Some first) o b)).claims

  -- of another victim or round
  elsewhere : (v : Who) (r : ℕ) → is_round_of v r (y, round, x) ≡ false → (o : Option Who) (b : Bool) →
      first_claimer v r (claims_then o b) ≡ first_claimer v r t.claims
  elsewhere v r h (Some z) b = refl
  elsewhere v r h None true = refl
  elsewhere v r h None false = claim_old v y x r round t.claims h

  -- of this one
  here : (o : Option Who) (b : Bool) → first_claimer y round t.claims ≡ o → (round == 1) ≡ b → (round == 1) ≡ false →
      kept_after b (cond b (Some first) o) x ≡ first_claimer y round (claims_then o b)
  here o true h e later = absurd (cc (e, later))
  here (Some u) false h e later = sym h
  here None false h e later = sym (claim_new y y x round round t.claims (both_same y round) h)
    where
      both_same : (y : Who) (round : ℕ) → is_round_of y round (y, round, x) ≡ true
      both_same y round = and_from (same_who y y) (round == round) (same_who-refl y) (eq-eqb round round refl)

  claimers_then : (o : Option Who) (b : Bool) → first_claimer y round t.claims ≡ o → (round == 1) ≡ b → (v : Who) (r : ℕ) → (r == 1) ≡ false →
      updated row y (replaced (row y) round (kept_after b (cond b (Some first) o) x)) v r ≡ first_claimer v r (claims_then o b)
  claimers_then o b h e v r later =
      updated_cases (λ f. f r ≡ first_claimer v r (claims_then o b)) row y v (replaced (row y) round (kept_after b (cond b (Some first) o) x))
      (λ same.
      replaced_cases (λ p. p ≡ first_claimer v r (claims_then o b)) (row y) round r (kept_after b (cond b (Some first) o) x)
      (λ at.
      subst (λ (q : Who × ℕ). kept_after b (cond b (Some first) o) x ≡ first_claimer q.0 q.1 (claims_then o b)) (λ i. (same i, at i))
      (here o b h e (subst (λ q. (q == 1) ≡ false) (sym at) later)))
      (λ n.
      subst (λ v. row y r ≡ first_claimer v r (claims_then o b)) same
      (rows y r later ∙ sym (elsewhere y r (second_fails (same_who y y) (round == r) (neq_eqb n)) o b))))
      (λ apart. rows v r later ∙ sym (elsewhere v r (ap (λ d. d && (round == r)) apart) o b))
    where
      second_fails : (a b : Bool) → b ≡ false → a && b ≡ false
      second_fails true b h = h
      second_fails false b h = refl

      neq_eqb : (round ≡ r → ⊥) → (round == r) ≡ false
      neq_eqb n = test (round == r) (λ k. absurd (n (eqb-true round r k))) (λ k. k)

-- somebody is kept
somebody : (x first : Who) (o : Option Who) (b : Bool) → (u : Who) × (kept_by x (Some first) o b ≡ Some u)
somebody x first o true = (first, refl)
somebody x first (Some z) false = (z, refl)
somebody x first None false = (x, refl)

module _ (a : Upper) (c : FabricConfig) (w : World a) (t : Tale) (m : machine.World) (f : Follows c w t m) (arbiter : ℕ) (g : Message)
    (s : ArbiterState a) (sent_was : IsMember g w.frames) (kept : s.table ≡ table_of w (arbiter_actor arbiter)) where
  abbrev me : Who
  me = arbiter_who arbiter

  -- a claim is answered on the machine, where the victim has a first accuser
  module _ (y : Who) (round : ℕ) (claims : g.body ≡ body.Claim y round) where
    abbrev x : Who
    x = g.from

    abbrev table : Table
    table = table_of w (arbiter_actor arbiter)

    abbrev about : Option Who
    about = first_accuser y table.accusations

    abbrev held : Option Who
    held = first_claimer y round table.claims

    abbrev v : machine.World
    v = claimed m arbiter x y round

    abbrev records : List Record
    records = claim_kept s.table x y round

    abbrev d : Did (ArbiterState a)
    d = claimed_by a s x y round (claim_settled s.table x y round) records

    abbrev table_then : ℕ → Table
    table_then q = table_of (arbiter_acted a w arbiter d).world (arbiter_actor q)

    records_are : records ≡ claimer_kept x y round about held (round == 1)
    records_are = ap (λ z. claim_kept z x y round) kept ∙ claim_kept-is table x y round

    settled_is : claim_settled s.table x y round ≡ kept_by x about held (round == 1)
    settled_is = ap (λ z. claim_settled z x y round) kept ∙ claim_settled-is table x y round

    kept_then : table_then arbiter ≡ table_after table (claimer_kept x y round about held (round == 1))
    kept_then =
        ap (table_after no_table) (kept_here w me records d.sent)
        ∙ (table_append no_table (records_of w (arbiter_actor arbiter)) records ∙ ap (table_after table) records_are)

    -- the tables of the other arbitrators stay
    there : (q : ℕ) → (arbiter == q) ≡ false → table_of w (arbiter_actor q) ≡ table_then q
    there q e = ap (table_after no_table) (sym (kept_there w me records d.sent (arbiter_actor q) (two_arbiters arbiter q e)))

    same_accusations : (q : ℕ) → (table_of w (arbiter_actor q)).accusations ≡ (table_then q).accusations
    same_accusations q = go (arbiter == q) refl
      where
        go : (b : Bool) → (arbiter == q) ≡ b → (table_of w (arbiter_actor q)).accusations ≡ (table_then q).accusations
        go true e =
            subst (λ q. (table_of w (arbiter_actor q)).accusations ≡ (table_then q).accusations) (eqb-true arbiter q e)
            (sym (ap (λ (k : Table). k.accusations) kept_then ∙ no_accuser table x y round about held (round == 1)))
        go false e = ap (λ (k : Table). k.accusations) (there q e)

    claim_sent : IsMember (RoundClaim x y round) m.sent
    claim_sent = subst (λ b. IsSent m.sent (frame_of c.lease x g.to b)) claims (f.frames g sent_was).posted.image

    -- nobody accused the victim: nothing is done
    pub ignored : about ≡ None → Rule c w m m arbiter d
    ignored none =
        aside a c w t m f arbiter g s d refl (claim_boots s.table x y round) (λ z. ap (table_after z) no_records)
        (λ q k. absurd (subst (λ (o : Option Who). IsMember q (claim_answer x y round o)) no_answer k))
      where
        no_records : records ≡ []
        no_records = records_are ∙ ap (λ o. claimer_kept x y round o held (round == 1)) none

        no_answer : claim_settled s.table x y round ≡ None
        no_answer = settled_is ∙ ap (λ o. kept_by x o held (round == 1)) none

    module _ (first : Who) (accused : first_accuser y (table_of w (arbiter_actor arbiter)).accusations ≡ Some first) where
      abbrev now : Option Who
      now = kept_after (round == 1) (kept_of m arbiter y round) x

      -- what the machine keeps
      now_is : now ≡ kept_after (round == 1) (cond (round == 1) (Some first) held) x
      now_is = go (round == 1) refl
        where
          go : (b : Bool) → (round == 1) ≡ b →
              kept_after b (cond b (m.first_accuser arbiter y) (m.first_claimer arbiter y round)) x ≡ kept_after b (cond b (Some first) held) x
          go true e = ap (λ o. kept_after true o x) (f.tables.accusers arbiter y ∙ accused)
          go false e = ap (λ o. kept_after false o x) (f.tables.claimers arbiter y round e)

      answer : (u : Who) × (kept_by x (Some first) held (round == 1) ≡ Some u)
      answer = somebody x first held (round == 1)

      now_answered : now ≡ Some answer.0
      now_answered = now_is ∙ (sym (same_kept x first held (round == 1)) ∙ answer.1)

      sent_is : d.sent ≡ (x, body.Kept y round answer.0) ∷ []
      sent_is = ap (claim_answer x y round) (settled_is ∙ (ap (λ o. kept_by x o held (round == 1)) accused ∙ answer.1))

      here_then : (z : Who) (r : ℕ) → (r == 1) ≡ false →
          updated (m.first_claimer arbiter) y (replaced (m.first_claimer arbiter y) round now) z r ≡ first_claimer z r (table_then arbiter).claims
      here_then z r later =
          ap (λ o. updated (m.first_claimer arbiter) y (replaced (m.first_claimer arbiter y) round o) z r) now_is
          ∙ (claimers_then table x y first round (m.first_claimer arbiter) (f.tables.claimers arbiter) held (round == 1) refl refl z r later
          ∙ ap (λ (k : Table). first_claimer z r k.claims)
          (sym (kept_then ∙ ap (λ o. table_after table (claimer_kept x y round o held (round == 1))) accused)))

      claimers_after : (q : ℕ) (z : Who) (r : ℕ) → (r == 1) ≡ false → v.first_claimer q z r ≡ first_claimer z r (table_then q).claims
      claimers_after q z r later = go (arbiter == q) refl
        where
          go : (b : Bool) → (arbiter == q) ≡ b →
              cond b (updated (m.first_claimer arbiter) y (replaced (m.first_claimer arbiter y) round now)) (m.first_claimer q) z r ≡
              first_claimer z r (table_then q).claims
          go true e = here_then z r later ∙ ap (λ k. first_claimer z r (table_then k).claims) (eqb-true arbiter q e)
          go false e = f.tables.claimers q z r later ∙ ap (λ (k : Table). first_claimer z r k.claims) (there q e)

      known_answer : Known c.lease v.sent (record { from = me; to = x; body = body.Kept y round answer.0 })
      known_answer = record {
        posted = record {
          image =
              subst (λ o. IsMember (Kept ((32768 + arbiter) - 32768) y round answer.0) (kept_answer arbiter y round o ++ m.sent)) (sym now_answered)
              (inl (λ i. Kept (number i) y round answer.0));
          rises = refl;
          to_one = λ h. absurd (cc (h));
        };
        by_instance = λ h. absurd (cc (h));
      }
        where
          number : (32768 + arbiter) - 32768 ≡ arbiter
          number = omega arith

      says : (q : Who × Body) → IsMember q d.sent → Known c.lease v.sent (record { from = me; to = q.0; body = q.1 })
      says q k = go (subst (IsMember q) sent_is k)
        where
          go : IsMember q ((x, body.Kept y round answer.0) ∷ []) → Known c.lease v.sent (record { from = me; to = q.0; body = q.1 })
          go (inl e) = subst (λ (z : Who × Body). Known c.lease v.sent (record { from = me; to = z.0; body = z.1 })) (sym e) known_answer
          go (inr n) = absurd n

      pub answered_claim : events.IsSound (machine_of c) → Rule c w m v arbiter d
      answered_claim sound = record {
        inv = (event_done sound f.inv (Keeps arbiter x y round) claim_sent).inv;
        time = refl;
        starts = refl;
        instances = refl;
        whole = refl;
        places = refl;
        sent = λ e k. IsMember-append_right e (kept_answer arbiter y round now) m.sent k;
        tables = record {
          accusers = λ q z. f.tables.accusers q z ∙ ap (first_accuser z) (same_accusations q);
          claimers = claimers_after;
        };
        says = says;
        boots = claim_boots s.table x y round;
        silent = refl;
      }
