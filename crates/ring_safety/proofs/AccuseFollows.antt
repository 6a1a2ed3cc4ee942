-- The machine follows what an arbitrator answers to an accusation.
use Rattle.std.proofs.Common.{◌≡◌, ℕ, ◌+◌, ◌-◌, Bool, true, false, cond, [], ◌∷◌, ◌++◌, Option, Some, None, refl, sym, ap, ◌∙◌, subst, inl, inr, arith, List}
use Rattle.std.specs.Prelude.{◌==◌}
use Rattle.std.proofs.lemmas.Bool.{eqb-true}
use Rattle.fabric_terms.specs.declared.config.FabricConfig.{FabricConfig}
use Rattle.fabric_terms.specs.declared.message.Body.{Body}
use Rattle.fabric_terms.specs.declared.message.Body.TheVariants as body
use Rattle.fabric_terms.specs.declared.message.Message.{Message}
use Rattle.fabric_terms.specs.declared.record.Record.{Record}
use Rattle.ring_points.specs.declared.who.Ruling.TheVariants.{Granted, Taken}
use Rattle.ring_points.specs.declared.who.Who.{Who}
use Rattle.ring_points.specs.Whos.{same_who, arbiter_actor}
use Rattle.ring_machine.specs.Arbitration.{ruled, ruling_of, first_after}
use Rattle.ring_machine.specs.Ends.{updated}
use Rattle.ring_machine.specs.Events as events
use Rattle.ring_machine.specs.Events.{Answers}
use Rattle.ring_machine.specs.Frames.{Accuse, Ruled}
use Rattle.fabric_lemmas.specs.Members.{IsMember}
use Rattle.ring_machine.specs.World as machine
use Rattle.ring_machine.proofs.Histories.{event_done}
use Rattle.ring_points.proofs.Whos.{same_who-true}
use Rattle.ring_refinement.specs.Images.{machine_of, IsSent, frame_of}
use Rattle.ring_rules.specs.Arbiters.{Accusations, Table, no_table, accusation_kept, accusation_ruled, first_accuser, first_claimer, first_kept, ruling_by, table_after}
use Rattle.ring_rules.proofs.Rows.{accusation_kept-is, accusation_ruled-is}
use Rattle.world_rules.specs.Arbiters.{ArbiterState, accused_by}
use Rattle.world_rules.specs.Uppers.{Upper, Did}
use Rattle.world_rules.specs.Worlds.{World, kept_of as records_of, arbiter_who, arbiter_acted}
use Rattle.run_facts.proofs.ArbiterSteps.{kept_boots}
use Rattle.ring_safety.proofs.Follows.{Follows, Known, is_accusation}
use Rattle.run_facts.proofs.Kept.{kept_here, kept_there, table_append}
use Rattle.run_facts.proofs.Tables.{table_of, two_arbiters}
use Rattle.ring_safety.proofs.Rules.{Rule}
use Rattle.ring_safety.proofs.Tales.{Tale}

-- who is found after one accusation more

first_old : (v y x : Who) (t : Accusations) → same_who y v ≡ false → first_accuser v (t ++ (y, x) ∷ []) ≡ first_accuser v t
first_old v y x [] h = ap (λ b. cond b (Some x) None) h
first_old v y x (e ∷ t) h = ap (λ o. cond (same_who e.0 v) (Some e.1) o) (first_old v y x t h)

first_new : (v y x : Who) (t : Accusations) → same_who y v ≡ true → first_accuser v t ≡ None → first_accuser v (t ++ (y, x) ∷ []) ≡ Some x
first_new v y x [] h none = ap (λ b. cond b (Some x) None) h
first_new v y x (e ∷ t) h none = go (same_who e.0 v) none (first_new v y x t h)
  where
    go : (b : Bool) → cond b (Some e.1) (first_accuser v t) ≡ None → (first_accuser v t ≡ None → first_accuser v (t ++ (y, x) ∷ []) ≡ Some x) →
        cond b (Some e.1) (first_accuser v (t ++ (y, x) ∷ [])) ≡ Some x
    go true g again = absurd (cc (g))
    go false g again = again g

updated_same : (f : Who → Option Who) (y v : Who) (value : Option Who) → value ≡ f y → updated f y value v ≡ f v
updated_same f y v value h = go (same_who y v) refl
  where
    go : (b : Bool) → same_who y v ≡ b → cond b value (f v) ≡ f v
    go true e = h ∙ ap f (same_who-true y v e)
    go false e = refl

-- the machine's table after an answer is that of the records after it
module _ (t : Table) (x y v : Who) where
  abbrev found : Who → Option Who
  found z = first_accuser z t.accusations

  after_kept : (a b : Option Who) → first_accuser y t.accusations ≡ b →
      updated found y (first_after (ruling_of a b x) b x) v ≡ first_accuser v (table_after t (first_kept x y a b)).accusations
  after_kept None None h = go (same_who y v) refl
    where
      go : (d : Bool) → same_who y v ≡ d → cond d (Some x) (first_accuser v t.accusations) ≡ first_accuser v (t.accusations ++ (y, x) ∷ [])
      go true e = sym (first_new v y x t.accusations e (subst (λ z. first_accuser z t.accusations ≡ None) (same_who-true y v e) h))
      go false e = sym (first_old v y x t.accusations e)
  after_kept None (Some z) h = go (same_who z x) refl
    where
      go : (d : Bool) → same_who z x ≡ d → updated found y (first_after (cond d Granted Taken) (Some z) x) v ≡ first_accuser v t.accusations
      go true e = updated_same found y v (Some x) (ap (λ u. Some u) (sym (same_who-true z x e)) ∙ sym h)
      go false e = updated_same found y v (Some z) (sym h)
  after_kept (Some z) b h = updated_same found y v b (sym h)

-- an accusation claims no round
no_claim : (t : Table) (x y : Who) (a b : Option Who) → (table_after t (first_kept x y a b)).claims ≡ t.claims
no_claim t x y None None = refl
no_claim t x y None (Some z) = refl
no_claim t x y (Some z) b = refl

same_ruling : (x : Who) (a b : Option Who) → ruling_by x a b ≡ ruling_of a b x
same_ruling x (Some z) b = refl
same_ruling x None None = refl
same_ruling x None (Some z) = refl

module _ (a : Upper) (c : FabricConfig) (w : World a) (t : Tale) (m : machine.World) (f : Follows c w t m) (arbiter : ℕ) (g : Message)
    (s : ArbiterState a) (sent_was : IsMember g w.frames) (kept : s.table ≡ table_of w (arbiter_actor arbiter)) where
  abbrev me : Who
  me = arbiter_who arbiter

  -- an accusation is answered on the machine
  module _ (y : Who) (accuses : g.body ≡ body.Accuse y) where
    abbrev x : Who
    x = g.from

    abbrev table : Table
    table = table_of w (arbiter_actor arbiter)

    -- the machine's table
    abbrev tab : Who → Option Who
    tab = m.first_accuser arbiter

    abbrev v : machine.World
    v = ruled m arbiter x y

    abbrev records : List Record
    records = accusation_kept s.table.accusations x y

    abbrev d : Did (ArbiterState a)
    d = accused_by a s x y (accusation_ruled s.table.accusations x y) records

    abbrev table_then : ℕ → Table
    table_then q = table_of (arbiter_acted a w arbiter d).world (arbiter_actor q)

    tabs : tab ≡ (λ z. first_accuser z table.accusations)
    tabs i z = f.tables.accusers arbiter z i

    rules_same : accusation_ruled s.table.accusations x y ≡ ruling_of (tab x) (tab y) x
    rules_same =
        ap (λ (z : Table). accusation_ruled z.accusations x y) kept
        ∙ (accusation_ruled-is table.accusations x y
        ∙ (same_ruling x (first_accuser x table.accusations) (first_accuser y table.accusations) ∙ (λ i. ruling_of (sym tabs i x) (sym tabs i y) x)))

    kept_then : table_then arbiter ≡ table_after table (first_kept x y (first_accuser x table.accusations) (first_accuser y table.accusations))
    kept_then =
        ap (table_after no_table) (kept_here w me records d.sent)
        ∙ (table_append no_table (records_of w (arbiter_actor arbiter)) records
        ∙ ap (table_after table) (ap (λ (z : Table). accusation_kept z.accusations x y) kept ∙ accusation_kept-is table.accusations x y))

    -- the machine's table after the answer
    abbrev tab_then : (Who → Option Who) → Who → Option Who
    tab_then o = updated o y (first_after (ruling_of (o x) (o y) x) (o y) x)

    here : (z : Who) → tab_then tab z ≡ first_accuser z (table_then arbiter).accusations
    here z =
        (λ i. tab_then (tabs i) z)
        ∙ (after_kept table x y z (first_accuser x table.accusations) (first_accuser y table.accusations) refl
        ∙ ap (λ (k : Table). first_accuser z k.accusations) (sym kept_then))

    -- the tables of the other arbitrators stay
    there : (q : ℕ) → (arbiter == q) ≡ false → table_of w (arbiter_actor q) ≡ table_then q
    there q e = ap (table_after no_table) (sym (kept_there w me records d.sent (arbiter_actor q) (two_arbiters arbiter q e)))

    accusers_then : (q : ℕ) (z : Who) → v.first_accuser q z ≡ first_accuser z (table_then q).accusations
    accusers_then q z = go (arbiter == q) refl
      where
        go : (b : Bool) → (arbiter == q) ≡ b → cond b (tab_then tab) (m.first_accuser q) z ≡ first_accuser z (table_then q).accusations
        go true e = here z ∙ ap (λ k. first_accuser z (table_then k).accusations) (eqb-true arbiter q e)
        go false e = f.tables.accusers q z ∙ ap (λ (k : Table). first_accuser z k.accusations) (there q e)

    same_claims : (q : ℕ) → (table_of w (arbiter_actor q)).claims ≡ (table_then q).claims
    same_claims q = go (arbiter == q) refl
      where
        go : (b : Bool) → (arbiter == q) ≡ b → (table_of w (arbiter_actor q)).claims ≡ (table_then q).claims
        go true e =
            subst (λ q. (table_of w (arbiter_actor q)).claims ≡ (table_then q).claims) (eqb-true arbiter q e)
            (sym (ap (λ (k : Table). k.claims) kept_then ∙ no_claim table x y (first_accuser x table.accusations) (first_accuser y table.accusations)))
        go false e = ap (λ (k : Table). k.claims) (there q e)

    accused : IsMember (Accuse x y) m.sent
    accused = subst (λ b. IsSent m.sent (frame_of c.lease x g.to b)) accuses (f.frames g sent_was).posted.image

    known_answer : Known c.lease v.sent (record { from = me; to = x; body = body.Ruled y (accusation_ruled s.table.accusations x y) })
    known_answer = record {
      posted = record {
        image = inl (λ i. Ruled (number i) x y (rules_same i));
        rises = refl;
        to_one = λ h. (f.frames g sent_was).by_instance (ap is_accusation accuses);
      };
      by_instance = λ h. absurd (cc (h));
    }
      where
        number : (32768 + arbiter) - 32768 ≡ arbiter
        number = omega arith

    says : (q : Who × Body) → IsMember q d.sent → Known c.lease v.sent (record { from = me; to = q.0; body = q.1 })
    says q (inl e) = subst (λ (z : Who × Body). Known c.lease v.sent (record { from = me; to = z.0; body = z.1 })) (sym e) known_answer
    says q (inr k) = absurd k

    pub answered : events.IsSound (machine_of c) → Rule c w m v arbiter d
    answered sound = record {
      inv = (event_done sound f.inv (Answers arbiter x y) accused).inv;
      time = refl;
      starts = refl;
      instances = refl;
      whole = refl;
      places = refl;
      sent = λ e k. inr k;
      tables = record {
        accusers = accusers_then;
        claimers = λ q z round later. f.tables.claimers q z round later ∙ ap (first_claimer z round) (same_claims q);
      };
      says = says;
      boots = kept_boots s.table.accusations x y;
      silent = refl;
    }
