-- The rows of an arbitrator.
use Rattle.std.proofs.Common.{◌≡◌, ℕ, ◌<◌, ◌≤◌, Bool, true, false, cond, nat_lt, List, [], ◌∷◌, Option, None, Some, refl, sym, ◌∙◌, subst, inl, inr, ⊎_elim, arith}
use Rattle.std.proofs.lemmas.Bool.{and_parts, lt-ltb, ltb-true, both_ways}
use Rattle.std.specs.Prelude.{if◌then◌else◌, find}
use Rattle.fabric_lemmas.specs.Members.{IsMember}
use Rattle.ring_points.specs.declared.unit.Config.{Config}
use Rattle.ring_points.specs.declared.unit.Epoch.{Epoch}
use Rattle.ring_points.specs.declared.who.Who.{Who}
use Rattle.ring_points.specs.Epochs.{same_epoch}
use Rattle.ring_points.specs.Whos.{same_who}
use Rattle.ring_points.proofs.Whos.{same_who-true}
use Rattle.fabric_terms.specs.declared.message.Body.{Body}
use Rattle.fabric_terms.specs.declared.message.Body.TheVariants as body
use Rattle.fabric_terms.specs.declared.record.Record.TheVariants.{PreparedBy, DoneFor}
use Rattle.epoch_machine.specs.Plans.{Plan}
use Rattle.epoch_machine.specs.Settings.{Settings}
use Rattle.epoch_machine.specs.World.{World, replaced}
use Rattle.epoch_machine.specs.Deeds.{Prepares, Votes, KeepsDone}
use Rattle.epoch_machine.specs.Guards.{Can}
use Rattle.epoch_machine.specs.Effects.{higher, after}
use Rattle.epoch_machine.specs.Invariant.{Invariant}
use Rattle.epoch_machine.proofs.Replaced.{put_at}
use Rattle.epoch_machine.proofs.Histories.{deed_keeps}
use Rattle.unit_rules.specs.declared.register.Preparation.{Preparation}
use Rattle.unit_rules.specs.Registers.{Register, reply, reply_keeping, is_above, is_below, is_prepared_for, prepared_epoch, prepare_received, vote_in, vote_settled, vote_received, is_newer, done_received}
use Rattle.epoch_refinement.specs.Epochs.{IsEpoch}
use Rattle.epoch_refinement.specs.Shown.{partition_of, IsPlanOf, IsDone, Shown, ShownVote, ShownVoted, ShownAsk}
use Rattle.epoch_refinement.specs.Registers.{ShowsRegister, RefinedReply}
use Rattle.epoch_refinement.proofs.Numbers.{older_below, older_not, same_epoch-true}
use Rattle.epoch_refinement.proofs.Lasting.{deed_later, later_refl, voted_later}
use Rattle.epoch_refinement.proofs.Confirmed.{member_cases}

pub found_in : {X : Type 0} (f : X → Bool) (xs : List X) (x : X) → find f xs ≡ Some x → IsMember x xs × (f x ≡ true)
found_in f [] x h = absurd (cc (h))
found_in f (y ∷ ys) x h = go (f y) refl h (found_in f ys x)
  where
    go : (b : Bool) → f y ≡ b → cond b (Some y) (find f ys) ≡ Some x → (find f ys ≡ Some x → IsMember x ys × (f x ≡ true)) →
        IsMember x (y ∷ ys) × (f x ≡ true)
    go true e h rest = let same : y ≡ x = cc in (inl (sym same), subst (λ z. f z ≡ true) same e)
    go false e h rest = let r = rest h in (inr r.0, r.1)

-- a configuration above the done one is the done one then
newer_is : (p : ℕ) (plan : Option Plan) (done : Option Config) (q : Plan) (config : Config) → IsDone p plan done → IsPlanOf p q config →
    is_newer config.epoch done ≡ true → higher plan q ≡ Some q
newer_is p None None q config a b h = refl
newer_is p None (Some d) q config a b h = absurd a
newer_is p (Some r) None q config a b h = absurd a
newer_is p (Some r) (Some d) q config a b h = go (nat_lt r.epoch q.epoch) refl
  where
    go : (x : Bool) → nat_lt r.epoch q.epoch ≡ x → cond x (Some q) (Some r) ≡ Some q
    go true e = refl
    go false e = absurd (both_ways (nat_lt r.epoch q.epoch) e (lt-ltb r.epoch q.epoch (older_below d.epoch config.epoch a.epoch b.epoch h)))

-- and one that is not leaves it
older_is : (p : ℕ) (plan : Option Plan) (done : Option Config) (q : Plan) (config : Config) → IsDone p plan done → IsPlanOf p q config →
    is_newer config.epoch done ≡ false → higher plan q ≡ plan
older_is p None None q config a b h = absurd (cc (h))
older_is p None (Some d) q config a b h = absurd a
older_is p (Some r) None q config a b h = absurd a
older_is p (Some r) (Some d) q config a b h = go (nat_lt r.epoch q.epoch) refl
  where
    go : (x : Bool) → nat_lt r.epoch q.epoch ≡ x → cond x (Some q) (Some r) ≡ Some r
    go true e = absurd (let lt = ltb-true r.epoch q.epoch e in let le = older_not d.epoch config.epoch a.epoch b.epoch h in omega arith)
    go false e = refl

module _ {c : Settings} {w : World} (inv : Invariant c w) (p : ℕ) (me : Who) (r : Register) (shows : ShowsRegister w p me.actor r) where
  -- the epoch is prepared for this Who; an answer that is given again is prepared again
  prepared_shows : (asker : Who) (e : Epoch) (n : ℕ) → IsEpoch n e → (prepared : Option Preparation) → prepared ≡ Some (record {
    epoch = e;
    preparer = asker;
  }) →
      ShowsRegister (after w (Prepares me.actor asker n)) p me.actor (record r { prepared = prepared })
  prepared_shows asker e n is prepared same = record {
    nothing = λ h. absurd (cc (h, same));
    prepared = λ k h.
        let is_k : record { epoch = e; preparer = asker } ≡ k = cc in
        subst (λ (k : Preparation). IsEpoch (replaced w.prepared me.actor n me.actor) k.epoch × (replaced w.preparer me.actor asker me.actor ≡ k.preparer)) is_k
        (subst (λ m. IsEpoch m e) (sym (put_at w.prepared me.actor n)) is, put_at w.preparer me.actor asker);
    votes = λ v m. voted_later (deed_later w (Prepares me.actor asker n)) (shows.votes v m);
    done = shows.done;
  }

  unchanged : (to : Who) (b : Body) → partition_of b ≡ p → Shown w p me to b → RefinedReply c w p me to r (reply b)
  unchanged to b of shown = record { after = w; inv = inv; later = later_refl w; shows = shows; kept = tt; of = of; sent = shown; told = refl }

  small_prepared : (k : Preparation) → r.prepared ≡ Some k → k.epoch.configuration < 4294967296
  small_prepared k h = let q = (shows.prepared k h).0 in q.small

  small_known : (prepared_epoch r.prepared).configuration < 4294967296
  small_known = go r.prepared refl
    where
      go : (o : Option Preparation) → r.prepared ≡ o → (prepared_epoch o).configuration < 4294967296
      go None h = omega arith
      go (Some k) h = small_prepared k h

  pub prepare_refines : (asker : Who) (e : Epoch) (n : ℕ) → IsEpoch n e → 0 < n → 0 < asker.instance →
      RefinedReply c w p me asker r (prepare_received p e asker r)
  unfolding prepare_received
  prepare_refines asker e n is some begun = go (is_above r.prepared e) refl (is_prepared_for r.prepared e asker) refl
    where
      above : is_above r.prepared e ≡ true → Can c w (Prepares me.actor asker n)
      above h = by r.prepared refl h
        where
          by : (o : Option Preparation) → r.prepared ≡ o → is_above o e ≡ true → Can c w (Prepares me.actor asker n)
          by None i h = inl (let z = shows.nothing i in omega arith)
          by (Some k) i h = inl (older_below k.epoch e (shows.prepared k i).0 is h)

      again : is_prepared_for r.prepared e asker ≡ true → Can c w (Prepares me.actor asker n) × (r.prepared ≡ Some (record { epoch = e; preparer = asker }))
      again h = by r.prepared refl h
        where
          by : (o : Option Preparation) → r.prepared ≡ o → is_prepared_for o e asker ≡ true →
              Can c w (Prepares me.actor asker n) × (r.prepared ≡ Some (record { epoch = e; preparer = asker }))
          by None i h = absurd (cc (h))
          by (Some k) i h =
              let parts = and_parts (same_epoch k.epoch e) (same_who k.preparer asker) h in
              let epoch : k.epoch ≡ e = same_epoch-true k.epoch e parts.0 in
              let who : k.preparer ≡ asker = same_who-true k.preparer asker parts.1 in
              let q = shows.prepared k i in
              let number : IsEpoch (w.prepared me.actor) e = subst (IsEpoch (w.prepared me.actor)) epoch q.0 in
              (inr (number.is ∙ sym is.is, q.1 ∙ who), i ∙ (λ t. Some (record { epoch = epoch t; preparer = who t })))

      go : (a : Bool) → is_above r.prepared e ≡ a → (b : Bool) → is_prepared_for r.prepared e asker ≡ b →
          RefinedReply c w p me asker r
          (if a then reply_keeping (PreparedBy p e asker) (body.Prepared p e r.done)
          else if b then reply (body.Prepared p e r.done) else reply (body.NoPrepare p e (prepared_epoch r.prepared)))
      go true h b i = record {
        after = after w (Prepares me.actor asker n);
        inv = deed_keeps inv (Prepares me.actor asker n) (above h);
        later = deed_later w (Prepares me.actor asker n);
        shows = prepared_shows asker e n is (Some (record { epoch = e; preparer = asker })) refl;
        kept = refl;
        of = refl;
        sent = record { epoch = n; plan = w.done me.actor; epoch_is = is; answered = inl refl; is = shows.done; asker = begun };
        told = refl;
      }
      go false h true i = record {
        after = after w (Prepares me.actor asker n);
        inv = deed_keeps inv (Prepares me.actor asker n) (again i).0;
        later = deed_later w (Prepares me.actor asker n);
        shows = prepared_shows asker e n is r.prepared (again i).1;
        kept = tt;
        of = refl;
        sent = record { epoch = n; plan = w.done me.actor; epoch_is = is; answered = inl refl; is = shows.done; asker = begun };
        told = refl;
      }
      go false h false i = unchanged asker (body.NoPrepare p e (prepared_epoch r.prepared)) refl small_known

  -- the plan's epoch is not below the prepared one
  not_past : (e : Epoch) (n : ℕ) → IsEpoch n e → is_below r.prepared e ≡ false → w.prepared me.actor ≤ n
  not_past e n is h = go r.prepared refl h
    where
      go : (o : Option Preparation) → r.prepared ≡ o → is_below o e ≡ false → w.prepared me.actor ≤ n
      go None i h = let z = shows.nothing i in omega arith
      go (Some k) i h = older_not e k.epoch is (shows.prepared k i).0 h

  pub vote_refines : (asker : Who) (config : Config) → ShownVote w p config → RefinedReply c w p me asker r (vote_received config r)
  unfolding vote_received
  vote_refines asker config vote = go (is_below r.prepared config.epoch) refl (vote_in config.epoch r.votes) refl
    where
      go : (past : Bool) → is_below r.prepared config.epoch ≡ past → (o : Option Config) → vote_in config.epoch r.votes ≡ o →
          RefinedReply c w p me asker r
          (if past then reply (body.NoVote config.partition config.epoch (prepared_epoch r.prepared)) else vote_settled config o)
      go true h o i = unchanged asker (body.NoVote config.partition config.epoch (prepared_epoch r.prepared)) vote.is.partition small_known
      go false h (Some v) i =
          let found = found_in (λ vote. same_epoch vote.epoch config.epoch) r.votes v i in
          unchanged asker (body.Voted config.partition config.epoch v) vote.is.partition (shows.votes v found.0, same_epoch-true v.epoch config.epoch found.1)
      go false h None i =
          let new : ShownVoted (after w (Votes me.actor vote.plan)) p me.actor config = record { plan = vote.plan; voted = inl refl; is = vote.is } in
          record {
            after = after w (Votes me.actor vote.plan);
            inv = deed_keeps inv (Votes me.actor vote.plan) (vote.planned, not_past config.epoch vote.plan.epoch vote.is.epoch h);
            later = deed_later w (Votes me.actor vote.plan);
            shows = record {
              nothing = shows.nothing;
              prepared = shows.prepared;
              votes = λ v m. ⊎_elim
                  (λ m. voted_later (deed_later w (Votes me.actor vote.plan)) (shows.votes v m))
                  (λ m. ⊎_elim (λ e. subst (ShownVoted (after w (Votes me.actor vote.plan)) p me.actor) (sym e) new) (λ n. absurd n) m)
                  (member_cases v r.votes (config ∷ []) m);
              done = shows.done;
            };
            kept = vote.is.partition;
            of = vote.is.partition;
            sent = (new, refl);
            told = refl;
          }

  pub done_refines : (asker : Who) (config : Config) → ShownAsk w p config → RefinedReply c w p me asker r (done_received config r)
  unfolding done_received
  done_refines asker config ask = go (is_below r.prepared config.epoch) refl (is_newer config.epoch r.done) refl
    where
      can : is_below r.prepared config.epoch ≡ false → Can c w (KeepsDone me.actor ask.plan)
      can h = (ask.asked, not_past config.epoch ask.plan.epoch ask.is.epoch h)

      done_shows : (done : Option Config) → IsDone p (higher (w.done me.actor) ask.plan) done →
          ShowsRegister (after w (KeepsDone me.actor ask.plan)) p me.actor (record r { done = done })
      done_shows done is = record {
        nothing = shows.nothing;
        prepared = shows.prepared;
        votes = λ v m. voted_later (deed_later w (KeepsDone me.actor ask.plan)) (shows.votes v m);
        done = subst (λ o. IsDone p o done) (sym (put_at w.done me.actor (higher (w.done me.actor) ask.plan))) is;
      }

      go : (past : Bool) → is_below r.prepared config.epoch ≡ past → (newer : Bool) → is_newer config.epoch r.done ≡ newer →
          RefinedReply c w p me asker r
          (if past then reply (body.NoDone config.partition config.epoch (prepared_epoch r.prepared))
          else if newer then reply_keeping (DoneFor config) (body.DoneKept config.partition config.epoch)
          else reply (body.DoneKept config.partition config.epoch))
      go true h newer i = unchanged asker (body.NoDone config.partition config.epoch (prepared_epoch r.prepared)) ask.is.partition small_known
      go false h true i = record {
        after = after w (KeepsDone me.actor ask.plan);
        inv = deed_keeps inv (KeepsDone me.actor ask.plan) (can h);
        later = deed_later w (KeepsDone me.actor ask.plan);
        shows = done_shows (Some config) (subst (λ o. IsDone p o (Some config))
            (sym (newer_is p (w.done me.actor) r.done ask.plan config shows.done ask.is i)) ask.is);
        kept = ask.is.partition;
        of = ask.is.partition;
        sent = (ask.plan.epoch, ask.is.epoch, inl refl);
        told = refl;
      }
      go false h false i = record {
        after = after w (KeepsDone me.actor ask.plan);
        inv = deed_keeps inv (KeepsDone me.actor ask.plan) (can h);
        later = deed_later w (KeepsDone me.actor ask.plan);
        shows = done_shows r.done (subst (λ o. IsDone p o r.done) (sym (older_is p (w.done me.actor) r.done ask.plan config shows.done ask.is i)) shows.done);
        kept = tt;
        of = ask.is.partition;
        sent = (ask.plan.epoch, ask.is.epoch, inl refl);
        told = refl;
      }
