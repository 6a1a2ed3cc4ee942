-- The laws of every valid row of lives, from the world of the machine that follows, and so of every valid run.
use Rattle.std.proofs.Common.{◌≡◌, ℕ, zero, suc, ◌+◌, ◌-◌, ◌^◌, ◌<◌, Bool, true, false, List, [], ◌∷◌, refl, sym, ap, ◌∙◌, subst, inl, inr, ⊎_elim, arith}
use Rattle.std.specs.Prelude.{drop}
use Rattle.std.proofs.lemmas.Bool.{lt-ltb}
use Rattle.fabric_terms.specs.declared.config.FabricConfig.{FabricConfig}
use Rattle.fabric_terms.specs.declared.message.Body.TheVariants as body
use Rattle.fabric_terms.specs.declared.report.Report.{Report}
use Rattle.fabric_terms.specs.Places.{With, IsLive, PlaceKept, TakesFrom, gave_number, has_left, place_of}
use Rattle.fabric_terms.specs.Reports.{Told, told}
use Rattle.fabric_terms.specs.Runs.{Run, Owned, Holds, RingSafe}
use Rattle.fabric_terms.specs.Sound.{IsSound}
use Rattle.fabric_terms.specs.TakeOvers.{TakenAfterLeave, was_taken_over}
use Rattle.join_phases.specs.Phases.{is_left}
use Rattle.ring_points.specs.declared.who.Ruling.{Ruling}
use Rattle.ring_points.specs.declared.who.Ruling.TheVariants.{Granted, Taken}
use Rattle.ring_points.specs.declared.who.Who.{Who}
use Rattle.ring_points.specs.Ranges.{in_ranges}
use Rattle.ring_machine.specs.Arbitration.{HeirBy, AnsweredBy, Tells, by_kept, by_grant}
use Rattle.ring_machine.specs.Frames.{Ruled, Kept}
use Rattle.fabric_lemmas.specs.Members.{IsMember}
use Rattle.ring_machine.specs.Points.{is_point}
use Rattle.ring_machine.specs.World as machine
use Rattle.ring_machine.proofs.Exclusions.{no_crossing, one_heir}
use Rattle.ring_machine.proofs.LawProofs.{one_holder}
use Rattle.ring_refinement.specs.Images.{machine_of}
use Rattle.ring_refinement.specs.Moves as moves
use Rattle.world_rules.specs.Uppers.{Upper}
use Rattle.world_rules.specs.Worlds.{World, arbiter_who}
use Rattle.world_rules.specs.Above.{StaysAbove}
use Rattle.run_promises.specs.Arbitrators as answers
use Rattle.run_promises.specs.Arbitrators.{MajorityKept, MajorityAnswered, answer_of}
use Rattle.ring_safety.specs.Laws.{RingIsSafe, LeavesBeforeTakeOver, PlacesAreKept, AnswersExcludeAlways, OneHeirAlways}
use Rattle.ring_safety.proofs.ActFollows.{Followed}
use Rattle.ring_safety.proofs.Followed.{followed}
use Rattle.ring_safety.proofs.Follows.{Follows, sound_machine}
use Rattle.ring_safety.proofs.Holders.{LivesThere, Seen, seen, lives, holds_there}
use Rattle.ring_safety.proofs.Most.{most_is}
use Rattle.ring_safety.proofs.Moves.{AllMoved, AllNew, has_given}
use Rattle.run_facts.proofs.Orderly.{Orderly}
use Rattle.cold_start.specs.Lives.{Comes, Again, Lives, ValidLives, lives_run, lives_world, one_life, this_life, whole_after}
use Rattle.cold_start.proofs.Facts.{orderly_life, orderly_lives, reads_life, reads_lives}
use Rattle.cold_start.proofs.OneLife.{life_one, run_before, run_one, valid_before, valid_one, whole_one, world_one}
use Rattle.ring_safety.proofs.Tales.{Tale, tale_of}
use Rattle.ring_safety.specs.Lives.{LivesAreSafe, LivesExclude, LivesHaveOneHeir, LivesKeepPlaces, LivesLeaveBeforeTakeOver}

-- each report of a list

moved_at : (first : Who) (newer : ℕ) (t : Told) (x : Who) (r : Report) (before : Told) → AllMoved first t → drop newer t ≡ (x, r) ∷ before →
    TakesFrom x r (place_of first before)
moved_at first zero [] x r before all h = absurd (cc (h))
moved_at first (suc newer) [] x r before all h = absurd (cc (h))
moved_at first zero (e ∷ t) x r before all h =
    let head : e ≡ (x, r) = cc (h) in
    let rest : t ≡ before = cc (h) in
    subst (λ (z : (Who × Report) × Told). TakesFrom z.0.0 z.0.1 (place_of first z.1)) (λ i. (head i, rest i)) all.0
moved_at first (suc newer) (e ∷ t) x r before all h = moved_at first newer t x r before all.1 h

new_at : (newer number : ℕ) (t : Told) (x : Who) (r : Report) (before : Told) → AllNew t → drop newer t ≡ (x, r) ∷ before →
    gave_number x number x r ≡ true → has_given x number before ≡ false
new_at zero number [] x r before all h = absurd (cc (h))
new_at (suc newer) number [] x r before all h = absurd (cc (h))
new_at zero number (e ∷ t) x r before all h =
    let head : e ≡ (x, r) = cc (h) in
    let rest : t ≡ before = cc (h) in
    subst (λ (z : (Who × Report) × Told). gave_number z.0.0 number z.0.0 z.0.1 ≡ true → has_given z.0.0 number z.1 ≡ false) (λ i. (head i, rest i)) (all.0 number)
new_at (suc newer) number (e ∷ t) x r before all h = new_at newer number t x r before all.1 h

-- the ring's points on the machine
a_point : (p : ℕ) → p < 2 ^ 64 → is_point p ≡ true
unfolding is_point
a_point p h = lt-ltb p (2 ^ 64) h

module _ (a : Upper) (stays : StaysAbove a) (is_frame : List ℕ → Bool) (c : FabricConfig) (sound : IsSound c) where
  after : (l : Lives) → ValidLives a is_frame c l → Followed c (lives_world a c l) (tale_of a c l)
  after l valid = followed a stays is_frame c (sound_machine c sound) l valid

  holder : (l : Lives) → ValidLives a is_frame c l → (x : Who) (p : ℕ) → Holds (lives_run a c l) x p → (m : machine.World) →
      Follows c (lives_world a c l) (tale_of a c l) m →
      machine.Holds (machine_of c) m x p
  holder l valid x p k m f =
      holds_there c (lives_world a c l) (tale_of a c l) m x k.owned p f
      (seen c (lives_world a c l) (lives_run a c l) x k.owned k.reading (orderly_lives a stays c l) (reads_lives a stays c l x k.reading k.runs) k.own k.below)
      k.has

  one : (l : Lives) → ValidLives a is_frame c l → (p : ℕ) (x y : Who) → Holds (lives_run a c l) x p → Holds (lives_run a c l) y p → x ≡ y
  one l valid p x y j k =
      let m = after l valid in
      one_holder m.follows.inv x y p (holder l valid x p j m.world m.follows) (holder l valid y p k m.world m.follows)

  pub ring_safe : (l : Lives) → ValidLives a is_frame c l → RingSafe (lives_run a c l)
  ring_safe l valid = record {
    one_holder = λ ago p x y j k.
        one (drop ago l) (valid_before a c is_frame ago l valid) p x y
        (subst (λ r. Holds r x p) (run_before a c ago l) j) (subst (λ r. Holds r y p) (run_before a c ago l) k);
  }

  over : (l : Lives) → ValidLives a is_frame c l → (p : ℕ) (x : Who) → was_taken_over x (told (lives_run a c l)) ≡ true → Holds (lives_run a c l) x p → ⊥
  over l valid p x told_so k =
      let m = after l valid in
      let dead = m.follows.over x told_so in
      dead.not_live (holder l valid x p k m.world m.follows).live

  pub taken_after_leave : (l : Lives) → ValidLives a is_frame c l → TakenAfterLeave (lives_run a c l)
  taken_after_leave l valid = record {
    holds_nothing = λ ago p x told_so k.
        over (drop ago l) (valid_before a c is_frame ago l valid) p x
        (subst (λ r. was_taken_over x (told r) ≡ true) (run_before a c ago l) told_so) (subst (λ r. Holds r x p) (run_before a c ago l) k);
  }

  -- a live instance's points are exactly those that are placed with it
  exactly : (l : Lives) → ValidLives a is_frame c l → (p : ℕ) (x : Who) (o : Owned) → IsLive (this_life a c l) x o → p < 2 ^ 64 →
      (in_ranges p o.ranges ≡ true → place_of (whole_after c l) (told (this_life a c l)) p ≡ With x) ×
      (place_of (whole_after c l) (told (this_life a c l)) p ≡ With x → in_ranges p o.ranges ≡ true)
  exactly l valid p x o k lt = from_machine m.follows lives_there
    where
      m : Followed c (lives_world a c l) (tale_of a c l)
      m = after l valid

      own : Orderly c (lives_world a c l) (this_life a c l)
      own = orderly_life a stays c is_frame l valid

      s : Seen c (lives_world a c l) x o
      s = seen c (lives_world a c l) (this_life a c l) x o k.reading own (reads_life a stays c is_frame l valid x k.reading k.runs) k.own k.below

      not_left : is_left s.state.node.ring.phase ≡ false
      not_left = sym (own.left s.number s.state s.here) ∙ (ap (λ y. has_left y (told (this_life a c l))) s.name ∙ k.stays)

      lives_there : LivesThere c m.world x o
      lives_there = lives c (lives_world a c l) (tale_of a c l) m.world x o m.follows s not_left

      from_machine : Follows c (lives_world a c l) (tale_of a c l) m.world → LivesThere c m.world x o →
          (in_ranges p o.ranges ≡ true → place_of (whole_after c l) (told (this_life a c l)) p ≡ With x) ×
          (place_of (whole_after c l) (told (this_life a c l)) p ≡ With x → in_ranges p o.ranges ≡ true)
      from_machine f live = (
        λ has. f.placed p ∙ ap (moves.place_of (whole_after c l)) (f.inv.owned x p live.live (live.owns p ∙ has)),
        λ placed. sym (live.owns p) ∙ f.inv.exact x p live.live (with_x (m.world.place p) refl (sym (f.placed p) ∙ placed)),
      )
        where
          with_x : (place : machine.Place) → m.world.place p ≡ place → moves.place_of (whole_after c l) place ≡ With x →
              m.world.place p ≡ machine.At x
          with_x (machine.At y) e g = let same : y ≡ x = cc (g) in e ∙ ap machine.At same
          with_x (machine.InFlight y z number) e g = absurd (cc (g))
          with_x machine.Outside e g = absurd (f.inv.inside p (a_point p lt) e)

  -- nobody is live where nothing was seen
  none_live : (x : Who) (o : Owned) → IsLive [] x o → ⊥
  none_live x o k = let own = k.own in cc (own)

  abbrev Exactly : Who → Run → ℕ → Who → Owned → Type 0
  Exactly whole run p x o =
      (in_ranges p o.ranges ≡ true → place_of whole (told run) p ≡ With x) × (place_of whole (told run) p ≡ With x → in_ranges p o.ranges ≡ true)

  -- a moment of the present life is one of an earlier row with the same life
  exactly_then : (ago : ℕ) (l : Lives) → ValidLives a is_frame c l → (p : ℕ) (x : Who) (o : Owned) → IsLive (drop ago (this_life a c l)) x o → p < 2 ^ 64 →
      Exactly (whole_after c l) (drop ago (this_life a c l)) p x o
  exactly_then zero l valid p x o k lt = exactly l valid p x o k lt
  exactly_then (suc ago) [] valid p x o k lt = absurd (none_live x o k)
  exactly_then (suc ago) ((line, Comes e) ∷ l) valid p x o k lt = exactly_then ago l valid.0 p x o k lt
  exactly_then (suc ago) ((line, Again whole) ∷ l) valid p x o k lt = absurd (none_live x o k)

  pub place_kept : (l : Lives) → ValidLives a is_frame c l → PlaceKept (whole_after c l) (this_life a c l)
  place_kept l valid = record {
    owned = λ ago p x o k lt. exactly_then ago l valid p x o k lt;
    moves = λ newer x r before e. moved_at (whole_after c l) newer (told (this_life a c l)) x r before (after l valid).follows.moved e;
    numbers = λ newer number x r before e g. new_at newer number (told (this_life a c l)) x r before (after l valid).follows.new e g;
  }

  -- the machine sent each answer

  answer_sent : {w : World a} {t : Tale} (m : machine.World) → Follows c w t m → (arbiter : ℕ) (x y : Who) (r : Ruling) →
      IsMember (answer_of arbiter x y r) w.frames →
      IsMember (Ruled arbiter x y r) m.sent
  answer_sent m f arbiter x y r k = subst (λ n. IsMember (Ruled n x y r) m.sent) number (f.frames (answer_of arbiter x y r) k).posted.image
    where
      number : (32768 + arbiter) - 32768 ≡ arbiter
      number = omega arith

  answered : {w : World a} {t : Tale} (m : machine.World) → Follows c w t m → (x y : Who) → MajorityAnswered c w.frames x y →
      AnsweredBy (machine_of c) m.sent x y
  answered m f x y k = record {
    by = k.by;
    answers = λ arbiter h.
        ⊎_elim (λ g. inl (answer_sent m f arbiter x y Granted g)) (λ g. inr (answer_sent m f arbiter x y Taken g)) (k.answers arbiter h);
    most = most_is c sound k.by ∙ k.most;
  }

  told_of : {w : World a} {t : Tale} (m : machine.World) → Follows c w t m → (arbiter : ℕ) (y : Who) (round : ℕ) (x : Who) →
      answers.Tells w.frames arbiter y round x → Tells m.sent arbiter y round x
  told_of m f arbiter y round x (answers.by_kept to k) =
      by_kept (subst (λ n. IsMember (Kept n y round x) m.sent) number (f.frames (record { from = arbiter_who arbiter; to = to; body = body.Kept y round x }) k).posted.image)
    where
      number : (32768 + arbiter) - 32768 ≡ arbiter
      number = omega arith
  told_of m f arbiter y round x (answers.by_grant one k) = by_grant one (answer_sent m f arbiter x y Granted k)

  heir_by : {w : World a} {t : Tale} (m : machine.World) → Follows c w t m → (x y : Who) → MajorityKept c w.frames x y →
      HeirBy (machine_of c) m.sent x y
  heir_by m f x y k = record {
    round = k.round;
    kept = record { by = k.by; tells = λ arbiter h. told_of m f arbiter y k.round x (k.tells arbiter h); most = most_is c sound k.by ∙ k.most };
  }

  pub exclude : (l : Lives) → ValidLives a is_frame c l → (x y : Who) → MajorityAnswered c (lives_world a c l).frames x y →
      MajorityAnswered c (lives_world a c l).frames y x → ⊥
  exclude l valid x y j k =
      let m = after l valid in
      no_crossing m.follows.inv x y (answered m.world m.follows x y j) (answered m.world m.follows y x k)

  pub unique : (l : Lives) → ValidLives a is_frame c l → (x y victim : Who) → MajorityKept c (lives_world a c l).frames x victim →
      MajorityKept c (lives_world a c l).frames y victim → x ≡ y
  unique l valid x y victim j k =
      let m = after l valid in
      one_heir m.follows.inv x y victim (heir_by m.world m.follows x victim j) (heir_by m.world m.follows y victim k)

-- over all lives

module _ (a : Upper) (stays : StaysAbove a) where
  pub lives_are_safe_lem : LivesAreSafe a
  lives_are_safe_lem is_frame c l sound valid = ring_safe a stays is_frame c sound l valid

  pub lives_leave_lem : LivesLeaveBeforeTakeOver a
  lives_leave_lem is_frame c l sound valid = taken_after_leave a stays is_frame c sound l valid

  pub lives_keep_places_lem : LivesKeepPlaces a
  lives_keep_places_lem is_frame c l sound valid = place_kept a stays is_frame c sound l valid

  pub lives_exclude_lem : LivesExclude a
  lives_exclude_lem is_frame c l sound valid = exclude a stays is_frame c sound l valid

  pub lives_one_heir_lem : LivesHaveOneHeir a
  lives_one_heir_lem is_frame c l sound valid = unique a stays is_frame c sound l valid

-- of one life

module _ (a : Upper) (stays : StaysAbove a) where
  pub ring_is_safe_lem : RingIsSafe a
  ring_is_safe_lem is_frame c h sound valid =
      subst RingSafe (run_one a c h) (lives_are_safe_lem a stays is_frame c (one_life h) sound (valid_one a c is_frame h valid))

  pub leaves_before_take_over_lem : LeavesBeforeTakeOver a
  leaves_before_take_over_lem is_frame c h sound valid =
      subst TakenAfterLeave (run_one a c h) (lives_leave_lem a stays is_frame c (one_life h) sound (valid_one a c is_frame h valid))

  pub places_are_kept_lem : PlacesAreKept a
  places_are_kept_lem is_frame c h sound valid =
      subst (λ (z : Who × Run). PlaceKept z.0 z.1) (λ i. (whole_one a c h i, life_one a c h i))
      (lives_keep_places_lem a stays is_frame c (one_life h) sound (valid_one a c is_frame h valid))

  pub answers_exclude_lem : AnswersExcludeAlways a
  answers_exclude_lem is_frame c h sound valid =
      subst (λ (w : World a). (x y : Who) → MajorityAnswered c w.frames x y → MajorityAnswered c w.frames y x → ⊥) (world_one a c h)
      (lives_exclude_lem a stays is_frame c (one_life h) sound (valid_one a c is_frame h valid))

  pub one_heir_lem : OneHeirAlways a
  one_heir_lem is_frame c h sound valid =
      subst (λ (w : World a). (x y victim : Who) → MajorityKept c w.frames x victim → MajorityKept c w.frames y victim → x ≡ y) (world_one a c h)
      (lives_one_heir_lem a stays is_frame c (one_life h) sound (valid_one a c is_frame h valid))
