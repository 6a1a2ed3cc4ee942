-- From the moment on at which an instance promised something, its links last as long, as long as it runs.
use Rattle.std.specs.Prelude.{drop}
use Rattle.std.proofs.Common.{◌≡◌, ℕ, zero, suc, ◌+◌, ◌≤◌, Bool, true, false, cond, ◌||◌, List, [], ◌∷◌, Option, Some, None, refl, sym, ap, ◌∙◌, subst, inr, arith}
use Rattle.std.specs.List.{list_any}
use Rattle.cold_start.proofs.OneLife.{valid_before}
use Rattle.run_facts.proofs.Starts.{begun_in_spent, begun_in_told}
use Rattle.cold_start.specs.Lives.{Comes, Again, Lives, ValidLives, lives_run, lives_world, whole_after}
use Rattle.world_rules.specs.Starts.{node_begun_in}
use Rattle.fabric_lemmas.specs.Maps.{at}
use Rattle.fabric_lemmas.specs.Members.{IsMember}
use Rattle.fabric_terms.specs.declared.config.FabricConfig.{FabricConfig}
use Rattle.fabric_terms.specs.declared.record.Record.{Record}
use Rattle.fabric_terms.specs.Places.{tells_leave}
use Rattle.fabric_terms.specs.Sound.{IsSound}
use Rattle.join_phases.specs.Phases.{is_left}
use Rattle.ring_points.specs.declared.who.Who.{Who}
use Rattle.ring_points.specs.Whos.{node_instance}
use Rattle.ring_rules.specs.declared.input.Input.{Input}
use Rattle.ring_rules.specs.declared.link.Link.{Link}
use Rattle.ring_rules.specs.Rings.{Slots}
use Rattle.ring_rules.specs.Slots.{fence_if, fence_of, guards, slot_at}
use Rattle.run_facts.proofs.Steps.{Begun, node_acted-told}
use Rattle.world_rules.specs.Above.{StaysAbove}
use Rattle.world_rules.specs.Nodes.{NodeState, boots_of, instance_begun, is_spent, node_step}
use Rattle.world_rules.specs.Uppers.{Upper, Did}
use Rattle.world_rules.specs.Worlds.{World, Running, kept_of}
use Rattle.span_safety.specs.Fences.{NoSooner}
use Rattle.span_safety.specs.Held.{Owns, promised}
use Rattle.span_safety.specs.Lengths.{OneLength, begins, gives_length}
use Rattle.span_safety.proofs.Became.{Became, acted, after_step, became, began, showed, stayed}
use Rattle.span_safety.proofs.Clocks.{Timed, timed}
use Rattle.span_safety.proofs.Counted.{boots_before}
use Rattle.span_safety.proofs.Lasting.{AllLast, all_at, lasts_by_fence}
use Rattle.span_safety.proofs.Lengths.{Since, level, node_lasts, since}
use Rattle.span_safety.proofs.Standing.{Stands, standing}

-- the fence, if there is one, is no later
abbrev NoLater : ℕ → Option ℕ → Type 0
NoLater most None = Unit {0}
NoLater most (Some fence) = fence ≤ most

fence_within : (answer most : ℕ) (slots : Slots) → ((i : ℕ) (l : Link) → slot_at i slots ≡ Some l → guards l.state ≡ true → l.until + answer ≤ most) →
    NoLater most (fence_of answer slots)
fence_within answer most [] each = tt
fence_within answer most (None ∷ ks) each = fence_within answer most ks (λ i l e. each (suc i) l e)
fence_within answer most (Some k ∷ ks) each =
    go (guards k.state) (each zero k refl) (fence_of answer ks) (fence_within answer most ks (λ i l e. each (suc i) l e))
  where
    go : (b : Bool) → (b ≡ true → k.until + answer ≤ most) → (o : Option ℕ) → NoLater most o → NoLater most (fence_if b (k.until + answer) o)
    go true h None n = h refl
    go true h (Some other) n = let le = h refl in omega arith
    go false h o n = n

-- what is promised is no later than a first link would reach
promised_within : (c : FabricConfig) (reading : ℕ) (fence : Option ℕ) → NoLater (reading + c.lease + c.answer) fence →
    promised c reading fence ≤ reading + c.lease + c.answer
promised_within c reading None h = omega arith
promised_within c reading (Some fence) h = h

promised_lasts : (c : FabricConfig) (reading : ℕ) (fence : Option ℕ) → NoSooner (promised c reading fence) fence
promised_lasts c reading None = tt
promised_lasts c reading (Some fence) = omega arith

module _ (a : Upper) (stays : StaysAbove a) (is_frame : List ℕ → Bool) (c : FabricConfig) (sound : IsSound c) (x : Who) (p before : ℕ) (fence : Option ℕ) where
  abbrev Least : ℕ
  Least = promised c before fence

  -- its clock has shown the reading of that time, and its links last
  pub record Keeping (time : ℕ) (s : Running a) : Type 0 where
    pub read : IsMember (time, before) s.pairs
    pub lasts : AllLast c.lease c.answer Least s.node.ring.slots
    pub soon : Least ≤ before + c.lease + c.answer

  first : (l : Lives) → ValidLives a is_frame c l → OneLength a c x.actor l → Owns (lives_run a c l) x p before fence → (s : Running a) →
      at x.actor (lives_world a c l).nodes ≡ Some s → Keeping (lives_world a c l).time s
  first l valid one o s there = record {
    read = subst (λ n. IsMember (w.time, n) s.pairs) reads t.present;
    lasts = lasts_by_fence c.lease c.answer Least s.node.ring.slots (λ i k e. (all_at c.lease c.answer 0 s.node.ring.slots i k even e).0)
        (subst (NoSooner Least) (sym fenced) (promised_lasts c before fence));
    soon = promised_within c before fence (subst (NoLater (before + c.lease + c.answer)) fenced (fence_within c.answer (before + c.lease + c.answer) s.node.ring.slots each));
  }
    where
      w : World a
      w = lives_world a c l

      k : Stands c (lives_world a c l) x before fence
      k = standing a stays is_frame c sound l valid x p before fence o

      same : k.state ≡ s
      same = let here = k.here in cc (here, there)

      reads : s.reading ≡ before
      reads = sym (ap (λ (z : Running a). z.reading) same) ∙ k.reads

      fenced : fence_of c.answer s.node.ring.slots ≡ fence
      fenced = sym (ap (λ (z : Running a). fence_of c.answer z.node.ring.slots) same) ∙ k.fenced

      t : Timed c (lives_world a c l) s
      t = timed a stays is_frame c sound l valid x.actor s there (sym (ap (λ (z : Running a). is_left z.node.ring.phase) same) ∙ k.stays)

      even : AllLast c.lease c.answer 0 s.node.ring.slots
      even = level a c x.actor l one s there

      each : (i : ℕ) (k : Link) → slot_at i s.node.ring.slots ≡ Some k → guards k.state ≡ true → k.until + c.answer ≤ before + c.lease + c.answer
      each i k e g =
          let len = (all_at c.lease c.answer 0 s.node.ring.slots i k even e).0 in
          let le = t.leased i k e g in
          omega (arith, reads)

  -- an instance that starts has another name, or has left
  begun_anew : (l : Lives) (reading : ℕ) → x.instance ≤ boots_of (kept_of (lives_world a c l) x.actor) →
      let d : Did (NodeState a) = node_begun_in a (whole_after c l) c x.actor (kept_of (lives_world a c l) x.actor) in
      d.state.ring.me ≡ x → is_left d.state.ring.phase ≡ false → ⊥
  begun_anew l reading counted named left = by_spent (is_spent records) refl
    where
      records : List Record
      records = kept_of (lives_world a c l) x.actor

      b : Begun c (node_instance x.actor (instance_begun (kept_of (lives_world a c l) x.actor)))
          (node_begun_in a (whole_after c l) c x.actor (kept_of (lives_world a c l) x.actor)).state.ring
          (node_begun_in a (whole_after c l) c x.actor (kept_of (lives_world a c l) x.actor)).told
      b = begun_in_told a (whole_after c l) c x.actor (kept_of (lives_world a c l) x.actor)

      by_spent : (t : Bool) → is_spent (kept_of (lives_world a c l) x.actor) ≡ t → ⊥
      by_spent true h =
          let told = begun_in_spent a (whole_after c l) c x.actor (kept_of (lives_world a c l) x.actor) h in
          let e : true ≡ false = sym told ∙ (b.leaves ∙ left) in cc (e)
      by_spent false h =
          let next : instance_begun (kept_of (lives_world a c l) x.actor) ≡ boots_of (kept_of (lives_world a c l) x.actor) + 1 =
          ap (λ t. cond t (boots_of (kept_of (lives_world a c l) x.actor)) (boots_of (kept_of (lives_world a c l) x.actor) + 1)) h in
          let e : instance_begun (kept_of (lives_world a c l) x.actor) ≡ x.instance = sym (ap (λ (z : Who). z.instance) b.name) ∙ ap (λ (z : Who). z.instance) named in
          omega arith

  -- since then, as long as it runs and has not left
  pub keeps_on : (ago : ℕ) (l : Lives) → ValidLives a is_frame c l → OneLength a c x.actor l → Owns (lives_run a c (drop ago l)) x p before fence →
      (s : Running a) → at x.actor (lives_world a c l).nodes ≡ Some s → s.node.ring.me ≡ x → is_left s.node.ring.phase ≡ false →
      Keeping (lives_world a c (drop ago l)).time s
  keeps_on zero l valid one o s there named left = first l valid one o s there
  keeps_on (suc ago) [] valid one o s there named left = absurd (cc (there))
  keeps_on (suc ago) ((line, Again whole) ∷ l) valid one o s there named left =
      absurd (let none = ap (λ (es : List (ℕ × Running a)). at x.actor es) valid.1.over in cc (there, none))
  keeps_on (suc ago) ((line, Comes e) ∷ l) valid one o s there named left =
      go (became a (whole_after c l) c (lives_world a c l) x.actor e s there) (λ k. keeps_on ago l valid.0 k o)
    where
      time : ℕ
      time = (lives_world a c (drop ago l)).time

      -- it has not started since
      past : begins x.actor e ≡ false → Since a c x.actor l e
      past other = since (begins x.actor e) (Since a c x.actor l e) one other

      acts : (i : Input) (r : Running a) → gives_length i ≡ false → at x.actor (lives_world a c l).nodes ≡ Some r → is_left r.node.ring.phase ≡ false →
          Keeping (lives_world a c (drop ago l)).time r → Keeping (lives_world a c (drop ago l)).time (after_step a c i r)
      acts i r plain was stood k =
          let le = ((timed a stays is_frame c sound l valid.0 x.actor r was stood).within (lives_world a c (drop ago l)).time before k.read).readings in
          let reaches = k.soon in
          record { read = k.read; lasts = node_lasts a c Least r.reading i r.node (omega arith) plain k.lasts; soon = k.soon }

      -- who has not left had not left before its step
      stood : (old new told : Bool) → (told || old) ≡ new → new ≡ false → old ≡ false
      stood false new told e h = refl
      stood true new true e h = absurd (let f : true ≡ false = e ∙ h in cc (f))
      stood true new false e h = absurd (let f : true ≡ false = e ∙ h in cc (f))

      go : Became a (whole_after c l) c (lives_world a c l) e x.actor s →
          (OneLength a c x.actor l → (r : Running a) → at x.actor (lives_world a c l).nodes ≡ Some r → r.node.ring.me ≡ x → is_left r.node.ring.phase ≡ false →
          Keeping (lives_world a c (drop ago l)).time r) →
          Keeping (lives_world a c (drop ago l)).time s
      go (stayed other was) again = again (past other).1 s was named left
      go (showed r at_time reading other was is) again =
          let k = again (past other).1 r was (sym (ap (λ (z : Running a). z.node.ring.me) is) ∙ named) (sym (ap (λ (z : Running a). is_left z.node.ring.phase) is) ∙ left) in
          subst (Keeping (lives_world a c (drop ago l)).time) (sym is) (record { read = inr k.read; lasts = k.lasts; soon = k.soon })
      go (acted i r other was calm does is) again =
          let t = node_acted-told a stays c r.reading i r.node in
          let old : is_left r.node.ring.phase ≡ false =
          stood (is_left r.node.ring.phase) (is_left (after_step a c i r).node.ring.phase) (list_any tells_leave (node_step a c r.reading i r.node).told) t.leaves
          (sym (ap (λ (z : Running a). is_left z.node.ring.phase) is) ∙ left) in
          let k = again (past other).1 r was (sym t.name ∙ (sym (ap (λ (z : Running a). z.node.ring.me) is) ∙ named)) old in
          subst (Keeping (lives_world a c (drop ago l)).time) (sym is) (acts i r (calm (past other).0) was old k)
      go (began reading start is) again =
          absurd
          (begun_anew l reading
          (let more = boots_before a c x.actor ago l in
          let stands = (standing a stays is_frame c sound (drop ago l) (valid_before a c is_frame ago l valid.0) x p before fence o).counted in
          omega arith)
          (sym (ap (λ (z : Running a). z.node.ring.me) is) ∙ named) (sym (ap (λ (z : Running a). is_left z.node.ring.phase) is) ∙ left))
