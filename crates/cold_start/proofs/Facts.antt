-- Facts of every row of lives: what was told last, who runs, and the tables of arbitrators.
use Rattle.std.specs.Prelude.{map}
use Rattle.std.proofs.Common.{◌≡◌, ℕ, Bool, true, List, [], ◌∷◌, Some, refl, sym, ap, ◌∙◌}
use Rattle.fabric_lemmas.proofs.Maps.{rises-put}
use Rattle.fabric_lemmas.specs.Maps.{at, rises}
use Rattle.fabric_terms.specs.declared.config.FabricConfig.{FabricConfig}
use Rattle.fabric_terms.specs.Runs.{Run, clocks_of, reading_of}
use Rattle.ring_points.specs.declared.who.Who.{Who}
use Rattle.run_facts.proofs.Clocks.{Reads, reads_in, rising_cases}
use Rattle.run_facts.proofs.Orderly.{Orderly, begins_with, orderly_cases}
use Rattle.run_facts.proofs.Tables.{Tabled, node_tabled, tabled_cases}
use Rattle.world_rules.specs.Above.{StaysAbove}
use Rattle.world_rules.specs.Nodes.{NodeState}
use Rattle.world_rules.specs.Runs.{moment_of}
use Rattle.world_rules.specs.Uppers.{Upper, Did}
use Rattle.world_rules.specs.Worlds.{World, Running, Stepped, clocks_in, kept_of}
use Rattle.cold_start.specs.Lives.{Comes, Again, Lives, ValidLives, lives_run, lives_world, this_life, whole_after}
use Rattle.world_rules.specs.Starts.{node_begun_in}
use Rattle.run_facts.proofs.Starts.{begun_in_accuses, begun_in_boots, begun_in_spent, begun_in_told}
use Rattle.cold_start.proofs.Steps.{life_cases}

module _ (a : Upper) (stays : StaysAbove a) (c : FabricConfig) where
  abbrev After : ℕ → Run → Stepped a → Type 0
  After line run st = Orderly c st.world (moment_of {a = a} line st ∷ run)

  -- who runs under each number, and what it told
  pub orderly_lives : (l : Lives) → Orderly c (lives_world a c l) (lives_run a c l)
  orderly_lives [] = record {
    name = λ node s there. absurd (cc (there));
    counted = λ node s there. absurd (cc (there));
    own = λ node s there. absurd (cc (there));
    left = λ node s there. absurd (cc (there));
    fresh = λ x lt. refl;
  }
  orderly_lives ((line, Comes e) ∷ l) =
      let w : World a = lives_world a c l in
      let o = orderly_lives l in
      life_cases a (whole_after c l) c w (After line (lives_run a c l)) e (λ no. orderly_cases a c stays line (lives_run a c l) w o e)
      (λ node reading h.
      begins_with a c stays line (lives_run a c l) w o node reading (node_begun_in a (whole_after c l) c node (kept_of w node))
      (begun_in_told a (whole_after c l) c node (kept_of w node)) (begun_in_boots a (whole_after c l) c node (kept_of w node))
      (begun_in_spent a (whole_after c l) c node (kept_of w node)))
  orderly_lives ((line, Again whole) ∷ l) =
      let o = orderly_lives l in record { name = o.name; counted = o.counted; own = o.own; left = o.left; fresh = o.fresh }

  -- the running nodes rise by their numbers
  pub rising_lives : (l : Lives) → rises (lives_world a c l).nodes ≡ true
  rising_lives [] = refl
  rising_lives ((line, Comes e) ∷ l) =
      let w : World a = lives_world a c l in
      life_cases a (whole_after c l) c w (λ st. rises st.world.nodes ≡ true) e (λ no. rising_cases a c w e (rising_lives l))
      (λ node reading h.
      let d : Did (NodeState a) = node_begun_in a (whole_after c l) c node (kept_of w node) in
      rises-put node (record { node = d.state; reading = reading; pairs = (w.time, reading) ∷ [] }) w.nodes (rising_lives l))
  rising_lives ((line, Again whole) ∷ l) = rising_lives l

  clocks_lives : (l : Lives) → clocks_of (lives_run a c l) ≡ clocks_in (lives_world a c l)
  clocks_lives [] = refl
  clocks_lives (e ∷ l) = refl

  -- an instance with a reading runs
  pub reads_lives : (l : Lives) (x : Who) (reading : ℕ) → reading_of x (clocks_of (lives_run a c l)) ≡ Some reading →
      Reads (lives_world a c l).nodes x reading
  reads_lives l x reading r =
      reads_in {a = a} 0 (lives_world a c l).nodes x reading (rising_lives l) (sym (ap (reading_of x) (clocks_lives l)) ∙ r)

  -- a running arbitrator's table is that of its synced records
  pub tabled_lives : (is_frame : List ℕ → Bool) (l : Lives) → ValidLives a is_frame c l → Tabled (lives_world a c l)
  tabled_lives is_frame [] valid = λ arbiter s there. absurd (cc (there))
  tabled_lives is_frame ((line, Comes e) ∷ l) valid =
      let w : World a = lives_world a c l in
      let before = tabled_lives is_frame l valid.0 in
      life_cases a (whole_after c l) c w (λ st. Tabled st.world) e (λ no. tabled_cases a stays c w before is_frame e valid.1)
      (λ node reading h.
      node_tabled a stays c w before node reading ((w.time, reading) ∷ []) (node_begun_in a (whole_after c l) c node (kept_of w node))
      (λ z. begun_in_accuses a (whole_after c l) c node (kept_of w node) z))
  tabled_lives is_frame ((line, Again whole) ∷ l) valid = tabled_lives is_frame l valid.0

  -- The same of the present life alone: when it began, nobody ran.

  pub orderly_life : (is_frame : List ℕ → Bool) (l : Lives) → ValidLives a is_frame c l → Orderly c (lives_world a c l) (this_life a c l)
  orderly_life is_frame [] valid = orderly_lives []
  orderly_life is_frame ((line, Comes e) ∷ l) valid =
      let w : World a = lives_world a c l in
      let o = orderly_life is_frame l valid.0 in
      life_cases a (whole_after c l) c w (After line (this_life a c l)) e (λ no. orderly_cases a c stays line (this_life a c l) w o e)
      (λ node reading h.
      begins_with a c stays line (this_life a c l) w o node reading (node_begun_in a (whole_after c l) c node (kept_of w node))
      (begun_in_told a (whole_after c l) c node (kept_of w node)) (begun_in_boots a (whole_after c l) c node (kept_of w node))
      (begun_in_spent a (whole_after c l) c node (kept_of w node)))
  orderly_life is_frame ((line, Again whole) ∷ l) valid = record {
    name = λ node s there. absurd (nobody node s there);
    counted = λ node s there. absurd (nobody node s there);
    own = λ node s there. absurd (nobody node s there);
    left = λ node s there. absurd (nobody node s there);
    fresh = λ x lt. refl;
  }
    where
      nobody : (node : ℕ) (s : Running a) → at node (lives_world a c l).nodes ≡ Some s → ⊥
      nobody node s there = let none = ap (λ (es : List (ℕ × Running a)). at node es) valid.1.over in cc (there, none)

  clocks_life : (is_frame : List ℕ → Bool) (l : Lives) → ValidLives a is_frame c l → clocks_of (this_life a c l) ≡ clocks_in (lives_world a c l)
  clocks_life is_frame [] valid = refl
  clocks_life is_frame ((line, Comes e) ∷ l) valid = refl
  clocks_life is_frame ((line, Again whole) ∷ l) valid =
      sym (ap (λ (es : List (ℕ × Running a)). map (λ (n : ℕ × Running a). (n.1.node.ring.me, n.1.reading)) es) valid.1.over)

  pub reads_life : (is_frame : List ℕ → Bool) (l : Lives) → ValidLives a is_frame c l → (x : Who) (reading : ℕ) →
      reading_of x (clocks_of (this_life a c l)) ≡ Some reading → Reads (lives_world a c l).nodes x reading
  reads_life is_frame l valid x reading r =
      reads_in {a = a} 0 (lives_world a c l).nodes x reading (rising_lives l) (sym (ap (reading_of x) (clocks_life is_frame l valid)) ∙ r)
