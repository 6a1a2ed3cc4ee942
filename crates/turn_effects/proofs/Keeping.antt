-- Records that are kept, one after another.
use Rattle.std.proofs.Common.{arith, ◌≡◌, ◌≢◌, ◌≤◌, ◌<◌, ◌+◌, ℕ, List, [], ◌∷◌, ◌++◌, length, take, map, Result, Err, refl, ap, sym, subst, ◌∙◌, inl, inr, ⊎_elim}
use Rattle.std.specs.Prelude.{slice_index_or}
use Rattle.std.proofs.lemmas.List.{map-append}
use Rattle.edge_io.specs.Edge.{Grew, HasRisen}
use Rattle.edge_io.specs.declared.refusal.EdgeRefusal.{EdgeRefusal}
use Rattle.edge_io.specs.declared.refusal.EdgeRefusal.TheVariants as refusal
use Rattle.fabric_terms.specs.declared.record.Record.{Record}
use Rattle.keep_log.specs.Spellings.{spelling}
use Rattle.edge_io.specs.Told.{Told, Keeps}
use Rattle.turn_effects.specs.Carried.{KeptMore, KeepsAll}
use Rattle.turn_rules.specs.declared.stop_cause.StopCause.{StopCause}
use Rattle.turn_rules.specs.declared.stop_cause.StopCause.TheVariants as stop
use Rattle.turn_effects.proofs.Growing.{grew_on, grew_none, grew_or_none, made_next, made_part}

kept_rest : (a b c : Told) → b ≡ record a { kept = b.kept; keep_faults = b.keep_faults } → c ≡ record b { kept = c.kept; keep_faults = c.keep_faults } → c ≡ record a { kept = c.kept; keep_faults = c.keep_faults }
kept_rest a b c p q = q ∙ ap (λ (t : Told). record t { kept = c.kept; keep_faults = c.keep_faults }) p

pub kept_on : (actor : ℕ) (records more : List (List ℕ)) (a b c : Told) → KeptMore actor records a b → Grew (b.kept actor) (c.kept actor) more → ((other : ℕ) → other ≢ actor → c.kept other ≡ b.kept other) → b.keep_faults ≤ c.keep_faults → c ≡ record b { kept = c.kept; keep_faults = c.keep_faults } → KeptMore actor (records ++ more) a c
kept_on actor records more a b c k own others later rest = record {
  own = grew_on (a.kept actor) (b.kept actor) (c.kept actor) records more k.own own;
  others = λ other differ. others other differ ∙ k.others other differ;
  later = omega (arith, k.later, later);
  rest = kept_rest a b c k.rest rest;
}

pub nothing_kept : (actor : ℕ) (a : Told) → KeptMore actor [] a a
nothing_kept actor a = record { own = grew_none (a.kept actor) (a.kept actor) refl; others = λ other differ. refl; later = omega arith; rest = refl }

pub none_to_keep : (actor : ℕ) (records : List Record) (a : Told) → length records ≡ 0 → KeptMore actor (map spelling records) a a
none_to_keep actor [] a e = nothing_kept actor a
none_to_keep actor (r ∷ rs) a e = absurd (omega arith)

pub kept_then : (actor : ℕ) (records more : List (List ℕ)) (a b c : Told) → KeptMore actor records a b → KeptMore actor more b c → KeptMore actor (records ++ more) a c
kept_then actor records more a b c p q = kept_on actor records more a b c p q.own q.others q.later q.rest

-- One record.

kept_maybe : (actor : ℕ) (bytes : List ℕ) (a b : Told) (r : EdgeRefusal) → Keeps actor bytes a (Err r) b → (n : ℕ) × KeptMore actor (take n (bytes ∷ [])) a b
kept_maybe actor bytes a b r k =
    ⊎_elim
    (λ (none : Grew (a.kept actor) (b.kept actor) []). (0, record { own = none; others = k.others; later = k.cause.later; rest = k.rest }))
    (λ (grew : Grew (a.kept actor) (b.kept actor) (bytes ∷ [])). (1, record { own = grew; others = k.others; later = k.cause.later; rest = k.rest }))
    (grew_or_none (a.kept actor) (b.kept actor) (bytes ∷ []) k.err)

pub kept_short : (actor : ℕ) (bytes one : List ℕ) (a b : Told) (r : EdgeRefusal) → bytes ≡ one → Keeps actor bytes a (Err r) b → (n : ℕ) × KeptMore actor (take n (one ∷ [])) a b
kept_short actor bytes one a b r e k = subst (λ (l : List ℕ). (n : ℕ) × KeptMore actor (take n (l ∷ [])) a b) e (kept_maybe actor bytes a b r k)

pub kept_failed : (actor : ℕ) (bytes one : List ℕ) (a b : Told) (r : EdgeRefusal) → bytes ≡ one → r ≡ refusal.Failed → Keeps actor bytes a (Err r) b →
    (n : ℕ) × (KeptMore actor (take n (one ∷ [])) a b × HasRisen a.keep_faults b.keep_faults)
kept_failed actor bytes one a b r e f k =
    let s = kept_short actor bytes one a b r e k in
    let g : EdgeRefusal → Result (Unit {0}) EdgeRefusal = λ x. Err x in
    (s.0, (s.1, k.cause.failed (ap g f)))

-- One of these more.

module _ (actor : ℕ) (xs : List Record) (i : ℕ) (x : Record) (a b c : Told) (h : i < length xs) (e : x ≡ slice_index_or xs i x)
    (k : KeptMore actor (map spelling (take i xs)) a b) where
  pub kept_item : KeptMore actor (spelling x ∷ []) b c → KeptMore actor (map spelling (take (i + 1) xs)) a c
  kept_item q =
      subst (λ (l : List (List ℕ)). KeptMore actor l a c) (sym (made_next (map spelling) (map-append spelling) xs i x h e))
      (kept_then actor (map spelling (take i xs)) (spelling x ∷ []) a b c k q)

  front : (n : ℕ) → KeptMore actor (take n (spelling x ∷ [])) b c → (m : ℕ) × KeptMore actor (take m (map spelling xs)) a c
  front n q =
      let p = made_part (map spelling) (map-append spelling) xs i x h e n in
      (p.0, subst (λ (l : List (List ℕ)). KeptMore actor l a c) (sym p.1) (kept_then actor (map spelling (take i xs)) (take n (spelling x ∷ [])) a b c k q))

  -- and there it ended
  pub kept_until : (r : StopCause) → KeepsAll actor (spelling x ∷ []) b c (Err r) → KeepsAll actor (map spelling xs) a c (Err r)
  kept_until stop.OutOfMemory q = front q.0 q.1
  kept_until stop.KeepFault q =
      let p = front q.0 q.1.0 in
      (p.0, (p.1, ⊎_elim (λ (r : b.keep_faults < c.keep_faults). inl (omega (arith, k.later))) (λ full. inr full) q.1.1))
  kept_until stop.WriteFault q = absurd q
  kept_until stop.LinkFault q = absurd q
  kept_until (stop.ClockBack y z) q = absurd q
  kept_until (stop.Left why) q = absurd q
  kept_until (stop.BadKeep n) q = absurd q
  kept_until stop.TableFull q = absurd q
