-- The parts of carrying out a step, put together.
use Rattle.std.proofs.Common.{arith, ◌≡◌, ◌≢◌, ℕ, true, false, List, [], ◌∷◌, length, take, map, Option, Result, Ok, Err, refl, ap, sym, subst, ◌∙◌, inl, inr, ⊎_elim}
use Rattle.std.specs.Prelude.{◌==◌, if◌then◌else◌}
use Rattle.std.proofs.lemmas.Bool.Decides.{eqb_tells}
use Rattle.std.proofs.lemmas.List.{take-map, take_all}
use Rattle.edge_io.specs.Edge.{Grew, HasRisen}
use Rattle.edge_io.specs.declared.datagram.Datagram.{Datagram}
use Rattle.edge_io.specs.Told.{Told}
use Rattle.turn_effects.specs.Carried.{KeptMore, KeepsAll, SentMore, SendsAll, WritesAll, CarriedMore, CarriesOut}
use Rattle.turn_rules.specs.Effects.{WroteMore, own_sends, sent_by}
use Rattle.turn_rules.specs.Works.{Post, Work}
use Rattle.turn_rules.specs.declared.stop_cause.StopCause.{StopCause}
use Rattle.turn_rules.specs.declared.stop_cause.StopCause.TheVariants as stop
use Rattle.turn_effects.proofs.Growing.{grew_none}
use Rattle.turn_effects.proofs.Sending.{nothing_sent, sent_along}

pub nothing_written : (a : Told) → WroteMore [] a a
nothing_written a = record { held = grew_none a.held a.held refl; later = omega arith; rest = refl }

kept_by : (actor : ℕ) (records : List (List ℕ)) (a b d : Told) → KeptMore actor records a b → d.kept ≡ b.kept → (x : ℕ) → Grew (a.kept x) (d.kept x) (if actor == x then records else [])
kept_by actor records a b d k e x =
    ⊎_elim
    (λ (same : ((actor == x) ≡ true) × (actor ≡ x)).
    rw same.0 (subst (λ (n : ℕ). Grew (a.kept n) (d.kept n) records) same.1 (subst (λ (f : ℕ → Option (List (List ℕ))). Grew (a.kept actor) (f actor) records) (sym e) k.own)))
    (λ (differ : ((actor == x) ≡ false) × (actor ≢ x)).
    rw differ.0 (grew_none (a.kept x) (d.kept x) (ap (λ (f : ℕ → Option (List (List ℕ))). f x) e ∙ k.others x (λ same. differ.1 (sym same)))))
    (eqb_tells actor x)

pub carried : (actor : ℕ) (records : List (List ℕ)) (posts : List Post) (lines : List ℕ) (a b c d : Told) → KeptMore actor records a b → SentMore (map (sent_by actor) posts) b c → WroteMore lines c d → CarriedMore (record { actor = actor; records = records; posts = posts; lines = lines }) a d
carried actor records posts lines a b c d k s w =
    let kept : d.kept ≡ b.kept = ap (λ (t : Told). t.kept) w.rest ∙ ap (λ (t : Told). t.kept) s.rest in
    let held_b : b.held ≡ a.held = ap (λ (t : Told). t.held) k.rest in
    let held_c : c.held ≡ b.held = ap (λ (t : Told). t.held) s.rest in
    let held : Grew a.held d.held lines = subst (λ (x : Option (List ℕ)). Grew x d.held lines) (held_c ∙ held_b) w.held in
    let sent_a : a.sent ≡ b.sent = sym (ap (λ (t : Told). t.sent) k.rest) in
    let faults_a : a.link_faults ≡ b.link_faults = sym (ap (λ (t : Told). t.link_faults) k.rest) in
    let sent_d : c.sent ≡ d.sent = sym (ap (λ (t : Told). t.sent) w.rest) in
    let faults_d : c.link_faults ≡ d.link_faults = sym (ap (λ (t : Told). t.link_faults) w.rest) in
    let keeper_c : c.keep_faults ≡ b.keep_faults = ap (λ (t : Told). t.keep_faults) s.rest in
    let keeper_d : d.keep_faults ≡ c.keep_faults = ap (λ (t : Told). t.keep_faults) w.rest in
    let sink_b : b.sink_faults ≡ a.sink_faults = ap (λ (t : Told). t.sink_faults) k.rest in
    let sink_c : c.sink_faults ≡ b.sink_faults = ap (λ (t : Told). t.sink_faults) s.rest in
    let falls : d.falls ≡ a.falls = ap (λ (t : Told). t.falls) w.rest ∙ ap (λ (t : Told). t.falls) s.rest ∙ ap (λ (t : Told). t.falls) k.rest in
    record {
      did = record {
        kept = kept_by actor records a b d k kept;
        sent = sent_along (map (sent_by actor) posts) 0 a b c d sent_a faults_a sent_d faults_d s.sent;
        lines = held;
      };
      stays = record {
        loans = ap (λ (t : Told). t.loans) w.rest ∙ ap (λ (t : Told). t.loans) s.rest ∙ ap (λ (t : Told). t.loans) k.rest;
        opened = ap (λ (t : Told). t.opened) w.rest ∙ s.opened ∙ ap (λ (t : Told). t.opened) k.rest;
        keeper = omega (arith, k.later, keeper_c, keeper_d);
        sink = omega (arith, w.later, sink_b, sink_c);
        clock = omega (arith, falls);
      };
      arrivals = λ any. ap (λ (t : Told). t.arrivals any) w.rest ∙ s.arrivals any ∙ ap (λ (t : Told). t.arrivals any) k.rest;
      readings = ap (λ (t : Told). t.readings) w.rest ∙ ap (λ (t : Told). t.readings) s.rest ∙ ap (λ (t : Told). t.readings) k.rest;
      last = ap (λ (t : Told). t.last) w.rest ∙ ap (λ (t : Told). t.last) s.rest ∙ ap (λ (t : Told). t.last) k.rest;
      falls = falls;
    }

all_of : {X : Type 0} (xs : List X) → (n : ℕ) × (xs ≡ take n xs)
all_of xs = (length xs, sym (take_all (length xs) xs (omega arith)))

none_of : {X : Type 0} (xs : List X) → (n : ℕ) × ([] ≡ take n xs)
none_of [] = (0, refl)
none_of (x ∷ xs) = (0, refl)

-- it ended at the lines
pub ended_writing : (s : Work) (a b c d : Told) (r : Result (Unit {0}) StopCause) → KeptMore s.actor s.records a b → SentMore (own_sends s) b c → WritesAll s.lines c d r → CarriesOut s a d r
ended_writing s a b c d (Ok done) k p w = carried s.actor s.records s.posts s.lines a b c d k p w
ended_writing s a b c d (Err stop.OutOfMemory) k p w = (
  record { actor = s.actor; records = s.records; posts = s.posts; lines = take w.0 s.lines },
  (
    record { actor = refl; records = all_of s.records; posts = all_of s.posts; lines = (w.0, refl); kept_first = inr refl; sent_first = inr refl },
    carried s.actor s.records s.posts (take w.0 s.lines) a b c d k p w.1,
  ),
)
ended_writing s a b c d (Err stop.WriteFault) k p w = (
  record { actor = s.actor; records = s.records; posts = s.posts; lines = take w.0 s.lines },
  (
    record { actor = refl; records = all_of s.records; posts = all_of s.posts; lines = (w.0, refl); kept_first = inr refl; sent_first = inr refl },
    carried s.actor s.records s.posts (take w.0 s.lines) a b c d k p w.1.0,
    subst (λ (n : ℕ). HasRisen n d.sink_faults) (ap (λ (t : Told). t.sink_faults) p.rest ∙ ap (λ (t : Told). t.sink_faults) k.rest) w.1.1,
  ),
)
ended_writing s a b c d (Err stop.KeepFault) k p w = absurd w
ended_writing s a b c d (Err stop.LinkFault) k p w = absurd w
ended_writing s a b c d (Err (stop.ClockBack x y)) k p w = absurd w
ended_writing s a b c d (Err (stop.Left why)) k p w = absurd w
ended_writing s a b c d (Err (stop.BadKeep i)) k p w = absurd w
ended_writing s a b c d (Err stop.TableFull) k p w = absurd w

-- it ended at the datagrams
pub ended_sending : (s : Work) (a b c : Told) (r : StopCause) → KeptMore s.actor s.records a b → SendsAll (own_sends s) b c (Err r) → CarriesOut s a c (Err r)
ended_sending s a b c stop.OutOfMemory k p = (
  record { actor = s.actor; records = s.records; posts = take p.0 s.posts; lines = [] },
  (
    record { actor = refl; records = all_of s.records; posts = (p.0, refl); lines = none_of s.lines; kept_first = inr refl; sent_first = inl refl },
    carried s.actor s.records (take p.0 s.posts) [] a b c c k (subst (λ (ds : List Datagram). SentMore ds b c) (take-map (sent_by s.actor) p.0 s.posts) p.1) (nothing_written c),
  ),
)
ended_sending s a b c stop.WriteFault k p = absurd p
ended_sending s a b c stop.KeepFault k p = absurd p
ended_sending s a b c stop.LinkFault k p = absurd p
ended_sending s a b c (stop.ClockBack x y) k p = absurd p
ended_sending s a b c (stop.Left why) k p = absurd p
ended_sending s a b c (stop.BadKeep i) k p = absurd p
ended_sending s a b c stop.TableFull k p = absurd p

-- it ended at the records
pub ended_keeping : (s : Work) (a b : Told) (r : StopCause) → KeepsAll s.actor s.records a b (Err r) → CarriesOut s a b (Err r)
ended_keeping s a b stop.OutOfMemory k = (
  record { actor = s.actor; records = take k.0 s.records; posts = []; lines = [] },
  (
    record { actor = refl; records = (k.0, refl); posts = none_of s.posts; lines = none_of s.lines; kept_first = inl refl; sent_first = inl refl },
    carried s.actor (take k.0 s.records) [] [] a b b b k.1 (nothing_sent b) (nothing_written b),
  ),
)
ended_keeping s a b stop.KeepFault k = (
  record { actor = s.actor; records = take k.0 s.records; posts = []; lines = [] },
  (
    record { actor = refl; records = (k.0, refl); posts = none_of s.posts; lines = none_of s.lines; kept_first = inl refl; sent_first = inl refl },
    carried s.actor (take k.0 s.records) [] [] a b b b k.1.0 (nothing_sent b) (nothing_written b),
    refl,
    refl,
    k.1.1,
  ),
)
ended_keeping s a b stop.WriteFault k = absurd k
ended_keeping s a b stop.LinkFault k = absurd k
ended_keeping s a b (stop.ClockBack x y) k = absurd k
ended_keeping s a b (stop.Left why) k = absurd k
ended_keeping s a b (stop.BadKeep i) k = absurd k
ended_keeping s a b stop.TableFull k = absurd k
