-- An event of which nothing comes to the actor.
use Rattle.std.proofs.Common.{◌≡◌, ℕ, Bool, true, false, List, [], ◌∷◌, ◌++◌, Option, Some, None, refl, ap, sym, subst, ◌∙◌}
use Rattle.std.specs.Prelude.{if◌then◌else◌}
use Rattle.std.proofs.lemmas.List.{append-nil}
use Rattle.client_sessions.specs.Answers.{answered_by, refusal, without_client}
use Rattle.client_sessions.specs.Sessions.{Kept}
use Rattle.client_sessions.specs.Utterances.{Uttered, Utterance}
use Rattle.client_sessions.specs.Watching.{has_place, watched, with_watcher}
use Rattle.client_sessions.specs.declared.watchers.Watcher.{Watcher}
use Rattle.door_io.specs.Clients.{Asks, ClientsTold}
use Rattle.door_io.specs.Doors.{Arrived}
use Rattle.door_io.specs.Doors as door
use Rattle.door_lines.specs.Speakers.{is_parent}
use Rattle.door_lines.specs.declared.asked.Request.{Request}
use Rattle.door_lines.specs.declared.fault.Fault.{Fault}
use Rattle.door_lines.specs.declared.fault.Fault.TheVariants as fault
use Rattle.edge_io.specs.Told.{Told}
use Rattle.fabric_terms.specs.declared.command.Command.{Command}
use Rattle.fabric_turns.specs.Runs.{AtBy, Run}
use Rattle.serve_rules.proofs.Lives.{served_process}
use Rattle.serve_rules.proofs.Reading.{at_once_comes, at_once_leaves, at_once_says, gone_leaves, gone_says, let_go_comes, let_go_leaves, let_go_says, unnamed_comes, unnamed_leaves, unnamed_says}
use Rattle.serve_rules.proofs.Refusals.{refused_says, refused_stays}
use Rattle.serve_rules.proofs.Serving.{serves_as, serves_asks, serves_uttered}
use Rattle.serve_rules.specs.Events.{Advised, Asked, Event, Gone}
use Rattle.serve_rules.specs.Lines.{AtOnce, LetsGo, Line, Refused, line_of, place_line, watch_line}
use Rattle.serve_rules.specs.Lives.{happenings, said_of, served}
use Rattle.serve_rules.specs.Said.{arrived_in, arrived_of}
use Rattle.serve_rules.specs.Served.{IsDue, Served, after_event, bids, command_in, comes_of, happening_of, of_event, text_at_once, with_request}
use Rattle.serve_rules.specs.Services.{actor_of, life_of, speaker_of}
use Rattle.serve_turns.specs.Asking.{watch_request}
use Rattle.serve_turns.specs.Live.{Around, At, Beginning, Keeps, Live, advice_in}
use Rattle.serve_turns.specs.Moves.{Takes, TakesAs, went_well}
use Rattle.serve_turns.specs.Policies.{MovesBySaying}
use Rattle.serve_turns.specs.Telling.{Shows}
use Rattle.turn_rules.specs.Happenings.{Comes, History}
use Rattle.turn_rules.specs.Order.{GoesServed, TurnPosition}
use Rattle.turn_rules.specs.Plans.{Plan}
use Rattle.turn_rules.specs.Process.{Process}
use Rattle.world_rules.specs.Schedules.{command_names}

-- the code has what the definition has, its actor too
pub shows_at : (plan : Plan) (o : Beginning) (b : Around) (l : Live) (es : List Event) (p : TurnPosition) → At plan o b l es p → Shows (served plan o.kept o.sessions es) l
shows_at plan o b l es p at = record {
  keeps = at.keeps;
  members = ap (λ (q : Process). q.members) (served_process plan o.kept o.sessions es) ∙ at.run.stands.members;
  last = ap (λ (q : Process). q.last) (served_process plan o.kept o.sessions es) ∙ at.run.stands.last;
}

-- What has come at the door is answered, and the actor stays as it is.
pub at_quiet : (plan : Plan) (o : Beginning) (a c : Around) (m : ClientsTold) (l l' : Live) (es : List Event) (p : TurnPosition) (e : Event) → At plan o a l es p
    → comes_of plan (served plan o.kept o.sessions es).sessions e.coming ≡ None → IsDue plan (served plan o.kept o.sessions es) e.coming → l.ending ≡ false
    → Asks (arrived_in e.coming) a.clients m → Uttered (of_event plan o.kept (served plan o.kept o.sessions es) e) m c.clients
    → c.told ≡ a.told → c.advised ≡ advice_in e.coming a.advised → l'.run ≡ l.run → Keeps (after_event plan o.kept (served plan o.kept o.sessions es) e) l' → At plan o c l' (e ∷ es) p
at_quiet plan o a c m l l' es p e at none due going came said told advised run keeps = record {
  run = subst (λ (h : History). AtBy GoesServed (life_of plan o.kept) o.told c.told l'.run h p)
      (sym (ap (λ (x : Option Comes). happening_of e.turn x ++ happenings plan o.kept o.sessions es) none))
      (subst (λ (r : Run). AtBy GoesServed (life_of plan o.kept) o.told c.told r (happenings plan o.kept o.sessions es) p) (sym run)
      (subst (λ (t : Told). AtBy GoesServed (life_of plan o.kept) o.told t l.run (happenings plan o.kept o.sessions es) p) (sym told) at.run));
  keeps = keeps;
  due = (at.due, (due, at.keeps.ending ∙ going));
  serves = serves_uttered (arrived_of (e ∷ es)) (said_of plan o.kept o.sessions es) (of_event plan o.kept (served plan o.kept o.sessions es) e) o.clients m c.clients
      (serves_asks (arrived_of es) (arrived_in e.coming) (said_of plan o.kept o.sessions es) o.clients a.clients m at.serves came) said;
  advised = advised ∙ ap (advice_in e.coming) at.advised;
}

-- nothing has come at the door
pub at_nothing : (plan : Plan) (o : Beginning) (b : Around) (before : ClientsTold) (l : Live) (es : List Event) (p : TurnPosition) → At plan o (record b { clients = before }) l es p → Asks [] before b.clients → At plan o b l es p
at_nothing plan o b before l es p at came = record {
  run = at.run;
  keeps = at.keeps;
  due = at.due;
  serves = serves_as (arrived_of es ++ []) (arrived_of es) (said_of plan o.kept o.sessions es) (said_of plan o.kept o.sessions es) o.clients b.clients (append-nil (arrived_of es)) refl
      (serves_asks (arrived_of es) [] (said_of plan o.kept o.sessions es) o.clients before b.clients at.serves came);
  advised = at.advised;
}

abbrev pub line_event : TurnPosition → ℕ → Option (List ℕ) → Event
line_event p client line = record { turn = p.turn; coming = Asked client line }

-- a line that is refused
pub takes_refused : (plan : Plan) (told : Told) (a b : ClientsTold) (advised advised' : Option (List Command)) (l l' : Live) (p : TurnPosition) (client : ℕ) (tag : Option ℕ) (fault : Fault) → l.ending ≡ false → l' ≡ l → advised' ≡ advised
    → Uttered (refusal client tag fault ∷ []) a b
    → TakesAs plan client (Refused tag fault) (record { told = told; clients = a; advised = advised }) l p (record { told = told; clients = b; advised = advised' }) l' p went_well
takes_refused plan told a b advised advised' l l' p client tag fault going same advice said line is o es before at came =
    let v = served plan o.kept o.sessions es in
    let here : line_of plan v.sessions client line ≡ Refused tag fault = ap (λ (s : Kept). line_of plan s client line) at.keeps.sessions ∙ is in (
      line_event p client line ∷ es,
      at_quiet plan o (record { told = told; clients = before; advised = advised }) (record { told = told; clients = b; advised = advised' }) a l l' es p (line_event p client line) at
          (ap (λ (i : Line). bids (command_in i)) here) tt going came
          (subst (λ (us : List Utterance). Uttered us a b) (sym (refused_says plan o.kept v p.turn client line tag fault here)) said)
          refl advice (ap (λ (k : Live). k.run) same)
          (subst (λ (w : Served). Keeps w l') (sym (refused_stays plan o.kept v p.turn client line tag fault here)) (subst (λ (k : Live). Keeps v k) (sym same) at.keeps)),
    )

-- a line by which the parent lets go: the outside alone notes it
pub takes_let_go : (plan : Plan) (told told' : Told) (clients : ClientsTold) (advised : Option (List Command)) (l : Live) (p : TurnPosition) (client number : ℕ) → l.ending ≡ false → told' ≡ told
    → TakesAs plan client (LetsGo number) (record { told = told; clients = clients; advised = advised }) l p (record { told = told'; clients = clients; advised = advised }) l p went_well
takes_let_go plan told told' clients advised l p client number going same line is o es before at came =
    let v = served plan o.kept o.sessions es in
    let here : line_of plan v.sessions client line ≡ LetsGo number = ap (λ (s : Kept). line_of plan s client line) at.keeps.sessions ∙ is in (
      line_event p client line ∷ es,
      at_quiet plan o (record { told = told; clients = before; advised = advised }) (record { told = told'; clients = clients; advised = advised }) clients l l es p (line_event p client line) at
          (let_go_comes plan o.kept v p.turn client line number here) tt going came
          (subst (λ (us : List Utterance). Uttered us clients clients) (sym (let_go_says plan o.kept v p.turn client line number here)) (record { in_turn = refl }))
          same refl refl
          (subst (λ (w : Served). Keeps w l) (sym (let_go_leaves plan o.kept v p.turn client line number here)) at.keeps),
    )

-- a line that is answered at once
pub takes_at_once : (plan : Plan) (told : Told) (a b : ClientsTold) (advised advised' : Option (List Command)) (l l' : Live) (p : TurnPosition) (client tag : ℕ) (r : Request) → l.ending ≡ false → l'.run ≡ l.run → advised' ≡ advised
    → ((v : Served) → Shows v l → Uttered (answered_by (record { client = client; tag = tag }) (text_at_once plan.config v tag r) ∷ []) a b)
    → ((v : Served) → Keeps v l → Keeps (with_request plan v client r) l')
    → TakesAs plan client (AtOnce tag r) (record { told = told; clients = a; advised = advised }) l p (record { told = told; clients = b; advised = advised' }) l' p went_well
takes_at_once plan told a b advised advised' l l' p client tag r going run advice said keeps line is o es before at came =
    let v = served plan o.kept o.sessions es in
    let here : line_of plan v.sessions client line ≡ AtOnce tag r = ap (λ (s : Kept). line_of plan s client line) at.keeps.sessions ∙ is in
    let shows = shows_at plan o (record { told = told; clients = before; advised = advised }) l es p at in (
      line_event p client line ∷ es,
      at_quiet plan o (record { told = told; clients = before; advised = advised }) (record { told = told; clients = b; advised = advised' }) a l l' es p (line_event p client line) at
          (at_once_comes plan o.kept v p.turn client line tag r here) tt going came
          (subst (λ (us : List Utterance). Uttered us a b) (sym (at_once_says plan o.kept v p.turn client line tag r here)) (said v shows))
          refl advice run
          (subst (λ (w : Served). Keeps w l') (sym (at_once_leaves plan o.kept v p.turn client line tag r here)) (keeps v at.keeps)),
    )

-- a client that has gone
pub takes_gone : (plan : Plan) (b : Around) (l l' : Live) (p : TurnPosition) (client : ℕ) → l.ending ≡ false → l' ≡ record l { sessions = without_client l.sessions client }
    → Takes plan (door.Gone client ∷ []) b l p b l' p went_well
takes_gone plan b l l' p client going now o es before at came =
    let v = served plan o.kept o.sessions es in
    let e : Event = record { turn = p.turn; coming = Gone client } in (
      e ∷ es,
      at_quiet plan o (record b { clients = before }) b b.clients l l' es p e at refl tt going came
          (subst (λ (us : List Utterance). Uttered us b.clients b.clients) (sym (gone_says plan o.kept v p.turn client)) (record { in_turn = refl }))
          refl refl (ap (λ (k : Live). k.run) now)
          (subst (λ (w : Served). Keeps w l') (sym (gone_leaves plan o.kept v p.turn client)) (subst (λ (k : Live). Keeps (record v { sessions = without_client v.sessions client }) k) (sym now) (record {
            sessions = ap (λ (s : Kept). without_client s client) at.keeps.sessions;
            pace = at.keeps.pace;
            changes = at.keeps.changes;
            leaving = at.keeps.leaving;
            ending = at.keeps.ending;
          }))),
    )

no_asking : (a : ClientsTold) → Asks [] a a
no_asking a = record { first = λ all told. (all, refl, told); answered = λ any. refl; dropped = λ any. refl; logged = refl; lost = refl }

-- a command of the policy that names what is not there
pub says_unnamed : (plan : Plan) (b : Around) (l : Live) (p : TurnPosition) (c : Command) → l.ending ≡ false → command_names plan.config (actor_of plan) c ≡ false → MovesBySaying plan c b l p b l p went_well
says_unnamed plan b l p c going named o es before at said =
    let v = served plan o.kept o.sessions es in
    let e : Event = record { turn = p.turn; coming = Advised c } in (
      e ∷ es,
      at_quiet plan o (record b { advised = before }) b b.clients l l es p e at (unnamed_comes plan v.sessions c named) tt going (no_asking b.clients)
          (subst (λ (us : List Utterance). Uttered us b.clients b.clients) (sym (unnamed_says plan o.kept v p.turn c named)) (record { in_turn = refl }))
          refl said refl
          (subst (λ (w : Served). Keeps w l) (sym (unnamed_leaves plan o.kept v p.turn c named)) at.keeps),
    )

-- a client that asks to watch

abbrev watching_now : Live → ℕ → Bool → Kept
watching_now l client all = record l.sessions { watchers = watched l.sessions.watchers (record { client = client; all = all }) }

watched_keeps : (plan : Plan) (v : Served) (l l' : Live) (client : ℕ) (all : Bool) → l' ≡ record l { sessions = watching_now l client all } → Keeps v l → Keeps (with_request plan v client (watch_request all)) l'
watched_keeps plan v l l' client true now k = subst (λ (q : Live). Keeps (with_request plan v client (watch_request true)) q) (sym now) (record {
  sessions = ap (λ (s : Kept). record s { watchers = watched s.watchers (record { client = client; all = true }) }) k.sessions;
  pace = k.pace;
  changes = k.changes;
  leaving = k.leaving;
  ending = k.ending;
})
watched_keeps plan v l l' client false now k = subst (λ (q : Live). Keeps (with_request plan v client (watch_request false)) q) (sym now) (record {
  sessions = ap (λ (s : Kept). record s { watchers = watched s.watchers (record { client = client; all = false }) }) k.sessions;
  pace = k.pace;
  changes = k.changes;
  leaving = k.leaving;
  ending = k.ending;
})

watch_says : (plan : Plan) (v : Served) (client tag : ℕ) (all : Bool) → answered_by (record { client = client; tag = tag }) (text_at_once plan.config v tag (watch_request all)) ≡ answered_by (record { client = client; tag = tag }) []
watch_says plan v client tag true = refl
watch_says plan v client tag false = refl

-- a parent is refused
pub watch_of_parent : (plan : Plan) (v : Kept) (client tag : ℕ) (r : Request) → is_parent (speaker_of plan v client) ≡ true → watch_line plan v client tag r ≡ Refused (Some tag) fault.Line
watch_of_parent plan v client tag r parent = ap (λ (b : Bool). if b then Refused (Some tag) fault.Line else place_line v client tag r) parent

pub watch_of_other : (plan : Plan) (v : Kept) (client tag : ℕ) (r : Request) → is_parent (speaker_of plan v client) ≡ false → watch_line plan v client tag r ≡ place_line v client tag r
watch_of_other plan v client tag r other = ap (λ (b : Bool). if b then Refused (Some tag) fault.Line else place_line v client tag r) other

watch_is : (l : Live) (client tag : ℕ) (all : Bool) → has_place l.sessions.watchers client ≡ true → place_line l.sessions client tag (watch_request all) ≡ AtOnce tag (watch_request all)
watch_is l client tag all has = ap (λ (b : Bool). if b then AtOnce tag (watch_request all) else Refused (Some tag) fault.Busy) has

watch_is_not : (l : Live) (client tag : ℕ) (all : Bool) → has_place l.sessions.watchers client ≡ false → place_line l.sessions client tag (watch_request all) ≡ Refused (Some tag) fault.Busy
watch_is_not l client tag all has = ap (λ (b : Bool). if b then AtOnce tag (watch_request all) else Refused (Some tag) fault.Busy) has

-- finds a place
pub takes_watch : (plan : Plan) (told : Told) (a b : ClientsTold) (advised advised' : Option (List Command)) (l l' : Live) (p : TurnPosition) (client tag : ℕ) (all : Bool) → l.ending ≡ false → has_place l.sessions.watchers client ≡ true → advised' ≡ advised
    → l' ≡ record l { sessions = watching_now l client all } → Uttered (answered_by (record { client = client; tag = tag }) [] ∷ []) a b
    → TakesAs plan client (place_line l.sessions client tag (watch_request all)) (record { told = told; clients = a; advised = advised }) l p (record { told = told; clients = b; advised = advised' }) l' p went_well
takes_watch plan told a b advised advised' l l' p client tag all going has advice now said line is =
    takes_at_once plan told a b advised advised' l l' p client tag (watch_request all) going (ap (λ (q : Live). q.run) now) advice
    (λ v shows. subst (λ (u : Utterance). Uttered (u ∷ []) a b) (sym (watch_says plan v client tag all)) said)
    (λ v k. watched_keeps plan v l l' client all now k) line (is ∙ watch_is l client tag all has)

-- or does not
pub takes_no_watch : (plan : Plan) (told : Told) (a b : ClientsTold) (advised advised' : Option (List Command)) (l l' : Live) (p : TurnPosition) (client tag : ℕ) (all : Bool) → l.ending ≡ false → has_place l.sessions.watchers client ≡ false → advised' ≡ advised
    → l' ≡ record l { sessions = watching_now l client all } → Uttered (refusal client (Some tag) fault.Busy ∷ []) a b
    → TakesAs plan client (place_line l.sessions client tag (watch_request all)) (record { told = told; clients = a; advised = advised }) l p (record { told = told; clients = b; advised = advised' }) l' p went_well
takes_no_watch plan told a b advised advised' l l' p client tag all going has advice now said line is =
    let w : Watcher = record { client = client; all = all } in
    let stays : watched l.sessions.watchers w ≡ l.sessions.watchers = ap (λ (b : Bool). if b then with_watcher l.sessions.watchers w else l.sessions.watchers) has in
    takes_refused plan told a b advised advised' l l' p client (Some tag) fault.Busy going (now ∙ ap (λ (ws : List Watcher). record l { sessions = record l.sessions { watchers = ws } }) stays) advice said line (is ∙ watch_is_not l client tag all has)
