-- From one life to the next.
use Rattle.std.proofs.Common.{arith, ◌≡◌, ◌≤◌, ◌+◌, ℕ, Bool, true, false, List, [], ◌∷◌, Some, None, Result, Ok, Err, length, refl, ap, sym, subst, ◌∙◌, inl, inr}
use Rattle.std.specs.Prelude.{◌&&◌, OnOk, cond, nat_le, not, slice_get}
use Rattle.client_sessions.specs.Sessions.{Kept}
use Rattle.edge_io.specs.Edge.{Tells}
use Rattle.edge_io.specs.Readings.{is_fall}
use Rattle.edge_io.specs.Told.{ReadsClock, Told}
use Rattle.edge_io.specs.declared.endpoint.Endpoint.{Endpoint}
use Rattle.fabric_terms.specs.declared.record.Record.{Record}
use Rattle.fabric_turns.specs.Opening.{OnlyRecalled, RecallsOne}
use Rattle.fabric_turns.specs.Runs.{AllListen, IsKeptAt}
use Rattle.keep_log.specs.Places.{Follows}
use Rattle.keep_log.specs.Amounts.{nothing}
use Rattle.keep_log.specs.declared.kept.Kept.{Kept as KeptRecords}
use Rattle.serve_lives.specs.Endings.{end_of, has_left}
use Rattle.serve_lives.specs.Rows.{Life, OnlyRead, Recalls, WentOn, IsServed, most_lives, returns}
use Rattle.serve_lives.specs.Steps.{GoesOnce, LivesFrom, LivesOnce}
use Rattle.serve_lives.specs.declared.ending.ServeEnd.{ServeEnd}
use Rattle.serve_lives.specs.declared.ending.ServeEnd.TheVariants as serve
use Rattle.serve_lives.proofs.Opened.{life_opened}
use Rattle.serve_rules.specs.Services.{IsService, actor_in, actor_of}
use Rattle.serve_turns.specs.Live.{Around, Live, fresh_live}
use Rattle.serve_turns.specs.Lives.{CanLive, IsLife}
use Rattle.serve_turns.specs.declared.life.LifeEnd.{LifeEnd}
use Rattle.turn_members.specs.Members.{IsKept}
use Rattle.token_core.specs.Tokens.{last_number}
use Rattle.turn_rules.specs.Plans.{Plan}
use Rattle.turn_rules.specs.Recalled.{IsGoodFor}
use Rattle.turn_rules.specs.declared.stop_cause.StopCause.{StopCause}
use Rattle.turn_rules.specs.declared.stop_cause.StopCause.TheVariants as stop
use Rattle.world_rules.specs.Nodes.{is_spent}

-- The clock is read.

no_less : (t : Bool) (n : ℕ) → n ≤ cond t (n + 1) n
no_less true n = omega arith
no_less false n = omega arith

counts_falls : (n : ℕ) (a b : Told) → ReadsClock n a b → a.falls ≤ b.falls
counts_falls n a b r = subst (λ (k : ℕ). a.falls ≤ k) (sym r.falls) (no_less (is_fall a.last n) a.falls)

pub reads_once : (n : ℕ) (a b : Told) → ReadsClock n a b → OnlyRead a b
reads_once n a b r = record { later = counts_falls n a b r; rest = r.rest }

pub reads_more : (n : ℕ) (a b c : Told) → OnlyRead a b → ReadsClock n b c → OnlyRead a c
reads_more n a b c p r = record {
  later = omega (arith, p.later, counts_falls n b c r);
  rest = r.rest ∙ ap (λ (x : Told). record x { readings = c.readings; last = c.last; falls = c.falls }) p.rest;
}

-- the clock was read, and then nothing
pub reads_same : (a b c : Told) → OnlyRead a b → c ≡ b → OnlyRead a c
reads_same a b c p same = subst (λ (t : Told). OnlyRead a t) (sym same) p

-- The records are read.

one_in : (es : List Endpoint) → length es ≡ 1 → (e : Endpoint) × ((slice_get es 0 ≡ Some e) × (actor_in (slice_get es 0) ≡ e.actor))
one_in [] one = cc
one_in (e ∷ es) one = (e, (refl, refl))

-- what was read of the actor of a service
pub record IsRead (plan : Plan) (a : Told) (kept : KeptRecords) (b : Told) : Type 0 where
  pub records : List Record
  pub recalls : Recalls plan a records b
  pub here : IsKeptAt plan 0 records kept

pub is_read : (plan : Plan) (actor : ℕ) (a : Told) (kept : KeptRecords) (b : Told) → IsService plan → actor ≡ actor_of plan → RecallsOne actor a (Ok kept) b → IsRead plan a kept b
is_read plan actor a kept b service same r =
    let one = one_in plan.actors service.alone in
    let e : Endpoint = one.0 in
    let named : actor ≡ e.actor = same ∙ one.1.1 in
    let records : List Record = r.1.1.0 in
    let follows : Follows nothing r.0 records = r.1.1.1.0 in
    let is : IsKept actor records kept = r.1.1.1.1 in
    record {
      records = records;
      recalls = record {
        told = subst (λ (ls : List (List ℕ)). Tells (a.kept (actor_of plan)) ls) follows.spelled (subst (λ (n : ℕ). Tells (a.kept n) r.0) same r.1.0);
        good = subst (λ (n : ℕ). IsGoodFor n records) same is.good;
        only = r.1.2;
      };
      here = record { endpoint = e; named = one.1.0; is = subst (λ (n : ℕ). IsKept n records kept) named is };
    }

-- nothing was done
pub only_none : (a : Told) → OnlyRecalled a a
only_none a = record {
  untouched = record {
    loans = refl;
    held = refl;
    kept = λ actor. refl;
    sent = refl;
    arrivals = λ actor. refl;
    readings = refl;
    keeper = omega arith;
    links = omega arith;
    sink = refl;
    falls = refl;
    last = refl;
  };
  opened = refl;
}

-- A life begins.

pub can_live : (plan : Plan) (v : Kept) (l : Live) (a b : Told) → IsService plan → AllListen plan a.opened → OnlyRecalled a b → l ≡ fresh_live v → b.held ≡ None → CanLive plan l b
can_live plan v l a b service listens only fresh silent = record {
  service = service;
  listens = subst (λ (es : List Endpoint). AllListen plan es) (sym only.opened) listens;
  fresh = fresh ∙ ap fresh_live (sym (ap (λ (x : Live). x.sessions) fresh));
  silent = silent;
}

-- of a life, whether the next one follows
pub decided : (r : Bool) (life : Life) (leaving spent : Bool) → r ≡ (has_left life.end && not leaving && not spent) → leaving ≡ life.live.leaving → spent ≡ is_spent life.records → returns life ≡ r
decided r life leaving spent is leaves uses = sym (is ∙ ap (λ (b : Bool). has_left life.end && not b && not spent) leaves ∙ ap (λ (b : Bool). has_left life.end && not life.live.leaving && not b) uses)

spent_of : (records : List Record) (kept : KeptRecords) (plan : Plan) → IsKeptAt plan 0 records kept → nat_le last_number kept.boots ≡ is_spent records
spent_of records kept plan k = ap (λ (n : ℕ). nat_le last_number n) k.is.holds.boots

abbrev life_of : Live → List Record → Around → LifeEnd → Around → Live → Life
life_of live records a end b after = record { sessions = live.sessions; records = records; begun = a; end = end; ended = b; live = after }

-- the next life follows
pub lives_next : (plan : Plan) (told : Told) (live : Live) (records : List Record) (a : Around) (end : LifeEnd) (b : Around) (after : Live) (kept : KeptRecords) (r leaving spent : Bool) (v : Kept) → CanLive plan live told → IsKeptAt plan 0 records kept
    → IsLife plan records a live end b after → r ≡ (has_left end && not leaving && not spent) → leaving ≡ after.leaving → spent ≡ nat_le last_number kept.boots → r ≡ true → v ≡ after.sessions
    → LivesFrom plan live.sessions records a (Ok v) b
lives_next plan told live records a end b after kept r leaving spent v can at life is leaves uses holds same = record {
  life = life_of live records a end b after;
  sessions = refl;
  from = refl;
  begun = refl;
  is = subst (λ (x : Live). IsLife plan records a x end b after) can.fresh life;
  ended = refl;
  decides = (decided r (life_of live records a end b after) leaving spent is leaves (uses ∙ spent_of records kept plan at) ∙ holds, same);
}

-- the process ends
pub lives_last : (plan : Plan) (told : Told) (live : Live) (records : List Record) (a : Around) (end : LifeEnd) (b : Around) (after : Live) (kept : KeptRecords) (r leaving spent : Bool) (e : ServeEnd) → CanLive plan live told → IsKeptAt plan 0 records kept
    → IsLife plan records a live end b after → r ≡ (has_left end && not leaving && not spent) → leaving ≡ after.leaving → spent ≡ nat_le last_number kept.boots → r ≡ false → e ≡ end_of end leaving
    → LivesFrom plan live.sessions records a (Err e) b
lives_last plan told live records a end b after kept r leaving spent e can at life is leaves uses fails same = record {
  life = life_of live records a end b after;
  sessions = refl;
  from = refl;
  begun = refl;
  is = subst (λ (x : Live). IsLife plan records a x end b after) can.fresh life;
  ended = refl;
  decides = (decided r (life_of live records a end b after) leaving spent is leaves (uses ∙ spent_of records kept plan at) ∙ fails, same ∙ ap (end_of end) leaves);
}

-- a life from records that were read
pub lived_once : (plan : Plan) (v : Kept) (a m : Around) (records : List Record) (r : Result Kept ServeEnd) (b : Around) → m ≡ record a { told = m.told } → Recalls plan a.told records m.told
    → LivesFrom plan v records m r b → LivesOnce plan v a r b
lived_once plan v a m records r b begun recalls f = record {
  life = f.life;
  sessions = f.sessions;
  lived = record {
    recalls = subst (λ (x : Around). Recalls plan a.told f.life.records x.told) (sym f.begun) (subst (λ (rs : List Record). Recalls plan a.told rs m.told) (sym f.from) recalls);
    begun = subst (λ (x : Around). x ≡ record a { told = x.told }) (sym f.begun) begun;
    life = f.is;
  };
  ended = f.ended;
  decides = f.decides;
}

always_ok : {T E P : Type 0} (r : Result T E) → P → OnOk r P
always_ok (Ok x) p = p
always_ok (Err e) p = tt

-- the endpoints are open as before
still_open : (plan : Plan) (v : Kept) (a : Around) (r : Result Kept ServeEnd) (b : Around) → LivesOnce plan v a r b → b.told.opened ≡ a.told.opened
still_open plan v a r b o =
    let closed : o.life.ended.told.opened ≡ o.life.begun.told.opened = life_opened plan o.life.records o.life.begun (fresh_live o.life.sessions) o.life.end o.life.ended o.life.live o.lived.life in
    sym (ap (λ (x : Around). x.told.opened) o.ended) ∙ closed ∙ o.lived.recalls.only.opened

pub listens_on : (plan : Plan) (v : Kept) (a : Around) (r : Result Kept ServeEnd) (b : Around) → LivesOnce plan v a r b → AllListen plan a.told.opened → OnOk r (AllListen plan b.told.opened)
listens_on plan v a r b o listens = always_ok r (subst (λ (es : List Endpoint). AllListen plan es) (sym (still_open plan v a r b o)) listens)

-- The row.

pub went_more : (plan : Plan) (v : Kept) (a : Around) (ls : List Life) (w u : Kept) (m b c : Around) → WentOn plan v a ls w m → (o : LivesOnce plan w m (Ok u) b) → OnlyRead b.told c.told → c ≡ record b { told = c.told }
    → WentOn plan v a (o.life ∷ ls) u c
went_more plan v a ls w u m b c went o read rest = (
  m,
  (
    subst (λ (x : Kept). WentOn plan v a ls x m) (sym o.sessions) went,
    o.lived,
    record {
      next = o.decides.0;
      sessions = o.decides.1;
      told = subst (λ (x : Around). OnlyRead x.told c.told) (sym o.ended) read;
      rest = subst (λ (x : Around). c ≡ record x { told = c.told }) (sym o.ended) rest;
    },
  ),
)

abbrev err_of : ServeEnd → Result Kept ServeEnd
err_of end = Err end

abbrev ok_of : Kept → Result Kept ServeEnd
ok_of v = Ok v

err_same : (x y : ServeEnd) → err_of x ≡ err_of y → x ≡ y
err_same x y e = cc

never_both : (v : Kept) (x : ServeEnd) → ok_of v ≡ err_of x → ⊥
never_both v x e = cc

-- the process ends after these lives
pub ends_after : (plan : Plan) (v : Kept) (a : Around) (ls : List Life) (w : Kept) (m : Around) (end : ServeEnd) (b : Around) → WentOn plan v a ls w m → GoesOnce plan w m (Err end) b → IsServed plan v a end b
ends_after plan v a ls w m end b went goes = elim goes [
  | inl o ↦ inl (record {
    before = ls;
    between = m;
    last = o.life;
    went_on = subst (λ (x : Kept). WentOn plan v a ls x m) (sym o.sessions) went;
    lived = o.lived;
    stays_away = o.decides.0;
    is = o.decides.1;
    ended = sym o.ended;
  })
  | inr u ↦ inr (inl (record {
    before = ls;
    sessions = w;
    between = m;
    cause = u.cause;
    went_on = went;
    unread = u.unread;
    is = err_same end (serve.NotBegun u.cause) u.is;
    ended = u.rest;
  }))
]

-- where it goes on, it is by a life
pub lives_on : (plan : Plan) (w : Kept) (m : Around) (u : Kept) (b : Around) → GoesOnce plan w m (Ok u) b → LivesOnce plan w m (Ok u) b
lives_on plan w m u b goes = elim goes [
  | inl o ↦ o
  | inr n ↦ absurd (never_both u (serve.NotBegun n.cause) n.is)
]

-- after so many lives, with these sessions for the next one
pub record IsUnderWay (plan : Plan) (v : Kept) (a : Around) (n : ℕ) (w : Kept) (b : Around) : Type 0 where
  pub before : List Life
  pub went_on : WentOn plan v a before w b
  pub count : length before ≡ n
  pub listens : AllListen plan b.told.opened

pub under_way_first : (plan : Plan) (v : Kept) (a : Around) → AllListen plan a.told.opened → IsUnderWay plan v a 0 v a
under_way_first plan v a listens = record { before = []; went_on = (refl, refl); count = refl; listens = listens }

-- a life more, and then the clock was read
pub under_way_next : (plan : Plan) (v : Kept) (a : Around) (n : ℕ) (w : Kept) (m : Around) (u : Kept) (b c : Around) → IsUnderWay plan v a n w m → GoesOnce plan w m (Ok u) b → AllListen plan b.told.opened → OnlyRead b.told c.told → c ≡ record b { told = c.told }
    → IsUnderWay plan v a (n + 1) u c
under_way_next plan v a n w m u b c k goes listens read rest =
    let o : LivesOnce plan w m (Ok u) b = lives_on plan w m u b goes in
    record {
      before = o.life ∷ k.before;
      went_on = went_more plan v a k.before w u m b c k.went_on o read rest;
      count = omega (arith, k.count);
      listens = subst (λ (es : List Endpoint). AllListen plan es) (sym (ap (λ (t : Told). t.opened) read.rest)) listens;
    }

pub under_way_ends : (plan : Plan) (v : Kept) (a : Around) (n : ℕ) (w : Kept) (m : Around) (end : ServeEnd) (b : Around) → IsUnderWay plan v a n w m → GoesOnce plan w m (Err end) b → IsServed plan v a end b
under_way_ends plan v a n w m end b k goes = ends_after plan v a k.before w m end b k.went_on goes

pub under_way_spent : (plan : Plan) (v : Kept) (a : Around) (n : ℕ) (w : Kept) (b : Around) → IsUnderWay plan v a n w b → n ≡ most_lives → IsServed plan v a serve.Spent b
under_way_spent plan v a n w b k all = inr (inr (record { before = k.before; sessions = w; went_on = k.went_on; all = k.count ∙ all; is = refl }))

-- the records could not be read
pub is_unread : (plan : Plan) (actor : ℕ) (cause : StopCause) (v : Kept) (a b : Around) → actor ≡ actor_of plan → RecallsOne actor a.told (Err cause) b.told → b ≡ record a { told = b.told } → GoesOnce plan v a (Err (serve.NotBegun cause)) b
is_unread plan actor cause v a b same unread rest =
    inr (record { cause = cause; unread = subst (λ (n : ℕ). RecallsOne n a.told (Err cause) b.told) same unread; is = refl; rest = rest })

-- there was no memory to begin with
pub is_unbegun : (plan : Plan) (v : Kept) (a : Around) → GoesOnce plan v a (Err (serve.NotBegun stop.OutOfMemory)) a
is_unbegun plan v a = inr (record { cause = stop.OutOfMemory; unread = only_none a.told; is = refl; rest = refl })
