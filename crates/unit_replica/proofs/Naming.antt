-- The names of a log that is walked, and of one that grows.
use Rattle.std.proofs.Common.{◌≡◌, ◌⊎◌, inl, inr, ℕ, ◌+◌, ◌<◌, ◌≤◌, Bool, true, false, List, [], ◌∷◌, ◌++◌, length, take, get_or, min, Result, Ok, Err, refl, sym, ap, ◌∙◌, subst, ⊎_elim, arith, length-append}
use Rattle.std.specs.Prelude.{◌==◌, ◌&&◌, not, nat_lt, if◌then◌else◌}
use Rattle.std.proofs.lemmas.Bool.Decides.{nat_tests}
use Rattle.std.specs.FinMap.{empty}
use Rattle.std.proofs.lemmas.Bool.{cases_lt, eqb-true}
use Rattle.std.proofs.lemmas.List.{append-nil, take_all, take_more, take-append-le}
use Rattle.ring_points.specs.Limits.{most_log_entries}
use Rattle.ring_points.specs.declared.unit.Epoch.{Epoch}
use Rattle.ring_points.specs.Epochs.{is_older, same_epoch}
use Rattle.ring_points.specs.declared.unit.Config.{Config}
use Rattle.replica_core.specs.declared.entry.Entry.{Entry}
use Rattle.replica_core.specs.declared.refusal.Done.{Done}
use Rattle.replica_core.specs.declared.refusal.Done.TheVariants.{New, Held}
use Rattle.replica_core.specs.declared.refusal.ReplicaRefusal.{ReplicaRefusal}
use Rattle.replica_core.specs.declared.refusal.ReplicaRefusal.TheVariants.{Gap, LogFull, NotMember, Older}
use Rattle.replica_core.specs.declared.role.Role.{Role}
use Rattle.replica_core.specs.Calls.{Answers, Outcome, activate_call, adopt_call, adopt_own_call, append_call, collected_call, held_if, idle_call, is_ahead, is_collected, is_gap, own_adopted, promise_call, unless}
use Rattle.replica_core.specs.Replicas.{Replica, collected_in, collected_with, collecting, raised, settled, written}
use Rattle.replica_core.specs.Roles.{is_idle, is_member}
use Rattle.name_rules.specs.Grammar.{change_of}
use Rattle.name_rules.specs.Names.{NameMap, applied, changed, names_of}
use Rattle.name_rules.proofs.Entries.{names_after_one_more}
use Rattle.unit_replica.specs.Names.{AreOf, Longer, StayOrEnd}

-- A step of the walk.

pub names_next : (log : List Entry) (i : ℕ) (d : Entry) → i < length log
    → (get_or log i d ≡ get_or log i d) × (names_of (take (i + 1) log) ≡ applied (get_or log i d) (names_of (take i log)))
names_next log i d h = (refl, ap names_of (take_more log i d h) ∙ names_after_one_more empty (take i log) (get_or log i d))

-- its end: of more entries than the log has it is the whole log
pub take_least : (n m : ℕ) (log : List Entry) → m ≡ min n (length log) → take m log ≡ take n log
take_least n m log e = ⊎_elim
    (λ lt. ap (λ (k : ℕ). take k log) (let same : m ≡ n = omega arith in same))
    (λ ge. take_all m log (omega arith) ∙ sym (take_all n log (omega arith)))
    (cases_lt n (length log))

pub named_least : (n m : ℕ) (log : List Entry) (names : NameMap) → m ≡ min n (length log) → names ≡ names_of (take m log) → names ≡ names_of (take n log)
named_least n m log names e same = same ∙ ap names_of (take_least n m log e)

-- of no entries there are no names, whatever the list
pub none_named : (log : List Entry) (count : ℕ) (names : NameMap) → count ≡ 0 → names ≡ names_of [] → AreOf log count names
none_named log count names none same = record { within = omega arith; same = same ∙ ap (λ (n : ℕ). names_of (take n log)) (sym none) }

-- A list that stays or ends.

same_log : (log : List Entry) → Longer log log
same_log log = record { more = []; is = sym (append-nil log) }

pub longer_named : (old new : List Entry) (count : ℕ) (names : NameMap) → Longer old new → AreOf old count names → AreOf new count names
longer_named old new count names longer h =
    let is : length new ≡ length old + length longer.more = ap length longer.is ∙ length-append old longer.more in
    let le : count ≤ length old = h.within in record {
      within = omega (arith, is, le);
      same = h.same ∙ ap names_of (sym (ap (take count) longer.is ∙ take-append-le count old longer.more le));
    }

pub follow_named : (old new : List Entry) (count : ℕ) (names : NameMap) → count ≤ length new → StayOrEnd old new → AreOf old count names → AreOf new count names
follow_named old new count names few (inl longer) h = longer_named old new count names longer h
follow_named old new count names few (inr none) h =
    let nothing : count ≡ 0 = (let e : length new ≡ 0 = ap length none in omega (arith, few, e)) in
    none_named new count names nothing (h.same ∙ ap (λ (n : ℕ). names_of (take n old)) nothing ∙ ap names_of (take-none old))
  where
    take-none : (xs : List Entry) → take 0 xs ≡ []
    take-none [] = refl
    take-none (x ∷ xs) = refl

-- an entry is added behind those that the names are of
pub added_named : (old : List Entry) (x : Entry) (count : ℕ) (names : NameMap) → count ≡ length old → AreOf old count names → AreOf (old ++ x ∷ []) (count + 1) (applied x names)
added_named old x count names whole h =
    let one : length (old ++ x ∷ []) ≡ length old + 1 = length-append old (x ∷ []) in
    let all : take (count + 1) (old ++ x ∷ []) ≡ old ++ x ∷ [] = take_all (count + 1) (old ++ x ∷ []) (omega (arith, one, whole)) in
    record {
      within = omega (arith, one, whole);
      same = ap (applied x) (h.same ∙ ap names_of (take_all count old (omega (arith, whole))))
          ∙ (sym (names_after_one_more empty old x) ∙ ap names_of (sym all));
    }

pub behind_named : (old : List Entry) (x : Entry) (count : ℕ) (names : NameMap) → AreOf old count names → AreOf (old ++ x ∷ []) count names
behind_named old x count names h = longer_named old (old ++ x ∷ []) count names (record { more = x ∷ []; is = refl }) h

pub added_next : (old : List Entry) (x : Entry) (bytes : List ℕ) (lsn count top : ℕ) (names new : NameMap) → x.bytes ≡ bytes → lsn ≡ length old + 1
    → lsn ≡ min (count + 1) top → new ≡ changed (change_of bytes) names → AreOf old count names → AreOf (old ++ x ∷ []) lsn new
added_next old x bytes lsn count top names new same next least is h =
    let le : count ≤ length old = h.within in
    let one : lsn ≡ count + 1 = ⊎_elim
    (λ lt. let below : lsn ≡ count + 1 = omega (arith, least, lt) in below)
    (λ ge. let above : lsn ≡ count + 1 = omega (arith, least, ge, next, le) in above)
    (cases_lt (count + 1) top) in
    let whole : count ≡ length old = omega (arith, next, one) in
    let made : applied x names ≡ new = ap (λ (bs : List ℕ). changed (change_of bs) names) same ∙ sym is in
    subst (λ (n : ℕ). AreOf (old ++ x ∷ []) n new) (sym one)
    (subst (λ (m : NameMap). AreOf (old ++ x ∷ []) (count + 1) m) made (added_named old x count names whole h))

-- What a call makes of the log and of the entries that are collected.

module _ (P : Replica → Type 0) (r : Replica) (none : P r) where
  unless_keeps : {A : Type 0} (b : Bool) (why : ReplicaRefusal) (next : Outcome A) → P next.1 → P (unless b why r next).1
  unless_keeps true why next h = none
  unless_keeps false why next h = h

  held_keeps : (b : Bool) (next : Outcome Done) → P next.1 → P (held_if b r next).1
  held_keeps true next h = none
  held_keeps false next h = h

-- where a greater epoch is promised, what is collected ends
abbrev Promised : Replica → Replica → Type 0
Promised old new = Longer old.log new.log × StayOrEnd old.collected new.collected

raised_collected : (e : Epoch) (r : Replica) → StayOrEnd r.collected (collected_in e r)
raised_collected e r = by (is_older r.promised e)
  where
    by : (b : Bool) → StayOrEnd r.collected (if b then [] else r.collected)
    by true = inr refl
    by false = inl (same_log r.collected)

module _ (r new : Replica) where
  stays : Promised r r
  stays = (same_log r.log, inl (same_log r.collected))

  pub promised : (e : Epoch) (result : Result Done ReplicaRefusal) → (result, new) ≡ promise_call e r → Promised r new
  promised e result is =
      subst (λ (o : Outcome Done). Promised r o.1) (sym is)
      (unless_keeps (Promised r) r stays (is_older e r.promised) (Older r.promised) _
      (held_keeps (Promised r) r stays (same_epoch r.promised e) (Ok New, raised e r) (same_log r.log, raised_collected e r)))

  pub idled : (e : Epoch) (result : Result Done ReplicaRefusal) → (result, new) ≡ idle_call e r → Promised r new
  idled e result is =
      subst (λ (o : Outcome Done). Promised r o.1) (sym is)
      (unless_keeps (Promised r) r stays (is_older e r.promised) (Older r.promised) _
      (held_keeps (Promised r) r stays (same_epoch r.promised e && is_idle r.role) _ (same_log r.log, raised_collected e r)))

  pub activated : (me : ℕ) (config : Config) (result : Result Role ReplicaRefusal) → (result, new) ≡ activate_call me config r → Promised r new
  activated me config result is =
      let e = config.epoch in
      subst (λ (o : Outcome Role). Promised r o.1) (sym is)
      (unless_keeps (Promised r) r stays (is_older e r.promised) (Older r.promised) _
      (unless_keeps (Promised r) r stays (not (is_member me config)) NotMember _
      (unless_keeps (Promised r) r stays (not (same_epoch r.at e)) (Gap (length r.log)) _ (same_log r.log, raised_collected e r))))

-- the log may be given up too
abbrev Adopted : Replica → Replica → Type 0
Adopted old new = StayOrEnd old.log new.log × StayOrEnd old.collected new.collected

module _ (r new : Replica) where
  pub adopted_own : (e : Epoch) (last : ℕ) (result : Result Done ReplicaRefusal) → (result, new) ≡ adopt_own_call e last r → Adopted r new
  adopted_own e last result is =
      subst (λ (o : Outcome Done). Adopted r o.1) (sym is)
      (unless_keeps (Adopted r) r whole (is_older e r.promised) (Older r.promised) _
      (held_keeps (Adopted r) r whole (same_epoch r.at e) (own_adopted (last == 0) (last == length r.log) e r) (by (last == 0) (last == length r.log))))
    where
      whole : Adopted r r
      whole = (inl (same_log r.log), inl (same_log r.collected))

      by : (nothing all : Bool) → Adopted r (own_adopted nothing all e r).1
      by true all = (inr refl, raised_collected e r)
      by false true = (inl (same_log r.log), raised_collected e r)
      by false false = whole

-- an entry that is appended comes behind the log
abbrev Appended : Replica → Replica → Type 0
Appended old new = Longer old.log new.log × Longer old.collected new.collected

pub appended : (e : Epoch) (lsn : ℕ) (bytes : List ℕ) (r new : Replica) (result : Result Done ReplicaRefusal)
    → Answers (append_call e lsn bytes r) r new result → Appended r new
appended e lsn bytes r new (Ok done) is = subst (λ (o : Outcome Done). Appended r o.1) is called
  where
    same : Appended r r
    same = (same_log r.log, same_log r.collected)

    entry : Entry
    entry = record { epoch = e; lsn = lsn; bytes = bytes }

    called : Appended r (append_call e lsn bytes r).1
    called =
        unless_keeps (Appended r) r same (is_older e r.promised) (Older r.promised) _
        (unless_keeps (Appended r) r same (is_ahead e lsn r) (Gap (length r.log)) _
        (held_keeps (Appended r) r same (nat_lt lsn (length r.log + 1)) _
        (unless_keeps (Appended r) r same (length r.log == most_log_entries) LogFull (Ok New, written entry r)
        (record { more = entry ∷ []; is = refl }, same_log r.collected))))
appended e lsn bytes r new (Err why) is = subst (λ (s : Replica). Appended r s) (sym is.0) (same_log r.log, same_log r.collected)

-- An entry that is collected: it begins anew, or comes behind those that are.

passes : (b : Bool) (why : ReplicaRefusal) (r new : Replica) (next : Outcome Done) → unless b why r next ≡ (Ok New, new) → (b ≡ false) × (next ≡ (Ok New, new))
passes true why r new next e = let f : ◌≡◌ {A = Result Done ReplicaRefusal} (Err why) (Ok New) = ap (λ (o : Outcome Done). o.0) e in absurd (cc)
passes false why r new next e = (refl, e)

moves : (b : Bool) (r new : Replica) (next : Outcome Done) → held_if b r next ≡ (Ok New, new) → next ≡ (Ok New, new)
moves true r new next e = let f : ◌≡◌ {A = Result Done ReplicaRefusal} (Ok Held) (Ok New) = ap (λ (o : Outcome Done). o.0) e in absurd (cc)
moves false r new next e = e

-- the entries behind which it comes
abbrev pub before : Entry → Replica → List Entry
before x r = if x.lsn == 1 then [] else r.collected

pub record Collected (x : Entry) (last : ℕ) (old new : Replica) : Type 0 where
  pub next : x.lsn ≡ length (before x old) + 1
  pub log : new.log ≡ (if x.lsn == last then before x old ++ x ∷ [] else old.log)
  pub collected : new.collected ≡ (if x.lsn == last then [] else before x old ++ x ∷ [])

collected_next : (e : Epoch) (x : Entry) (r : Replica) → is_gap e x.lsn r ≡ false → (x.lsn ≡ length (before x r) + 1) × (collected_with e x r ≡ before x r ++ x ∷ [])
collected_next e x r gap = by (x.lsn == 1) refl
  where
    by : (b : Bool) → (x.lsn == 1) ≡ b
        → (x.lsn ≡ length {A = Entry} (if b then [] else r.collected) + 1) × (((if b then [] else collected_in e r) ++ x ∷ []) ≡ ((if b then [] else r.collected) ++ x ∷ []))
    by true one = (grind (arith, nat_tests, one), refl)
    by false one = behind (is_older r.promised e) refl
      where
        behind : (b : Bool) → is_older r.promised e ≡ b → (x.lsn ≡ length r.collected + 1) × ((collected_in e r ++ x ∷ []) ≡ (r.collected ++ x ∷ []))
        behind true f = let at : (not (x.lsn == 1) && not (x.lsn == 0 + 1)) ≡ false = rw f at gap in absurd (grind (arith, nat_tests, at, one))
        behind false f =
            let at : (not (x.lsn == 1) && not (x.lsn == length r.collected + 1)) ≡ false = rw f at gap in
            (grind (arith, nat_tests, at, one), rw f refl)

pub collected_new : (e : Epoch) (x : Entry) (last : ℕ) (r new : Replica) → adopt_call e x last r ≡ (Ok New, new) → Collected x last r new
collected_new e x last r new is =
    let admitted = passes (is_older e r.promised) (Older r.promised) r new _ is in
    let gap = passes (is_gap e x.lsn r) (Gap (length (collected_in e r))) r new (collected_call (x.lsn == last) e x r) (moves (same_epoch r.at e) r new _ admitted.1) in
    let it = collected_next e x r gap.0 in
    by (x.lsn == last) refl it.0 it.1 gap.1
  where
    by : (b : Bool) → (x.lsn == last) ≡ b → x.lsn ≡ length (before x r) + 1 → collected_with e x r ≡ before x r ++ x ∷ []
        → collected_call b e x r ≡ (Ok New, new) → Collected x last r new
    by true f next with here =
        let new_is : settled e (collecting e x r) ≡ new = ap (λ (o : Outcome Done). o.1) here in
        record {
          next = next;
          log = rw f (sym (ap (λ (s : Replica). s.log) new_is) ∙ with);
          collected = rw f (sym (ap (λ (s : Replica). s.collected) new_is));
        }
    by false f next with here =
        let new_is : collecting e x r ≡ new = ap (λ (o : Outcome Done). o.1) (moves (is_collected e x r) r new (Ok New, collecting e x r) here) in
        record {
          next = next;
          log = rw f (sym (ap (λ (s : Replica). s.log) new_is));
          collected = rw f (sym (ap (λ (s : Replica). s.collected) new_is) ∙ with);
        }

-- the names of what is collected are those of the entries behind which it comes, unless it begins anew
pub before_named : (x : Entry) (r : Replica) (count : ℕ) (names : NameMap) → AreOf r.collected count names → (x.lsn ≡ 1) ⊎ AreOf (before x r) count names
before_named x r count names h = by (x.lsn == 1) refl
  where
    by : (b : Bool) → (x.lsn == 1) ≡ b → (x.lsn ≡ 1) ⊎ AreOf (if b then [] else r.collected) count names
    by true f = inl (eqb-true x.lsn 1 f)
    by false f = inr h
