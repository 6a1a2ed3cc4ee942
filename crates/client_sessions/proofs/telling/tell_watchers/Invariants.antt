use Rattle.std.proofs.Common.{◌≡◌, ℕ, List, OnOk, take}
use Rattle.client_sessions.specs.Utterances.{Uttered}
use Rattle.client_sessions.specs.Sessions.{watch_replies}
use Rattle.client_sessions.proofs.telling.tell_watchers.Given as goal

-- the clients so far were told
abbrev pub invariant-loop-watcher : goal.invariant-loop-watcher
invariant-loop-watcher g l =
    (whole : List ℕ) → OnOk l.written (l.line ≡ whole) → Uttered (watch_replies l.logged whole (take l.watcher-index l.watchers)) (g.C.Clients.told l.initial.clients) (g.C.Clients.told l.clients)
