-- The beginning of a life.
use Rattle.std.proofs.Common.{arith, ◌≡◌, List, [], Option, Some, None, refl, ap, map, sym, subst, ◌∙◌}
use Rattle.std.specs.Prelude.{slice_get}
use Rattle.door_io.specs.Clients.{ClientsTold}
use Rattle.edge_io.specs.Told.{Told}
use Rattle.fabric_terms.specs.declared.command.Command.{Command}
use Rattle.fabric_terms.specs.declared.record.Record.{Record}
use Rattle.fabric_turns.specs.Runs.{IsLast}
use Rattle.serve_rules.proofs.Serving.{serves_nothing}
use Rattle.serve_turns.specs.Live.{At, Live, around, fresh_live}
use Rattle.serve_turns.specs.Lives.{CanLive, beginning}
use Rattle.serve_turns.specs.Turns.{CanStart}
use Rattle.turn_effects.proofs.Growing.{grew_none}
use Rattle.turn_effects.proofs.Sending.{sent_none}
use Rattle.turn_members.specs.Members.{seen}
use Rattle.turn_rules.specs.Order.{arrive}
use Rattle.turn_rules.specs.Plans.{Plan}

-- nothing has come
pub at_first : (plan : Plan) (records : List Record) (told : Told) (clients : ClientsTold) (advised : Option (List Command)) (l : Live) → l ≡ fresh_live l.sessions
    → At plan (beginning records l (around told clients advised)) (around told clients advised) l [] (arrive plan 0 0)
at_first plan records told clients advised l e = record {
  run = record {
    order = refl;
    stands = record {
      on = refl;
      members = sym (ap (λ (x : Live). map seen x.run.members) e);
      last = sym (ap (λ (x : Live). x.run.last) e);
      clock = subst (λ (x : Live). IsLast x.run.last told.last) (sym e) tt;
    };
    did = record {
      kept = λ actor. grew_none (told.kept actor) (told.kept actor) refl;
      sent = sent_none told;
      lines = grew_none told.held told.held refl;
    };
    handed = record { read = λ all is. is; heard = λ actor all is. is };
    stays = record { loans = refl; opened = refl; keeper = omega arith; sink = omega arith; clock = omega arith };
  };
  keeps = record {
    sessions = refl;
    pace = ap (λ (x : Live). x.pace) e;
    changes = sym (ap (λ (x : Live). x.changes) e);
    leaving = sym (ap (λ (x : Live). x.leaving) e);
    ending = sym (ap (λ (x : Live). x.ending) e);
  };
  due = tt;
  serves = serves_nothing clients;
  advised = refl;
}

pub can_start : (plan : Plan) (l : Live) (b : Told) → CanLive plan l b → CanStart plan l b
can_start plan l b c = record {
  service = c.service;
  ready = record {
    good = c.service.good;
    members = λ place m here. let e : None ≡ Some m = sym (ap (λ (x : Live). slice_get x.run.members place) c.fresh) ∙ here in cc;
    listen = c.listens;
    last = rw c.fresh tt;
  };
  nobody = ap (λ (x : Live). x.run) c.fresh;
  going = ap (λ (x : Live). x.ending) c.fresh;
  silent = c.silent;
}
