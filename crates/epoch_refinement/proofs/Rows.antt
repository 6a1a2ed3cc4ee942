-- Each row of a replica and of an arbitrator is deeds.
use Rattle.std.proofs.Common.{◌≡◌, [], refl, sym, ap, ◌∙◌, subst}
use Rattle.fabric_terms.specs.declared.message.Body.TheVariants as body
use Rattle.epoch_machine.specs.Deeds.{Restarts}
use Rattle.epoch_machine.specs.Effects.{after}
use Rattle.epoch_machine.proofs.Replaced.{put_at}
use Rattle.epoch_machine.proofs.Histories.{deed_keeps}
use Rattle.unit_rules.specs.Registers.{prepare_received, vote_received, done_received}
use Rattle.epoch_refinement.specs.Laws.{ReplicaFramesAreDeeds, WritesAreDeeds, FiringsAreDeeds, RestartsAreDeeds, AnswersAreDeeds}
use Rattle.epoch_refinement.specs.Registers.{RefinedReply}
use Rattle.epoch_refinement.proofs.Doing.{nothing_refined}
use Rattle.epoch_refinement.proofs.Lasting.{deed_later}
use Rattle.epoch_refinement.proofs.Promising.{numbered_none, promise_refines}
use Rattle.epoch_refinement.proofs.Syncing.{sync_refines}
use Rattle.epoch_refinement.proofs.Fetching.{fetch_refines}
use Rattle.epoch_refinement.proofs.Copying.{piece_refines}
use Rattle.epoch_refinement.proofs.Appending.{append_refines}
use Rattle.epoch_refinement.proofs.Activating.{activate_refines}
use Rattle.epoch_refinement.proofs.Committing.{appended_refines}
use Rattle.epoch_refinement.proofs.Writing.{write_refines}
use Rattle.epoch_refinement.proofs.Sending.{fire_refines}
use Rattle.epoch_refinement.proofs.Registering.{prepare_refines, vote_refines, done_refines}

pub frames_are_deeds_lem : ReplicaFramesAreDeeds
frames_are_deeds_lem c w p me s inv shows from to (body.Promise q e) here shown = promise_refines inv p me s shows from e shown.0 shown.1
frames_are_deeds_lem c w p me s inv shows from to (body.Sync q e origin last) here shown =
    sync_refines inv p me s shows (record { epoch = e; origin = origin; last = last; asker = from }) shown
frames_are_deeds_lem c w p me s inv shows from to (body.Fetch q e lsn) here shown =
    fetch_refines inv p me s shows from e lsn (record { plan = shown.plan; synced = shown.synced; epoch = shown.epoch; origin_is = shown.origin_is ∙ here })
frames_are_deeds_lem c w p me s inv shows from to (body.Piece q e lsn entry_epoch text) here shown =
    piece_refines inv p me s shows e (record { epoch = entry_epoch; lsn = lsn; bytes = text }) shown
frames_are_deeds_lem c w p me s inv shows from to (body.Activate config) here shown = activate_refines inv p me s shows from config shown
frames_are_deeds_lem c w p me s inv shows from to (body.Append q e lsn text) here shown = append_refines inv p me s shows from e lsn text shown
frames_are_deeds_lem c w p me s inv shows from to (body.Appended q e last) here shown =
    appended_refines inv p me s shows from.actor last e shown.0 shown.1 shown.2
frames_are_deeds_lem c w p me s inv shows from to b here shown = nothing_refined inv shows

pub writes_are_deeds_lem : WritesAreDeeds
writes_are_deeds_lem c w p me s inv shows text = write_refines inv p me s shows text

pub firings_are_deeds_lem : FiringsAreDeeds
firings_are_deeds_lem c w p me s inv shows = fire_refines inv p me s shows

pub restarts_are_deeds_lem : RestartsAreDeeds
restarts_are_deeds_lem c w p me s inv shows = record {
  after = after w (Restarts me.actor);
  inv = deed_keeps inv (Restarts me.actor) tt;
  later = deed_later w (Restarts me.actor);
  shows = record {
    partition = shows.partition;
    promised = shows.promised;
    joined = shows.joined;
    log = shows.log;
    room = shows.room;
    collected = λ lt. put_at w.collected me.actor [];
    taken = λ t i. absurd (cc (i));
    reached = λ t n i. absurd (cc (i));
    numbered = shows.numbered;
    numbered_collected = numbered_none;
    idle = λ h. refl;
    progress = λ m i. absurd (cc (i));
  };
  sent = tt;
  told = refl;
}

pub answers_are_deeds_lem : AnswersAreDeeds
answers_are_deeds_lem c w p me from to (body.Prepare q e) r reply inv shows shown of same =
    let asked : prepare_received q e from r ≡ reply = cc in
    let is : prepare_received p e from r ≡ reply = ap (λ z. prepare_received z e from r) (sym of) ∙ asked in
    subst (RefinedReply c w p me from r) is (prepare_refines inv p me r shows from e shown.0 shown.1 shown.2 shown.3)
answers_are_deeds_lem c w p me from to (body.Vote config) r reply inv shows shown of same =
    let is : vote_received config r ≡ reply = cc in
    subst (RefinedReply c w p me from r) is (vote_refines inv p me r shows from config shown)
answers_are_deeds_lem c w p me from to (body.DoneAsk config) r reply inv shows shown of same =
    let is : done_received config r ≡ reply = cc in
    subst (RefinedReply c w p me from r) is (done_refines inv p me r shows from config shown)
answers_are_deeds_lem c w p me from to b r reply inv shows shown of same = absurd (cc (same))
