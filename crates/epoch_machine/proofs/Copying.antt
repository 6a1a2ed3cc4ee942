-- A Piece that is sent or collected keeps the invariant.
use Rattle.std.proofs.Common.{◌≡◌, ℕ, ◌<◌, List, [], ◌∷◌, ◌++◌, length, ◌⊎◌, refl, sym, subst, inr, arith, ◌∙◌, ⊎_elim}
use Rattle.std.proofs.lemmas.Bool.{cases_lt}
use Rattle.epoch_machine.specs.Logs.{IsAt, Prefix, Entry}
use Rattle.epoch_machine.specs.Settings.{Settings}
use Rattle.epoch_machine.specs.Plans.{Plan}
use Rattle.epoch_machine.specs.World.{World}
use Rattle.epoch_machine.specs.Deeds.{Collects, SendsPiece}
use Rattle.epoch_machine.specs.Guards.{MayAdopt, Can}
use Rattle.epoch_machine.specs.Effects.{after}
use Rattle.epoch_machine.specs.SoundCopies.{CollectedFrom, SoundPiece}
use Rattle.epoch_machine.specs.Invariant.{Invariant}
use Rattle.epoch_machine.proofs.Members.{new_cases}
use Rattle.epoch_machine.proofs.Replaced.{put_cases}
use Rattle.epoch_machine.proofs.Prefixes.{prefix_nil, prefix_next, prefix_at_front}
use Rattle.epoch_machine.proofs.Kept.{one_sync}
use Rattle.epoch_machine.proofs.Adopting.{origin_of, origin_log, collected_begins}

module _ {c : Settings} {w : World} (inv : Invariant c w) where
  pub collects_keeps : (node : ℕ) (p : Plan) (before : List Entry) (entry : Entry) → Can c w (Collects node p before entry) →
      Invariant c (after w (Collects node p before entry))
  collects_keeps node p before entry can = record {
    registers = inv.registers;
    all_asked = inv.all_asked;
    attempts = inv.attempts;
    plans = inv.plans;
    stages = inv.stages;
    logs = inv.logs;
    promises = inv.promises;
    sayings = inv.sayings;
    copies = record {
      collection =
          put_cases (λ n l. (l ≡ []) ⊎ CollectedFrom w.syncs (w.promised n) l) w.collected node (before ++ (entry ∷ []))
          (inr (record { plan = p; synced = may.synced; epoch_is = sym may.promised; begins = prefix_next entry begun here })) (λ n d. inv.copies.collection n);
      piece = inv.copies.piece;
      append = inv.copies.append;
    };
    roles = inv.roles;
    reports = inv.reports;
  }
    where
      may : MayAdopt w node p
      may = can.0

      begun : Prefix before p.base
      begun = ⊎_elim
          (λ none. subst (λ l. Prefix l p.base) (sym none) (prefix_nil p.base))
          (λ is. subst (λ l. Prefix l p.base) (sym is) (collected_begins inv node p may)) can.1

      here : IsAt p.base (length before) entry
      here =
          let h = inv.copies.piece (record { epoch = p.epoch; place = length before; entry = entry }) can.3 in
          let one : h.plan ≡ p = one_sync inv h.plan p h.synced may.synced h.epoch_is in
          subst (λ (q : Plan). length before < length q.base → IsAt q.base (length before) entry) one h.is can.2

  pub sends_piece_keeps : (node place : ℕ) (p : Plan) (entry : Entry) → Can c w (SendsPiece node place p entry) →
      Invariant c (after w (SendsPiece node place p entry))
  sends_piece_keeps node place p entry can = record {
    registers = inv.registers;
    all_asked = inv.all_asked;
    attempts = inv.attempts;
    plans = inv.plans;
    stages = inv.stages;
    logs = inv.logs;
    promises = inv.promises;
    sayings = inv.sayings;
    copies = record {
      collection = inv.copies.collection;
      piece = new_cases (SoundPiece w.syncs) _ w.pieces (record { plan = p; synced = can.0; epoch_is = refl; is = here }) inv.copies.piece;
      append = inv.copies.append;
    };
    roles = inv.roles;
    reports = inv.reports;
  }
    where
      here : place < length p.base → IsAt p.base place entry
      here lt = ⊎_elim
          (λ before. subst (λ l. IsAt l place entry) (origin_log inv node p can.0 can.1 can.2 before (omega arith)) can.3)
          (λ le. ⊎_elim (λ none. absurd (let z = none.0 in let some = origin_of inv p can.0 (omega arith) in let b = some.before in omega arith))
          (λ l.
          let below = inv.logs.below node in
          let same : w.joined node ≡ p.epoch = let h = can.2 in omega arith in
          let one : l.plan ≡ p = one_sync inv l.plan p l.synced can.0 (l.epoch_is ∙ same) in
          let begins : Prefix p.base (w.log node) = subst (λ (q : Plan). Prefix q.base (w.log node)) one l.begins in
          prefix_at_front place entry begins lt can.3)
          (inv.logs.sound node))
          (cases_lt (w.joined node) p.epoch)
