-- The law of frames: what is read is spelled so, and what is spelled so is read.
use Rattle.std.proofs.Common.{◌≡◌, ℕ, Bool, true, false, cond, List, [], ◌∷◌, ◌++◌, Option, Some, None, refl, ap, sym, subst, ◌∙◌}
use Rattle.std.specs.Prelude.{IsTrue, ◌==◌, ◌&&◌}
use Rattle.std.proofs.lemmas.Bool.{eqb-true, and_parts, and_from}
use Rattle.fabric_terms.specs.declared.message.Message.{Message}
use Rattle.fabric_terms.specs.declared.message.Body.{Body}
use Rattle.fabric_terms.specs.declared.message.Body.TheVariants.{Hello, HelloFor, Offer, OfferFor, Take, Renew, RenewAck, Transfer, Gone, Seek, Found, Accuse, Ruled, Claim, Kept, Prepare, Prepared, NoPrepare, Vote, Voted, NoVote, DoneAsk, DoneKept, NoDone, Promise, Promised, Sync, Fetch, Piece, Adopted, Activate, Activated, Append, Appended, Older}
use Rattle.ring_points.specs.declared.who.Who.{Who}
use Rattle.frame_format.specs.declared.frame_head.FrameHead.{FrameHead}
use Rattle.fabric_terms.specs.Fields.{is_sender, is_addressee}
use Rattle.wire_fields.specs.Texts.{one_byte, who_bytes}
use Rattle.fabric_terms.specs.Messages.{is_sound_body, is_sound}
use Rattle.frame_format.specs.Frames.{version_of, kind_of, body_bytes, spelling}
use Rattle.wire_fields.specs.Readers.{◌>>=◌, Field, such, byte_at}
use Rattle.frame_format.specs.Kinds.{body_of, head_at, message_of}
use Rattle.frame_format.specs.Links.{links_of, leases_of}
use Rattle.frame_format.specs.Searches.{searches_of}
use Rattle.frame_format.specs.Rulings.{rulings_of}
use Rattle.frame_format.specs.Partitions.{partitions_of}
use Rattle.frame_format.specs.Replicas.{replicas_of}
use Rattle.wire_fields.proofs.Numbers.{AreBytes, bytes_behind}
use Rattle.wire_fields.proofs.Forms.{IsField, bind_some, some_same, such_is, pair_is, made_is, byte_is}
use Rattle.wire_fields.proofs.FieldLaws.{sender_is, addressee_is}
use Rattle.frame_format.proofs.BodyForms.{IsSpelled, Finds}
use Rattle.frame_format.proofs.LinksLaws.{hello_again, hello_for_again, offer_again, offer_for_again, take_again, renew_again, renew_ack_again, transfer_again, gone_again, links_found, leases_found}
use Rattle.frame_format.proofs.SearchesLaws.{seek_again, found_again}
use Rattle.frame_format.proofs.RulingsLaws.{accuse_again, ruled_again, claim_again, kept_again}
use Rattle.frame_format.proofs.PartitionsLaws.{prepare_again, prepared_again, no_prepare_again, vote_again, voted_again, no_vote_again, done_ask_again, done_kept_again, no_done_again}
use Rattle.frame_format.proofs.ReplicasLaws.{promise_again, promised_again, sync_again, fetch_again, piece_again, adopted_again, activate_again, activated_again, append_again, appended_again, older_again}

pub body_found : (version kind : ℕ) → Finds version kind (body_of version kind)
unfolding body_of
body_found version kind = record { found = λ bytes b h e. first bytes b h (version == 1) refl e }
  where
    second : (bytes : List ℕ) (b : Body) → AreBytes bytes → (t : Bool) → (version == 2) ≡ t → cond t (leases_of kind bytes) None ≡ Some b → IsSpelled version kind bytes b
    second bytes b h true t e =
        let P : ℕ → Type 0 = λ v. IsSpelled v kind bytes b in subst P (sym (eqb-true version 2 t)) ((leases_found kind).found bytes b h e)
    second bytes b h false t e = cc

    first : (bytes : List ℕ) (b : Body) → AreBytes bytes → (t : Bool) → (version == 1) ≡ t → cond t (links_of kind bytes) (cond (version == 2) (leases_of kind bytes) None) ≡ Some b → IsSpelled version kind bytes b
    first bytes b h true t e =
        let P : ℕ → Type 0 = λ v. IsSpelled v kind bytes b in subst P (sym (eqb-true version 1 t)) ((links_found kind).found bytes b h e)
    first bytes b h false t e = second bytes b h (version == 2) refl e

pub body_again : (b : Body) → IsTrue (is_sound_body b) → body_of (version_of b) (kind_of b) (body_bytes b) ≡ Some b
unfolding body_of links_of leases_of searches_of rulings_of partitions_of replicas_of
body_again (Hello mine) h = hello_again mine h
body_again (HelloFor mine length) h = hello_for_again mine length h
body_again (Offer mine yours) h = offer_again mine yours h
body_again (OfferFor mine yours length) h = offer_for_again mine yours length h
body_again (Take mine yours) h = take_again mine yours h
body_again (Renew mine yours stamp version got want ranges) h = renew_again mine yours stamp version got want ranges h
body_again (RenewAck mine yours stamp version) h = renew_ack_again mine yours stamp version h
body_again (Transfer mine yours flight ranges) h = transfer_again mine yours flight ranges h
body_again (Gone mine yours got bound) h = gone_again mine yours got bound h
body_again (Seek origin key hops) h = seek_again origin key hops h
body_again (Found key holder) h = found_again key holder h
body_again (Accuse victim) h = accuse_again victim h
body_again (Ruled victim ruling) h = ruled_again victim ruling h
body_again (Claim victim round) h = claim_again victim round h
body_again (Kept victim round claimer) h = kept_again victim round claimer h
body_again (Prepare partition epoch) h = prepare_again partition epoch h
body_again (Prepared partition epoch config) h = prepared_again partition epoch config h
body_again (NoPrepare partition epoch kept) h = no_prepare_again partition epoch kept h
body_again (Vote config) h = vote_again config h
body_again (Voted partition epoch kept) h = voted_again partition epoch kept h
body_again (NoVote partition epoch kept) h = no_vote_again partition epoch kept h
body_again (DoneAsk config) h = done_ask_again config h
body_again (DoneKept partition epoch) h = done_kept_again partition epoch h
body_again (NoDone partition epoch kept) h = no_done_again partition epoch kept h
body_again (Promise partition epoch) h = promise_again partition epoch h
body_again (Promised partition epoch at last) h = promised_again partition epoch at last h
body_again (Sync partition epoch origin last) h = sync_again partition epoch origin last h
body_again (Fetch partition epoch lsn) h = fetch_again partition epoch lsn h
body_again (Piece partition epoch lsn entry_epoch text) h = piece_again partition epoch lsn entry_epoch text h
body_again (Adopted partition epoch last) h = adopted_again partition epoch last h
body_again (Activate config) h = activate_again config h
body_again (Activated partition epoch) h = activated_again partition epoch h
body_again (Append partition epoch lsn text) h = append_again partition epoch lsn text h
body_again (Appended partition epoch last) h = appended_again partition epoch last h
body_again (Older partition epoch kept) h = older_again partition epoch kept h

pub head_is : IsField head_at (λ h. is_sender h.from && is_addressee h.to) (λ h. (83 ∷ h.version ∷ h.kind ∷ []) ++ who_bytes h.from ++ who_bytes h.to)
unfolding head_at one_byte
head_is =
    made_is (pair_is (pair_is (pair_is (pair_is first byte_is) byte_is) sender_is) addressee_is) (λ x. record { version = x.0.0.0.1; kind = x.0.0.1; from = x.0.1; to = x.1 }) (λ h. ((((83, h.version), h.kind), h.from), h.to)) there (λ h. refl)
  where
    first : IsField (such (λ n. n == 83) byte_at) (λ n. n == 83) one_byte
    first = such_is byte_is (λ n. n == 83) (λ n. n == 83) (λ n a b. b) (λ n h. (refl, h))

    there : (x : (((ℕ × ℕ) × ℕ) × Who) × Who) → IsTrue ((x.0.0.0.0 == 83) && true && true && is_sender x.0.1 && is_addressee x.1) → ((((83, x.0.0.0.1), x.0.0.1), x.0.1), x.1) ≡ x
    there x h =
        let p = and_parts ((x.0.0.0.0 == 83) && true && true && is_sender x.0.1) (is_addressee x.1) h in
        let q = and_parts ((x.0.0.0.0 == 83) && true && true) (is_sender x.0.1) p.0 in
        let r = and_parts ((x.0.0.0.0 == 83) && true) true q.0 in
        let s = and_parts (x.0.0.0.0 == 83) true r.0 in
        ap (λ n. ((((n, x.0.0.0.1), x.0.0.1), x.0.1), x.1)) (sym (eqb-true x.0.0.0.0 83 s.0))

abbrev with_body : FrameHead → Option Body → Option Message
with_body h o = o >>= λ body. Some (record { from = h.from; to = h.to; body = body })

pub message_found : (bytes : List ℕ) (m : Message) → AreBytes bytes → message_of bytes ≡ Some m → IsTrue (is_sound m) × (spelling m ≡ bytes)
unfolding message_of
message_found bytes m h e =
    let a = bind_some (head_at bytes) (λ (x : FrameHead × List ℕ). with_body x.0 (body_of x.0.version x.0.kind x.1)) m e in
    let head = a.0.0 in
    let rest = a.0.1 in
    let f = head_is.found bytes a.0 h a.1 in
    let b = bind_some (body_of head.version head.kind rest) (λ body. Some (record { from = head.from; to = head.to; body = body })) m a.2 in
    let front = (83 ∷ head.version ∷ head.kind ∷ []) ++ who_bytes head.from ++ who_bytes head.to in
    let g = (body_found head.version head.kind).found rest b.0 (bytes_behind bytes front rest h f.1) b.1 in
    let P : Message → Type 0 = λ n. IsTrue (is_sound n) × (spelling n ≡ bytes) in
    subst P (some_same (record { from = head.from; to = head.to; body = b.0 }) m b.2) (
      and_from (is_sender head.from && is_addressee head.to) (is_sound_body b.0) f.0 g.sound,
      ap (λ v. (83 ∷ v ∷ kind_of b.0 ∷ []) ++ who_bytes head.from ++ who_bytes head.to ++ body_bytes b.0) g.version_is
          ∙ (ap (λ k. (83 ∷ head.version ∷ k ∷ []) ++ who_bytes head.from ++ who_bytes head.to ++ body_bytes b.0) g.kind_is ∙ sym (f.1 ∙ ap (λ r. front ++ r) g.spelled)),
    )

pub message_again : (m : Message) → IsTrue (is_sound m) → message_of (spelling m) ≡ Some m
unfolding message_of
message_again m h =
    let p = and_parts (is_sender m.from && is_addressee m.to) (is_sound_body m.body) h in
    let head : FrameHead = record { version = version_of m.body; kind = kind_of m.body; from = m.from; to = m.to } in
    ap (λ (o : Field FrameHead). o >>= λ x. with_body x.0 (body_of x.0.version x.0.kind x.1)) (head_is.again head (body_bytes m.body) p.0)
    ∙ ap (with_body head) (body_again m.body p.1)
