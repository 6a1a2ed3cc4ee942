-- A push and a take keep what the queue promises.
use Rattle.std.proofs.Common.{arith, ◌≡◌, ℕ, ◌<◌, ◌≤◌, true, false, List, [], ◌∷◌, ◌++◌, length, take, drop, ap, ◌∙◌, append_assoc, inl, inr}
use Rattle.std.proofs.lemmas.List.{take-append-drop}
use Rattle.std.proofs.lemmas.Bool.{cases_Bool}
use Rattle.log_lines.specs.Pieces.{Push, Line, Notice, Went, lost}
use Rattle.log_lines.specs.Queues.{Queue, greatest_count, has_room, notice, owes_notice, queue_after, with_line, without_line}

lost-le : (pushes : List Push) → lost pushes ≤ length pushes
lost-le [] = omega arith
lost-le (p ∷ before) = elim (cases_Bool p.found_room) [
  | inl found ↦ rw found (omega (arith, lost-le before))
  | inr none ↦ rw none (omega (arith, lost-le before))
]

-- a piece more, and a line more
behind : (taken bytes n time line text : List ℕ) → taken ++ bytes ≡ text → taken ++ (bytes ++ n ++ time ++ line) ≡ text ++ n ++ (time ++ line)
behind taken bytes n time line text is =
    let right : taken ++ (bytes ++ n ++ time ++ line) ≡ (taken ++ bytes) ++ n ++ (time ++ line) = simp append_assoc in
    right ∙ ap (λ t. t ++ n ++ (time ++ line)) is

alone : (taken bytes time line text : List ℕ) → taken ++ bytes ≡ text → taken ++ (bytes ++ [] ++ time ++ line) ≡ text ++ (time ++ line)
alone taken bytes time line text is =
    let right : taken ++ (bytes ++ [] ++ time ++ line) ≡ (taken ++ bytes) ++ (time ++ line) = simp append_assoc in
    right ∙ ap (λ t. t ++ (time ++ line)) is

found : (pushes : List Push) (taken : List ℕ) (q : Queue) (time line : List ℕ) → Went pushes taken q → Went (record { line = time ++ line; found_room = true } ∷ pushes) taken (with_line q time line)
found pushes taken q time line went = elim (cases_Bool (owes_notice q)) [
  | inl owes ↦ rw owes (record {
    pieces = Line (time ++ line) ∷ Notice time q.dropped ∷ went.pieces;
    bytes = behind taken q.bytes (notice time q.dropped) time line _ went.bytes;
    in_order = ap (λ all. (time ++ line) ∷ all) went.in_order;
    counted = omega (arith, went.counted);
  })
  | inr nothing ↦ rw nothing (record {
    pieces = Line (time ++ line) ∷ went.pieces;
    bytes = alone taken q.bytes time line _ went.bytes;
    in_order = ap (λ all. (time ++ line) ∷ all) went.in_order;
    counted = went.counted;
  })
]

unfound : (pushes : List Push) (taken : List ℕ) (q : Queue) (line : List ℕ) → length pushes < greatest_count → Went pushes taken q → Went (record { line = line; found_room = false } ∷ pushes) taken (without_line q)
unfound pushes taken q line short went = record {
  pieces = went.pieces;
  bytes = went.bytes;
  in_order = went.in_order;
  counted = omega (arith, went.counted, lost-le pushes);
}

pub push_keeps : (pushes : List Push) (taken : List ℕ) (q : Queue) (time line : List ℕ) → length pushes < greatest_count → Went pushes taken q → Went (record { line = time ++ line; found_room = has_room q time line } ∷ pushes) taken (queue_after q time line)
push_keeps pushes taken q time line short went = elim (cases_Bool (has_room q time line)) [
  | inl room ↦ rw room (found pushes taken q time line went)
  | inr none ↦ rw none (unfound pushes taken q (time ++ line) short went)
]

pub take_keeps : (pushes : List Push) (taken : List ℕ) (q : Queue) (count : ℕ) → Went pushes taken q → Went pushes (taken ++ take count q.bytes) (record q { bytes = drop count q.bytes })
take_keeps pushes taken q count went = record {
  pieces = went.pieces;
  bytes = append_assoc taken (take count q.bytes) (drop count q.bytes) ∙ ap (λ bytes. taken ++ bytes) (take-append-drop count q.bytes) ∙ went.bytes;
  in_order = went.in_order;
  counted = went.counted;
}
