-- The kinds of frames, as the formats number and name them.
use Rattle.std.specs.Prelude.{ℕ, List, [], ◌∷◌, codes}

abbrev pub kind_numbers : List ℕ
kind_numbers =
    1 ∷ 2 ∷ 3 ∷ 4 ∷ 5 ∷ 6 ∷ 7 ∷ 8 ∷ 9 ∷ 16 ∷ 17 ∷ 18 ∷ 19 ∷ 32 ∷ 33 ∷ 34 ∷ 35 ∷ 36 ∷ 37 ∷ 38 ∷ 39 ∷ 40
    ∷ 48 ∷ 49 ∷ 50 ∷ 51 ∷ 52 ∷ 53 ∷ 54 ∷ 55 ∷ 56 ∷ 57 ∷ 58 ∷ []

-- in the same order
abbrev pub kind_names : List (List ℕ)
kind_names =
    codes "Hello" ∷ codes "Offer" ∷ codes "Take" ∷ codes "Renew" ∷ codes "RenewAck" ∷ codes "Transfer" ∷ codes "Gone"
    ∷ codes "Seek" ∷ codes "Found" ∷ codes "Accuse" ∷ codes "Ruled" ∷ codes "Claim" ∷ codes "Kept" ∷ codes "Prepare"
    ∷ codes "Prepared" ∷ codes "NoPrepare" ∷ codes "Vote" ∷ codes "Voted" ∷ codes "NoVote" ∷ codes "DoneAsk"
    ∷ codes "DoneKept" ∷ codes "NoDone" ∷ codes "Promise" ∷ codes "Promised" ∷ codes "Sync" ∷ codes "Fetch"
    ∷ codes "Piece" ∷ codes "Adopted" ∷ codes "Activate" ∷ codes "Activated" ∷ codes "Append" ∷ codes "Appended"
    ∷ codes "Older" ∷ []
