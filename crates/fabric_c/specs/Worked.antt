-- Worked lines and rooms.
use Rattle.std.specs.Prelude.{ℕ, List, [], ◌∷◌, codes}

-- instance 1 of node 1 acknowledges a renewal of instance 1 of node 2
abbrev pub acknowledged_frame : List ℕ
acknowledged_frame = 83 ∷ 1 ∷ 5 ∷ 0 ∷ 1 ∷ 0 ∷ 0 ∷ 0 ∷ 1 ∷ 0 ∷ 2 ∷ 0 ∷ 0 ∷ 0 ∷ 1 ∷ 0 ∷ 0 ∷ 0 ∷ 1 ∷ 0 ∷ 0 ∷ 0 ∷ 1
    ∷ 0 ∷ 0 ∷ 0 ∷ 0 ∷ 0 ∷ 0 ∷ 0 ∷ 100 ∷ 0 ∷ 0 ∷ 0 ∷ 1 ∷ []

abbrev pub acknowledged_line : List ℕ
acknowledged_line = codes "5301050001000000010002000000010000000100000001000000000000006400000001 RenewAck 1.1 2.1"

-- instance 1 of node 1 is claimed in round 2 by instance 1 of node 3
abbrev pub claimed_record : List ℕ
claimed_record = 10 ∷ 0 ∷ 1 ∷ 0 ∷ 0 ∷ 0 ∷ 1 ∷ 2 ∷ 0 ∷ 3 ∷ 0 ∷ 0 ∷ 0 ∷ 1 ∷ []

abbrev pub claimed_line : List ℕ
claimed_line = codes "0a00010000000102000300000001 ClaimedBy"

-- five bytes of a caller
abbrev pub five : List ℕ
five = 9 ∷ 9 ∷ 9 ∷ 9 ∷ 9 ∷ []
