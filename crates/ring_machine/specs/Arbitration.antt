-- What arbitrators answer, and what the answers of a majority mean.
use Rattle.std.specs.Prelude.{◌≡◌, ℕ, zero, suc, ◌+◌, ◌<◌, ◌==◌, Bool, true, false, cond, nat_lt, List, [], ◌∷◌, ◌++◌, Option, None, Some, ◌⊎◌}
use Rattle.ring_points.specs.declared.who.Who.{Who}
use Rattle.ring_points.specs.declared.who.Ruling.{Ruling}
use Rattle.ring_points.specs.declared.who.Ruling.TheVariants.{Granted, Taken, Refused}
use Rattle.ring_points.specs.Whos.{same_who}
use Rattle.fabric_lemmas.specs.Members.{IsMember}
use Rattle.ring_machine.specs.Ends.{updated, replaced}
use Rattle.ring_machine.specs.Frames.{Frame, Ruled, Kept}
use Rattle.ring_machine.specs.World.{Settings, World}

-- the answer to the accuser, where accused is its own first accuser and first that of the victim
abbrev pub ruling_of : (accused first : Option Who) → Who → Ruling
ruling_of (Some z) first accuser = Refused
ruling_of None None accuser = Granted
ruling_of None (Some z) accuser = cond (same_who z accuser) Granted Taken

-- the victim's first accuser after the answer
abbrev pub first_after : Ruling → Option Who → Who → Option Who
first_after Granted first accuser = Some accuser
first_after Taken first accuser = first
first_after Refused first accuser = first

-- the arbitrator answers the accuser of the victim
abbrev pub ruled : World → ℕ → Who → Who → World
ruled w arbiter accuser victim =
    let table = w.first_accuser arbiter in
    let ruling = ruling_of (table accuser) (table victim) accuser in
    record w {
      first_accuser = replaced w.first_accuser arbiter (updated table victim (first_after ruling (table victim) accuser));
      sent = Ruled arbiter accuser victim ruling ∷ w.sent;
    }

-- whom the arbitrator keeps of the round about the victim: of the first round its first accuser
abbrev pub kept_of : World → ℕ → Who → ℕ → Option Who
kept_of w arbiter victim round = cond (round == 1) (w.first_accuser arbiter victim) (w.first_claimer arbiter victim round)

-- the same after a claim, which makes nobody a first accuser
abbrev pub kept_after : (is_first : Bool) → Option Who → Who → Option Who
kept_after is_first (Some z) claimer = Some z
kept_after true None claimer = None
kept_after false None claimer = Some claimer

-- the answer to a claim, where somebody is kept
abbrev pub kept_answer : ℕ → Who → ℕ → Option Who → List Frame
kept_answer arbiter victim round None = []
kept_answer arbiter victim round (Some z) = Kept arbiter victim round z ∷ []

-- the arbitrator answers the claim of a round about the victim
abbrev pub claimed : World → ℕ → Who → Who → ℕ → World
claimed w arbiter claimer victim round =
    let table = w.first_claimer arbiter in
    let kept = kept_after (round == 1) (kept_of w arbiter victim round) claimer in
    record w {
      first_claimer = replaced w.first_claimer arbiter (updated table victim (replaced (table victim) round kept));
      sent = kept_answer arbiter victim round kept ++ w.sent;
    }

-- how many of the arbitrators 1 to n pass
abbrev pub count_to : (ℕ → Bool) → ℕ → ℕ
count_to f zero = 0
count_to f (suc n) = cond (f (suc n)) (suc (count_to f n)) (count_to f n)

-- more than half of the arbitrators pass
abbrev pub is_majority : Settings → (ℕ → Bool) → Bool
is_majority c f = nat_lt c.arbiters (count_to f c.arbiters + count_to f c.arbiters)

-- the arbitrator told that it keeps x of the round about y: of the first round by a grant too
pub data Tells (sent : List Frame) (a : ℕ) (y : Who) (round : ℕ) (x : Who) : Type 0 where
  by_kept : IsMember (Kept a y round x) sent → Tells sent a y round x
  by_grant : round ≡ 1 → IsMember (Ruled a x y Granted) sent → Tells sent a y round x

-- a majority of arbitrators keep x of the round about y
pub record KeptIn (c : Settings) (sent : List Frame) (y : Who) (round : ℕ) (x : Who) : Type 0 where
  pub by : ℕ → Bool
  pub tells : (a : ℕ) → by a ≡ true → Tells sent a y round x
  pub most : is_majority c by ≡ true

-- x is y's heir by the arbitrators: a majority keep it of one round
pub record HeirBy (c : Settings) (sent : List Frame) (x y : Who) : Type 0 where
  pub round : ℕ
  pub kept : KeptIn c sent y round x

-- an arbitrator that told this may keep z
abbrev pub may_keep : Who → Option Who → Bool
may_keep z None = true
may_keep z (Some u) = same_who u z

-- nobody can have a majority in the round about y: by what arbitrators told, those that may keep one are no majority
pub record IsSplit (c : Settings) (sent : List Frame) (y : Who) (round : ℕ) : Type 0 where
  pub told : ℕ → Option Who
  pub tells : (a : ℕ) (z : Who) → told a ≡ Some z → Tells sent a y round z
  pub none : (z : Who) → is_majority c (λ a. may_keep z (told a)) ≡ false

-- the round about y may be claimed: rounds count from 1, and each before it is split
pub record IsOpen (c : Settings) (sent : List Frame) (y : Who) (round : ℕ) : Type 0 where
  pub counted : 0 < round
  pub before : (r : ℕ) → 0 < r → r < round → IsSplit c sent y r

-- the arbitrator answered x about y, and did not refuse
abbrev pub Answered : List Frame → ℕ → Who → Who → Type 0
Answered sent a x y = IsMember (Ruled a x y Granted) sent ⊎ IsMember (Ruled a x y Taken) sent

-- a majority of arbitrators granted x's accusation of y, or had another first accuser
pub record AnsweredBy (c : Settings) (sent : List Frame) (x y : Who) : Type 0 where
  pub by : ℕ → Bool
  pub answers : (a : ℕ) → by a ≡ true → Answered sent a x y
  pub most : is_majority c by ≡ true
