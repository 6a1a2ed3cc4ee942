-- What arbitrators have answered to accusers and claimers, by the frames that were sent, and what majorities never do.
use Rattle.std.specs.Prelude.{◌≡◌, ℕ, Bool, true, List, ◌⊎◌, length, count_by}
use Rattle.arbiter_quorum.specs.Tallies.{is_majority}
use Rattle.fabric_lemmas.specs.Members.{IsMember}
use Rattle.fabric_terms.specs.declared.config.FabricConfig.{FabricConfig}
use Rattle.fabric_terms.specs.declared.message.Body.TheVariants.{Ruled, Kept}
use Rattle.fabric_terms.specs.declared.message.Message.{Message}
use Rattle.ring_points.specs.declared.who.Ruling.{Ruling}
use Rattle.ring_points.specs.declared.who.Ruling.TheVariants.{Granted, Taken}
use Rattle.ring_points.specs.declared.who.Who.{Who}
use Rattle.world_rules.specs.Runs.{History, world_after}
use Rattle.world_rules.specs.Uppers.{Upper}
use Rattle.world_rules.specs.Worlds.{arbiter_who}

-- this arbitrator's answer to the accuser of the victim
abbrev pub answer_of : ℕ → Who → Who → Ruling → Message
answer_of arbiter accuser victim ruling = record { from = arbiter_who arbiter; to = accuser; body = Ruled victim ruling }

-- this arbitrator told somebody that it keeps x of the round about y; of the first round a grant tells it too
pub data Tells (frames : List Message) (arbiter : ℕ) (y : Who) (round : ℕ) (x : Who) : Type 0 where
  by_kept : (to : Who) → IsMember (record { from = arbiter_who arbiter; to = to; body = Kept y round x }) frames → Tells frames arbiter y round x
  by_grant : round ≡ 1 → IsMember (answer_of arbiter x y Granted) frames → Tells frames arbiter y round x

-- more than half of the configured arbitrators pass
abbrev pub most_arbitrators : FabricConfig → (ℕ → Bool) → Bool
most_arbitrators c by = is_majority (length c.arbiters) (count_by (λ arbiter. by arbiter.0) c.arbiters)

-- x is y's heir: a majority of the configured arbitrators keep it of one round
pub record MajorityKept (c : FabricConfig) (frames : List Message) (x y : Who) : Type 0 where
  pub round : ℕ
  pub by : ℕ → Bool
  pub tells : (arbiter : ℕ) → by arbiter ≡ true → Tells frames arbiter y round x
  pub most : most_arbitrators c by ≡ true

-- a majority of them answered x about y, and none of these refused
pub record MajorityAnswered (c : FabricConfig) (frames : List Message) (x y : Who) : Type 0 where
  pub by : ℕ → Bool
  pub answers : (arbiter : ℕ) → by arbiter ≡ true → IsMember (answer_of arbiter x y Granted) frames ⊎ IsMember (answer_of arbiter x y Taken) frames
  pub most : most_arbitrators c by ≡ true

-- no majority answered x about y while one answered y about x
abbrev pub AnswersExclude : Upper → FabricConfig → History → Type 0
AnswersExclude a c h =
    (x y : Who) → MajorityAnswered c (world_after a c h).frames x y → MajorityAnswered c (world_after a c h).frames y x → ⊥

-- one instance at most is kept by a majority about another, whatever the rounds
abbrev pub OneHeir : Upper → FabricConfig → History → Type 0
OneHeir a c h =
    (x y victim : Who) → MajorityKept c (world_after a c h).frames x victim → MajorityKept c (world_after a c h).frames y victim → x ≡ y
