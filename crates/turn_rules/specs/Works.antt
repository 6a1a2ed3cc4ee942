-- A step as the devices see it: records and frames as bytes, each frame to an address, and reports as text.
use Rattle.std.specs.Prelude.{ℕ, Bool, true, false, List, [], ◌∷◌, ◌++◌, Option, Some, None, ◌==◌, find, map, option_map}
use Rattle.fabric_terms.specs.declared.config.FabricConfig.{FabricConfig}
use Rattle.fabric_terms.specs.declared.message.Message.{Message}
use Rattle.fabric_terms.specs.declared.record.Record.{Record}
use Rattle.fabric_terms.specs.declared.report.Head.{Head}
use Rattle.fabric_terms.specs.declared.report.Report.{Report}
use Rattle.fabric_terms.specs.Sent.{from_all}
use Rattle.keep_log.specs.Spellings.{spelling as record_spelling}
use Rattle.frame_format.specs.Frames.{spelling as frame_spelling}
use Rattle.line_format.specs.Reports.{lines_of_reports}
use Rattle.world_rules.specs.Events.{arbiter_number, is_arbiter_actor}
use Rattle.turn_rules.specs.Steps.{Step}

-- a datagram to be sent: where to, and its bytes
pub record Post : Type 0 where
  pub to : List ℕ
  pub bytes : List ℕ

-- whose work it is, what is to be kept, then what is to be sent, then what is to be written
pub record Work : Type 0 where
  pub actor : ℕ
  pub records : List (List ℕ)
  pub posts : List Post
  pub lines : List ℕ

abbrev pub address_as : FabricConfig → ℕ → Bool → Option (List ℕ)
address_as c actor true = option_map (λ a. a.1) (find (λ a. a.0 == arbiter_number actor) c.arbiters)
address_as c actor false = option_map (λ n. n.at) (find (λ n. n.node == actor) c.nodes)

-- where an actor listens, if it is configured
unfoldable pub address_of : FabricConfig → ℕ → Option (List ℕ)
address_of c actor = address_as c actor (is_arbiter_actor actor)

abbrev pub post_at : Message → Option (List ℕ) → List Post
post_at m None = []
post_at m (Some at) = record { to = at; bytes = frame_spelling m } ∷ []

-- a frame goes to its addressee; to an actor that is not configured none is sent
abbrev pub post_of : FabricConfig → Message → List Post
post_of c m = post_at m (address_of c m.to.actor)

abbrev pub posts_of : FabricConfig → List Message → List Post
posts_of c [] = []
posts_of c (m ∷ ms) = post_of c m ++ posts_of c ms

-- the work of an actor whose lines have this head
abbrev pub work_with : FabricConfig → Head → List Record → List Message → List Report → Work
work_with c head records frames told = record {
  actor = head.who.actor;
  records = map record_spelling records;
  posts = posts_of c frames;
  lines = lines_of_reports head told;
}

-- a running program's lines are headed by the turn, and it knows no true time
abbrev pub head_of : Step → Head
head_of s = record { line = s.turn; time = None; who = s.who; reading = s.reading }

abbrev pub work_of : FabricConfig → Step → Work
work_of c s = work_with c (head_of s) s.records (from_all s.who s.sent) s.told

abbrev pub works_of : FabricConfig → List Step → List Work
works_of c steps = map (work_of c) steps
