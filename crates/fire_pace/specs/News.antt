-- Which steps of a node are news.
use Rattle.std.specs.Prelude.{ℕ, Bool, true, false, not, ◌||◌, List}
use Rattle.std.specs.List.{list_any}
use Rattle.fabric_terms.specs.declared.message.Body.{Body}
use Rattle.fabric_terms.specs.declared.message.Body.TheVariants as body
use Rattle.fabric_terms.specs.declared.report.Report.{Report}
use Rattle.fabric_terms.specs.declared.report.Report.TheVariants as report
use Rattle.ring_rules.specs.declared.input.Input.{Input}
use Rattle.ring_rules.specs.declared.input.Input.TheVariants as input

-- a step of a node: what came, what it reported, and the reading of its turn
pub record Step : Type 0 where
  pub input : Input
  pub told : List Report
  pub reading : ℕ

-- a frame is news unless it is a RenewAck, or a Renew without a wish for ranges
abbrev pub is_news_body : Body → Bool
is_news_body (body.Renew mine yours stamp version got want ranges) = want
is_news_body (body.RenewAck mine yours stamp version) = false
is_news_body _ = true

-- a command is news, and a firing is not
abbrev pub is_news_input : Input → Bool
is_news_input input.Fire = false
is_news_input (input.Frame message) = is_news_body message.body
is_news_input (input.Do command) = true

abbrev pub is_own : Report → Bool
is_own (report.Own ranges fence) = true
is_own _ = false

-- the step reports more than `own`
abbrev pub reports_more : List Report → Bool
reports_more told = list_any (λ r. not (is_own r)) told

abbrev pub is_news : Input → List Report → Bool
is_news input told = is_news_input input || reports_more told

abbrev pub is_firing : Input → Bool
is_firing input.Fire = true
is_firing (input.Frame message) = false
is_firing (input.Do command) = false
