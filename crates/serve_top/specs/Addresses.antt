-- The addresses of a start.
use Rattle.std.specs.Prelude.{◌≡◌, ℕ, List, ◌∷◌, ◌++◌, All, Option, Some, None, Result, Ok, Err, map}
use Rattle.std.specs.declared.net.SocketAddr.{SocketAddr}
use Rattle.fabric_status.specs.declared.status.Status.TheVariants.{OutOfMemory}
use Rattle.fabric_terms.specs.declared.config.FabricConfig.{FabricConfig}
use Rattle.serve_edge.specs.Addresses.{ReadsAddress, shown}
use Rattle.serve_top.specs.declared.end.End.{End}
use Rattle.serve_top.specs.declared.end.End.TheVariants as end

-- the end at want of memory
abbrev pub short : End
short = end.As OutOfMemory

abbrev pub IsAddress : List ℕ → Type 0
IsAddress text = (address : SocketAddr) × ReadsAddress text (Some address)

-- where the actors are reached: the nodes in their order, and then the arbitrators
abbrev pub addresses_of : FabricConfig → List (List ℕ)
addresses_of c = map (λ n. n.at) c.nodes ++ map (λ a. a.1) c.arbiters

-- the first of these texts that is no address
pub record IsFirstBad (texts : List (List ℕ)) (bad : List ℕ) : Type 0 where
  pub good : List (List ℕ)
  pub rest : List (List ℕ)
  pub all : texts ≡ good ++ bad ∷ rest
  pub before : All IsAddress good
  pub none : ReadsAddress bad None

abbrev pub FindsBad : List (List ℕ) → Option (List ℕ) → Type 0
FindsBad texts None = All IsAddress texts
FindsBad texts (Some bad) = IsFirstBad texts bad

-- a text is refused as it is shown; memory for that may be short
abbrev pub RefusesAddress : List ℕ → End → Type 0
RefusesAddress text (end.Address bad) = bad.items ≡ shown text
RefusesAddress text e = e ≡ short

abbrev pub NeedsAddress : List ℕ → Result (Unit {0}) End → Type 0
NeedsAddress text (Ok done) = IsAddress text
NeedsAddress text (Err e) = ReadsAddress text None × RefusesAddress text e

-- all of these texts are addresses, or the first that is none is refused
abbrev pub NeedsAddresses : List (List ℕ) → Result (Unit {0}) End → Type 0
NeedsAddresses texts (Ok done) = All IsAddress texts
NeedsAddresses texts (Err e) = (bad : List ℕ) × IsFirstBad texts bad × RefusesAddress bad e
