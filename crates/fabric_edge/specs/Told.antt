-- What contracts see of a real device.
use Rattle.std.specs.Prelude.{ℕ, List}
use Rattle.edge_io.specs.declared.endpoint.Endpoint.{Endpoint}

-- links: the opened endpoints, and how often they failed
pub record ToldByLinks : Type 0 where
  pub opened : List Endpoint
  pub faults : ℕ
