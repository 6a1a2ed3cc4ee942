-- The whole answers of the page.
use Rattle.std.specs.Prelude.{ℕ, Bool, List, ◌++◌, length, codes, decimal, if◌then◌else◌}
use Rattle.join_phases.specs.declared.phases.Phase.{Phase}
use Rattle.status_page.specs.declared.answer.Answer.{Answer}
use Rattle.status_page.specs.declared.answer.Answer.TheVariants as answer
use Rattle.status_page.specs.declared.answer.Plain.{Plain}
use Rattle.status_page.specs.declared.answer.Plain.TheVariants.{Routing, NotRouting, NotFound, NotAllowed, BadRequest}
use Rattle.status_page.specs.declared.counts.Counts.{Counts}
use Rattle.status_page.specs.declared.state.DoorFacts.{DoorFacts}
use Rattle.status_page.specs.declared.state.NodeFacts.{NodeFacts}
use Rattle.status_page.specs.declared.wanted.Wanted.{Wanted}
use Rattle.status_page.specs.declared.wanted.Wanted.TheVariants as wanted
use Rattle.status_page.specs.Metrics.{metrics_text}
use Rattle.status_page.specs.States.{arbiter_text, node_text}

-- a node that routes is well, and so is each arbitrator
abbrev pub health_of : Bool → Plain
health_of routes = if routes then Routing else NotRouting

-- how each want is answered
abbrev pub answer_for : Wanted → Bool → Answer
answer_for wanted.More routes = answer.Wait
answer_for wanted.Bad routes = answer.Says BadRequest
answer_for wanted.OtherMethod routes = answer.Says NotAllowed
answer_for wanted.OtherPath routes = answer.Says NotFound
answer_for wanted.Metrics routes = answer.Metrics
answer_for wanted.State routes = answer.State
answer_for wanted.Health routes = answer.Says (health_of routes)

-- the status, and the fields that it needs
abbrev pub status_text : Plain → List ℕ
status_text Routing = codes "200 OK"
status_text NotRouting = codes "503 Service Unavailable"
status_text NotFound = codes "404 Not Found"
status_text NotAllowed = codes "405 Method Not Allowed\r\nAllow: GET"
status_text BadRequest = codes "400 Bad Request"

abbrev pub plain_body : Plain → List ℕ
plain_body Routing = codes "ok"
plain_body NotRouting = codes "not routing"
plain_body NotFound = codes "not found"
plain_body NotAllowed = codes "only GET"
plain_body BadRequest = codes "bad request"

-- an answer of this status, with a body of this type
unfoldable pub answer_text : List ℕ → List ℕ → List ℕ → List ℕ
answer_text status type_name body =
    codes "HTTP/1.0 "
    ++ (status
    ++ (codes "\r\nContent-Type: "
    ++ (type_name
    ++ (codes "\r\nContent-Length: "
    ++ (decimal (length body) ++ (codes "\r\nConnection: close\r\n\r\n" ++ body))))))

abbrev pub plain_text : Plain → List ℕ
plain_text plain = answer_text (status_text plain) (codes "text/plain") (plain_body plain)

abbrev pub metrics_page : Counts → List ℕ
metrics_page counts = answer_text (status_text Routing) (codes "text/plain; version=0.0.4") (metrics_text counts)

abbrev pub node_page : Phase → NodeFacts → DoorFacts → List ℕ
node_page phase node door = answer_text (status_text Routing) (codes "application/json") (node_text phase node door)

abbrev pub arbiter_page : ℕ → ℕ → DoorFacts → List ℕ
arbiter_page arbiter entries door =
    answer_text (status_text Routing) (codes "application/json") (arbiter_text arbiter entries door)
