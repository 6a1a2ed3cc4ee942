-- What a client of the page wants.
use Rattle.std.specs.Prelude.{◌≡◌, ◌≢◌, ℕ, ◌<◌, ◌≤◌, List, ◌++◌, length, codes, if◌then◌else◌}
use Rattle.std.specs.Str.{bytes_eq}
use Rattle.httparse.specs.Grammar.{HasNoRequest, MayBecomeRequest, ReadsRequest, RequestHead, print_request}
use Rattle.door_io.specs.Pages.{most_head}
use Rattle.status_page.specs.declared.wanted.Wanted.{Wanted}
use Rattle.status_page.specs.declared.wanted.Wanted.TheVariants as wanted

-- the most fields of a head
abbrev pub most_fields : ℕ
most_fields = 32

-- a head within the limits of the page
pub record FitsPage (h : RequestHead) : Type 0 where
  pub bytes : length (print_request h) ≤ most_head
  pub fields : length h.fields ≤ most_fields

abbrev pub page_at : List ℕ → Wanted
page_at path =
    if bytes_eq path (codes "/metrics") then wanted.Metrics
    else (if bytes_eq path (codes "/state") then wanted.State
    else (if bytes_eq path (codes "/healthz") then wanted.Health else wanted.OtherPath))

-- what a request of this method for this path wants
abbrev pub page_of : List ℕ → List ℕ → Wanted
page_of method path = if bytes_eq method (codes "GET") then page_at path else wanted.OtherMethod

-- What a client wants whose head has come so far. A head that fits is answered for what it says. The page waits only
-- where no head has come, there is room for more, and more can make a head or goes on with a path. What is bad is the
-- front of no head that fits, whatever follows. All else is said of a head that fits.
pub record IsWanted (bytes : List ℕ) (w : Wanted) : Type 0 where
  pub whole : (h : RequestHead) (rest : List ℕ) → ReadsRequest bytes h rest → FitsPage h → w ≡ page_of h.method h.target
  pub waits : w ≡ wanted.More → HasNoRequest bytes × (length bytes < most_head) × MayBecomeRequest bytes
  pub bad : w ≡ wanted.Bad → (more : List ℕ) (h : RequestHead) (rest : List ℕ) → ReadsRequest (bytes ++ more) h rest → ¬ (FitsPage h)
  pub answered : w ≢ wanted.More → w ≢ wanted.Bad → (h : RequestHead) × (rest : List ℕ) × ReadsRequest bytes h rest × FitsPage h
