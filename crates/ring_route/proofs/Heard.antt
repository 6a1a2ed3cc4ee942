-- The entries after a node was heard.
use Rattle.std.proofs.Common.{◌≡◌, ◌∙◌, ℕ, true, false, List, [], ◌∷◌, ◌++◌, length, refl, sym, ap, arith}
use Rattle.std.specs.List.{list_any, refill}
use Rattle.ring_points.specs.declared.who.Who.{Who}
use Rattle.ring_route.specs.declared.known.Known.{Known}
use Rattle.ring_route.specs.Entries.{is_node, is_known, IsTable}
use Rattle.ring_route.specs.Routes.{point_of, heard_in}
use Rattle.ring_route.proofs.Hearing.{heard_first, is_of}
use Rattle.ring_route.proofs.Pigeons.{entries_heard}

pub refill_same : (xs ws : List Known) → length ws ≡ length xs → refill (length xs) xs ws ≡ ws
refill_same [] [] e = refl
refill_same [] (w ∷ ws) e = absurd (omega arith)
refill_same (x ∷ xs) [] e = absurd (omega arith)
refill_same (x ∷ xs) (w ∷ ws) e = ap (λ (ys : List Known). w ∷ ys) (refill_same xs ws (omega arith))

pub pushed : (who : Who) (table : List (ℕ × ℕ)) (now point : ℕ) (known lent kept : List Known) (all : List Known) → lent ≡ known → kept ≡ lent → point ≡ point_of who.actor table → is_known who.actor lent ≡ false → all ≡ refill (length known) known kept ++ record { who = who; point = point; heard = now } ∷ [] → all ≡ heard_in who (point_of who.actor table) now known
pushed who table now point known lent kept all lent-is kept-is point-is new all-is =
    let same : kept ≡ known = kept-is ∙ lent-is in
    all-is
    ∙ ap (λ (xs : List Known). xs ++ record { who = who; point = point; heard = now } ∷ []) (refill_same known kept (ap length same) ∙ same)
    ∙ ap (λ (p : ℕ). known ++ record { who = who; point = p; heard = now } ∷ []) point-is
    ∙ sym (heard_first who (point_of who.actor table) now known (ap (list_any (is_of who.actor)) (sym lent-is) ∙ new))

pub changed : (who : Who) (table : List (ℕ × ℕ)) (now : ℕ) (known lent kept : List Known) → lent ≡ known → length kept ≡ length known → kept ≡ heard_in who (point_of who.actor table) now lent → refill (length known) known kept ≡ heard_in who (point_of who.actor table) now known
changed who table now known lent kept lent-is long heard =
    refill_same known kept long ∙ heard ∙ ap (heard_in who (point_of who.actor table) now) lent-is

pub heard_table : (who : Who) (table : List (ℕ × ℕ)) (now : ℕ) (known all : List Known) → is_node who.actor table ≡ true → IsTable table known → all ≡ heard_in who (point_of who.actor table) now known → IsTable table all
heard_table who table now known all there h e = record { few = h.few; entries = rw e (entries_heard table who now known there h.entries) }
