-- Orders that lie in memory are read as they were kept.
use Rattle.std.proofs.Common.{◌≡◌, ℕ, zero, suc, ◌+◌, ◌-◌, ◌<◌, ◌≤◌, List, [], ◌∷◌, ◌++◌, length, map, drop, take, Some, arith, refl, ap, sym, ◌∙◌, length-append}
use Rattle.std.specs.Prelude.{slice_get, slice_index, slice_index_or, slice_range}
use Rattle.std.proofs.Math.Seq.{drop-append_seam}
use Rattle.std.proofs.lemmas.List.{drop-append-le, length-drop, take-append-le, take_all}
use Rattle.fabric_terms.specs.declared.command.Command.{Command}
use Rattle.line_format.specs.Commands.{command_of}
use Rattle.turn_rules.specs.Stored.{AreOrders, order_with, orders_in, with_order}
use Rattle.turn_rules.specs.declared.order.Order.{Order}
use Rattle.turn_rules.specs.declared.orders.OrderHead.{OrderHead}

-- words in front of others
range_in_front : (words more : List ℕ) (from end : ℕ) → from ≤ end → end ≤ length words → slice_range (words ++ more) from end ≡ slice_range words from end
range_in_front words more from end low high =
    let left : length (drop from words) ≡ length words - from = length-drop from words in
    ap (take (end - from)) (drop-append-le from words more (omega arith)) ∙ take-append-le (end - from) (drop from words) more (omega (arith, left))

-- words behind others
range_behind : (words text : List ℕ) (from end : ℕ) → from ≡ length words → end ≡ length words + length text → slice_range (words ++ text) from end ≡ text
range_behind words text from end e f =
    let n : end - from ≡ length text = omega arith in
    ap (λ i. take (end - from) (drop i (words ++ text))) e ∙ ap (take (end - from)) (drop-append_seam words text) ∙ take_all (end - from) text (omega arith)

pub ends_within : (from : ℕ) (hs : List OrderHead) (words : List ℕ) → AreOrders from hs words → from ≤ length words
ends_within from [] words are = let same : from ≡ length words = are in omega arith
ends_within from (h ∷ hs) words are =
    let low : from ≤ h.end = are.0.in_order in
    let high : h.end ≤ length words = ends_within h.end hs words are.1 in
    omega arith

pub count_is : (from : ℕ) (hs : List OrderHead) (words : List ℕ) → AreOrders from hs words → length (orders_in from hs words) ≡ length hs
count_is from [] words are = refl
count_is from (h ∷ hs) words are =
    ap (λ k. length (with_order h k (orders_in h.end hs words))) are.0.read ∙ ap suc (count_is h.end hs words are.1)

-- one order more, behind the others
pub record IsPushed (from : ℕ) (hs : List OrderHead) (words text : List ℕ) (h : OrderHead) (k : Command) : Type 0 where
  pub are : AreOrders from (hs ++ h ∷ []) (words ++ text)
  pub orders : orders_in from (hs ++ h ∷ []) (words ++ text) ≡ orders_in from hs words ++ order_with h k ∷ []

pub pushed : (from : ℕ) (hs : List OrderHead) (words text : List ℕ) (h : OrderHead) (k : Command) → AreOrders from hs words → command_of text ≡ Some k → h.end ≡ length words + length text → IsPushed from hs words text h k
pushed from [] words text h k are spelled end =
    let same : from ≡ length words = are in
    let read : command_of (slice_range (words ++ text) from h.end) ≡ Some k = ap command_of (range_behind words text from h.end same end) ∙ spelled in
    record {
      are = (record { in_order = omega arith; command = k; read = read }, end ∙ sym (length-append words text));
      orders = ap (λ c. with_order h c []) read;
    }
pushed from (g ∷ gs) words text h k are spelled end =
    let rest = pushed g.end gs words text h k are.1 spelled end in
    let read : command_of (slice_range (words ++ text) from g.end) ≡ Some are.0.command =
    ap command_of (range_in_front words text from g.end are.0.in_order (ends_within g.end gs words are.1)) ∙ are.0.read in
    record {
      are = (record { in_order = are.0.in_order; command = are.0.command; read = read }, rest.are);
      orders =
          ap (λ c. with_order g c (orders_in g.end (gs ++ h ∷ []) (words ++ text))) read
          ∙ (ap (λ os. order_with g are.0.command ∷ os) rest.orders ∙ sym (ap (λ c. with_order g c (orders_in g.end gs words) ++ order_with h k ∷ []) are.0.read));
    }

abbrev pub ends_of : List OrderHead → List ℕ
ends_of hs = map (λ h. h.end) hs

-- what lies at a place of the list: the head, and where its words are
pub record LiesAt (from : ℕ) (hs : List OrderHead) (words : List ℕ) (i : ℕ) : Type 0 where
  pub head : OrderHead
  pub command : Command
  pub here : slice_get hs i ≡ Some head
  pub is : slice_get (orders_in from hs words) i ≡ Some (order_with head command)
  pub in_order : slice_index (from ∷ ends_of hs) i ≤ slice_index (ends_of hs) i
  pub within : slice_index (ends_of hs) i ≤ length words
  pub read : command_of (slice_range words (slice_index (from ∷ ends_of hs) i) (slice_index (ends_of hs) i)) ≡ Some command

pub lies_at : (from : ℕ) (hs : List OrderHead) (words : List ℕ) (i : ℕ) → AreOrders from hs words → i < length hs → LiesAt from hs words i
lies_at from [] words i are low = absurd (omega arith)
lies_at from (g ∷ gs) words zero are low = record {
  head = g;
  command = are.0.command;
  here = refl;
  is = ap (λ c. slice_get (with_order g c (orders_in g.end gs words)) 0) are.0.read;
  in_order = are.0.in_order;
  within = ends_within g.end gs words are.1;
  read = are.0.read;
}
lies_at from (g ∷ gs) words (suc i) are low =
    let t = lies_at g.end gs words i are.1 (omega arith) in
    record {
      head = t.head;
      command = t.command;
      here = t.here;
      is = ap (λ c. slice_get (with_order g c (orders_in g.end gs words)) (suc i)) are.0.read ∙ t.is;
      in_order = t.in_order;
      within = t.within;
      read = t.read;
    }

-- where the words of the head at a place end
pub end_here : (hs : List OrderHead) (i : ℕ) (h : OrderHead) → i < length hs → h ≡ slice_index_or hs i h → h.end ≡ slice_index (ends_of hs) i
end_here [] i h low is = absurd (omega arith)
end_here (g ∷ gs) zero h low is = ap (λ (x : OrderHead). x.end) is
end_here (g ∷ gs) (suc i) h low is = end_here gs i h (omega arith) is

-- the order of the head at a place
pub order_here : (from : ℕ) (hs : List OrderHead) (words : List ℕ) (i : ℕ) (h : OrderHead) → AreOrders from hs words → i < length hs → h ≡ slice_index_or hs i h
    → (o : Order) × (slice_get (orders_in from hs words) i ≡ Some o) × (h.turn ≡ o.turn) × (h.place ≡ o.place)
order_here from [] words i h are low is = absurd (omega arith)
order_here from (g ∷ gs) words zero h are low is =
    (order_with g are.0.command, ap (λ c. slice_get (with_order g c (orders_in g.end gs words)) 0) are.0.read, ap (λ (x : OrderHead). x.turn) is, ap (λ (x : OrderHead). x.place) is)
order_here from (g ∷ gs) words (suc i) h are low is =
    let t = order_here g.end gs words i h are.1 (omega arith) is in
    (t.0, ap (λ c. slice_get (with_order g c (orders_in g.end gs words)) (suc i)) are.0.read ∙ t.1, t.2, t.3)

-- there are as many heads as orders
pub low_in : (heads : List OrderHead) (words : List ℕ) (os : List Order) (i : ℕ) → AreOrders 0 heads words → orders_in 0 heads words ≡ os → i < length os → i < length heads
low_in heads words os i are view low =
    let count : length (orders_in 0 heads words) ≡ length heads = count_is 0 heads words are in
    let same : length (orders_in 0 heads words) ≡ length os = ap length view in
    omega arith
