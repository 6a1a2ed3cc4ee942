-- Texts that are appended piece by piece.
use Rattle.std.proofs.Common.{◌≡◌, ℕ, ◌+◌, suc, List, ◌++◌, ap, sym, ◌∙◌, append_assoc, arith}
use Rattle.std.specs.Prelude.{codes, decimal}
use Rattle.std.specs.List.{flat_map}
use Rattle.fabric_terms.specs.declared.event.Event.TheVariants.{Tick}
use Rattle.line_format.specs.Lines.{event_text}
use Rattle.schedule_generate.specs.Settings.{node_behind, node_text, numbers_from}
use Rattle.schedule_generate.specs.Texts.{event_line, readings_text}
use Rattle.schedule_generate.proofs.Numbers.{node_more}
use Rattle.schedule_generate.proofs.Short.{tick_spelled}

pub five : (t t1 t2 t3 t4 w1 d w2 p w3 w4 : List ℕ) → t1 ≡ t ++ (w1 ++ d) → t2 ≡ t1 ++ w2 → t3 ≡ t2 ++ p → t4 ≡ t3 ++ (w3 ++ d) → t4 ++ w4 ≡ t ++ (w1 ++ (d ++ (w2 ++ (p ++ (w3 ++ (d ++ w4))))))
five t t1 t2 t3 t4 w1 d w2 p w3 w4 a b c e =
    ap (λ x. x ++ w4) (e ∙ ap (λ x. x ++ (w3 ++ d)) (c ∙ ap (λ x. x ++ p) (b ∙ ap (λ x. x ++ w2) a))) ∙ simp append_assoc

pub four : (t t1 t2 t3 w1 p q w2 : List ℕ) → t1 ≡ t ++ w1 → t2 ≡ t1 ++ p → t3 ≡ t2 ++ q → t3 ++ w2 ≡ t ++ (w1 ++ (p ++ (q ++ w2)))
four t t1 t2 t3 w1 p q w2 a b c = ap (λ x. x ++ w2) (c ∙ ap (λ x. x ++ q) (b ∙ ap (λ x. x ++ p) a)) ∙ simp append_assoc

pub one_node_more : (t l t1 t2 : List ℕ) (i : ℕ) → l ≡ t ++ flat_map node_behind (numbers_from 2 i) → t1 ≡ l ++ codes "," → t2 ≡ t1 ++ node_text (i + 2) → t2 ≡ t ++ flat_map node_behind (numbers_from 2 (i + 1))
one_node_more t l t1 t2 i before a b =
    let next : i + 1 ≡ suc i = omega arith in
    let f = flat_map node_behind (numbers_from 2 i) in
    b ∙ (ap (λ x. x ++ node_text (i + 2)) (a ∙ ap (λ x. x ++ codes ",") before)
    ∙ (append_assoc (t ++ f) (codes ",") (node_text (i + 2)) ∙ (append_assoc t f (node_behind (i + 2)) ∙ ap (λ x. t ++ x) (sym (node_more i (i + 1) next)))))

pub tick_joined : (t t1 t2 : List ℕ) (advance : ℕ) (rs : List (ℕ × ℕ)) → t1 ≡ t ++ (codes "tick " ++ decimal advance) → t2 ≡ t1 ++ readings_text rs → t2 ++ codes "\n" ≡ t ++ event_line (Tick advance rs)
tick_joined t t1 t2 advance rs a b =
    ap (λ x. x ++ codes "\n")
    (b ∙ (ap (λ x. x ++ readings_text rs) a ∙ (append_assoc t (codes "tick " ++ decimal advance) (readings_text rs)
    ∙ ap (λ x. t ++ x) (append_assoc (codes "tick ") (decimal advance) (readings_text rs) ∙ sym (tick_spelled advance rs)))))
    ∙ append_assoc t (event_text (Tick advance rs)) (codes "\n")
